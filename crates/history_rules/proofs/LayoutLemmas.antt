-- Entries rise by their names, so the first bad one of them is the first by place.
use Rattle.std.proofs.Common.{◌≡◌, true, List, Option, ap, subst, sym, is_lt}
use Rattle.std.specs.Option.{option_map}
use Rattle.std.specs.Prelude.{find}
use Rattle.cat_tables.specs.Table.{IsBelow, RisesByKey}
use Rattle.cat_rows.specs.Keys.{metadata_key}
use Rattle.cat_rows.specs.declared.history.MetadataRow.{MetadataRow}
use Rattle.cat_rules.specs.First.{FirstBad}
use Rattle.cat_rules.specs.LayoutRule.{is_other_entry}
use Rattle.cat_rules.specs.Places.{is_sooner, of_metadata}
use Rattle.cat_rules.specs.Rows.{NamesIf}
use Rattle.cat_rules.proofs.FirstLemmas.{first_found, ascends_like}

pub first_entry : (rows : List MetadataRow) (o : Option MetadataRow) → RisesByKey metadata_key rows → o ≡ find is_other_entry rows → FirstBad (NamesIf of_metadata is_other_entry rows) (option_map of_metadata o)
first_entry rows o up e =
    let T : Option MetadataRow → Type 0 = λ p. FirstBad (NamesIf of_metadata is_other_entry rows) (option_map of_metadata p) in
    subst T (sym e) (first_found of_metadata is_other_entry rows (ascends_like (IsBelow metadata_key) (λ a b. is_sooner (of_metadata a) (of_metadata b) ≡ true) (λ a b h. ap is_lt h) rows up))
