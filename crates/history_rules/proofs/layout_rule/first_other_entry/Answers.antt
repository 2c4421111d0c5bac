use Rattle.std.proofs.Common.{Option, Some, None, ap, sym, ◌∙◌, subst}
use Rattle.std.specs.Option.{option_copied}
use Rattle.cat_rows.specs.declared.batch.Key.{Key}
use Rattle.cat_rows.specs.declared.batch.Key.TheVariants as key
use Rattle.cat_rules.specs.First.{FirstBad}
use Rattle.cat_rules.specs.LayoutRule.{is_other_entry}
use Rattle.cat_rules.specs.Places.{of_metadata}
use Rattle.cat_rules.specs.Rows.{NamesIf}
use Rattle.history_rules.proofs.LayoutLemmas.{first_entry}
use Rattle.history_rules.proofs.layout_rule.first_other_entry.Goals as goal

pub returns-in_ok-copy-in-Some : goal.returns-in_ok-copy-in-Some
returns-in_ok-copy-in-Some c =
    let T : Option Key → Type 0 = FirstBad (NamesIf of_metadata is_other_entry c.args.rows.now) in
    subst T (ap (λ a. Some (key.Metadata a)) (sym c.in_ok-copy-in-Some.ensures))
    (first_entry c.args.rows.now (Some c.in-Some.row.now) c.requires (sym (ap option_copied c.in-Some.is) ∙ c.other_entry.ensures))

pub returns-in-None : goal.returns-in-None
returns-in-None c = first_entry c.args.rows.now None c.requires (sym (ap option_copied c.in-None.is) ∙ c.other_entry.ensures)
