-- The statistics of one more created table.
use Rattle.std.proofs.Common.{◌≡◌, ◌+◌, ◌++◌, append_assoc, ℕ, false, List, [], ◌∷◌, length}
use Rattle.lake_types.specs.declared.value.Column.{Column}
use Rattle.lake_model.specs.Growth.{made_tables}
use Rattle.lake_model.specs.Kinds.{drops_table}
use Rattle.lake_model.specs.declared.change.Change.{Change}
use Rattle.lake_model.specs.declared.change.Change.TheVariants as change
use Rattle.lake_model.specs.declared.change.Ref.{Ref}
use Rattle.lake_model.specs.declared.change.Ref.TheVariants as ref
use Rattle.cat_rows.specs.declared.batch.CatRow.{CatRow}
use Rattle.cat_rows.specs.declared.batch.CatRow.TheVariants as row
use Rattle.cat_rows.specs.declared.files.TableStatsRow.{TableStatsRow}
use Rattle.cat_view.specs.Staged.{NamedStagedTable}
use Rattle.rebase.specs.Stats.{made_adds, made_row}
use Rattle.rebase.specs.declared.made.Place.{Place}

pub one_made : (p : Place) (staged : List NamedStagedTable) (tables n field : ℕ) (schema : Ref) (name : List ℕ) (columns : List Column) (first : Change) (rest : List Change)
    (old new : List CatRow) (stats : TableStatsRow)
    → first ≡ change.CreateTable schema name columns → drops_table rest (ref.New tables) ≡ false → stats ≡ made_row p staged (ref.New tables) field → field ≡ length columns + 1
    → new ≡ old ++ row.TableStats stats ∷ [] → n ≡ tables + 1 → new ++ made_adds p staged (made_tables n rest) ≡ old ++ made_adds p staged (made_tables tables (first ∷ rest))
one_made p staged tables n field schema name columns first rest old new stats is stays stats_is field_is more next =
    rw (is, more, stats_is, field_is, next, stays) (append_assoc old (row.TableStats (made_row p staged (ref.New tables) (length columns + 1)) ∷ []) (made_adds p staged (made_tables (tables + 1) rest)))
