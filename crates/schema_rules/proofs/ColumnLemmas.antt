-- Of columns that lie within the kept snapshots the intervals tell which are seen with their table.
use Rattle.std.proofs.Common.{◌≡◌, refl, true, Option}
use Rattle.cat_rules.specs.EachKept.{AtKept}
use Rattle.cat_rules.specs.Kept.{AtSome}
use Rattle.cat_rules.specs.Sight.{SeesWith}
use Rattle.cat_rows.specs.declared.schemas.ColumnRow.{ColumnRow}
use Rattle.cat_rules.proofs.SeenLemmas.{at_like, from_at, first_with}
use Rattle.cat_tables.specs.Table.{RisesByKey}
use Rattle.cat_rows.specs.Keys.{snapshot_key, table_key}
use Rattle.cat_rows.specs.Tables.{Tables}
use Rattle.cat_rows.specs.Validities.{column_validity}
use Rattle.cat_rows.specs.declared.batch.Key.{Key}
use Rattle.cat_rules.specs.First.{FirstBad, Holds}
use Rattle.cat_rules.specs.HistoryRule.{IsSnapshotBad}
use Rattle.cat_rules.specs.IntervalRule.{IsIntervalBad}
use Rattle.cat_rules.specs.Places.{of_column}
use Rattle.cat_rules.specs.Rows.{Names}
use Rattle.cat_rules.proofs.DatedLemmas.{dated_columns}
use Rattle.cat_rules.proofs.FirstLemmas.{first_like, some_in}
use Rattle.cat_rules.proofs.SightLemmas.{IsDated}
use Rattle.cat_rules.specs.ColumnRule.{IsColumnBad, IsColumnWrong}
use Rattle.cat_rules.specs.Meeting.{meets_table}
use Rattle.cat_rules.specs.Lookups.{table_of}
use Rattle.cat_rules.proofs.MeetLemmas.{seen_decides}

module _ (t : Tables) (up : RisesByKey snapshot_key t.snapshot) (rise : RisesByKey table_key t.table) (history : Holds (IsSnapshotBad t)) (intervals : Holds (IsIntervalBad t)) where
  abbrev FoundWrong : ColumnRow → Type 0
  FoundWrong c = AtSome t (λ s. SeesWith column_validity (table_of t c.table_id) c s × IsColumnWrong t c)

  abbrev MeetsWrong : ColumnRow → Type 0
  MeetsWrong c = (meets_table column_validity c (table_of t c.table_id) ≡ true) × IsColumnWrong t c

  wrong_found : (c : ColumnRow) → IsDated t column_validity c → MeetsWrong c → FoundWrong c
  wrong_found c d x =
      at_like t (SeesWith column_validity (table_of t c.table_id) c) (λ s. SeesWith column_validity (table_of t c.table_id) c s × IsColumnWrong t c) (λ s sees. (sees, x.1)) ((seen_decides t up history intervals column_validity c c.table_id d).0 x.0)

  found_wrong : (c : ColumnRow) → IsDated t column_validity c → FoundWrong c → MeetsWrong c
  found_wrong c d x = (
    (seen_decides t up history intervals column_validity c c.table_id d).1 (at_like t (λ s. SeesWith column_validity (table_of t c.table_id) c s × IsColumnWrong t c) (SeesWith column_validity (table_of t c.table_id) c) (λ s y. y.0) x),
    from_at t (λ s. SeesWith column_validity (table_of t c.table_id) c s × IsColumnWrong t c) (IsColumnWrong t c) (λ s y. y.1) x,
  )

  pub first_column : (o : Option Key) → FirstBad (Names of_column (λ c. (meets_table column_validity c (table_of t c.table_id) ≡ true) × IsColumnWrong t c) t.column) o → FirstBad (AtKept (IsColumnBad t) t) o
  first_column o h =
      first_with t rise column_validity of_column (λ c. c.table_id) (λ s c. IsColumnWrong t c) (λ s c y. y) (λ s c y. y) (λ c. refl) (λ c. refl) t.column o
      (first_like (Names of_column MeetsWrong t.column) (Names of_column FoundWrong t.column)
      (λ k p. some_in (IsDated t column_validity) _ _ t.column (dated_columns t intervals) (λ c d x. (wrong_found c d x.0, x.1)) p)
      (λ k p. some_in (IsDated t column_validity) _ _ t.column (dated_columns t intervals) (λ c d x. (found_wrong c d x.0, x.1)) p)
      o h)
