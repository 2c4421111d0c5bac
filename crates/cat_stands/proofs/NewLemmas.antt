-- The content of snapshot 0: it breaks no rule, and it stands for the new lake.
use Rattle.std.specs.Prelude.{codes}
use Rattle.std.proofs.Common.{◌≡◌, ◌<◌, ◌⊎◌, inl, ⊎_elim, ℤ, [], ◌∷◌, None, refl, sym, subst, true≢false, Less, Equal, arith}
use Rattle.std.proofs.lemmas.Option.{same_Some}
use Rattle.cat_rows.specs.declared.batch.Key.{Key}
use Rattle.cat_rows.specs.declared.history.SnapshotRow.{SnapshotRow}
use Rattle.cat_rules.specs.ColumnRule.{AreColumnsBad}
use Rattle.cat_rules.specs.ColumnStatsRule.{IsColumnStatsBad}
use Rattle.cat_rules.specs.CounterRule.{IsIdBad, IsPastCounters}
use Rattle.cat_rules.specs.DataFileRule.{IsDataFileBad}
use Rattle.cat_rules.specs.DeleteFileRule.{IsDeleteFileBad}
use Rattle.cat_rules.specs.First.{Holds}
use Rattle.cat_rules.specs.HistoryRule.{IsHistoryBad, IsSnapshotBad, IsTextBad}
use Rattle.cat_rules.specs.InlinedRule.{AreInlinedBad}
use Rattle.cat_rules.specs.IntervalRule.{IsIntervalBad}
use Rattle.cat_rules.specs.LayoutRule.{IsLayoutBad}
use Rattle.cat_rules.specs.Sane.{IsFirstBadRow}
use Rattle.cat_rules.specs.SchemaRule.{IsSchemaNameBad}
use Rattle.cat_rules.specs.TableRule.{IsTableBad}
use Rattle.cat_rules.specs.TableStatsRule.{IsStatsBad}
use Rattle.lake_model.specs.Core.{first_version}
use Rattle.lake_model.specs.State.{empty_state}
use Rattle.cat_stands.specs.LakeFacts.{HasIds}
use Rattle.cat_stands.specs.Laws.{EmptyStands, NewLakeStands}
use Rattle.cat_stands.specs.New.{new_tables}

none : {A B : Type 0} → (A → ⊥) → (B → ⊥) → A ⊎ B → ⊥
none f g h = ⊎_elim f g h

no : ⊥ → ⊥
no e = e

less≢equal : Equal ≡ Less → ⊥
less≢equal e = cc

module _ (time : ℤ) where
  layout : Holds (IsLayoutBad (new_tables time))
  layout k = none (none (λ h. true≢false (sym h.0)) no) (λ h. true≢false h.0)

  snapshots : Holds (IsSnapshotBad (new_tables time))
  snapshots k =
      none (λ m. none (λ (a : 0 < m.0). none (λ (b : m.0 < 0). omega arith) no m.3) no m.2)
      (none (none (λ h. true≢false (sym h.0)) no) (none (λ h. true≢false (sym h.0)) no))

  texts : Holds (IsTextBad (new_tables time))
  texts k = none (λ h. let a : 0 < 0 = h.0.0 in omega arith) no

  history : Holds (IsHistoryBad (new_tables time))
  history k = none (snapshots k) (texts k)

  intervals : Holds (IsIntervalBad (new_tables time))
  intervals k = none (none (λ h. true≢false (sym h.0)) no) (none no (none no (none no (none no no))))

  schema_names : Holds (IsSchemaNameBad (new_tables time))
  schema_names k = none (none (λ h. none (λ q. less≢equal q.0) no h.0) no) no

  tables : Holds (IsTableBad (new_tables time))
  tables k = none (none no no) no

  columns : Holds (AreColumnsBad (new_tables time))
  columns k = none (none no (none (none no (none no no)) no)) no

  data_files : Holds (IsDataFileBad (new_tables time))
  data_files k = none (none (none no no) no) (none no (none no no))

  delete_files : Holds (IsDeleteFileBad (new_tables time))
  delete_files k = none (none (none no no) no) (none no no)

  column_stats : Holds (IsColumnStatsBad (new_tables time))
  column_stats k = no

  inlined : Holds (AreInlinedBad (new_tables time))
  inlined k = none (none no no) no

  stats : Holds (IsStatsBad (new_tables time))
  stats k = none no no

  abbrev pub first : SnapshotRow
  first = record { snapshot_id = 0; snapshot_time = time; next_catalog_id = 1; next_file_id = 0 }

  past : (k : Key) → IsPastCounters (new_tables time) first k → ⊥
  past k =
      none (λ h. true≢false (sym h.0))
      (none (none (λ h. true≢false (sym h.0)) no) (none no (none no (none no (none no (none no (none no no)))))))

  ids : Holds (IsIdBad (new_tables time))
  ids k h = past k (subst (λ (n : SnapshotRow). IsPastCounters (new_tables time) n k) (sym (same_Some _ _ h.1)) h.2)

  sane : IsFirstBadRow (new_tables time) None
  sane = (layout, (history, (intervals, (schema_names, (tables, (columns, (data_files, (delete_files, (column_stats, (inlined, (stats, (ids, tt))))))))))))

empty_ids : HasIds empty_state
empty_ids = record { catalog = record { schemas = (omega arith, tt, tt); tables = tt; apart = (tt, tt) }; rows = tt; fields = tt }

pub empty-stands : EmptyStands
empty-stands files = inl (record { rows = refl; first_is = refl; versions_are = refl })

pub new_lake-stands : NewLakeStands
new_lake-stands files time = record {
  rules = sane time;
  newest = record { snapshot_id = 0; snapshot_time = time; next_catalog_id = 1; next_file_id = 0 };
  before = [];
  snapshots = refl;
  older = [];
  head = first_version;
  versions_are = refl;
  numbers = refl;
  texts = refl;
  plain = (record { version = record { schemas = record { id = 0; name = codes "main" } ∷ []; tables = [] }; sees = record { schemas = refl; tables = tt }; same = refl }, tt);
  counters = record { next_catalog = refl; tables = tt };
  counted = tt;
  ids = (empty_ids, tt);
  kinds = (refl, tt);
  data_files = tt;
  delete_files = tt;
  inlined = tt;
}
