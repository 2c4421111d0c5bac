-- The counters of a commit's snapshot are past all that is new.
use Rattle.std.proofs.Common.{◌≡◌, inl, inr, ⊎_elim, ℕ, ◌+◌, ◌<◌, ◌≤◌, Bool, true, false, ◌||◌, List, [], ◌∷◌, map, length, sym, ap, ap₂, ◌∙◌, subst, arith, true≢false}
use Rattle.std.specs.List.{AllByRecursion}
use Rattle.std.proofs.lemmas.Bool.{le-ltb, lt-leb}
use Rattle.lake_types.specs.declared.kind.SchemaName.{SchemaName}
use Rattle.lake_model.specs.Apply.{Draft, SchemaDraft}
use Rattle.lake_model.specs.Creations.{made_schemas}
use Rattle.lake_model.specs.Laws.{HasCatalogIds, schema_ids, table_ids}
use Rattle.lake_model.specs.State.{Table}
use Rattle.lake_model.proofs.CatalogLemmas.{catalog_ids_rise}
use Rattle.lake_model.proofs.GrowthLemmas.{grows_by_table}
use Rattle.lake_model.proofs.RiseLemmas.{all-below}
use Rattle.lake_rebase.proofs.MemberLemmas.{In, all_by, all_in, in_map, in_of, of_in}
use Rattle.cat_tables.proofs.KeyLemmas.{key_eq}
use Rattle.cat_rows.specs.Keys.{table_key}
use Rattle.cat_rows.specs.declared.batch.Key.{Key}
use Rattle.cat_rows.specs.declared.files.DataFileRow.{DataFileRow}
use Rattle.cat_rows.specs.declared.files.FileColumnStatsRow.{FileColumnStatsRow}
use Rattle.cat_rows.specs.declared.files.TableStatsRow.{TableStatsRow}
use Rattle.cat_rows.specs.declared.schemas.ColumnRow.{ColumnRow}
use Rattle.cat_rows.specs.declared.schemas.SchemaRow.{SchemaRow}
use Rattle.cat_rows.specs.declared.schemas.TableRow.{TableRow}
use Rattle.cat_rules.specs.CounterRule.{IsPastCounters, has_large_id, is_not_past}
use Rattle.cat_rules.specs.EachKept.{SeesTable}
use Rattle.cat_rules.specs.First.{Holds}
use Rattle.cat_rules.specs.Places.{of_column, of_column_stats, of_data_file, of_schema, of_table, of_table_stats}
use Rattle.cat_rules.specs.Rows.{NamesIf}
use Rattle.cat_rules.specs.TableStatsRule.{last_id}
use Rattle.cat_rules.proofs.FirstLemmas.{all_like}
use Rattle.cat_texts.specs.Written.{stats_row}
use Rattle.commit_rules.specs.Lawful.{AreCounted, new_rows}
use Rattle.commit_rules.proofs.HistoryLemmas.{first_number, holds-all}
use Rattle.commit_rules.proofs.NextLemmas.{row_some}
use Rattle.rebase.specs.Parts.{FreshFile, schema_row, stats_rows_from}
use Rattle.commit_laws.specs.Commits.{endings_of}
use Rattle.commit_laws.proofs.AfterLemmas.{restated_low, row_of_made, stats_cases}
use Rattle.commit_laws.proofs.CaseLemmas.{Case, fresh, head, new, newest, next, number, parts, seen}
use Rattle.commit_laws.proofs.ColumnLemmas.{id_of, made, new_column, table_is, tables_new}
use Rattle.commit_laws.proofs.FileLemmas.{has_table, head_ids}
use Rattle.commit_laws.proofs.ListLemmas.{all_append, all_mapped, all_of, all_unmapped, found, next_new}
use Rattle.commit_laws.proofs.MadeLemmas.{limit, schema_ids_low, table_ids_low}
use Rattle.commit_laws.proofs.RowLemmas.{file_ids_below, file_ids_from}
use Rattle.commit_laws.proofs.SeenLemmas.{grown_head, same_next, table_there, then, tidy}

-- ids below a counter aren't past it
low_fine : {R : Type 0} (name : R → Key) (bad : R → Bool) (rows : List R) → AllByRecursion (λ r. bad r ≡ false) rows → (j : Key) → NamesIf name bad rows j → ⊥
low_fine name bad rows h j = holds-all name (λ r. bad r ≡ true) rows (all_like (λ r. bad r ≡ false) (λ r. bad r ≡ true → ⊥) (λ r fine e. true≢false (sym e ∙ fine)) rows h) j

-- statistics of columns are of the files' ids
stats-ids : (low id : ℕ) (xs : List FreshFile) → id + length xs ≤ low → AllByRecursion (λ (r : FileColumnStatsRow). r.data_file_id < low) (stats_rows_from id xs)
stats-ids low id [] le = tt
stats-ids low id (x ∷ xs) le =
    all_append (λ (r : FileColumnStatsRow). r.data_file_id < low) (map (stats_row id) x.file.stats) (stats_rows_from (id + 1) xs)
    (all_mapped (λ (r : FileColumnStatsRow). r.data_file_id < low) (stats_row id) x.file.stats (all_of _ (λ s. omega (arith, le)) x.file.stats)) (stats-ids low (id + 1) xs (omega (arith, le)))

module _ (k : Case) where
  abbrev end : ℕ
  end = limit (next k) k.own

  abbrev file_end : ℕ
  file_end = k.c.sound.newest.next_file_id + length (fresh k)

  ids_then : HasCatalogIds (grown_head k)
  ids_then = subst HasCatalogIds (grows_by_table (head k) k.own k.c.free.grows) (catalog_ids_rise (head k) k.own (head_ids k).catalog)

  end_is : (grown_head k).next_catalog ≡ end
  end_is = ap (λ n. n + length (new k)) (same_next k)

  schema_below : (x : SchemaName) → In x (grown_head k).schemas → x.id < end
  schema_below x there =
      let low = all_in (λ (y : SchemaName). y.id < (grown_head k).next_catalog) x (grown_head k).schemas (all_unmapped (λ n. n < (grown_head k).next_catalog) (λ (y : SchemaName). y.id) (grown_head k).schemas (all-below (grown_head k).next_catalog (schema_ids (grown_head k)) ids_then.schemas)) there in
      let is = end_is in omega (arith, low, is)

  table_below : (x : Table) → In x (grown_head k).tables → x.id < end
  table_below x there =
      let low = all_in (λ (y : Table). y.id < (grown_head k).next_catalog) x (grown_head k).tables (all_unmapped (λ n. n < (grown_head k).next_catalog) (λ (y : Table). y.id) (grown_head k).tables (all-below (grown_head k).next_catalog (table_ids (grown_head k)) ids_then.tables)) there in
      let is = end_is in omega (arith, low, is)

  -- ---- by sort

  schemas_fine : AllByRecursion (λ (r : SchemaRow). is_not_past end r.schema_id ≡ false) (parts k).schema
  schemas_fine =
      all_mapped (λ (r : SchemaRow). is_not_past end r.schema_id ≡ false) (schema_row (number k + 1) (next k) (new k)) (made_schemas 0 k.own)
      (all_like _ _ (λ (d : SchemaDraft) low. lt-leb end _ low) (made_schemas 0 k.own) (schema_ids_low (next k) k.own))

  made_low : (d : Draft) → In d (made k) → id_of k d < end
  made_low d there = all_in (λ (e : Draft). id_of k e < end) d (made k) (table_ids_low (next k) k.own) there

  tables_fine : AllByRecursion (λ (r : TableRow). (is_not_past end r.table_id || is_not_past end r.schema_id) ≡ false) (parts k).table
  tables_fine = all_by _ (parts k).table (λ (r : TableRow) there.
      let m = in_map (row_of_made k) r (made k) there in
      let id : id_of k m.of ≡ r.table_id = ap (λ (x : TableRow). x.table_id) m.is in
      let low = made_low m.of m.there in
      let x = table_there k r (next_new (endings_of k.own).table (seen k).table (parts k).table r there) in
      let home = (tidy k).homes x.table (of_in x.table (grown_head k).tables x.there) in
      let schema_low = schema_below home.0 (in_of home.0 (grown_head k).schemas home.1) in
      let a = home.2 in let b = x.schema in
      ap₂ ◌||◌ (lt-leb end r.table_id (omega (arith, id, low))) (lt-leb end r.schema_id (omega (arith, schema_low, a, b))))

  columns_fine : AllByRecursion (λ (r : ColumnRow). is_not_past end r.table_id ≡ false) (parts k).column
  columns_fine = all_by _ (parts k).column (λ (r : ColumnRow) there. let m = new_column k r there in let id = table_is k r m in let low = made_low m.item m.there in lt-leb end r.table_id (omega (arith, id, low)))

  seen_below : (id : ℕ) → SeesTable (then k) id → id < end
  seen_below id sees =
      let q = found (λ (r : TableRow). _ ≡ true) (then k).table (row_some table_key (id ∷ []) (then k).table sees) in
      let same : q.item.table_id ≡ id = first_number (key_eq (table_key q.item) (id ∷ []) q.is) in
      let x = table_there k q.item q.there in let low = table_below x.table x.there in let is = x.id in
      omega (arith, same, low, is)

  files_fine : AllByRecursion (λ (r : DataFileRow). (is_not_past file_end r.data_file_id || is_not_past end r.table_id) ≡ false) (parts k).data_file
  files_fine = all_by _ (parts k).data_file (λ (r : DataFileRow) there.
      let low = all_in (λ (x : DataFileRow). x.data_file_id < file_end) r (parts k).data_file (file_ids_below k.t (number k + 1) (next k) (new k) k.c.sound.newest.next_file_id (fresh k)) there in
      ap₂ ◌||◌ (lt-leb file_end r.data_file_id low) (lt-leb end r.table_id (seen_below r.table_id (has_table k r (next_new (endings_of k.own).data_file (seen k).data_file (parts k).data_file r there)))))

  stats_fine : AllByRecursion (λ (r : TableStatsRow). is_not_past end r.table_id ≡ false) (parts k).table_stats
  stats_fine = all_by _ (parts k).table_stats (λ (r : TableStatsRow) there.
      ⊎_elim (λ old. let low = restated_low k r old in lt-leb end r.table_id (omega (arith, low)))
      (λ m. let id : id_of k m.of ≡ r.table_id = ap (λ (x : TableStatsRow). x.table_id) m.is in let low = made_low m.of m.there in lt-leb end r.table_id (omega (arith, id, low))) (stats_cases k r there))

  column_stats_fine : AllByRecursion (λ (r : FileColumnStatsRow). is_not_past file_end r.data_file_id ≡ false) (parts k).file_column_stats
  column_stats_fine = all_like (λ (r : FileColumnStatsRow). r.data_file_id < file_end) (λ (r : FileColumnStatsRow). is_not_past file_end r.data_file_id ≡ false) (λ r low. lt-leb file_end r.data_file_id low) (parts k).file_column_stats (stats-ids file_end k.c.sound.newest.next_file_id (fresh k) (omega arith))

  not_large : has_large_id (parts k).snapshot ≡ false
  not_large = let a = k.c.room.catalog in let b = k.c.room.file in ap₂ ◌||◌ (le-ltb last_id end (omega (arith, a))) (le-ltb last_id file_end (omega (arith, b)))

  past : Holds (IsPastCounters (new_rows (parts k)) (parts k).snapshot)
  past j (inl bad) = true≢false (sym bad.0 ∙ not_large)
  past j (inr (inl bad)) = low_fine of_schema _ (parts k).schema schemas_fine j bad
  past j (inr (inr (inl bad))) = low_fine of_table _ (parts k).table tables_fine j bad
  past j (inr (inr (inr (inl bad)))) = low_fine of_column _ (parts k).column columns_fine j bad
  past j (inr (inr (inr (inr (inl bad))))) = low_fine of_data_file _ (parts k).data_file files_fine j bad
  past j (inr (inr (inr (inr (inr (inl bad)))))) = bad
  past j (inr (inr (inr (inr (inr (inr (inl bad))))))) = low_fine of_column_stats _ (parts k).file_column_stats column_stats_fine j bad
  past j (inr (inr (inr (inr (inr (inr (inr (inl bad)))))))) = low_fine of_table_stats _ (parts k).table_stats stats_fine j bad
  past j (inr (inr (inr (inr (inr (inr (inr (inr bad)))))))) = bad

  pub counted_then : AreCounted (newest k) (parts k)
  counted_then = record {
    catalog = omega arith;
    file = omega arith;
    past = past;
    tables = tables_new k;
    data_files = file_ids_from k.t (number k + 1) (next k) (new k) k.c.sound.newest.next_file_id k.c.sound.newest.next_file_id (fresh k) (omega arith);
  }
