-- The tables after a batch made of parts, and what its snapshot sees of them.
use Rattle.std.proofs.Common.{◌≡◌, ℕ, ◌+◌, Bool, not, List, [], ◌∷◌, ◌++◌, map, filter, refl, ap, ◌∙◌}
use Rattle.std.specs.Prelude.{fold}
use Rattle.cat_tables.specs.Table.{put, put_all, all_removed}
use Rattle.cat_tables.specs.Validity.{IsValidity, Validity, all_ended, ends_at, visible_at}
use Rattle.cat_tables.proofs.SightLemmas.{sees-now}
use Rattle.cat_rows.specs.Keys.{snapshot_key, snapshot_changes_key, schema_key, table_key, column_key, data_file_key, delete_file_key, file_column_stats_key, table_stats_key, inlined_row_key}
use Rattle.cat_rows.specs.Validities.{schema_validity, table_validity, column_validity, data_file_validity, delete_file_validity, inlined_row_validity, schema_laws, table_laws, column_laws, data_file_laws, delete_file_laws, inlined_row_laws}
use Rattle.cat_rows.specs.Batches.{added, removed, ended}
use Rattle.cat_rows.specs.Parts.{AppliesParts, ArePartsOf, Endings, IsPart, IsSettled, Parts, SeesParts, batch_of, seen_next, with_parts}
use Rattle.cat_rows.specs.Seen.{seen_at}
use Rattle.cat_rows.specs.Tables.{Tables}
use Rattle.cat_rows.specs.declared.schemas.SchemaRow.{SchemaRow}
use Rattle.cat_rows.specs.declared.schemas.TableRow.{TableRow}
use Rattle.cat_rows.specs.declared.schemas.ColumnRow.{ColumnRow}
use Rattle.cat_rows.specs.declared.files.DataFileRow.{DataFileRow}
use Rattle.cat_rows.specs.declared.files.DeleteFileRow.{DeleteFileRow}
use Rattle.cat_rows.specs.declared.files.FileColumnStatsRow.{FileColumnStatsRow}
use Rattle.cat_rows.specs.declared.files.TableStatsRow.{TableStatsRow}
use Rattle.cat_rows.specs.declared.inlined.InlinedRow.{InlinedRow}
use Rattle.cat_rows.specs.declared.batch.CatRow.{CatRow}
use Rattle.cat_rows.specs.declared.batch.CatRow.TheVariants as row
use Rattle.cat_rows.specs.declared.batch.Key.{Key}
use Rattle.cat_rows.specs.declared.batch.Key.TheVariants as key

-- the rows of one table, before others
adds-schema : (rs : List SchemaRow) (more : List CatRow) (t : Tables) → fold added t (map (λ r. row.Schema r) rs ++ more) ≡ fold added (record t { schema = put_all schema_key rs t.schema }) more
adds-schema [] more t = refl
adds-schema (r ∷ rs) more t = adds-schema rs more (added t (row.Schema r))

adds-table : (rs : List TableRow) (more : List CatRow) (t : Tables) → fold added t (map (λ r. row.Table r) rs ++ more) ≡ fold added (record t { table = put_all table_key rs t.table }) more
adds-table [] more t = refl
adds-table (r ∷ rs) more t = adds-table rs more (added t (row.Table r))

adds-column : (rs : List ColumnRow) (more : List CatRow) (t : Tables) → fold added t (map (λ r. row.Column r) rs ++ more) ≡ fold added (record t { column = put_all column_key rs t.column }) more
adds-column [] more t = refl
adds-column (r ∷ rs) more t = adds-column rs more (added t (row.Column r))

adds-data_file : (rs : List DataFileRow) (more : List CatRow) (t : Tables) → fold added t (map (λ r. row.DataFile r) rs ++ more) ≡ fold added (record t { data_file = put_all data_file_key rs t.data_file }) more
adds-data_file [] more t = refl
adds-data_file (r ∷ rs) more t = adds-data_file rs more (added t (row.DataFile r))

adds-delete_file : (rs : List DeleteFileRow) (more : List CatRow) (t : Tables) → fold added t (map (λ r. row.DeleteFile r) rs ++ more) ≡ fold added (record t { delete_file = put_all delete_file_key rs t.delete_file }) more
adds-delete_file [] more t = refl
adds-delete_file (r ∷ rs) more t = adds-delete_file rs more (added t (row.DeleteFile r))

adds-file_column_stats : (rs : List FileColumnStatsRow) (more : List CatRow) (t : Tables) → fold added t (map (λ r. row.FileColumnStats r) rs ++ more) ≡ fold added (record t { file_column_stats = put_all file_column_stats_key rs t.file_column_stats }) more
adds-file_column_stats [] more t = refl
adds-file_column_stats (r ∷ rs) more t = adds-file_column_stats rs more (added t (row.FileColumnStats r))

adds-table_stats : (rs : List TableStatsRow) (more : List CatRow) (t : Tables) → fold added t (map (λ r. row.TableStats r) rs ++ more) ≡ fold added (record t { table_stats = put_all table_stats_key rs t.table_stats }) more
adds-table_stats [] more t = refl
adds-table_stats (r ∷ rs) more t = adds-table_stats rs more (added t (row.TableStats r))

adds-inlined_row : (rs : List InlinedRow) (more : List CatRow) (t : Tables) → fold added t (map (λ r. row.Inlined r) rs ++ more) ≡ fold added (record t { inlined_row = put_all inlined_row_key rs t.inlined_row }) more
adds-inlined_row [] more t = refl
adds-inlined_row (r ∷ rs) more t = adds-inlined_row rs more (added t (row.Inlined r))

ends-schema : (m : ℕ) (rs : List SchemaRow) (more : List (Key × ℕ)) (t : Tables) → fold ended t (map (λ (r : SchemaRow). (key.Schema r.schema_id, m)) rs ++ more) ≡ fold ended (record t { schema = all_ended schema_validity schema_key (ends_at schema_key m rs) t.schema }) more
ends-schema m [] more t = refl
ends-schema m (r ∷ rs) more t = ends-schema m rs more (ended t (key.Schema r.schema_id, m))

ends-table : (m : ℕ) (rs : List TableRow) (more : List (Key × ℕ)) (t : Tables) → fold ended t (map (λ (r : TableRow). (key.Table r.table_id, m)) rs ++ more) ≡ fold ended (record t { table = all_ended table_validity table_key (ends_at table_key m rs) t.table }) more
ends-table m [] more t = refl
ends-table m (r ∷ rs) more t = ends-table m rs more (ended t (key.Table r.table_id, m))

ends-column : (m : ℕ) (rs : List ColumnRow) (more : List (Key × ℕ)) (t : Tables) → fold ended t (map (λ (r : ColumnRow). (key.Column r.table_id r.column_id r.begin_snapshot, m)) rs ++ more) ≡ fold ended (record t { column = all_ended column_validity column_key (ends_at column_key m rs) t.column }) more
ends-column m [] more t = refl
ends-column m (r ∷ rs) more t = ends-column m rs more (ended t (key.Column r.table_id r.column_id r.begin_snapshot, m))

ends-data_file : (m : ℕ) (rs : List DataFileRow) (more : List (Key × ℕ)) (t : Tables) → fold ended t (map (λ (r : DataFileRow). (key.DataFile r.data_file_id, m)) rs ++ more) ≡ fold ended (record t { data_file = all_ended data_file_validity data_file_key (ends_at data_file_key m rs) t.data_file }) more
ends-data_file m [] more t = refl
ends-data_file m (r ∷ rs) more t = ends-data_file m rs more (ended t (key.DataFile r.data_file_id, m))

ends-delete_file : (m : ℕ) (rs : List DeleteFileRow) (more : List (Key × ℕ)) (t : Tables) → fold ended t (map (λ (r : DeleteFileRow). (key.DeleteFile r.delete_file_id, m)) rs ++ more) ≡ fold ended (record t { delete_file = all_ended delete_file_validity delete_file_key (ends_at delete_file_key m rs) t.delete_file }) more
ends-delete_file m [] more t = refl
ends-delete_file m (r ∷ rs) more t = ends-delete_file m rs more (ended t (key.DeleteFile r.delete_file_id, m))

ends-inlined_row : (m : ℕ) (rs : List InlinedRow) (more : List (Key × ℕ)) (t : Tables) → fold ended t (map (λ (r : InlinedRow). (key.Inlined r.table_id r.row_id r.begin_snapshot, m)) rs ++ more) ≡ fold ended (record t { inlined_row = all_ended inlined_row_validity inlined_row_key (ends_at inlined_row_key m rs) t.inlined_row }) more
ends-inlined_row m [] more t = refl
ends-inlined_row m (r ∷ rs) more t = ends-inlined_row m rs more (ended t (key.Inlined r.table_id r.row_id r.begin_snapshot, m))

pub removes-table_stats : (rs : List TableStatsRow) (t : Tables) → fold removed t (map (λ r. key.TableStats r.table_id) rs) ≡ record t { table_stats = all_removed table_stats_key (map (λ (r : TableStatsRow). r.table_id ∷ []) rs) t.table_stats }
removes-table_stats [] t = refl
removes-table_stats (r ∷ rs) t = removes-table_stats rs (removed t (key.TableStats r.table_id))

-- The batch makes the tables by parts.
pub applied-parts : AppliesParts
applied-parts p t =
    let m = p.snapshot.snapshot_id in
    let e5 : List (Key × ℕ) = map (λ (r : InlinedRow). (key.Inlined r.table_id r.row_id r.begin_snapshot, m)) p.ended_inlined_row ++ [] in
    let e4 : List (Key × ℕ) = map (λ (r : DeleteFileRow). (key.DeleteFile r.delete_file_id, m)) p.ended_delete_file ++ e5 in
    let e3 : List (Key × ℕ) = map (λ (r : DataFileRow). (key.DataFile r.data_file_id, m)) p.ended_data_file ++ e4 in
    let e2 : List (Key × ℕ) = map (λ (r : ColumnRow). (key.Column r.table_id r.column_id r.begin_snapshot, m)) p.ended_column ++ e3 in
    let e1 : List (Key × ℕ) = map (λ (r : TableRow). (key.Table r.table_id, m)) p.ended_table ++ e2 in
    let e0 : List (Key × ℕ) = map (λ (r : SchemaRow). (key.Schema r.schema_id, m)) p.ended_schema ++ e1 in
    let a7 : List CatRow = map (λ r. row.Inlined r) p.inlined_row ++ [] in
    let a6 : List CatRow = map (λ r. row.TableStats r) p.table_stats ++ a7 in
    let a5 : List CatRow = map (λ r. row.FileColumnStats r) p.file_column_stats ++ a6 in
    let a4 : List CatRow = map (λ r. row.DeleteFile r) p.delete_file ++ a5 in
    let a3 : List CatRow = map (λ r. row.DataFile r) p.data_file ++ a4 in
    let a2 : List CatRow = map (λ r. row.Column r) p.column ++ a3 in
    let a1 : List CatRow = map (λ r. row.Table r) p.table ++ a2 in
    let a0 : List CatRow = map (λ r. row.Schema r) p.schema ++ a1 in
    let u0 : Tables = record t { table_stats = all_removed table_stats_key (map (λ (r : TableStatsRow). r.table_id ∷ []) p.old_stats) t.table_stats } in
    let u1 : Tables = record u0 { schema = all_ended schema_validity schema_key (ends_at schema_key m p.ended_schema) t.schema } in
    let u2 : Tables = record u1 { table = all_ended table_validity table_key (ends_at table_key m p.ended_table) t.table } in
    let u3 : Tables = record u2 { column = all_ended column_validity column_key (ends_at column_key m p.ended_column) t.column } in
    let u4 : Tables = record u3 { data_file = all_ended data_file_validity data_file_key (ends_at data_file_key m p.ended_data_file) t.data_file } in
    let u5 : Tables = record u4 { delete_file = all_ended delete_file_validity delete_file_key (ends_at delete_file_key m p.ended_delete_file) t.delete_file } in
    let u6 : Tables = record u5 { inlined_row = all_ended inlined_row_validity inlined_row_key (ends_at inlined_row_key m p.ended_inlined_row) t.inlined_row } in
    let w0 : Tables = record u6 { snapshot = put snapshot_key p.snapshot t.snapshot; snapshot_changes = put snapshot_changes_key p.changes t.snapshot_changes } in
    let w1 : Tables = record w0 { schema = put_all schema_key p.schema w0.schema } in
    let w2 : Tables = record w1 { table = put_all table_key p.table w1.table } in
    let w3 : Tables = record w2 { column = put_all column_key p.column w2.column } in
    let w4 : Tables = record w3 { data_file = put_all data_file_key p.data_file w3.data_file } in
    let w5 : Tables = record w4 { delete_file = put_all delete_file_key p.delete_file w4.delete_file } in
    let w6 : Tables = record w5 { file_column_stats = put_all file_column_stats_key p.file_column_stats w5.file_column_stats } in
    let w7 : Tables = record w6 { table_stats = put_all table_stats_key p.table_stats w6.table_stats } in
    let adds_are : (batch_of p).adds ≡ row.Snapshot p.snapshot ∷ row.SnapshotChanges p.changes ∷ a0 = refl in
    let two_more : added (added u6 (row.Snapshot p.snapshot)) (row.SnapshotChanges p.changes) ≡ w0 = refl in
    let first : fold added (fold ended u6 []) (batch_of p).adds ≡ fold added w0 a0 = ap (fold added u6) adds_are ∙ ap (λ x. fold added x a0) two_more in
    ap (λ x. fold added (fold ended x (batch_of p).ends) (batch_of p).adds) (removes-table_stats p.old_stats t)
    ∙ ap (λ x. fold added x (batch_of p).adds) (
    ends-schema m p.ended_schema e1 u0
    ∙ ends-table m p.ended_table e2 u1
    ∙ ends-column m p.ended_column e3 u2
    ∙ ends-data_file m p.ended_data_file e4 u3
    ∙ ends-delete_file m p.ended_delete_file e5 u4
    ∙ ends-inlined_row m p.ended_inlined_row [] u5)
    ∙ first
    ∙ adds-schema p.schema a1 w0
    ∙ adds-table p.table a2 w1
    ∙ adds-column p.column a3 w2
    ∙ adds-data_file p.data_file a4 w3
    ∙ adds-delete_file p.delete_file a5 w4
    ∙ adds-file_column_stats p.file_column_stats a6 w5
    ∙ adds-table_stats p.table_stats a7 w6
    ∙ adds-inlined_row p.inlined_row [] w7

-- one table
part-seen : {R : Type 0} (key : R → List ℕ) (v : Validity R) → IsValidity v key → (n m : ℕ) → m ≡ n + 1 → (ends_now : R → Bool) (ended news rows : List R) → IsSettled key v n rows → IsPart key v n ends_now ended news rows
    → visible_at v (n + 1) (put_all key news (all_ended v key (ends_at key m ended) rows)) ≡ filter (λ r. not (ends_now r)) (visible_at v n rows) ++ news
part-seen key v laws n m same ends_now ended news rows settled part =
    ap (λ k. visible_at v (n + 1) (put_all key news (all_ended v key (ends_at key k ended) rows))) same
    ∙ ap (λ es. visible_at v (n + 1) (put_all key news (all_ended v key (ends_at key (n + 1) es) rows))) part.ends
    ∙ sees-now key v laws n ends_now news rows settled.rises settled.by part.begins part.past

seen-parts : (t : Tables) (n : ℕ) (p : Parts) (endings : Endings) → ArePartsOf t n p endings → seen_at (n + 1) (with_parts p t) ≡ seen_next p endings (seen_at n t)
seen-parts t n p endings h = λ i. record {
  schema = part-seen schema_key schema_validity schema_laws n p.snapshot.snapshot_id h.number endings.schema p.ended_schema p.schema t.schema h.settled.schema h.schema i;
  table = part-seen table_key table_validity table_laws n p.snapshot.snapshot_id h.number endings.table p.ended_table p.table t.table h.settled.table h.table i;
  column = part-seen column_key column_validity column_laws n p.snapshot.snapshot_id h.number endings.column p.ended_column p.column t.column h.settled.column h.column i;
  data_file = part-seen data_file_key data_file_validity data_file_laws n p.snapshot.snapshot_id h.number endings.data_file p.ended_data_file p.data_file t.data_file h.settled.data_file h.data_file i;
  delete_file = part-seen delete_file_key delete_file_validity delete_file_laws n p.snapshot.snapshot_id h.number endings.delete_file p.ended_delete_file p.delete_file t.delete_file h.settled.delete_file h.delete_file i;
  inlined_row = part-seen inlined_row_key inlined_row_validity inlined_row_laws n p.snapshot.snapshot_id h.number endings.inlined_row p.ended_inlined_row p.inlined_row t.inlined_row h.settled.inlined_row h.inlined_row i;
}

-- What the new snapshot sees after the batch.
pub sees-parts : SeesParts
sees-parts t n p endings h = ap (seen_at (n + 1)) (applied-parts p t) ∙ seen-parts t n p endings h
