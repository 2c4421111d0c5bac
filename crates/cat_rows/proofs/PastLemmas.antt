-- A batch by parts is past the snapshots up to the newest.
use Rattle.std.proofs.Common.{ℕ, ◌+◌, ◌<◌, ◌≤◌, List, [], ◌∷◌, ◌++◌, map, arith}
use Rattle.std.specs.List.{AllByRecursion}
use Rattle.cat_tables.specs.Validity.{IsNew}
use Rattle.cat_rows.specs.Parts.{ArePartsOf, Endings, Parts, batch_of}
use Rattle.cat_rows.specs.Seen.{BeginsPast, HidesKey, IsPast}
use Rattle.cat_rows.specs.Tables.{Tables}
use Rattle.cat_rows.specs.Validities.{column_validity, data_file_validity, delete_file_validity, inlined_row_validity, schema_validity, table_validity}
use Rattle.cat_rows.specs.declared.batch.CatRow.TheVariants as row
use Rattle.cat_rows.specs.declared.batch.Key.{Key}
use Rattle.cat_rows.specs.declared.batch.Key.TheVariants as key
use Rattle.cat_rows.specs.declared.files.DataFileRow.{DataFileRow}
use Rattle.cat_rows.specs.declared.files.DeleteFileRow.{DeleteFileRow}
use Rattle.cat_rows.specs.declared.files.TableStatsRow.{TableStatsRow}
use Rattle.cat_rows.specs.declared.inlined.InlinedRow.{InlinedRow}
use Rattle.cat_rows.specs.declared.schemas.ColumnRow.{ColumnRow}
use Rattle.cat_rows.specs.declared.schemas.SchemaRow.{SchemaRow}
use Rattle.cat_rows.specs.declared.schemas.TableRow.{TableRow}

-- what a function makes of rows, before others
mapped-onto : {R X : Type 0} (Q : R → Type 0) (P : X → Type 0) (f : R → X) → ((r : R) → Q r → P (f r)) → (rs : List R) (more : List X) → AllByRecursion Q rs → AllByRecursion P more → AllByRecursion P (map f rs ++ more)
mapped-onto Q P f step [] more h k = k
mapped-onto Q P f step (r ∷ rs) more h k = (step r h.0, mapped-onto Q P f step rs more h.1 k)

each-onto : {R X : Type 0} (P : X → Type 0) (f : R → X) → ((r : R) → P (f r)) → (rs : List R) (more : List X) → AllByRecursion P more → AllByRecursion P (map f rs ++ more)
each-onto P f step [] more k = k
each-onto P f step (r ∷ rs) more k = (step r, each-onto P f step rs more k)

each : {R X : Type 0} (P : X → Type 0) (f : R → X) → ((r : R) → P (f r)) → (rs : List R) → AllByRecursion P (map f rs)
each P f step [] = tt
each P f step (r ∷ rs) = (step r, each P f step rs)

module _ (t : Tables) (n : ℕ) (p : Parts) (endings : Endings) (parts : ArePartsOf t n p endings) (s : ℕ) (old : s ≤ n) where
  abbrev Late : Key × ℕ → Type 0
  Late e = s < e.1

  ends_past : {R : Type 0} (name : R → Key) (rs : List R) (more : List (Key × ℕ)) → AllByRecursion Late more → AllByRecursion Late (map (λ r. (name r, p.snapshot.snapshot_id)) rs ++ more)
  ends_past name rs more k = each-onto Late (λ r. (name r, p.snapshot.snapshot_id)) (λ r. omega (arith, old, parts.number)) rs more k

  pub past-parts : IsPast s t (batch_of p)
  past-parts = record {
    begins = (
      tt,
      (
        tt,
        mapped-onto (IsNew schema_validity (n + 1)) (BeginsPast s) (λ r. row.Schema r) (λ r h. omega (arith, h.0, old)) p.schema _ parts.schema.begins
            (mapped-onto (IsNew table_validity (n + 1)) (BeginsPast s) (λ r. row.Table r) (λ r h. omega (arith, h.0, old)) p.table _ parts.table.begins
            (mapped-onto (IsNew column_validity (n + 1)) (BeginsPast s) (λ r. row.Column r) (λ r h. omega (arith, h.0, old)) p.column _ parts.column.begins
            (mapped-onto (IsNew data_file_validity (n + 1)) (BeginsPast s) (λ r. row.DataFile r) (λ r h. omega (arith, h.0, old)) p.data_file _ parts.data_file.begins
            (mapped-onto (IsNew delete_file_validity (n + 1)) (BeginsPast s) (λ r. row.DeleteFile r) (λ r h. omega (arith, h.0, old)) p.delete_file _ parts.delete_file.begins
            (each-onto (BeginsPast s) (λ r. row.FileColumnStats r) (λ r. tt) p.file_column_stats _
            (each-onto (BeginsPast s) (λ r. row.TableStats r) (λ r. tt) p.table_stats _
            (mapped-onto (IsNew inlined_row_validity (n + 1)) (BeginsPast s) (λ r. row.Inlined r) (λ r h. omega (arith, h.0, old)) p.inlined_row [] parts.inlined_row.begins tt))))))),
      ),
    );
    ends =
        ends_past (λ (r : SchemaRow). key.Schema r.schema_id) p.ended_schema _
        (ends_past (λ (r : TableRow). key.Table r.table_id) p.ended_table _
        (ends_past (λ (r : ColumnRow). key.Column r.table_id r.column_id r.begin_snapshot) p.ended_column _
        (ends_past (λ (r : DataFileRow). key.DataFile r.data_file_id) p.ended_data_file _
        (ends_past (λ (r : DeleteFileRow). key.DeleteFile r.delete_file_id) p.ended_delete_file _
        (ends_past (λ (r : InlinedRow). key.Inlined r.table_id r.row_id r.begin_snapshot) p.ended_inlined_row [] tt)))));
    removes = each (HidesKey s t) (λ (r : TableStatsRow). key.TableStats r.table_id) (λ r. tt) p.old_stats;
  }
