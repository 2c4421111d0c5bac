-- What a batch leaves of what earlier snapshots see.
use Rattle.std.proofs.Common.{◌≡◌, ◌<◌, ℕ, List, [], ◌∷◌, sym, ap, subst, ◌∙◌, Option, Some, None}
use Rattle.std.specs.Prelude.{option_map, IfSome}
use Rattle.std.specs.List.{AllByRecursion, filter_map, cons_option}
use Rattle.cat_tables.specs.Validity.{visible_at, IsUnseen}
use Rattle.cat_tables.proofs.FrameLemmas.{visible_at-batch}
use Rattle.cat_rows.specs.Batches.{applied}
use Rattle.cat_rows.specs.ByTable.{end_in, schema_in, table_in, column_in, data_file_in, delete_file_in, inlined_row_in, schema_parts, table_parts, column_parts, data_file_parts, delete_file_parts, inlined_row_parts}
use Rattle.cat_rows.specs.Keys.{schema_key, table_key, column_key, data_file_key, delete_file_key, inlined_row_key}
use Rattle.cat_rows.specs.Validities.{schema_validity, schema_laws, table_validity, table_laws, column_validity, column_laws, data_file_validity, data_file_laws, delete_file_validity, delete_file_laws, inlined_row_validity, inlined_row_laws}
use Rattle.cat_rows.specs.Seen.{seen_at, BeginsPast, HidesKey, IsPast, KeepsEarlier}
use Rattle.cat_rows.specs.Tables.{Tables}
use Rattle.cat_rows.proofs.TableLemmas.{applied-schema, applied-table, applied-column, applied-data_file, applied-delete_file, applied-inlined_row}
use Rattle.cat_rows.specs.declared.batch.Batch.{Batch}
use Rattle.cat_rows.specs.declared.batch.CatRow.{CatRow}
use Rattle.cat_rows.specs.declared.batch.CatRow.TheVariants as row
use Rattle.cat_rows.specs.declared.batch.Key.{Key}
use Rattle.cat_rows.specs.declared.batch.Key.TheVariants as key

-- what is true of each that is picked
all-filter_map : {X Y : Type 0} (P : X → Type 0) (Q : Y → Type 0) (pick : X → Option Y) → ((x : X) → P x → IfSome (pick x) Q) → (xs : List X) → AllByRecursion P xs → AllByRecursion Q (filter_map pick xs)
all-filter_map P Q pick each [] h = tt
all-filter_map {X} {Y} P Q pick each (x ∷ xs) h = go (pick x) (each x h.0) (all-filter_map P Q pick each xs h.1)
  where
    go : (o : Option Y) → IfSome o Q → AllByRecursion Q (filter_map pick xs) → AllByRecursion Q (cons_option o (filter_map pick xs))
    go None one more = more
    go (Some y) one more = (one, more)

late_in : (s : ℕ) (parts : Key → Option (List ℕ)) (e : Key × ℕ) → s < e.1 → IfSome (end_in parts e) (λ d. s < d.1)
late_in s parts e h =
    let end : List ℕ → List ℕ × ℕ = λ p. (p, e.1) in
    let Late : List ℕ × ℕ → Type 0 = λ d. s < d.1 in
    elim (parts e.0) as (λ o. IfSome (option_map end o) Late) [ None ↦ tt | Some p ↦ h ]

begins-schema : (s : ℕ) (r : CatRow) → BeginsPast s r → IfSome (schema_in r) (λ q. s < q.begin_snapshot)
begins-schema s (row.Schema r) h = h
begins-schema s r h = tt

hides-schema : (s : ℕ) (t : Tables) (k : Key) → HidesKey s t k → IfSome (schema_parts k) (λ p. IsUnseen schema_validity schema_key s p t.schema)
hides-schema s t (key.Schema a) h = h
hides-schema s t k h = tt

seen-schema : (s : ℕ) (b : Batch) (t : Tables) → IsPast s t b → (seen_at s (applied b t)).schema ≡ (seen_at s t).schema
seen-schema s b t past =
    ap (λ rs. visible_at schema_validity s rs) (applied-schema b t)
    ∙ visible_at-batch schema_key schema_validity schema_laws s (filter_map schema_parts b.removes) (filter_map (end_in schema_parts) b.ends) (filter_map schema_in b.adds) t.schema
    (all-filter_map (HidesKey s t) (λ p. IsUnseen schema_validity schema_key s p t.schema) schema_parts (hides-schema s t) b.removes past.removes)
    (all-filter_map (λ e. s < e.1) (λ e. s < e.1) (end_in schema_parts) (late_in s schema_parts) b.ends past.ends)
    (all-filter_map (BeginsPast s) (λ q. s < q.begin_snapshot) schema_in (begins-schema s) b.adds past.begins)

begins-table : (s : ℕ) (r : CatRow) → BeginsPast s r → IfSome (table_in r) (λ q. s < q.begin_snapshot)
begins-table s (row.Table r) h = h
begins-table s r h = tt

hides-table : (s : ℕ) (t : Tables) (k : Key) → HidesKey s t k → IfSome (table_parts k) (λ p. IsUnseen table_validity table_key s p t.table)
hides-table s t (key.Table a) h = h
hides-table s t k h = tt

seen-table : (s : ℕ) (b : Batch) (t : Tables) → IsPast s t b → (seen_at s (applied b t)).table ≡ (seen_at s t).table
seen-table s b t past =
    ap (λ rs. visible_at table_validity s rs) (applied-table b t)
    ∙ visible_at-batch table_key table_validity table_laws s (filter_map table_parts b.removes) (filter_map (end_in table_parts) b.ends) (filter_map table_in b.adds) t.table
    (all-filter_map (HidesKey s t) (λ p. IsUnseen table_validity table_key s p t.table) table_parts (hides-table s t) b.removes past.removes)
    (all-filter_map (λ e. s < e.1) (λ e. s < e.1) (end_in table_parts) (late_in s table_parts) b.ends past.ends)
    (all-filter_map (BeginsPast s) (λ q. s < q.begin_snapshot) table_in (begins-table s) b.adds past.begins)

begins-column : (s : ℕ) (r : CatRow) → BeginsPast s r → IfSome (column_in r) (λ q. s < q.begin_snapshot)
begins-column s (row.Column r) h = h
begins-column s r h = tt

hides-column : (s : ℕ) (t : Tables) (k : Key) → HidesKey s t k → IfSome (column_parts k) (λ p. IsUnseen column_validity column_key s p t.column)
hides-column s t (key.Column a b c) h = h
hides-column s t k h = tt

seen-column : (s : ℕ) (b : Batch) (t : Tables) → IsPast s t b → (seen_at s (applied b t)).column ≡ (seen_at s t).column
seen-column s b t past =
    ap (λ rs. visible_at column_validity s rs) (applied-column b t)
    ∙ visible_at-batch column_key column_validity column_laws s (filter_map column_parts b.removes) (filter_map (end_in column_parts) b.ends) (filter_map column_in b.adds) t.column
    (all-filter_map (HidesKey s t) (λ p. IsUnseen column_validity column_key s p t.column) column_parts (hides-column s t) b.removes past.removes)
    (all-filter_map (λ e. s < e.1) (λ e. s < e.1) (end_in column_parts) (late_in s column_parts) b.ends past.ends)
    (all-filter_map (BeginsPast s) (λ q. s < q.begin_snapshot) column_in (begins-column s) b.adds past.begins)

begins-data_file : (s : ℕ) (r : CatRow) → BeginsPast s r → IfSome (data_file_in r) (λ q. s < q.begin_snapshot)
begins-data_file s (row.DataFile r) h = h
begins-data_file s r h = tt

hides-data_file : (s : ℕ) (t : Tables) (k : Key) → HidesKey s t k → IfSome (data_file_parts k) (λ p. IsUnseen data_file_validity data_file_key s p t.data_file)
hides-data_file s t (key.DataFile a) h = h
hides-data_file s t k h = tt

seen-data_file : (s : ℕ) (b : Batch) (t : Tables) → IsPast s t b → (seen_at s (applied b t)).data_file ≡ (seen_at s t).data_file
seen-data_file s b t past =
    ap (λ rs. visible_at data_file_validity s rs) (applied-data_file b t)
    ∙ visible_at-batch data_file_key data_file_validity data_file_laws s (filter_map data_file_parts b.removes) (filter_map (end_in data_file_parts) b.ends) (filter_map data_file_in b.adds) t.data_file
    (all-filter_map (HidesKey s t) (λ p. IsUnseen data_file_validity data_file_key s p t.data_file) data_file_parts (hides-data_file s t) b.removes past.removes)
    (all-filter_map (λ e. s < e.1) (λ e. s < e.1) (end_in data_file_parts) (late_in s data_file_parts) b.ends past.ends)
    (all-filter_map (BeginsPast s) (λ q. s < q.begin_snapshot) data_file_in (begins-data_file s) b.adds past.begins)

begins-delete_file : (s : ℕ) (r : CatRow) → BeginsPast s r → IfSome (delete_file_in r) (λ q. s < q.begin_snapshot)
begins-delete_file s (row.DeleteFile r) h = h
begins-delete_file s r h = tt

hides-delete_file : (s : ℕ) (t : Tables) (k : Key) → HidesKey s t k → IfSome (delete_file_parts k) (λ p. IsUnseen delete_file_validity delete_file_key s p t.delete_file)
hides-delete_file s t (key.DeleteFile a) h = h
hides-delete_file s t k h = tt

seen-delete_file : (s : ℕ) (b : Batch) (t : Tables) → IsPast s t b → (seen_at s (applied b t)).delete_file ≡ (seen_at s t).delete_file
seen-delete_file s b t past =
    ap (λ rs. visible_at delete_file_validity s rs) (applied-delete_file b t)
    ∙ visible_at-batch delete_file_key delete_file_validity delete_file_laws s (filter_map delete_file_parts b.removes) (filter_map (end_in delete_file_parts) b.ends) (filter_map delete_file_in b.adds) t.delete_file
    (all-filter_map (HidesKey s t) (λ p. IsUnseen delete_file_validity delete_file_key s p t.delete_file) delete_file_parts (hides-delete_file s t) b.removes past.removes)
    (all-filter_map (λ e. s < e.1) (λ e. s < e.1) (end_in delete_file_parts) (late_in s delete_file_parts) b.ends past.ends)
    (all-filter_map (BeginsPast s) (λ q. s < q.begin_snapshot) delete_file_in (begins-delete_file s) b.adds past.begins)

begins-inlined_row : (s : ℕ) (r : CatRow) → BeginsPast s r → IfSome (inlined_row_in r) (λ q. s < q.begin_snapshot)
begins-inlined_row s (row.Inlined r) h = h
begins-inlined_row s r h = tt

hides-inlined_row : (s : ℕ) (t : Tables) (k : Key) → HidesKey s t k → IfSome (inlined_row_parts k) (λ p. IsUnseen inlined_row_validity inlined_row_key s p t.inlined_row)
hides-inlined_row s t (key.Inlined a b c) h = h
hides-inlined_row s t k h = tt

seen-inlined_row : (s : ℕ) (b : Batch) (t : Tables) → IsPast s t b → (seen_at s (applied b t)).inlined_row ≡ (seen_at s t).inlined_row
seen-inlined_row s b t past =
    ap (λ rs. visible_at inlined_row_validity s rs) (applied-inlined_row b t)
    ∙ visible_at-batch inlined_row_key inlined_row_validity inlined_row_laws s (filter_map inlined_row_parts b.removes) (filter_map (end_in inlined_row_parts) b.ends) (filter_map inlined_row_in b.adds) t.inlined_row
    (all-filter_map (HidesKey s t) (λ p. IsUnseen inlined_row_validity inlined_row_key s p t.inlined_row) inlined_row_parts (hides-inlined_row s t) b.removes past.removes)
    (all-filter_map (λ e. s < e.1) (λ e. s < e.1) (end_in inlined_row_parts) (late_in s inlined_row_parts) b.ends past.ends)
    (all-filter_map (BeginsPast s) (λ q. s < q.begin_snapshot) inlined_row_in (begins-inlined_row s) b.adds past.begins)

-- A batch changes nothing that a snapshot sees which it is past.
pub seen_before : (b : Batch) (t : Tables) → KeepsEarlier b t (applied b t)
seen_before b t s past = λ i. record { schema = seen-schema s b t past i; table = seen-table s b t past i; column = seen-column s b t past i; data_file = seen-data_file s b t past i; delete_file = seen-delete_file s b t past i; inlined_row = seen-inlined_row s b t past i }

pub KeepsEarlier-applied : (b : Batch) (t u : Tables) → u ≡ applied b t → KeepsEarlier b t u
KeepsEarlier-applied b t u e = let P : Tables → Type 0 = λ x. KeepsEarlier b t x in subst P (sym e) (seen_before b t)
