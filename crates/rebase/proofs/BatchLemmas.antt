-- The rows that are added one after the other are those of the batch.
use Rattle.std.proofs.Common.{◌≡◌, ◌+◌, ◌-◌, ◌++◌, append_assoc, ℕ, ℤ, List, [], ◌∷◌, length, map, Some, slice_get, refl, sym, ap, ap₂, subst, ◌∙◌, arith}
use Rattle.std.specs.List.{flat_map}
use Rattle.std.proofs.lemmas.List.{append-nil, map-append}
use Rattle.std.proofs.lemmas.Simd.{map-map}
use Rattle.lake_types.specs.Kinds.{AreInOrder, changes_text}
use Rattle.lake_types.specs.declared.kind.Kind.{Kind}
use Rattle.lake_types.specs.declared.kind.SchemaName.{SchemaName}
use Rattle.lake_model.specs.Apply.{Creation, Draft, SchemaDraft}
use Rattle.lake_model.specs.Creations.{creations, made_schemas}
use Rattle.lake_model.specs.Growth.{made_tables}
use Rattle.lake_model.specs.Kinds.{kinds}
use Rattle.lake_model.specs.declared.change.Change.{Change}
use Rattle.lake_model.proofs.KindLemmas.{kinds-order}
use Rattle.cat_rows.specs.Parts.{batch_of}
use Rattle.cat_rows.specs.Tables.{Tables}
use Rattle.cat_rows.specs.declared.batch.CatRow.{CatRow}
use Rattle.cat_rows.specs.declared.batch.Key.{Key}
use Rattle.cat_rows.specs.declared.batch.CatRow.TheVariants as row
use Rattle.cat_rows.specs.declared.history.SnapshotRow.{SnapshotRow}
use Rattle.cat_rules.specs.Kept.{newest}
use Rattle.cat_rules.specs.Kept as kept
use Rattle.cat_texts.specs.Written.{stats_row}
use Rattle.cat_view.specs.Staged.{NamedStagedTable}
use Rattle.rebase.specs.Batch.{all_ended, batch_at, changes_row, next_snapshot, with_created, with_staged}
use Rattle.rebase.specs.Ends.{column_named, data_file_named, delete_file_named, ended, inlined_named, schema_named, table_named}
use Rattle.rebase.specs.Files.{file_stats_adds}
use Rattle.rebase.specs.Made.{creations_of}
use Rattle.rebase.specs.Parts.{FreshFile, columns_of, file_rows_from, fresh_files, made_stats, old_stats_of, parts_of, restated_of, schema_row, stats_rows_from, table_row}
use Rattle.rebase.specs.Stats.{stats_keys}
use Rattle.rebase.specs.declared.made.Place.{Place}

pub in_order : (names : List SchemaName) (own : List Change) (ks : List Kind) → ks ≡ kinds names own → AreInOrder ks
in_order names own ks is = rw is (kinds-order names own)

newest-at : (r : SnapshotRow) (rows : List SnapshotRow) → newest (r ∷ rows) ≡ slice_get (r ∷ rows) (length rows)
newest-at r [] = refl
newest-at r (q ∷ rows) = newest-at q rows

pub newest_last : (rows : List SnapshotRow) → newest rows ≡ slice_get rows (length rows - 1)
newest_last [] = refl
newest_last (r ∷ rows) = newest-at r rows ∙ ap (slice_get (r ∷ rows)) (omega arith)

-- ---- one list behind the other

module _ {X : Type 0} where
  six : (a b c d e f : List X) → a ++ b ++ c ++ d ++ e ++ f ≡ a ++ (b ++ (c ++ (d ++ (e ++ (f ++ [])))))
  six a b c d e f =
      append_assoc (a ++ b ++ c ++ d) e f ∙ append_assoc (a ++ b ++ c) d (e ++ f) ∙ append_assoc (a ++ b) c (d ++ (e ++ f)) ∙ append_assoc a b (c ++ (d ++ (e ++ f)))
      ∙ ap (λ l. a ++ (b ++ (c ++ (d ++ (e ++ l))))) (sym (append-nil f))

  eight : (s a b c d e r m : List X) → s ++ a ++ b ++ c ++ d ++ e ++ r ++ m ≡ s ++ (a ++ (b ++ (c ++ (d ++ (e ++ (r ++ m ++ []))))))
  eight s a b c d e r m =
      append_assoc (s ++ a ++ b ++ c ++ d ++ e) r m ∙ append_assoc (s ++ a ++ b ++ c ++ d) e (r ++ m) ∙ append_assoc (s ++ a ++ b ++ c) d (e ++ (r ++ m))
      ∙ append_assoc (s ++ a ++ b) c (d ++ (e ++ (r ++ m))) ∙ append_assoc (s ++ a) b (c ++ (d ++ (e ++ (r ++ m)))) ∙ append_assoc s a (b ++ (c ++ (d ++ (e ++ (r ++ m)))))
      ∙ ap (λ l. s ++ (a ++ (b ++ (c ++ (d ++ (e ++ l)))))) (sym (append-nil (r ++ m)))

  eight-by : (s a b c d e r m a2 b2 c2 d2 e2 rm : List X) → a ≡ a2 → b ≡ b2 → c ≡ c2 → d ≡ d2 → e ≡ e2 → r ++ m ≡ rm
      → s ++ a ++ b ++ c ++ d ++ e ++ r ++ m ≡ s ++ (a2 ++ (b2 ++ (c2 ++ (d2 ++ (e2 ++ (rm ++ []))))))
  eight-by s a b c d e r m a2 b2 c2 d2 e2 rm as_a as_b as_c as_d as_e as_rm = rw (← as_a, ← as_b, ← as_c, ← as_d, ← as_e, ← as_rm) (eight s a b c d e r m)

mapped-joined : {X Y Z : Type 0} (f : Y → Z) (g : X → List Y) (xs : List X) → flat_map (λ x. map f (g x)) xs ≡ map f (flat_map g xs)
mapped-joined f g [] = refl
mapped-joined f g (x ∷ xs) = ap (λ l. map f (g x) ++ l) (mapped-joined f g xs) ∙ sym (map-append f (g x) (flat_map g xs))

file-stats : (id : ℕ) (xs : List FreshFile) → file_stats_adds id xs ≡ map (λ r. row.FileColumnStats r) (stats_rows_from id xs)
file-stats id [] = refl
file-stats id (x ∷ xs) =
    ap₂ (λ a b. a ++ b) (sym (map-map (λ r. row.FileColumnStats r) (stats_row id) x.file.stats)) (file-stats (id + 1) xs)
    ∙ sym (map-append (λ r. row.FileColumnStats r) (map (stats_row id) x.file.stats) (stats_rows_from (id + 1) xs))

-- ---- the batch

module _ (t : Tables) (head : SnapshotRow) (time : ℤ) (text : List ℕ) (own : List Change) (staged : List NamedStagedTable) where
  pub ends-are : all_ended t own (head.snapshot_id + 1) ≡ (batch_of (parts_of t head time text own staged)).ends
  ends-are =
      let p = parts_of t head time text own staged in
      let at = head.snapshot_id + 1 in
      six (ended schema_named at p.ended_schema) (ended table_named at p.ended_table) (ended column_named at p.ended_column)
      (ended data_file_named at p.ended_data_file) (ended delete_file_named at p.ended_delete_file) (ended inlined_named at p.ended_inlined_row)

  -- the added rows, with what is created numbered in some way
  laid : ℕ → ℕ → List Creation → List CatRow
  laid b n new =
      let p = parts_of t head time text own staged in
      (row.Snapshot p.snapshot ∷ row.SnapshotChanges p.changes ∷ [])
      ++ map (λ (d : SchemaDraft). row.Schema (schema_row b n new d)) (made_schemas 0 own)
      ++ map (λ (d : Draft). row.Table (table_row b n new d)) (made_tables 0 own)
      ++ flat_map (λ (d : Draft). map (λ r. row.Column r) (columns_of b n new d)) (made_tables 0 own)
      ++ map (λ r. row.DataFile r) (file_rows_from t b n new head.next_file_id (fresh_files staged))
      ++ file_stats_adds head.next_file_id (fresh_files staged)
      ++ map (λ r. row.TableStats r) (restated_of t (fresh_files staged))
      ++ map (λ (d : Draft). row.TableStats (made_stats n new staged d)) (made_tables 0 own)

  laid-is : laid (head.snapshot_id + 1) head.next_catalog_id (creations 0 0 own) ≡ (batch_of (parts_of t head time text own staged)).adds
  unfolding laid
  laid-is =
      let p = parts_of t head time text own staged in
      let b = head.snapshot_id + 1 in
      let n = head.next_catalog_id in
      let new = creations 0 0 own in
      let files = fresh_files staged in
      eight-by (row.Snapshot p.snapshot ∷ row.SnapshotChanges p.changes ∷ [])
      (map (λ (d : SchemaDraft). row.Schema (schema_row b n new d)) (made_schemas 0 own))
      (map (λ (d : Draft). row.Table (table_row b n new d)) (made_tables 0 own))
      (flat_map (λ (d : Draft). map (λ r. row.Column r) (columns_of b n new d)) (made_tables 0 own))
      (map (λ r. row.DataFile r) p.data_file)
      (file_stats_adds head.next_file_id files)
      (map (λ r. row.TableStats r) (restated_of t files))
      (map (λ (d : Draft). row.TableStats (made_stats n new staged d)) (made_tables 0 own))
      (map (λ r. row.Schema r) p.schema)
      (map (λ r. row.Table r) p.table)
      (map (λ r. row.Column r) p.column)
      (map (λ r. row.DataFile r) p.data_file)
      (map (λ r. row.FileColumnStats r) p.file_column_stats)
      (map (λ r. row.TableStats r) p.table_stats)
      (sym (map-map (λ r. row.Schema r) (schema_row b n new) (made_schemas 0 own)))
      (sym (map-map (λ r. row.Table r) (table_row b n new) (made_tables 0 own)))
      (mapped-joined (λ r. row.Column r) (columns_of b n new) (made_tables 0 own))
      refl
      (file-stats head.next_file_id files)
      (ap (λ l. map (λ r. row.TableStats r) (restated_of t files) ++ l) (sym (map-map (λ r. row.TableStats r) (made_stats n new staged) (made_tables 0 own)))
      ∙ sym (map-append (λ r. row.TableStats r) (restated_of t files) (map (made_stats n new staged) (made_tables 0 own))))

  pub adds-are : (place : Place) → place.begin ≡ head.snapshot_id + 1 → place.next ≡ head.next_catalog_id → creations_of place.made.now ≡ creations 0 0 own
      → with_staged t place head.next_file_id own staged
      (with_created place own (row.Snapshot (parts_of t head time text own staged).snapshot ∷ row.SnapshotChanges (parts_of t head time text own staged).changes ∷ []))
      ≡ (batch_of (parts_of t head time text own staged)).adds
  unfolding laid
  adds-are place begin next made =
      ap (λ b. laid b place.next (creations_of place.made.now)) begin ∙ ap (λ n. laid (head.snapshot_id + 1) n (creations_of place.made.now)) next
      ∙ ap (laid (head.snapshot_id + 1) head.next_catalog_id) made ∙ laid-is

-- the batch of three lists that are as they should be
pub batch-is : (t : Tables) (head newest : SnapshotRow) (time : ℤ) (names : List SchemaName) (own : List Change) (staged : List NamedStagedTable) (place : Place) (removes : List Key) (ends : List (Key × ℕ))
    (adds : List CatRow) → kept.newest t.snapshot ≡ Some head → kept.newest t.snapshot ≡ Some newest
    → place.begin ≡ head.snapshot_id + 1 → place.next ≡ head.next_catalog_id → creations_of place.made.now ≡ creations 0 0 own
    → removes ≡ stats_keys (old_stats_of t (fresh_files staged))
    → ends ≡ all_ended t own (head.snapshot_id + 1)
    → adds ≡ with_staged t place head.next_file_id own staged (with_created place own
    (row.Snapshot (next_snapshot head time (length (creations 0 0 own)) (length (fresh_files staged))) ∷ row.SnapshotChanges (changes_row (head.snapshot_id + 1) names own) ∷ []))
    → record { removes = removes; ends = ends; adds = adds } ≡ batch_at t newest time names own staged
batch-is t head newest time names own staged place removes ends adds is is_too begin next made taken ended added =
    let some : Some head ≡ Some newest = sym is ∙ is_too in
    let same : head ≡ newest = cc in
    let text = changes_text (kinds names own) in
    subst (λ h. record { removes = removes; ends = ends; adds = adds } ≡ batch_at t h time names own staged) same
    (rw (taken, ended ∙ ends-are t head time text own staged, added ∙ adds-are t head time text own staged place begin next made) refl)
