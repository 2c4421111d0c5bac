-- The tables after a batch, each by its own part of it.
use Rattle.std.proofs.Common.{◌≡◌, ℕ, List, [], ◌∷◌, refl, ap, ◌∙◌, Option, Some, None}
use Rattle.std.specs.Prelude.{fold, option_map}
use Rattle.std.specs.List.{filter_map, cons_option}
use Rattle.cat_tables.specs.Table.{put, put_all, without, all_removed, edited}
use Rattle.cat_tables.specs.Validity.{ended_at, all_ended}
use Rattle.cat_rows.specs.Batches.{added, removed, ended, ended_row, applied}
use Rattle.cat_rows.specs.ByTable.{AppliesByTable, end_in, metadata_in, snapshot_in, snapshot_changes_in, schema_in, table_in, column_in, data_file_in, delete_file_in, file_column_stats_in, table_stats_in, inlined_row_in, scheduled_file_in, metadata_parts, snapshot_parts, snapshot_changes_parts, schema_parts, table_parts, column_parts, data_file_parts, delete_file_parts, file_column_stats_parts, table_stats_parts, inlined_row_parts, scheduled_file_parts}
use Rattle.cat_rows.specs.Keys.{metadata_key, snapshot_key, snapshot_changes_key, schema_key, table_key, column_key, data_file_key, delete_file_key, file_column_stats_key, table_stats_key, inlined_row_key, scheduled_file_key}
use Rattle.cat_rows.specs.Validities.{schema_validity, table_validity, column_validity, data_file_validity, delete_file_validity, inlined_row_validity}
use Rattle.cat_rows.specs.Tables.{Tables}
use Rattle.cat_rows.specs.declared.batch.Batch.{Batch}
use Rattle.cat_rows.specs.declared.batch.CatRow.{CatRow}
use Rattle.cat_rows.specs.declared.batch.CatRow.TheVariants as row
use Rattle.cat_rows.specs.declared.batch.Key.{Key}
use Rattle.cat_rows.specs.declared.batch.Key.TheVariants as key

-- what one step does to a part, or nothing
abbrev maybe : {Y P : Type 0} → (P → Y → P) → P → Option Y → P
maybe g p None = p
maybe g p (Some y) = g p y

-- A part of a fold is the fold of what concerns it.
fold-part : {S X Y P : Type 0} (f : S → X → S) (g : P → Y → P) (part : S → P) (pick : X → Option Y)
    → ((s : S) (x : X) → part (f s x) ≡ maybe g (part s) (pick x)) → (xs : List X) (s : S) → part (fold f s xs) ≡ fold g (part s) (filter_map pick xs)
fold-part f g part pick step [] s = refl
fold-part {S} {X} {Y} {P} f g part pick step (x ∷ xs) s = fold-part f g part pick step xs (f s x) ∙ ap (λ p. fold g p (filter_map pick xs)) (step s x) ∙ go (pick x)
  where
    go : (o : Option Y) → fold g (maybe g (part s) o) (filter_map pick xs) ≡ fold g (part s) (cons_option o (filter_map pick xs))
    go None = refl
    go (Some y) = refl

-- a part that no step changes
fold-still : {S X P : Type 0} (f : S → X → S) (part : S → P) → ((s : S) (x : X) → part (f s x) ≡ part s) → (xs : List X) (s : S) → part (fold f s xs) ≡ part s
fold-still f part step [] s = refl
fold-still f part step (x ∷ xs) s = fold-still f part step xs (f s x) ∙ step s x

added-schema : (t : Tables) (r : CatRow) → (added t r).schema ≡ maybe (λ rs q. put schema_key q rs) t.schema (schema_in r)
added-schema t (row.Schema r) = refl
added-schema t r = refl

removed-schema : (t : Tables) (k : Key) → (removed t k).schema ≡ maybe (λ rs p. without schema_key p rs) t.schema (schema_parts k)
removed-schema t (key.Schema a) = refl
removed-schema t k = refl

ended-schema : (t : Tables) (k : Key) (n : ℕ) → (ended_row t k n).schema ≡ maybe (λ rs (e : List ℕ × ℕ). edited schema_key (ended_at schema_validity e.1) e.0 rs) t.schema (option_map (λ p. (p, n)) (schema_parts k))
ended-schema t (key.Schema a) n = refl
ended-schema t k n = refl

pub applied-schema : (b : Batch) (t : Tables) → (applied b t).schema ≡ put_all schema_key (filter_map schema_in b.adds) (all_ended schema_validity schema_key (filter_map (end_in schema_parts) b.ends) (all_removed schema_key (filter_map schema_parts b.removes) t.schema))
applied-schema b t =
    fold-part added (λ rs q. put schema_key q rs) (λ u. u.schema) schema_in added-schema b.adds (fold ended (fold removed t b.removes) b.ends)
    ∙ ap (put_all schema_key (filter_map schema_in b.adds))
    (fold-part ended (λ rs (e : List ℕ × ℕ). edited schema_key (ended_at schema_validity e.1) e.0 rs) (λ u. u.schema) (end_in schema_parts) (λ u e. ended-schema u e.0 e.1) b.ends (fold removed t b.removes)
    ∙ ap (all_ended schema_validity schema_key (filter_map (end_in schema_parts) b.ends)) (fold-part removed (λ rs p. without schema_key p rs) (λ u. u.schema) schema_parts removed-schema b.removes t))

added-table : (t : Tables) (r : CatRow) → (added t r).table ≡ maybe (λ rs q. put table_key q rs) t.table (table_in r)
added-table t (row.Table r) = refl
added-table t r = refl

removed-table : (t : Tables) (k : Key) → (removed t k).table ≡ maybe (λ rs p. without table_key p rs) t.table (table_parts k)
removed-table t (key.Table a) = refl
removed-table t k = refl

ended-table : (t : Tables) (k : Key) (n : ℕ) → (ended_row t k n).table ≡ maybe (λ rs (e : List ℕ × ℕ). edited table_key (ended_at table_validity e.1) e.0 rs) t.table (option_map (λ p. (p, n)) (table_parts k))
ended-table t (key.Table a) n = refl
ended-table t k n = refl

pub applied-table : (b : Batch) (t : Tables) → (applied b t).table ≡ put_all table_key (filter_map table_in b.adds) (all_ended table_validity table_key (filter_map (end_in table_parts) b.ends) (all_removed table_key (filter_map table_parts b.removes) t.table))
applied-table b t =
    fold-part added (λ rs q. put table_key q rs) (λ u. u.table) table_in added-table b.adds (fold ended (fold removed t b.removes) b.ends)
    ∙ ap (put_all table_key (filter_map table_in b.adds))
    (fold-part ended (λ rs (e : List ℕ × ℕ). edited table_key (ended_at table_validity e.1) e.0 rs) (λ u. u.table) (end_in table_parts) (λ u e. ended-table u e.0 e.1) b.ends (fold removed t b.removes)
    ∙ ap (all_ended table_validity table_key (filter_map (end_in table_parts) b.ends)) (fold-part removed (λ rs p. without table_key p rs) (λ u. u.table) table_parts removed-table b.removes t))

added-column : (t : Tables) (r : CatRow) → (added t r).column ≡ maybe (λ rs q. put column_key q rs) t.column (column_in r)
added-column t (row.Column r) = refl
added-column t r = refl

removed-column : (t : Tables) (k : Key) → (removed t k).column ≡ maybe (λ rs p. without column_key p rs) t.column (column_parts k)
removed-column t (key.Column a b c) = refl
removed-column t k = refl

ended-column : (t : Tables) (k : Key) (n : ℕ) → (ended_row t k n).column ≡ maybe (λ rs (e : List ℕ × ℕ). edited column_key (ended_at column_validity e.1) e.0 rs) t.column (option_map (λ p. (p, n)) (column_parts k))
ended-column t (key.Column a b c) n = refl
ended-column t k n = refl

pub applied-column : (b : Batch) (t : Tables) → (applied b t).column ≡ put_all column_key (filter_map column_in b.adds) (all_ended column_validity column_key (filter_map (end_in column_parts) b.ends) (all_removed column_key (filter_map column_parts b.removes) t.column))
applied-column b t =
    fold-part added (λ rs q. put column_key q rs) (λ u. u.column) column_in added-column b.adds (fold ended (fold removed t b.removes) b.ends)
    ∙ ap (put_all column_key (filter_map column_in b.adds))
    (fold-part ended (λ rs (e : List ℕ × ℕ). edited column_key (ended_at column_validity e.1) e.0 rs) (λ u. u.column) (end_in column_parts) (λ u e. ended-column u e.0 e.1) b.ends (fold removed t b.removes)
    ∙ ap (all_ended column_validity column_key (filter_map (end_in column_parts) b.ends)) (fold-part removed (λ rs p. without column_key p rs) (λ u. u.column) column_parts removed-column b.removes t))

added-data_file : (t : Tables) (r : CatRow) → (added t r).data_file ≡ maybe (λ rs q. put data_file_key q rs) t.data_file (data_file_in r)
added-data_file t (row.DataFile r) = refl
added-data_file t r = refl

removed-data_file : (t : Tables) (k : Key) → (removed t k).data_file ≡ maybe (λ rs p. without data_file_key p rs) t.data_file (data_file_parts k)
removed-data_file t (key.DataFile a) = refl
removed-data_file t k = refl

ended-data_file : (t : Tables) (k : Key) (n : ℕ) → (ended_row t k n).data_file ≡ maybe (λ rs (e : List ℕ × ℕ). edited data_file_key (ended_at data_file_validity e.1) e.0 rs) t.data_file (option_map (λ p. (p, n)) (data_file_parts k))
ended-data_file t (key.DataFile a) n = refl
ended-data_file t k n = refl

pub applied-data_file : (b : Batch) (t : Tables) → (applied b t).data_file ≡ put_all data_file_key (filter_map data_file_in b.adds) (all_ended data_file_validity data_file_key (filter_map (end_in data_file_parts) b.ends) (all_removed data_file_key (filter_map data_file_parts b.removes) t.data_file))
applied-data_file b t =
    fold-part added (λ rs q. put data_file_key q rs) (λ u. u.data_file) data_file_in added-data_file b.adds (fold ended (fold removed t b.removes) b.ends)
    ∙ ap (put_all data_file_key (filter_map data_file_in b.adds))
    (fold-part ended (λ rs (e : List ℕ × ℕ). edited data_file_key (ended_at data_file_validity e.1) e.0 rs) (λ u. u.data_file) (end_in data_file_parts) (λ u e. ended-data_file u e.0 e.1) b.ends (fold removed t b.removes)
    ∙ ap (all_ended data_file_validity data_file_key (filter_map (end_in data_file_parts) b.ends)) (fold-part removed (λ rs p. without data_file_key p rs) (λ u. u.data_file) data_file_parts removed-data_file b.removes t))

added-delete_file : (t : Tables) (r : CatRow) → (added t r).delete_file ≡ maybe (λ rs q. put delete_file_key q rs) t.delete_file (delete_file_in r)
added-delete_file t (row.DeleteFile r) = refl
added-delete_file t r = refl

removed-delete_file : (t : Tables) (k : Key) → (removed t k).delete_file ≡ maybe (λ rs p. without delete_file_key p rs) t.delete_file (delete_file_parts k)
removed-delete_file t (key.DeleteFile a) = refl
removed-delete_file t k = refl

ended-delete_file : (t : Tables) (k : Key) (n : ℕ) → (ended_row t k n).delete_file ≡ maybe (λ rs (e : List ℕ × ℕ). edited delete_file_key (ended_at delete_file_validity e.1) e.0 rs) t.delete_file (option_map (λ p. (p, n)) (delete_file_parts k))
ended-delete_file t (key.DeleteFile a) n = refl
ended-delete_file t k n = refl

pub applied-delete_file : (b : Batch) (t : Tables) → (applied b t).delete_file ≡ put_all delete_file_key (filter_map delete_file_in b.adds) (all_ended delete_file_validity delete_file_key (filter_map (end_in delete_file_parts) b.ends) (all_removed delete_file_key (filter_map delete_file_parts b.removes) t.delete_file))
applied-delete_file b t =
    fold-part added (λ rs q. put delete_file_key q rs) (λ u. u.delete_file) delete_file_in added-delete_file b.adds (fold ended (fold removed t b.removes) b.ends)
    ∙ ap (put_all delete_file_key (filter_map delete_file_in b.adds))
    (fold-part ended (λ rs (e : List ℕ × ℕ). edited delete_file_key (ended_at delete_file_validity e.1) e.0 rs) (λ u. u.delete_file) (end_in delete_file_parts) (λ u e. ended-delete_file u e.0 e.1) b.ends (fold removed t b.removes)
    ∙ ap (all_ended delete_file_validity delete_file_key (filter_map (end_in delete_file_parts) b.ends)) (fold-part removed (λ rs p. without delete_file_key p rs) (λ u. u.delete_file) delete_file_parts removed-delete_file b.removes t))

added-inlined_row : (t : Tables) (r : CatRow) → (added t r).inlined_row ≡ maybe (λ rs q. put inlined_row_key q rs) t.inlined_row (inlined_row_in r)
added-inlined_row t (row.Inlined r) = refl
added-inlined_row t r = refl

removed-inlined_row : (t : Tables) (k : Key) → (removed t k).inlined_row ≡ maybe (λ rs p. without inlined_row_key p rs) t.inlined_row (inlined_row_parts k)
removed-inlined_row t (key.Inlined a b c) = refl
removed-inlined_row t k = refl

ended-inlined_row : (t : Tables) (k : Key) (n : ℕ) → (ended_row t k n).inlined_row ≡ maybe (λ rs (e : List ℕ × ℕ). edited inlined_row_key (ended_at inlined_row_validity e.1) e.0 rs) t.inlined_row (option_map (λ p. (p, n)) (inlined_row_parts k))
ended-inlined_row t (key.Inlined a b c) n = refl
ended-inlined_row t k n = refl

pub applied-inlined_row : (b : Batch) (t : Tables) → (applied b t).inlined_row ≡ put_all inlined_row_key (filter_map inlined_row_in b.adds) (all_ended inlined_row_validity inlined_row_key (filter_map (end_in inlined_row_parts) b.ends) (all_removed inlined_row_key (filter_map inlined_row_parts b.removes) t.inlined_row))
applied-inlined_row b t =
    fold-part added (λ rs q. put inlined_row_key q rs) (λ u. u.inlined_row) inlined_row_in added-inlined_row b.adds (fold ended (fold removed t b.removes) b.ends)
    ∙ ap (put_all inlined_row_key (filter_map inlined_row_in b.adds))
    (fold-part ended (λ rs (e : List ℕ × ℕ). edited inlined_row_key (ended_at inlined_row_validity e.1) e.0 rs) (λ u. u.inlined_row) (end_in inlined_row_parts) (λ u e. ended-inlined_row u e.0 e.1) b.ends (fold removed t b.removes)
    ∙ ap (all_ended inlined_row_validity inlined_row_key (filter_map (end_in inlined_row_parts) b.ends)) (fold-part removed (λ rs p. without inlined_row_key p rs) (λ u. u.inlined_row) inlined_row_parts removed-inlined_row b.removes t))

added-metadata : (t : Tables) (r : CatRow) → (added t r).metadata ≡ maybe (λ rs q. put metadata_key q rs) t.metadata (metadata_in r)
added-metadata t (row.Metadata r) = refl
added-metadata t r = refl

removed-metadata : (t : Tables) (k : Key) → (removed t k).metadata ≡ maybe (λ rs p. without metadata_key p rs) t.metadata (metadata_parts k)
removed-metadata t (key.Metadata a) = refl
removed-metadata t k = refl

still-metadata : (t : Tables) (k : Key) (n : ℕ) → (ended_row t k n).metadata ≡ t.metadata
still-metadata t (key.Schema a) n = refl
still-metadata t (key.Table a) n = refl
still-metadata t (key.Column a b c) n = refl
still-metadata t (key.DataFile a) n = refl
still-metadata t (key.DeleteFile a) n = refl
still-metadata t (key.Inlined a b c) n = refl
still-metadata t k n = refl

pub applied-metadata : (b : Batch) (t : Tables) → (applied b t).metadata ≡ put_all metadata_key (filter_map metadata_in b.adds) (all_removed metadata_key (filter_map metadata_parts b.removes) t.metadata)
applied-metadata b t =
    fold-part added (λ rs q. put metadata_key q rs) (λ u. u.metadata) metadata_in added-metadata b.adds (fold ended (fold removed t b.removes) b.ends)
    ∙ ap (put_all metadata_key (filter_map metadata_in b.adds))
    (fold-still ended (λ u. u.metadata) (λ u e. still-metadata u e.0 e.1) b.ends (fold removed t b.removes)
    ∙ fold-part removed (λ rs p. without metadata_key p rs) (λ u. u.metadata) metadata_parts removed-metadata b.removes t)

added-snapshot : (t : Tables) (r : CatRow) → (added t r).snapshot ≡ maybe (λ rs q. put snapshot_key q rs) t.snapshot (snapshot_in r)
added-snapshot t (row.Snapshot r) = refl
added-snapshot t r = refl

removed-snapshot : (t : Tables) (k : Key) → (removed t k).snapshot ≡ maybe (λ rs p. without snapshot_key p rs) t.snapshot (snapshot_parts k)
removed-snapshot t (key.Snapshot a) = refl
removed-snapshot t k = refl

still-snapshot : (t : Tables) (k : Key) (n : ℕ) → (ended_row t k n).snapshot ≡ t.snapshot
still-snapshot t (key.Schema a) n = refl
still-snapshot t (key.Table a) n = refl
still-snapshot t (key.Column a b c) n = refl
still-snapshot t (key.DataFile a) n = refl
still-snapshot t (key.DeleteFile a) n = refl
still-snapshot t (key.Inlined a b c) n = refl
still-snapshot t k n = refl

pub applied-snapshot : (b : Batch) (t : Tables) → (applied b t).snapshot ≡ put_all snapshot_key (filter_map snapshot_in b.adds) (all_removed snapshot_key (filter_map snapshot_parts b.removes) t.snapshot)
applied-snapshot b t =
    fold-part added (λ rs q. put snapshot_key q rs) (λ u. u.snapshot) snapshot_in added-snapshot b.adds (fold ended (fold removed t b.removes) b.ends)
    ∙ ap (put_all snapshot_key (filter_map snapshot_in b.adds))
    (fold-still ended (λ u. u.snapshot) (λ u e. still-snapshot u e.0 e.1) b.ends (fold removed t b.removes)
    ∙ fold-part removed (λ rs p. without snapshot_key p rs) (λ u. u.snapshot) snapshot_parts removed-snapshot b.removes t)

added-snapshot_changes : (t : Tables) (r : CatRow) → (added t r).snapshot_changes ≡ maybe (λ rs q. put snapshot_changes_key q rs) t.snapshot_changes (snapshot_changes_in r)
added-snapshot_changes t (row.SnapshotChanges r) = refl
added-snapshot_changes t r = refl

removed-snapshot_changes : (t : Tables) (k : Key) → (removed t k).snapshot_changes ≡ maybe (λ rs p. without snapshot_changes_key p rs) t.snapshot_changes (snapshot_changes_parts k)
removed-snapshot_changes t (key.SnapshotChanges a) = refl
removed-snapshot_changes t k = refl

still-snapshot_changes : (t : Tables) (k : Key) (n : ℕ) → (ended_row t k n).snapshot_changes ≡ t.snapshot_changes
still-snapshot_changes t (key.Schema a) n = refl
still-snapshot_changes t (key.Table a) n = refl
still-snapshot_changes t (key.Column a b c) n = refl
still-snapshot_changes t (key.DataFile a) n = refl
still-snapshot_changes t (key.DeleteFile a) n = refl
still-snapshot_changes t (key.Inlined a b c) n = refl
still-snapshot_changes t k n = refl

pub applied-snapshot_changes : (b : Batch) (t : Tables) → (applied b t).snapshot_changes ≡ put_all snapshot_changes_key (filter_map snapshot_changes_in b.adds) (all_removed snapshot_changes_key (filter_map snapshot_changes_parts b.removes) t.snapshot_changes)
applied-snapshot_changes b t =
    fold-part added (λ rs q. put snapshot_changes_key q rs) (λ u. u.snapshot_changes) snapshot_changes_in added-snapshot_changes b.adds (fold ended (fold removed t b.removes) b.ends)
    ∙ ap (put_all snapshot_changes_key (filter_map snapshot_changes_in b.adds))
    (fold-still ended (λ u. u.snapshot_changes) (λ u e. still-snapshot_changes u e.0 e.1) b.ends (fold removed t b.removes)
    ∙ fold-part removed (λ rs p. without snapshot_changes_key p rs) (λ u. u.snapshot_changes) snapshot_changes_parts removed-snapshot_changes b.removes t)

added-file_column_stats : (t : Tables) (r : CatRow) → (added t r).file_column_stats ≡ maybe (λ rs q. put file_column_stats_key q rs) t.file_column_stats (file_column_stats_in r)
added-file_column_stats t (row.FileColumnStats r) = refl
added-file_column_stats t r = refl

removed-file_column_stats : (t : Tables) (k : Key) → (removed t k).file_column_stats ≡ maybe (λ rs p. without file_column_stats_key p rs) t.file_column_stats (file_column_stats_parts k)
removed-file_column_stats t (key.FileColumnStats a b) = refl
removed-file_column_stats t k = refl

still-file_column_stats : (t : Tables) (k : Key) (n : ℕ) → (ended_row t k n).file_column_stats ≡ t.file_column_stats
still-file_column_stats t (key.Schema a) n = refl
still-file_column_stats t (key.Table a) n = refl
still-file_column_stats t (key.Column a b c) n = refl
still-file_column_stats t (key.DataFile a) n = refl
still-file_column_stats t (key.DeleteFile a) n = refl
still-file_column_stats t (key.Inlined a b c) n = refl
still-file_column_stats t k n = refl

pub applied-file_column_stats : (b : Batch) (t : Tables) → (applied b t).file_column_stats ≡ put_all file_column_stats_key (filter_map file_column_stats_in b.adds) (all_removed file_column_stats_key (filter_map file_column_stats_parts b.removes) t.file_column_stats)
applied-file_column_stats b t =
    fold-part added (λ rs q. put file_column_stats_key q rs) (λ u. u.file_column_stats) file_column_stats_in added-file_column_stats b.adds (fold ended (fold removed t b.removes) b.ends)
    ∙ ap (put_all file_column_stats_key (filter_map file_column_stats_in b.adds))
    (fold-still ended (λ u. u.file_column_stats) (λ u e. still-file_column_stats u e.0 e.1) b.ends (fold removed t b.removes)
    ∙ fold-part removed (λ rs p. without file_column_stats_key p rs) (λ u. u.file_column_stats) file_column_stats_parts removed-file_column_stats b.removes t)

added-table_stats : (t : Tables) (r : CatRow) → (added t r).table_stats ≡ maybe (λ rs q. put table_stats_key q rs) t.table_stats (table_stats_in r)
added-table_stats t (row.TableStats r) = refl
added-table_stats t r = refl

removed-table_stats : (t : Tables) (k : Key) → (removed t k).table_stats ≡ maybe (λ rs p. without table_stats_key p rs) t.table_stats (table_stats_parts k)
removed-table_stats t (key.TableStats a) = refl
removed-table_stats t k = refl

still-table_stats : (t : Tables) (k : Key) (n : ℕ) → (ended_row t k n).table_stats ≡ t.table_stats
still-table_stats t (key.Schema a) n = refl
still-table_stats t (key.Table a) n = refl
still-table_stats t (key.Column a b c) n = refl
still-table_stats t (key.DataFile a) n = refl
still-table_stats t (key.DeleteFile a) n = refl
still-table_stats t (key.Inlined a b c) n = refl
still-table_stats t k n = refl

pub applied-table_stats : (b : Batch) (t : Tables) → (applied b t).table_stats ≡ put_all table_stats_key (filter_map table_stats_in b.adds) (all_removed table_stats_key (filter_map table_stats_parts b.removes) t.table_stats)
applied-table_stats b t =
    fold-part added (λ rs q. put table_stats_key q rs) (λ u. u.table_stats) table_stats_in added-table_stats b.adds (fold ended (fold removed t b.removes) b.ends)
    ∙ ap (put_all table_stats_key (filter_map table_stats_in b.adds))
    (fold-still ended (λ u. u.table_stats) (λ u e. still-table_stats u e.0 e.1) b.ends (fold removed t b.removes)
    ∙ fold-part removed (λ rs p. without table_stats_key p rs) (λ u. u.table_stats) table_stats_parts removed-table_stats b.removes t)

added-scheduled_file : (t : Tables) (r : CatRow) → (added t r).scheduled_file ≡ maybe (λ rs q. put scheduled_file_key q rs) t.scheduled_file (scheduled_file_in r)
added-scheduled_file t (row.ScheduledFile r) = refl
added-scheduled_file t r = refl

removed-scheduled_file : (t : Tables) (k : Key) → (removed t k).scheduled_file ≡ maybe (λ rs p. without scheduled_file_key p rs) t.scheduled_file (scheduled_file_parts k)
removed-scheduled_file t (key.ScheduledFile a) = refl
removed-scheduled_file t k = refl

still-scheduled_file : (t : Tables) (k : Key) (n : ℕ) → (ended_row t k n).scheduled_file ≡ t.scheduled_file
still-scheduled_file t (key.Schema a) n = refl
still-scheduled_file t (key.Table a) n = refl
still-scheduled_file t (key.Column a b c) n = refl
still-scheduled_file t (key.DataFile a) n = refl
still-scheduled_file t (key.DeleteFile a) n = refl
still-scheduled_file t (key.Inlined a b c) n = refl
still-scheduled_file t k n = refl

pub applied-scheduled_file : (b : Batch) (t : Tables) → (applied b t).scheduled_file ≡ put_all scheduled_file_key (filter_map scheduled_file_in b.adds) (all_removed scheduled_file_key (filter_map scheduled_file_parts b.removes) t.scheduled_file)
applied-scheduled_file b t =
    fold-part added (λ rs q. put scheduled_file_key q rs) (λ u. u.scheduled_file) scheduled_file_in added-scheduled_file b.adds (fold ended (fold removed t b.removes) b.ends)
    ∙ ap (put_all scheduled_file_key (filter_map scheduled_file_in b.adds))
    (fold-still ended (λ u. u.scheduled_file) (λ u e. still-scheduled_file u e.0 e.1) b.ends (fold removed t b.removes)
    ∙ fold-part removed (λ rs p. without scheduled_file_key p rs) (λ u. u.scheduled_file) scheduled_file_parts removed-scheduled_file b.removes t)

-- the tables once the rows of some keys are taken away
pub removed-by_table : (ks : List Key) (t : Tables) → fold removed t ks ≡ record { metadata = all_removed metadata_key (filter_map metadata_parts ks) t.metadata; snapshot = all_removed snapshot_key (filter_map snapshot_parts ks) t.snapshot; snapshot_changes = all_removed snapshot_changes_key (filter_map snapshot_changes_parts ks) t.snapshot_changes; schema = all_removed schema_key (filter_map schema_parts ks) t.schema; table = all_removed table_key (filter_map table_parts ks) t.table; column = all_removed column_key (filter_map column_parts ks) t.column; data_file = all_removed data_file_key (filter_map data_file_parts ks) t.data_file; delete_file = all_removed delete_file_key (filter_map delete_file_parts ks) t.delete_file; file_column_stats = all_removed file_column_stats_key (filter_map file_column_stats_parts ks) t.file_column_stats; table_stats = all_removed table_stats_key (filter_map table_stats_parts ks) t.table_stats; inlined_row = all_removed inlined_row_key (filter_map inlined_row_parts ks) t.inlined_row; scheduled_file = all_removed scheduled_file_key (filter_map scheduled_file_parts ks) t.scheduled_file }
removed-by_table ks t = λ i. record { metadata = fold-part removed (λ rs p. without metadata_key p rs) (λ u. u.metadata) metadata_parts removed-metadata ks t i; snapshot = fold-part removed (λ rs p. without snapshot_key p rs) (λ u. u.snapshot) snapshot_parts removed-snapshot ks t i; snapshot_changes = fold-part removed (λ rs p. without snapshot_changes_key p rs) (λ u. u.snapshot_changes) snapshot_changes_parts removed-snapshot_changes ks t i; schema = fold-part removed (λ rs p. without schema_key p rs) (λ u. u.schema) schema_parts removed-schema ks t i; table = fold-part removed (λ rs p. without table_key p rs) (λ u. u.table) table_parts removed-table ks t i; column = fold-part removed (λ rs p. without column_key p rs) (λ u. u.column) column_parts removed-column ks t i; data_file = fold-part removed (λ rs p. without data_file_key p rs) (λ u. u.data_file) data_file_parts removed-data_file ks t i; delete_file = fold-part removed (λ rs p. without delete_file_key p rs) (λ u. u.delete_file) delete_file_parts removed-delete_file ks t i; file_column_stats = fold-part removed (λ rs p. without file_column_stats_key p rs) (λ u. u.file_column_stats) file_column_stats_parts removed-file_column_stats ks t i; table_stats = fold-part removed (λ rs p. without table_stats_key p rs) (λ u. u.table_stats) table_stats_parts removed-table_stats ks t i; inlined_row = fold-part removed (λ rs p. without inlined_row_key p rs) (λ u. u.inlined_row) inlined_row_parts removed-inlined_row ks t i; scheduled_file = fold-part removed (λ rs p. without scheduled_file_key p rs) (λ u. u.scheduled_file) scheduled_file_parts removed-scheduled_file ks t i }

-- all tables at once
pub applied-by_table : AppliesByTable
applied-by_table b t = λ i. record { metadata = applied-metadata b t i; snapshot = applied-snapshot b t i; snapshot_changes = applied-snapshot_changes b t i; schema = applied-schema b t i; table = applied-table b t i; column = applied-column b t i; data_file = applied-data_file b t i; delete_file = applied-delete_file b t i; file_column_stats = applied-file_column_stats b t i; table_stats = applied-table_stats b t i; inlined_row = applied-inlined_row b t i; scheduled_file = applied-scheduled_file b t i }
