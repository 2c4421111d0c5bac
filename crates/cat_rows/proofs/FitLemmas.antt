-- When a batch fits, each addition finds its place free; and what the test of fitting answers.
use Rattle.std.proofs.Common.{◌≡◌, ◌≢◌, ◌&&◌, ◌||◌, ◌+◌, ◌<◌, ℕ, length, drop, get_or, Bool, true, false, not, List, [], ◌∷◌, map, refl, sym, ap, subst, ◌∙◌, is_some, true≢false, Decides, arith}
use Rattle.std.specs.Prelude.{fold, IsTrue}
use Rattle.std.specs.List.{AllByRecursion, list_all, slice_index}
use Rattle.std.proofs.lemmas.Bool.Decides.{Decides-and}
use Rattle.std.proofs.lemmas.List.{at_drop_more}
use Rattle.std.proofs.lemmas.Map.Text.{is_eq-slice_cmp}
use Rattle.std.proofs.lemmas.Slice.Eq.{bytes_eq-Decides}
use Rattle.cat_tables.specs.Validity.{ended_at}
use Rattle.cat_tables.proofs.FrameLemmas.{key-ended_at}
use Rattle.cat_tables.proofs.KeyLemmas.{key_apart, key_eq}
use Rattle.cat_tables.proofs.RowLemmas.{LacksKey-row_of, row_of-put, is_some-row_of-edited, row_of-without, row_of-without_other}
use Rattle.cat_rows.specs.Batches.{added, removed, ended, ended_row, key_of, holds, is_open, AllDiffer, Fits}
use Rattle.cat_rows.specs.Keys.{metadata_key, snapshot_key, snapshot_changes_key, schema_key, table_key, column_key, data_file_key, delete_file_key, file_column_stats_key, table_stats_key, inlined_row_key, scheduled_file_key}
use Rattle.cat_rows.specs.Validities.{schema_validity, schema_laws, table_validity, table_laws, column_validity, column_laws, data_file_validity, data_file_laws, delete_file_validity, delete_file_laws, inlined_row_validity, inlined_row_laws}
use Rattle.cat_rows.specs.Places.{place}
use Rattle.cat_rows.specs.Steps.{IsFresh, AreFresh, is_same, is_among, has_place, all_differ, passes}
use Rattle.cat_rows.specs.Tables.{Tables}
use Rattle.cat_rows.specs.declared.batch.Batch.{Batch}
use Rattle.cat_rows.specs.declared.batch.CatRow.{CatRow}
use Rattle.cat_rows.specs.declared.batch.CatRow.TheVariants as row
use Rattle.cat_rows.specs.declared.batch.Key.{Key}
use Rattle.cat_rows.specs.declared.batch.Key.TheVariants as key

-- where no row has the key of one, its place is free
pub IsFresh-holds : (t : Tables) (r : CatRow) → holds t (key_of r) ≡ false → IsFresh t r
IsFresh-holds t (row.Metadata r) h = LacksKey-row_of metadata_key (metadata_key r) t.metadata h
IsFresh-holds t (row.Snapshot r) h = LacksKey-row_of snapshot_key (snapshot_key r) t.snapshot h
IsFresh-holds t (row.SnapshotChanges r) h = LacksKey-row_of snapshot_changes_key (snapshot_changes_key r) t.snapshot_changes h
IsFresh-holds t (row.Schema r) h = LacksKey-row_of schema_key (schema_key r) t.schema h
IsFresh-holds t (row.Table r) h = LacksKey-row_of table_key (table_key r) t.table h
IsFresh-holds t (row.Column r) h = LacksKey-row_of column_key (column_key r) t.column h
IsFresh-holds t (row.DataFile r) h = LacksKey-row_of data_file_key (data_file_key r) t.data_file h
IsFresh-holds t (row.DeleteFile r) h = LacksKey-row_of delete_file_key (delete_file_key r) t.delete_file h
IsFresh-holds t (row.FileColumnStats r) h = LacksKey-row_of file_column_stats_key (file_column_stats_key r) t.file_column_stats h
IsFresh-holds t (row.TableStats r) h = LacksKey-row_of table_stats_key (table_stats_key r) t.table_stats h
IsFresh-holds t (row.Inlined r) h = LacksKey-row_of inlined_row_key (inlined_row_key r) t.inlined_row h
IsFresh-holds t (row.ScheduledFile r) h = LacksKey-row_of scheduled_file_key (scheduled_file_key r) t.scheduled_file h

-- another row changes nothing of a key
holds-added : (t : Tables) (r : CatRow) (k : Key) → key_of r ≢ k → holds (added t r) k ≡ holds t k
holds-added t (row.Metadata r) (key.Metadata a) apart = ap is_some (row_of-put metadata_key r a t.metadata (key_apart (metadata_key r) a (λ e. apart cc)))
holds-added t (row.Snapshot r) (key.Snapshot a) apart = ap is_some (row_of-put snapshot_key r (a ∷ []) t.snapshot (key_apart (snapshot_key r) (a ∷ []) (λ e. apart cc)))
holds-added t (row.SnapshotChanges r) (key.SnapshotChanges a) apart = ap is_some (row_of-put snapshot_changes_key r (a ∷ []) t.snapshot_changes (key_apart (snapshot_changes_key r) (a ∷ []) (λ e. apart cc)))
holds-added t (row.Schema r) (key.Schema a) apart = ap is_some (row_of-put schema_key r (a ∷ []) t.schema (key_apart (schema_key r) (a ∷ []) (λ e. apart cc)))
holds-added t (row.Table r) (key.Table a) apart = ap is_some (row_of-put table_key r (a ∷ []) t.table (key_apart (table_key r) (a ∷ []) (λ e. apart cc)))
holds-added t (row.Column r) (key.Column a b c) apart = ap is_some (row_of-put column_key r (a ∷ b ∷ c ∷ []) t.column (key_apart (column_key r) (a ∷ b ∷ c ∷ []) (λ e. apart cc)))
holds-added t (row.DataFile r) (key.DataFile a) apart = ap is_some (row_of-put data_file_key r (a ∷ []) t.data_file (key_apart (data_file_key r) (a ∷ []) (λ e. apart cc)))
holds-added t (row.DeleteFile r) (key.DeleteFile a) apart = ap is_some (row_of-put delete_file_key r (a ∷ []) t.delete_file (key_apart (delete_file_key r) (a ∷ []) (λ e. apart cc)))
holds-added t (row.FileColumnStats r) (key.FileColumnStats a b) apart = ap is_some (row_of-put file_column_stats_key r (a ∷ b ∷ []) t.file_column_stats (key_apart (file_column_stats_key r) (a ∷ b ∷ []) (λ e. apart cc)))
holds-added t (row.TableStats r) (key.TableStats a) apart = ap is_some (row_of-put table_stats_key r (a ∷ []) t.table_stats (key_apart (table_stats_key r) (a ∷ []) (λ e. apart cc)))
holds-added t (row.Inlined r) (key.Inlined a b c) apart = ap is_some (row_of-put inlined_row_key r (a ∷ b ∷ c ∷ []) t.inlined_row (key_apart (inlined_row_key r) (a ∷ b ∷ c ∷ []) (λ e. apart cc)))
holds-added t (row.ScheduledFile r) (key.ScheduledFile a) apart = ap is_some (row_of-put scheduled_file_key r a t.scheduled_file (key_apart (scheduled_file_key r) a (λ e. apart cc)))
holds-added t r k apart = refl

-- an end takes no row away
holds-ended_row : (t : Tables) (l : Key) (n : ℕ) (k : Key) → holds (ended_row t l n) k ≡ holds t k
holds-ended_row t (key.Schema x) n (key.Schema a) = is_some-row_of-edited schema_key (ended_at schema_validity n) (x ∷ []) (a ∷ []) (key-ended_at schema_key schema_validity schema_laws n) t.schema
holds-ended_row t (key.Table x) n (key.Table a) = is_some-row_of-edited table_key (ended_at table_validity n) (x ∷ []) (a ∷ []) (key-ended_at table_key table_validity table_laws n) t.table
holds-ended_row t (key.Column x y z) n (key.Column a b c) = is_some-row_of-edited column_key (ended_at column_validity n) (x ∷ y ∷ z ∷ []) (a ∷ b ∷ c ∷ []) (key-ended_at column_key column_validity column_laws n) t.column
holds-ended_row t (key.DataFile x) n (key.DataFile a) = is_some-row_of-edited data_file_key (ended_at data_file_validity n) (x ∷ []) (a ∷ []) (key-ended_at data_file_key data_file_validity data_file_laws n) t.data_file
holds-ended_row t (key.DeleteFile x) n (key.DeleteFile a) = is_some-row_of-edited delete_file_key (ended_at delete_file_validity n) (x ∷ []) (a ∷ []) (key-ended_at delete_file_key delete_file_validity delete_file_laws n) t.delete_file
holds-ended_row t (key.Inlined x y z) n (key.Inlined a b c) = is_some-row_of-edited inlined_row_key (ended_at inlined_row_validity n) (x ∷ y ∷ z ∷ []) (a ∷ b ∷ c ∷ []) (key-ended_at inlined_row_key inlined_row_validity inlined_row_laws n) t.inlined_row
holds-ended_row t l n k = refl

holds-all_ended : (ends : List (Key × ℕ)) (t : Tables) (k : Key) → holds (fold ended t ends) k ≡ holds t k
holds-all_ended [] t k = refl
holds-all_ended (e ∷ ends) t k = holds-all_ended ends (ended t e) k ∙ holds-ended_row t e.0 e.1 k

all_holds : (t u : Tables) (rs : List CatRow) → ((k : Key) → holds u k ≡ holds t k) → AllByRecursion (λ r. holds t (key_of r) ≡ false) rs → AllByRecursion (λ r. holds u (key_of r) ≡ false) rs
all_holds t u [] same h = tt
all_holds t u (r ∷ rs) same h = (same (key_of r) ∙ h.0, all_holds t u rs same h.1)

lacking_after : (t : Tables) (r : CatRow) (rs : List CatRow) → AllByRecursion (λ k. key_of r ≢ k) (map key_of rs) → AllByRecursion (λ q. holds t (key_of q) ≡ false) rs → AllByRecursion (λ q. holds (added t r) (key_of q) ≡ false) rs
lacking_after t r [] apart h = tt
lacking_after t r (q ∷ rs) apart h = (holds-added t r (key_of q) apart.0 ∙ h.0, lacking_after t r rs apart.1 h.1)

AreFresh-lacking : (t : Tables) (rs : List CatRow) → AllDiffer (map key_of rs) → AllByRecursion (λ r. holds t (key_of r) ≡ false) rs → AreFresh t rs
AreFresh-lacking t [] apart h = tt
AreFresh-lacking t (r ∷ rs) apart h = (IsFresh-holds t r h.0, AreFresh-lacking (added t r) rs apart.1 (lacking_after t r rs apart.0 h.1))

-- Of a batch that fits each addition's place is free when its turn comes.
pub AreFresh-fits : (t : Tables) (b : Batch) → Fits t b → AreFresh (fold ended (fold removed t b.removes) b.ends) b.adds
AreFresh-fits t b fits =
    let gone = fold removed t b.removes in
    AreFresh-lacking (fold ended gone b.ends) b.adds fits.adds_differ (all_holds gone (fold ended gone b.ends) b.adds (holds-all_ended b.ends gone) fits.added_new)

pub ruleset fitting = (AreFresh-fits)

-- ---- keys are told apart by their places

same_place : (k l : Key) → place k ≡ place l → k ≡ l
same_place (key.Metadata a) (key.Metadata x) e = cc
same_place (key.Snapshot a) (key.Snapshot x) e = cc
same_place (key.SnapshotChanges a) (key.SnapshotChanges x) e = cc
same_place (key.Schema a) (key.Schema x) e = cc
same_place (key.Table a) (key.Table x) e = cc
same_place (key.Column a b c) (key.Column x y z) e = cc
same_place (key.DataFile a) (key.DataFile x) e = cc
same_place (key.DeleteFile a) (key.DeleteFile x) e = cc
same_place (key.FileColumnStats a b) (key.FileColumnStats x y) e = cc
same_place (key.TableStats a) (key.TableStats x) e = cc
same_place (key.Inlined a b c) (key.Inlined x y z) e = cc
same_place (key.ScheduledFile a) (key.ScheduledFile x) e = cc
same_place k l e = let rank : slice_index (place k) 0 ≡ slice_index (place l) 0 = ap (λ p. slice_index p 0) e in absurd (omega (arith, rank))

is_same-itself : (k : Key) → is_same k k ≡ true
is_same-itself k = is_eq-slice_cmp (place k) (place k) ∙ (bytes_eq-Decides (place k) (place k)).1 refl

same_is : (k l : Key) → is_same k l ≡ true → k ≡ l
same_is k l h = same_place k l (key_eq (place k) (place l) h)

pub Decides-is_same : (k l : Key) → Decides (is_same k l) (k ≡ l)
Decides-is_same k l = (same_is k l, λ e. ap (is_same k) (sym e) ∙ is_same-itself k)

-- a test of each element decides a fact of each
Decides-each : {X : Type 0} (p : X → Bool) (P : X → Type 0) → ((x : X) → Decides (p x) (P x)) → (xs : List X) → Decides (list_all p xs) (AllByRecursion P xs)
Decides-each p P each [] = (λ e. tt, λ h. refl)
Decides-each p P each (x ∷ xs) = Decides-and (p x) (list_all p xs) (each x) (Decides-each p P each xs)

-- none of these is the key
Decides-none : (keys : List Key) (k : Key) → Decides (not (is_among keys k)) (AllByRecursion (λ l. l ≢ k) keys)
Decides-none [] k = (λ e. tt, λ h. refl)
Decides-none (l ∷ keys) k = go (is_same l k) (is_among keys k) (Decides-is_same l k) (Decides-none keys k)
  where
    go : (s a : Bool) → Decides s (l ≡ k) → Decides (not a) (AllByRecursion (λ m. m ≢ k) keys) → Decides (not (s || a)) ((l ≢ k) × AllByRecursion (λ m. m ≢ k) keys)
    go true a same rest = (λ e. absurd (true≢false (sym e)), λ h. absurd (h.0 (same.0 refl)))
    go false a same rest = (λ e. (λ q. true≢false (sym (same.1 q)), rest.0 e), λ h. rest.1 h.1)

Decides-lacks : {X : Type 0} (key_in : X → Key) (k : Key) (xs : List X) → Decides (not (has_place key_in xs (place k))) (AllByRecursion (λ l. k ≢ l) (map key_in xs))
Decides-lacks key_in k [] = (λ e. tt, λ h. refl)
Decides-lacks key_in k (x ∷ xs) = go (is_same (key_in x) k) (has_place key_in xs (place k)) (Decides-is_same (key_in x) k) (Decides-lacks key_in k xs)
  where
    go : (s a : Bool) → Decides s (key_in x ≡ k) → Decides (not a) (AllByRecursion (λ m. k ≢ m) (map key_in xs)) → Decides (not (s || a)) ((k ≢ key_in x) × AllByRecursion (λ m. k ≢ m) (map key_in xs))
    go true a same rest = (λ e. absurd (true≢false (sym e)), λ h. absurd (h.0 (sym (same.0 refl))))
    go false a same rest = (λ e. (λ q. true≢false (sym (same.1 (sym q))), rest.0 e), λ h. rest.1 h.1)

Decides-differ : {X : Type 0} (key_in : X → Key) (xs : List X) → Decides (all_differ key_in xs) (AllDiffer (map key_in xs))
Decides-differ key_in [] = (λ e. tt, λ h. refl)
Decides-differ key_in (x ∷ xs) = Decides-and (not (has_place key_in xs (place (key_in x)))) (all_differ key_in xs) (Decides-lacks key_in (key_in x) xs) (Decides-differ key_in xs)

map_itself : {X : Type 0} (xs : List X) → map (λ x. x) xs ≡ xs
map_itself [] = refl
map_itself (x ∷ xs) = ap (λ l. x ∷ l) (map_itself xs)

-- a key is there after one is removed where it was and is another one
holds-removed_itself : (t : Tables) (k : Key) → holds (removed t k) k ≡ false
holds-removed_itself t (key.Metadata a) = ap is_some (row_of-without metadata_key a t.metadata)
holds-removed_itself t (key.Snapshot a) = ap is_some (row_of-without snapshot_key (a ∷ []) t.snapshot)
holds-removed_itself t (key.SnapshotChanges a) = ap is_some (row_of-without snapshot_changes_key (a ∷ []) t.snapshot_changes)
holds-removed_itself t (key.Schema a) = ap is_some (row_of-without schema_key (a ∷ []) t.schema)
holds-removed_itself t (key.Table a) = ap is_some (row_of-without table_key (a ∷ []) t.table)
holds-removed_itself t (key.Column a b c) = ap is_some (row_of-without column_key (a ∷ b ∷ c ∷ []) t.column)
holds-removed_itself t (key.DataFile a) = ap is_some (row_of-without data_file_key (a ∷ []) t.data_file)
holds-removed_itself t (key.DeleteFile a) = ap is_some (row_of-without delete_file_key (a ∷ []) t.delete_file)
holds-removed_itself t (key.FileColumnStats a b) = ap is_some (row_of-without file_column_stats_key (a ∷ b ∷ []) t.file_column_stats)
holds-removed_itself t (key.TableStats a) = ap is_some (row_of-without table_stats_key (a ∷ []) t.table_stats)
holds-removed_itself t (key.Inlined a b c) = ap is_some (row_of-without inlined_row_key (a ∷ b ∷ c ∷ []) t.inlined_row)
holds-removed_itself t (key.ScheduledFile a) = ap is_some (row_of-without scheduled_file_key a t.scheduled_file)

holds-removed_other : (t : Tables) (l k : Key) → l ≢ k → holds (removed t l) k ≡ holds t k
holds-removed_other t (key.Metadata x) (key.Metadata a) apart = ap is_some (row_of-without_other metadata_key x a t.metadata (key_apart x a (λ e. apart cc)))
holds-removed_other t (key.Snapshot x) (key.Snapshot a) apart = ap is_some (row_of-without_other snapshot_key (x ∷ []) (a ∷ []) t.snapshot (key_apart (x ∷ []) (a ∷ []) (λ e. apart cc)))
holds-removed_other t (key.SnapshotChanges x) (key.SnapshotChanges a) apart = ap is_some (row_of-without_other snapshot_changes_key (x ∷ []) (a ∷ []) t.snapshot_changes (key_apart (x ∷ []) (a ∷ []) (λ e. apart cc)))
holds-removed_other t (key.Schema x) (key.Schema a) apart = ap is_some (row_of-without_other schema_key (x ∷ []) (a ∷ []) t.schema (key_apart (x ∷ []) (a ∷ []) (λ e. apart cc)))
holds-removed_other t (key.Table x) (key.Table a) apart = ap is_some (row_of-without_other table_key (x ∷ []) (a ∷ []) t.table (key_apart (x ∷ []) (a ∷ []) (λ e. apart cc)))
holds-removed_other t (key.Column x y z) (key.Column a b c) apart = ap is_some (row_of-without_other column_key (x ∷ y ∷ z ∷ []) (a ∷ b ∷ c ∷ []) t.column (key_apart (x ∷ y ∷ z ∷ []) (a ∷ b ∷ c ∷ []) (λ e. apart cc)))
holds-removed_other t (key.DataFile x) (key.DataFile a) apart = ap is_some (row_of-without_other data_file_key (x ∷ []) (a ∷ []) t.data_file (key_apart (x ∷ []) (a ∷ []) (λ e. apart cc)))
holds-removed_other t (key.DeleteFile x) (key.DeleteFile a) apart = ap is_some (row_of-without_other delete_file_key (x ∷ []) (a ∷ []) t.delete_file (key_apart (x ∷ []) (a ∷ []) (λ e. apart cc)))
holds-removed_other t (key.FileColumnStats x y) (key.FileColumnStats a b) apart = ap is_some (row_of-without_other file_column_stats_key (x ∷ y ∷ []) (a ∷ b ∷ []) t.file_column_stats (key_apart (x ∷ y ∷ []) (a ∷ b ∷ []) (λ e. apart cc)))
holds-removed_other t (key.TableStats x) (key.TableStats a) apart = ap is_some (row_of-without_other table_stats_key (x ∷ []) (a ∷ []) t.table_stats (key_apart (x ∷ []) (a ∷ []) (λ e. apart cc)))
holds-removed_other t (key.Inlined x y z) (key.Inlined a b c) apart = ap is_some (row_of-without_other inlined_row_key (x ∷ y ∷ z ∷ []) (a ∷ b ∷ c ∷ []) t.inlined_row (key_apart (x ∷ y ∷ z ∷ []) (a ∷ b ∷ c ∷ []) (λ e. apart cc)))
holds-removed_other t (key.ScheduledFile x) (key.ScheduledFile a) apart = ap is_some (row_of-without_other scheduled_file_key x a t.scheduled_file (key_apart x a (λ e. apart cc)))
holds-removed_other t l k apart = refl

holds-removed : (t : Tables) (l k : Key) → holds (removed t l) k ≡ (holds t k && not (is_same l k))
holds-removed t l k = go (is_same l k) (Decides-is_same l k)
  where
    and_true : (b : Bool) → b ≡ (b && true)
    and_true true = refl
    and_true false = refl

    and_false : (b : Bool) → false ≡ (b && false)
    and_false true = refl
    and_false false = refl

    go : (s : Bool) → Decides s (l ≡ k) → holds (removed t l) k ≡ (holds t k && not s)
    go true same = subst (λ m. holds (removed t m) k ≡ (holds t k && false)) (sym (same.0 refl)) (holds-removed_itself t k ∙ and_false (holds t k))
    go false same = holds-removed_other t l k (λ e. true≢false (sym (same.1 e))) ∙ and_true (holds t k)

holds-all_removed : (keys : List Key) (t : Tables) (k : Key) → holds (fold removed t keys) k ≡ (holds t k && not (is_among keys k))
holds-all_removed [] t k = go (holds t k)
  where
    go : (b : Bool) → b ≡ (b && true)
    go true = refl
    go false = refl
holds-all_removed (l ∷ keys) t k = holds-all_removed keys (removed t l) k ∙ ap (λ b. b && not (is_among keys k)) (holds-removed t l k) ∙ go (holds t k) (is_same l k) (is_among keys k)
  where
    go : (h s a : Bool) → ((h && not s) && not a) ≡ (h && not (s || a))
    go true true a = refl
    go true false a = refl
    go false s a = refl

Decides-new : (t : Tables) (removes : List Key) (r : CatRow) → Decides (not (holds t (key_of r)) || is_among removes (key_of r)) (holds (fold removed t removes) (key_of r) ≡ false)
Decides-new t removes r = subst (λ b. Decides (not (holds t (key_of r)) || is_among removes (key_of r)) (b ≡ false)) (sym (holds-all_removed removes t (key_of r))) (go (holds t (key_of r)) (is_among removes (key_of r)))
  where
    go : (h a : Bool) → Decides (not h || a) ((h && not a) ≡ false)
    go true true = (λ e. refl, λ e. refl)
    go true false = (λ e. absurd (true≢false (sym e)), λ e. absurd (true≢false e))
    go false a = (λ e. refl, λ e. refl)

all_of_pairs : {X : Type 0} (P Q : X → Type 0) (xs : List X) → AllByRecursion (λ x. P x × Q x) xs → AllByRecursion P xs × AllByRecursion Q xs
all_of_pairs P Q [] h = (tt, tt)
all_of_pairs P Q (x ∷ xs) h = let rest = all_of_pairs P Q xs h.1 in ((h.0.0, rest.0), (h.0.1, rest.1))

pairs_of_all : {X : Type 0} (P Q : X → Type 0) (xs : List X) → AllByRecursion P xs → AllByRecursion Q xs → AllByRecursion (λ x. P x × Q x) xs
pairs_of_all P Q [] p q = tt
pairs_of_all P Q (x ∷ xs) p q = ((p.0, q.0), pairs_of_all P Q xs p.1 q.1)

-- The test passes exactly where the batch fits.
pub Decides-passes : (t : Tables) (b : Batch) → Decides (passes t b.removes b.ends b.adds) (Fits t b)
Decides-passes t b =
    let removes_differ = Decides-differ (λ k. k) b.removes in
    let ends_differ = Decides-differ (λ (e : Key × ℕ). e.0) b.ends in
    let adds_differ = Decides-differ key_of b.adds in
    let there = Decides-each (holds t) (λ k. IsTrue (holds t k)) (λ k. (λ e. e, λ e. e)) b.removes in
    let Opens : Key × ℕ → Type 0 = λ e. IsTrue (is_open t e.0) in
    let Stays : Key × ℕ → Type 0 = λ e. AllByRecursion (λ k. k ≢ e.0) b.removes in
    let opened = Decides-each (λ (e : Key × ℕ). is_open t e.0 && not (is_among b.removes e.0)) (λ e. Opens e × Stays e) (λ e. Decides-and (is_open t e.0) (not (is_among b.removes e.0)) (λ x. x, λ x. x) (Decides-none b.removes e.0)) b.ends in
    let fresh = Decides-each (λ r. not (holds t (key_of r)) || is_among b.removes (key_of r)) (λ r. holds (fold removed t b.removes) (key_of r) ≡ false) (Decides-new t b.removes) b.adds in
    let all = Decides-and _ _ (Decides-and _ _ (Decides-and _ _ (Decides-and _ _ (Decides-and _ _ removes_differ ends_differ) adds_differ) there) opened) fresh in (
      λ e. (let p = all.0 e in
          let o = all_of_pairs Opens Stays b.ends p.0.1 in
          record {
            removes_differ = subst AllDiffer (map_itself b.removes) p.0.0.0.0.0;
            ends_differ = p.0.0.0.0.1;
            adds_differ = p.0.0.0.1;
            removed_there = p.0.0.1;
            ended_open = o.0;
            ended_stay = o.1;
            added_new = p.1;
          }),
      λ f. all.1 (((((subst AllDiffer (sym (map_itself b.removes)) f.removes_differ, f.ends_differ), f.adds_differ), f.removed_there), pairs_of_all Opens Stays b.ends f.ended_open f.ended_stay), f.added_new),
    )

-- one turn of the loop over a list
module _ {X : Type 0} (key_in : X → Key) where
  turn : (xs : List X) (i : ℕ) (x : X) → i < length xs → x ≡ get_or xs i x → all_differ key_in (drop i xs) ≡ (not (has_place key_in (drop (i + 1) xs) (place (key_in x))) && all_differ key_in (drop (i + 1) xs))
  turn xs i x within is = at_drop_more (all_differ key_in) xs i x within ∙ ap (λ y. not (has_place key_in (drop (i + 1) xs) (place (key_in y))) && all_differ key_in (drop (i + 1) xs)) (sym is)

  pub differ_stops : (xs : List X) (i : ℕ) (x : X) → i < length xs → x ≡ get_or xs i x → has_place key_in (drop (i + 1) xs) (place (key_in x)) ≡ true → all_differ key_in (drop i xs) ≡ all_differ key_in xs → false ≡ all_differ key_in xs
  differ_stops xs i x within is again same = sym (ap (λ b. not b && all_differ key_in (drop (i + 1) xs)) again) ∙ sym (turn xs i x within is) ∙ same

  pub differ_goes_on : (xs : List X) (i : ℕ) (x : X) → i < length xs → x ≡ get_or xs i x → has_place key_in (drop (i + 1) xs) (place (key_in x)) ≡ false → all_differ key_in (drop i xs) ≡ all_differ key_in xs → all_differ key_in (drop (i + 1) xs) ≡ all_differ key_in xs
  differ_goes_on xs i x within is other same = sym (ap (λ b. not b && all_differ key_in (drop (i + 1) xs)) other) ∙ sym (turn xs i x within is) ∙ same
