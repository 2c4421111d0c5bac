-- Live files, each of its data file's row.
use Rattle.std.proofs.Common.{◌≡◌, ℕ, ◌==◌, ◌||◌, Bool, true, false, List, [], ◌∷◌, ◌++◌, map, zero, suc, Option, Some, None, Result, Ok, Err, refl, sym, ap, subst, ◌∙◌}
use Rattle.std.specs.Prelude.{IfOk, IfSome}
use Rattle.std.specs.Arc.{arc_value}
use Rattle.std.specs.List.{AllByRecursion, AllZip, cons_option, list_any, slice_get}
use Rattle.std.specs.declared.sync.Arc.{Arc}
use Rattle.std.proofs.lemmas.Bool.{eq-eqb}
use Rattle.std.proofs.lemmas.List.{map-append}
use Rattle.lake_types.specs.declared.value.Column.{Column}
use Rattle.col_stats.specs.declared.stats.ColStats.{ColStats}
use Rattle.cat_rows.specs.Tables.{Tables}
use Rattle.cat_rows.specs.declared.files.DataFileRow.{DataFileRow}
use Rattle.cat_rows.specs.declared.files.DeleteFileRow.{DeleteFileRow}
use Rattle.cat_view.specs.Groups.{rows_at, rows_of}
use Rattle.cat_view.specs.Held.{AreCopies}
use Rattle.cat_view.specs.LiveFiles.{AreFilePlaces, AreLive, IsLive, delete_at, file_ids}
use Rattle.cat_view.specs.Owners.{stats_owner}
use Rattle.cat_view.specs.Sight.{file_with}
use Rattle.cat_view.specs.Stats.{AreRead}
use Rattle.cat_view.specs.Views.{named_file}
use Rattle.cat_view.specs.declared.files.FilePlaces.{FilePlaces}
use Rattle.cat_view.specs.declared.held.HeldFile.{HeldFile}
use Rattle.cat_view.specs.declared.live.LiveFile.{LiveFile}
use Rattle.cat_view.proofs.InlinedLemmas.{zip-push}

pub one_file : {F A : Type 0} (name : F → List ℕ) (held : List (HeldFile F)) (s : ℕ) (t : Tables) (columns : List Column) (size part : F → ℕ) (bytes : F → Option (List ℕ))
    (files now : List (Arc (LiveFile F) A)) (row : DataFileRow) (shared : Arc (LiveFile F) A) → IsLive name held s t columns size part bytes row (arc_value shared) → now ≡ files ++ shared ∷ []
    → (seen : List DataFileRow) → AreLive name held s t columns size part bytes seen files → AreLive name held s t columns size part bytes (seen ++ row ∷ []) now
one_file name held s t columns size part bytes files now row shared one is seen all =
    subst (λ fs. AllZip (IsLive name held s t columns size part bytes) (seen ++ row ∷ []) (map (λ f. arc_value f) fs)) (sym is)
    (subst (AllZip (IsLive name held s t columns size part bytes) (seen ++ row ∷ [])) (sym (map-append (λ f. arc_value f) files (shared ∷ [])))
    (zip-push (IsLive name held s t columns size part bytes) seen (map (λ f. arc_value f) files) row (arc_value shared) all one))

-- each id is among all
module _ {X : Type 0} (id : X → ℕ) where
  known_in : (xs : List X) (n : ℕ) → list_any (λ m. m == n) (map id xs) ≡ true → (x : X) → list_any (λ m. m == n) (map id (x ∷ xs)) ≡ true
  known_in xs n known x = go (id x == n)
    where
      go : (b : Bool) → (b || list_any (λ m. m == n) (map id xs)) ≡ true
      go true = refl
      go false = known

  known_from : (xs all : List X) → ((n : ℕ) → list_any (λ m. m == n) (map id xs) ≡ true → list_any (λ m. m == n) (map id all) ≡ true)
      → AllByRecursion (λ x. list_any (λ m. m == id x) (map id all) ≡ true) xs
  known_from [] all up = tt
  known_from (x ∷ xs) all up =
      (up (id x) (ap (λ b. b || list_any (λ m. m == id x) (map id xs)) (eq-eqb (id x) (id x) refl)), known_from xs all (λ n known. up n (known_in xs n known x)))

  pub each_known : (xs : List X) → AllByRecursion (λ x. list_any (λ m. m == id x) (map id xs) ≡ true) xs
  each_known xs = known_from xs xs (λ n known. known)

all_at_places : {R : Type 0} (P : R → Type 0) (rows : List R) (places : List ℕ) → AllByRecursion P rows → AllByRecursion P (rows_at rows places)
all_at_places P rows [] all = tt
all_at_places {R = R} P rows (p ∷ places) all = go (slice_get rows p) (found rows p all) (all_at_places P rows places all)
  where
    found : (rs : List R) (i : ℕ) → AllByRecursion P rs → IfSome (slice_get rs i) P
    found [] i all = tt
    found (r ∷ rs) zero all = all.0
    found (r ∷ rs) (suc i) all = found rs i all.1

    go : (o : Option R) → IfSome o P → AllByRecursion P (rows_at rows places) → AllByRecursion P (cons_option o (rows_at rows places))
    go None h more = more
    go (Some r) h more = (h, more)

pub all_known : (t : Tables) (p : FilePlaces) (places : List ℕ) → AreFilePlaces t p
    → AllByRecursion (λ (r : DataFileRow). list_any (λ id. id == r.data_file_id) p.ids.items ≡ true) (rows_at t.data_file places)
all_known t p places are =
    subst (λ ids. AllByRecursion (λ (r : DataFileRow). list_any (λ id. id == r.data_file_id) ids ≡ true) (rows_at t.data_file places)) (sym are.ids_are)
    (all_at_places (λ (r : DataFileRow). list_any (λ id. id == r.data_file_id) (file_ids t.data_file) ≡ true) t.data_file places (each_known (λ (r : DataFileRow). r.data_file_id) t.data_file))

-- a live file as it was put together
pub live_is : {F E : Type 0} (name : F → List ℕ) (held : List (HeldFile F)) (s : ℕ) (t : Tables) (columns : List Column) (size part : F → ℕ) (bytes : F → Option (List ℕ))
    (made : Result (LiveFile F) E) (row : DataFileRow) (delete : Option DeleteFileRow) (stats : List ColStats)
    → IfOk made (λ f. named_file name f ≡ file_with delete row) → IfOk made (λ f. f.stats ≡ stats) → IfOk made (AreCopies name size part bytes held)
    → delete ≡ delete_at s t.delete_file row.data_file_id → AreRead columns row.record_count (rows_of (stats_owner s) row.data_file_id t.file_column_stats) stats
    → IfOk made (IsLive name held s t columns size part bytes row)
live_is name held s t columns size part bytes (Ok f) row delete stats named told copies gone read = record {
  named = named ∙ ap (λ d. file_with d row) gone;
  stats = subst (AreRead columns row.record_count (rows_of (stats_owner s) row.data_file_id t.file_column_stats)) (sym told) read;
  copies = copies;
}
live_is name held s t columns size part bytes (Err why) row delete stats named told copies gone read = tt
