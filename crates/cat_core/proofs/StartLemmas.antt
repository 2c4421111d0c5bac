-- A core that was just made, of sound rows and the files that they name, stands.
use Rattle.std.proofs.Common.{◌≡◌, ◌≤◌, ◌+◌, ◌-◌, ℕ, zero, suc, true, List, [], ◌∷◌, length, map, drop, replicate, Option, None, Some, IfSome, IsSome, option_map, slice_index_or, refl, sym, ap, ◌∙◌, subst, arith}
use Rattle.std.proofs.Math.ListN.{drop_of_length-le}
use Rattle.std.proofs.lemmas.List.{length_push}
use Rattle.std.specs.List.{AllByRecursion, flat_map}
use Rattle.lake_types.specs.declared.kind.Kind.{Kind}
use Rattle.lake_types.specs.declared.limits.TheConstants.{MAX_SESSIONS}
use Rattle.lake_model.specs.Core.{Core, Version, head, is_kept, version_at}
use Rattle.lake_model.specs.History.{CarriedFile}
use Rattle.lake_rebase.proofs.TellLemmas.{tells-at-once}
use Rattle.lake_rebase.specs.Since.{Tells}
use Rattle.cat_rows.specs.Tables.{Tables}
use Rattle.cat_rows.specs.declared.history.SnapshotRow.{SnapshotRow}
use Rattle.cat_rules.specs.Kept.{newest}
use Rattle.cat_stands.proofs.KeptLemmas.{head-kept, head-number, kept-parts}
use Rattle.cat_stands.specs.Stands.{IsSound}
use Rattle.cat_view.specs.Files.{Files}
use Rattle.commit_rules.specs.Laws.{AreRising}
use Rattle.door.specs.Opened.{Opened}
use Rattle.cat_core.proofs.PlaceLemmas.{has_number}
use Rattle.cat_core.specs.Shown.{opened_in}
use Rattle.cat_core.specs.Stands.{AreHeldIn, IsKeptOpen, Stands, begun_with, open_of, paths_of, told_past}

all-closed : {X : Type 0} (P : X → Type 0) (n : ℕ) → AllByRecursion (λ (o : Option X). IfSome o P) (replicate n None)
all-closed P zero = tt
all-closed P (suc n) = (tt, all-closed P n)

-- what is told of sixteen closed places is that they are closed
map-closed : {X Y : Type 0} (f : X → Y) (n : ℕ) → map (option_map f) (replicate n None) ≡ replicate n None
map-closed f zero = refl
map-closed f (suc n) = ap (λ l. None ∷ l) (map-closed f n)

module _ (rows : Tables) (files : Files) (first : ℕ) (versions : List Version) (sound : IsSound rows files first versions) (start : ℕ)
    (newest_is : option_map (λ (r : SnapshotRow). r.snapshot_id) (newest rows.snapshot) ≡ Some start) where
  abbrev core : Core
  core = (begun_with first versions sound.newest.next_file_id).core

  start-is : start ≡ head core
  start-is =
      let row = has_number (newest rows.snapshot) start newest_is in
      sym row.number ∙ head-number rows files core sound row.row row.is

  none-past : drop (head core + 1 - first) versions ≡ []
  none-past =
      let count : length versions ≡ length sound.older + 1 = ap length sound.versions_are ∙ length_push sound.older sound.head in
      drop_of_length-le versions (omega (arith, count))

  tells-start : (n : ℕ) → start ≤ n → is_kept core n ≡ true → Tells (told_past core n) (version_at core n).state (version_at core (head core)).state
  tells-start n low kept =
      let high = (kept-parts core n kept).1 in
      let at = start-is in
      let is : head core ≡ n = omega (arith, at, low, high) in
      subst (λ k. Tells (told_past core k) (version_at core k).state (version_at core (head core)).state) is
      (subst (λ ks. Tells ks (version_at core (head core)).state (version_at core (head core)).state) (sym (ap (flat_map (λ (v : Version). v.kinds)) none-past)) (tells-at-once (version_at core (head core)).state))

  kinds-start : [] ≡ map (λ (v : Version). v.kinds) (drop (start + 1 - first) versions)
  kinds-start = sym (ap (λ n. map (λ (v : Version). v.kinds) (drop (n + 1 - first) versions)) start-is ∙ ap (map (λ (v : Version). v.kinds)) none-past)

  pub stands_begun : (held : List ℕ → Option CarriedFile) (kinds : List (List Kind)) (opens : List (Option Opened)) (made : Option Opened) → AreRising rows → kinds ≡ [] → opens ≡ replicate MAX_SESSIONS None
      → AreHeldIn files held → AllByRecursion (λ path. IsSome (held path)) (paths_of rows)
      → Stands (record { rows = rows; start = start; kinds = kinds; opens = opens; made = made; held = held }) files (begun_with first versions sound.newest.next_file_id)
  stands_begun held kinds opens made rising none closed there named = record {
    sound = sound;
    rising = rising;
    next_file = refl;
    opens = ap (map (option_map open_of)) closed ∙ map-closed open_of MAX_SESSIONS;
    each = subst (AllByRecursion (λ o. IfSome o (IsKeptOpen rows files start core))) (sym closed) (all-closed (IsKeptOpen rows files start core) MAX_SESSIONS);
    start = subst (λ n. is_kept core n ≡ true) (sym start-is) (head-kept rows files core sound);
    kinds = none ∙ kinds-start;
    told = tells-start;
    held = there;
    paths = named;
  }

none-at : {X : Type 0} (n i : ℕ) → slice_index_or {A = Option X} (replicate n None) i None ≡ None
none-at zero i = refl
none-at (suc n) zero = refl
none-at (suc n) (suc i) = none-at n i

-- nobody has anything open at closed places
pub none_opened : (opens : List (Option Opened)) (session : ℕ) → opens ≡ replicate MAX_SESSIONS None → opened_in opens session ≡ None
none_opened opens session e = ap (λ os. opened_in os session) e ∙ none-at MAX_SESSIONS (session - 1)

-- what is told of closed places, as the core has them
pub told_closed : {X Y : Type 0} (f : X → Y) (slots : List (Option X)) → slots ≡ replicate MAX_SESSIONS None → map (option_map f) slots ≡ replicate MAX_SESSIONS None
told_closed f slots e = ap (map (option_map f)) e ∙ map-closed f MAX_SESSIONS
