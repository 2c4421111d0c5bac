-- Versions that are made, and shared.
use Rattle.std.proofs.Common.{◌≡◌, ℕ, true, List, sym, subst, subst₂}
use Rattle.std.specs.Prelude.{Option, Some, IfSome, option_map}
use Rattle.std.specs.Arc.{arc_value}
use Rattle.std.specs.List.{AllByRecursion}
use Rattle.lake_model.specs.History.{CarriedFile}
use Rattle.cat_rows.specs.Tables.{Tables}
use Rattle.cat_view.specs.Held.{held_in}
use Rattle.cat_view.specs.Reading.{AreHeld}
use Rattle.cat_view.specs.Sight.{HasCounters, IsVersionAt}
use Rattle.cat_view.specs.Views.{named_version}
use Rattle.cat_view.specs.Workable.{IsWorkable}
use Rattle.cat_view.specs.declared.held.HeldFiles.{HeldFiles}
use Rattle.cat_view.specs.declared.version.Version.{Version}
use Rattle.door.specs.Opened.{files_of_version}
use Rattle.cat_core.proofs.HeldLemmas.{are_held}
use Rattle.cat_core.specs.Shown.{IsMade, held_at, opened_by}
use Rattle.cat_core.specs.declared.seen.Seen.{Seen}

module _ {F : Type 0} (name : F → List ℕ) (size part : F → ℕ) (bytes : F → Option (List ℕ)) where
  -- a version that can be read and worked on
  pub seen_made : (rows : Tables) (h : HeldFiles F) (s : Seen F) (v : Version F) → arc_value s.version ≡ v → IsVersionAt rows s.base (named_version name v)
      → AllByRecursion (HasCounters rows) (named_version name v).tables → AreHeld name size part bytes (held_in h).rows v → IsWorkable (named_version name v)
      → IsMade rows (held_at name size bytes h) (opened_by name size bytes true s)
  seen_made rows h s v is sees counters held workable = record {
    sees = subst (λ x. IsVersionAt rows s.base (named_version name x)) (sym is) sees;
    counters = subst (λ x. AllByRecursion (HasCounters rows) (named_version name x).tables) (sym is) counters;
    there = are_held name size part bytes h (arc_value s.version) (subst (AreHeld name size part bytes (held_in h).rows) (sym is) held);
    workable = subst (λ x. IsWorkable (named_version name x)) (sym is) workable;
  }

module _ {F : Type 0} (name : F → List ℕ) (size : F → ℕ) (bytes : F → Option (List ℕ)) (rows : Tables) (held : List ℕ → Option CarriedFile) where
  -- so is a further holder of it
  pub share_made : (copy seen : Seen F) → copy.base ≡ seen.base → arc_value copy.version ≡ arc_value seen.version → IsMade rows held (opened_by name size bytes true seen)
      → IsMade rows held (opened_by name size bytes true copy)
  share_made copy seen base version m = record {
    sees = subst₂ (λ n v. IsVersionAt rows n (named_version name v)) (sym base) (sym version) m.sees;
    counters = subst (λ v. AllByRecursion (HasCounters rows) (named_version name v).tables) (sym version) m.counters;
    there = subst (λ v. AllByRecursion (λ (f : CarriedFile). held f.name ≡ Some f) (files_of_version name size bytes v)) (sym version) m.there;
    workable = subst (λ v. IsWorkable (named_version name v)) (sym version) m.workable;
  }

  pub made_is : (made : Option (Seen F)) (x : Seen F) → made ≡ Some x → IfSome (option_map (opened_by name size bytes true) made) (IsMade rows held)
      → IsMade rows held (opened_by name size bytes true x)
  made_is made x is m = subst (λ o. IfSome (option_map (opened_by name size bytes true) o) (IsMade rows held)) is m
