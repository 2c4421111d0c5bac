-- What the laws of the core as a door rest on.
use Rattle.std.proofs.Common.{◌≡◌, ◌-◌, ℕ, zero, suc, is_some, List, [], ◌∷◌, map, Option, None, Some, IfSome, option_map, slice_index_or, refl, sym, ap, ◌∙◌, subst}
use Rattle.std.specs.List.{AllByRecursion}
use Rattle.lake_model.specs.Calls.{Ground}
use Rattle.lake_model.specs.Core.{Core, is_session, open_at, version_at}
use Rattle.lake_model.specs.History.{CarriedFile}
use Rattle.cat_rows.specs.Tables.{Tables}
use Rattle.cat_rows.specs.declared.history.SnapshotRow.{SnapshotRow}
use Rattle.cat_view.specs.Files.{Extends, Files}
use Rattle.cat_stands.proofs.FileLemmas.{more_files-stand}
use Rattle.cat_stands.proofs.KeptLemmas.{kept-same, newest-is, newest-row, state-more}
use Rattle.cat_stands.specs.Stands.{IsSound}
use Rattle.door.specs.Opened.{Agrees, AgreesOn, IsIn, IsOpen, Opened}
use Rattle.cat_core.specs.Shown.{Shown, opened_in}
use Rattle.cat_core.specs.Stands.{IsKeptOpen, Stands, open_of}

-- ---- what a session has open

at-place : {A B : Type 0} (f : A → B) (xs : List (Option A)) (i : ℕ) → slice_index_or (map (option_map f) xs) i None ≡ option_map f (slice_index_or xs i None)
at-place f [] i = refl
at-place f (x ∷ xs) zero = refl
at-place f (x ∷ xs) (suc i) = at-place f xs i

all-at : {X : Type 0} (P : X → Type 0) (xs : List (Option X)) (i : ℕ) → AllByRecursion (λ (o : Option X). IfSome o P) xs → IfSome (slice_index_or xs i None) P
all-at P [] i h = tt
all-at P (x ∷ xs) zero h = h.0
all-at P (x ∷ xs) (suc i) h = all-at P xs i h.1

pub open-at : (c : Shown) (files : Files) (g : Ground) (session : ℕ) → Stands c files g → open_at g.core session ≡ option_map open_of (opened_in c.opens session)
open-at c files g session h = ap (λ xs. slice_index_or xs (session - 1) None) (sym h.opens) ∙ at-place open_of c.opens (session - 1)

pub kept-at : (c : Shown) (files : Files) (g : Ground) (session : ℕ) → Stands c files g → IfSome (opened_in c.opens session) (IsKeptOpen c.rows files c.start g.core)
kept-at c files g session h = all-at (IsKeptOpen c.rows files c.start g.core) c.opens (session - 1) h.each

module _ (rows : Tables) (files : Files) (start : ℕ) (core : Core) (sound : IsSound rows files core.first core.versions) where
  agrees-one : (o : Opened) → IsKeptOpen rows files start core o → IsOpen files core (open_of o) o
  agrees-one o k = record {
    base = refl;
    read_only = refl;
    same = kept-same rows files core sound o.base o.version k.kept k.sees;
    whole = k.whole;
    there = k.there;
  }

  agrees-if : (o : Option Opened) → IfSome o (IsKeptOpen rows files start core) → Agrees files core (option_map open_of o) o
  agrees-if None k = tt
  agrees-if (Some o) k = agrees-one o k

-- what the sessions have open is what the lake says
pub agrees-opened : (c : Shown) (files : Files) (g : Ground) → Stands c files g → AgreesOn is_session files g.core (opened_in c.opens)
agrees-opened c files g h session served =
    subst (λ o. Agrees files g.core o (opened_in c.opens session)) (sym (open-at c files g session h))
    (agrees-if c.rows files c.start g.core h.sound (opened_in c.opens session) (kept-at c files g session h))

-- ---- more files

module _ (files more : Files) (extends : Extends files more) where
  in-more : (f : CarriedFile) → IsIn files f → IsIn more f
  in-more f h = record { filed = h.filed; there = extends f.name (ap is_some h.there) ∙ h.there; size_is = h.size_is; told = h.told }

  all-in-more : (fs : List CarriedFile) → AllByRecursion (IsIn files) fs → AllByRecursion (IsIn more) fs
  all-in-more [] h = tt
  all-in-more (f ∷ fs) h = (in-more f h.0, all-in-more fs h.1)

  module _ (rows : Tables) (start : ℕ) (core : Core) (sound : IsSound rows files core.first core.versions) where
    kept-more : (o : Opened) → IsKeptOpen rows files start core o → IsKeptOpen rows more start core o
    kept-more o k = record {
      kept = k.kept;
      sees = k.sees;
      there = all-in-more o.files k.there;
      since = k.since;
      whole = λ w. state-more rows files more core.first core.versions extends sound o.base (version_at core o.base).state.next_catalog o.version k.sees ∙ k.whole w;
    }

    each-more : (os : List (Option Opened)) → AllByRecursion (λ o. IfSome o (IsKeptOpen rows files start core)) os → AllByRecursion (λ o. IfSome o (IsKeptOpen rows more start core)) os
    each-more [] h = tt
    each-more (None ∷ os) h = (tt, each-more os h.1)
    each-more (Some o ∷ os) h = (kept-more o h.0, each-more os h.1)

-- more files leave what it stands for
pub stands-more : (c : Shown) (files more : Files) (g : Ground) → Extends files more → Stands c files g → Stands c more g
stands-more c files more g extends h =
    let sound : IsSound c.rows more g.core.first g.core.versions = more_files-stand c.rows files more g.core.first g.core.versions extends h.sound in
    record {
      sound = sound;
      rising = h.rising;
      next_file = h.next_file ∙ ap (λ (r : SnapshotRow). r.next_file_id) (newest-is c.rows files g.core h.sound sound.newest (newest-row c.rows more g.core sound));
      opens = h.opens;
      each = each-more files more extends c.rows c.start g.core h.sound c.opens h.each;
      start = h.start;
      kinds = h.kinds;
      told = h.told;
      held = λ name f is. ((h.held name f is).0, in-more files more extends f (h.held name f is).1);
      paths = h.paths;
    }
