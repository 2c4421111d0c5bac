-- A core goes on standing where what is open changes.
use Rattle.std.proofs.Common.{◌≡◌, ◌≤◌, ◌-◌, ℕ, true, true≢false, List, [], ◌∷◌, Option, None, Some, IfSome, option_map, slice_set, sym, ap, ◌∙◌, subst}
use Rattle.std.specs.List.{AllByRecursion}
use Rattle.std.proofs.lemmas.List.{map-set}
use Rattle.lake_model.specs.Calls.{Ground}
use Rattle.lake_model.specs.Core.{Core, head, is_kept, version_at, with_open}
use Rattle.lake_model.specs.History.{CarriedFile}
use Rattle.lake_model.specs.declared.call.Open.{Open}
use Rattle.cat_rows.specs.Tables.{Tables}
use Rattle.cat_rows.specs.declared.history.SnapshotRow.{SnapshotRow}
use Rattle.cat_rules.specs.Kept.{newest}
use Rattle.cat_view.specs.Files.{Files}
use Rattle.cat_view.specs.Named.{state_of}
use Rattle.cat_view.specs.Sight.{IsVersionAt}
use Rattle.cat_stands.proofs.KeptLemmas.{head-kept, head-number, head-whole, kept-parts}
use Rattle.door.specs.Opened.{IsIn, Opened}
use Rattle.cat_core.proofs.OpenLemmas.{all-set}
use Rattle.cat_core.specs.Shown.{IsMade, Shown}
use Rattle.cat_core.specs.Stands.{IsKeptOpen, Stands, open_of}

-- the version that was made last says nothing of the lake
pub stands-made : (c : Shown) (files : Files) (g : Ground) (made : Option Opened) → Stands c files g → Stands (record c { made = made }) files g
stands-made c files g made h = record {
  sound = h.sound;
  rising = h.rising;
  next_file = h.next_file;
  opens = h.opens;
  each = h.each;
  start = h.start;
  kinds = h.kinds;
  told = h.told;
  held = h.held;
  paths = h.paths;
}

-- ---- a slot

-- what the core has open is nothing to what one session has
still-kept : (rows : Tables) (files : Files) (start : ℕ) (core : Core) (opens : List (Option Open)) (os : List (Option Opened))
    → AllByRecursion (λ (o : Option Opened). IfSome o (IsKeptOpen rows files start core)) os
    → AllByRecursion (λ (o : Option Opened). IfSome o (IsKeptOpen rows files start (record core { opens = opens }))) os
still-kept rows files start core opens [] h = tt
still-kept rows files start core opens (None ∷ os) h = (tt, still-kept rows files start core opens os h.1)
still-kept rows files start core opens (Some o ∷ os) h = (
  record { kept = h.0.kept; sees = h.0.sees; there = h.0.there; since = h.0.since; whole = h.0.whole },
  still-kept rows files start core opens os h.1,
)

pub stands-open : (c : Shown) (files : Files) (g : Ground) (session : ℕ) (o made : Option Opened) → Stands c files g → IfSome o (IsKeptOpen c.rows files c.start g.core)
    → Stands (record c { opens = slice_set c.opens (session - 1) o; made = made }) files (record g { core = with_open g.core session (option_map open_of o) })
stands-open c files g session o made h k =
    let kept = IsKeptOpen c.rows files c.start g.core in
    let opens = slice_set g.core.opens (session - 1) (option_map open_of o) in
    record {
      sound = h.sound;
      rising = h.rising;
      next_file = h.next_file;
      opens = map-set (option_map open_of) c.opens (session - 1) o ∙ ap (λ os. slice_set os (session - 1) (option_map open_of o)) h.opens;
      each = still-kept c.rows files c.start g.core opens (slice_set c.opens (session - 1) o) (all-set kept c.opens (session - 1) o h.each k);
      start = h.start;
      kinds = h.kinds;
      told = h.told;
      held = h.held;
      paths = h.paths;
    }

-- ---- what is put in it

all-held : (held : List ℕ → Option CarriedFile) (files : Files) → ((name : List ℕ) (f : CarriedFile) → held name ≡ Some f → (f.name ≡ name) × IsIn files f) → (fs : List CarriedFile)
    → AllByRecursion (λ (f : CarriedFile). held f.name ≡ Some f) fs → AllByRecursion (IsIn files) fs
all-held held files one [] h = tt
all-held held files one (f ∷ fs) h = ((one f.name f h.0).1, all-held held files one fs h.1)

module _ (c : Shown) (files : Files) (g : Ground) (h : Stands c files g) (o : Opened) (made : IsMade c.rows c.held o) where
  -- the newest version
  pub newest-open : (row : SnapshotRow) → newest c.rows.snapshot ≡ Some row → o.base ≡ row.snapshot_id → IsKeptOpen c.rows files c.start g.core o
  newest-open row is e =
      let base : o.base ≡ head g.core = e ∙ head-number c.rows files g.core h.sound row is in
      let sees : IsVersionAt c.rows (head g.core) o.version = subst (λ n. IsVersionAt c.rows n o.version) base made.sees in
      record {
        kept = subst (λ n. is_kept g.core n ≡ true) (sym base) (head-kept c.rows files g.core h.sound);
        sees = made.sees;
        there = all-held c.held files h.held o.files made.there;
        since = λ w. subst (λ n. c.start ≤ n) (sym base) (kept-parts g.core c.start h.start).1;
        whole = λ w. subst (λ n. state_of files (version_at g.core n).state.next_catalog o.version ≡ (version_at g.core n).state) (sym base) (head-whole c.rows files g.core h.sound o.version sees made.counters);
      }

  -- any kept version, to be read
  pub older-open : o.read_only ≡ true → is_kept g.core o.base ≡ true → IsKeptOpen c.rows files c.start g.core o
  older-open reads kept = record {
    kept = kept;
    sees = made.sees;
    there = all-held c.held files h.held o.files made.there;
    since = λ w. absurd (true≢false (sym reads ∙ w));
    whole = λ w. absurd (true≢false (sym reads ∙ w));
  }
