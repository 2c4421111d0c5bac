-- What a core keeps, as proofs see it.
use Rattle.std.specs.Prelude.{◌≡◌, ℕ, Bool, true, List, length, map, Option, None, Some, IfSome, option_map, slice_index_or, ◌-◌}
use Rattle.std.specs.Arc.{arc_value}
use Rattle.std.specs.List.{AllByRecursion}
use Rattle.lake_types.specs.declared.kind.Kind.{Kind}
use Rattle.lake_types.specs.declared.limits.TheConstants.{MAX_SESSIONS}
use Rattle.lake_model.specs.History.{CarriedFile}
use Rattle.cat_tables.specs.Table.{row_of}
use Rattle.cat_rows.specs.Batches.{tables_of}
use Rattle.cat_rows.specs.Tables.{Tables}
use Rattle.cat_view.specs.Held.{held_in, name_by}
use Rattle.cat_view.specs.Sight.{HasCounters, IsVersionAt}
use Rattle.cat_view.specs.Views.{named_version}
use Rattle.cat_view.specs.Workable.{IsWorkable}
use Rattle.cat_view.specs.declared.held.HeldFile.{HeldFile}
use Rattle.cat_view.specs.declared.held.HeldFiles.{HeldFiles}
use Rattle.door.specs.Opened.{Opened, carried_file, files_of_version}
use Rattle.cat_core.specs.declared.catalogue.CatCore.{CatCore}
use Rattle.cat_core.specs.declared.seen.Seen.{Seen}
use Rattle.cat_core.specs.declared.seen.Slot.{Slot}

pub record Shown : Type 0 where
  -- the catalogue's rows
  pub rows : Tables
  -- the newest snapshot when the core was made, and the kinds of each one since
  pub start : ℕ
  pub kinds : List (List Kind)
  -- what each session has open, and the version that was made last
  pub opens : List (Option Opened)
  pub made : Option Opened
  -- the file that is held of a name
  pub held : List ℕ → Option CarriedFile

-- what a session has open
abbrev pub opened_in : List (Option Opened) → ℕ → Option Opened
opened_in opens session = slice_index_or opens (session - 1) None

module _ {F : Type 0} (name : F → List ℕ) (size : F → ℕ) (bytes : F → Option (List ℕ)) where
  abbrev pub opened_by : Bool → Seen F → Opened
  opened_by read_only s = record {
    base = s.base;
    read_only = read_only;
    version = named_version name (arc_value s.version);
    files = files_of_version name size bytes (arc_value s.version);
  }

  abbrev pub opened_slot : Slot F → Opened
  opened_slot s = opened_by s.read_only s.seen

  abbrev pub held_at : HeldFiles F → List ℕ → Option CarriedFile
  held_at h path = option_map (λ (f : HeldFile F). carried_file name size bytes f.file) (row_of (name_by name) path (held_in h).rows)

  abbrev pub shown : {K : Type 0} → CatCore K F → Shown
  shown c = record {
    rows = tables_of c.rows;
    start = c.start;
    kinds = c.kinds.items;
    opens = map (option_map opened_slot) c.slots.items;
    made = option_map (opened_by true) c.made;
    held = held_at c.held;
  }

-- ---- what holds of it between two calls

-- the version that a snapshot sees, with the counters of now, in files that are held
pub record IsMade (rows : Tables) (held : List ℕ → Option CarriedFile) (o : Opened) : Type 0 where
  pub sees : IsVersionAt rows o.base o.version
  pub counters : AllByRecursion (HasCounters rows) o.version.tables
  pub there : AllByRecursion (λ (f : CarriedFile). held f.name ≡ Some f) o.files
  pub workable : IsWorkable o.version

-- The rows are those that the keeper keeps, where they are told.
pub record InOrder (told : Option Tables) (c : Shown) : Type 0 where
  pub content : IfSome told (λ rows. rows ≡ c.rows)
  pub sixteen : length c.opens ≡ MAX_SESSIONS
  pub made : IfSome c.made (IsMade c.rows c.held)
