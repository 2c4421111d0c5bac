-- When a core, with files, stands for a lake.
use Rattle.std.specs.Prelude.{◌≡◌, ◌≤◌, ◌+◌, ◌-◌, ℕ, true, false, List, ◌++◌, drop, map, replicate, Option, Some, None, IfSome, IsSome, option_map}
use Rattle.std.specs.List.{AllByRecursion, flat_map}
use Rattle.lake_types.specs.declared.kind.Kind.{Kind}
use Rattle.lake_types.specs.declared.limits.TheConstants.{MAX_SESSIONS}
use Rattle.lake_model.specs.Calls.{Ground}
use Rattle.lake_model.specs.Core.{Core, Version, head, is_kept, version_at}
use Rattle.lake_model.specs.History.{CarriedFile}
use Rattle.lake_model.specs.declared.call.Open.{Open}
use Rattle.lake_rebase.specs.Since.{Tells}
use Rattle.cat_rows.specs.Tables.{Tables}
use Rattle.cat_rows.specs.declared.files.DataFileRow.{DataFileRow}
use Rattle.cat_rows.specs.declared.files.DeleteFileRow.{DeleteFileRow}
use Rattle.cat_view.specs.Files.{Files}
use Rattle.cat_view.specs.Named.{state_of}
use Rattle.cat_view.specs.Sight.{IsVersionAt}
use Rattle.cat_stands.specs.Stands.{IsSound}
use Rattle.commit_rules.specs.Laws.{AreRising}
use Rattle.door.specs.Opened.{IsIn, Opened}
use Rattle.cat_core.specs.Shown.{Shown}

abbrev pub open_of : Opened → Open
open_of o = record { base = o.base; read_only = o.read_only }

-- What a session has open is the version of a kept snapshot, in files that are there. One that may write has begun since the
-- core was made, and its version has the counters of then.
pub record IsKeptOpen (rows : Tables) (files : Files) (start : ℕ) (core : Core) (o : Opened) : Type 0 where
  pub kept : is_kept core o.base ≡ true
  pub sees : IsVersionAt rows o.base o.version
  pub there : AllByRecursion (IsIn files) o.files
  pub since : o.read_only ≡ false → start ≤ o.base
  pub whole : o.read_only ≡ false → state_of files (version_at core o.base).state.next_catalog o.version ≡ (version_at core o.base).state

-- the kinds of all versions past one
abbrev pub told_past : Core → ℕ → List Kind
told_past core base = flat_map (λ (v : Version). v.kinds) (drop (base + 1 - core.first) core.versions)

-- the paths of data files and delete files
abbrev pub paths_of : Tables → List (List ℕ)
paths_of t = map (λ (r : DataFileRow). r.path) t.data_file ++ map (λ (r : DeleteFileRow). r.path) t.delete_file

-- each held file is there, under the name that it is held by
abbrev pub AreHeldIn : Files → (List ℕ → Option CarriedFile) → Type 0
AreHeldIn files held = (name : List ℕ) (f : CarriedFile) → held name ≡ Some f → (f.name ≡ name) × IsIn files f

pub record Stands (c : Shown) (files : Files) (g : Ground) : Type 0 where
  -- rows and files are the versions
  pub sound : IsSound c.rows files g.core.first g.core.versions
  pub rising : AreRising c.rows
  pub next_file : g.next_file ≡ sound.newest.next_file_id
  -- so is what is open
  pub opens : map (option_map open_of) c.opens ≡ g.core.opens
  pub each : AllByRecursion (λ o. IfSome o (IsKeptOpen c.rows files c.start g.core)) c.opens
  -- each version since the start has its kinds, which tell what became of all since
  pub start : is_kept g.core c.start ≡ true
  pub kinds : c.kinds ≡ map (λ (v : Version). v.kinds) (drop (c.start + 1 - g.core.first) g.core.versions)
  pub told : (n : ℕ) → c.start ≤ n → is_kept g.core n ≡ true
      → Tells (told_past g.core n) (version_at g.core n).state (version_at g.core (head g.core)).state
  -- what is held is there, and what rows name is held
  pub held : AreHeldIn files c.held
  pub paths : AllByRecursion (λ path. IsSome (c.held path)) (paths_of c.rows)

-- ---- a new core

-- a ground on which nothing is open
abbrev pub begun_with : ℕ → List Version → ℕ → Ground
begun_with first versions next_file = record {
  core = record { first = first; versions = versions; opens = replicate MAX_SESSIONS None };
  next_file = next_file;
}
