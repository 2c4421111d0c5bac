-- The names of staged files.
use Rattle.std.specs.Prelude.{◌≡◌, ◌≢◌, ℕ, List, map, Option, None}
use Rattle.std.specs.List.{AllByRecursion}
use Rattle.lake_model.specs.History.{CarriedFile}
use Rattle.cat_rows.specs.Tables.{Tables}
use Rattle.cat_rows.specs.declared.files.ScheduledFileRow.{ScheduledFileRow}
use Rattle.rebase.specs.Parts.{FreshFile}

abbrev pub names_of : List FreshFile → List (List ℕ)
names_of files = map (λ (x : FreshFile). x.file.name) files

-- a name that no file has that is held, scheduled to go, or among some later ones
pub record IsNew (rows : Tables) (held : List ℕ → Option CarriedFile) (name : List ℕ) (later : List (List ℕ)) : Type 0 where
  pub unheld : held name ≡ None
  pub unscheduled : AllByRecursion (λ (r : ScheduledFileRow). r.path ≢ name) rows.scheduled_file
  pub differs : AllByRecursion (λ (n : List ℕ). name ≢ n) later
