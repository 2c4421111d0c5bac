-- What holds of what is staged, and of the states that it is staged on.
use Rattle.std.specs.Prelude.{ℕ, List, Option}
use Rattle.std.specs.List.{AllByRecursion}
use Rattle.lake_model.specs.Apply.{Draft, left}
use Rattle.lake_model.specs.Growth.{IsGrowth}
use Rattle.lake_model.specs.declared.change.Change.{Change}
use Rattle.cat_view.specs.Files.{Files}
use Rattle.cat_view.specs.Named.{NamedVersion, state_of}
use Rattle.cat_view.specs.Staged.{IsStagedTable, MayHoldCells, NamedStagedFile, nothing_for}
use Rattle.row_files.specs.Growing.{HasTables}

-- Of a list that only creates, drops and inserts: a table needs one file of the fresh rows that are left to it, where
-- there are some, and nothing else.
abbrev pub StagesGrowth : Type 0
StagesGrowth = (files : Files) (own : List Change) (base : NamedVersion) (d : Draft) (file : Option NamedStagedFile)
    → AllByRecursion IsGrowth own → MayHoldCells files d.columns file (left d.fresh)
    → IsStagedTable files own base d (record (nothing_for d.at) { fresh = file })

-- the plain state that a version is over any files has its tables with their columns
abbrev pub StatesHaveTables : Type 0
StatesHaveTables = (files : Files) (next_catalog : ℕ) (v : NamedVersion) → HasTables v (state_of files next_catalog v)
