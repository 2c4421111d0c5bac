-- A commit on the new lake: a list that creates a schema, and a table in it.
use Rattle.std.specs.Prelude.{ℤ, true, List, [], ◌∷◌, codes}
use Rattle.lake_types.specs.declared.value.ColType.TheVariants as type
use Rattle.lake_types.specs.declared.value.Column.{Column}
use Rattle.lake_types.specs.declared.value.Value.TheVariants as value
use Rattle.lake_model.specs.Core.{first_version}
use Rattle.lake_model.specs.State.{empty_state}
use Rattle.lake_model.specs.declared.change.Change.{Change}
use Rattle.lake_model.specs.declared.change.Change.TheVariants as change
use Rattle.lake_model.specs.declared.change.Ref.TheVariants as ref
use Rattle.cat_view.specs.Files.{Files}
use Rattle.cat_view.specs.Named.{NamedVersion}
use Rattle.cat_stands.specs.New.{new_tables}
use Rattle.commit_laws.specs.Commits.{Commits}

abbrev pub one_column : Column
one_column = record { field = 1; name = codes "a"; ty = type.Int64; initial = value.Null; default_value = value.Null; nulls = true }

abbrev pub two_creations : List Change
two_creations = change.CreateSchema (codes "s") ∷ change.CreateTable (ref.New 0) (codes "t") (one_column ∷ []) ∷ []

abbrev pub no_version : NamedVersion
no_version = record { schemas = []; tables = [] }

-- all that a commit starts from is met by it, whatever files there are
abbrev pub OneCommitFits : Type 0
OneCommitFits = (files : Files) (time : ℤ) → Commits (new_tables time) files 0 (first_version ∷ []) [] files no_version empty_state two_creations []
