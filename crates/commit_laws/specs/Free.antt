-- A commit of which only that is asked which is known when it begins.
use Rattle.std.specs.Prelude.{◌≡◌, ◌++◌, ℕ, ℤ, List, [], ◌∷◌}
use Rattle.std.specs.List.{AllByRecursion}
use Rattle.lake_types.specs.declared.kind.Kind.{Kind}
use Rattle.lake_model.specs.Core.{Version, next_version}
use Rattle.lake_model.specs.State.{State}
use Rattle.lake_model.specs.declared.change.Change.{Change}
use Rattle.cat_rows.specs.Tables.{Tables}
use Rattle.cat_view.specs.Files.{Extends, Files}
use Rattle.cat_view.specs.Named.{NamedVersion}
use Rattle.cat_view.specs.Staged.{NamedStagedTable}
use Rattle.cat_stands.specs.Stands.{IsSound}
use Rattle.commit_laws.specs.Commits.{Commits}
use Rattle.commit_laws.specs.Commit.{committed}

-- Rows that stand for a lake stand, after the commit of a list that conflicts with nothing since its base, for the lake
-- with the version more that the list makes of the last, over all files that there are by then.
abbrev pub FreeCommitsStand : Type 0
FreeCommitsStand =
    (t : Tables) (files : Files) (first : ℕ) (versions : List Version) (told : List Kind) (more : Files) (base : NamedVersion) (state : State)
    (own : List Change) (staged : List NamedStagedTable) (time : ℤ) (c : Commits t files first versions told more base state own staged)
    → AllByRecursion (λ (s : NamedStagedTable). s.inlined ≡ []) staged → Extends files more
    → IsSound (committed t c.sound.newest c.sound.head.state time own staged) more first (versions ++ next_version c.sound.head own ∷ [])
