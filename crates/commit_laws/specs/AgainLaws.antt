-- What a commit leaves for the next one.
use Rattle.std.specs.Prelude.{ℕ, List}
use Rattle.std.specs.List.{AllByRecursion}
use Rattle.lake_model.specs.Core.{Version}
use Rattle.lake_rebase.specs.Tidy.{IsTidy}
use Rattle.cat_rows.specs.Batches.{Fits, applied}
use Rattle.cat_rows.specs.Parts.{batch_of}
use Rattle.cat_rows.specs.Tables.{Tables}
use Rattle.cat_view.specs.Files.{Files}
use Rattle.cat_stands.specs.Stands.{IsSound}
use Rattle.commit_rules.specs.Laws.{AreRising}
use Rattle.commit_laws.specs.Laws.{OfCommits}

-- Rows that begin and end rise by key after it.
abbrev pub RowsRiseAfter : Type 0
RowsRiseAfter = OfCommits (λ t head p own. AreRising (applied (batch_of p) t))

-- Its batch fits the rows that it is made on.
abbrev pub BatchesFit : Type 0
BatchesFit = OfCommits (λ t head p own. Fits t (batch_of p))

-- Where rows stand for versions, the state of each is tidy, as it is asked of the base and the head of the next commit.
abbrev pub SoundStatesAreTidy : Type 0
SoundStatesAreTidy =
    (t : Tables) (files : Files) (first : ℕ) (versions : List Version)
    → IsSound t files first versions → AllByRecursion (λ (v : Version). IsTidy v.state) versions
