-- The batch of a commit is made of parts on top of the head, is lawful, and breaks no rule.
use Rattle.std.specs.Prelude.{ℕ, ℤ, List, None}
use Rattle.lake_types.specs.Kinds.{changes_text}
use Rattle.lake_types.specs.declared.kind.Kind.{Kind}
use Rattle.lake_model.specs.Core.{Version}
use Rattle.lake_model.specs.Kinds.{kinds}
use Rattle.lake_model.specs.State.{State}
use Rattle.lake_model.specs.declared.change.Change.{Change}
use Rattle.cat_rows.specs.Batches.{applied}
use Rattle.cat_rows.specs.Parts.{ArePartsOf, Parts, batch_of}
use Rattle.cat_rows.specs.Tables.{Tables}
use Rattle.cat_rows.specs.declared.history.SnapshotRow.{SnapshotRow}
use Rattle.cat_rules.specs.Sane.{IsFirstBadRow}
use Rattle.cat_view.specs.Files.{Files}
use Rattle.cat_view.specs.Named.{NamedVersion}
use Rattle.cat_view.specs.Staged.{NamedStagedTable}
use Rattle.commit_rules.specs.Lawful.{IsHead, IsLawful}
use Rattle.rebase.specs.Parts.{parts_of}
use Rattle.commit_laws.specs.Commits.{Commits, endings_of}

-- So of the tables, the head's snapshot, the parts and the list of each commit, whenever it is made. Its text is that of the
-- list's kinds at the head.
abbrev pub OfCommits : (Tables → SnapshotRow → Parts → List Change → Type 0) → Type 0
OfCommits P =
    (t : Tables) (files : Files) (first : ℕ) (versions : List Version) (told : List Kind) (more : Files) (base : NamedVersion) (state : State)
    (own : List Change) (staged : List NamedStagedTable) (time : ℤ) (c : Commits t files first versions told more base state own staged)
    → P t c.sound.newest (parts_of t c.sound.newest time (changes_text (kinds c.sound.head.state.schemas own)) own staged) own

abbrev pub HeadsAre : Type 0
HeadsAre = OfCommits (λ t head p own. IsHead t head)

abbrev pub PartsAre : Type 0
PartsAre = OfCommits (λ t head p own. ArePartsOf t head.snapshot_id p (endings_of own))

abbrev pub AreLawful : Type 0
AreLawful = OfCommits (λ t head p own. IsLawful t head p (endings_of own))

abbrev pub RulesHoldAfter : Type 0
RulesHoldAfter = OfCommits (λ t head p own. IsFirstBadRow (applied (batch_of p) t) None)
