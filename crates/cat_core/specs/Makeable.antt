-- What is asked of staged files for their rows to be added.
use Rattle.std.specs.Prelude.{◌<◌, ◌+◌, ◌^◌, ℕ, List, IfSome}
use Rattle.std.specs.List.{AllByRecursion}
use Rattle.lake_model.specs.declared.change.Ref.{Ref}
use Rattle.cat_rows.specs.Tables.{Tables}
use Rattle.cat_rows.specs.declared.files.TableStatsRow.{TableStatsRow}
use Rattle.col_stats.specs.Stats.{HasTexts}
use Rattle.col_stats.specs.declared.stats.ColStats.{ColStats}
use Rattle.rebase.specs.Batch.{HasRecords}
use Rattle.rebase.specs.Files.{HaveTexts}
use Rattle.rebase.specs.Parts.{FreshFile, old_stats}

-- bounds have texts, and the record count of the table has 64 bits with so many more rows
abbrev pub CanBeAdded : Tables → Ref → ℕ → List ColStats → Type 0
CanBeAdded t table rows stats = AllByRecursion HasTexts stats × IfSome (old_stats t table) (λ (r : TableStatsRow). r.record_count + rows < 2 ^ 64)

abbrev pub CanAllBeAdded : Tables → List FreshFile → Type 0
CanAllBeAdded t files = AllByRecursion HaveTexts files × AllByRecursion (HasRecords t) files
