-- The rows that are added for staged files.
use Rattle.std.specs.Prelude.{◌+◌, ℕ, List, [], ◌∷◌, ◌++◌, map}
use Rattle.std.specs.List.{AllByRecursion}
use Rattle.cat_rows.specs.Tables.{Tables}
use Rattle.cat_rows.specs.declared.batch.CatRow.{CatRow}
use Rattle.cat_rows.specs.declared.batch.CatRow.TheVariants as row
use Rattle.cat_texts.specs.Written.{stats_row}
use Rattle.cat_view.specs.StagedNames.{named_staged_table}
use Rattle.cat_view.specs.declared.staged.StagedTable.{StagedTable}
use Rattle.col_stats.specs.Stats.{HasTexts}
use Rattle.col_stats.specs.declared.stats.ColStats.{ColStats}
use Rattle.rebase.specs.Made.{creations_of}
use Rattle.rebase.specs.Parts as parts
use Rattle.rebase.specs.Parts.{FreshFile, fresh_files}
use Rattle.rebase.specs.declared.made.Place.{Place}

abbrev pub files_in : {F : Type 0} → (F → List ℕ) → (F → ℕ) → List (StagedTable F) → List FreshFile
files_in name size staged = fresh_files (map (named_staged_table name size) staged)

abbrev pub HaveTexts : FreshFile → Type 0
HaveTexts x = AllByRecursion HasTexts x.file.stats

abbrev pub file_adds : Tables → Place → ℕ → List FreshFile → List CatRow
file_adds t p id xs = map (λ r. row.DataFile r) (parts.file_rows_from t p.begin p.next (creations_of p.made.now) id xs)

abbrev pub stats_adds : ℕ → List ColStats → List CatRow
stats_adds file stats = map (λ (s : ColStats). row.FileColumnStats (stats_row file s)) stats

abbrev pub file_stats_adds : ℕ → List FreshFile → List CatRow
file_stats_adds id [] = []
file_stats_adds id (x ∷ xs) = stats_adds id x.file.stats ++ file_stats_adds (id + 1) xs
