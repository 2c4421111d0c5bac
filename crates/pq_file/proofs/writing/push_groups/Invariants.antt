use Rattle.std.proofs.Common.{◌≡◌, ◌≤◌, ◌-◌, ◌++◌, drop, length}
use Rattle.std.specs.Prelude.{All}
use Rattle.pq_file.specs.Canonical.{HasPieceTexts, cuts_of, groups_at, groups_bytes}
use Rattle.pq_file.specs.Cuts.{cuts, row_weights}
use Rattle.pq_file.proofs.writing.push_groups.Given as goal

abbrev pub invariant-loop-row : goal.invariant-loop-row
invariant-loop-row l =
    (l.row ≤ l.rows) ×
    (l.out.items ++ groups_bytes l.sheet.columns l.row (cuts (drop l.row (row_weights l.sheet.columns l.sheet.rows))) ≡ l.fn.out.items ++ groups_bytes l.sheet.columns 0 (cuts_of l.sheet)) ×
    (l.groups ++ groups_at l.sheet.columns l.row (length l.out.items) (cuts (drop l.row (row_weights l.sheet.columns l.sheet.rows))) ≡ groups_at l.sheet.columns 0 (length l.fn.out.items) (cuts_of l.sheet)) ×
    All (HasPieceTexts 0 l.row) l.sheet.columns

abbrev pub decreases-loop-row : goal.decreases-loop-row
decreases-loop-row l = l.rows - l.row
