use Rattle.std.proofs.Common.{◌≡◌, map, take}
use Rattle.session.specs.Shown.{row_shown}
use Rattle.session.proofs.rows.row_texts.Given as goal

-- the texts so far
abbrev pub invariant-loop-row : goal.invariant-loop-row
invariant-loop-row l = l.texts ≡ map (row_shown l.items) (take l.row-index l.rows)
