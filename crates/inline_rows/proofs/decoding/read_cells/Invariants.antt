use Rattle.std.proofs.Common.{◌≡◌, ◌-◌, None}
use Rattle.inline_rows.specs.Reading.{cells_in}
use Rattle.inline_rows.proofs.CellLemmas.{with_front}
use Rattle.inline_rows.proofs.decoding.read_cells.Given as goal

-- the cells so far, and what the cells that are left give
abbrev pub invariant-loop-turn : goal.invariant-loop-turn
invariant-loop-turn l =
    with_front l.cells.items (cells_in l.end (l.count - l._turn) l.last l.rest) ≡ cells_in l.end l.count None l.fn.bytes
