use Rattle.std.proofs.Common.{◌≡◌, ◌++◌, length, take}
use Rattle.std.specs.Prelude.{flat_map}
use Rattle.thrift_compact.specs.Shortest.{unsigned_spelling}
use Rattle.inline_rows.specs.Spelling.{cell_spelling}
use Rattle.inline_rows.proofs.encoding.encode_cells.Given as goal

-- the number of the cells, and the cells so far
abbrev pub invariant-loop-field : goal.invariant-loop-field
invariant-loop-field l = l.out.items ≡ unsigned_spelling (length l.cells) ++ flat_map cell_spelling (take l.field-index l.cells)
