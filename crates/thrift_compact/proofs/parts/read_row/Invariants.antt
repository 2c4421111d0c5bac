use Rattle.std.proofs.Common.{◌≡◌, ◌-◌}
use Rattle.thrift_compact.specs.Cursor.{end_of}
use Rattle.thrift_compact.specs.Structs.{row_in, struct_of}
use Rattle.thrift_compact.proofs.StructLemmas.{with_front}
use Rattle.thrift_compact.proofs.parts.read_row.Given as goal

abbrev pub invariant-loop-turn : goal.invariant-loop-turn
invariant-loop-turn g l =
    with_front l.structs (row_in (struct_of g.D.Parts.part g.D.Parts.empty (end_of l.fn.reader)) (l.count - l._turn) l.reader.rest)
    ≡ row_in (struct_of g.D.Parts.part g.D.Parts.empty (end_of l.fn.reader)) l.count l.fn.reader.rest
    × end_of l.reader ≡ end_of l.fn.reader
