use Rattle.std.proofs.Common.{◌≡◌, ◌-◌, length, pos}
use Rattle.thrift_compact.specs.Cursor.{end_of}
use Rattle.thrift_compact.specs.Structs.{struct_in}
use Rattle.thrift_compact.proofs.parts.read_parts.Given as goal

abbrev pub invariant-loop-turn : goal.invariant-loop-turn
invariant-loop-turn g l =
    struct_in (end_of l.fn.reader) (g.D.Parts.part (end_of l.fn.reader)) (length l.fn.reader.rest - l._turn) l.last l.draft l.reader.rest
    ≡ struct_in (end_of l.fn.reader) (g.D.Parts.part (end_of l.fn.reader)) (length l.fn.reader.rest) (pos 0) l.fn.draft l.fn.reader.rest
    × end_of l.reader ≡ end_of l.fn.reader
