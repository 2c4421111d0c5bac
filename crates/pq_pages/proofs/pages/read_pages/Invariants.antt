use Rattle.std.proofs.Common.{◌≡◌, ◌-◌, length}
use Rattle.thrift_compact.specs.Cursor.{end_of}
use Rattle.pq_pages.specs.Pages.{pages_in}
use Rattle.pq_pages.proofs.pages.read_pages.Given as goal

abbrev pub invariant-loop-turn : goal.invariant-loop-turn
invariant-loop-turn l =
    pages_in l.spec (end_of l.fn.reader) (length l.fn.reader.rest - l._turn) l.column l.reader.rest
    ≡ pages_in l.spec (end_of l.fn.reader) (length l.fn.reader.rest) l.fn.column l.fn.reader.rest
    × end_of l.reader ≡ end_of l.fn.reader
