use Rattle.std.proofs.Common.{◌≡◌, ◌+◌, ◌<◌, ◌^◌, drop, None}
use Rattle.std.specs.List.{sum_by}
use Rattle.std.specs.Option.{option_copied}
use Rattle.pq_file.specs.Joining.{joined, verdict}
use Rattle.pq_file.specs.Reading.{stated_rows}
use Rattle.pq_file.proofs.reading.joined.Given as goal

abbrev pub invariant-loop-number : goal.invariant-loop-number
invariant-loop-number l =
    (joined l.bytes (option_copied l.fields) l.metas l.number l.row (verdict l.misfit) l.columns (drop l.number l.groups) ≡ joined l.bytes (option_copied l.fields) l.metas 0 0 (verdict None) l.fn.bare l.groups) ×
    (l.row + sum_by stated_rows (drop l.number l.groups) < 2 ^ 63)
