use Rattle.std.proofs.Common.{◌-◌, ◌<◌, ◌≤◌, length, take}
use Rattle.cat_spans.specs.Spans.{IsWithin, IsExceeded}
use Rattle.cat_spans.proofs.limits.first_past.Given as goal

abbrev pub invariant-loop-past : goal.invariant-loop-past
invariant-loop-past l = (l.within < l.past) × (l.past ≤ length l.spans) × IsWithin l.limit (take l.within l.spans) × IsExceeded l.limit (take l.past l.spans)

abbrev pub decreases-loop-past : goal.decreases-loop-past
decreases-loop-past l = l.past - l.within
