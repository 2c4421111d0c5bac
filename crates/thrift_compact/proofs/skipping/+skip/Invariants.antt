-- The recursion goes down with the depth. A loop over elements has passed a byte a turn at least, so the bytes bound its turns.
use Rattle.std.proofs.Common.{◌≡◌, ◌≤◌, ◌+◌, ◌-◌, ◌*◌, length, pos}
use Rattle.thrift_compact.specs.Reading.{after_each, after_element, after_entry, after_fields, after_value}
use Rattle.thrift_compact.proofs.skipping.+skip.Given as goal

abbrev pub decreases-skip_value : goal.decreases-skip_value
decreases-skip_value l = 5 * l.depth + 1

abbrev pub decreases-skip_element : goal.decreases-skip_element
decreases-skip_element l = 5 * l.depth + 2

abbrev pub decreases-skip_entry : goal.decreases-skip_entry
decreases-skip_entry l = 5 * l.depth + 3

abbrev pub decreases-skip_elements : goal.decreases-skip_elements
decreases-skip_elements l = 5 * l.depth + 4

abbrev pub decreases-skip_entries : goal.decreases-skip_entries
decreases-skip_entries l = 5 * l.depth + 4

abbrev pub decreases-skip_fields : goal.decreases-skip_fields
decreases-skip_fields l = 5 * l.depth + 4

abbrev pub decreases-skip_nested : goal.decreases-skip_nested
decreases-skip_nested l = 5 * l.depth + 5

abbrev pub invariant-skip_elements-loop-turn : goal.invariant-skip_elements-loop-turn
invariant-skip_elements-loop-turn l =
    after_each (after_element l.end (after_value l.end l.depth) l.ty) (l.count - l._turn) l.rest
    ≡ after_each (after_element l.end (after_value l.end l.depth) l.ty) l.count l.bytes
    × length l.rest + l._turn ≤ length l.bytes

abbrev pub invariant-skip_entries-loop-turn : goal.invariant-skip_entries-loop-turn
invariant-skip_entries-loop-turn l =
    after_each (after_entry l.end (after_value l.end l.depth) l.key l.value) (l.count - l._turn) l.rest
    ≡ after_each (after_entry l.end (after_value l.end l.depth) l.key l.value) l.count l.bytes
    × length l.rest + l._turn ≤ length l.bytes

abbrev pub invariant-skip_fields-loop-turn : goal.invariant-skip_fields-loop-turn
invariant-skip_fields-loop-turn l =
    after_fields l.end (after_value l.end l.depth) (length l.bytes - l._turn) l.last l.rest
    ≡ after_fields l.end (after_value l.end l.depth) (length l.bytes) (pos 0) l.bytes
    × length l.rest + l._turn ≤ length l.bytes
