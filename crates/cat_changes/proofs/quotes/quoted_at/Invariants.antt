use Rattle.std.proofs.Common.{◌≡◌, length, false}
use Rattle.std.specs.Str.{IsUtf8}
use Rattle.std.specs.String.{string_bytes}
use Rattle.cat_changes.specs.Reading.{inside, with_front, quoted_in}
use Rattle.cat_changes.proofs.quotes.quoted_at.Given as goal

-- the name so far, and what is inside the quotes still
abbrev pub invariant-loop-before : goal.invariant-loop-before
invariant-loop-before l = (with_front (string_bytes l.name) (inside false l.rest) ≡ quoted_in l.fn.text) × IsUtf8 l.rest

abbrev pub decreases-loop-before : goal.decreases-loop-before
decreases-loop-before l = length l.rest
