use Rattle.std.proofs.Common.{refl, false, pos}
use Rattle.pq_pages.proofs.picks.pick.Goals as goal

pub returns-in_ok-pick_copied-in-Bools : goal.returns-in_ok-pick_copied-in-Bools
returns-in_ok-pick_copied-in-Bools c = rw (c.in-Bools.is, c.in_ok-pick_copied-in-Bools.ensures false, c.as_slice.ensures.value) refl

pub returns-in_ok-pick_copied-in-I32s : goal.returns-in_ok-pick_copied-in-I32s
returns-in_ok-pick_copied-in-I32s c = rw (c.in-I32s.is, c.in_ok-pick_copied-in-I32s.ensures (pos 0), c.as_slice-in-I32s.ensures.value) refl

pub returns-in_ok-pick_copied-in-I64s : goal.returns-in_ok-pick_copied-in-I64s
returns-in_ok-pick_copied-in-I64s c = rw (c.in-I64s.is, c.in_ok-pick_copied-in-I64s.ensures (pos 0), c.as_slice-in-I64s.ensures.value) refl
