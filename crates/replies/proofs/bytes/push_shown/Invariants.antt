use Rattle.std.proofs.Common.{◌≡◌, ◌++◌, take}
use Rattle.lake_model.specs.Texts as spec
use Rattle.replies.proofs.bytes.push_shown.Given as goal

-- the bytes of the text so far
abbrev pub invariant-loop-b : goal.invariant-loop-b
invariant-loop-b l = l.out.items ≡ l.fn.out.items ++ spec.shown (take l.b-index l.text)
