use Rattle.std.proofs.Common.{◌≡◌, ◌++◌, ◌∷◌, take}
use Rattle.std.specs.Prelude.{flat_map}
use Rattle.lake_types.specs.Texts.{doubled}
use Rattle.replies.proofs.bytes.push_quoted.Given as goal

-- the bytes of the name so far
abbrev pub invariant-loop-b : goal.invariant-loop-b
invariant-loop-b l = l.out.items ≡ l.fn.out.items ++ 34 ∷ flat_map (doubled 34) (take l.b-index l.name)
