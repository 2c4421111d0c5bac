-- What holds of values.
use Rattle.std.specs.Prelude.{◌≡◌, List, ℕ, Some}
use Rattle.std.specs.declared.cmp.Ordering.{Ordering}
use Rattle.std.specs.declared.cmp.Ordering.TheVariants.{Less, Equal}
use Rattle.std.specs.Ordering.{ordering_reverse}
use Rattle.lake_types.specs.declared.value.ColType.{ColType}
use Rattle.lake_types.specs.declared.value.Value.{Value}
use Rattle.lake_types.specs.Texts.{HasText}
use Rattle.lake_types.specs.Truth.{order_of}

-- a text is that of one value of a type
abbrev pub HasOneValue : Type 0
HasOneValue = (ty : ColType) (a b : Value) (text : List ℕ) → HasText ty a text → HasText ty b text → a ≡ b

-- the order of values that have one is an order
abbrev pub Flips : Type 0
Flips = (a b : Value) (o : Ordering) → order_of a b ≡ Some o → order_of b a ≡ Some (ordering_reverse o)

abbrev pub IsTransitive : Type 0
IsTransitive = (a b c : Value) → order_of a b ≡ Some Less → order_of b c ≡ Some Less → order_of a c ≡ Some Less

abbrev pub OnlyEqualsTie : Type 0
OnlyEqualsTie = (a b : Value) → order_of a b ≡ Some Equal → a ≡ b
