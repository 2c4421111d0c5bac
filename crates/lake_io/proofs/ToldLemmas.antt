-- What calls in a row give and take, and what their counts say together.
use Rattle.std.proofs.Common.{◌≡◌, ℕ, ◌+◌, ◌-◌, ◌≤◌, List, [], ◌++◌, Option, Some, None, IfSome, length, take, drop, refl, sym, ap, ◌∙◌, append_assoc, append-nil, length-drop, arith}
use Rattle.std.proofs.lemmas.List.{take_all}
use Rattle.std.proofs.Math.Seq.{take-add}
use Rattle.lake_io.specs.Causes.{Rose}
use Rattle.lake_io.specs.Told.{Gives, IsAtEnd, Takes}

-- a sink that nothing was written to
pub Takes-nothing : (a : Option (List ℕ)) → Takes a a []
Takes-nothing None = tt
Takes-nothing (Some a) = sym (append-nil a)

-- a sink takes one piece, and then another
pub Takes-then : (a b c : Option (List ℕ)) (x y : List ℕ) → Takes a b x → Takes b c y → Takes a c (x ++ y)
Takes-then a b None x y p q = tt
Takes-then (Some a) (Some b) (Some c) x y p q = q ∙ ap (λ l. l ++ y) p ∙ append_assoc a x y
Takes-then None (Some b) (Some c) x y p q = absurd p
Takes-then a None (Some c) x y p q = absurd q

-- a sink takes a further part of one piece
pub Takes-more : (a b c : Option (List ℕ)) (i n : ℕ) (piece : List ℕ) → Takes a b (take i piece) → Takes b c (take n (drop i piece)) → Takes a c (take (i + n) piece)
Takes-more a b c i n piece p q = rw take-add (Takes-then a b c _ _ p q)

-- a source that wasn't read
pub Gives-nothing : (a : Option (List ℕ)) → Gives a a []
Gives-nothing None = tt
Gives-nothing (Some a) = refl

-- a source gives some bytes, and then others
pub Gives-then : (a b c : Option (List ℕ)) (x y : List ℕ) → Gives a b x → Gives b c y → Gives a c (x ++ y)
Gives-then (Some a) (Some b) (Some c) x y p q = p ∙ ap (λ l. x ++ l) q ∙ sym (append_assoc x y c)
Gives-then None None None x y p q = tt
Gives-then (Some a) (Some b) None x y p q = absurd q
Gives-then (Some a) None c x y p q = absurd p
Gives-then None (Some b) c x y p q = absurd p
Gives-then None None (Some c) x y p q = absurd q

-- at its end a source has given all that was left
pub Gives-all : (a b : Option (List ℕ)) (x : List ℕ) → Gives a b x → IsAtEnd b → IfSome a (λ left. left ≡ x)
Gives-all None b x p e = tt
Gives-all (Some a) None x p e = absurd p
Gives-all (Some a) (Some b) x p e = p ∙ ap (λ l. x ++ l) e ∙ append-nil x

-- a count that rose in one part of the calls rose over all of them
pub Rose-within : (a b c d : ℕ) → a ≤ b → Rose b c → c ≤ d → Rose a d
Rose-within a b c d before rose after = omega arith

-- what `&piece[i..]` is
pub tail-range : (i : ℕ) (piece : List ℕ) → take (length piece - i) (drop i piece) ≡ drop i piece
tail-range i piece = take_all (length piece - i) (drop i piece) (omega (arith, length-drop i piece))
