-- Byte strings as values, one turn of a loop at a time.
use Rattle.std.proofs.Common.{◌≡◌, ℕ, zero, List, [], ◌∷◌, ◌++◌, All, Vec, Global, map, refl, arith}
use Rattle.std.proofs.lemmas.List.Elements.{All-tail}
use Rattle.std.specs.Str.{IsUtf8}
use Rattle.lake_types.specs.declared.value.Value.{Value}

abbrev pub items_of : List (Vec ℕ Global) → List (List ℕ)
items_of vs = map (λ (v : Vec ℕ Global). v.items) vs

pub begin_all : (items vs : List (Vec ℕ Global)) (strings : List (List ℕ)) → All (λ x. IsUtf8 x) strings → items_of vs ≡ strings → items ≡ vs
    → All (λ x. IsUtf8 x) (items_of items)
begin_all items vs strings h is same = rw (same, is) h

pub begin_cells : (f : List ℕ → Value) (cells : List Value) (items vs : List (Vec ℕ Global)) (strings : List (List ℕ)) → cells ≡ [] → items_of vs ≡ strings → items ≡ vs
    → cells ++ map f (items_of items) ≡ map f strings
begin_cells f cells items vs strings none is same = rw (none, same, is) refl

pub first_utf8 : (before after : List (Vec ℕ Global)) (x : Vec ℕ Global) → before ≡ x ∷ after → All (λ x. IsUtf8 x) (items_of before) → IsUtf8 x.items
first_utf8 before after x is h = let all : All (λ x. IsUtf8 x) (x.items ∷ items_of after) = rw is at h in all zero [] (omega arith)

pub next_all : (before after : List (Vec ℕ Global)) (x : Vec ℕ Global) → before ≡ x ∷ after → All (λ x. IsUtf8 x) (items_of before) → All (λ x. IsUtf8 x) (items_of after)
next_all before after x is h =
    let all : All (λ x. IsUtf8 x) (x.items ∷ items_of after) = rw is at h in All-tail (λ x. IsUtf8 x) x.items (items_of after) all
