-- Entries by their numbers, and counts of flags.
use Rattle.std.proofs.Common.{◌≡◌, ℕ, ◌+◌, ◌<◌, List, [], ◌∷◌, ◌++◌, Bool, true, map, take, length, get_or, replicate, cond, refl, ap, ◌∙◌, arith}
use Rattle.std.proofs.lemmas.List.{take_more}
use Rattle.std.proofs.lemmas.List.Folds.{sum_by-replicate}
use Rattle.std.specs.List.{count_by}

map_append : {X Y : Type 0} (f : X → Y) (xs ys : List X) → map f (xs ++ ys) ≡ map f xs ++ map f ys
map_append f [] ys = refl
map_append {Y = Y} f (x ∷ xs) ys = ap (λ (zs : List Y). f x ∷ zs) (map_append f xs ys)

-- one more of a mapped list
pub map_more : {X Y : Type 0} (f : X → Y) (xs : List X) (i : ℕ) (d : X) → i < length xs → map f (take (i + 1) xs) ≡ map f (take i xs) ++ f (get_or xs i d) ∷ []
map_more {X = X} f xs i d h = ap (λ (ys : List X). map f ys) (take_more xs i d h) ∙ map_append f (take i xs) (get_or xs i d ∷ [])

-- all of so many flags are set
pub count_all : (n : ℕ) → count_by (λ (flag : Bool). flag) (replicate n true) ≡ n
count_all n = sum_by-replicate (λ (flag : Bool). cond flag 1 0) n true ∙ (omega arith)
