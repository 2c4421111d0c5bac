-- Two ways to cut one list, and tests.
use Rattle.std.proofs.Common.{◌≡◌, Bool, true, false, cond, not, ◌&&◌, ◌||◌, List, [], ◌∷◌, ◌++◌, refl, ap, sym}
use Rattle.std.proofs.lemmas.Bool.{or_left, or_right}

-- where a ++ b and c ++ d are one list
pub data Cuts {T : Type 0} (a b c d : List T) : Type 0 where
  same : a ≡ c → b ≡ d → Cuts a b c d
  longer : (s : T) (m : List T) → a ≡ c ++ s ∷ m → d ≡ s ∷ (m ++ b) → Cuts a b c d
  shorter : (s : T) (m : List T) → c ≡ a ++ s ∷ m → b ≡ s ∷ (m ++ d) → Cuts a b c d

one_more : {T : Type 0} (x y : T) (a b c d : List T) → x ≡ y → Cuts a b c d → Cuts (x ∷ a) b (y ∷ c) d
one_more x y a b c d e (same p q) = same (cc) q
one_more x y a b c d e (longer s m p q) = longer s m (cc) q
one_more x y a b c d e (shorter s m p q) = shorter s m (cc) q

pub cuts : {T : Type 0} (a b c d : List T) → a ++ b ≡ c ++ d → Cuts a b c d
cuts [] b [] d h = same refl h
cuts [] b (y ∷ c) d h = shorter y c refl h
cuts (x ∷ a) b [] d h = longer x a refl (sym h)
cuts (x ∷ a) b (y ∷ c) d h =
    let e : x ≡ y = cc in
    let t : a ++ b ≡ c ++ d = cc in
    one_more x y a b c d e (cuts a b c d t)

pub both_empty : {T : Type 0} (a b : List T) → [] ≡ a ++ b → (a ≡ []) × (b ≡ [])
both_empty [] b h = (refl, sym h)
both_empty (x ∷ a) b h = cc

-- what stands first in b ++ t ∷ m, whatever m is
pub head_same : {T : Type 0} (b : List T) (t : T) (m n : List T) (s : T) (rest : List T) → b ++ t ∷ m ≡ s ∷ rest → (more : List T) × (b ++ t ∷ n ≡ s ∷ more)
head_same [] t m n s rest h = let e : t ≡ s = cc in (n, ap (λ x. x ∷ n) e)
head_same (x ∷ b) t m n s rest h = let e : x ≡ s = cc in (b ++ t ∷ n, ap (λ x. x ∷ (b ++ t ∷ n)) e)

pub never_both : (a b : Bool) → a ≡ true → b ≡ true → (a && b) ≡ false → ⊥
never_both true b h k n = cc
never_both false b h k n = cc

pub not_second : (a e b : Bool) → not e ≡ true → cond e (a || b) a ≡ true → a ≡ true
not_second true e b h k = refl
not_second false true b h k = cc
not_second false false b h k = k

pub two_tokens : {T : Type 0} (a : List T) (t u v : T) (m : List T) → a ≡ t ∷ [] → a ++ v ∷ m ≡ u ∷ [] → ⊥
two_tokens [] t u v m h k = cc
two_tokens (x ∷ []) t u v m h k = cc
two_tokens (x ∷ y ∷ a) t u v m h k = cc

pub cond_left : (a e b : Bool) → a ≡ true → cond e (a || b) a ≡ true
cond_left a true b h = or_left a b h
cond_left a false b h = h

pub cond_right : (a e b : Bool) → e ≡ true → b ≡ true → cond e (a || b) a ≡ true
cond_right a true b h k = or_right a b k
cond_right a false b h k = cc
