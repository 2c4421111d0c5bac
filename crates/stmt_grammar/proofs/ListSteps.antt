-- One item more.
use Rattle.std.proofs.Common.{◌≡◌, ℕ, suc, zero, ◌-◌, ◌+◌, ◌<◌, List, [], ◌∷◌, ◌++◌, map, refl, ap, sym, ◌∙◌, append_assoc, append-nil, true, false, arith}
use Rattle.std.specs.Prelude.{Ok, Err}
use Rattle.stmt_tokens.specs.declared.token.Kind.{Kind}
use Rattle.stmt_tokens.specs.declared.token.Token.{Token}
use Rattle.stmt_grammar.specs.Grammar.{Grammar, read, Read, starts, and_then}
use Rattle.stmt_grammar.specs.Phrases.{is, only}
use Rattle.stmt_grammar.specs.Reads.{with_front, others}

front_cons : {A : Type 0} (xs : List A) (x : A) (r : Read (List (Unit {0} × A))) → with_front xs (and_then r (λ ys more. Ok ((tt, x) ∷ ys, more))) ≡ with_front (xs ++ x ∷ []) r
front_cons xs x (Err e) = refl
front_cons xs x (Ok o) = ap (λ ys. Ok (ys, o.1)) (sym (append_assoc xs (x ∷ []) (map (λ y. y.1) o.0)))

pub list_none : {A : Type 0} (sep : Kind) (g : Grammar A) (most : ℕ) (ts : List Token) (xs : List A) → starts (is sep) ts ≡ false → with_front xs (others sep g most ts) ≡ Ok (xs, ts)
list_none sep g zero ts xs h = ap (λ ys. Ok (ys, ts)) (append-nil xs)
list_none sep g (suc most) ts xs h = rw h (ap (λ ys. Ok (ys, ts)) (append-nil xs))

pub list_more : {A : Type 0} (sep : Kind) (g : Grammar A) (most : ℕ) (ts mid rest : List Token) (xs : List A) (x : A) → starts (is sep) ts ≡ true → read (only sep) ts ≡ Ok (tt, mid) → read g mid ≡ Ok (x, rest) →
    with_front xs (others sep g (suc most) ts) ≡ with_front (xs ++ x ∷ []) (others sep g most rest)
list_more sep g most ts mid rest xs x h k l = rw h (rw k (rw l (front_cons xs x (others sep g most rest))))

-- one turn of a loop over at most len items
pub list_turn : {A : Type 0} (sep : Kind) (g : Grammar A) (len turn : ℕ) (ts mid rest : List Token) (xs : List A) (x : A) → turn < len → starts (is sep) ts ≡ true → read (only sep) ts ≡ Ok (tt, mid) → read g mid ≡ Ok (x, rest) →
    with_front (xs ++ x ∷ []) (others sep g (len - (turn + 1)) rest) ≡ with_front xs (others sep g (len - turn) ts)
list_turn sep g len turn ts mid rest xs x t h k l =
    let one : len - turn ≡ suc (len - (turn + 1)) = omega arith in
    sym (ap (λ n. with_front xs (others sep g n ts)) one ∙ list_more sep g (len - (turn + 1)) ts mid rest xs x h k l)

pub ruleset list_steps = (list_none, list_turn)
