-- A text is cut at its first sign.
use Rattle.std.proofs.Common.{◌≡◌, ◌≢◌, ℕ, suc, ◌<◌, ◌==◌, List, [], ◌∷◌, ◌++◌, length, get_or, drop, ◌+◌, Option, Some, None, true, false, IfSome, inl, inr, refl, arith}
use Rattle.std.specs.Borrow.{Bor}
use Rattle.std.specs.Str.Pattern.{FindsCharPrefix}
use Rattle.std.specs.Option.{MatchOption}
use Rattle.std.proofs.lemmas.Bool.{cases_Bool, eqb-false, ne_eqb}
use Rattle.std.proofs.lemmas.Str.Pattern.{IsSplitOnceResult, split_parts, strip_prefix_char}
use Rattle.cat_changes.specs.Reading.{lacks}
use Rattle.cat_changes.specs.Changes.{tail_text}

lacks_each : (c : ℕ) (bytes : List ℕ) → ((i : ℕ) → i < length bytes → get_or bytes i 0 ≢ c) → lacks c bytes ≡ true
lacks_each c [] h = refl
lacks_each c (b ∷ bytes) h = rw (ne_eqb b c (h 0 (omega arith))) (lacks_each c bytes (λ i lt. h (suc i) (omega arith)))

pub cut_some : (c : ℕ) (bytes : List ℕ) (r : Option (Bor (List ℕ) × Bor (List ℕ))) → IsSplitOnceResult c bytes r → c < 128
    → IfSome r (λ x. (bytes ≡ x.0.now ++ c ∷ x.1.now) × (lacks c x.0.now ≡ true))
cut_some c bytes None h lt = tt
cut_some c bytes (Some x) h lt = let p = split_parts c bytes (Some x) h lt in (p.0, lacks_each c x.0.now p.1)

pub cut_none : (c : ℕ) (bytes : List ℕ) (r : Option (Bor (List ℕ) × Bor (List ℕ))) → IsSplitOnceResult c bytes r → c < 128 → r ≡ None → lacks c bytes ≡ true
cut_none c bytes None h lt e = lacks_each c bytes (split_parts c bytes None h lt)
cut_none c bytes (Some x) h lt e = cc

pub behind_none : (c : ℕ) (bytes : List ℕ) (r : Option (Bor (List ℕ)))
    → MatchOption r (FindsCharPrefix c bytes None) (λ x. (n : ℕ) × FindsCharPrefix c bytes (Some n) × (x.now ≡ drop n bytes) × (length x.now + n ≡ length bytes))
    → c < 128 → r ≡ None → (rest : List ℕ) → bytes ≢ c ∷ rest
behind_none c bytes None h lt e = strip_prefix_char c bytes None h lt
behind_none c bytes (Some x) h lt e = cc

-- ---- there is one cut at the first sign

abbrev pub sign_tail : ℕ → Option (List ℕ) → List ℕ
sign_tail c None = []
sign_tail c (Some rest) = c ∷ rest

pub comma_tail : (t : Option (List ℕ)) → tail_text t ≡ sign_tail 44 t
comma_tail None = refl
comma_tail (Some rest) = refl

lacks_head : (c b : ℕ) (bytes : List ℕ) → lacks c (b ∷ bytes) ≡ true → b ≡ c → ⊥
lacks_head c b bytes h e =
    elim (cases_Bool (b == c)) [
      | inl is ↦ let bad : false ≡ true = rw is at h in cc
      | inr other ↦ eqb-false b c other e
    ]

lacks_tail : (c b : ℕ) (bytes : List ℕ) → lacks c (b ∷ bytes) ≡ true → lacks c bytes ≡ true
lacks_tail c b bytes h =
    elim (cases_Bool (b == c)) [
      | inl is ↦ let bad : false ≡ true = rw is at h in cc
      | inr other ↦ rw other at h
    ]

pub first_cut : (c : ℕ) (a b : List ℕ) (t u : Option (List ℕ)) → lacks c a ≡ true → lacks c b ≡ true → a ++ sign_tail c t ≡ b ++ sign_tail c u → (a ≡ b) × (t ≡ u)
first_cut c [] [] None None la lb e = (refl, refl)
first_cut c [] [] None (Some u) la lb e = cc
first_cut c [] [] (Some t) None la lb e = cc
first_cut c [] [] (Some t) (Some u) la lb e = (refl, (cc))
first_cut c [] (y ∷ b) None u la lb e = cc
first_cut c [] (y ∷ b) (Some t) u la lb e = absurd (lacks_head c y b lb (cc))
first_cut c (x ∷ a) [] t None la lb e = cc
first_cut c (x ∷ a) [] t (Some u) la lb e = absurd (lacks_head c x a la (cc))
first_cut c (x ∷ a) (y ∷ b) t u la lb e =
    let same : x ≡ y = cc in
    let r = first_cut c a b t u (lacks_tail c x a la) (lacks_tail c y b lb) (cc) in
    let front : a ≡ b = r.0 in
    ((cc), r.1)
