-- Repetitions.
use Rattle.std.proofs.Common.{◌≡◌, ℕ, zero, suc, ◌+◌, ◌≤◌, arith, Bool, true, false, cond, ◌||◌, ◌⊎◌, inl, inr, List, [], ◌∷◌, ◌++◌, length, refl, ap, sym, ◌∙◌, append_assoc, subst, append-nil, length-append}
use Rattle.std.proofs.lemmas.Bool.{or_left, or_right}
use Rattle.std.specs.Prelude.{Ok, Err}
use Rattle.stmt_tokens.specs.declared.token.Kind.{Kind}
use Rattle.stmt_tokens.specs.declared.token.Token.{Token}
use Rattle.stmt_grammar.specs.Grammar.{SpellsBoth, SpellsAll, Read, and_then, starts, read_many}
use Rattle.stmt_grammar.proofs.Fronts.{Cuts, same, longer, shorter, cuts, never_both}
use Rattle.stmt_grammar.proofs.Known.{Known, Apart, Whole, Stuck, Outcome, outcome_both}
use Rattle.stmt_grammar.proofs.Choices.{starts_at}

module _ {A : Type 0} (P : List Token → A → Type 0) (p q : Kind → Bool) (known : Known P false true p q) (apart : Apart q p) where
  all_first_at : (t : Token) (m a b : List Token) (x : A) → t ∷ m ≡ a ++ b → P a x → p t.kind ≡ true
  all_first_at t m [] b x g h = let i : false ≡ true = known.empty x h in cc
  all_first_at t m (u ∷ a) b x g h = let i : u ≡ t = cc in subst (λ (v : Token). p v.kind ≡ true) i (known.first u a x h)

  all_first : (t : Token) (m : List Token) (xs : List A) → SpellsAll P (t ∷ m) xs → p t.kind ≡ true
  all_first t m [] h = cc
  all_first t m (x ∷ xs) h = all_first_at t m h.0 h.1 x h.2 h.3

  full_front : (t : Token) (m a b : List Token) → a ++ t ∷ m ≡ [] → ⊥
  full_front t m [] b h = cc
  full_front t m (u ∷ a) b h = cc

  -- a phrase does not go on where another begins
  mismatch : (a : List Token) (x y : A) (t : Token) (m n : List Token) (zs : List A) → P a x → P (a ++ t ∷ m) y → SpellsAll P (t ∷ n) zs → ⊥
  mismatch a x y t m n zs h k l = never_both (q t.kind) (p t.kind) (known.after a t m x y h k) (all_first t n zs l) (apart t.kind)

  behind : (a1 a2 : List Token) (t : Token) (m : List Token) (r : Token) (c b2 : List Token) (x y : A) (xs : List A) → P a1 x → SpellsAll P a2 xs → P (a1 ++ r ∷ c) y → a2 ++ t ∷ m ≡ r ∷ (c ++ b2) → (p t.kind || q t.kind) ≡ true
  behind a1 [] t m r c b2 x y xs h k l g =
      let i : r ≡ t = cc in
      or_right (p t.kind) (q t.kind) (subst (λ (v : Token). q v.kind ≡ true) i (known.after a1 r c x y h l))
  behind a1 (u ∷ a2) t m r c b2 x y xs h k l g =
      let i : u ≡ r = cc in
      absurd (mismatch a1 x y r c a2 xs h l (subst (λ (v : Token). SpellsAll P (v ∷ a2) xs) i k))

  all_after : (xs ys : List A) (a : List Token) (t : Token) (m : List Token) → SpellsAll P a xs → SpellsAll P (a ++ t ∷ m) ys → (p t.kind || q t.kind) ≡ true
  all_after [] ys a t m h k = or_left (p t.kind) (q t.kind) (all_first t m ys (subst (λ (i : List Token). SpellsAll P (i ++ t ∷ m) ys) h k))
  all_after (x ∷ xs) [] a t m h k = absurd (full_front t m a [] k)
  all_after (x ∷ xs) (y ∷ ys) a t m h k =
      elim (cuts h.0 (h.1 ++ t ∷ m) k.0 k.1 (sym (append_assoc h.0 h.1 (t ∷ m)) ∙ ap (λ (i : List Token). i ++ t ∷ m) (sym h.2) ∙ k.2)) as (λ (v : Cuts h.0 (h.1 ++ t ∷ m) k.0 k.1). (p t.kind || q t.kind) ≡ true) [
        | same u v ↦ all_after xs ys h.1 t m h.4 (subst (λ (i : List Token). SpellsAll P i ys) (sym v) k.4)
        | longer r c u v ↦ absurd (mismatch k.0 y x r c (c ++ (h.1 ++ t ∷ m)) ys k.3 (subst (λ (i : List Token). P i x) u h.3) (subst (λ (i : List Token). SpellsAll P i ys) v k.4))
        | shorter r c u v ↦ behind h.0 h.1 t m r c k.1 x y xs h.3 h.4 (subst (λ (i : List Token). P i y) u k.3) v
      ]

  full_one : (a a1 a2 : List Token) (x : A) → a ≡ [] → a ≡ a1 ++ a2 → P a1 x → ⊥
  full_one a [] a2 x e g h = let i : false ≡ true = known.empty x h in cc
  full_one a (u ∷ a1) a2 x e g h = cc

  all_one : (xs ys : List A) (a : List Token) → SpellsAll P a xs → SpellsAll P a ys → xs ≡ ys
  all_one [] [] a h k = refl
  all_one [] (y ∷ ys) a h k = absurd (full_one a k.0 k.1 y h k.2 k.3)
  all_one (x ∷ xs) [] a h k = absurd (full_one a h.0 h.1 x k h.2 h.3)
  all_one (x ∷ xs) (y ∷ ys) a h k =
      elim (cuts h.0 h.1 k.0 k.1 (sym h.2 ∙ k.2)) as (λ (v : Cuts h.0 h.1 k.0 k.1). x ∷ xs ≡ y ∷ ys) [
        | same u v ↦
            let i : x ≡ y = known.one h.0 x y h.3 (subst (λ (j : List Token). P j y) (sym u) k.3) in
            let j : xs ≡ ys = all_one xs ys h.1 h.4 (subst (λ (j : List Token). SpellsAll P j ys) (sym v) k.4) in
            cc
        | longer r c u v ↦ absurd (mismatch k.0 y x r c (c ++ h.1) ys k.3 (subst (λ (i : List Token). P i x) u h.3) (subst (λ (i : List Token). SpellsAll P i ys) v k.4))
        | shorter r c u v ↦ absurd (mismatch h.0 x y r c (c ++ k.1) xs h.3 (subst (λ (i : List Token). P i y) u k.3) (subst (λ (i : List Token). SpellsAll P i xs) v h.4))
      ]

  pub known_many : Known (SpellsAll P) true false p (λ k. p k || q k)
  known_many = record {
    empty = λ o h. refl;
    first = all_first;
    after = λ a t m xs ys h k. all_after xs ys a t m h k;
    one = λ a xs ys h k. all_one xs ys a h k;
    some = ([], tt, [], refl);
    sure = λ i. let j : false ≡ true = i in cc;
  }

  -- one and the others
  list_of : (ts : List Token) (xs : List A) → starts p ts ≡ true → SpellsAll P ts xs → (z : A × List A) × SpellsBoth P (SpellsAll P) ts z × (xs ≡ z.0 ∷ z.1)
  list_of [] xs e h = cc
  list_of (t ∷ ts) [] e h = cc
  list_of (t ∷ ts) (x ∷ xs) e h = ((x, xs), h, refl)

  begun : (a : List Token) (t : Token) (m : List Token) (xs : List A) → SpellsAll P (a ++ t ∷ m) xs → (z : A × List A) × SpellsBoth P (SpellsAll P) (a ++ t ∷ m) z
  begun a t m [] h = absurd (full_front t m a [] h)
  begun a t m (x ∷ xs) h = ((x, xs), h)

  cons_none : (ts rest : List Token) → starts p ts ≡ true → (k : Stuck (SpellsBoth P (SpellsAll P)) ts rest) → (k.front ≡ [] → ⊥) → (xs : List A) → SpellsAll P k.front xs → ⊥
  cons_none ts rest e k nay [] h = nay h
  cons_none ts rest e k nay (x ∷ xs) h = k.none (x, xs) h

  consed_ok : (ts rest : List Token) (z : A × List A) → Whole (SpellsBoth P (SpellsAll P)) ts z rest → Whole (SpellsAll P) ts (z.0 ∷ z.1) rest
  consed_ok ts rest z k = record {
    front = k.front;
    cut = k.cut;
    spells = k.spells;
    ends = λ t more m xs g h. let u = begun k.front t m xs h in k.ends t more m u.0 g u.1;
  }

  consed_err : (ts rest : List Token) → starts p ts ≡ true → Stuck (SpellsBoth P (SpellsAll P)) ts rest → Stuck (SpellsAll P) ts rest
  consed_err ts rest e k = record {
    front = k.front;
    cut = k.cut;
    more = k.more;
    written = k.written;
    value = k.value.0 ∷ k.value.1;
    begins = k.begins;
    none = cons_none ts rest e k (front_full ts k e);
    ends = λ t more m xs g h. let u = begun k.front t m xs h in k.ends t more m u.0 g u.1;
  }
    where
      front_full : (ts : List Token) (k : Stuck (SpellsBoth P (SpellsAll P)) ts rest) → starts p ts ≡ true → k.front ≡ [] → ⊥
      front_full [] k e g = cc
      front_full (t ∷ ts) k e g =
          let u = known.sure refl t e in
          k.ends t ts u.0 (u.2, []) (sym (k.cut ∙ ap (λ (i : List Token). i ++ rest) g))
          (subst (λ (i : List Token). SpellsBoth P (SpellsAll P) (i ++ t ∷ u.0) (u.2, [])) (sym g) (t ∷ u.0, [], sym (append-nil (t ∷ u.0)), u.3, refl))

  consed : (ts : List Token) (r : Read A) (others : List Token → Read (List A)) → starts p ts ≡ true →
      Outcome (SpellsBoth P (SpellsAll P)) ts (and_then r (λ x rest. and_then (others rest) (λ y more. Ok ((x, y), more)))) →
      Outcome (SpellsAll P) ts (and_then r (λ x rest. and_then (others rest) (λ y more. Ok (x ∷ y, more))))
  consed ts (Err o) others e k = consed_err ts o e k
  consed ts (Ok o) others e k = go (others o.1) k
    where
      go : (r : Read (List A)) → Outcome (SpellsBoth P (SpellsAll P)) ts (and_then r (λ y more. Ok ((o.0, y), more))) → Outcome (SpellsAll P) ts (and_then r (λ y more. Ok (o.0 ∷ y, more)))
      go (Ok v) k = consed_ok ts v.1 (o.0, v.0) k
      go (Err v) k = consed_err ts v e k

  none_more : (ts : List Token) → (starts p ts ≡ false) ⊎ (ts ≡ []) → Whole (SpellsAll P) ts [] ts
  none_more ts e = record { front = []; cut = refl; spells = refl; ends = λ t more m xs g h. go e t more m xs g h }
    where
      go : (starts p ts ≡ false) ⊎ (ts ≡ []) → (t : Token) (more m : List Token) (xs : List A) → ts ≡ t ∷ more → SpellsAll P (t ∷ m) xs → ⊥
      go (inl e) t more m xs g h = let i : p t.kind ≡ true = all_first t m xs h in let j : p t.kind ≡ false = starts_at p false ts t more e g in cc
      go (inr e) t more m xs g h = cc

  shorter_rest : (ts rest : List Token) (x : A) (n : ℕ) → Whole P ts x rest → length ts ≤ suc n → length rest ≤ n
  shorter_rest ts rest x n k l = go k.front k.cut k.spells
    where
      go : (a : List Token) → ts ≡ a ++ rest → P a x → length rest ≤ n
      go [] g h = let i : false ≡ true = known.empty x h in cc
      go (t ∷ a) g h =
          let u : length ts ≡ suc (length (a ++ rest)) = ap length g in
          let v : length (a ++ rest) ≡ length a + length rest = length-append a rest in
          omega arith

  no_tokens : (ts : List Token) → length ts ≤ 0 → ts ≡ []
  no_tokens [] h = refl
  no_tokens (t ∷ ts) h = absurd (omega arith)

  pub outcome_many : (reader : List Token → Read A) → ((ts : List Token) → Outcome P ts (reader ts)) → (n : ℕ) (ts : List Token) → length ts ≤ n → Outcome (SpellsAll P) ts (read_many p reader n ts)
  outcome_many reader reads zero ts l = none_more ts (inr (no_tokens ts l))
  outcome_many reader reads (suc n) ts l =
      by_start (λ x rest e. outcome_many reader reads n rest (shorter_rest ts rest x n (subst (λ (r : Read A). Outcome P ts r) e (reads ts)) l)) (starts p ts) refl
    where
      by_start : ((x : A) (rest : List Token) → reader ts ≡ Ok (x, rest) → Outcome (SpellsAll P) rest (read_many p reader n rest)) → (b : Bool) → starts p ts ≡ b → Outcome (SpellsAll P) ts (cond b (and_then (reader ts) (λ x rest. and_then (read_many p reader n rest) (λ xs more. Ok (x ∷ xs, more)))) (Ok ([], ts)))
      by_start ih true e = consed ts (reader ts) (read_many p reader n) e
          (outcome_both P (SpellsAll P) false true true false p q p (λ k. p k || q k) known known_many apart ts (reader ts) (read_many p reader n) (reads ts) ih)
      by_start ih false e = none_more ts (inl e)
