-- Signs, choices and repetitions.
use Rattle.std.proofs.Common.{◌≡◌, Bool, true, false, cond, ◌&&◌, ◌||◌, ◌⊎◌, inl, inr, List, [], ◌∷◌, ◌++◌, refl, ap, sym, ◌∙◌, subst, Option, Some, None, append-nil}
use Rattle.std.specs.Prelude.{Ok, Err}
use Rattle.std.proofs.lemmas.Bool.{or_left, or_right, or_cases, and_parts}
use Rattle.stmt_tokens.specs.declared.token.Kind.{Kind}
use Rattle.stmt_tokens.specs.declared.token.Token.{Token}
use Rattle.stmt_grammar.specs.Grammar.{SpellsMaybe, SpellsSign, Read, and_then, found, read_one, starts}
use Rattle.stmt_grammar.specs.Written.{IsWritten, AllWritten}
use Rattle.stmt_grammar.proofs.Fronts.{never_both, two_tokens}
use Rattle.stmt_grammar.proofs.Known.{Known, Apart, Ends, Stuck, Outcome}

-- ---- a sign

module _ (kinds : Kind → Bool) where
  pub known_sign : (t : Token) → IsWritten t → kinds t.kind ≡ true → Known (SpellsSign kinds) false true kinds (λ k. false)
  known_sign t g h = record {
    empty = λ y i. let j : [] ≡ i.0 ∷ [] = i.1 in cc;
    first = λ u m y i. let j : u ∷ m ≡ i.0 ∷ [] = i.1 in let o : i.0 ≡ u = cc in subst (λ (v : Token). kinds v.kind ≡ true) o i.2;
    after = λ a u m y z i j. let v : a ≡ i.0 ∷ [] = i.1 in let w : a ++ u ∷ m ≡ j.0 ∷ [] = j.1 in absurd (two_tokens a i.0 j.0 u m v w);
    one = λ a y z i j. refl;
    some = (t ∷ [], (g, tt), tt, (t, refl, h));
    sure = λ i u j. ([], tt, tt, (u, refl, j));
  }

  pub outcome_sign : (ts : List Token) → ((t : Token) × IsWritten t × (kinds t.kind ≡ true)) → Outcome (SpellsSign kinds) ts (read_one kinds (λ t. Some tt) ts)
  outcome_sign [] s = record {
    front = [];
    cut = refl;
    more = s.0 ∷ [];
    written = (s.1, tt);
    value = tt;
    begins = (s.0, refl, s.2);
    none = λ x i. let j : [] ≡ i.0 ∷ [] = i.1 in cc;
    ends = λ t more m x g h. cc;
  }
  outcome_sign (t ∷ rest) s = by_kind (kinds t.kind) refl
    where
      by_kind : (b : Bool) → kinds t.kind ≡ b → Outcome (SpellsSign kinds) (t ∷ rest) (cond b (found (Some tt) t rest) (Err (t ∷ rest)))
      by_kind true e = record {
        front = t ∷ [];
        cut = refl;
        spells = (t, refl, e);
        ends = λ u more m y g h. absurd (two_tokens (t ∷ []) t h.0 u m refl h.1);
      }
      by_kind false e = record {
        front = [];
        cut = refl;
        more = s.0 ∷ [];
        written = (s.1, tt);
        value = tt;
        begins = (s.0, refl, s.2);
        none = λ x i. let j : [] ≡ i.0 ∷ [] = i.1 in cc;
        ends = λ u more m x g h.
            let i : t ≡ u = cc in
            let v : u ∷ m ≡ h.0 ∷ [] = h.1 in
            let j : t ≡ h.0 = cc in
            let w : false ≡ true = sym e ∙ ap (λ (o : Token). kinds o.kind) j ∙ h.2 in
            cc;
      }

-- ---- one of two

module _ {A : Type 0} (P Q R : List Token → A → Type 0) (s : Bool) (p p' : Kind → Bool)
    (into : (a : List Token) (x : A) → P a x → R a x) (out : (a : List Token) (x : A) → R a x → P a x ⊎ Q a x)
    (full : (x : A) → P [] x → ⊥) (full' : (x : A) → Q [] x → ⊥)
    (cross : (t : Token) (m n : List Token) (x y : A) → P (t ∷ m) x → Q (t ∷ n) y → ⊥) where
  none_of : (a m : List Token) (v x : A) → (P a x → ⊥) → P (a ++ m) v → R a x → ⊥
  none_of a m v x nay h k = elim (out a x k) [ inl i ↦ nay i | inr i ↦ go a h i ]
    where
      go : (a : List Token) → P (a ++ m) v → Q a x → ⊥
      go [] h k = full' x k
      go (t ∷ a) h k = cross t (a ++ m) a v x h k

  ends_of : (a rest m' : List Token) (v : A) → P (a ++ m') v → Ends P a rest → ((t : Token) (more m : List Token) (y : A) → a ++ rest ≡ t ∷ more → Q (t ∷ m) y → ⊥) → Ends R a rest
  ends_of a rest m' v h ends head t more m x g k = elim (out (a ++ t ∷ m) x k) [ inl i ↦ ends t more m x g i | inr i ↦ go a h head i ]
    where
      go : (a : List Token) → P (a ++ m') v → ((t : Token) (more m : List Token) (y : A) → a ++ rest ≡ t ∷ more → Q (t ∷ m) y → ⊥) → Q (a ++ t ∷ m) x → ⊥
      go [] h head k = head t more m x g k
      go (u ∷ a) h head k = cross u (a ++ m') (a ++ t ∷ m) v x h k

  widen : (ts : List Token) (r : Read A) → Outcome P ts r → ((t : Token) (more m : List Token) (y : A) → ts ≡ t ∷ more → Q (t ∷ m) y → ⊥) → Outcome R ts r
  widen ts (Ok o) k head = record {
    front = k.front;
    cut = k.cut;
    spells = into k.front o.0 k.spells;
    ends = ends_of k.front o.1 [] o.0 (subst (λ (i : List Token). P i o.0) (sym (append-nil k.front)) k.spells) k.ends (λ t more m y g. head t more m y (k.cut ∙ g));
  }
  widen ts (Err o) k head = record {
    front = k.front;
    cut = k.cut;
    more = k.more;
    written = k.written;
    value = k.value;
    begins = into (k.front ++ k.more) k.value k.begins;
    none = λ x h. none_of k.front k.more k.value x (k.none x) k.begins h;
    ends = ends_of k.front o k.more k.value k.begins k.ends (λ t more m y g. head t more m y (k.cut ∙ g));
  }

pub starts_at : (p : Kind → Bool) (b : Bool) (ts : List Token) (t : Token) (more : List Token) → starts p ts ≡ b → ts ≡ t ∷ more → p t.kind ≡ b
starts_at p b ts t more h g = sym (ap (starts p) g) ∙ h

abbrev swap : {A B : Type 0} → A ⊎ B → B ⊎ A
swap (inl a) = inr a
swap (inr b) = inl b

module _ {A : Type 0} (P Q : List Token → A → Type 0) (s s' : Bool) (p q p' q' : Kind → Bool) (known : Known P false s p q) (known' : Known Q false s' p' q') (apart : Apart p p') where
  cross : (t : Token) (m n : List Token) (x y : A) → P (t ∷ m) x → Q (t ∷ n) y → ⊥
  cross t m n x y h k = never_both (p t.kind) (p' t.kind) (known.first t m x h) (known'.first t n y k) (apart t.kind)

  full : (x : A) → P [] x → ⊥
  full x h = let i : false ≡ true = known.empty x h in cc

  full' : (x : A) → Q [] x → ⊥
  full' x h = let i : false ≡ true = known'.empty x h in cc

  mixed : (a m n : List Token) (x y : A) → (P a x ⊎ Q a y) → P (a ++ m) x → Q (a ++ n) y → ⊥
  mixed [] m n x y (inl h) k l = full x h
  mixed [] m n x y (inr h) k l = full' y h
  mixed (t ∷ a) m n x y i k l = cross t (a ++ m) (a ++ n) x y k l

  pad : {B : Type 0} (R : List Token → B → Type 0) (a : List Token) (x : B) → R a x → R (a ++ []) x
  pad R a x h = subst (λ (i : List Token). R i x) (sym (append-nil a)) h

  either_after : (a : List Token) (t : Token) (m : List Token) (x y : A) → P a x ⊎ Q a x → P (a ++ t ∷ m) y ⊎ Q (a ++ t ∷ m) y → (q t.kind || q' t.kind) ≡ true
  either_after a t m x y (inl h) (inl k) = or_left (q t.kind) (q' t.kind) (known.after a t m x y h k)
  either_after a t m x y (inr h) (inr k) = or_right (q t.kind) (q' t.kind) (known'.after a t m x y h k)
  either_after a t m x y (inl h) (inr k) = absurd (mixed a [] (t ∷ m) x y (inl h) (pad P a x h) k)
  either_after a t m x y (inr h) (inl k) = absurd (mixed a (t ∷ m) [] y x (inr h) k (pad Q a x h))

  either_one : (a : List Token) (x y : A) → P a x ⊎ Q a x → P a y ⊎ Q a y → x ≡ y
  either_one a x y (inl h) (inl k) = known.one a x y h k
  either_one a x y (inr h) (inr k) = known'.one a x y h k
  either_one a x y (inl h) (inr k) = absurd (mixed a [] [] x y (inl h) (pad P a x h) (pad Q a y k))
  either_one a x y (inr h) (inl k) = absurd (mixed a [] [] y x (inr h) (pad P a y k) (pad Q a x h))

  either_sure : (s && s') ≡ true → (t : Token) → (p t.kind ≡ true) ⊎ (p' t.kind ≡ true) → (m : List Token) × AllWritten m × (x : A) × (P (t ∷ m) x ⊎ Q (t ∷ m) x)
  either_sure h t (inl k) = let u = known.sure (and_parts s s' h).0 t k in (u.0, u.1, u.2, inl u.3)
  either_sure h t (inr k) = let u = known'.sure (and_parts s s' h).1 t k in (u.0, u.1, u.2, inr u.3)

  pub known_either : Known (λ ts x. P ts x ⊎ Q ts x) false (s && s') (λ k. p k || p' k) (λ k. q k || q' k)
  known_either = record {
    empty = λ x h. elim h [ inl i ↦ known.empty x i | inr i ↦ known'.empty x i ];
    first = λ t m x h. elim h [ inl i ↦ or_left (p t.kind) (p' t.kind) (known.first t m x i) | inr i ↦ or_right (p t.kind) (p' t.kind) (known'.first t m x i) ];
    after = either_after;
    one = either_one;
    some = (known.some.0, known.some.1, known.some.2, inl known.some.3);
    sure = λ h t k. either_sure h t (or_cases (p t.kind) (p' t.kind) k);
  }

  pub outcome_either : (ts : List Token) (r r' : Read A) → Outcome P ts r → Outcome Q ts r' → Outcome (λ ts x. P ts x ⊎ Q ts x) ts (cond (starts p ts) r r')
  outcome_either ts r r' k l = by_start (starts p ts) refl
    where
      by_start : (b : Bool) → starts p ts ≡ b → Outcome (λ ts x. P ts x ⊎ Q ts x) ts (cond b r r')
      by_start true e = widen P Q (λ ts x. P ts x ⊎ Q ts x) s p p' (λ a x h. inl h) (λ a x h. h) full full' cross ts r k
          (λ t more m y g h. never_both (p t.kind) (p' t.kind) (starts_at p true ts t more e g) (known'.first t m y h) (apart t.kind))
      by_start false e = widen Q P (λ ts x. P ts x ⊎ Q ts x) s p' p (λ a x h. inr h) (λ a x h. swap h) full' full (λ t m n x y h k. cross t n m y x k h) ts r' l
          (λ t more m y g h. let i : p t.kind ≡ true = known.first t m y h in let j : p t.kind ≡ false = starts_at p false ts t more e g in cc)

-- ---- one or none

module _ {A : Type 0} (P : List Token → A → Type 0) (p q : Kind → Bool) (known : Known P false true p q) where
  never : (x : A) → P [] x → ⊥
  never x h = let i : false ≡ true = known.empty x h in cc

  at_empty : (a : List Token) (x : A) → a ≡ [] → P a x → ⊥
  at_empty a x e h = never x (subst (λ (i : List Token). P i x) e h)

  not_empty : (a : List Token) (t : Token) (m : List Token) → a ++ t ∷ m ≡ [] → ⊥
  not_empty [] t m h = cc
  not_empty (u ∷ a) t m h = cc

  maybe_first : (t : Token) (m : List Token) (o : Option A) → SpellsMaybe P (t ∷ m) o → p t.kind ≡ true
  maybe_first t m None h = cc
  maybe_first t m (Some x) h = known.first t m x h

  maybe_after : (a : List Token) (t : Token) (m : List Token) (o o' : Option A) → SpellsMaybe P a o → SpellsMaybe P (a ++ t ∷ m) o' → (p t.kind || q t.kind) ≡ true
  maybe_after a t m o None h k = absurd (not_empty a t m k)
  maybe_after a t m None (Some y) h k = or_left (p t.kind) (q t.kind) (known.first t m y (subst (λ (i : List Token). P (i ++ t ∷ m) y) h k))
  maybe_after a t m (Some x) (Some y) h k = or_right (p t.kind) (q t.kind) (known.after a t m x y h k)

  maybe_one : (a : List Token) (o o' : Option A) → SpellsMaybe P a o → SpellsMaybe P a o' → o ≡ o'
  maybe_one a None None h k = refl
  maybe_one a None (Some y) h k = absurd (at_empty a y h k)
  maybe_one a (Some x) None h k = absurd (at_empty a x k h)
  maybe_one a (Some x) (Some y) h k = ap Some (known.one a x y h k)

  pub known_maybe : Known (SpellsMaybe P) true false p (λ k. p k || q k)
  known_maybe = record {
    empty = λ o h. refl;
    first = maybe_first;
    after = maybe_after;
    one = maybe_one;
    some = ([], tt, None, refl);
    sure = λ i. let j : false ≡ true = i in cc;
  }

  -- where a first kind stands, the first token is not the wrong one
  pub not_first : (ts rest : List Token) → starts p ts ≡ true → (k : Stuck P ts rest) → k.front ≡ [] → ⊥
  not_first [] rest h k e = cc
  not_first (t ∷ ts) rest h k e =
      let u = known.sure refl t h in
      k.ends t ts u.0 u.2 (sym (k.cut ∙ ap (λ (i : List Token). i ++ rest) e)) (subst (λ (i : List Token). P (i ++ t ∷ u.0) u.2) (sym e) u.3)

  maybe_ends : (a rest : List Token) → Ends P a rest → Ends (SpellsMaybe P) a rest
  maybe_ends a rest ends t more m None g h = not_empty a t m h
  maybe_ends a rest ends t more m (Some x) g h = ends t more m x g h

  maybe_none : (ts rest : List Token) → starts p ts ≡ true → (k : Stuck P ts rest) → (o : Option A) → SpellsMaybe P k.front o → ⊥
  maybe_none ts rest e k None h = not_first ts rest e k h
  maybe_none ts rest e k (Some x) h = k.none x h

  absent : (ts : List Token) → starts p ts ≡ false → Ends (SpellsMaybe P) [] ts
  absent ts e t more m None g h = cc
  absent ts e t more m (Some x) g h = let i : p t.kind ≡ true = known.first t m x h in let j : p t.kind ≡ false = starts_at p false ts t more e g in cc

  present : (ts : List Token) (r : Read A) → starts p ts ≡ true → Outcome P ts r → Outcome (SpellsMaybe P) ts (and_then r (λ x rest. Ok (Some x, rest)))
  present ts (Ok o) e k = record { front = k.front; cut = k.cut; spells = k.spells; ends = maybe_ends k.front o.1 k.ends }
  present ts (Err o) e k = record {
    front = k.front;
    cut = k.cut;
    more = k.more;
    written = k.written;
    value = Some k.value;
    begins = k.begins;
    none = maybe_none ts o e k;
    ends = maybe_ends k.front o k.ends;
  }

  pub outcome_maybe : (ts : List Token) (r : Read A) → Outcome P ts r → Outcome (SpellsMaybe P) ts (cond (starts p ts) (and_then r (λ x rest. Ok (Some x, rest))) (Ok (None, ts)))
  outcome_maybe ts r k = by_start (starts p ts) refl
    where
      by_start : (b : Bool) → starts p ts ≡ b → Outcome (SpellsMaybe P) ts (cond b (and_then r (λ x rest. Ok (Some x, rest))) (Ok (None, ts)))
      by_start true e = present ts r e k
      by_start false e = record { front = []; cut = refl; spells = refl; ends = absent ts e }
