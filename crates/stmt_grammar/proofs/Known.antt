-- What is known of a phrase, and how it is put together.
use Rattle.std.proofs.Common.{◌≡◌, Bool, true, false, cond, not, ◌&&◌, ◌||◌, List, [], ◌∷◌, ◌++◌, refl, ap, sym, ◌∙◌, append_assoc, subst, Option, Some, None, append-nil}
use Rattle.std.proofs.lemmas.Bool.{and_from, and_parts, or_left, or_right}
use Rattle.stmt_tokens.specs.declared.token.Kind.{Kind}
use Rattle.stmt_tokens.specs.declared.token.Token.{Token}
use Rattle.std.specs.Prelude.{Ok, Err}
use Rattle.stmt_grammar.specs.Grammar.{SpellsBoth, SpellsToken, SpellsMade, Read, and_then, found, read_one}
use Rattle.stmt_grammar.specs.Written.{IsWritten, AllWritten}
use Rattle.stmt_grammar.proofs.WrittenLemmas.{append_written}
use Rattle.stmt_grammar.proofs.Fronts.{cond_left, cond_right, two_tokens, not_second, Cuts, head_same, same, longer, shorter, cuts, both_empty, never_both}

-- P with its first kinds, the kinds that go on after a whole one, whether it may be empty, and whether each first kind begins one
pub record Known {A : Type 0} (P : List Token → A → Type 0) (e s : Bool) (p q : Kind → Bool) : Type 0 where
  pub empty : (x : A) → P [] x → e ≡ true
  pub first : (t : Token) (m : List Token) (x : A) → P (t ∷ m) x → p t.kind ≡ true
  pub after : (a : List Token) (t : Token) (m : List Token) (x y : A) → P a x → P (a ++ t ∷ m) y → q t.kind ≡ true
  pub one : (a : List Token) (x y : A) → P a x → P a y → x ≡ y
  pub some : (a : List Token) × AllWritten a × (x : A) × P a x
  pub sure : s ≡ true → (t : Token) → p t.kind ≡ true → (m : List Token) × AllWritten m × (x : A) × P (t ∷ m) x

-- nothing that begins with a and the first of the rest
abbrev pub Ends : {A : Type 0} → (List Token → A → Type 0) → List Token → List Token → Type 0
Ends {A} P a rest = (t : Token) (more m : List Token) (x : A) → rest ≡ t ∷ more → P (a ++ t ∷ m) x → ⊥

-- a phrase, and the longest one
pub record Whole {A : Type 0} (P : List Token → A → Type 0) (ts : List Token) (x : A) (rest : List Token) : Type 0 where
  pub front : List Token
  pub cut : ts ≡ front ++ rest
  pub spells : P front x
  pub ends : Ends P front rest

-- a front that begins a phrase and is none, and nothing begins with it and the next token
pub record Stuck {A : Type 0} (P : List Token → A → Type 0) (ts : List Token) (rest : List Token) : Type 0 where
  pub front : List Token
  pub cut : ts ≡ front ++ rest
  pub more : List Token
  pub written : AllWritten more
  pub value : A
  pub begins : P (front ++ more) value
  pub none : (x : A) → P front x → ⊥
  pub ends : Ends P front rest

abbrev pub Outcome : {A : Type 0} → (List Token → A → Type 0) → List Token → Read A → Type 0
Outcome P ts (Ok r) = Whole P ts r.0 r.1
Outcome P ts (Err rest) = Stuck P ts rest

abbrev pub Apart : (Kind → Bool) → (Kind → Bool) → Type 0
Apart p q = (k : Kind) → (p k && q k) ≡ false

module _ {A B : Type 0} (P : List Token → A → Type 0) (Q : List Token → B → Type 0) (e f s s' : Bool) (p q p' q' : Kind → Bool) (known : Known P e s p q) (known' : Known Q f s' p' q') (apart : Apart q p') where
  -- a phrase that goes on where the next one begins
  pub clash : (a : List Token) (x y : A) (t : Token) (m n : List Token) (z : B) → P a x → P (a ++ t ∷ m) y → Q (t ∷ n) z → ⊥
  clash a x y t m n z h k l = never_both (q t.kind) (p' t.kind) (known.after a t m x y h k) (known'.first t n z l) (apart t.kind)

  pub same_cut : (a b c d : List Token) (x y : A) (z w : B) → P a x → Q b z → P c y → Q d w → a ++ b ≡ c ++ d → (a ≡ c) × (b ≡ d)
  same_cut a b c d x y z w h k l m g =
      elim (cuts a b c d g) as (λ (v : Cuts a b c d). (a ≡ c) × (b ≡ d)) [
        | same u v ↦ (u, v)
        | longer t n u v ↦ absurd (clash c y x t n (n ++ b) w l (subst (λ (i : List Token). P i x) u h) (subst (λ (i : List Token). Q i w) v m))
        | shorter t n u v ↦ absurd (clash a x y t n (n ++ d) z h (subst (λ (i : List Token). P i y) u l) (subst (λ (i : List Token). Q i z) v k))
      ]

  both_first : (t : Token) (m : List Token) (x : A) (y : B) (a b : List Token) → t ∷ m ≡ a ++ b → P a x → Q b y → cond e (p t.kind || p' t.kind) (p t.kind) ≡ true
  both_first t m x y [] b g h k =
      cond_right (p t.kind) e (p' t.kind) (known.empty x h) (known'.first t m y (subst (λ (i : List Token). Q i y) (sym g) k))
  both_first t m x y (u ∷ a) b g h k =
      let i : u ≡ t = cc in
      cond_left (p t.kind) e (p' t.kind) (subst (λ (v : Token). p v.kind ≡ true) i (known.first u a x h))

  shorter_after : (a1 a2 : List Token) (t : Token) (m : List Token) (r : Token) (c b2 : List Token) (x y : A) (z w : B) → P a1 x → Q a2 z → P (a1 ++ r ∷ c) y → a2 ++ t ∷ m ≡ r ∷ (c ++ b2) → (q' t.kind || (f && q t.kind)) ≡ true
  shorter_after a1 [] t m r c b2 x y z w h k l g =
      let i : r ≡ t = cc in
      or_right (q' t.kind) (f && q t.kind) (and_from f (q t.kind) (known'.empty z k) (subst (λ (v : Token). q v.kind ≡ true) i (known.after a1 r c x y h l)))
  shorter_after a1 (u ∷ a2) t m r c b2 x y z w h k l g =
      let i : u ≡ r = cc in
      absurd (clash a1 x y r c a2 z h l (subst (λ (v : Token). Q (v ∷ a2) z) i k))

  -- b1 b2 is a1 a2 t m
  both_after : (a1 a2 : List Token) (t : Token) (m : List Token) (b1 b2 : List Token) (x y : A) (z w : B) → P a1 x → Q a2 z → P b1 y → Q b2 w → (a1 ++ a2) ++ t ∷ m ≡ b1 ++ b2 → (q' t.kind || (f && q t.kind)) ≡ true
  both_after a1 a2 t m b1 b2 x y z w h k l n g =
      elim (cuts a1 (a2 ++ t ∷ m) b1 b2 (sym (append_assoc a1 a2 (t ∷ m)) ∙ g)) as (λ (v : Cuts a1 (a2 ++ t ∷ m) b1 b2). (q' t.kind || (f && q t.kind)) ≡ true) [
        | same u v ↦ or_left (q' t.kind) (f && q t.kind) (known'.after a2 t m z w k (subst (λ (i : List Token). Q i w) (sym v) n))
        | longer r c u v ↦ absurd (clash b1 y x r c (c ++ (a2 ++ t ∷ m)) w l (subst (λ (i : List Token). P i x) u h) (subst (λ (i : List Token). Q i w) v n))
        | shorter r c u v ↦ shorter_after a1 a2 t m r c b2 x y z w h k (subst (λ (i : List Token). P i y) u l) v
      ]

  both_one : (a b1 b2 c1 c2 : List Token) (x y : A) (z w : B) → a ≡ b1 ++ b2 → a ≡ c1 ++ c2 → P b1 x → Q b2 z → P c1 y → Q c2 w → ◌≡◌ {A = A × B} (x, z) (y, w)
  both_one a b1 b2 c1 c2 x y z w g g' h k l n =
      let u = same_cut b1 b2 c1 c2 x y z w h k l n (sym g ∙ g') in
      let i : x ≡ y = known.one b1 x y h (subst (λ (j : List Token). P j y) (sym u.0) l) in
      let j : z ≡ w = known'.one b2 z w k (subst (λ (i : List Token). Q i w) (sym u.1) n) in
      let at : A → B → A × B = λ v o. (v, o) in
      ap (λ (v : A). at v z) i ∙ ap (λ (v : B). at y v) j

  pub known_both : Known (SpellsBoth P Q) (e && f) (s && not e) (λ k. cond e (p k || p' k) (p k)) (λ k. q' k || (f && q k))
  known_both = record {
    empty = λ z h. let u = both_empty h.0 h.1 h.2 in
        and_from e f (known.empty z.0 (subst (λ (i : List Token). P i z.0) u.0 h.3)) (known'.empty z.1 (subst (λ (i : List Token). Q i z.1) u.1 h.4));
    first = λ t m z h. both_first t m z.0 z.1 h.0 h.1 h.2 h.3 h.4;
    after = λ a t m z w h k. both_after h.0 h.1 t m k.0 k.1 z.0 w.0 z.1 w.1 h.3 h.4 k.3 k.4 (ap (λ (i : List Token). i ++ t ∷ m) (sym h.2) ∙ k.2);
    one = λ a z w h k. both_one a h.0 h.1 k.0 k.1 z.0 w.0 z.1 w.1 h.2 k.2 h.3 h.4 k.3 k.4;
    some = (known.some.0 ++ known'.some.0, append_written known.some.0 known'.some.0 known.some.1 known'.some.1, (known.some.2, known'.some.2), (known.some.0, known'.some.0, refl, known.some.3, known'.some.3));
    sure = λ i t j. let v = and_parts s (not e) i in let u = known.sure v.0 t (not_second (p t.kind) e (p' t.kind) v.1 j) in (u.0 ++ known'.some.0, append_written u.0 known'.some.0 u.1 known'.some.1, (u.2, known'.some.2), (t ∷ u.0, known'.some.0, refl, u.3, known'.some.3));
  }

  -- a first phrase that was ended by what follows is the one of every cut
  follows : (a b c d rest : List Token) (x y : A) (w : B) → P a x → Ends P a rest → P c y → Q d w → a ++ b ≡ c ++ d → ((t : Token) (m : List Token) → b ≡ t ∷ m → (n : List Token) × (rest ≡ t ∷ n)) → (a ≡ c) × (b ≡ d)
  follows a b c d rest x y w h ends l n g heads =
      elim (cuts a b c d g) as (λ (v : Cuts a b c d). (a ≡ c) × (b ≡ d)) [
        | same u v ↦ (u, v)
        | longer r i u v ↦ absurd (clash c y x r i (i ++ b) w l (subst (λ (j : List Token). P j x) u h) (subst (λ (j : List Token). Q j w) v n))
        | shorter r i u v ↦ let k = heads r (i ++ d) v in absurd (ends r k.0 i y k.1 (subst (λ (j : List Token). P j y) u l))
      ]

  stuck_none : (ts rest : List Token) (k : Stuck P ts rest) (c d : List Token) (x : A) (y : B) → P c x → Q d y → k.front ≡ c ++ d → ⊥
  stuck_none ts rest k c [] x y h l g = k.none x (subst (λ (i : List Token). P i x) (sym (g ∙ append-nil c)) h)
  stuck_none ts rest k c (t ∷ d) x y h l g =
      clash c x k.value t (d ++ k.more) d y h (subst (λ (i : List Token). P i k.value) (ap (λ (i : List Token). i ++ k.more) g ∙ append_assoc c (t ∷ d) k.more) k.begins) l

  stuck_ends : (ts rest : List Token) (k : Stuck P ts rest) (c d : List Token) (t : Token) (more m : List Token) (x : A) (y : B) → P c x → Q d y → rest ≡ t ∷ more → k.front ++ t ∷ m ≡ c ++ d → ⊥
  stuck_ends ts rest k c d t more m x y h l e g =
      elim (cuts k.front (t ∷ m) c d g) as (λ (v : Cuts k.front (t ∷ m) c d). ⊥) [
        | same u v ↦ k.none x (subst (λ (i : List Token). P i x) (sym u) h)
        | longer r i u v ↦
            clash c x k.value r (i ++ k.more) (i ++ t ∷ m) y h
            (subst (λ (j : List Token). P j k.value) (ap (λ (j : List Token). j ++ k.more) u ∙ append_assoc c (r ∷ i) k.more) k.begins)
            (subst (λ (j : List Token). Q j y) v l)
        | shorter r i u v ↦
            let j : t ≡ r = cc in
            k.ends t more i x e (subst (λ (o : List Token). P o x) (u ∙ ap (λ (o : Token). k.front ++ o ∷ i) (sym j)) h)
      ]

  stuck_first : (ts rest : List Token) → Stuck P ts rest → Stuck (SpellsBoth P Q) ts rest
  stuck_first ts rest k = record {
    front = k.front;
    cut = k.cut;
    more = k.more ++ known'.some.0;
    written = append_written k.more known'.some.0 k.written known'.some.1;
    value = (k.value, known'.some.2);
    begins = (k.front ++ k.more, known'.some.0, sym (append_assoc k.front k.more known'.some.0), k.begins, known'.some.3);
    none = λ z h. stuck_none ts rest k h.0 h.1 z.0 z.1 h.3 h.4 h.2;
    ends = λ t more m z g h. stuck_ends ts rest k h.0 h.1 t more m z.0 z.1 h.3 h.4 g h.2;
  }

  stuck_second : (ts rest rest' : List Token) (x : A) → Whole P ts x rest → Stuck Q rest rest' → Stuck (SpellsBoth P Q) ts rest'
  stuck_second ts rest rest' x k l = record {
    front = k.front ++ l.front;
    cut = k.cut ∙ ap (λ (i : List Token). k.front ++ i) l.cut ∙ sym (append_assoc k.front l.front rest');
    more = l.more;
    written = l.written;
    value = (x, l.value);
    begins = (k.front, l.front ++ l.more, append_assoc k.front l.front l.more, k.spells, l.begins);
    none = λ z h.
        let u = follows k.front l.front h.0 h.1 rest x z.0 z.1 k.spells k.ends h.3 h.4 h.2 (λ t m i. (m ++ rest', l.cut ∙ ap (λ (j : List Token). j ++ rest') i)) in
        l.none z.1 (subst (λ (i : List Token). Q i z.1) (sym u.1) h.4);
    ends = λ t more m z g h.
        let u = follows k.front (l.front ++ t ∷ m) h.0 h.1 rest x z.0 z.1 k.spells k.ends h.3 h.4 (sym (append_assoc k.front l.front (t ∷ m)) ∙ h.2)
        (λ r n i. let v = head_same l.front t m more r n i in (v.0, l.cut ∙ ap (λ (j : List Token). l.front ++ j) g ∙ v.1)) in
        l.ends t more m z.1 g (subst (λ (i : List Token). Q i z.1) (sym u.1) h.4);
  }

  whole_both : (ts rest rest' : List Token) (x : A) (y : B) → Whole P ts x rest → Whole Q rest y rest' → Whole (SpellsBoth P Q) ts (x, y) rest'
  whole_both ts rest rest' x y k l = record {
    front = k.front ++ l.front;
    cut = k.cut ∙ ap (λ (i : List Token). k.front ++ i) l.cut ∙ sym (append_assoc k.front l.front rest');
    spells = (k.front, l.front, refl, k.spells, l.spells);
    ends = λ t more m z g h.
        let u = follows k.front (l.front ++ t ∷ m) h.0 h.1 rest x z.0 z.1 k.spells k.ends h.3 h.4 (sym (append_assoc k.front l.front (t ∷ m)) ∙ h.2)
        (λ r n i. let v = head_same l.front t m more r n i in (v.0, l.cut ∙ ap (λ (j : List Token). l.front ++ j) g ∙ v.1)) in
        l.ends t more m z.1 g (subst (λ (i : List Token). Q i z.1) (sym u.1) h.4);
  }

  after_first : (ts rest : List Token) (x : A) (r : Read B) → Whole P ts x rest → Outcome Q rest r → Outcome (SpellsBoth P Q) ts (and_then r (λ y more. Ok ((x, y), more)))
  after_first ts rest x (Ok o) k l = whole_both ts rest o.1 x o.0 k l
  after_first ts rest x (Err o) k l = stuck_second ts rest o x k l

  pub outcome_both : (ts : List Token) (r : Read A) (reader : List Token → Read B) → Outcome P ts r → ((x : A) (rest : List Token) → r ≡ Ok (x, rest) → Outcome Q rest (reader rest)) →
      Outcome (SpellsBoth P Q) ts (and_then r (λ x rest. and_then (reader rest) (λ y more. Ok ((x, y), more))))
  outcome_both ts (Ok o) reader k l = after_first ts o.1 o.0 (reader o.1) k (l o.0 o.1 refl)
  outcome_both ts (Err o) reader k l = stuck_first ts o k

-- ---- one token

module _ {A : Type 0} (kinds : Kind → Bool) (value : Token → Option A) where
  one_value : (t u : Token) (x y : A) → t ≡ u → value t ≡ Some x → value u ≡ Some y → x ≡ y
  one_value t u x y e h k =
      let i : Some x ≡ Some y = sym h ∙ ap value e ∙ k in
      cc

  pub known_token : (t : Token) → IsWritten t → (x : A) → kinds t.kind ≡ true → value t ≡ Some x → Known (SpellsToken kinds value) false false kinds (λ k. false)
  known_token t w x h k = record {
    empty = λ y i. let j : [] ≡ i.0 ∷ [] = i.1 in cc;
    first = λ u m y i. let j : u ∷ m ≡ i.0 ∷ [] = i.1 in let o : i.0 ≡ u = cc in subst (λ (v : Token). kinds v.kind ≡ true) o i.2;
    after = λ a u m y z i j. let v : a ≡ i.0 ∷ [] = i.1 in let w : a ++ u ∷ m ≡ j.0 ∷ [] = j.1 in absurd (two_tokens a i.0 j.0 u m v w);
    one = λ a y z i j. let v : i.0 ∷ [] ≡ j.0 ∷ [] = sym i.1 ∙ j.1 in let w : i.0 ≡ j.0 = cc in one_value i.0 j.0 y z w i.3 j.3;
    some = (t ∷ [], (w, tt), x, (t, refl, h, k));
    sure = λ i. let j : false ≡ true = i in cc;
  }

  pub outcome_token : (ts : List Token) → ((t : Token) × IsWritten t × (x : A) × (kinds t.kind ≡ true) × (value t ≡ Some x)) → Outcome (SpellsToken kinds value) ts (read_one kinds value ts)
  outcome_token [] s = record {
    front = [];
    cut = refl;
    more = s.0 ∷ [];
    written = (s.1, tt);
    value = s.2;
    begins = (s.0, refl, s.3, s.4);
    none = λ x i. let j : [] ≡ i.0 ∷ [] = i.1 in cc;
    ends = λ t more m x g h. cc;
  }
  outcome_token (t ∷ rest) s = by_kind (kinds t.kind) refl
    where
      by_value : (o : Option A) → value t ≡ o → kinds t.kind ≡ true → Outcome (SpellsToken kinds value) (t ∷ rest) (found o t rest)
      by_value (Some x) e k = record {
        front = t ∷ [];
        cut = refl;
        spells = (t, refl, k, e);
        ends = λ u more m y g h. absurd (two_tokens (t ∷ []) t h.0 u m refl h.1);
      }
      by_value None e k = record {
        front = [];
        cut = refl;
        more = s.0 ∷ [];
        written = (s.1, tt);
        value = s.2;
        begins = (s.0, refl, s.3, s.4);
        none = λ x i. let j : [] ≡ i.0 ∷ [] = i.1 in cc;
        ends = λ u more m x g h.
            let i : t ≡ u = cc in
            let v : u ∷ m ≡ h.0 ∷ [] = h.1 in
            let j : t ≡ h.0 = cc in
            let w : None ≡ Some x = sym e ∙ ap value j ∙ h.3 in
            cc;
      }

      by_kind : (b : Bool) → kinds t.kind ≡ b → Outcome (SpellsToken kinds value) (t ∷ rest) (cond b (found (value t) t rest) (Err (t ∷ rest)))
      by_kind true e = by_value (value t) refl e
      by_kind false e = record {
        front = [];
        cut = refl;
        more = s.0 ∷ [];
        written = (s.1, tt);
        value = s.2;
        begins = (s.0, refl, s.3, s.4);
        none = λ x i. let j : [] ≡ i.0 ∷ [] = i.1 in cc;
        ends = λ u more m x g h.
            let i : t ≡ u = cc in
            let v : u ∷ m ≡ h.0 ∷ [] = h.1 in
            let j : t ≡ h.0 = cc in
            let w : false ≡ true = sym e ∙ ap (λ (o : Token). kinds o.kind) j ∙ h.2 in
            cc;
      }

-- ---- what is made of a value

module _ {A B : Type 0} (make : A → B) (P : List Token → A → Type 0) where
  pub known_made : (e s : Bool) (p q : Kind → Bool) → Known P e s p q → Known (SpellsMade make P) e s p q
  known_made e s p q known = record {
    empty = λ y h. known.empty h.0 h.1;
    first = λ t m y h. known.first t m h.0 h.1;
    after = λ a t m y z h k. known.after a t m h.0 k.0 h.1 k.1;
    one = λ a y z h k. h.2 ∙ ap make (known.one a h.0 k.0 h.1 k.1) ∙ sym k.2;
    some = (known.some.0, known.some.1, make known.some.2, (known.some.2, known.some.3, refl));
    sure = λ i t j. let u = known.sure i t j in (u.0, u.1, make u.2, (u.2, u.3, refl));
  }

  pub outcome_made : (ts : List Token) (r : Read A) → Outcome P ts r → Outcome (SpellsMade make P) ts (and_then r (λ x rest. Ok (make x, rest)))
  outcome_made ts (Ok o) k = record {
    front = k.front;
    cut = k.cut;
    spells = (o.0, k.spells, refl);
    ends = λ t more m y g h. k.ends t more m h.0 g h.1;
  }
  outcome_made ts (Err o) k = record {
    front = k.front;
    cut = k.cut;
    more = k.more;
    written = k.written;
    value = make k.value;
    begins = (k.value, k.begins, refl);
    none = λ y h. k.none h.0 h.1;
    ends = λ t more m y g h. k.ends t more m h.0 g h.1;
  }
