-- A printed test spells itself.
use Rattle.std.proofs.Common.{◌≡◌, ℕ, zero, suc, ◌+◌, ◌≤◌, max, Bool, true, false, ◌&&◌, List, [], ◌∷◌, map, fold, refl, ap, sym, ◌∙◌, subst, arith, append-nil, inl, inr, Option, Some, None}
use Rattle.std.specs.Prelude.{nat_le}
use Rattle.std.specs.List.{list_all}
use Rattle.std.proofs.lemmas.Bool.{and_parts}
use Rattle.lake_types.specs.declared.value.Value.{Value}
use Rattle.lake_types.specs.declared.pred.Op.{Op}
use Rattle.lake_types.specs.declared.pred.Op.TheVariants as op
use Rattle.lake_types.specs.declared.pred.Pred.{Pred, map-Pred}
use Rattle.lake_types.specs.declared.pred.Pred.TheVariants as pred
use Rattle.lake_types.specs.declared.pred.Pred.TheVariants.{rolls-Compare, rolls-IsNull, rolls-NotNull, rolls-Not, rolls-And, rolls-Or}
use Rattle.lake_types.specs.declared.pred.Pred.TheOpen.{Pred-F}
use Rattle.lake_types.specs.declared.pred.Pred.TheViews.{roll-Pred}
use Rattle.lake_types.specs.declared.pred.Pred.TheFolds.{fold-roll-Pred, ind-Pred}
use Rattle.stmt_tokens.specs.declared.token.Kind.{Kind}
use Rattle.stmt_tokens.specs.declared.token.Keyword.TheVariants as words
use Rattle.stmt_tokens.specs.declared.token.Kind.TheVariants as k
use Rattle.stmt_tokens.specs.declared.token.Sign.TheVariants as signs
use Rattle.stmt_tokens.specs.declared.token.Token.{Token}
use Rattle.stmt_grammar.specs.Grammar.{Grammar}
use Rattle.stmt_grammar.specs.Phrases.{is, word, ◌then◌, chain}
use Rattle.stmt_tokens.proofs.CutLemmas.{append_cut}
use Rattle.stmt_tokens.proofs.FixedLemmas.{cut_fixed, is_fixed}
use Rattle.stmt_tokens.specs.Spelled.{fixed}
use Rattle.stmt_reader.specs.Rules.{name, literal, operator, comparison, nullness, simple_test, ands, ors, unary, condition, where_, and_of, or_of}
use Rattle.stmt_text.proofs.NamePuts.{put_name, put_literal}
use Rattle.stmt_text.proofs.Puts.{Put, AllTyped, Pairs, typed_parts, put_word, put_next, put_then, put_enclosed, put_chain}
use Rattle.stmt_text.specs.Printable.{is_name, is_literal, is_sound, is_sound_at, has_two, is_test, is_where}
use Rattle.stmt_text.specs.Printed.{Shown, shown, shown_at, within, deepest, chain_tokens, enclosed, others, name_tokens, literal_tokens, op_sign, comparison_tokens, is_null_tokens, not_null_tokens, where_tokens}
use Rattle.stmt_text.specs.declared.predicate.Shape.{Shape}
use Rattle.stmt_text.specs.declared.predicate.Shape.TheVariants as shapes

-- ---- single tests

put_op : (o : Op) → Put operator (fixed (k.Sign (op_sign o)) ∷ []) o
unfolding operator
put_op op.Eq = ((fixed (k.Sign signs.Eq), refl, refl, refl), (cut_fixed (k.Sign signs.Eq) refl, tt))
put_op op.Ne = ((fixed (k.Sign signs.Ne), refl, refl, refl), (cut_fixed (k.Sign signs.Ne) refl, tt))
put_op op.Lt = ((fixed (k.Sign signs.Lt), refl, refl, refl), (cut_fixed (k.Sign signs.Lt) refl, tt))
put_op op.Le = ((fixed (k.Sign signs.Le), refl, refl, refl), (cut_fixed (k.Sign signs.Le) refl, tt))
put_op op.Gt = ((fixed (k.Sign signs.Gt), refl, refl, refl), (cut_fixed (k.Sign signs.Gt) refl, tt))
put_op op.Ge = ((fixed (k.Sign signs.Ge), refl, refl, refl), (cut_fixed (k.Sign signs.Ge) refl, tt))

put_comparison : (n : List ℕ) (o : Op) (v : Value) → (is_name n && is_literal v) ≡ true → AllTyped (comparison_tokens n o v) → Put simple_test (comparison_tokens n o v) (pred.Compare n o v)
unfolding simple_test comparison
put_comparison n o v h t =
    let p = and_parts (is_name n) (is_literal v) h in
    let front = put_name n p.0 (t.0, tt) in
    let behind = put_then operator literal (fixed (k.Sign (op_sign o)) ∷ []) (literal_tokens v) o v (put_op o) (put_literal v p.1 t.1.1) in
    (((n, inr (o, v)), (name_tokens n, fixed (k.Sign (op_sign o)) ∷ literal_tokens v, refl, front.0, inr ((o, v), behind.0, refl)), refl), append_cut (name_tokens n) (fixed (k.Sign (op_sign o)) ∷ literal_tokens v) front.1 behind.1)

put_is_null : (n : List ℕ) → is_name n ≡ true → AllTyped (is_null_tokens n) → Put simple_test (is_null_tokens n) (pred.IsNull n)
unfolding simple_test nullness
put_is_null n h t =
    let front = put_name n h (t.0, tt) in
    let null = put_word (k.Keyword words.Null) refl in
    let is_null = put_next (k.Keyword words.Is) (word words.Null) (fixed (k.Keyword words.Null) ∷ []) tt refl null in (
      (
        (n, inl false),
        (
          name_tokens n,
          fixed (k.Keyword words.Is) ∷ fixed (k.Keyword words.Null) ∷ [],
          refl,
          front.0,
          inl (false, ((tt, (false, tt)), (fixed (k.Keyword words.Is) ∷ [], fixed (k.Keyword words.Null) ∷ [], refl, (put_word (k.Keyword words.Is) refl).0, ([], fixed (k.Keyword words.Null) ∷ [], refl, (None, refl, refl), null.0)), refl), refl),
        ),
        refl,
      ),
      append_cut (name_tokens n) (fixed (k.Keyword words.Is) ∷ fixed (k.Keyword words.Null) ∷ []) front.1 is_null.1,
    )

put_not_null : (n : List ℕ) → is_name n ≡ true → AllTyped (not_null_tokens n) → Put simple_test (not_null_tokens n) (pred.NotNull n)
unfolding simple_test nullness
put_not_null n h t =
    let front = put_name n h (t.0, tt) in
    let null = put_word (k.Keyword words.Null) refl in
    let not = put_word (k.Keyword words.Not) refl in
    let not_null = put_next (k.Keyword words.Not) (word words.Null) (fixed (k.Keyword words.Null) ∷ []) tt refl null in
    let is_not_null = put_next (k.Keyword words.Is) (word words.Not then word words.Null) (fixed (k.Keyword words.Not) ∷ fixed (k.Keyword words.Null) ∷ []) (tt, tt) refl not_null in (
      (
        (n, inl true),
        (
          name_tokens n,
          fixed (k.Keyword words.Is) ∷ fixed (k.Keyword words.Not) ∷ fixed (k.Keyword words.Null) ∷ [],
          refl,
          front.0,
          inl (true, ((tt, (true, tt)), (fixed (k.Keyword words.Is) ∷ [], fixed (k.Keyword words.Not) ∷ fixed (k.Keyword words.Null) ∷ [], refl, (put_word (k.Keyword words.Is) refl).0, (fixed (k.Keyword words.Not) ∷ [], fixed (k.Keyword words.Null) ∷ [], refl, (Some tt, not.0, refl), null.0)), refl), refl),
        ),
        refl,
      ),
      append_cut (name_tokens n) (fixed (k.Keyword words.Is) ∷ fixed (k.Keyword words.Not) ∷ fixed (k.Keyword words.Null) ∷ []) front.1 is_not_null.1,
    )

-- ---- tests as parts

-- a single test at any depth
put_unary : (n : ℕ) (ts : List Token) (p : Pred) → Put simple_test ts p → Put (unary n) ts p
unfolding unary
put_unary zero ts p h = h
put_unary (suc n) ts p h = (inr (inr h.0), h.1)

put_not : (n : ℕ) (ts : List Token) (p : Pred) → Put (unary n) ts p → Put (unary (suc n)) (fixed (k.Keyword words.Not) ∷ ts) (pred.Not p)
unfolding unary
put_not n ts p h = let q = put_next (k.Keyword words.Not) (unary n) ts p refl h in (inl ((tt, p), q.0, refl), q.1)

put_inner : (n : ℕ) (ts : List Token) (p : Pred) → Put (ors (unary n)) ts p → Put (unary (suc n)) (enclosed ts) p
unfolding unary
put_inner n ts p h = let q = put_enclosed (ors (unary n)) ts p h in (inr (inl q.0), q.1)

-- one part is a chain
one_all : (u : Grammar Pred) (ts : List Token) (p : Pred) → Put u ts p → Put (ands u) ts p
unfolding ands
one_all u ts p h = ((p ∷ [], ((p, []), (ts, [], sym (append-nil ts), h.0, refl), refl), refl), h.1)

one_any : (u : Grammar Pred) (ts : List Token) (p : Pred) → Put (ands u) ts p → Put (ors u) ts p
unfolding ors
one_any u ts p h = ((p ∷ [], ((p, []), (ts, [], sym (append-nil ts), h.0, refl), refl), refl), h.1)

-- what a test of this shape spells at a depth
abbrev PutAt : ℕ → Shape → List Token → Pred → Type 0
PutAt n shapes.One ts p = Put (unary n) ts p
PutAt n shapes.All ts p = Put (ands (unary n)) ts p
PutAt n shapes.Any ts p = Put (ors (unary n)) ts p

-- what is known of a test that is printed
abbrev Holds : Bool → Shown → Pred → Type 0
Holds sound s p = sound ≡ true → (n : ℕ) → s.nesting ≤ n → AllTyped s.tokens → PutAt n s.shape s.tokens p

abbrev Spelled : Shown → Pred → Type 0
Spelled s p = (n : ℕ) → s.nesting ≤ n → AllTyped s.tokens → PutAt n s.shape s.tokens p

inner_typed : (ts : List Token) → AllTyped (enclosed ts) → AllTyped ts
inner_typed ts t = (typed_parts ts (fixed (k.Sign signs.RightParen) ∷ []) t.1).0

any_of : (n : ℕ) (a : Shape) (ts : List Token) (p : Pred) → PutAt n a ts p → Put (ors (unary n)) ts p
any_of n shapes.One ts p h = one_any (unary n) ts p (one_all (unary n) ts p h)
any_of n shapes.All ts p h = one_any (unary n) ts p h
any_of n shapes.Any ts p h = h

in_those : (n : ℕ) (a : Shape) (ts : List Token) (m : ℕ) (p : Pred) → ((i : ℕ) → m ≤ i → AllTyped ts → PutAt i a ts p) → m + 1 ≤ n → AllTyped (enclosed ts) → Put (unary n) (enclosed ts) p
in_those zero a ts m p h l t = absurd (omega arith)
in_those (suc n) a ts m p h l t = put_inner n ts p (any_of n a ts p (h n (omega arith) (inner_typed ts t)))

-- behind NOT and between ANDs
one_part : (a : Shape) (ts : List Token) (m : ℕ) (p : Pred) → ((i : ℕ) → m ≤ i → AllTyped ts → PutAt i a ts p)
    → (n : ℕ) → (within shapes.One (record { shape = a; tokens = ts; nesting = m })).nesting ≤ n → AllTyped (within shapes.One (record { shape = a; tokens = ts; nesting = m })).tokens
    → Put (unary n) (within shapes.One (record { shape = a; tokens = ts; nesting = m })).tokens p
one_part shapes.One ts m p h n l t = h n l t
one_part shapes.All ts m p h n l t = in_those n shapes.All ts m p h l t
one_part shapes.Any ts m p h n l t = in_those n shapes.Any ts m p h l t

-- between ORs
all_part : (a : Shape) (ts : List Token) (m : ℕ) (p : Pred) → ((i : ℕ) → m ≤ i → AllTyped ts → PutAt i a ts p)
    → (n : ℕ) → (within shapes.All (record { shape = a; tokens = ts; nesting = m })).nesting ≤ n → AllTyped (within shapes.All (record { shape = a; tokens = ts; nesting = m })).tokens
    → Put (ands (unary n)) (within shapes.All (record { shape = a; tokens = ts; nesting = m })).tokens p
all_part shapes.One ts m p h n l t = one_all (unary n) ts p (h n l t)
all_part shapes.All ts m p h n l t = h n l t
all_part shapes.Any ts m p h n l t = one_all (unary n) (enclosed ts) p (in_those n shapes.Any ts m p h l t)

-- ---- chains

-- the tests with what is known of each
abbrev Known : Type 0
Known = (p : Pred) × Holds (is_sound p) (shown p) p

abbrev tests : List Known → List Pred
tests es = map (λ e. e.0) es

abbrev parts : Shape → List Known → List Shown
parts most es = map (within most) (map shown (tests es))

tokens_of : Shown → List Token
tokens_of s = s.tokens

-- no part is nested more deeply than the deepest
deeper : (ss : List Shown) (n m : ℕ) → fold (λ i s. max i s.nesting) n ss ≤ m → n ≤ m
deeper [] n m h = h
deeper (s ∷ ss) n m h = let l = deeper ss (max n s.nesting) m h in omega arith

module _ (most : Shape) (sep : Kind) (g : ℕ → Grammar Pred)
    (part : (s : Shown) (p : Pred) → Spelled s p → (n : ℕ) → (within most s).nesting ≤ n → AllTyped (within most s).tokens → Put (g n) (within most s).tokens p) where
  pairs : (es : List Known) (m n : ℕ) → list_all (λ b. b) (map is_sound (tests es)) ≡ true → fold (λ i s. max i s.nesting) m (parts most es) ≤ n
      → AllTyped (others sep (λ (s : Shown). s.tokens) (parts most es)) → Pairs (λ (s : Shown) (p : Pred). Put (g n) s.tokens p) (parts most es) (tests es)
  pairs [] m n h l t = tt
  pairs (e ∷ es) m n h l t =
      let sound = and_parts (is_sound e.0) (list_all (λ b. b) (map is_sound (tests es))) h in
      let s : Shown = within most (shown e.0) in
      let deep = deeper (parts most es) (max m s.nesting) n l in
      let typed = typed_parts s.tokens (others sep (λ (s : Shown). s.tokens) (parts most es)) t.1 in
      (part (shown e.0) e.0 (e.1 sound.0) n (omega (arith, deep)) typed.0, pairs es (max m s.nesting) n sound.1 l typed.1)

  all_pairs : (es : List Known) (n : ℕ) → list_all (λ b. b) (map is_sound (tests es)) ≡ true → deepest (parts most es) ≤ n
      → AllTyped (chain_tokens sep (parts most es)) → Pairs (λ (s : Shown) (p : Pred). Put (g n) s.tokens p) (parts most es) (tests es)
  all_pairs [] n h l t = tt
  all_pairs (e ∷ es) n h l t =
      let sound = and_parts (is_sound e.0) (list_all (λ b. b) (map is_sound (tests es))) h in
      let s : Shown = within most (shown e.0) in
      let deep = deeper (parts most es) (max 0 s.nesting) n l in
      let typed = typed_parts s.tokens (others sep (λ (s : Shown). s.tokens) (parts most es)) t in
      (part (shown e.0) e.0 (e.1 sound.0) n (omega (arith, deep)) typed.0, pairs es (max 0 s.nesting) n sound.1 l typed.1)

  chained : is_fixed sep ≡ true → (es : List Known) (n : ℕ) → has_two (map is_sound (tests es)) ≡ true → list_all (λ b. b) (map is_sound (tests es)) ≡ true → deepest (parts most es) ≤ n
      → AllTyped (chain_tokens sep (parts most es)) → Put (chain sep (g n)) (chain_tokens sep (parts most es)) (tests es)
  chained f [] n two h l t = cc
  chained f (e ∷ es) n two h l t =
      put_chain sep f (g n) (λ (s : Shown). s.tokens) (within most (shown e.0)) (parts most es) e.0 (tests es) (all_pairs (e ∷ es) n h l t)

-- two parts or more are a chain of them
all_of_two : (es : List Known) → has_two (map is_sound (tests es)) ≡ true → pred.And (tests es) ≡ and_of (tests es)
all_of_two [] h = cc
all_of_two (e ∷ []) h = cc
all_of_two (e ∷ f ∷ es) h = refl

any_of_two : (es : List Known) → has_two (map is_sound (tests es)) ≡ true → pred.Or (tests es) ≡ or_of (tests es)
any_of_two [] h = cc
any_of_two (e ∷ []) h = cc
any_of_two (e ∷ f ∷ es) h = refl

put_all : (es : List Known) (n : ℕ) → (has_two (map is_sound (tests es)) && list_all (λ b. b) (map is_sound (tests es))) ≡ true → deepest (parts shapes.One es) ≤ n
    → AllTyped (chain_tokens (k.Keyword words.And) (parts shapes.One es)) → Put (ands (unary n)) (chain_tokens (k.Keyword words.And) (parts shapes.One es)) (pred.And (tests es))
unfolding ands
put_all es n h l t =
    let p = and_parts (has_two (map is_sound (tests es))) (list_all (λ b. b) (map is_sound (tests es))) h in
    let c = chained shapes.One (k.Keyword words.And) unary (λ s p h n l t. one_part s.shape s.tokens s.nesting p h n l t) refl es n p.0 p.1 l t in
    ((tests es, c.0, all_of_two es p.0), c.1)

put_any : (es : List Known) (n : ℕ) → (has_two (map is_sound (tests es)) && list_all (λ b. b) (map is_sound (tests es))) ≡ true → deepest (parts shapes.All es) ≤ n
    → AllTyped (chain_tokens (k.Keyword words.Or) (parts shapes.All es)) → Put (ors (unary n)) (chain_tokens (k.Keyword words.Or) (parts shapes.All es)) (pred.Or (tests es))
unfolding ors
put_any es n h l t =
    let p = and_parts (has_two (map is_sound (tests es))) (list_all (λ b. b) (map is_sound (tests es))) h in
    let c = chained shapes.All (k.Keyword words.Or) (λ i. ands (unary i)) (λ s p h n l t. all_part s.shape s.tokens s.nesting p h n l t) refl es n p.0 p.1 l t in
    ((tests es, c.0, any_of_two es p.0), c.1)

-- ---- all tests

one_more : (n : ℕ) (ts : List Token) (m : ℕ) (p : Pred) → ((i : ℕ) → m ≤ i → AllTyped ts → Put (unary i) ts p) → m + 1 ≤ n → AllTyped ts → Put (unary n) (fixed (k.Keyword words.Not) ∷ ts) (pred.Not p)
one_more zero ts m p h l t = absurd (omega arith)
one_more (suc n) ts m p h l t = put_not n ts p (h n (omega arith) t)

at_layer : (y : Pred-F Known) → (p : Pred) → roll-Pred (map-Pred Known Pred (λ e. e.0) y) ≡ p
    → Holds (is_sound_at (map-Pred Pred Bool is_sound (map-Pred Known Pred (λ e. e.0) y))) (shown_at (map-Pred Pred Shown shown (map-Pred Known Pred (λ e. e.0) y))) p
at_layer (Pred-F.Compare name o v) p is h n l t = subst (λ q. Put (unary n) (comparison_tokens name o v) q) (sym (rolls-Compare name o v) ∙ is) (put_unary n (comparison_tokens name o v) (pred.Compare name o v) (put_comparison name o v h t))
at_layer (Pred-F.IsNull name) p is h n l t = subst (λ q. Put (unary n) (is_null_tokens name) q) (sym (rolls-IsNull name) ∙ is) (put_unary n (is_null_tokens name) (pred.IsNull name) (put_is_null name h t))
at_layer (Pred-F.NotNull name) p is h n l t = subst (λ q. Put (unary n) (not_null_tokens name) q) (sym (rolls-NotNull name) ∙ is) (put_unary n (not_null_tokens name) (pred.NotNull name) (put_not_null name h t))
at_layer (Pred-F.Not e) p is h n l t =
    let s : Shown = within shapes.One (shown e.0) in
    subst (λ q. Put (unary n) (fixed (k.Keyword words.Not) ∷ s.tokens) q) (sym (rolls-Not e.0) ∙ is)
    (one_more n s.tokens s.nesting e.0 (λ i l t. one_part (shown e.0).shape (shown e.0).tokens (shown e.0).nesting e.0 (e.1 h) i l t) l t.1)
at_layer (Pred-F.And es) p is h n l t =
    subst (λ q. Put (ands (unary n)) (chain_tokens (k.Keyword words.And) (parts shapes.One es)) q) (sym (rolls-And (tests es)) ∙ is) (put_all es n h l t)
at_layer (Pred-F.Or es) p is h n l t =
    subst (λ q. Put (ors (unary n)) (chain_tokens (k.Keyword words.Or) (parts shapes.All es)) q) (sym (rolls-Or (tests es)) ∙ is) (put_any es n h l t)

rolled : (x : Pred-F Pred) (y : Pred-F Known) → map-Pred Known Pred (λ e. e.0) y ≡ x → Holds (is_sound (roll-Pred x)) (shown (roll-Pred x)) (roll-Pred x)
rolled x y e =
    subst (λ b. Holds b (shown (roll-Pred x)) (roll-Pred x)) (sym (fold-roll-Pred Bool is_sound_at x))
    (subst (λ s. Holds (is_sound_at (map-Pred Pred Bool is_sound x)) s (roll-Pred x)) (sym (fold-roll-Pred Shown shown_at x))
    (subst (λ z. Holds (is_sound_at (map-Pred Pred Bool is_sound z)) (shown_at (map-Pred Pred Shown shown z)) (roll-Pred x)) e (at_layer y (roll-Pred x) (ap roll-Pred e))))

every : (p : Pred) → Holds (is_sound p) (shown p) p
every = ind-Pred (λ p. Holds (is_sound p) (shown p) p) rolled

put_condition : (p : Pred) → is_test p ≡ true → AllTyped (shown p).tokens → Put condition (shown p).tokens p
unfolding condition
put_condition p h t =
    let parts = and_parts (is_sound p) (nat_le (shown p).nesting 64) h in
    let deep : (shown p).nesting ≤ 64 = grind (arith, parts.1) in
    any_of 64 (shown p).shape (shown p).tokens p (every p parts.0 64 deep t)

pub put_where : (o : Option Pred) → is_where o ≡ true → AllTyped (where_tokens o) → Put where_ (where_tokens o) o
unfolding where_
put_where None h t = ((None, refl, refl), tt)
put_where (Some p) h t =
    let q = put_next (k.Keyword words.Where) condition (shown p).tokens p refl (put_condition p h t.1) in
    ((Some (tt, p), q.0, refl), q.1)
