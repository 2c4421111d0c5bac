-- Names, values and tests that a line says can be printed.
use Rattle.std.proofs.Common.{◌≡◌, ◌==◌, ℕ, zero, suc, ◌+◌, ◌^◌, ◌≤◌, ◌<◌, max, ℤ, pos, neg_ℤ, Bool, true, false, cond, not, ◌&&◌, ◌⊎◌, List, [], ◌∷◌, map, fold, refl, ap, sym, ◌∙◌, subst, arith, inl, inr, Option, Some, None}
use Rattle.std.specs.Prelude.{nat_le, nat_lt, option_map, is_some}
use Rattle.std.specs.List.{list_all}
use Rattle.std.specs.Str.{bytes_eq}
use Rattle.std.proofs.lemmas.Bool.{and_from, and_parts}
use Rattle.std.proofs.lemmas.Int.{ints}
use Rattle.lake_types.specs.Calendar.{is_day, day_text}
use Rattle.lake_types.specs.Fits.{fits}
use Rattle.lake_types.specs.declared.value.ColType.TheVariants as ty
use Rattle.lake_types.specs.declared.value.Value.{Value}
use Rattle.lake_types.specs.declared.value.Value.TheVariants as value
use Rattle.lake_types.specs.declared.pred.Op.{Op}
use Rattle.lake_types.specs.declared.pred.Pred.{Pred, map-Pred}
use Rattle.lake_types.specs.declared.pred.Pred.TheVariants as pred
use Rattle.lake_types.specs.declared.pred.Pred.TheVariants.{rolls-Compare, rolls-IsNull, rolls-NotNull, rolls-Not, rolls-And, rolls-Or}
use Rattle.lake_types.specs.declared.pred.Pred.TheOpen.{Pred-F}
use Rattle.lake_types.specs.declared.pred.Pred.TheViews.{roll-Pred}
use Rattle.lake_types.specs.declared.pred.Pred.TheFolds.{fold-roll-Pred}
use Rattle.stmt_tokens.specs.declared.token.Kind.{Kind}
use Rattle.stmt_tokens.specs.declared.token.Keyword.TheVariants as words
use Rattle.stmt_tokens.specs.declared.token.Kind.TheVariants as k
use Rattle.stmt_tokens.specs.declared.token.Sign.TheVariants as signs
use Rattle.stmt_tokens.specs.declared.token.Token.{Token}
use Rattle.stmt_grammar.specs.Grammar.{Grammar, maybe, made}
use Rattle.stmt_grammar.specs.Phrases.{is, word, mark, ◌then◌, ◌or◌, chain, parenthesized}
use Rattle.stmt_reader.proofs.DateLemmas.{in_calendar}
use Rattle.stmt_reader.specs.Dates.{day_among, day_number}
use Rattle.stmt_reader.specs.Rules as rules
use Rattle.stmt_reader.specs.Values.{signed, integer_of, is_negative, magnitude, counted, count_of, numbered, session_of, unhex}
use Rattle.stmt_text.proofs.Gives.{Gives, or_none, token_gives, both_gives, next_gives, either_gives, made_gives, maybe_gives, chain_gives, enclosed_gives}
use Rattle.stmt_text.specs.Printable.{is_name, is_table, is_literal, is_count, is_some_of, is_sound, is_sound_at, has_two, is_test, is_where}
use Rattle.stmt_text.specs.Printed.{Shown, shown, shown_at, within, deepest}
use Rattle.stmt_text.specs.declared.predicate.Shape.{Shape}
use Rattle.stmt_text.specs.declared.predicate.Shape.TheVariants as shapes

-- ---- names

pub name_gives : Gives rules.name is_name
unfolding rules.name
name_gives = token_gives rules.is_name (λ t. Some t.text) is_name (λ t x f h e. let same : t.text ≡ x = cc in subst (λ n. is_name n ≡ true) same (f h))

table_named : (first : List ℕ) (o : Option (Unit {0} × List ℕ)) → (is_name first && or_none (λ z. is_name z.1) o) ≡ true → is_table (rules.table_of first o) ≡ true
table_named first None h = (and_parts (is_name first) true h).0
table_named first (Some z) h = h

pub table_gives : Gives rules.table is_table
unfolding rules.table
table_gives =
    made_gives (λ z. rules.table_of z.0 z.1) (rules.name then maybe (mark signs.Dot then rules.name)) (λ z. is_name z.0 && or_none (λ y. is_name y.1) z.1) is_table
    (both_gives rules.name (maybe (mark signs.Dot then rules.name)) is_name (or_none (λ y. is_name y.1)) name_gives
    (maybe_gives (mark signs.Dot then rules.name) (λ y. is_name y.1) (next_gives (k.Sign signs.Dot) rules.name is_name name_gives)))
    (λ z h. table_named z.0 z.1 h)

-- ---- numbers

in_range : (negative : Bool) (n : ℕ) (z : ℤ) → signed negative n ≡ Some z → fits (value.Int z) ty.Int64 ≡ true
in_range false n z h = pick (nat_lt n (2 ^ 63)) refl h
  where
    pick : (t : Bool) → nat_lt n (2 ^ 63) ≡ t → cond t (Some (pos n)) None ≡ Some z → fits (value.Int z) ty.Int64 ≡ true
    pick true l e = let same : pos n ≡ z = cc in subst (λ i. fits (value.Int i) ty.Int64 ≡ true) same (grind (arith, ints, l))
    pick false l e = cc
in_range true n z h = pick (nat_le n (2 ^ 63)) refl h
  where
    pick : (t : Bool) → nat_le n (2 ^ 63) ≡ t → cond t (Some (neg_ℤ (pos n))) None ≡ Some z → fits (value.Int z) ty.Int64 ≡ true
    pick true l e = let same : neg_ℤ (pos n) ≡ z = cc in subst (λ i. fits (value.Int i) ty.Int64 ≡ true) same (grind (arith, ints, l))
    pick false l e = cc

counted_range : (negative : Bool) (n m : ℕ) → counted negative n ≡ Some m → is_count m ≡ true
counted_range false n m h = pick (nat_le n (2 ^ 62)) refl h
  where
    pick : (t : Bool) → nat_le n (2 ^ 62) ≡ t → cond t (Some n) None ≡ Some m → is_count m ≡ true
    pick true l e = let same : n ≡ m = cc in subst (λ i. is_count i ≡ true) same l
    pick false l e = cc
counted_range true n m h = pick (n == 0) h
  where
    pick : (t : Bool) → cond t (Some 0) None ≡ Some m → is_count m ≡ true
    pick true e = let same : 0 ≡ m = cc in subst (λ i. is_count i ≡ true) same refl
    pick false e = cc

pub count_gives : Gives rules.count is_count
count_gives = token_gives (is k.Number) (λ t. count_of t.text) is_count (λ t x f h e. counted_range (is_negative t.text) (magnitude t.text) x e)

abbrev pub is_session : ℕ → Bool
is_session n = nat_le 1 n && nat_le n 16

numbered_range : (negative : Bool) (n m : ℕ) → numbered negative n ≡ Some m → is_session m ≡ true
numbered_range negative n m h = pick (not negative && nat_le 1 n && nat_le n 16) refl h
  where
    pick : (t : Bool) → (not negative && nat_le 1 n && nat_le n 16) ≡ t → cond t (Some n) None ≡ Some m → is_session m ≡ true
    pick true l e =
        let same : n ≡ m = cc in
        let p = and_parts (not negative && nat_le 1 n) (nat_le n 16) l in
        subst (λ i. is_session i ≡ true) same (and_from (nat_le 1 n) (nat_le n 16) (and_parts (not negative) (nat_le 1 n) p.0).1 p.1)
    pick false l e = cc

pub session_gives : Gives rules.session is_session
session_gives = token_gives (is k.Number) (λ t. session_of t.text) is_session (λ t x f h e. numbered_range (is_negative t.text) (magnitude t.text) x e)

-- ---- values

one_day : (t : Bool) (n : ℕ) (o : Option ℤ) (d : ℤ) → n < 3652059 → (o ≡ Some d → is_day d ≡ true) → cond t (Some (day_number n)) o ≡ Some d → is_day d ≡ true
one_day true n o d l h e = let same : day_number n ≡ d = cc in subst (λ i. is_day i ≡ true) same (in_calendar n l)
one_day false n o d l h e = h e

day_in_range : (n : ℕ) (text : List ℕ) (d : ℤ) → n ≤ 3652059 → day_among n text ≡ Some d → is_day d ≡ true
unfolding day_among
day_in_range zero text d l h = cc
day_in_range (suc n) text d l h = one_day (bytes_eq (day_text (day_number n)) text) n (day_among n text) d (omega arith) (λ e. day_in_range n text d (omega arith) e) h

some_day : (o : Option ℤ) (v : Value) → ((d : ℤ) → o ≡ Some d → is_day d ≡ true) → option_map value.Date o ≡ Some v → is_literal v ≡ true
some_day None v h e = cc
some_day (Some d) v h e = let same : value.Date d ≡ v = cc in subst (λ x. is_literal x ≡ true) same (h d refl)

some_integer : (o : Option ℤ) (v : Value) → ((z : ℤ) → o ≡ Some z → fits (value.Int z) ty.Int64 ≡ true) → option_map value.Int o ≡ Some v → is_literal v ≡ true
some_integer None v h e = cc
some_integer (Some z) v h e = let same : value.Int z ≡ v = cc in subst (λ x. is_literal x ≡ true) same (h z refl)

number_gives : Gives rules.number is_literal
number_gives = token_gives (is k.Number) (λ t. option_map value.Int (integer_of t.text)) is_literal (λ t v f h e. some_integer (integer_of t.text) v (λ z e. in_range (is_negative t.text) (magnitude t.text) z e) e)

text_gives : Gives rules.text is_literal
text_gives = token_gives (is k.Text) (λ t. Some (value.Text t.text)) is_literal (λ t v f h e. let same : value.Text t.text ≡ v = cc in subst (λ x. is_literal x ≡ true) same refl)

bytes_give : Gives rules.bytes is_literal
bytes_give = token_gives (is k.Bytes) _ is_literal (λ t v f h e. let same : value.Bytes (unhex t.text) ≡ v = cc in subst (λ x. is_literal x ≡ true) same refl)

day_gives : Gives rules.day is_literal
unfolding rules.day_of
day_gives = token_gives (is k.Text) (λ t. rules.day_of t.text) is_literal (λ t v f h e. some_day (day_among 3652059 t.text) v (λ d e. day_in_range 3652059 t.text d (omega arith) e) e)

constant_fits : (a : Kind) (v : Value) → rules.constant_of a ≡ Some v → is_literal v ≡ true
constant_fits (k.Keyword words.Null) v e = let same : value.Null ≡ v = cc in subst (λ x. is_literal x ≡ true) same refl
constant_fits (k.Keyword words.True) v e = let same : value.Bool true ≡ v = cc in subst (λ x. is_literal x ≡ true) same refl
constant_fits (k.Keyword words.False) v e = let same : value.Bool false ≡ v = cc in subst (λ x. is_literal x ≡ true) same refl
constant_fits _ v e = cc

constant_gives : Gives rules.constant is_literal
constant_gives = token_gives (λ a. is_some (rules.constant_of a)) (λ t. rules.constant_of t.kind) is_literal (λ t v f h e. constant_fits t.kind v e)

dated : Gives (made (λ z. z.1) (word words.Date then rules.day)) is_literal
dated = made_gives (λ z. z.1) (word words.Date then rules.day) (λ z. is_literal z.1) is_literal (next_gives (k.Keyword words.Date) rules.day is_literal day_gives) (λ z h. h)

abbrev a_day : Grammar Value
a_day = made (λ z. z.1) (word words.Date then rules.day)

pub literal_gives : Gives rules.literal is_literal
unfolding rules.literal
literal_gives =
    either_gives rules.number (rules.text or rules.bytes or a_day or rules.constant) is_literal number_gives
    (either_gives rules.text (rules.bytes or a_day or rules.constant) is_literal text_gives
    (either_gives rules.bytes (a_day or rules.constant) is_literal bytes_give
    (either_gives a_day rules.constant is_literal dated constant_gives)))

-- ---- single tests

abbrev is_tested : Bool ⊎ (Op × Value) → Bool
is_tested (inl b) = true
is_tested (inr z) = is_literal z.1

-- what is known of a test with so many levels at most
abbrev IsOne : ℕ → Pred → Bool
IsOne n p = is_sound p && nat_le (within shapes.One (shown p)).nesting n

abbrev IsAll : ℕ → Pred → Bool
IsAll n p = is_sound p && nat_le (within shapes.All (shown p)).nesting n

abbrev pub IsAny : ℕ → Pred → Bool
IsAny n p = is_sound p && nat_le (shown p).nesting n

-- a test by its outermost layer
by_layer : (test : Bool → Shown → Bool) (x : Pred-F Pred) (p : Pred) → roll-Pred x ≡ p → test (is_sound_at (map-Pred Pred Bool is_sound x)) (shown_at (map-Pred Pred Shown shown x)) ≡ true → test (is_sound p) (shown p) ≡ true
by_layer test x p e h =
    subst (λ q. test (is_sound q) (shown q) ≡ true) e
    (ap (λ b. test b (shown (roll-Pred x))) (fold-roll-Pred Bool is_sound_at x) ∙ ap (test (is_sound_at (map-Pred Pred Bool is_sound x))) (fold-roll-Pred Shown shown_at x) ∙ h)

abbrev one_within : ℕ → Bool → Shown → Bool
one_within n sound s = sound && nat_le (within shapes.One s).nesting n

abbrev all_within : ℕ → Bool → Shown → Bool
all_within n sound s = sound && nat_le (within shapes.All s).nesting n

abbrev any_within : ℕ → Bool → Shown → Bool
any_within n sound s = sound && nat_le s.nesting n

no_level : (n : ℕ) → nat_le 0 n ≡ true
no_level n = grind arith

tested : (n : ℕ) (name : List ℕ) (z : Bool ⊎ (Op × Value)) → (is_name name && is_tested z) ≡ true → IsOne n (rules.test_of name z) ≡ true
tested n name (inl true) h =
    by_layer (one_within n) (Pred-F.NotNull name) (pred.NotNull name) (rolls-NotNull name) (and_from (is_name name) (nat_le 0 n) (and_parts (is_name name) true h).0 (no_level n))
tested n name (inl false) h =
    by_layer (one_within n) (Pred-F.IsNull name) (pred.IsNull name) (rolls-IsNull name) (and_from (is_name name) (nat_le 0 n) (and_parts (is_name name) true h).0 (no_level n))
tested n name (inr z) h =
    by_layer (one_within n) (Pred-F.Compare name z.0 z.1) (pred.Compare name z.0 z.1) (rolls-Compare name z.0 z.1) (and_from (is_name name && is_literal z.1) (nat_le 0 n) h (no_level n))

pub anything : {A : Type 0} (g : Grammar A) → Gives g (λ x. true)
anything g ts x f s = refl

test_gives : (n : ℕ) → Gives rules.simple_test (IsOne n)
unfolding rules.simple_test rules.comparison
test_gives n =
    made_gives (λ z. rules.test_of z.0 z.1) (rules.name then (made inl rules.nullness or made inr rules.comparison)) (λ z. is_name z.0 && is_tested z.1) (IsOne n)
    (both_gives rules.name (made inl rules.nullness or made inr rules.comparison) is_name is_tested name_gives
    (either_gives (made inl rules.nullness) (made inr rules.comparison) is_tested
    (made_gives inl rules.nullness (λ b. true) is_tested (anything rules.nullness) (λ b h. refl))
    (made_gives inr rules.comparison (λ z. true && is_literal z.1) is_tested (both_gives rules.operator rules.literal (λ o. true) is_literal (anything rules.operator) literal_gives) (λ z h. h))))
    (λ z h. tested n z.0 z.1 h)

-- ---- tests in tests

closer_all : (t : Shape) (ts : List Token) (m n : ℕ) → (within shapes.One (record { shape = t; tokens = ts; nesting = m })).nesting ≤ n → (within shapes.All (record { shape = t; tokens = ts; nesting = m })).nesting ≤ n
closer_all shapes.One ts m n h = h
closer_all shapes.All ts m n h = omega arith
closer_all shapes.Any ts m n h = h

closer_any : (t : Shape) (ts : List Token) (m n : ℕ) → (within shapes.All (record { shape = t; tokens = ts; nesting = m })).nesting ≤ n → m ≤ n
closer_any shapes.One ts m n h = h
closer_any shapes.All ts m n h = h
closer_any shapes.Any ts m n h = omega arith

in_level : (t : Shape) (ts : List Token) (m n : ℕ) → m ≤ n → (within shapes.One (record { shape = t; tokens = ts; nesting = m })).nesting ≤ suc n
in_level shapes.One ts m n h = omega arith
in_level shapes.All ts m n h = omega arith
in_level shapes.Any ts m n h = omega arith

-- a part that is deeper by a level is no deeper than this
levels : (a b : ℕ) (sound : Bool) (n m : ℕ) → (a ≤ n → b ≤ m) → (sound && nat_le a n) ≡ true → (sound && nat_le b m) ≡ true
levels a b sound n m f h =
    let p = and_parts sound (nat_le a n) h in
    let l : a ≤ n = grind (arith, p.1) in
    let r : b ≤ m = f l in
    and_from sound (nat_le b m) p.0 (grind arith)

one_as_all : (n : ℕ) (p : Pred) → IsOne n p ≡ true → IsAll n p ≡ true
one_as_all n p h = levels (within shapes.One (shown p)).nesting (within shapes.All (shown p)).nesting (is_sound p) n n (closer_all (shown p).shape (shown p).tokens (shown p).nesting n) h

all_as_any : (n : ℕ) (p : Pred) → IsAll n p ≡ true → IsAny n p ≡ true
all_as_any n p h = levels (within shapes.All (shown p)).nesting (shown p).nesting (is_sound p) n n (closer_any (shown p).shape (shown p).tokens (shown p).nesting n) h

any_as_one : (n : ℕ) (p : Pred) → IsAny n p ≡ true → IsOne (suc n) p ≡ true
any_as_one n p h = levels (shown p).nesting (within shapes.One (shown p)).nesting (is_sound p) n (suc n) (in_level (shown p).shape (shown p).tokens (shown p).nesting n) h

not_test : (n : ℕ) (p : Pred) → IsOne n p ≡ true → IsOne (suc n) (pred.Not p) ≡ true
not_test n p h =
    by_layer (one_within (suc n)) (Pred-F.Not p) (pred.Not p) (rolls-Not p)
    (levels (within shapes.One (shown p)).nesting ((within shapes.One (shown p)).nesting + 1) (is_sound p) n (suc n) (λ l. omega arith) h)

-- what is known of each part holds of all
module _ (most : Shape) (n : ℕ) where
  abbrev IsPart : Pred → Bool
  IsPart p = is_sound p && nat_le (within most (shown p)).nesting n

  each_sound : (ps : List Pred) → list_all IsPart ps ≡ true → list_all (λ b. b) (map is_sound ps) ≡ true
  each_sound [] h = refl
  each_sound (p ∷ ps) h =
      let parts = and_parts (IsPart p) (list_all IsPart ps) h in
      and_from (is_sound p) (list_all (λ b. b) (map is_sound ps)) (and_parts (is_sound p) (nat_le (within most (shown p)).nesting n) parts.0).0 (each_sound ps parts.1)

  no_deeper : (ps : List Pred) (m : ℕ) → m ≤ n → list_all IsPart ps ≡ true → fold (λ i (s : Shown). max i s.nesting) m (map (within most) (map shown ps)) ≤ n
  no_deeper [] m l h = l
  no_deeper (p ∷ ps) m l h =
      let parts = and_parts (IsPart p) (list_all IsPart ps) h in
      let one = and_parts (is_sound p) (nat_le (within most (shown p)).nesting n) parts.0 in
      let deep : (within most (shown p)).nesting ≤ n = grind (arith, one.1) in
      no_deeper ps (max m (within most (shown p)).nesting) (omega arith) parts.1

two_of : (ps : List Pred) → has_two ps ≡ has_two (map is_sound ps)
two_of [] = refl
two_of (p ∷ []) = refl
two_of (p ∷ q ∷ ps) = refl

chain_sound : (most : Shape) (n : ℕ) (ps : List Pred) → has_two ps ≡ true → list_all (IsPart most n) ps ≡ true
    → ((has_two (map is_sound ps) && list_all (λ b. b) (map is_sound ps)) && nat_le (deepest (map (within most) (map shown ps))) n) ≡ true
chain_sound most n ps two h =
    let deep : deepest (map (within most) (map shown ps)) ≤ n = no_deeper most n ps 0 (omega arith) h in
    and_from (has_two (map is_sound ps) && list_all (λ b. b) (map is_sound ps)) (nat_le (deepest (map (within most) (map shown ps))) n)
    (and_from (has_two (map is_sound ps)) (list_all (λ b. b) (map is_sound ps)) (sym (two_of ps) ∙ two) (each_sound most n ps h)) (grind arith)

all_chain : (n : ℕ) (ps : List Pred) → is_some_of (IsOne n) ps ≡ true → IsAll n (rules.and_of ps) ≡ true
all_chain n [] h = cc
all_chain n (p ∷ []) h = one_as_all n p (and_parts (IsOne n p) true h).0
all_chain n (p ∷ q ∷ ps) h = by_layer (all_within n) (Pred-F.And (p ∷ q ∷ ps)) (pred.And (p ∷ q ∷ ps)) (rolls-And (p ∷ q ∷ ps)) (chain_sound shapes.One n (p ∷ q ∷ ps) refl h)

any_chain : (n : ℕ) (ps : List Pred) → is_some_of (IsAll n) ps ≡ true → IsAny n (rules.or_of ps) ≡ true
any_chain n [] h = cc
any_chain n (p ∷ []) h = all_as_any n p (and_parts (IsAll n p) true h).0
any_chain n (p ∷ q ∷ ps) h = by_layer (any_within n) (Pred-F.Or (p ∷ q ∷ ps)) (pred.Or (p ∷ q ∷ ps)) (rolls-Or (p ∷ q ∷ ps)) (chain_sound shapes.All n (p ∷ q ∷ ps) refl h)

ands_give : (u : Grammar Pred) (n : ℕ) → Gives u (IsOne n) → Gives (rules.ands u) (IsAll n)
unfolding rules.ands
ands_give u n h = made_gives rules.and_of (chain (k.Keyword words.And) u) (is_some_of (IsOne n)) (IsAll n) (chain_gives (k.Keyword words.And) u (IsOne n) h) (all_chain n)

ors_give : (u : Grammar Pred) (n : ℕ) → Gives u (IsOne n) → Gives (rules.ors u) (IsAny n)
unfolding rules.ors
ors_give u n h = made_gives rules.or_of (chain (k.Keyword words.Or) (rules.ands u)) (is_some_of (IsAll n)) (IsAny n) (chain_gives (k.Keyword words.Or) (rules.ands u) (IsAll n) (ands_give u n h)) (any_chain n)

unary_gives : (n : ℕ) → Gives (rules.unary n) (IsOne n)
unfolding rules.unary
unary_gives zero = test_gives 0
unary_gives (suc n) =
    let deeper = unary_gives n in
    let inner : Grammar Pred = rules.ors (rules.unary n) in
    either_gives (made (λ z. pred.Not z.1) (word words.Not then rules.unary n)) (parenthesized inner or rules.simple_test) (IsOne (suc n))
    (made_gives (λ z. pred.Not z.1) (word words.Not then rules.unary n) (λ z. IsOne n z.1) (IsOne (suc n)) (next_gives (k.Keyword words.Not) (rules.unary n) (IsOne n) deeper) (λ z h. not_test n z.1 h))
    (either_gives (parenthesized inner) rules.simple_test (IsOne (suc n))
    (λ ts p f s. any_as_one n p (enclosed_gives inner (IsAny n) (ors_give (rules.unary n) n deeper) ts p f s))
    (test_gives (suc n)))

condition_gives : Gives rules.condition is_test
unfolding rules.condition
condition_gives = ors_give (rules.unary 64) 64 (unary_gives 64)

some_where : (o : Option (Unit {0} × Pred)) → or_none (λ z. is_test z.1) o ≡ true → is_where (option_map (λ z. z.1) o) ≡ true
some_where None h = refl
some_where (Some z) h = h

pub where_gives : Gives rules.where_ is_where
unfolding rules.where_
where_gives =
    made_gives (option_map (λ z. z.1)) (maybe (word words.Where then rules.condition)) (or_none (λ z. is_test z.1)) is_where
    (maybe_gives (word words.Where then rules.condition) (λ z. is_test z.1) (next_gives (k.Keyword words.Where) rules.condition is_test condition_gives)) some_where
