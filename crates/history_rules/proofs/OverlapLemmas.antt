-- The intervals of columns: rows of a column stand together and rise by their begin, so the first row that overlaps an
-- earlier one overlaps the one before it.
use Rattle.std.proofs.Common.{◌≡◌, ◌⊎◌, inl, inr, ⊎_elim, ℕ, ◌+◌, ◌<◌, ◌≤◌, Bool, true, false, cond, ◌&&◌, ◌||◌, List, [], ◌∷◌, length, get_or, drop, Option, Some, None, refl, sym, ap, ◌∙◌, subst, Ordering, Less, Equal, Greater, true≢false, is_lt, arith}
use Rattle.std.proofs.lemmas.Bool.{and_parts, or_parts}
use Rattle.std.specs.Prelude.{nat_lt, nat_le, ◌==◌}
use Rattle.std.specs.List.{AllByRecursion}
use Rattle.std.specs.Ordering.{MatchOrdering, nat_cmp, ordering_then}
use Rattle.std.proofs.lemmas.Bool.Decides.{nat_tests}
use Rattle.std.proofs.lemmas.Cmp.{nat_list_cmp_total, ranked}
use Rattle.std.proofs.lemmas.List.{at_drop_all, at_drop_more}
use Rattle.cat_tables.specs.Table.{IsBelow, RisesByKey, key_cmp}
use Rattle.cat_tables.specs.Validity.{is_before, is_visible}
use Rattle.cat_rows.specs.Keys.{column_key}
use Rattle.cat_rows.specs.Validities.{column_validity}
use Rattle.cat_rows.specs.declared.batch.Key.{Key}
use Rattle.cat_rows.specs.declared.schemas.ColumnRow.{ColumnRow}
use Rattle.cat_rules.specs.First.{FirstBad}
use Rattle.cat_rules.specs.IntervalRule.{IsWronglyDated, Overlaps, ends_wrong, is_misdated}
use Rattle.cat_rules.specs.Places.{is_sooner, of_column}
use Rattle.cat_rules.specs.Rows.{SomeOf, Names}
use Rattle.history_rules.specs.Steps.{is_too_soon, is_wrong}
use Rattle.cat_rules.specs.declared.kept.Kept.{Kept}
use Rattle.cat_rules.proofs.FirstLemmas.{SomeOf_like, all_like, first_behind, first_here, none_of}

-- ---- keys of three numbers

less_first : (a x : ℕ) (bs xs : List ℕ) → key_cmp (a ∷ bs) (x ∷ xs) ≡ Less → (a < x) ⊎ ((a ≡ x) × (key_cmp bs xs ≡ Less))
less_first a x bs xs h = go (nat_cmp a x) (ranked a x (nat_cmp a x) refl) h
  where
    go : (o : Ordering) → MatchOrdering o (a < x) (a ≡ x) (x < a) → ordering_then o (key_cmp bs xs) ≡ Less → (a < x) ⊎ ((a ≡ x) × (key_cmp bs xs ≡ Less))
    go Less m h = inl m
    go Equal m h = inr (m, h)
    go Greater m h = absurd cc

-- by the table, then by the column, then by the begin
abbrev IsBefore3 : ColumnRow → ColumnRow → Type 0
IsBefore3 q c = (q.table_id < c.table_id) ⊎ ((q.table_id ≡ c.table_id) × ((q.column_id < c.column_id) ⊎ ((q.column_id ≡ c.column_id) × (q.begin_snapshot < c.begin_snapshot))))

before3 : (q c : ColumnRow) → IsBelow column_key q c → IsBefore3 q c
before3 q c h = ⊎_elim
    (λ lt. inl lt)
    (λ t. inr (t.0, ⊎_elim (λ lt. inl lt) (λ i. inr (i.0, last i.1)) (less_first q.column_id c.column_id (q.begin_snapshot ∷ []) (c.begin_snapshot ∷ []) t.1)))
    (less_first q.table_id c.table_id (q.column_id ∷ q.begin_snapshot ∷ []) (c.column_id ∷ c.begin_snapshot ∷ []) h)
  where
    last : key_cmp (q.begin_snapshot ∷ []) (c.begin_snapshot ∷ []) ≡ Less → q.begin_snapshot < c.begin_snapshot
    last h = ⊎_elim (λ lt. lt) (λ b. let e = b.1 in absurd cc) (less_first q.begin_snapshot c.begin_snapshot [] [] h)

-- rows of one column stand by their begin
by_begin : (q c : ColumnRow) → IsBefore3 q c → q.table_id ≡ c.table_id → q.column_id ≡ c.column_id → q.begin_snapshot < c.begin_snapshot
by_begin q c h et ei = ⊎_elim (λ lt. absurd (omega arith)) (λ t. ⊎_elim (λ lt. absurd (omega arith)) (λ i. i.1) t.1) h

-- a row that stands between two of one column is of that column
between : (q p c : ColumnRow) → IsBefore3 q p → IsBefore3 p c → q.table_id ≡ c.table_id → q.column_id ≡ c.column_id
    → (q.table_id ≡ p.table_id) × (q.column_id ≡ p.column_id) × (p.begin_snapshot < c.begin_snapshot)
between q p c qp pc et ei =
    ⊎_elim (λ lt. absurd (⊎_elim (λ l. omega arith) (λ e. omega (arith, e.0)) pc))
    (λ qt. ⊎_elim (λ lt. absurd (omega (arith, qt.0)))
    (λ pt. ⊎_elim (λ lt. absurd (⊎_elim (λ l. omega arith) (λ e. omega (arith, e.0)) pt.1))
    (λ qi. ⊎_elim (λ lt. absurd (omega (arith, qi.0))) (λ pi. (qt.0, qi.0, pi.1)) pt.1) qt.1) pc) qp

-- ---- ends

over_later : (b d : ℕ) (e : Option ℕ) → b ≤ d → is_before b e ≡ false → is_before d e ≡ false
over_later b d None le h = h
over_later b d (Some n) le h = grind (arith, nat_tests)

-- a row that isn't misdated holds its begin
holds_begin : (kept : Kept) (b : ℕ) (e : Option ℕ) → ends_wrong kept b e ≡ false → is_before b e ≡ true
holds_begin kept b None h = refl
holds_begin kept b (Some n) h = go (nat_le n b) refl h
  where
    go : (t : Bool) → nat_le n b ≡ t → (t || (nat_le n kept.first || nat_lt kept.newest n)) ≡ false → nat_lt b n ≡ true
    go true e h = absurd (true≢false h)
    go false e h = grind (arith, nat_tests)

-- ---- the test of two that stand side by side

test_same : (a b : ℕ) (t : Bool) → a ≡ b → ((a == b) && t) ≡ false → t ≡ false
test_same a b t e h = grind (arith, nat_tests)

not_too_soon : (q c : ColumnRow) → q.table_id ≡ c.table_id → q.column_id ≡ c.column_id → is_too_soon q c ≡ false → is_before c.begin_snapshot q.end_snapshot ≡ false
not_too_soon q c et ei h = test_same q.column_id c.column_id _ ei (test_same q.table_id c.table_id _ et h)

test_both : (a b : ℕ) (t : Bool) → ((a == b) && t) ≡ true → (a ≡ b) × (t ≡ true)
test_both a b t h = let p = and_parts (a == b) t h in let e : (a == b) ≡ true = p.0 in (grind (arith, nat_tests), p.1)

in_both : (q c : ColumnRow) → q.begin_snapshot < c.begin_snapshot → is_before c.begin_snapshot q.end_snapshot ≡ true → is_visible column_validity c.begin_snapshot q ≡ true
in_both q c lt h = let le : nat_le q.begin_snapshot c.begin_snapshot ≡ true = grind (arith, nat_tests) in ap (λ b. b && is_before c.begin_snapshot q.end_snapshot) le ∙ h

in_itself : (c : ColumnRow) → is_before c.begin_snapshot c.end_snapshot ≡ true → is_visible column_validity c.begin_snapshot c ≡ true
in_itself c h = let le : nat_le c.begin_snapshot c.begin_snapshot ≡ true = grind (arith, nat_tests) in ap (λ b. b && is_before c.begin_snapshot c.end_snapshot) le ∙ h

begins_by : (s : ℕ) (c : ColumnRow) → is_visible column_validity s c ≡ true → c.begin_snapshot ≤ s
begins_by s c h = let le : nat_le c.begin_snapshot s ≡ true = (and_parts _ _ h).0 in grind (arith, nat_tests)

-- the first row that fails the test
abbrev pub wrong_from : Kept → Option ColumnRow → List ColumnRow → Option Key
wrong_from kept last [] = None
wrong_from kept last (c ∷ cs) = cond (is_wrong kept last c) (Some (of_column c)) (wrong_from kept (Some c) cs)

module _ (kept : Kept) (all : List ColumnRow) where
  -- q is the last row, or stands below it and, where it is of the same column, has ended by its begin
  abbrev Passed : Option ColumnRow → ColumnRow → Type 0
  Passed None q = ⊥
  Passed (Some p) q = (p ≡ q) ⊎ (IsBelow column_key q p × (q.table_id ≡ p.table_id → q.column_id ≡ p.column_id → is_before p.begin_snapshot q.end_snapshot ≡ false))

  -- the last row is one of all, and stands below these
  abbrev StandsBelow : Option ColumnRow → List ColumnRow → Type 0
  StandsBelow None cs = Unit {0}
  StandsBelow (Some p) cs = SomeOf (λ x. x ≡ p) all × AllByRecursion (IsBelow column_key p) cs

  -- q ends by the begin of c, where both are of one column
  abbrev EndsBy : ColumnRow → ColumnRow → Type 0
  EndsBy c q = IsBelow column_key q c × (q.table_id ≡ c.table_id → q.column_id ≡ c.column_id → is_before c.begin_snapshot q.end_snapshot ≡ false)

  passed_next : (last : Option ColumnRow) (c : ColumnRow) (cs : List ColumnRow) (q : ColumnRow) → StandsBelow last (c ∷ cs) → is_wrong kept last c ≡ false → Passed last q → EndsBy c q
  passed_next None c cs q below fine passed = absurd passed
  passed_next (Some p) c cs q below fine passed =
      let apart : is_too_soon p c ≡ false = (or_parts (is_misdated kept column_validity c) (is_too_soon p c) fine).1 in
      let pc : IsBelow column_key p c = below.1.0 in
      ⊎_elim
      (λ e. let T : ColumnRow → Type 0 = EndsBy c in subst T e (pc, λ et ei. not_too_soon p c et ei apart))
      (λ h. (
        nat_list_cmp_total.trans (column_key q) (column_key p) (column_key c) h.0 pc,
        λ et ei.
            let b = between q p c (before3 q p h.0) (before3 p c pc) et ei in
            let lt : p.begin_snapshot < c.begin_snapshot = b.2 in
            over_later p.begin_snapshot c.begin_snapshot q.end_snapshot (omega arith) (h.1 b.0 b.1),
      ))
      passed

  no_overlap : (c q : ColumnRow) → EndsBy c q → Overlaps c q → ⊥
  no_overlap c q ends o =
      let s = o.3.0 in
      let over = over_later c.begin_snapshot s q.end_snapshot (begins_by s c o.3.2) (ends.1 o.1 o.2) in
      let here : is_before s q.end_snapshot ≡ true = (and_parts (nat_le q.begin_snapshot s) (is_before s q.end_snapshot) o.3.1).1 in
      true≢false (sym here ∙ over)

  not_below_itself : (c : ColumnRow) → IsBelow column_key c c → ⊥
  not_below_itself c h = ⊎_elim (λ lt. omega arith) (λ t. ⊎_elim (λ lt. omega arith) (λ i. omega (arith, i.1)) t.1) (before3 c c h)

  -- a row that passes the test isn't wrong
  right_here : (last : Option ColumnRow) (c : ColumnRow) (cs : List ColumnRow) → AllByRecursion (IsBelow column_key c) cs → StandsBelow last (c ∷ cs)
      → AllByRecursion (λ q. Passed last q ⊎ SomeOf (λ x. x ≡ q) (c ∷ cs)) all → is_wrong kept last c ≡ false → IsWronglyDated kept all c → ⊥
  right_here last c cs up below members fine =
      λ wrong. ⊎_elim (λ m. true≢false (sym m ∙ dated last fine)) (λ o. none_of (Overlaps c) all (all_like _ (λ q. Overlaps c q → ⊥) apart all members) o) wrong
    where
      dated : (o : Option ColumnRow) → is_wrong kept o c ≡ false → is_misdated kept column_validity c ≡ false
      dated None h = h
      dated (Some p) h = (or_parts (is_misdated kept column_validity c) (is_too_soon p c) h).0

      behind : (q : ColumnRow) (qs : List ColumnRow) → AllByRecursion (IsBelow column_key c) qs → SomeOf (λ x. x ≡ q) qs → IsBelow column_key q c → ⊥
      behind q [] h some lt = some
      behind q (x ∷ qs) h some lt =
          ⊎_elim (λ e. let T : ColumnRow → Type 0 = λ y. IsBelow column_key c y in not_below_itself c (nat_list_cmp_total.trans (column_key c) (column_key q) (column_key c) (subst T e h.0) lt)) (λ more. behind q qs h.1 more lt) some

      apart : (q : ColumnRow) → Passed last q ⊎ SomeOf (λ x. x ≡ q) (c ∷ cs) → Overlaps c q → ⊥
      apart q h o =
          ⊎_elim (λ passed. no_overlap c q (passed_next last c cs q below fine passed) o)
          (λ some. ⊎_elim (λ e. let T : ColumnRow → Type 0 = λ y. IsBelow column_key y c in not_below_itself c (subst T (sym e) o.0)) (λ more. behind q cs up more o.0) some) h

  -- a row that fails the test is wrong
  wrong_here : (last : Option ColumnRow) (c : ColumnRow) (cs : List ColumnRow) → StandsBelow last (c ∷ cs) → is_wrong kept last c ≡ true → IsWronglyDated kept all c
  wrong_here None c cs below h = inl h
  wrong_here (Some p) c cs below h = go (is_misdated kept column_validity c) refl h
    where
      go : (t : Bool) → is_misdated kept column_validity c ≡ t → (t || is_too_soon p c) ≡ true → IsWronglyDated kept all c
      go true e h = inl e
      go false e h =
          let t = test_both p.table_id c.table_id _ h in
          let i = test_both p.column_id c.column_id _ t.1 in
          let pc : IsBelow column_key p c = below.1.0 in
          let lt : p.begin_snapshot < c.begin_snapshot = by_begin p c (before3 p c pc) t.0 i.0 in
          let holds : is_before c.begin_snapshot c.end_snapshot ≡ true = holds_begin kept c.begin_snapshot c.end_snapshot (or_parts _ _ e).1 in
          let o : Overlaps c p = (pc, t.0, i.0, (c.begin_snapshot, in_both p c lt i.1, in_itself c holds)) in
          inr (SomeOf_like (λ x. x ≡ p) (Overlaps c) (λ x same. let T : ColumnRow → Type 0 = Overlaps c in subst T (sym same) o) all below.0)

  first_wrong_from : (last : Option ColumnRow) (cs : List ColumnRow) → RisesByKey column_key cs → StandsBelow last cs
      → AllByRecursion (λ q. Passed last q ⊎ SomeOf (λ x. x ≡ q) cs) all → AllByRecursion (λ c. SomeOf (λ x. x ≡ c) all) cs
      → FirstBad (Names of_column (IsWronglyDated kept all) cs) (wrong_from kept last cs)
  first_wrong_from last [] up below members here = λ k h. h
  first_wrong_from last (c ∷ cs) up below members here =
      go (is_wrong kept last c) refl (λ e. first_wrong_from (Some c) cs up.1 (here.0, up.0) (all_like _ _ (passed e) all members) here.1)
    where
      passed : is_wrong kept last c ≡ false → (q : ColumnRow) → Passed last q ⊎ SomeOf (λ x. x ≡ q) (c ∷ cs) → Passed (Some c) q ⊎ SomeOf (λ x. x ≡ q) cs
      passed fine q h = ⊎_elim (λ p. inl (inr (passed_next last c cs q below fine p))) (λ some. ⊎_elim (λ e. inl (inl e)) (λ more. inr more) some) h

      go : (t : Bool) → is_wrong kept last c ≡ t → (is_wrong kept last c ≡ false → FirstBad (Names of_column (IsWronglyDated kept all) cs) (wrong_from kept (Some c) cs))
          → FirstBad (Names of_column (IsWronglyDated kept all) (c ∷ cs)) (cond t (Some (of_column c)) (wrong_from kept (Some c) cs))
      go true e more =
          first_here of_column (IsWronglyDated kept all) c cs (all_like (IsBelow column_key c) (λ q. is_sooner (of_column c) (of_column q) ≡ true) (λ q h. ap is_lt h) cs up.0) (wrong_here last c cs below e)
      go false e more = first_behind of_column (IsWronglyDated kept all) c cs (right_here last c cs up.0 below members e) _ (more e)

each_among : {X : Type 0} (xs : List X) → AllByRecursion (λ c. SomeOf (λ x. x ≡ c) xs) xs
each_among [] = tt
each_among (x ∷ xs) = (inl refl, all_like _ _ (λ q h. inr h) xs (each_among xs))

-- the first row that fails the test is the first whose interval is wrong
pub first_wrong_of : (kept : Kept) (rows : List ColumnRow) (o : Option Key) → RisesByKey column_key rows → wrong_from kept None rows ≡ o → FirstBad (Names of_column (IsWronglyDated kept rows) rows) o
first_wrong_of kept rows o up e =
    subst (FirstBad (Names of_column (IsWronglyDated kept rows) rows)) e
    (first_wrong_from kept rows None rows up tt (all_like _ _ (λ q h. inr h) rows (each_among rows)) (each_among rows))

pub wrong_now : (kept : Kept) (last : Option ColumnRow) (rows : List ColumnRow) (i : ℕ) (c : ColumnRow) → i < length rows → c ≡ get_or rows i c → is_wrong kept last c ≡ true → wrong_from kept last (drop i rows) ≡ Some (of_column c)
wrong_now kept last rows i c lt is wrong =
    at_drop_more (wrong_from kept last) rows i c lt
    ∙ ap (λ q. cond (is_wrong kept last q) (Some (of_column q)) (wrong_from kept (Some q) (drop (i + 1) rows))) (sym is)
    ∙ ap (λ b. cond b (Some (of_column c)) (wrong_from kept (Some c) (drop (i + 1) rows))) wrong

pub none_wrong : (kept : Kept) (last : Option ColumnRow) (rows : List ColumnRow) (i : ℕ) → length rows ≤ i → wrong_from kept last (drop i rows) ≡ None
none_wrong kept last rows i le = at_drop_all (wrong_from kept last) rows i le
