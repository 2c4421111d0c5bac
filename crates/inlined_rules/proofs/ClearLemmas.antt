-- The terms of column rows rise, and where the rule on intervals holds those of one column are apart.
use Rattle.std.proofs.Common.{◌≡◌, inl, inr, ⊎_elim, ℕ, ◌≤◌, ◌||◌, Bool, true, false, cond, List, [], ◌∷◌, Option, Some, None, filter, map, refl, sym, subst, arith}
use Rattle.std.specs.List.{AllByRecursion}
use Rattle.std.specs.Prelude.{nat_le, nat_lt}
use Rattle.std.proofs.lemmas.Bool.{cases_lt, le-leb, lt-ltb, or_parts}
use Rattle.std.proofs.lemmas.Bool.Decides.{nat_tests}
use Rattle.cat_tables.specs.Table.{IsAscending, IsBelow, RisesByKey}
use Rattle.cat_tables.specs.Validity.{is_before, is_visible}
use Rattle.cat_rows.specs.Keys.{column_key}
use Rattle.cat_rows.specs.Tables.{Tables}
use Rattle.cat_rows.specs.Validities.{column_validity}
use Rattle.cat_rows.specs.declared.batch.Key.{Key}
use Rattle.cat_rows.specs.declared.schemas.ColumnRow.{ColumnRow}
use Rattle.cat_rules.specs.First.{Holds}
use Rattle.cat_rules.specs.IntervalRule.{IsIntervalBad, IsWronglyDated, Overlaps, ends_wrong, is_misdated}
use Rattle.cat_rules.specs.Kept.{kept_of}
use Rattle.cat_rules.specs.Places.{of_column}
use Rattle.cat_rules.specs.Rows.{Names, SomeOf}
use Rattle.cat_rules.specs.declared.kept.Kept.{Kept}
use Rattle.cat_rules.proofs.FirstLemmas.{SomeOf_like, all_like}
use Rattle.cat_rules.proofs.DatedLemmas.{dated_columns}
use Rattle.cat_rules.proofs.SightLemmas.{IsDated}
use Rattle.inlined_rules.specs.Terms.{term_key, term_of}
use Rattle.inlined_rules.proofs.TermLemmas.{IsOver, Precedes, lower_from}

-- ---- lists that ascend

pub ascends-map : {X Y : Type 0} (R : Y → Y → Type 0) (f : X → Y) (xs : List X) → IsAscending (λ a b. R (f a) (f b)) xs → IsAscending R (map f xs)
ascends-map R f [] up = tt
ascends-map {X} R f (x ∷ xs) up = (all xs up.0, ascends-map R f xs up.1)
  where
    all : (ys : List X) → AllByRecursion (λ b. R (f x) (f b)) ys → AllByRecursion (R (f x)) (map f ys)
    all [] h = tt
    all (y ∷ ys) h = (h.0, all ys h.1)

pub ascends-filter : {X : Type 0} (R : X → X → Type 0) (p : X → Bool) (xs : List X) → IsAscending R xs → IsAscending R (filter p xs)
ascends-filter R p [] up = tt
ascends-filter {X} R p (x ∷ xs) up =
    elim (p x) as (λ b. IsAscending R (cond b (x ∷ filter p xs) (filter p xs)))
    [ true ↦ (all xs up.0, ascends-filter R p xs up.1) | false ↦ ascends-filter R p xs up.1 ]
  where
    all : (ys : List X) → AllByRecursion (R x) ys → AllByRecursion (R x) (filter p ys)
    all [] h = tt
    all (y ∷ ys) h = elim (p y) as (λ b. AllByRecursion (R x) (cond b (y ∷ filter p ys) (filter p ys))) [ true ↦ (h.0, all ys h.1) | false ↦ all ys h.1 ]

pub terms_rise : (rows : List ColumnRow) → RisesByKey column_key rows → RisesByKey term_key (map term_of rows)
terms_rise rows up = ascends-map (IsBelow term_key) term_of rows up

-- ---- rows that are dated and don't overlap

pub begins_before : (kept : Kept) (c : ColumnRow) → is_misdated kept column_validity c ≡ false → is_before c.begin_snapshot c.end_snapshot ≡ true
begins_before kept c h = go c.end_snapshot (or_parts (nat_lt kept.newest c.begin_snapshot) (ends_wrong kept c.begin_snapshot c.end_snapshot) h).1
  where
    go : (e : Option ℕ) → ends_wrong kept c.begin_snapshot e ≡ false → is_before c.begin_snapshot e ≡ true
    go None w = refl
    go (Some n) w = let late : nat_le n c.begin_snapshot ≡ false = (or_parts (nat_le n c.begin_snapshot) (nat_le n kept.first || nat_lt kept.newest n) w).0 in grind (arith, nat_tests)

precedes : (q c : ColumnRow) → IsBelow column_key q c → is_before c.begin_snapshot c.end_snapshot ≡ true → (Overlaps c q → ⊥) → Precedes (term_of q) (term_of c)
precedes q c below right apart = (below, λ e f. over e f q.end_snapshot refl, right)
  where
    first : q.table_id ≡ c.table_id → q.column_id ≡ c.column_id → q.begin_snapshot ≤ c.begin_snapshot
    first e f =
        ⊎_elim (λ a. absurd (omega (arith, a, e))) (λ a. ⊎_elim (λ b. absurd (omega (arith, b, f))) (λ b. omega (arith, b.1)) a.1)
        (lower_from q.table_id q.column_id q.begin_snapshot c.table_id c.column_id c.begin_snapshot below)

    sees_c : is_visible column_validity c.begin_snapshot c ≡ true
    sees_c = let low : nat_le c.begin_snapshot c.begin_snapshot ≡ true = le-leb c.begin_snapshot c.begin_snapshot (omega arith) in rw low right

    sees_q : q.begin_snapshot ≤ c.begin_snapshot → is_before c.begin_snapshot q.end_snapshot ≡ true → is_visible column_validity c.begin_snapshot q ≡ true
    sees_q le before = let low : nat_le q.begin_snapshot c.begin_snapshot ≡ true = le-leb q.begin_snapshot c.begin_snapshot le in rw low before

    over : q.table_id ≡ c.table_id → q.column_id ≡ c.column_id → (end : Option ℕ) → q.end_snapshot ≡ end → IsOver end c.begin_snapshot
    over e f None is = apart (below, e, f, (c.begin_snapshot, sees_q (first e f) (rw is refl), sees_c))
    over e f (Some n) is =
        ⊎_elim
        (λ lt. absurd (apart (below, e, f, (c.begin_snapshot, sees_q (first e f) (rw is (lt-ltb c.begin_snapshot n lt)), sees_c))))
        (λ le. le)
        (cases_lt c.begin_snapshot n)

none_bad : {R : Type 0} (name : R → Key) (Bad : R → Type 0) (rows : List R) → Holds (Names name Bad rows) → AllByRecursion (λ r. Bad r → ⊥) rows
none_bad name Bad [] fine = tt
none_bad name Bad (r ∷ rs) fine = (λ bad. fine (name r) (inl (bad, refl)), none_bad name Bad rs (λ k h. fine k (inr h)))

module _ (kept : Kept) (all : List ColumnRow) where
  abbrev IsClear : ColumnRow → Type 0
  IsClear c = (is_misdated kept column_validity c ≡ false) × (SomeOf (Overlaps c) all → ⊥)

  clear : (rows : List ColumnRow) → ((q : ColumnRow) → SomeOf (λ x. x ≡ q) rows → SomeOf (λ x. x ≡ q) all) → RisesByKey column_key rows → AllByRecursion IsClear rows
      → IsAscending (λ q c. Precedes (term_of q) (term_of c)) rows
  clear [] into up fine = tt
  clear (q ∷ cs) into up fine = (each cs up.0 fine.1, clear cs (λ x h. into x (inr h)) up.1 fine.1)
    where
      among : (c : ColumnRow) → Overlaps c q → SomeOf (Overlaps c) all
      among c h = SomeOf_like (λ x. x ≡ q) (Overlaps c) (λ x e. subst (Overlaps c) (sym e) h) all (into q (inl refl))

      each : (cs : List ColumnRow) → AllByRecursion (IsBelow column_key q) cs → AllByRecursion IsClear cs → AllByRecursion (λ c. Precedes (term_of q) (term_of c)) cs
      each [] below fine = tt
      each (c ∷ cs) below fine = (precedes q c below.0 (begins_before kept c fine.0.0) (λ h. fine.0.1 (among c h)), each cs below.1 fine.1)

both_all : {X : Type 0} (P Q : X → Type 0) (xs : List X) → AllByRecursion P xs → AllByRecursion Q xs → AllByRecursion (λ x. P x × Q x) xs
both_all P Q [] p q = tt
both_all P Q (x ∷ xs) p q = ((p.0, q.0), both_all P Q xs p.1 q.1)

module _ (t : Tables) (intervals : Holds (IsIntervalBad t)) where
  none_overlaps : AllByRecursion (λ c. SomeOf (Overlaps c) t.column → ⊥) t.column
  none_overlaps = all_like _ _ (λ c fine h. fine (inr h)) t.column (none_bad of_column (IsWronglyDated (kept_of t.snapshot) t.column) t.column (λ k h. intervals k (inr (inr (inl h)))))

  pub terms_clear : RisesByKey column_key t.column → IsAscending Precedes (map term_of t.column)
  terms_clear up =
      ascends-map Precedes term_of t.column
      (clear (kept_of t.snapshot) t.column t.column (λ q h. h) up (both_all (IsDated t column_validity) (λ c. SomeOf (Overlaps c) t.column → ⊥) t.column (dated_columns t intervals) none_overlaps))
