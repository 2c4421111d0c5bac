-- The newest row of a column that the head sees is the one that the head sees.
use Rattle.std.proofs.Common.{◌≡◌, ◌⊎◌, inl, inr, ⊎_elim, ℕ, ◌<◌, ◌≤◌, Bool, true, false, ◌||◌, List, [], ◌∷◌, filter, refl, sym, ap, ap₂, ◌∙◌, subst, arith, Option, Some, None, Less, Greater, true≢false}
use Rattle.std.specs.Prelude.{is_none, nat_le, nat_lt}
use Rattle.std.proofs.lemmas.Bool.{and_from, cases_lt, eq-eqb, le-leb, le-ltb, leb-false, lt-ltb, ne_eqb, or_parts}
use Rattle.lake_rebase.proofs.MemberLemmas.{In, all_in, in_kept, kept_in}
use Rattle.cat_tables.specs.Table.{IsAscending, IsBelow, has_key, key_cmp}
use Rattle.cat_tables.specs.Validity.{IsBy, is_before, is_visible}
use Rattle.cat_tables.proofs.KeyLemmas.{key_eq}
use Rattle.cat_tables.proofs.PutLemmas.{RisesByKey-filter}
use Rattle.cat_tables.proofs.SightLemmas.{same_key}
use Rattle.cat_rows.specs.Keys.{column_key}
use Rattle.cat_rows.specs.Validities.{column_laws, column_validity}
use Rattle.cat_rows.specs.declared.schemas.ColumnRow.{ColumnRow}
use Rattle.cat_rules.specs.IntervalRule.{IsWronglyDated, Overlaps, ends_wrong, is_misdated}
use Rattle.cat_rules.specs.Kept.{kept_of}
use Rattle.cat_rules.specs.Lookups.{column_of, last, newest_row}
use Rattle.cat_rules.specs.Places.{of_column}
use Rattle.cat_rules.proofs.DatedLemmas.{all_fine, dated_columns}
use Rattle.cat_rules.proofs.SeenLemmas.{visible_some}
use Rattle.commit_rules.proofs.ColumnStatsLemmas.{two_numbers}
use Rattle.commit_laws.proofs.CaseLemmas.{Case, number, seen, settled}
use Rattle.commit_laws.proofs.ListLemmas.{found, some_in}
use Rattle.commit_laws.proofs.RowLemmas.{sees_open}

-- ---- the last of a list

pub last_member : {X : Type 0} (x : X) (xs : List X) → last xs ≡ Some x → In x xs
last_member x [] e = absurd cc
last_member x (y ∷ []) e = let same : y ≡ x = cc in inl same
last_member x (y ∷ z ∷ xs) e = inr (last_member x (z ∷ xs) e)

-- what stands in a list that rises is its last, or stands before that
last_latest : {X : Type 0} (R : X → X → Type 0) (b x : X) (xs : List X) → IsAscending R xs → last xs ≡ Some x → In b xs → (b ≡ x) ⊎ R b x
last_latest R b x [] up e there = absurd there
last_latest R b x (y ∷ []) up e (inl same) = let is : y ≡ x = cc in inl (sym same ∙ is)
last_latest R b x (y ∷ []) up e (inr there) = absurd there
last_latest R b x (y ∷ z ∷ xs) up e (inl same) = inr (subst (λ w. R w x) same (all_in (R y) x (z ∷ xs) up.0 (last_member x (z ∷ xs) e)))
last_latest R b x (y ∷ z ∷ xs) up e (inr there) = last_latest R b x (z ∷ xs) up.1 e there

-- ---- keys of one column

third : (a b x y : ℕ) → key_cmp (a ∷ b ∷ x ∷ []) (a ∷ b ∷ y ∷ []) ≡ Less → x ≤ y
third a b x y less = ⊎_elim (λ le. le) (λ lt. absurd (apart (greater lt))) (order x y)
  where
    order : (m n : ℕ) → (m ≤ n) ⊎ (n < m)
    order m n = ⊎_elim (λ lt. inr lt) (λ le. inl le) (cases_lt n m)

    greater : y < x → key_cmp (a ∷ b ∷ x ∷ []) (a ∷ b ∷ y ∷ []) ≡ Greater
    greater lt = rw (le-ltb a a (omega arith), eq-eqb a a refl, le-ltb b b (omega arith), eq-eqb b b refl, le-ltb x y (omega (arith, lt)), ne_eqb x y (λ same. omega (arith, lt, same))) refl

    apart : key_cmp (a ∷ b ∷ x ∷ []) (a ∷ b ∷ y ∷ []) ≡ Greater → ⊥
    apart other = let same : Less ≡ Greater = sym less ∙ other in cc

abbrev pub is_column : ℕ → ℕ → ColumnRow → Bool
is_column table field = has_key column_of (table ∷ field ∷ [])

module _ (k : Case) where
  -- a row that begins before its end is seen where it begins
  sees_begin : (c : ColumnRow) → In c k.t.column → is_visible column_validity c.begin_snapshot c ≡ true
  sees_begin c there =
      let dated = all_in (λ (x : ColumnRow). is_misdated (kept_of k.t.snapshot) column_validity x ≡ false) c k.t.column (dated_columns k.t k.c.sound.rules.1.1.0) there in
      let fine = or_parts (nat_lt (kept_of k.t.snapshot).newest c.begin_snapshot) (ends_wrong (kept_of k.t.snapshot) c.begin_snapshot c.end_snapshot) dated in
      and_from (nat_le c.begin_snapshot c.begin_snapshot) (is_before c.begin_snapshot c.end_snapshot) (le-leb c.begin_snapshot c.begin_snapshot (omega arith)) (go c.end_snapshot fine.1)
    where
      go : (e : Option ℕ) → ends_wrong (kept_of k.t.snapshot) c.begin_snapshot e ≡ false → is_before c.begin_snapshot e ≡ true
      go None fine = refl
      go (Some e) fine = let past = or_parts (nat_le e c.begin_snapshot) (nat_le e (kept_of k.t.snapshot).first || nat_lt (kept_of k.t.snapshot).newest e) fine in lt-ltb c.begin_snapshot e (leb-false e c.begin_snapshot past.0)

  none_overlap : (c : ColumnRow) → In c k.t.column → (b : ColumnRow) → In b k.t.column → Overlaps c b → ⊥
  none_overlap c there b other overlaps =
      all_in (λ (x : ColumnRow). IsWronglyDated (kept_of k.t.snapshot) k.t.column x → ⊥) c k.t.column (all_fine of_column (IsWronglyDated (kept_of k.t.snapshot) k.t.column) k.t.column (λ j h. k.c.sound.rules.1.1.0 j (inr (inr (inl h))))) there
      (inr (some_in (Overlaps c) b k.t.column other overlaps))

  -- the newest one is the one without an end
  newest_open : (b c : ColumnRow) → In b k.t.column → b.end_snapshot ≡ None → newest_row b.table_id b.column_id k.t.column ≡ Some c → c ≡ b
  newest_open b c there open_end e =
      let test = is_column b.table_id b.column_id in
      let passing = filter test k.t.column in
      let last_is = in_kept test c k.t.column (last_member c passing e) in
      let ids = two_numbers (key_eq (column_of c) (b.table_id ∷ b.column_id ∷ []) last_is.1) in
      ⊎_elim (λ same. sym same)
      (λ below.
      let keys : key_cmp (b.table_id ∷ b.column_id ∷ b.begin_snapshot ∷ []) (b.table_id ∷ b.column_id ∷ c.begin_snapshot ∷ []) ≡ Less = ap₂ (λ m n. key_cmp (column_key b) (m ∷ n ∷ c.begin_snapshot ∷ [])) (sym ids.0) (sym ids.1) ∙ below in
      let le = third b.table_id b.column_id b.begin_snapshot c.begin_snapshot keys in
      let sees_b : is_visible column_validity c.begin_snapshot b ≡ true = and_from (nat_le b.begin_snapshot c.begin_snapshot) (is_before c.begin_snapshot b.end_snapshot) (le-leb b.begin_snapshot c.begin_snapshot le) (ap (is_before c.begin_snapshot) open_end) in
      absurd (none_overlap c last_is.0 b there (below, sym ids.0, sym ids.1, (c.begin_snapshot, sees_b, sees_begin c last_is.0))))
      (last_latest (IsBelow column_key) b c passing (RisesByKey-filter column_key test k.t.column (settled k).column.rises) e (kept_in test b k.t.column there (same_key column_of b)))

  -- so of a row that the head sees: the newest one has its type
  pub newest_type : (b c : ColumnRow) → In b (seen k).column → newest_row b.table_id b.column_id k.t.column ≡ Some c → c.column_type ≡ b.column_type
  newest_type b c there e =
      let m = found _ k.t.column (visible_some column_validity (number k) (λ (x : ColumnRow). x ≡ b) k.t.column (some_in (λ (x : ColumnRow). x ≡ b) b (seen k).column there refl)) in
      let by = all_in (IsBy column_validity (number k)) m.item k.t.column (settled k).column.by m.there in
      let open_end = none_is m.item.end_snapshot (sym (sees_open column_validity column_key column_laws (number k) m.item by) ∙ m.is.0) in
      let ids : newest_row m.item.table_id m.item.column_id k.t.column ≡ Some c = ap (λ (x : ColumnRow). newest_row x.table_id x.column_id k.t.column) m.is.1 ∙ e in
      ap (λ (x : ColumnRow). x.column_type) (newest_open m.item c m.there open_end ids) ∙ ap (λ (x : ColumnRow). x.column_type) m.is.1
    where
      none_is : (o : Option ℕ) → is_none o ≡ true → o ≡ None
      none_is None e = refl
      none_is (Some n) e = absurd (true≢false (sym e))
