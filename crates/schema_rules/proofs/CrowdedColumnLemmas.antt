-- Columns that are one too many in their table, or alike there.
use Rattle.std.proofs.Common.{◌≡◌, ℕ, ◌≤◌, true, ◌&&◌, List, [], ◌∷◌, count_by, refl, ap, Option, None, Result, arith}
use Rattle.cat_rules.proofs.WithinLemmas.{all_so, count_by-le, count_by-visible, first_found_among, in_group, is_same, is_under_at, same_is}
use Rattle.cat_rules.specs.EachKept.{AtKept}
use Rattle.cat_rules.specs.Sight.{SeesWith}
use Rattle.cat_rules.specs.Lookups.{table_of}
use Rattle.cat_rules.proofs.SeenLemmas.{first_with, some_visible, visible_some}
use Rattle.std.proofs.lemmas.Bool.{and_parts, and_from}
use Rattle.std.specs.Result.{IfOk}
use Rattle.std.proofs.lemmas.Result.{IfOk-weaker}
use Rattle.cat_tables.specs.Table.{RisesByKey}
use Rattle.cat_tables.specs.Validity.{is_visible, visible_at}
use Rattle.cat_tables.proofs.KeyLemmas.{key_eq}
use Rattle.cat_rows.specs.Keys.{snapshot_key, column_key, table_key}
use Rattle.cat_rows.specs.Tables.{Tables}
use Rattle.cat_rows.specs.Validities.{column_validity, table_validity}
use Rattle.cat_rows.specs.declared.batch.Key.{Key}
use Rattle.cat_rows.specs.declared.schemas.ColumnRow.{ColumnRow}
use Rattle.cat_rules.specs.First.{FirstBad, Holds}
use Rattle.cat_rules.specs.HistoryRule.{IsMissing}
use Rattle.cat_rules.specs.Kept.{kept_of, AtSome}
use Rattle.cat_rules.specs.Places.{of_column}
use Rattle.cat_rules.specs.Rows.{SomeOf, Names}
use Rattle.cat_rules.proofs.DatedLemmas.{AreDated}
use Rattle.cat_rules.proofs.FirstLemmas.{SomeOf_like}
use Rattle.cat_rules.specs.ColumnRule.{IsAlikeEarlier, IsPastHundred, is_earlier}
use Rattle.schema_rules.specs.Groups.{group_by_table}
use Rattle.cat_rules.specs.Crowded.{IsCrowded, extent_with}
use Rattle.cat_rules.proofs.EarlierLemmas.{some_counted, counted_some}

-- ---- the three groupings

earlier_table : (c q : ColumnRow) → is_earlier c q ≡ true → q.table_id ≡ c.table_id
earlier_table c q earlier = is_same q.table_id c.table_id (and_parts _ _ earlier).1

module _ (group : ColumnRow → List ℕ) (one_table : (q c : ColumnRow) → group q ≡ group c → q.table_id ≡ c.table_id) where
  under_is : (s : ℕ) (c q : ColumnRow) → is_under_at column_validity column_key group s c q ≡ true → (is_visible column_validity s q ≡ true) × (is_earlier c q ≡ true) × (group q ≡ group c)
  under_is s c q under =
      let h = and_parts _ _ under in
      let k = and_parts _ _ h.1 in
      let same = key_eq (group q) (group c) k.0 in
      (k.1, and_from _ _ h.0 (same_is q.table_id c.table_id (one_table q c same)), same)

  under_from : (s : ℕ) (c q : ColumnRow) → is_visible column_validity s q ≡ true → is_earlier c q ≡ true → group q ≡ group c → is_under_at column_validity column_key group s c q ≡ true
  under_from s c q sees earlier same = and_from _ _ (and_parts _ _ earlier).0 (and_from _ _ (in_group (group q) (group c) same) sees)

module _ (t : Tables) (up : RisesByKey snapshot_key t.snapshot) (rise : RisesByKey table_key t.table) (whole : Holds (IsMissing t.snapshot)) (columns : AreDated t column_validity t.column) (tables : AreDated t table_validity t.table)
    {E : Type 0} (result : Result (Option Key) E) (first : ℕ) (given : List ColumnRow) (same_first : first ≡ (kept_of t.snapshot).first) (same_rows : given ≡ t.column) where
  pub first_past_hundred_among : IfOk result (FirstBad (Names of_column (IsCrowded of_column (extent_with t first column_validity (λ c. c.table_id) group_by_table) 100 given) given))
      → IfOk result (FirstBad (AtKept (λ seen. Names of_column (IsPastHundred seen) seen.column) t))
  first_past_hundred_among h =
      IfOk-weaker result (FirstBad (Names of_column (λ c. AtSome t (λ s. SeesWith column_validity (table_of t c.table_id) c s × Past s c)) t.column)) (FirstBad (AtKept (λ seen. Names of_column (IsPastHundred seen) seen.column) t))
      (λ o x. first_with t rise column_validity of_column (λ c. c.table_id) Past (λ s c y. y) (λ s c y. y) (λ c. refl) (λ c. refl) t.column o x)
      (first_found_among t up whole tables column_validity of_column column_key (λ c. c.table_id) (λ q r. refl) group_by_table (λ q c e. cc) t.column columns 100 Past to back result first given same_first same_rows h)
    where
      Past : ℕ → ColumnRow → Type 0
      Past s c = 100 ≤ count_by (is_earlier c) (visible_at column_validity s t.column)

      to : (s : ℕ) (c : ColumnRow) → 100 ≤ count_by (is_under_at column_validity column_key group_by_table s c) t.column → Past s c
      to s c le =
          let fewer = count_by-le (λ _. Unit {0}) (is_under_at column_validity column_key group_by_table s c) (λ q. is_visible column_validity s q && is_earlier c q) t.column (all_so t.column)
          (λ q u x. let h = under_is group_by_table (λ q c e. cc) s c q x in and_from _ _ h.0 h.1) in
          let same = count_by-visible column_validity s (is_earlier c) (λ q. refl) t.column in
          omega arith

      back : (s : ℕ) (c : ColumnRow) → Past s c → 100 ≤ count_by (is_under_at column_validity column_key group_by_table s c) t.column
      back s c le =
          let fewer = count_by-le (λ _. Unit {0}) (λ q. is_visible column_validity s q && is_earlier c q) (is_under_at column_validity column_key group_by_table s c) t.column (all_so t.column)
          (λ q u x. let h = and_parts _ _ x in under_from group_by_table (λ q c e. cc) s c q h.0 h.1 (ap (λ n. n ∷ 0 ∷ []) (earlier_table c q h.1))) in
          let same = count_by-visible column_validity s (is_earlier c) (λ q. refl) t.column in
          omega arith

  module _ (group : ColumnRow → List ℕ) (one_table : (q c : ColumnRow) → group q ≡ group c → q.table_id ≡ c.table_id) (Alike : ColumnRow → ColumnRow → Type 0)
      (opens : (q c : ColumnRow) → Alike q c → Alike (column_validity.with_end None q) c) (closes : (q c : ColumnRow) → Alike (column_validity.with_end None q) c → Alike q c)
      (opened : (q c : ColumnRow) → Alike q c → Alike q (column_validity.with_end None c)) (closed : (q c : ColumnRow) → Alike q (column_validity.with_end None c) → Alike q c)
      (alike_is : (q c : ColumnRow) → group q ≡ group c → Alike q c) (group_is : (q c : ColumnRow) → q.table_id ≡ c.table_id → Alike q c → group q ≡ group c) where
    pub first_alike_among : IfOk result (FirstBad (Names of_column (IsCrowded of_column (extent_with t first column_validity (λ c. c.table_id) group) 1 given) given))
        → IfOk result (FirstBad (AtKept (λ seen. Names of_column (IsAlikeEarlier Alike seen) seen.column) t))
    first_alike_among h =
        IfOk-weaker result (FirstBad (Names of_column (λ c. AtSome t (λ s. SeesWith column_validity (table_of t c.table_id) c s × Other s c)) t.column)) (FirstBad (AtKept (λ seen. Names of_column (IsAlikeEarlier Alike seen) seen.column) t))
        (λ o x. first_with t rise column_validity of_column (λ c. c.table_id) Other (λ s c y. SomeOf_like (λ q. (is_earlier c q ≡ true) × Alike q c) (λ q. (is_earlier c q ≡ true) × Alike q (column_validity.with_end None c)) (λ q z. (z.0, opened q c z.1)) (visible_at column_validity s t.column) y)
        (λ s c y. SomeOf_like (λ q. (is_earlier c q ≡ true) × Alike q (column_validity.with_end None c)) (λ q. (is_earlier c q ≡ true) × Alike q c) (λ q z. (z.0, closed q c z.1)) (visible_at column_validity s t.column) y) (λ c. refl) (λ c. refl) t.column o x)
        (first_found_among t up whole tables column_validity of_column column_key (λ c. c.table_id) (λ q r. refl) group one_table t.column columns 1 Other to back result first given same_first same_rows h)
      where
        Other : ℕ → ColumnRow → Type 0
        Other s c = SomeOf (λ q. (is_earlier c q ≡ true) × Alike q c) (visible_at column_validity s t.column)

        to : (s : ℕ) (c : ColumnRow) → 1 ≤ count_by (is_under_at column_validity column_key group s c) t.column → Other s c
        to s c le =
            some_visible column_validity s (λ q. (is_earlier c q ≡ true) × Alike q c) t.column
            (SomeOf_like (λ q. is_under_at column_validity column_key group s c q ≡ true) (λ q. (is_visible column_validity s q ≡ true) × ((is_earlier c q ≡ true) × Alike (column_validity.with_end None q) c))
            (λ q x. let u = under_is group one_table s c q x in (u.0, (u.1, opens q c (alike_is q c u.2)))) t.column (some_counted (is_under_at column_validity column_key group s c) t.column le))

        back : (s : ℕ) (c : ColumnRow) → Other s c → 1 ≤ count_by (is_under_at column_validity column_key group s c) t.column
        back s c some =
            counted_some (is_under_at column_validity column_key group s c) t.column
            (SomeOf_like (λ q. (is_visible column_validity s q ≡ true) × ((is_earlier c q ≡ true) × Alike (column_validity.with_end None q) c)) (λ q. is_under_at column_validity column_key group s c q ≡ true)
            (λ q x. let alike = closes q c x.1.1 in under_from group one_table s c q x.0 x.1.0 (group_is q c (earlier_table c q x.1.0) alike)) t.column
            (visible_some column_validity s (λ q. (is_earlier c q ≡ true) × Alike q c) t.column some))
