-- From the twelve rules: of each table that a kept snapshot sees, the rows are spelled, and there are statistics.
use Rattle.std.proofs.Common.{◌≡◌, ◌<◌, ◌≤◌, ◌^◌, ◌==◌, ◌||◌, ◌⊎◌, ⊎_elim, inl, inr, ℕ, Bool, true, false, not, cond, List, [], ◌∷◌, filter, Option, Some, None, is_some, length, refl, sym, ap, subst, nat_lt, arith, ◌∙◌}
use Rattle.std.specs.Prelude.{sum_by}
use Rattle.std.specs.List.{AllByRecursion}
use Rattle.std.proofs.lemmas.Bool.{and_from, cases_lt, eqb-true, lt-ltb, or_left, or_right}
use Rattle.std.proofs.lemmas.List.Sums.{sum_by-cons}
use Rattle.std.proofs.lemmas.Option.{same_Some}
use Rattle.lake_types.specs.Texts.{HasText}
use Rattle.lake_types.specs.Weights.{cell_weight, weight}
use Rattle.lake_types.specs.declared.value.ColType.{ColType}
use Rattle.lake_types.specs.declared.value.Value.{Value}
use Rattle.lake_types.specs.declared.value.Value.TheVariants as value
use Rattle.lake_model.specs.Apply.{Cells}
use Rattle.cat_tables.specs.Table.{has_key, row_of}
use Rattle.cat_tables.proofs.RowLemmas.{key-row_of}
use Rattle.cat_tables.proofs.SightLemmas.{same_key}
use Rattle.cat_rows.specs.Batches.{holds}
use Rattle.cat_rows.specs.Keys.{table_key, table_stats_key}
use Rattle.cat_rows.specs.Seen.{Seen, seen_at}
use Rattle.cat_rows.specs.Tables.{Tables}
use Rattle.cat_rows.specs.Validities.{table_validity}
use Rattle.cat_rows.specs.declared.batch.Key.{Key}
use Rattle.cat_rows.specs.declared.batch.Key.TheVariants as key
use Rattle.cat_rows.specs.declared.files.TableStatsRow.{TableStatsRow}
use Rattle.cat_rows.specs.declared.inlined.InlinedRow.{InlinedRow}
use Rattle.cat_rows.specs.declared.schemas.ColumnRow.{ColumnRow}
use Rattle.cat_rows.specs.declared.schemas.TableRow.{TableRow}
use Rattle.cat_rules.specs.ColumnRule.{AreColumnsBad, IsColumnBad, IsColumnWrong, IsColumnless, IsCrowdedColumn, IsDefault}
use Rattle.cat_rules.specs.EachKept.{AtKept, SeesTable}
use Rattle.cat_rules.specs.First.{Holds}
use Rattle.cat_rules.specs.InlinedRule.{AreInlinedBad, HasMisfit, HasUnreadableCells, HasWrongRowId, IsInlinedBad, IsPastThousand}
use Rattle.cat_rules.specs.Kept.{IsKept}
use Rattle.cat_rules.specs.Lookups.{HasRow, stats_of_table}
use Rattle.cat_rules.specs.Places.{of_column, of_inlined, of_table_stats}
use Rattle.cat_rules.specs.Rows.{Names, SomeOf}
use Rattle.cat_rules.specs.TableStatsRule.{IsStatsBad, are_stats_large, has_large_counter, last_field, last_id, stats_of}
use Rattle.cat_rules.proofs.FirstLemmas.{SomeOf_like}
use Rattle.cat_texts.proofs.TypeLemmas.{has_type_text}
use Rattle.cat_texts.specs.Spelled.{IsValueOf}
use Rattle.cat_texts.specs.Types.{type_of}
use Rattle.cat_view.specs.Columns.{SpellsColumn}
use Rattle.cat_view.specs.Inlined.{SpellsCells}
use Rattle.cat_view.specs.Reading.{CanBeViewed}
use Rattle.cat_view.specs.Sight.{stats_row}
use Rattle.cat_stands.proofs.FileLemmas.{all-seen}

-- ---- rows that are there

abbrev pub IsIn : {X : Type 0} → X → List X → Type 0
IsIn x xs = SomeOf (λ y. y ≡ x) xs

pub all_in : {X : Type 0} (P : X → Type 0) (xs : List X) → ((x : X) → IsIn x xs → P x) → AllByRecursion P xs
all_in P [] f = tt
all_in P (x ∷ xs) f = (f x (inl refl), all_in P xs (λ y h. f y (inr h)))

all_at : {X : Type 0} (P : X → Type 0) (xs : List X) (x : X) → AllByRecursion P xs → IsIn x xs → P x
all_at P [] x all h = absurd h
all_at P (y ∷ ys) x all (inl e) = subst P e all.0
all_at P (y ∷ ys) x all (inr h) = all_at P ys x all.1 h

all_chosen : {X : Type 0} (P : X → Type 0) (p : X → Bool) (xs : List X) → ((x : X) → IsIn x xs → p x ≡ true → P x) → AllByRecursion P (filter p xs)
all_chosen P p [] f = tt
all_chosen P p (x ∷ xs) f = go (p x) refl (all_chosen P p xs (λ y h. f y (inr h)))
  where
    go : (b : Bool) → p x ≡ b → AllByRecursion P (filter p xs) → AllByRecursion P (cond b (x ∷ filter p xs) (filter p xs))
    go true is more = (f x (inl refl) is, more)
    go false is more = more

module _ {R : Type 0} (key : R → List ℕ) where
  -- a row that is there is found by its key, or another one is
  found_by : (rows : List R) (r : R) → IsIn r rows → HasRow (row_of key (key r) rows) (λ _. Unit {0})
  found_by [] r h = absurd h
  found_by (q ∷ rows) r (inl e) = subst (λ b. HasRow (cond b (Some q) (row_of key (key r) rows)) (λ _. Unit {0})) (sym (subst (λ x. has_key key (key x) q ≡ true) e (same_key key q))) tt
  found_by (q ∷ rows) r (inr h) = go (has_key key (key r) q) (found_by rows r h)
    where
      go : (b : Bool) → HasRow (row_of key (key r) rows) (λ _. Unit {0}) → HasRow (cond b (Some q) (row_of key (key r) rows)) (λ _. Unit {0})
      go true more = tt
      go false more = more

  -- the row that is found is there
  found_in : (k : List ℕ) (rows : List R) (r : R) → row_of key k rows ≡ Some r → IsIn r rows
  found_in k [] r e = absurd (cc e)
  found_in k (q ∷ rows) r e = go (has_key key k q) e (found_in k rows r)
    where
      go : (b : Bool) → cond b (Some q) (row_of key k rows) ≡ Some r → (row_of key k rows ≡ Some r → IsIn r rows) → IsIn r (q ∷ rows)
      go true e more = inl (same_Some q r e)
      go false e more = inr (more e)

has_row : {R : Type 0} (o : Option R) → HasRow o (λ _. Unit {0}) → is_some o ≡ true
has_row None h = absurd h
has_row (Some r) h = refl

-- where no row is told as bad, none is
none_bad : {R : Type 0} (name : R → Key) (Bad : R → Type 0) (rows : List R) → ((k : Key) → Names name Bad rows k → ⊥) → (r : R) → IsIn r rows → Bad r → ⊥
none_bad name Bad rows none r h bad = none (name r) (SomeOf_like (λ q. q ≡ r) (λ q. Bad q × (name q ≡ name r)) (λ q e. (subst Bad (sym e) bad, ap name e)) rows h)

-- ---- columns

-- a default is that of some value
value_in : (type : List ℕ) (ty : ColType) → type_of type ≡ Some ty → (o : Option (List ℕ)) → IsDefault type o → (v : Value) × IsValueOf ty o v
value_in type ty is None h = (value.Null, refl)
value_in type ty is (Some text) (t, e, (v, spells, short)) = (v, subst (λ x. HasText x v text) (one e) spells)
  where
    one : type_of type ≡ Some t → t ≡ ty
    one e = cc (e, is)

module _ (t : Tables) (s : ℕ) (kept : IsKept t s) where
  abbrev pub seen : Seen
  seen = seen_at s t

  at_kept : (Bad : Seen → Key → Type 0) → Holds (AtKept Bad t) → (k : Key) → Bad seen k → ⊥
  at_kept Bad fine k bad =
      fine k (SomeOf_like (λ q. q.snapshot_id ≡ s) (λ q. Bad (seen_at q.snapshot_id t) k) (λ q e. subst (λ n. Bad (seen_at n t) k) (sym e) bad) t.snapshot kept)

  column_fine : Holds (AreColumnsBad t) → (c : ColumnRow) → IsIn c seen.column → SeesTable seen c.table_id → IsColumnWrong t c → ⊥
  column_fine fine c h sees wrong =
      none_bad of_column (λ x. SeesTable seen x.table_id × IsColumnWrong t x) seen.column
      (λ k n. at_kept (λ x j. IsColumnless x j ⊎ (IsCrowdedColumn x j ⊎ IsColumnBad t x j)) fine k (inr (inr n)))
      c h (sees, wrong)

  column_spelled : (c : ColumnRow) → (IsColumnWrong t c → ⊥) → (st : TableStatsRow) → stats_of_table t c.table_id ≡ Some st → st.next_field_id < 2 ^ 32 → SpellsColumn c
  column_spelled c fine st there small none = go (type_of c.column_type) refl
    where
      field_small : ((st.next_field_id ≤ c.column_id) → ⊥) → c.column_id < 2 ^ 32
      field_small low = ⊎_elim (λ (h : c.column_id < 2 ^ 32). h) (λ (h : 2 ^ 32 ≤ c.column_id). absurd (low (omega (arith, small)))) (cases_lt c.column_id (2 ^ 32))

      field : c.column_id < 2 ^ 32
      field = field_small (λ le. fine (inr (inr (inr (inr (inr (subst (λ o. HasRow o (λ x. x.next_field_id ≤ c.column_id)) (sym there) le)))))))

      build : (ty : ColType) → type_of c.column_type ≡ Some ty → IsDefault c.column_type c.initial_default → IsDefault c.column_type c.default_value → ⊥
      build ty is initial default =
          let a = value_in c.column_type ty is c.initial_default initial in
          let b = value_in c.column_type ty is c.default_value default in
          none (record { field = c.column_id; name = c.column_name; ty = ty; initial = a.0; default_value = b.0; nulls = c.nulls_allowed })
          (record { field = refl; name = refl; ty = has_type_text ty c.column_type is; initial = a.1; default_value = b.1; nulls = refl })
          field

      go : (o : Option ColType) → type_of c.column_type ≡ o → ⊥
      go None is = fine (inr (inl is))
      go (Some ty) is = fine (inr (inr (inl (inl (λ initial. fine (inr (inr (inl (inr (λ default. build ty is initial default))))))))))

  -- ---- inlined rows

  heavy : (v : Value) → 1 ≤ weight v
  heavy value.Null = omega arith
  heavy (value.Bool b) = omega arith
  heavy (value.Int n) = omega arith
  heavy (value.Text x) = omega arith
  heavy (value.Bytes x) = omega arith
  heavy (value.Date d) = omega arith

  few : (cells : Cells) → length cells ≤ sum_by cell_weight cells
  few [] = omega arith
  few (c ∷ cells) = let a = few cells in let b = heavy c.1 in omega (arith, sum_by-cons cell_weight c cells)

  inlined_spelled : Holds (AreInlinedBad t) → (q : InlinedRow) → IsIn q seen.inlined_row → SeesTable seen q.table_id → SpellsCells q
  inlined_spelled fine q h sees none =
      none_bad of_inlined (λ x. SeesTable seen x.table_id × (HasUnreadableCells t x ⊎ (HasWrongRowId t x ⊎ HasMisfit seen x))) seen.inlined_row
      (λ k n. at_kept (λ x j. IsInlinedBad t x j ⊎ IsPastThousand x j) fine k (inl n))
      q h (sees, inl (λ (cells, spells, (allowed, light)). none cells (let a = few cells in omega (arith, light)) spells))

  -- ---- statistics

  pub record HasStats (id : ℕ) : Type 0 where
    pub stats : TableStatsRow
    pub there : stats_row t id ≡ Some stats
    pub field : stats.next_field_id < 2 ^ 32

  stats_there : Holds (IsStatsBad t) → (r : TableRow) → IsIn r t.table → HasStats r.table_id
  stats_there fine r h = go (stats_row t r.table_id) refl
    where
      missing : not (holds t (stats_of r)) ≡ true → ⊥
      missing bad = none_bad stats_of (λ x. not (holds t (stats_of x)) ≡ true) t.table (λ k n. fine k (inl n)) r h bad

      table_there : holds t (key.Table r.table_id) ≡ true
      table_there = has_row (row_of table_key (r.table_id ∷ []) t.table) (found_by table_key t.table r h)

      large : (st : TableStatsRow) → stats_row t r.table_id ≡ Some st → nat_lt last_field st.next_field_id ≡ true → ⊥
      large st is past =
          none_bad of_table_stats (λ x. are_stats_large t x ≡ true) t.table_stats (λ k n. fine k (inr n)) st (found_in table_stats_key (r.table_id ∷ []) t.table_stats st is)
          (and_from (holds t (key.Table st.table_id)) (has_large_counter st)
          (subst (λ k. is_some (row_of table_key k t.table) ≡ true) (sym (key-row_of table_stats_key (r.table_id ∷ []) t.table_stats st is)) table_there)
          (or_right (nat_lt last_id st.record_count) (nat_lt last_id st.next_row_id || (nat_lt last_field st.next_field_id || nat_lt last_id st.file_size_bytes))
          (or_right (nat_lt last_id st.next_row_id) (nat_lt last_field st.next_field_id || nat_lt last_id st.file_size_bytes)
          (or_left (nat_lt last_field st.next_field_id) (nat_lt last_id st.file_size_bytes) past))))

      small : (st : TableStatsRow) → stats_row t r.table_id ≡ Some st → st.next_field_id < 2 ^ 32
      small st is = ⊎_elim (λ (past : last_field < st.next_field_id). absurd (large st is (lt-ltb last_field st.next_field_id past))) (λ (le : st.next_field_id ≤ last_field). omega (arith, le)) (cases_lt last_field st.next_field_id)

      go : (o : Option TableStatsRow) → stats_row t r.table_id ≡ o → HasStats r.table_id
      go None is = absurd (missing (ap (λ (o : Option TableStatsRow). not (is_some o)) is))
      go (Some st) is = record { stats = st; there = is; field = small st is }

  -- ---- tables

  pub can_be_viewed : Holds (AreColumnsBad t) → Holds (AreInlinedBad t) → Holds (IsStatsBad t) → AllByRecursion (CanBeViewed t s) seen.table
  can_be_viewed columns inlined stats = all_in (CanBeViewed t s) seen.table (λ r h. view r h (all_at (λ (q : TableRow). HasStats q.table_id) seen.table r counted h))
    where
      counted : AllByRecursion (λ (q : TableRow). HasStats q.table_id) seen.table
      counted = all-seen table_validity (λ (q : TableRow). HasStats q.table_id) s t.table (λ q x. x) (all_in (λ (q : TableRow). HasStats q.table_id) t.table (stats_there stats))

      view : (r : TableRow) → IsIn r seen.table → HasStats r.table_id → CanBeViewed t s r
      view r h st = record {
        columns =
            all_chosen SpellsColumn (λ (c : ColumnRow). c.table_id == r.table_id) seen.column
            (λ c there is. column_spelled c (column_fine columns c there (sees c.table_id is)) st.stats (own c.table_id is) st.field);
        inlined = all_chosen SpellsCells (λ (q : InlinedRow). q.table_id == r.table_id) seen.inlined_row (λ q there is. inlined_spelled inlined q there (sees q.table_id is));
        stats = st.stats;
        there = st.there;
        field = st.field;
      }
        where
          sees : (id : ℕ) → (id == r.table_id) ≡ true → SeesTable seen id
          sees id is = subst (λ n. SeesTable seen n) (sym (eqb-true id r.table_id is)) (found_by table_key seen.table r h)

          own : (id : ℕ) → (id == r.table_id) ≡ true → stats_of_table t id ≡ Some st.stats
          own id is = ap (stats_row t) (eqb-true id r.table_id is) ∙ st.there
