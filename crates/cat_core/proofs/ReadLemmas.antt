-- Which rows a snapshot sees, and what is asked of each.
use Rattle.std.proofs.Common.{◌≡◌, ◌==◌, eq-eqb, ℕ, Bool, true, false, cond, List, [], ◌∷◌, filter, Option, Some, None, Result, Ok, Err, refl, sym, ap, subst, ◌∙◌, arith}
use Rattle.std.specs.Prelude.{◌↔◌, ◌<◌, ◌^◌, IfOk, IsTrue, nat_le}
use Rattle.std.specs.List.{AllByRecursion}
use Rattle.std.proofs.lemmas.Bool.{eqb-true, le-leb, leb-true}
use Rattle.std.proofs.lemmas.Option.{same_Some}
use Rattle.cat_tables.specs.Table.{RisesByKey, has_key, row_of}
use Rattle.cat_tables.specs.Validity.{is_visible}
use Rattle.cat_tables.proofs.RowLemmas.{key-row_of}
use Rattle.cat_tables.proofs.SightLemmas.{same_key}
use Rattle.cat_rows.specs.Keys.{table_key}
use Rattle.cat_rows.specs.Seen.{Seen, seen_at}
use Rattle.cat_rows.specs.Tables.{Tables}
use Rattle.cat_rows.specs.Validities.{table_laws, table_validity}
use Rattle.cat_rows.specs.declared.files.TableStatsRow.{TableStatsRow}
use Rattle.cat_rows.specs.declared.inlined.InlinedRow.{InlinedRow}
use Rattle.cat_rows.specs.declared.schemas.ColumnRow.{ColumnRow}
use Rattle.cat_rows.specs.declared.schemas.TableRow.{TableRow}
use Rattle.cat_rules.specs.EachKept.{SeesTable}
use Rattle.cat_rules.specs.Lookups.{HasRow}
use Rattle.cat_rules.proofs.DatedLemmas.{row_of_all}
use Rattle.cat_rules.proofs.FirstLemmas.{SomeOf_like}
use Rattle.cat_rules.proofs.SeenLemmas.{row_of-visible, seen_row}
use Rattle.cat_view.specs.Building.{HasCountersOf}
use Rattle.cat_view.specs.Columns.{SpellsColumn}
use Rattle.cat_view.specs.Inlined.{SpellsCells}
use Rattle.cat_view.specs.Reading.{CanBeSeen, CanBeViewed}
use Rattle.cat_view.specs.Sight.{stats_row}
use Rattle.cat_view.specs.declared.held.HeldFile.{HeldFile}
use Rattle.cat_stands.proofs.SeeLemmas.{IsIn, all_in}
use Rattle.commit_rules.proofs.NextLemmas.{some_row}
use Rattle.commit_rules.proofs.TableLemmas.{all_in as all_at}
use Rattle.cat_core.specs.Readable.{IsColumnRead, IsCounted, IsDataHeld, IsDeleteHeld, IsInlinedRead}

-- ---- a table that is seen

module _ (t : Tables) (s id : ℕ) (up : RisesByKey table_key t.table) where
  sees : (r : Option TableRow) → row_of table_key (id ∷ []) t.table ≡ r → row_of table_key (id ∷ []) (seen_at s t).table ≡ seen_row table_validity table_key table_laws s r
  sees r is = row_of-visible table_validity table_key table_laws (id ∷ []) s t.table up ∙ ap (seen_row table_validity table_key table_laws s) is

  pub sees_row : (r : TableRow) → row_of table_key (id ∷ []) t.table ≡ Some r → IsTrue (is_visible table_validity s r) ↔ SeesTable (seen_at s t) id
  sees_row r is = go (is_visible table_validity s r) (sees (Some r) is)
    where
      go : (b : Bool) → row_of table_key (id ∷ []) (seen_at s t).table ≡ cond b (Some (table_validity.with_end None r)) None → IsTrue b ↔ SeesTable (seen_at s t) id
      go true e = ((λ h. subst (λ o. HasRow o (λ (x : TableRow). Unit {0})) (sym e) tt), (λ h. refl))
      go false e = ((λ (h : false ≡ true). absurd (cc h)), (λ h. absurd (subst (λ o. HasRow o (λ (x : TableRow). Unit {0})) e h)))

  pub sees_none : row_of table_key (id ∷ []) t.table ≡ None → IsTrue false ↔ SeesTable (seen_at s t) id
  sees_none is = ((λ (h : false ≡ true). absurd (cc h)), (λ h. absurd (subst (λ o. HasRow o (λ (x : TableRow). Unit {0})) (sees None is) h)))

-- ---- a condition that isn't met, or is

pub where_both : {E A B : Type 0} (C : Type 0) (r : Result Bool E) → A → B → IfOk r (λ b. IsTrue b ↔ C) → IfOk r (λ b. IsTrue b ↔ (A → B → C))
where_both C (Ok b) x y h = ((λ is a c. h.0 is), (λ f. h.1 (f x y)))
where_both C (Err e) x y h = tt

pub where_counted : {V : Type 0} (t : Tables) (id last : ℕ) (st : TableStatsRow) → last ≡ 4294967295 → stats_row t id ≡ Some st → V → IsTrue (nat_le st.next_field_id last) ↔ (V → HasCountersOf t id)
where_counted {V} t id last st most there seen = (
  (λ h v. record { stats = st; there = there; field = (let le = leb-true st.next_field_id last h in omega (arith, le, most)) }),
  λ f. other (f seen),
)
  where
    other : HasCountersOf t id → IsTrue (nat_le st.next_field_id last)
    other h = let e : h.stats ≡ st = same_Some h.stats st (sym h.there ∙ there) in
        let small : st.next_field_id < 2 ^ 32 = subst (λ (r : TableStatsRow). r.next_field_id < 2 ^ 32) e h.field in
        le-leb st.next_field_id last (omega (arith, small, most))

-- ---- things of those that are seen

module _ {X : Type 0} (id : X → ℕ) (S : ℕ → Type 0) (P : X → Type 0) where
  abbrev AllOf : ℕ → List X → Type 0
  AllOf n xs = AllByRecursion P (filter (λ x. id x == n) xs)

  own_first : (x : X) (xs : List X) → AllOf (id x) (x ∷ xs) → P x
  own_first x xs h = go (id x == id x) (eq-eqb (id x) (id x) refl) h
    where
      go : (b : Bool) → b ≡ true → AllByRecursion P (cond b (x ∷ filter (λ y. id y == id x) xs) (filter (λ y. id y == id x) xs)) → P x
      go true e h = h.0
      go false e h = absurd (cc e)

  own_rest : (n : ℕ) (x : X) (xs : List X) → AllOf n (x ∷ xs) → AllOf n xs
  own_rest n x xs h = go (id x == n) h
    where
      go : (b : Bool) → AllByRecursion P (cond b (x ∷ filter (λ y. id y == n) xs) (filter (λ y. id y == n) xs)) → AllOf n xs
      go true h = h.1
      go false h = h

  all_own : (n : ℕ) → S n → (xs : List X) → AllByRecursion (λ x. S (id x) → P x) xs → AllOf n xs
  all_own n sees [] h = tt
  all_own n sees (x ∷ xs) h = go (id x == n) refl (all_own n sees xs h.1)
    where
      go : (b : Bool) → (id x == n) ≡ b → AllOf n xs → AllByRecursion P (cond b (x ∷ filter (λ y. id y == n) xs) (filter (λ y. id y == n) xs))
      go true is more = (h.0 (subst S (sym (eqb-true (id x) n is)) sees), more)
      go false is more = more

  all_if_own : (xs : List X) → ((n : ℕ) → S n → AllOf n xs) → AllByRecursion (λ x. S (id x) → P x) xs
  all_if_own [] f = tt
  all_if_own (x ∷ xs) f = ((λ sees. own_first x xs (f (id x) sees)), all_if_own xs (λ n sees. own_rest n x xs (f n sees)))

-- ---- the whole

module _ {F : Type 0} (name : F → List ℕ) (held : List (HeldFile F)) (t : Tables) (s : ℕ) where
  abbrev seen : Seen
  seen = seen_at s t

  there : (r : TableRow) → IsIn r seen.table → SeesTable seen r.table_id
  there r h = some_row table_key (table_key r) seen.table (SomeOf_like (λ y. y ≡ r) (λ y. has_key table_key (table_key r) y ≡ true) (λ y e. subst (λ x. has_key table_key (table_key x) y ≡ true) e (same_key table_key y)) seen.table h)

  pub can_be : AllByRecursion (IsDataHeld name held) seen.data_file → AllByRecursion (IsDeleteHeld name held) seen.delete_file → AllByRecursion (IsCounted t) seen.table
      → AllByRecursion (IsColumnRead seen) seen.column → AllByRecursion (IsInlinedRead seen) seen.inlined_row → CanBeSeen name held t s
  can_be files deletes counted columns inlined = record { tables = all_in (CanBeViewed t s) seen.table view; data_files = files; delete_files = deletes }
    where
      view : (r : TableRow) → IsIn r seen.table → CanBeViewed t s r
      view r h = let st = all_at (IsCounted t) r seen.table counted h in record {
        columns = all_own (λ (c : ColumnRow). c.table_id) (SeesTable seen) SpellsColumn r.table_id (there r h) seen.column columns;
        inlined = all_own (λ (q : InlinedRow). q.table_id) (SeesTable seen) SpellsCells r.table_id (there r h) seen.inlined_row inlined;
        stats = st.stats;
        there = st.there;
        field = st.field;
      }

  -- what is seen of a table is spelled
  view_of : CanBeSeen name held t s → (P : ℕ → Type 0) → ((r : TableRow) → CanBeViewed t s r → P r.table_id) → (n : ℕ) → SeesTable seen n → P n
  view_of can P of n sees = go (row_of table_key (n ∷ []) seen.table) refl sees
    where
      go : (o : Option TableRow) → row_of table_key (n ∷ []) seen.table ≡ o → HasRow o (λ (x : TableRow). Unit {0}) → P n
      go None is h = absurd h
      go (Some r) is h =
          let same : r.table_id ≡ n = cc (key-row_of table_key (n ∷ []) seen.table r is) in
          subst P same (of r (row_of_all table_key (n ∷ []) (CanBeViewed t s) seen.table can.tables r is))

  pub columns_in : CanBeSeen name held t s → AllByRecursion (IsColumnRead seen) seen.column
  columns_in can =
      all_if_own (λ (c : ColumnRow). c.table_id) (SeesTable seen) SpellsColumn seen.column
      (view_of can (λ n. AllByRecursion SpellsColumn (filter (λ (c : ColumnRow). c.table_id == n) seen.column)) (λ r h. h.columns))

  pub inlined_in : CanBeSeen name held t s → AllByRecursion (IsInlinedRead seen) seen.inlined_row
  inlined_in can =
      all_if_own (λ (q : InlinedRow). q.table_id) (SeesTable seen) SpellsCells seen.inlined_row
      (view_of can (λ n. AllByRecursion SpellsCells (filter (λ (q : InlinedRow). q.table_id == n) seen.inlined_row)) (λ r h. h.inlined))
