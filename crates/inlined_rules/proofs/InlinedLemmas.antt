-- Of rows that lie within the kept snapshots the intervals tell which are seen with their table, and with a column.
use Rattle.std.proofs.Common.{◌≡◌, ◌⊎◌, inl, inr, ⊎_elim, ℕ, ◌≤◌, ◌&&◌, ◌||◌, Bool, true, false, cond, List, [], ◌∷◌, Option, Some, None, filter, map, not, refl, sym, ap, ap₂, subst, ◌∙◌, true≢false, is_eq, arith, Decides, rules}
use Rattle.cat_rules.specs.Sight.{SeesWith}
use Rattle.inline_rows.specs.Laws.{Spells}
use Rattle.cat_rules.proofs.SeenLemmas.{from_some}
use Rattle.cat_tables.proofs.IntervalLemmas.{is_before-down, is_before-max, before_both, both_before}
use Rattle.std.specs.List.{AllByRecursion, list_any}
use Rattle.std.specs.Prelude.{max, nat_le}
use Rattle.std.proofs.lemmas.Bool.{le-leb, and_parts}
use Rattle.std.proofs.lemmas.Bool.Decides.{Decides-and, nat_tests}
use Rattle.std.proofs.lemmas.Cmp.{nat_list_cmp_total, tied_itself}
use denote.Enum.Bare.{sameb, same_true}
use Rattle.cat_tables.specs.Table.{RisesByKey, has_key, key_cmp}
use Rattle.cat_tables.proofs.KeyLemmas.{key_eq}
use Rattle.cat_tables.specs.Validity.{is_before, is_visible}
use Rattle.cat_rows.specs.Keys.{column_key, snapshot_key}
use Rattle.cat_rows.specs.Tables.{Tables}
use Rattle.cat_rows.specs.Validities.{column_validity, inlined_row_validity, table_validity}
use Rattle.cat_rows.specs.declared.batch.Key.{Key}
use Rattle.cat_rows.specs.declared.inlined.InlinedRow.{InlinedRow}
use Rattle.cat_rows.specs.declared.schemas.ColumnRow.{ColumnRow}
use Rattle.cat_rows.specs.declared.schemas.TableRow.{TableRow}
use Rattle.lake_types.specs.Fits.{fits}
use Rattle.lake_types.specs.contracts.value.ColType.{the_type}
use Rattle.lake_types.specs.declared.value.ColType.{ColType}
use Rattle.lake_types.specs.declared.value.ColType.TheVariants as ty
use Rattle.lake_types.specs.declared.value.Value.{Value}
use Rattle.cat_rules.specs.First.{FirstBad, Holds}
use Rattle.cat_rules.specs.HistoryRule.{IsMissing, IsSnapshotBad}
use Rattle.cat_rules.specs.IntervalRule.{IsIntervalBad}
use Rattle.cat_rules.specs.Kept.{kept_of, AtSome}
use Rattle.cat_rules.specs.Lookups.{HasRow, column_of, table_of}
use Rattle.cat_rules.specs.Places.{of_inlined}
use Rattle.cat_texts.specs.Types.{type_of, types}
use Rattle.cat_rules.specs.Rows.{Names, SomeOf}
use Rattle.cat_rules.proofs.DatedLemmas.{dated_columns, dated_inlined, none_missing}
use Rattle.cat_rules.proofs.FirstLemmas.{SomeOf_like, all_like, first_like, some_in}
use Rattle.cat_rules.proofs.SightLemmas.{IsDated, at_kept, clip, clip_kept, clip_sees, from_kept}
use Rattle.cat_rules.specs.Meeting.{meets_table}
use Rattle.cat_rules.specs.InlinedRule.{HasUnreadableCells, HasWrongRowId, refused_by, refuses}
use Rattle.inlined_rules.specs.Misfits.{IsInlinedWrong, is_misfit, is_misfit_of, stay_in}
use Rattle.cat_tables.specs.Interval.{sooner_end}
use Rattle.inlined_rules.specs.Stays.{stay_of}
use Rattle.inlined_rules.specs.TermIndex.{index_of, typed_terms}
use Rattle.inlined_rules.specs.Terms.{are_met, is_of_column, is_of_type, is_type, term_of}
use Rattle.cat_tables.specs.declared.interval.Interval.{Interval}
use Rattle.inlined_rules.specs.declared.term_index.TypedTerms.{TypedTerms}
use Rattle.inlined_rules.specs.declared.terms.Term.{Term}
use Rattle.inlined_rules.proofs.ClearLemmas.{ascends-filter, begins_before, terms_clear}
use Rattle.cat_rules.proofs.MeetLemmas.{found_table, seen_decides}
use Rattle.inlined_rules.proofs.TermLemmas.{Precedes, are_met_is, meets, of_from, of_parts}

-- ---- by whole tables

abbrev pub SeesInlined : Tables → InlinedRow → ℕ → Type 0
SeesInlined t r = SeesWith inlined_row_validity (table_of t r.table_id) r

-- the column is that of the cell, a kept snapshot sees it with the row and the row's table, and it refuses the value
abbrev pub MisfitWith : Tables → InlinedRow → ℕ × Value → ColumnRow → Type 0
MisfitWith t r cell c =
    (has_key column_of (r.table_id ∷ cell.0 ∷ []) c ≡ true)
    × (AtSome t (λ s. SeesInlined t r s × (is_visible column_validity s c ≡ true)) × (refuses cell.1 c ≡ true))

abbrev pub HasMisfitWith : Tables → InlinedRow → Type 0
HasMisfitWith t r = (cells : List (ℕ × Value)) × Spells r.cells cells × SomeOf (λ cell. SomeOf (MisfitWith t r cell) t.column) cells

abbrev pub IsBadWith : Tables → InlinedRow → Type 0
IsBadWith t r = AtSome t (SeesInlined t r) × (HasUnreadableCells t r ⊎ (HasWrongRowId t r ⊎ HasMisfitWith t r))

-- ---- one of a list

or_decides : {P Q : Type 0} (a b : Bool) → Decides a P → Decides b Q → Decides (a || b) (P ⊎ Q)
or_decides true b d e = (λ h. inl (d.0 refl), λ h. refl)
or_decides false b d e = (λ h. inr (e.0 h), λ h. ⊎_elim (λ p. absurd (true≢false (sym (d.1 p)))) (λ q. e.1 q) h)

any_decides : {X : Type 0} (p : X → Bool) (P : X → Type 0) (xs : List X) → AllByRecursion (λ x. Decides (p x) (P x)) xs → Decides (list_any p xs) (SomeOf P xs)
any_decides p P [] all = (λ e. absurd (true≢false (sym e)), λ h. absurd h)
any_decides p P (x ∷ xs) all = or_decides (p x) (list_any p xs) all.0 (any_decides p P xs all.1)

any_mapped : {X Y : Type 0} (g : X → Y) (p : Y → Bool) (P : X → Type 0) (xs : List X) → AllByRecursion (λ x. Decides (p (g x)) (P x)) xs → Decides (list_any p (map g xs)) (SomeOf P xs)
any_mapped g p P [] all = (λ e. absurd (true≢false (sym e)), λ h. absurd h)
any_mapped g p P (x ∷ xs) all = or_decides (p (g x)) (list_any p (map g xs)) all.0 (any_mapped g p P xs all.1)

any_filtered : {X Y : Type 0} (g : X → Y) (f p : Y → Bool) (P : X → Type 0) (xs : List X) → AllByRecursion (λ x. Decides (p (g x)) (P x)) xs
    → Decides (list_any p (filter f (map g xs))) (SomeOf (λ x. (f (g x) ≡ true) × P x) xs)
any_filtered g f p P [] all = (λ e. absurd (true≢false (sym e)), λ h. absurd h)
any_filtered g f p P (x ∷ xs) all = go (f (g x)) refl (any_filtered g f p P xs all.1)
  where
    go : (b : Bool) → f (g x) ≡ b → Decides (list_any p (filter f (map g xs))) (SomeOf (λ x. (f (g x) ≡ true) × P x) xs)
        → Decides (list_any p (cond b (g x ∷ filter f (map g xs)) (filter f (map g xs)))) (((f (g x) ≡ true) × P x) ⊎ SomeOf (λ x. (f (g x) ≡ true) × P x) xs)
    go true e rest = or_decides (p (g x)) (list_any p (filter f (map g xs))) (λ h. (e, all.0.0 h), λ h. all.0.1 h.1) rest
    go false e rest = (λ h. inr (rest.0 h), λ h. ⊎_elim (λ q. absurd (true≢false (sym q.0 ∙ e))) (λ q. rest.1 q) h)

-- ---- numbers before an end

-- ---- types that a value doesn't fit

same_type : (t own : ColType) → sameb the_type own t ≡ true → own ≡ t
same_type t own e = same_true the_type (search rules) own t e

type_itself : (t : ColType) → is_type t (Some t) ≡ true
type_itself ty.Bool = refl
type_itself ty.Int8 = refl
type_itself ty.Int16 = refl
type_itself ty.Int32 = refl
type_itself ty.Int64 = refl
type_itself ty.Varchar = refl
type_itself ty.Blob = refl
type_itself ty.Date = refl

is_among : (t : ColType) → SomeOf (λ x. x ≡ t) types
is_among ty.Bool = inl refl
is_among ty.Int8 = inr (inl refl)
is_among ty.Int16 = inr (inr (inl refl))
is_among ty.Int32 = inr (inr (inr (inl refl)))
is_among ty.Int64 = inr (inr (inr (inr (inl refl))))
is_among ty.Varchar = inr (inr (inr (inr (inr (inl refl)))))
is_among ty.Blob = inr (inr (inr (inr (inr (inr (inl refl))))))
is_among ty.Date = inr (inr (inr (inr (inr (inr (inr (inl refl)))))))

refused_from : (v : Value) (t : ColType) (o : Option ColType) → is_type t o ≡ true → not (fits v t) ≡ true → refused_by v o ≡ true
refused_from v t None e n = absurd (true≢false (sym e))
refused_from v t (Some own) e n = ap (λ x. not (fits v x)) (same_type t own e) ∙ n

refused_is : (v : Value) (o : Option ColType) → refused_by v o ≡ true → (t : ColType) × (not (fits v t) ≡ true) × (is_type t o ≡ true)
refused_is v None e = absurd (true≢false (sym e))
refused_is v (Some own) e = (own, e, type_itself own)

-- of rows of which one refuses the value, one is of a type that the value doesn't fit
by_type : (v : Value) (A : ColumnRow → Type 0) (rows : List ColumnRow) → SomeOf (λ c. A c × (refuses v c ≡ true)) rows
    → (t : ColType) × (not (fits v t) ≡ true) × SomeOf (λ c. (is_of_type t (term_of c) ≡ true) × A c) rows
by_type v A [] h = absurd h
by_type v A (c ∷ cs) h =
    ⊎_elim
    (λ p. let t = refused_is v (type_of c.column_type) p.1 in (t.0, t.1, inl (t.2, p.0)))
    (λ p. let rest = by_type v A cs p in (rest.0, rest.1, inr rest.2))
    h

all_cells : {X : Type 0} (P : X → Type 0) → ((x : X) → P x) → (xs : List X) → AllByRecursion P xs
all_cells P f [] = tt
all_cells P f (x ∷ xs) = (f x, all_cells P f xs)

module _ (t : Tables) (up : RisesByKey snapshot_key t.snapshot) (history : Holds (IsSnapshotBad t)) (intervals : Holds (IsIntervalBad t)) where
  -- ---- three rows together

  abbrev SeesAll : InlinedRow → TableRow → ColumnRow → ℕ → Type 0
  SeesAll r q c s = ((is_visible inlined_row_validity s r ≡ true) × (is_visible table_validity s q ≡ true)) × (is_visible column_validity s c ≡ true)

  module _ (r : InlinedRow) (q : TableRow) where
    abbrev begin : ℕ
    begin = max r.begin_snapshot q.begin_snapshot

    abbrev end : Option ℕ
    end = sooner_end r.end_snapshot q.end_snapshot

    at_end : (s : ℕ) → is_visible inlined_row_validity s r ≡ true → is_visible table_validity s q ≡ true → (begin ≤ s) × (is_before s end ≡ true)
    at_end s first second =
        let one = and_parts (nat_le r.begin_snapshot s) (is_before s r.end_snapshot) first in
        let two = and_parts (nat_le q.begin_snapshot s) (is_before s q.end_snapshot) second in
        (grind (arith, nat_tests, one.0, two.0), both_before s r.end_snapshot q.end_snapshot one.1 two.1)

    all_decide : (c : ColumnRow) → IsDated t inlined_row_validity r → IsDated t table_validity q → IsDated t column_validity c → is_before begin end ≡ true
        → Decides (meets (record { begin = begin; end = end }) (term_of c)) (AtSome t (SeesAll r q c))
    all_decide c dr dq dc before = (found, told)
      where
        there : ℕ
        there = max begin c.begin_snapshot

        whole : Holds (IsMissing t.snapshot)
        whole = none_missing t history

        found : meets (record { begin = begin; end = end }) (term_of c) ≡ true → AtSome t (SeesAll r q c)
        found e =
            let both = and_parts (is_before c.begin_snapshot end) (is_before begin c.end_snapshot) e in
            let last = is_before-max begin c.begin_snapshot end before both.0 in
            let first : is_visible inlined_row_validity there r ≡ true = let low : nat_le r.begin_snapshot there ≡ true = le-leb r.begin_snapshot there (omega arith) in rw low (before_both there r.end_snapshot q.end_snapshot last).0 in
            let second : is_visible table_validity there q ≡ true = let low : nat_le q.begin_snapshot there ≡ true = le-leb q.begin_snapshot there (omega arith) in rw low (before_both there r.end_snapshot q.end_snapshot last).1 in
            let third : is_visible column_validity there c ≡ true =
            let low : nat_le c.begin_snapshot there ≡ true = le-leb c.begin_snapshot there (omega arith) in
            rw low (is_before-max begin c.begin_snapshot c.end_snapshot both.1 (begins_before (kept_of t.snapshot) c dc)) in
            at_kept t (SeesAll r q c) (clip t up whole there) (clip_kept t up whole there)
            ((clip_sees t up whole inlined_row_validity r dr there first, clip_sees t up whole table_validity q dq there second), clip_sees t up whole column_validity c dc there third)

        told : AtSome t (SeesAll r q c) → meets (record { begin = begin; end = end }) (term_of c) ≡ true
        told seen =
            let some = from_kept t (SeesAll r q c) seen in
            let s = some.0 in
            let there = at_end s some.2.0.0 some.2.0.1 in
            let three = and_parts (nat_le c.begin_snapshot s) (is_before s c.end_snapshot) some.2.1 in
            let le : c.begin_snapshot ≤ s = grind (arith, nat_tests, three.0) in
            let first = is_before-down c.begin_snapshot s end le there.1 in
            rw first (is_before-down begin s c.end_snapshot there.0 three.1)

  -- a kept snapshot sees the row, its table and the column
  abbrev SeenWith : InlinedRow → ColumnRow → Type 0
  SeenWith r c = AtSome t (λ s. SeesInlined t r s × (is_visible column_validity s c ≡ true))

  abbrev SeenBy : InlinedRow → ColumnRow → Option TableRow → Type 0
  SeenBy r c o = AtSome t (λ s. ((is_visible inlined_row_validity s r ≡ true) × HasRow o (λ q. is_visible table_validity s q ≡ true)) × (is_visible column_validity s c ≡ true))

  with_column : (r : InlinedRow) (c : ColumnRow) → IsDated t inlined_row_validity r → IsDated t column_validity c → (stay : Interval) → stay_in t r ≡ Some stay
      → Decides (meets stay (term_of c)) (SeenWith r c)
  with_column r c dr dc stay = go (table_of t r.table_id) refl
    where
      opened : (q : TableRow) → table_of t r.table_id ≡ Some q → (b : Bool) → is_before (begin r q) (end r q) ≡ b
          → cond {A = Option Interval} b (Some (record { begin = begin r q; end = end r q })) None ≡ Some stay → Decides (meets stay (term_of c)) (SeenBy r c (Some q))
      opened q e false before is = absurd cc
      opened q e true before is =
          let same : record { begin = begin r q; end = end r q } ≡ stay = cc in
          let T : Interval → Type 0 = λ x. Decides (meets x (term_of c)) (SeenBy r c (Some q)) in
          subst T same (all_decide r q c dr (found_table t up history intervals r.table_id q e) dc before)

      go : (o : Option TableRow) → table_of t r.table_id ≡ o → stay_of r o ≡ Some stay → Decides (meets stay (term_of c)) (SeenBy r c o)
      go None e is = absurd cc
      go (Some q) e is = opened q e (is_before (begin r q) (end r q)) refl is

  never : (r : InlinedRow) (c : ColumnRow) → stay_in t r ≡ None → SeenWith r c → ⊥
  never r c = go (table_of t r.table_id)
    where
      go : (o : Option TableRow) → stay_of r o ≡ None → SeenBy r c o → ⊥
      go None is seen = (from_kept t (λ s. ((is_visible inlined_row_validity s r ≡ true) × ⊥) × (is_visible column_validity s c ≡ true)) seen).2.0.1
      go (Some q) is seen =
          let some = from_kept t (SeesAll r q c) seen in
          let there = at_end r q some.0 some.2.0.0 some.2.0.1 in
          let before = is_before-down (begin r q) some.0 (end r q) there.0 there.1 in
          shut (is_before (begin r q) (end r q)) before is
        where
          shut : (b : Bool) → b ≡ true → cond {A = Option Interval} b (Some (record { begin = begin r q; end = end r q })) None ≡ None → ⊥
          shut true e h = absurd cc
          shut false e h = true≢false (sym e)

  -- ---- misfits

  module _ (up_columns : RisesByKey column_key t.column) where
    abbrev terms : List Term
    terms = map term_of t.column

    of_column_is : (table column : ℕ) (c : ColumnRow) → Decides (is_of_column table column (term_of c)) (has_key column_of (table ∷ column ∷ []) c ≡ true)
    of_column_is table column c = (
      λ h.
          let of = of_parts table column (term_of c) h in
          let same : column_of c ≡ table ∷ column ∷ [] = ap₂ (λ x y. x ∷ y ∷ []) of.0 of.1 in
          ap (λ k. is_eq (key_cmp k (table ∷ column ∷ []))) same ∙ ap is_eq (tied_itself nat_list_cmp_total (table ∷ column ∷ [])),
      λ h.
          let same : column_of c ≡ table ∷ column ∷ [] = key_eq (column_of c) (table ∷ column ∷ []) h in
          let first : c.table_id ≡ table = cc in
          let second : c.column_id ≡ column = cc in
          of_from table column (term_of c) first second,
    )

    -- a column of a type is seen with the stay
    type_decides : (r : InlinedRow) → IsDated t inlined_row_validity r → (stay : Interval) → stay_in t r ≡ Some stay → (column : ℕ) (type : ColType)
        → Decides (are_met r.table_id column stay (filter (is_of_type type) terms))
        (SomeOf (λ c. (is_of_type type (term_of c) ≡ true) × ((has_key column_of (r.table_id ∷ column ∷ []) c ≡ true) × SeenWith r c)) t.column)
    type_decides r dr stay is column type =
        let met = are_met_is r.table_id column stay (filter (is_of_type type) terms) (ascends-filter Precedes (is_of_type type) terms (terms_clear t intervals up_columns)) in
        let some =
        any_filtered term_of (is_of_type type) (λ x. is_of_column r.table_id column x && meets stay x) (λ c. (has_key column_of (r.table_id ∷ column ∷ []) c ≡ true) × SeenWith r c) t.column
        (all_like (IsDated t column_validity) _
        (λ c dc. Decides-and (is_of_column r.table_id column (term_of c)) (meets stay (term_of c)) (of_column_is r.table_id column c) (with_column r c dr dc stay is))
        t.column (dated_columns t intervals)) in
        (λ h. some.0 (sym met ∙ h), λ h. met ∙ some.1 h)

    module _ (r : InlinedRow) (cell : ℕ × Value) where
      -- the column is that of the cell, and is seen with the row
      abbrev IsOf : ColumnRow → Type 0
      IsOf c = (has_key column_of (r.table_id ∷ cell.0 ∷ []) c ≡ true) × SeenWith r c

      -- the value doesn't fit the type, and such a column is of it
      abbrev IsRefusing : ColType → Type 0
      IsRefusing type = (not (fits cell.1 type) ≡ true) × SomeOf (λ c. (is_of_type type (term_of c) ≡ true) × IsOf c) t.column

      from_types : SomeOf IsRefusing types → SomeOf (MisfitWith t r cell) t.column
      from_types =
          from_some IsRefusing (SomeOf (MisfitWith t r cell) t.column)
          (λ type h. SomeOf_like _ (MisfitWith t r cell) (λ c x. (x.1.0, (x.1.1, refused_from cell.1 type (type_of c.column_type) x.0 h.0))) t.column h.1) types

      to_types : SomeOf (MisfitWith t r cell) t.column → SomeOf IsRefusing types
      to_types h =
          let found = by_type cell.1 IsOf t.column (SomeOf_like (MisfitWith t r cell) (λ c. IsOf c × (refuses cell.1 c ≡ true)) (λ c x. ((x.0, x.1.0), x.1.1)) t.column h) in
          SomeOf_like (λ x. x ≡ found.0) IsRefusing (λ x e. subst IsRefusing (sym e) (found.1, found.2)) types (is_among found.0)

      types_decide : IsDated t inlined_row_validity r → (stay : Interval) → stay_in t r ≡ Some stay → Decides (list_any (is_misfit_of r.table_id stay cell) (index_of t.column)) (SomeOf IsRefusing types)
      types_decide dr stay is =
          any_mapped (typed_terms terms) (is_misfit_of r.table_id stay cell) IsRefusing types
          (all_cells _ (λ type. Decides-and (not (fits cell.1 type)) (are_met r.table_id cell.0 stay (filter (is_of_type type) terms)) (λ e. e, λ e. e) (type_decides r dr stay is cell.0 type)) types)

      cell_decides : IsDated t inlined_row_validity r → Decides (is_misfit (index_of t.column) r.table_id (stay_in t r) cell) (SomeOf (MisfitWith t r cell) t.column)
      cell_decides dr = go (stay_in t r) refl
        where
          go : (o : Option Interval) → stay_in t r ≡ o → Decides (is_misfit (index_of t.column) r.table_id o cell) (SomeOf (MisfitWith t r cell) t.column)
          go None is = (λ e. absurd (true≢false (sym e)), λ h. absurd (from_some (MisfitWith t r cell) ⊥ (λ c x. never r c is x.1.0) t.column h))
          go (Some stay) is = let typed = types_decide dr stay is in (λ e. from_types (typed.0 e), λ h. typed.1 (to_types h))

    misfit_is : (r : InlinedRow) → IsDated t inlined_row_validity r → (cells : List (ℕ × Value))
        → Decides (list_any (is_misfit (index_of t.column) r.table_id (stay_in t r)) cells) (SomeOf (λ cell. SomeOf (MisfitWith t r cell) t.column) cells)
    misfit_is r dr cells = any_decides (is_misfit (index_of t.column) r.table_id (stay_in t r)) (λ cell. SomeOf (MisfitWith t r cell) t.column) cells (all_cells _ (λ cell. cell_decides r cell dr) cells)

    wrong_from : (r : InlinedRow) → IsDated t inlined_row_validity r → IsInlinedWrong t (index_of t.column) r → HasUnreadableCells t r ⊎ (HasWrongRowId t r ⊎ HasMisfitWith t r)
    wrong_from r dr h = ⊎_elim (λ a. inl a) (λ b. inr (⊎_elim (λ x. inl x) (λ m. inr (m.0, m.1, (misfit_is r dr m.0).0 m.2)) b)) h

    wrong_to : (r : InlinedRow) → IsDated t inlined_row_validity r → HasUnreadableCells t r ⊎ (HasWrongRowId t r ⊎ HasMisfitWith t r) → IsInlinedWrong t (index_of t.column) r
    wrong_to r dr h = ⊎_elim (λ a. inl a) (λ b. inr (⊎_elim (λ x. inl x) (λ m. inr (m.0, m.1, (misfit_is r dr m.0).1 m.2)) b)) h

    -- the rows that are wrong by the index
    abbrev pub NamesWrong : List TypedTerms → Key → Type 0
    NamesWrong index = Names of_inlined (λ r. (meets_table inlined_row_validity r (table_of t r.table_id) ≡ true) × IsInlinedWrong t index r) t.inlined_row

    pub first_inlined : (o : Option Key) → FirstBad (NamesWrong (index_of t.column)) o → FirstBad (Names of_inlined (IsBadWith t) t.inlined_row) o
    first_inlined o h =
        first_like (NamesWrong (index_of t.column)) (Names of_inlined (IsBadWith t) t.inlined_row)
        (λ k p. some_in (IsDated t inlined_row_validity) _ _ t.inlined_row (dated_inlined t intervals) (λ r d x. (((seen_decides t up history intervals inlined_row_validity r r.table_id d).0 x.0.0, wrong_from r d x.0.1), x.1)) p)
        (λ k p. some_in (IsDated t inlined_row_validity) _ _ t.inlined_row (dated_inlined t intervals) (λ r d x. (((seen_decides t up history intervals inlined_row_validity r r.table_id d).1 x.0.0, wrong_to r d x.0.1), x.1)) p)
        o h
