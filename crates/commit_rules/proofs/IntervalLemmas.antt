-- The rule about validity intervals, after a commit.
use Rattle.std.proofs.Common.{◌≡◌, ℕ, ◌+◌, ◌<◌, ◌≤◌, inl, inr, ⊎_elim, Bool, true, false, cond, ◌&&◌, ◌||◌, List, [], ◌∷◌, map, filter, refl, sym, ap, ap₂, ◌∙◌, subst, arith, Option, Some, None, true≢false}
use Rattle.std.specs.Prelude.{is_none, nat_le, nat_lt}
use Rattle.std.specs.List.{AllByRecursion}
use Rattle.std.proofs.lemmas.Bool.{cases_lt, le-leb, le-ltb, leb-false, lt-leb, ltb-false, or_parts}
use Rattle.cat_tables.specs.Table.{IsBelow, put_all}
use Rattle.cat_tables.specs.Validity.{EndsBy, IsBy, IsNew, IsValidity, Validity, all_ended, ended_at, ends_at, is_before, is_visible, visible_at}
use Rattle.cat_rows.specs.Keys.{column_key, data_file_key, delete_file_key, inlined_row_key, schema_key, table_key}
use Rattle.cat_rows.specs.Parts.{Endings, IsPart, IsSettled, Parts}
use Rattle.cat_rows.specs.Seen.{Seen}
use Rattle.cat_rows.specs.Tables.{Tables}
use Rattle.cat_rows.specs.Validities.{column_laws, column_validity, data_file_laws, data_file_validity, delete_file_laws, delete_file_validity, inlined_row_laws, inlined_row_validity, schema_laws, schema_validity, table_laws, table_validity}
use Rattle.cat_rows.specs.declared.batch.Key.{Key}
use Rattle.cat_rows.specs.declared.history.SnapshotRow.{SnapshotRow}
use Rattle.cat_rows.specs.declared.schemas.ColumnRow.{ColumnRow}
use Rattle.cat_rules.specs.EachKept.{HasAlike, NamesAlike}
use Rattle.cat_rules.specs.First.{Holds}
use Rattle.cat_rules.specs.IntervalRule.{IsIntervalBad, IsWronglyDated, Overlaps, ends_wrong, is_misdated}
use Rattle.cat_rules.specs.Kept.{id_of, kept_of}
use Rattle.cat_rules.specs.Places.{of_column, of_data_file, of_delete_file, of_inlined, of_schema, of_table}
use Rattle.cat_rules.specs.Rows.{SomeOf}
use Rattle.cat_rules.specs.declared.kept.Kept.{Kept}
use Rattle.cat_rules.proofs.DatedLemmas.{AreDated, all_fine, dated_columns, dated_data_files, dated_delete_files, dated_inlined, dated_schemas, dated_tables}
use Rattle.cat_rules.proofs.FirstLemmas.{all_like}
use Rattle.cat_rules.proofs.SeenLemmas.{some_visible, visible_some}
use Rattle.commit_rules.specs.Lawful.{AreOneColumn}
use Rattle.commit_rules.specs.Laws.{RuleStays}
use Rattle.commit_rules.proofs.CoreLemmas.{IsCommit, after, after-commit, first_after, first_low, newest_after, seen_new, seen_still}
use Rattle.commit_rules.proofs.HistoryLemmas.{holds-all}
use Rattle.commit_rules.proofs.TableLemmas.{In, all-ended, all-put_all, all_by, all_in, found, in_some}

-- ---- one table

-- what holds of both kept ranges
record AreNext (old new : Kept) (n m : ℕ) : Type 0 where
  first : new.first ≡ old.first
  last : old.newest ≡ n
  newest : new.newest ≡ m
  next : m ≡ n + 1
  low : old.first ≤ n

module _ (old new : Kept) (n m : ℕ) (h : AreNext old new n m) where
  ends_still : (b : ℕ) (e : Option ℕ) → ends_wrong old b e ≡ false → ends_wrong new b e ≡ false
  ends_still b None fine = refl
  ends_still b (Some e) fine =
      let one = or_parts (nat_le e b) (nat_le e old.first || nat_lt old.newest e) fine in
      let two = or_parts (nat_le e old.first) (nat_lt old.newest e) one.1 in
      let after_first = leb-false e old.first two.0 in
      let before_last = ltb-false old.newest e two.1 in
      ap₂ ◌||◌ one.0 (ap₂ ◌||◌ (lt-leb e new.first (omega (arith, after_first, h.first))) (le-ltb new.newest e (omega (arith, before_last, h.last, h.newest, h.next))))

  ends_now : (b : ℕ) → b ≤ n → ends_wrong new b (Some m) ≡ false
  ends_now b le = ap₂ ◌||◌ (lt-leb m b (omega (arith, le, h.next))) (ap₂ ◌||◌ (lt-leb m new.first (omega (arith, h.low, h.first, h.next))) (le-ltb new.newest m (omega (arith, h.newest))))

  begins_by : (b : ℕ) → b ≤ m → nat_lt new.newest b ≡ false
  begins_by b le = le-ltb new.newest b (omega (arith, le, h.newest))

  module _ {R : Type 0} (key : R → List ℕ) (v : Validity R) (laws : IsValidity v key) where
    abbrev Fine : R → Type 0
    Fine r = (v.begin r ≤ n) × (is_misdated new v r ≡ false)

    fine_still : (r : R) → IsBy v n r → is_misdated old v r ≡ false → Fine r
    fine_still r by fine =
        let parts = or_parts (nat_lt old.newest (v.begin r)) (ends_wrong old (v.begin r) (v.end r)) fine in
        (by.0, ap₂ ◌||◌ (begins_by (v.begin r) (omega (arith, by.0, h.next))) (ends_still (v.begin r) (v.end r) parts.1))

    fine_ended : (r : R) → Fine r → Fine (ended_at v m r)
    fine_ended r f = elim (is_none (v.end r)) as (λ b. Fine (cond b (v.with_end (Some m) r) r)) [ true ↦ closed | false ↦ f ]
      where
        closed : Fine (v.with_end (Some m) r)
        closed = (
          subst (λ b. b ≤ n) (sym (laws.begin_stays (Some m) r)) f.0,
          ap₂ (λ b e. nat_lt new.newest b || ends_wrong new b e) (laws.begin_stays (Some m) r) (laws.end_is (Some m) r)
              ∙ ap₂ ◌||◌ (begins_by (v.begin r) (omega (arith, f.0, h.next))) (ends_now (v.begin r) f.0),
        )

    fine_new : (r : R) → IsNew v (n + 1) r → is_misdated new v r ≡ false
    fine_new r is = ap₂ ◌||◌ (begins_by (v.begin r) (omega (arith, is.0, h.next))) (ap (ends_wrong new (v.begin r)) is.1)

    both : (rs : List R) → AllByRecursion (IsBy v n) rs → AllByRecursion (λ r. is_misdated old v r ≡ false) rs → AllByRecursion Fine rs
    both [] a b = tt
    both (r ∷ rs) a b = (fine_still r a.0 b.0, both rs a.1 b.1)

    dated-part : (ends news rs : List R) → AllByRecursion (IsBy v n) rs → AllByRecursion (λ r. is_misdated old v r ≡ false) rs → AllByRecursion (IsNew v (n + 1)) news
        → AllByRecursion (λ r. is_misdated new v r ≡ false) (put_all key news (all_ended v key (ends_at key m ends) rs))
    dated-part ends news rs by dated begins =
        all-put_all key (λ r. is_misdated new v r ≡ false) news _ (all_like (IsNew v (n + 1)) (λ r. is_misdated new v r ≡ false) fine_new news begins)
        (all_like Fine (λ r. is_misdated new v r ≡ false) (λ r f. f.1) _ (all-ended key v Fine m fine_ended ends rs (both rs by dated)))

module _ {R : Type 0} (key : R → List ℕ) (v : Validity R) (laws : IsValidity v key) (n m : ℕ) (next : m ≡ n + 1) where
  later : (e : Option ℕ) → EndsBy n e → EndsBy m e
  later None q = tt
  later (Some e) q = omega (arith, next)

  by_ended : (r : R) → IsBy v m r → IsBy v m (ended_at v m r)
  by_ended r h = elim (is_none (v.end r)) as (λ b. IsBy v m (cond b (v.with_end (Some m) r) r))
      [ true ↦ (subst (λ k. k ≤ m) (sym (laws.begin_stays (Some m) r)) h.0, subst (EndsBy m) (sym (laws.end_is (Some m) r)) (omega arith)) | false ↦ h ]

  -- no row begins or ends past the new snapshot
  by-part : (ends news rs : List R) → AllByRecursion (IsBy v n) rs → AllByRecursion (IsNew v (n + 1)) news → AllByRecursion (IsBy v m) (put_all key news (all_ended v key (ends_at key m ends) rs))
  by-part ends news rs by begins =
      all-put_all key (IsBy v m) news _ (all_like (IsNew v (n + 1)) (IsBy v m) (λ r is. (omega (arith, is.0, next), subst (EndsBy m) (sym is.1) tt)) news begins)
      (all-ended key v (IsBy v m) m by_ended ends rs (all_like (IsBy v n) (IsBy v m) (λ r h. (omega (arith, h.0, next), later (v.end r) h.1)) rs by))

  -- so what is seen past it, it sees
  seen_past : (s : ℕ) → m ≤ s → (rs : List R) → AllByRecursion (IsBy v m) rs → visible_at v s rs ≡ visible_at v m rs
  seen_past s le rs by = ap (map (v.with_end None)) (go rs by)
    where
      same : (e : Option ℕ) → EndsBy m e → is_before s e ≡ is_before m e
      same None q = refl
      same (Some e) q = le-ltb s e (omega (arith, le, q)) ∙ sym (le-ltb m e q)

      go : (qs : List R) → AllByRecursion (IsBy v m) qs → filter (is_visible v s) qs ≡ filter (is_visible v m) qs
      go [] h = refl
      go (q ∷ qs) h =
          ap₂ (λ b l. cond b (q ∷ l) l) (ap₂ ◌&&◌ (le-leb (v.begin q) s (omega (arith, h.0.0, le)) ∙ sym (le-leb (v.begin q) m h.0.0)) (same (v.end q) h.0.1)) (go qs h.1)

-- ---- rows of one column

abbrev IsTwice : ℕ → List ColumnRow → Key → Type 0
IsTwice s rows = NamesAlike of_column AreOneColumn column_key (visible_at column_validity s rows)

-- rows of one column that overlap are seen together
apart-overlaps : (rows : List ColumnRow) → ((s : ℕ) → Holds (IsTwice s rows)) → (c : ColumnRow) → In c rows → SomeOf (Overlaps c) rows → ⊥
apart-overlaps rows apart c there some =
    let q = found (Overlaps c) rows some in
    let s = q.is.3.0 in
    apart s (of_column c)
    (some_visible column_validity s (λ r. HasAlike AreOneColumn column_key (visible_at column_validity s rows) r × (of_column r ≡ of_column c)) rows
    (in_some (λ r. (is_visible column_validity s r ≡ true) × (HasAlike AreOneColumn column_key (visible_at column_validity s rows) (column_validity.with_end None r) × (of_column (column_validity.with_end None r) ≡ of_column c))) c rows there (
      q.is.3.2,
      (
        some_visible column_validity s (λ x. IsBelow column_key x (column_validity.with_end None c) × AreOneColumn x (column_validity.with_end None c)) rows
            (in_some (λ x. (is_visible column_validity s x ≡ true) × (IsBelow column_key (column_validity.with_end None x) (column_validity.with_end None c) × AreOneColumn (column_validity.with_end None x) (column_validity.with_end None c))) q.item rows q.there
            (q.is.3.1, (q.is.0, (q.is.1, q.is.2)))),
        refl,
      ),
    )))

-- and back
overlaps-apart : (rows : List ColumnRow) → AllByRecursion (λ c. SomeOf (Overlaps c) rows → ⊥) rows → (s : ℕ) → Holds (IsTwice s rows)
overlaps-apart rows fine s k twice =
    let c = found (λ r. (is_visible column_validity s r ≡ true) × (HasAlike AreOneColumn column_key (visible_at column_validity s rows) (column_validity.with_end None r) × (of_column (column_validity.with_end None r) ≡ k))) rows
    (visible_some column_validity s (λ r. HasAlike AreOneColumn column_key (visible_at column_validity s rows) r × (of_column r ≡ k)) rows twice) in
    let q = found (λ x. (is_visible column_validity s x ≡ true) × (IsBelow column_key (column_validity.with_end None x) (column_validity.with_end None c.item) × AreOneColumn (column_validity.with_end None x) (column_validity.with_end None c.item))) rows
    (visible_some column_validity s (λ x. IsBelow column_key x (column_validity.with_end None c.item) × AreOneColumn x (column_validity.with_end None c.item)) rows c.is.1.0) in
    all_in (λ x. SomeOf (Overlaps x) rows → ⊥) c.item rows fine c.there
    (in_some (Overlaps c.item) q.item rows q.there (q.is.1.0, q.is.1.1.0, q.is.1.1.1, (s, q.is.0, c.is.0)))

-- ---- the whole

module _ (t : Tables) (head : SnapshotRow) (p : Parts) (endings : Endings) (c : IsCommit t head p endings) where
  abbrev u : Tables
  u = after t head p endings c

  old : Holds (IsIntervalBad t)
  old = c.sane.1.1.0

  ranges : AreNext (kept_of t.snapshot) (kept_of u.snapshot) head.snapshot_id p.snapshot.snapshot_id
  ranges = record {
    first = first_after t head p endings c;
    last = ap id_of c.is_head.last;
    newest = ap id_of (newest_after t head p endings c);
    next = c.parts.number;
    low = first_low t.snapshot head c.is_head.rises c.is_head.last;
  }

  dated : {R : Type 0} (key : R → List ℕ) (v : Validity R) → IsValidity v key → (ends_row : R → Bool) (ends news rs : List R) → IsSettled key v head.snapshot_id rs → AreDated t v rs → IsPart key v head.snapshot_id ends_row ends news rs
      → AllByRecursion (λ r. is_misdated (kept_of u.snapshot) v r ≡ true → ⊥) (put_all key news (all_ended v key (ends_at key p.snapshot.snapshot_id ends) rs))
  dated key v laws ends_row ends news rs settled fine part =
      all_like (λ r. is_misdated (kept_of u.snapshot) v r ≡ false) (λ r. is_misdated (kept_of u.snapshot) v r ≡ true → ⊥) (λ r e bad. true≢false (sym bad ∙ e)) _
      (dated-part (kept_of t.snapshot) (kept_of u.snapshot) head.snapshot_id p.snapshot.snapshot_id ranges key v laws ends news rs settled.by fine part.begins)

  apart_before : (s : ℕ) → Holds (IsTwice s t.column)
  apart_before =
      overlaps-apart t.column
      (all_like (λ r. IsWronglyDated (kept_of t.snapshot) t.column r → ⊥) (λ r. SomeOf (Overlaps r) t.column → ⊥) (λ r fine some. fine (inr some)) t.column
      (all_fine of_column (IsWronglyDated (kept_of t.snapshot) t.column) t.column (λ k h. old k (inr (inr (inl h))))))

  apart_after : (s : ℕ) → Holds (IsTwice s u.column)
  apart_after s k = ⊎_elim before now (cases_lt head.snapshot_id s)
    where
      before : (head.snapshot_id < s) → IsTwice s u.column k → ⊥
      before lt twice =
          let rows_seen = seen_past column_key column_validity column_laws head.snapshot_id p.snapshot.snapshot_id c.parts.number s (omega (arith, lt, c.parts.number)) u.column
          (by-part column_key column_validity column_laws head.snapshot_id p.snapshot.snapshot_id c.parts.number p.ended_column p.column t.column c.parts.settled.column.by c.parts.column.begins) in
          c.lawful.intervals k (subst (λ l. NamesAlike of_column AreOneColumn column_key l k) (rows_seen ∙ ap (λ (seen : Seen). seen.column) (seen_new t head p endings c)) twice)

      now : (s ≤ head.snapshot_id) → IsTwice s u.column k → ⊥
      now le twice = apart_before s k (subst (λ l. NamesAlike of_column AreOneColumn column_key l k) (ap (λ (seen : Seen). seen.column) (seen_still t head p endings c s le)) twice)

  dated_after : AllByRecursion (λ r. is_misdated (kept_of u.snapshot) column_validity r ≡ true → ⊥) u.column
  dated_after = dated column_key column_validity column_laws endings.column p.ended_column p.column t.column c.parts.settled.column (dated_columns t old) c.parts.column

  columns_after : AllByRecursion (λ r. IsWronglyDated (kept_of u.snapshot) u.column r → ⊥) u.column
  columns_after = all_by (λ r. IsWronglyDated (kept_of u.snapshot) u.column r → ⊥) u.column one
    where
      one : (r : ColumnRow) → In r u.column → IsWronglyDated (kept_of u.snapshot) u.column r → ⊥
      one r there (inl bad) = all_in (λ x. is_misdated (kept_of u.snapshot) column_validity x ≡ true → ⊥) r u.column dated_after there bad
      one r there (inr some) = apart-overlaps u.column apart_after r there some

  intervals_after : Holds (IsIntervalBad u)
  intervals_after k (inl h) =
      holds-all of_schema _ u.schema (dated schema_key schema_validity schema_laws endings.schema p.ended_schema p.schema t.schema c.parts.settled.schema (dated_schemas t old) c.parts.schema) k h
  intervals_after k (inr (inl h)) =
      holds-all of_table _ u.table (dated table_key table_validity table_laws endings.table p.ended_table p.table t.table c.parts.settled.table (dated_tables t old) c.parts.table) k h
  intervals_after k (inr (inr (inl h))) = holds-all of_column (IsWronglyDated (kept_of u.snapshot) u.column) u.column columns_after k h
  intervals_after k (inr (inr (inr (inl h)))) =
      holds-all of_data_file _ u.data_file (dated data_file_key data_file_validity data_file_laws endings.data_file p.ended_data_file p.data_file t.data_file c.parts.settled.data_file (dated_data_files t old) c.parts.data_file) k h
  intervals_after k (inr (inr (inr (inr (inl h))))) =
      holds-all of_delete_file _ u.delete_file (dated delete_file_key delete_file_validity delete_file_laws endings.delete_file p.ended_delete_file p.delete_file t.delete_file c.parts.settled.delete_file (dated_delete_files t old) c.parts.delete_file) k h
  intervals_after k (inr (inr (inr (inr (inr h))))) =
      holds-all of_inlined _ u.inlined_row (dated inlined_row_key inlined_row_validity inlined_row_laws endings.inlined_row p.ended_inlined_row p.inlined_row t.inlined_row c.parts.settled.inlined_row (dated_inlined t old) c.parts.inlined_row) k h

pub intervals-stay : RuleStays IsIntervalBad
intervals-stay = after-commit (λ (u : Tables). Holds (IsIntervalBad u)) intervals_after
