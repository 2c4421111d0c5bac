-- A number of a table that no column of it covers is one at which a kept snapshot sees no column.
use Rattle.std.proofs.Common.{◌≡◌, ℕ, ◌+◌, ◌≤◌, ⊎_elim, Bool, true, false, cond, ◌&&◌, List, [], ◌∷◌, map, refl, sym, ap, subst, ◌∙◌, Option, Some, None, Result, nat_le, nat_lt, max, arith}
use Rattle.std.specs.List.{AllByRecursion}
use Rattle.std.specs.Result.{IfOk}
use Rattle.std.proofs.lemmas.Bool.{cases_lt, and_parts, and_from, or_parts, false_from_ne_true}
use Rattle.std.proofs.lemmas.Bool.Decides.{nat_tests}
use Rattle.std.proofs.lemmas.Result.{IfOk-weaker}
use Rattle.cat_tables.specs.Table.{RisesByKey}
use Rattle.cat_tables.specs.Validity.{is_before, is_visible, visible_at}
use Rattle.cat_tables.proofs.KeyLemmas.{key_eq}
use Rattle.cat_rows.specs.Keys.{snapshot_key}
use Rattle.cat_rows.specs.Tables.{Tables}
use Rattle.cat_rows.specs.Validities.{column_validity, table_validity}
use Rattle.cat_rows.specs.declared.batch.Key.{Key}
use Rattle.cat_rows.specs.declared.schemas.ColumnRow.{ColumnRow}
use Rattle.cat_rows.specs.declared.schemas.TableRow.{TableRow}
use Rattle.cat_rules.specs.First.{FirstBad, Holds}
use Rattle.cat_rules.specs.HistoryRule.{IsMissing}
use Rattle.cat_rules.specs.IntervalRule.{ends_wrong}
use Rattle.cat_rules.specs.Kept.{kept_of}
use Rattle.cat_rules.specs.Places.{of_table}
use Rattle.cat_rules.specs.Rows.{Names}
use Rattle.cat_rules.proofs.DatedLemmas.{AreDated}
use Rattle.cat_rules.proofs.FirstLemmas.{first_like, SomeOf_like, some_in}
use Rattle.cat_rules.proofs.SightLemmas.{IsDated, at_kept, from_kept, clip, clip_kept, clip_sees, in_range}
use Rattle.cat_spans.specs.Spans.{Extent, HasGap, covers, is_in}
use Rattle.cat_spans.proofs.CountLemmas.{count, count_by-is}
use Rattle.cat_rules.specs.ColumnRule.{HasNoColumn, IsColumnless}
use Rattle.cat_rules.specs.EachKept.{AtKept}
use Rattle.cat_rules.specs.Kept.{AtSome}
use Rattle.cat_rules.proofs.SeenLemmas.{at_like, from_at, rows_from_seen, rows_to_seen}
use Rattle.std.specs.Prelude.{filter, ◌≢◌}
use Rattle.std.proofs.Common.{true≢false}
use Rattle.schema_rules.specs.Groups.{group_by_id, group_by_table}
use Rattle.cat_rules.specs.Crowded.{IsBare, extent_of}
use Rattle.cat_rules.proofs.WithinLemmas.{in_group}
use Rattle.cat_rules.proofs.EarlierLemmas.{le_max, max_le}

-- a kept snapshot sees the table and no column of it
abbrev SeesNoColumn : Tables → TableRow → Type 0
SeesNoColumn t r = AtSome t (λ s. (is_visible table_validity s r ≡ true) × AllByRecursion (λ c. c.table_id ≡ r.table_id → is_visible column_validity s c ≡ false) t.column)

-- at the newest snapshot a row that lies within the kept ones is seen only if it has no end
open_end : (first newest s b : ℕ) (e : Option ℕ) → ends_wrong (record { first = first; newest = newest }) b e ≡ false → newest ≤ s → is_before newest e ≡ true → is_before s e ≡ true
open_end first newest s b None fine le h = refl
open_end first newest s b (Some n) fine le h =
    let p = or_parts _ _ fine in
    let q = or_parts (nat_le n first) (nat_lt newest n) p.1 in
    absurd (let x : nat_lt newest n ≡ true = h in let y = q.1 in cc)

none_counted : {X : Type 0} (p : X → Bool) (xs : List X) → count p xs ≡ 0 → AllByRecursion (λ x. p x ≡ false) xs
none_counted p [] e = tt
none_counted p (x ∷ xs) e = go (p x) refl e (none_counted p xs)
  where
    go : (b : Bool) → p x ≡ b → cond b 1 0 + count p xs ≡ 0 → (count p xs ≡ 0 → AllByRecursion (λ x. p x ≡ false) xs) → AllByRecursion (λ x. p x ≡ false) (x ∷ xs)
    go true f e more = absurd (omega arith)
    go false f e more = (f, more (omega arith))

counted_none : {X : Type 0} (p : X → Bool) (xs : List X) → AllByRecursion (λ x. p x ≡ false) xs → count p xs ≡ 0
counted_none p [] all = refl
counted_none p (x ∷ xs) all = let rest = counted_none p xs all.1 in rw all.0 (omega arith)

all_in : {X : Type 0} (D P Q : X → Type 0) (xs : List X) → AllByRecursion D xs → ((x : X) → D x → P x → Q x) → AllByRecursion P xs → AllByRecursion Q xs
all_in D P Q [] d f h = tt
all_in D P Q (x ∷ xs) d f h = (f x d.0 h.0, all_in D P Q xs d.1 f h.1)

all_mapped : {X Y : Type 0} (f : X → Y) (P : Y → Type 0) (xs : List X) → AllByRecursion P (map f xs) → AllByRecursion (λ x. P (f x)) xs
all_mapped f P [] h = tt
all_mapped f P (x ∷ xs) h = (h.0, all_mapped f P xs h.1)

mapped_all : {X Y : Type 0} (f : X → Y) (P : Y → Type 0) (xs : List X) → AllByRecursion (λ x. P (f x)) xs → AllByRecursion P (map f xs)
mapped_all f P [] h = tt
mapped_all f P (x ∷ xs) h = (h.0, mapped_all f P xs h.1)

module _ (t : Tables) (up : RisesByKey snapshot_key t.snapshot) (whole : Holds (IsMissing t.snapshot)) (columns : AreDated t column_validity t.column) (tables : AreDated t table_validity t.table) where
  abbrev first : ℕ
  first = (kept_of t.snapshot).first

  abbrev table_extent : TableRow → Extent
  table_extent = extent_of (kept_of t.snapshot).first table_validity group_by_id

  abbrev column_extent : ColumnRow → Extent
  column_extent = extent_of (kept_of t.snapshot).first column_validity group_by_table

  -- a column that the kept snapshot nearest to a number sees is seen there
  clip_back : (c : ColumnRow) → IsDated t column_validity c → (s : ℕ) → (kept_of t.snapshot).first ≤ s → is_visible column_validity (clip t up whole s) c ≡ true → is_visible column_validity s c ≡ true
  clip_back c d s low h =
      ⊎_elim
      (λ past. (let newest = (kept_of t.snapshot).newest in
      let within = in_range t (clip t up whole s) up (clip_kept t up whole s) in
      let here : clip t up whole s ≡ newest = omega (arith, within.0, within.1) in
      let P : ℕ → Type 0 = λ n. is_visible column_validity n c ≡ true in
      let both = and_parts _ _ (subst P here h) in
      let fine = or_parts _ _ d in
      and_from _ _ (later c.begin_snapshot newest s both.0 (omega arith)) (open_end (kept_of t.snapshot).first newest s c.begin_snapshot c.end_snapshot fine.1 (omega arith) both.1)))
      (λ upto. (let here : clip t up whole s ≡ s = omega arith in let P : ℕ → Type 0 = λ n. is_visible column_validity n c ≡ true in subst P here h))
      (cases_lt (kept_of t.snapshot).newest s)
    where
      later : (b m n : ℕ) → nat_le b m ≡ true → m ≤ n → nat_le b n ≡ true
      later b m n h le = grind (arith, nat_tests)

  none_from_gap : (r : TableRow) → IsDated t table_validity r → HasGap (map column_extent t.column) (table_extent r) → SeesNoColumn t r
  none_from_gap r d gap =
      let s = gap.0 in
      let here = clip t up whole s in
      let low : (kept_of t.snapshot).first ≤ s = first_le s r gap.1 in
      let none = none_counted _ _ (sym (count_by-is (λ x. is_in (table_extent r).group x && covers s x) (map column_extent t.column)) ∙ gap.2) in
      at_kept t (λ s. (is_visible table_validity s r ≡ true) × AllByRecursion (λ c. c.table_id ≡ r.table_id → is_visible column_validity s c ≡ false) t.column) here (clip_kept t up whole s) (
        clip_sees t up whole table_validity r d s (le_max (kept_of t.snapshot).first r.begin_snapshot s _ gap.1),
        all_in (IsDated t column_validity) _ _ t.column columns
            (λ c e out same. false_from_ne_true _ (λ sees.
            let inside = in_group (group_by_table c) (group_by_id r) (ap (λ n. n ∷ 0 ∷ []) same) in
            let over = max_le (kept_of t.snapshot).first c.begin_snapshot s _ low (clip_back c e s low sees) in
            let yes = and_from (is_in (table_extent r).group (column_extent c)) (covers s (column_extent c)) inside over in
            cc))
            (all_mapped column_extent (λ x. (is_in (table_extent r).group x && covers s x) ≡ false) t.column none),
      )
    where
      first_le : (s : ℕ) (r : TableRow) → covers s (table_extent r) ≡ true → (kept_of t.snapshot).first ≤ s
      first_le s r h = let low : nat_le (max (kept_of t.snapshot).first r.begin_snapshot) s ≡ true = (and_parts _ _ h).0 in grind (arith, nat_tests)

  gap_from_none : (r : TableRow) → SeesNoColumn t r → HasGap (map column_extent t.column) (table_extent r)
  gap_from_none r none =
      let at = from_kept t (λ s. (is_visible table_validity s r ≡ true) × AllByRecursion (λ c. c.table_id ≡ r.table_id → is_visible column_validity s c ≡ false) t.column) none in
      let s = at.0 in
      let low = (in_range t s up at.1).0 in
      let out = mapped_all column_extent (λ x. (is_in (table_extent r).group x && covers s x) ≡ false) t.column
      (all_in (IsDated t column_validity) _ _ t.column columns
      (λ c e hidden. false_from_ne_true _ (λ under.
      let both = and_parts (is_in (table_extent r).group (column_extent c)) (covers s (column_extent c)) under in
      let same : group_by_table c ≡ group_by_id r = key_eq (group_by_table c) (group_by_id r) both.0 in
      let sees = le_max (kept_of t.snapshot).first c.begin_snapshot s _ both.1 in
      let not_seen = hidden cc in
      cc))
      at.2.1) in (
        s,
        max_le (kept_of t.snapshot).first r.begin_snapshot s _ low at.2.0,
        count_by-is (λ x. is_in (table_extent r).group x && covers s x) (map column_extent t.column) ∙ counted_none _ _ out,
      )

  first_columnless_whole : {E : Type 0} (result : Result (Option Key) E) (k : ℕ) (given : List TableRow) (others : List ColumnRow) → k ≡ (kept_of t.snapshot).first → given ≡ t.table → others ≡ t.column
      → IfOk result (FirstBad (Names of_table (IsBare (extent_of k table_validity group_by_id) (extent_of k column_validity group_by_table) others) given)) → IfOk result (FirstBad (Names of_table (SeesNoColumn t) t.table))
  first_columnless_whole result k given others same_first same_rows same_others h =
      let Bare : Key → Type 0 = Names of_table (IsBare table_extent column_extent t.column) t.table in
      let P : ℕ → Type 0 = λ n. IfOk result (FirstBad (Names of_table (IsBare (extent_of n table_validity group_by_id) (extent_of n column_validity group_by_table) others) given)) in
      let Q : List TableRow → Type 0 = λ l. IfOk result (FirstBad (Names of_table (IsBare table_extent column_extent others) l)) in
      let R : List ColumnRow → Type 0 = λ l. IfOk result (FirstBad (Names of_table (IsBare table_extent column_extent l) t.table)) in
      IfOk-weaker result (FirstBad Bare) (FirstBad (Names of_table (SeesNoColumn t) t.table))
      (λ o x. first_like Bare (Names of_table (SeesNoColumn t) t.table)
      (λ k bad. some_in (IsDated t table_validity) _ _ t.table tables (λ r d y. (none_from_gap r d y.0, y.1)) bad)
      (λ k bad. SomeOf_like _ _ (λ r y. (gap_from_none r y.0, y.1)) t.table bad)
      o x)
      (subst R same_others (subst Q same_rows (subst P same_first h)))

  none_seen : (s id : ℕ) (rows : List ColumnRow) → AllByRecursion (λ c. c.table_id ≡ id → is_visible column_validity s c ≡ false) rows → AllByRecursion (λ c. c.table_id ≢ id) (visible_at column_validity s rows)
  none_seen s id [] h = tt
  none_seen s id (c ∷ rows) h = go (is_visible column_validity s c) refl (none_seen s id rows h.1)
    where
      go : (b : Bool) → is_visible column_validity s c ≡ b → AllByRecursion (λ c. c.table_id ≢ id) (visible_at column_validity s rows)
          → AllByRecursion (λ c. c.table_id ≢ id) (map (column_validity.with_end None) (cond b (c ∷ filter (is_visible column_validity s) rows) (filter (is_visible column_validity s) rows)))
      go true e more = (λ same. true≢false (sym e ∙ h.0 same), more)
      go false e more = more

  seen_none : (s id : ℕ) (rows : List ColumnRow) → AllByRecursion (λ c. c.table_id ≢ id) (visible_at column_validity s rows) → AllByRecursion (λ c. c.table_id ≡ id → is_visible column_validity s c ≡ false) rows
  seen_none s id [] h = tt
  seen_none s id (c ∷ rows) h = go (is_visible column_validity s c) refl (seen_none s id rows) h
    where
      go : (b : Bool) → is_visible column_validity s c ≡ b → (AllByRecursion (λ c. c.table_id ≢ id) (visible_at column_validity s rows) → AllByRecursion (λ c. c.table_id ≡ id → is_visible column_validity s c ≡ false) rows)
          → AllByRecursion (λ c. c.table_id ≢ id) (map (column_validity.with_end None) (cond b (c ∷ filter (is_visible column_validity s) rows) (filter (is_visible column_validity s) rows)))
          → (c.table_id ≡ id → is_visible column_validity s c ≡ false) × AllByRecursion (λ c. c.table_id ≡ id → is_visible column_validity s c ≡ false) rows
      go true e more h = (λ same. absurd (h.0 same), more h.1)
      go false e more h = (λ same. e, more h)

  abbrev NoneAt : Key → ℕ → TableRow → Type 0
  NoneAt k s r = HasNoColumn (visible_at column_validity s t.column) r × (of_table r ≡ k)

  columnless_seen : (o : Option Key) → FirstBad (Names of_table (SeesNoColumn t) t.table) o → FirstBad (AtKept IsColumnless t) o
  columnless_seen o h =
      first_like (Names of_table (SeesNoColumn t) t.table) (AtKept IsColumnless t)
      (λ k. rows_to_seen t table_validity (λ r. SeesNoColumn t r × (of_table r ≡ k)) (NoneAt k)
      (λ r x. at_like t (λ s. (is_visible table_validity s r ≡ true) × AllByRecursion (λ c. c.table_id ≡ r.table_id → is_visible column_validity s c ≡ false) t.column) (λ s. (is_visible table_validity s r ≡ true) × NoneAt k s (table_validity.with_end None r))
      (λ s y. (y.0, (none_seen s r.table_id t.column y.1, x.1))) x.0) t.table)
      (λ k. rows_from_seen t table_validity (λ r. SeesNoColumn t r × (of_table r ≡ k)) (NoneAt k)
      (λ r x. (
        at_like t (λ s. (is_visible table_validity s r ≡ true) × NoneAt k s (table_validity.with_end None r)) (λ s. (is_visible table_validity s r ≡ true) × AllByRecursion (λ c. c.table_id ≡ r.table_id → is_visible column_validity s c ≡ false) t.column)
            (λ s y. (y.0, seen_none s r.table_id t.column y.1.0)) x,
        from_at t (λ s. (is_visible table_validity s r ≡ true) × NoneAt k s (table_validity.with_end None r)) (of_table r ≡ k) (λ s y. y.1.1) x,
      )) t.table)
      o h

  pub first_columnless_among : {E : Type 0} (result : Result (Option Key) E) (k : ℕ) (given : List TableRow) (others : List ColumnRow) → k ≡ (kept_of t.snapshot).first → given ≡ t.table → others ≡ t.column
      → IfOk result (FirstBad (Names of_table (IsBare (extent_of k table_validity group_by_id) (extent_of k column_validity group_by_table) others) given)) → IfOk result (FirstBad (AtKept IsColumnless t))
  first_columnless_among result k given others same_first same_rows same_others h =
      IfOk-weaker result (FirstBad (Names of_table (SeesNoColumn t) t.table)) (FirstBad (AtKept IsColumnless t)) columnless_seen (first_columnless_whole result k given others same_first same_rows same_others h)
