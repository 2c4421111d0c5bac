-- Two rows that lie within the kept snapshots are seen together by one of them exactly where their intervals meet.
use Rattle.std.proofs.Common.{◌≡◌, ℕ, ◌≤◌, true, [], ◌∷◌, Option, Some, None, refl, sym, true≢false, arith, Decides}
use Rattle.cat_tables.proofs.IntervalLemmas.{is_before-down}
use Rattle.std.specs.Prelude.{max, nat_le}
use Rattle.std.proofs.lemmas.Bool.{le-leb, and_parts}
use Rattle.std.proofs.lemmas.Bool.Decides.{nat_tests}
use Rattle.cat_tables.specs.Table.{RisesByKey}
use Rattle.cat_tables.specs.Validity.{Validity, is_before, is_visible}
use Rattle.cat_rows.specs.Keys.{snapshot_key, table_key}
use Rattle.cat_rows.specs.Tables.{Tables}
use Rattle.cat_rules.specs.First.{Holds}
use Rattle.cat_rows.specs.Validities.{table_validity}
use Rattle.cat_rows.specs.declared.schemas.TableRow.{TableRow}
use Rattle.cat_rules.specs.HistoryRule.{IsMissing, IsSnapshotBad}
use Rattle.cat_rules.specs.IntervalRule.{IsIntervalBad}
use Rattle.cat_rules.proofs.DatedLemmas.{dated_tables, found_dated, none_missing}
use Rattle.cat_rules.specs.Kept.{AtSome}
use Rattle.cat_rules.proofs.SightLemmas.{IsDated, at_kept, clip, clip_kept, clip_sees, from_kept}
use Rattle.cat_rules.specs.Sight.{SeesWith}
use Rattle.cat_rules.specs.Meeting.{meets_table, rows_meet}
use Rattle.cat_rules.specs.Lookups.{table_of}

module _ (t : Tables) (up : RisesByKey snapshot_key t.snapshot) (whole : Holds (IsMissing t.snapshot)) {R S : Type 0} (v : Validity R) (w : Validity S) where
  -- some kept snapshot sees both
  abbrev pub SeenTogether : R → S → Type 0
  SeenTogether r q = AtSome t (λ s. (is_visible v s r ≡ true) × (is_visible w s q ≡ true))

  pub meets_decides : (r : R) (q : S) → IsDated t v r → IsDated t w q → Decides (rows_meet v w r q) (SeenTogether r q)
  meets_decides r q dr dq = (found, told)
    where
      there : ℕ
      there = max (v.begin r) (w.begin q)

      found : rows_meet v w r q ≡ true → SeenTogether r q
      found e =
          let both = and_parts _ _ e in
          let first : is_visible v there r ≡ true = let low : nat_le (v.begin r) there ≡ true = le-leb (v.begin r) there (omega arith) in rw low both.0 in
          let second : is_visible w there q ≡ true = let low : nat_le (w.begin q) there ≡ true = le-leb (w.begin q) there (omega arith) in rw low both.1 in
          at_kept t (λ s. (is_visible v s r ≡ true) × (is_visible w s q ≡ true)) (clip t up whole there) (clip_kept t up whole there) (clip_sees t up whole v r dr there first, clip_sees t up whole w q dq there second)

      told : SeenTogether r q → rows_meet v w r q ≡ true
      told seen =
          let some = from_kept t (λ s. (is_visible v s r ≡ true) × (is_visible w s q ≡ true)) seen in
          let s = some.0 in
          let one = and_parts (nat_le (v.begin r) s) (is_before s (v.end r)) some.2.0 in
          let two = and_parts (nat_le (w.begin q) s) (is_before s (w.end q)) some.2.1 in
          let le : there ≤ s = grind (arith, nat_tests, one.0, two.0) in
          let first = is_before-down there s (v.end r) le one.1 in
          let second = is_before-down there s (w.end q) le two.1 in
          rw first second

-- ---- rows with their table

module _ (t : Tables) (up : RisesByKey snapshot_key t.snapshot) (history : Holds (IsSnapshotBad t)) (intervals : Holds (IsIntervalBad t)) where
  pub found_table : (id : ℕ) (q : TableRow) → table_of t id ≡ Some q → IsDated t table_validity q
  found_table id q e = found_dated t table_key (id ∷ []) table_validity t.table (dated_tables t intervals) q e

  pub seen_decides : {R : Type 0} (v : Validity R) (r : R) (id : ℕ) → IsDated t v r → Decides (meets_table v r (table_of t id)) (AtSome t (SeesWith v (table_of t id) r))
  seen_decides v r id dated = go (table_of t id) refl
    where
      go : (o : Option TableRow) → table_of t id ≡ o → Decides (meets_table v r o) (AtSome t (SeesWith v o r))
      go None e = (λ h. absurd (true≢false (sym h)), λ h. let some = from_kept t (SeesWith v None r) h in absurd some.2.1)
      go (Some q) e = meets_decides t up (none_missing t history) v table_validity r q dated (found_table id q e)
