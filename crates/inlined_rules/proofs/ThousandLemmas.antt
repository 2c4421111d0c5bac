-- Inlined rows of one table with one begin, and how many of them a kept snapshot sees with the table.
use Rattle.std.proofs.Common.{◌≡◌, ℕ, ◌≤◌, Bool, true, ◌&&◌, List, [], ◌∷◌, count_by, refl, ap₂, Option, Result, arith}
use Rattle.std.specs.Result.{IfOk}
use Rattle.std.proofs.lemmas.Bool.{and_from, and_parts}
use Rattle.std.proofs.lemmas.Result.{IfOk-weaker}
use Rattle.cat_tables.specs.Table.{RisesByKey}
use Rattle.cat_tables.specs.Validity.{is_visible, visible_at}
use Rattle.cat_tables.proofs.KeyLemmas.{key_eq}
use Rattle.cat_rows.specs.Keys.{inlined_row_key, snapshot_key, table_key}
use Rattle.cat_rows.specs.Tables.{Tables}
use Rattle.cat_rows.specs.Validities.{inlined_row_validity, table_validity}
use Rattle.cat_rows.specs.declared.batch.Key.{Key}
use Rattle.cat_rows.specs.declared.inlined.InlinedRow.{InlinedRow}
use Rattle.cat_rules.specs.Crowded.{IsCrowded, extent_with}
use Rattle.cat_rules.specs.EachKept.{AtKept}
use Rattle.cat_rules.specs.First.{FirstBad, Holds}
use Rattle.cat_rules.specs.HistoryRule.{IsMissing}
use Rattle.cat_rules.specs.InlinedRule.{IsPastThousand, shares_begin}
use Rattle.cat_rules.specs.Kept.{AtSome, kept_of}
use Rattle.cat_rules.specs.Lookups.{table_of}
use Rattle.cat_rules.specs.Places.{of_inlined}
use Rattle.cat_rules.specs.Rows.{Names}
use Rattle.cat_rules.specs.Sight.{SeesWith}
use Rattle.cat_rules.proofs.DatedLemmas.{AreDated}
use Rattle.cat_rules.proofs.SeenLemmas.{first_with}
use Rattle.cat_rules.proofs.WithinLemmas.{all_so, count_by-le, count_by-visible, first_found_among, in_group, is_same, is_under_at, same_is}
use Rattle.inlined_rules.specs.Groups.{group_by_begin}

module _ (t : Tables) (up : RisesByKey snapshot_key t.snapshot) (rise : RisesByKey table_key t.table) (whole : Holds (IsMissing t.snapshot)) (tables : AreDated t table_validity t.table) (dated : AreDated t inlined_row_validity t.inlined_row) where
  abbrev Past : ℕ → InlinedRow → Type 0
  Past s r = 1000 ≤ count_by (shares_begin r) (visible_at inlined_row_validity s t.inlined_row)

  abbrev is_under_begin : ℕ → InlinedRow → InlinedRow → Bool
  is_under_begin s r q = is_under_at inlined_row_validity inlined_row_key group_by_begin s r q

  shares_from : (s : ℕ) (r q : InlinedRow) → is_under_begin s r q ≡ true → (is_visible inlined_row_validity s q && shares_begin r q) ≡ true
  shares_from s r q under =
      let h = and_parts _ _ under in
      let k = and_parts _ _ h.1 in
      let same = key_eq (group_by_begin q) (group_by_begin r) k.0 in
      and_from _ _ k.1 (and_from _ _ h.0 (and_from _ _ (same_is q.table_id r.table_id cc) (same_is q.begin_snapshot r.begin_snapshot cc)))

  from_shares : (s : ℕ) (r q : InlinedRow) → (is_visible inlined_row_validity s q && shares_begin r q) ≡ true → is_under_begin s r q ≡ true
  from_shares s r q both =
      let sees = and_parts _ _ both in
      let h = and_parts _ _ sees.1 in
      let k = and_parts _ _ h.1 in
      let same = ap₂ (λ m n. m ∷ n ∷ []) (is_same q.table_id r.table_id k.0) (is_same q.begin_snapshot r.begin_snapshot k.1) in
      and_from _ _ h.0 (and_from _ _ (in_group (group_by_begin q) (group_by_begin r) same) sees.0)

  to : (s : ℕ) (r : InlinedRow) → 1000 ≤ count_by (is_under_begin s r) t.inlined_row → Past s r
  to s r le =
      let fewer = count_by-le (λ _. Unit {0}) (is_under_begin s r) (λ q. is_visible inlined_row_validity s q && shares_begin r q) t.inlined_row (all_so t.inlined_row) (λ q u x. shares_from s r q x) in
      let same = count_by-visible inlined_row_validity s (shares_begin r) (λ q. refl) t.inlined_row in
      omega arith

  back : (s : ℕ) (r : InlinedRow) → Past s r → 1000 ≤ count_by (is_under_begin s r) t.inlined_row
  back s r le =
      let fewer = count_by-le (λ _. Unit {0}) (λ q. is_visible inlined_row_validity s q && shares_begin r q) (is_under_begin s r) t.inlined_row (all_so t.inlined_row) (λ q u x. from_shares s r q x) in
      let same = count_by-visible inlined_row_validity s (shares_begin r) (λ q. refl) t.inlined_row in
      omega arith

  pub first_thousand_among : {E : Type 0} (result : Result (Option Key) E) (first : ℕ) (given : List InlinedRow) → first ≡ (kept_of t.snapshot).first → given ≡ t.inlined_row
      → IfOk result (FirstBad (Names of_inlined (IsCrowded of_inlined (extent_with t first inlined_row_validity (λ r. r.table_id) group_by_begin) 1000 given) given)) → IfOk result (FirstBad (AtKept IsPastThousand t))
  first_thousand_among result first given same_first same_rows h =
      IfOk-weaker result (FirstBad (Names of_inlined (λ r. AtSome t (λ s. SeesWith inlined_row_validity (table_of t r.table_id) r s × Past s r)) t.inlined_row)) (FirstBad (AtKept IsPastThousand t))
      (λ o x. first_with t rise inlined_row_validity of_inlined (λ r. r.table_id) Past (λ s r y. y) (λ s r y. y) (λ r. refl) (λ r. refl) t.inlined_row o x)
      (first_found_among t up whole tables inlined_row_validity of_inlined inlined_row_key (λ r. r.table_id) (λ q r. refl) group_by_begin (λ q r e. cc) t.inlined_row dated 1000 Past to back result first given same_first same_rows h)
