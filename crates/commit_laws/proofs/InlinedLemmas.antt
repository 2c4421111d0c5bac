-- Rows that lie in the catalogue itself, after a commit that makes none.
use Rattle.std.proofs.Common.{◌≡◌, ◌⊎◌, inr, ⊎_elim, ◌<◌, ◌≤◌, Bool, true, not, [], filter, count_by, subst, arith, append-nil}
use Rattle.std.specs.List.{AllByRecursion}
use Rattle.lake_model.specs.Kinds.{drops_table}
use Rattle.lake_model.specs.declared.change.Ref.TheVariants as ref
use Rattle.lake_rebase.proofs.MemberLemmas.{In, all_by, all_in}
use Rattle.cat_rows.specs.Validities.{inlined_row_validity}
use Rattle.cat_rows.specs.declared.inlined.InlinedRow.{InlinedRow}
use Rattle.cat_rules.specs.CounterRule.{is_not_past}
use Rattle.cat_rules.specs.EachKept.{SeesTable}
use Rattle.cat_rules.specs.First.{Holds}
use Rattle.cat_rules.specs.InlinedRule.{IsInlinedBad, IsPastThousand, shares_begin}
use Rattle.cat_rules.specs.Places.{of_inlined}
use Rattle.cat_rules.proofs.DatedLemmas.{all_fine}
use Rattle.cat_rules.proofs.FirstLemmas.{all_like}
use Rattle.cat_spans.proofs.CountLemmas.{count_by-is}
use Rattle.commit_rules.specs.Lawful.{AreInlinedRight, Misfits}
use Rattle.commit_rules.proofs.NextLemmas.{all_visible}
use Rattle.commit_rules.proofs.StatsLemmas.{below}
use Rattle.commit_laws.proofs.CaseLemmas.{Case, counted, next, number, parts, seen}
use Rattle.commit_laws.proofs.ColumnLemmas.{at_head, sees_still}
use Rattle.commit_laws.proofs.CountLemmas.{count_filter}
use Rattle.commit_laws.proofs.ListLemmas.{found, next_cases, some_in}
use Rattle.commit_laws.proofs.NewColumnLemmas.{none_misfit}
use Rattle.commit_laws.proofs.SeenLemmas.{then}

module _ (k : Case) where
  inlined_low : AllByRecursion (λ (r : InlinedRow). r.table_id < next k) (seen k).inlined_row
  inlined_low =
      all_visible inlined_row_validity (λ (r : InlinedRow). r.table_id < next k) (λ r low. low) (number k) k.t.inlined_row
      (all_like _ _ (λ (r : InlinedRow) fine. below (next k) r.table_id fine) k.t.inlined_row
      (all_fine of_inlined (λ (r : InlinedRow). is_not_past (next k) r.table_id ≡ true) k.t.inlined_row (λ j h. counted k j (inr (inr (inr (inr (inr (inr (inr (inr h)))))))))))

  abbrev Gone : InlinedRow → Bool
  Gone r = drops_table k.own (ref.Old r.table_id)

  was_seen : (r : InlinedRow) → In r (then k).inlined_row → In r (seen k).inlined_row
  was_seen r there = ⊎_elim (λ old. old.0) (λ none. absurd none) (next_cases Gone (seen k).inlined_row [] r there)

  few : Holds (IsPastThousand (then k))
  few j bad =
      let r = found (λ (x : InlinedRow). (SeesTable (then k) x.table_id × (1000 ≤ count_by (shares_begin x) (then k).inlined_row)) × (of_inlined x ≡ j)) (then k).inlined_row bad in
      let there = was_seen r.item r.there in
      let low = all_in (λ (x : InlinedRow). x.table_id < next k) r.item (seen k).inlined_row inlined_low there in
      let left = filter (λ x. not (Gone x)) (seen k).inlined_row in
      let many : 1000 ≤ count_by (shares_begin r.item) left = subst (λ l. 1000 ≤ count_by (shares_begin r.item) l) (append-nil left) r.is.0.1 in
      let a = count_by-is (shares_begin r.item) left in
      let b = count_filter (shares_begin r.item) (λ x. not (Gone x)) (seen k).inlined_row in
      let d = count_by-is (shares_begin r.item) (seen k).inlined_row in
      at_head k (λ seen i. IsInlinedBad k.t seen i ⊎ IsPastThousand seen i) k.c.sound.rules.1.1.1.1.1.1.1.1.1.0 j
      (inr (some_in (λ (x : InlinedRow). (SeesTable (seen k) x.table_id × (1000 ≤ count_by (shares_begin x) (seen k).inlined_row)) × (of_inlined x ≡ j)) r.item (seen k).inlined_row there
      ((sees_still k r.item.table_id low r.is.0.0, omega (arith, many, a, b, d)), r.is.1)))

  pub inlined_right : AreInlinedRight k.t (parts k) (then k)
  inlined_right = record {
    new = tt;
    held = tt;
    columns = all_by (λ (r : InlinedRow). Misfits (parts k).column r → ⊥) (then k).inlined_row
        (λ r there. none_misfit k r (all_in (λ (x : InlinedRow). x.table_id < next k) r (seen k).inlined_row inlined_low (was_seen r there)));
    few = few;
  }
