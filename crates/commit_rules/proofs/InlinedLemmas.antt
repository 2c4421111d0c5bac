-- The rule about rows that lie in the catalogue itself, after a commit.
use Rattle.std.proofs.Common.{◌≡◌, ℕ, ◌⊎◌, inl, inr, true, List, Option, Some, None, arith, ⊎_elim, ◌<◌}
use Rattle.std.specs.Option.{option_map}
use Rattle.cat_rows.specs.Batches.{holds}
use Rattle.cat_rows.specs.Parts.{Endings, Parts}
use Rattle.cat_rows.specs.Seen.{Seen, seen_at}
use Rattle.cat_rows.specs.Tables.{Tables}
use Rattle.cat_rows.specs.declared.batch.Key.TheVariants as key
use Rattle.cat_rows.specs.declared.files.TableStatsRow.{TableStatsRow}
use Rattle.cat_rows.specs.declared.history.SnapshotRow.{SnapshotRow}
use Rattle.cat_rows.specs.declared.inlined.InlinedRow.{InlinedRow}
use Rattle.inline_rows.specs.Allowed.{IsAllowed, SpellsAllowed}
use Rattle.lake_types.specs.declared.value.Value.{Value}
use Rattle.cat_rows.specs.Validities.{inlined_row_validity}
use Rattle.cat_rows.specs.declared.batch.Key.{Key}
use Rattle.cat_rules.specs.CounterRule.{is_not_past}
use Rattle.cat_rules.specs.EachKept.{SeesTable}
use Rattle.cat_rules.specs.First.{Holds}
use Rattle.cat_rules.specs.InlinedRule.{AreInlinedBad, HasMisfit, HasUnreadableCells, HasWrongRowId, IsInlinedBad, IsPastThousand, IsMisfitIn}
use Rattle.cat_rules.specs.Kept.{IsKept}
use Rattle.cat_rules.specs.Laws.{Grow}
use Rattle.cat_rules.specs.Lookups.{stats_of_table}
use Rattle.cat_rules.specs.Places.{of_inlined}
use Rattle.cat_rules.proofs.DatedLemmas.{all_fine}
use Rattle.cat_rules.proofs.FirstLemmas.{SomeOf_like, all_like}
use Rattle.cat_rules.proofs.SeenLemmas.{or_some}
use Rattle.cat_rules.specs.Rows.{SomeOf}
use Rattle.cat_rules.proofs.LawLemmas.{inlined_ids-stay}
use Rattle.commit_rules.specs.Lawful.{Misfits, seen_then}
use Rattle.commit_rules.specs.Laws.{RuleStays}
use Rattle.commit_rules.proofs.CoreLemmas.{IsCommit, after, after-commit, rule_stays}
use Rattle.commit_rules.proofs.HistoryLemmas.{holds-all}
use Rattle.commit_rules.proofs.CounterLemmas.{counted_before}
use Rattle.commit_rules.proofs.NextLemmas.{all_visible, at_head, next_member, next_some, sees_still}
use Rattle.commit_rules.proofs.StatsLemmas.{below, grow, seen_there, stats_there}
use Rattle.commit_rules.proofs.TableLemmas.{In, all_by, all_in}
use Rattle.std.specs.List.{AllByRecursion}

abbrev AreInlinedWrong : Tables → Seen → Key → Type 0
AreInlinedWrong t seen k = IsInlinedBad t seen k ⊎ IsPastThousand seen k

-- cells with known fields stay so where the next field id grows
allowed_more : (old new : Option TableStatsRow) (q : TableStatsRow) → old ≡ Some q → Grow old new → (bytes : List ℕ) → SpellsAllowed (option_map (λ (s : TableStatsRow). s.next_field_id) old) bytes
    → SpellsAllowed (option_map (λ (s : TableStatsRow). s.next_field_id) new) bytes
allowed_more None new q there growth bytes h = absurd cc
allowed_more (Some old) None q there growth bytes h = (h.0, h.1, (all_like (IsAllowed (Some old.next_field_id)) (IsAllowed None) (λ cell a. (a.0, tt)) h.0 h.2.0, h.2.1))
allowed_more (Some old) (Some new) q there growth bytes h =
    (h.0, h.1, (all_like (IsAllowed (Some old.next_field_id)) (IsAllowed (Some new.next_field_id)) (λ (cell : ℕ × Value) a. (a.0, omega (arith, a.1, growth.1))) h.0 h.2.0, h.2.1))

module _ (t : Tables) (head : SnapshotRow) (p : Parts) (endings : Endings) (c : IsCommit t head p endings) where
  abbrev u : Tables
  u = after t head p endings c

  abbrev Wrong : Tables → ℕ → InlinedRow → Type 0
  Wrong tables s r = HasUnreadableCells tables r ⊎ (HasWrongRowId tables r ⊎ HasMisfit (seen_at s t) r)

  row_still : (s : ℕ) (r : InlinedRow) → holds t (key.Table r.table_id) ≡ true → (Wrong t s r → ⊥) → Wrong u s r → ⊥
  row_still s r there fine (inl bad) =
      fine (inl (λ spells. bad (allowed_more (stats_of_table t r.table_id) (stats_of_table u r.table_id) (stats_there t head p endings c r.table_id there).0 (stats_there t head p endings c r.table_id there).1 (grow t head p endings c r.table_id there) r.cells spells)))
  row_still s r there fine (inr (inl bad)) = inlined_ids-stay t u r (grow t head p endings c r.table_id there) (λ x. fine (inr (inl x))) bad
  row_still s r there fine (inr (inr bad)) = fine (inr (inr bad))

  rows_still : (s : ℕ) → IsKept t s → Holds (AreInlinedWrong t (seen_at s t)) → Holds (AreInlinedWrong u (seen_at s t))
  rows_still s kept h k (inr bad) = h k (inr bad)
  rows_still s kept h k (inl bad) =
      holds-all of_inlined (SeesWrong u) (seen_at s t).inlined_row
      (all_like (λ r. SeesWrong t r → ⊥) (λ r. SeesWrong u r → ⊥) (λ r fine x. row_still s r (seen_there t head p endings c s r.table_id x.0) (λ y. fine (x.0, y)) x.1) (seen_at s t).inlined_row
      (all_fine of_inlined (SeesWrong t) (seen_at s t).inlined_row (λ j x. h j (inl x)))) k bad
    where
      SeesWrong : Tables → InlinedRow → Type 0
      SeesWrong tables r = SeesTable (seen_at s t) r.table_id × Wrong tables s r

  abbrev before : Seen
  before = seen_at head.snapshot_id t

  abbrev now : Seen
  now = seen_then t head p endings

  rows_below : AllByRecursion (λ (r : InlinedRow). r.table_id < head.next_catalog_id) t.inlined_row
  rows_below =
      all_like _ (λ (r : InlinedRow). r.table_id < head.next_catalog_id) (λ r fine. below head.next_catalog_id r.table_id fine) t.inlined_row
      (all_fine of_inlined (λ (r : InlinedRow). is_not_past head.next_catalog_id r.table_id ≡ true) t.inlined_row (λ k h. counted_before t head p endings c k (inr (inr (inr (inr (inr (inr (inr (inr h))))))))))

  -- what doesn't fit a column that is seen doesn't fit one that was, or a new one
  misfit_either : (r : InlinedRow) → HasMisfit now r → HasMisfit before r ⊎ Misfits p.column r
  misfit_either r bad =
      ⊎_elim (λ kept. inl (bad.0, bad.1, kept)) (λ new. inr (bad.0, bad.1, new))
      (or_some (λ cell. SomeOf (IsMisfitIn r cell) before.column) (λ cell. SomeOf (IsMisfitIn r cell) p.column) bad.0
      (SomeOf_like (λ cell. SomeOf (IsMisfitIn r cell) now.column) (λ cell. SomeOf (IsMisfitIn r cell) before.column ⊎ SomeOf (IsMisfitIn r cell) p.column) (λ cell. next_some _ (IsMisfitIn r cell) before.column p.column) bad.0 bad.2))

  -- a row that was seen is right with its table, if it's still seen
  row_seen : (r : InlinedRow) → In r before.inlined_row → (Misfits p.column r → ⊥) → SeesTable now r.table_id → HasUnreadableCells u r ⊎ (HasWrongRowId u r ⊎ HasMisfit now r) → ⊥
  row_seen r there fits sees wrong = ⊎_elim (λ bad. row_still head.snapshot_id r is_there right bad) fits (turn wrong)
    where
      low : r.table_id < head.next_catalog_id
      low = all_in (λ (q : InlinedRow). q.table_id < head.next_catalog_id) r before.inlined_row (all_visible inlined_row_validity (λ (q : InlinedRow). q.table_id < head.next_catalog_id) (λ q h. h) head.snapshot_id t.inlined_row rows_below) there

      saw : SeesTable before r.table_id
      saw = sees_still t head p endings c r.table_id low sees

      is_there : holds t (key.Table r.table_id) ≡ true
      is_there = seen_there t head p endings c head.snapshot_id r.table_id saw

      right : Wrong t head.snapshot_id r → ⊥
      right bad =
          all_in (λ (q : InlinedRow). SeesTable before q.table_id × Wrong t head.snapshot_id q → ⊥) r before.inlined_row
          (all_fine of_inlined (λ (q : InlinedRow). SeesTable before q.table_id × Wrong t head.snapshot_id q) before.inlined_row (λ k x. at_head t head p endings c AreInlinedWrong c.sane.1.1.1.1.1.1.1.1.1.0 k (inl x))) there (saw, bad)

      turn : HasUnreadableCells u r ⊎ (HasWrongRowId u r ⊎ HasMisfit now r) → Wrong u head.snapshot_id r ⊎ Misfits p.column r
      turn (inl bad) = inl (inl bad)
      turn (inr (inl bad)) = inl (inr (inl bad))
      turn (inr (inr bad)) = ⊎_elim (λ kept. inl (inr (inr kept))) (λ new. inr new) (misfit_either r bad)

  row_new : (r : InlinedRow) → In r p.inlined_row → HasUnreadableCells u r ⊎ (HasWrongRowId u r ⊎ HasMisfit now r) → ⊥
  row_new r there (inl bad) = all_in (λ (q : InlinedRow). HasUnreadableCells u q ⊎ HasWrongRowId u q → ⊥) r p.inlined_row c.lawful.inlined_rows.new there (inl bad)
  row_new r there (inr (inl bad)) = all_in (λ (q : InlinedRow). HasUnreadableCells u q ⊎ HasWrongRowId u q → ⊥) r p.inlined_row c.lawful.inlined_rows.new there (inr bad)
  row_new r there (inr (inr bad)) = all_in (λ (q : InlinedRow). Misfits now.column q → ⊥) r p.inlined_row c.lawful.inlined_rows.held there bad

  inlined_now : Holds (AreInlinedWrong u now)
  inlined_now k (inr bad) = c.lawful.inlined_rows.few k bad
  inlined_now k (inl bad) = holds-all of_inlined SeesWrong now.inlined_row (all_by (λ (r : InlinedRow). SeesWrong r → ⊥) now.inlined_row one) k bad
    where
      SeesWrong : InlinedRow → Type 0
      SeesWrong r = SeesTable now r.table_id × (HasUnreadableCells u r ⊎ (HasWrongRowId u r ⊎ HasMisfit now r))

      one : (r : InlinedRow) → In r now.inlined_row → SeesWrong r → ⊥
      one r there x =
          ⊎_elim (λ kept. row_seen r kept (all_in (λ (q : InlinedRow). Misfits p.column q → ⊥) r now.inlined_row c.lawful.inlined_rows.columns there) x.0 x.1) (λ new. row_new r new x.1)
          (next_member _ before.inlined_row p.inlined_row r there)

  inlined_after : Holds (AreInlinedBad u)
  inlined_after = rule_stays t head p endings c AreInlinedWrong rows_still c.sane.1.1.1.1.1.1.1.1.1.0 inlined_now

pub inlined-stay : RuleStays AreInlinedBad
inlined-stay = after-commit (λ (u : Tables). Holds (AreInlinedBad u)) inlined_after
