-- Rows that refer to rows of another table: the first whose other is missing, or isn't seen wherever the row is.
use Rattle.std.proofs.Common.{◌≡◌, inl, inr, ⊎_elim, Bool, true, List, Option, Some, None, is_none, refl, sym, subst, true≢false, Decides}
use Rattle.cat_tables.specs.Table.{RisesByKey}
use Rattle.cat_tables.specs.Validity.{Validity}
use Rattle.cat_rows.specs.Keys.{snapshot_key}
use Rattle.cat_rows.specs.Tables.{Tables}
use Rattle.cat_rows.specs.declared.batch.Key.{Key}
use Rattle.cat_rules.specs.First.{FirstBad, Holds}
use Rattle.cat_rules.specs.HistoryRule.{IsSnapshotBad}
use Rattle.cat_rules.specs.Kept.{kept_of}
use Rattle.cat_rules.specs.Rows.{Names, NamesIf}
use Rattle.cat_rules.specs.Sight.{IsSeen, IsSeenWithout, IsUnmatched, IsUnmatchedBy, LacksOther, MissesOther, outlasts_other}
use Rattle.cat_rules.proofs.DatedLemmas.{AreDated, none_missing}
use Rattle.cat_rules.proofs.FirstLemmas.{all_like, first_like, first_names, names_from, names_to}
use Rattle.cat_rules.proofs.SightLemmas.{IsDated, is_seen, outlasts_is}

module _ {R S : Type 0} (t : Tables) (up : RisesByKey snapshot_key t.snapshot) (history : Holds (IsSnapshotBad t)) (v : Validity R) (w : Validity S) (other : R → Option S) where
  decides_lacks : (r : R) → IsDated t v r → Decides (is_none (other r)) (LacksOther t v w other r)
  decides_lacks r d = go (other r) refl
    where
      go : (p : Option S) → other r ≡ p → Decides (is_none p) (LacksOther t v w other r)
      go None e = (λ x. (is_seen t up (none_missing t history) v r d, e), λ x. refl)
      go (Some q) e = (λ x. absurd (true≢false (sym x)), λ x. let lacks = x.1 in absurd cc)

  decides_misses : ((r : R) (q : S) → other r ≡ Some q → IsDated t w q) → (r : R) → IsDated t v r → Decides (outlasts_other (kept_of t.snapshot).first v w r (other r)) (MissesOther t v w other r)
  decides_misses others r d = go (other r) refl
    where
      go : (p : Option S) → other r ≡ p → Decides (outlasts_other (kept_of t.snapshot).first v w r p) (MissesOther t v w other r)
      go None e = (λ x. absurd (true≢false (sym x)), λ x. let found = x.1 in absurd cc)
      go (Some q) e =
          let both = outlasts_is t up (none_missing t history) v w r q d (others r q e) in (
            λ x. (q, e, both.0 x),
            λ x. let found = x.1 in let same : x.0 ≡ q = cc in let T : S → Type 0 = λ p. IsSeenWithout t v w r p in both.1 (subst T same x.2),
          )

  -- where all rows lie within the kept snapshots, their intervals decide
  pub first_unmatched : (other_name name : R → Key) (rows : List R) (o : Option Key) → AreDated t v rows → ((r : R) (q : S) → other r ≡ Some q → IsDated t w q)
      → FirstBad (IsUnmatchedBy t v w other other_name name rows (kept_of t.snapshot).first) o → FirstBad (IsUnmatched t v w other other_name name rows) o
  first_unmatched other_name name rows o dated others h =
      let lacks = all_like _ _ decides_lacks rows dated in
      let misses = all_like _ _ (decides_misses others) rows dated in
      let lacking : R → Bool = λ r. is_none (other r) in
      let missing : R → Bool = λ r. outlasts_other (kept_of t.snapshot).first v w r (other r) in
      first_like (IsUnmatchedBy t v w other other_name name rows (kept_of t.snapshot).first) (IsUnmatched t v w other other_name name rows)
      (λ k p. ⊎_elim (λ x. inl (names_from other_name lacking (LacksOther t v w other) rows lacks k x)) (λ x. inr (names_from name missing (MissesOther t v w other) rows misses k x)) p)
      (λ k p. ⊎_elim (λ x. inl (names_to other_name lacking (LacksOther t v w other) rows lacks k x)) (λ x. inr (names_to name missing (MissesOther t v w other) rows misses k x)) p)
      o h

-- a test of rows that are seen, as all are that lie within the kept snapshots
pub first_seen : {R : Type 0} (t : Tables) (up : RisesByKey snapshot_key t.snapshot) (history : Holds (IsSnapshotBad t)) (v : Validity R) (name : R → Key) (is_bad : R → Bool) (rows : List R) (o : Option Key)
    → AreDated t v rows → FirstBad (NamesIf name is_bad rows) o → FirstBad (Names name (λ r. IsSeen t v r × (is_bad r ≡ true)) rows) o
first_seen t up history v name is_bad rows o dated h =
    first_names name is_bad (λ r. IsSeen t v r × (is_bad r ≡ true)) rows o (all_like _ _ (λ r d. (λ e. (is_seen t up (none_missing t history) v r d, e), λ p. p.1)) rows dated) h
