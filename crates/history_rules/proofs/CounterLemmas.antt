-- What the newest snapshot finds bad.
use Rattle.std.proofs.Common.{◌≡◌, Option, Some, subst}
use Rattle.cat_rows.specs.declared.history.SnapshotRow.{SnapshotRow}
use Rattle.cat_rows.specs.Tables.{Tables}
use Rattle.cat_rows.specs.declared.batch.Key.{Key}
use Rattle.cat_rules.specs.CounterRule.{IsIdBad, IsPastCounters}
use Rattle.cat_rules.specs.First.{FirstBad}
use Rattle.cat_rules.specs.Kept.{newest}
use Rattle.cat_rules.proofs.FirstLemmas.{first_like}

-- what the newest snapshot finds bad
pub first_of_newest : (t : Tables) (n : SnapshotRow) (o : Option Key) → newest t.snapshot ≡ Some n → FirstBad (IsPastCounters t n) o → FirstBad (IsIdBad t) o
first_of_newest t n o e h = first_like (IsPastCounters t n) (IsIdBad t) (λ k bad. (n, e, bad)) back o h
  where
    back : (k : Key) → IsIdBad t k → IsPastCounters t n k
    back k bad =
        let T : SnapshotRow → Type 0 = λ m. IsPastCounters t m k in
        let found = bad.1 in
        let same : bad.0 ≡ n = cc in
        subst T same bad.2
