-- What a table has after a batch, and what the batch's snapshot sees of it.
use Rattle.std.specs.Prelude.{◌≡◌, ℕ, ◌+◌, Bool, not, List, ◌++◌, filter}
use Rattle.std.specs.List.{AllByRecursion}
use Rattle.cat_tables.specs.Table.{ArePast, RisesByKey, put_all}
use Rattle.cat_tables.specs.Validity.{IsBy, IsNew, Validity, all_ended, ends_at, visible_at}

-- new rows whose keys are past all are appended
abbrev pub PutsLast : {R : Type 0} → (R → List ℕ) → Type 0
PutsLast {R} key = (news rows : List R) → ArePast key news rows → put_all key news rows ≡ rows ++ news

-- Where no row begins or ends past n, and at n + 1 those that pass a test among the rows that n sees end, and new
-- ones with keys past all begin, n + 1 sees the others of those that n sees, and the new ones behind them.
abbrev pub SeesNow : {R : Type 0} → (R → List ℕ) → Validity R → Type 0
SeesNow {R} key v = (n : ℕ) (p : R → Bool) (news rows : List R)
    → RisesByKey key rows → AllByRecursion (IsBy v n) rows → AllByRecursion (IsNew v (n + 1)) news → ArePast key news rows
    → visible_at v (n + 1) (put_all key news (all_ended v key (ends_at key (n + 1) (filter p (visible_at v n rows))) rows))
    ≡ filter (λ r. not (p r)) (visible_at v n rows) ++ news
