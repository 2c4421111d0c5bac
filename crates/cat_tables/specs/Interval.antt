-- Intervals of snapshots: from a begin on, up to before an end or for good.
use Rattle.std.specs.Prelude.{ℕ, Bool, true, false, ◌&&◌, ◌||◌, Option, Some, None, max, min, nat_le, nat_lt}
use Rattle.cat_tables.specs.Validity.{Validity, is_before}
use Rattle.cat_tables.specs.declared.interval.Interval.{Interval}

-- that of a row
abbrev pub interval_of : {R : Type 0} → Validity R → R → Interval
interval_of v r = record { begin = v.begin r; end = v.end r }

-- s is in the interval
abbrev pub has : ℕ → Interval → Bool
has s i = nat_le i.begin s && is_before s i.end

-- the part from a snapshot on
abbrev pub from : ℕ → Interval → Interval
from first i = record { begin = max first i.begin; end = i.end }

abbrev pub sooner_end : Option ℕ → Option ℕ → Option ℕ
sooner_end None f = f
sooner_end (Some e) None = Some e
sooner_end (Some e) (Some f) = Some (min e f)

-- what both hold: from the later begin to the sooner end
abbrev pub common : Interval → Interval → Interval
common i j = record { begin = max i.begin j.begin; end = sooner_end i.end j.end }

-- both hold the later begin
abbrev pub meets : Interval → Interval → Bool
meets i j = is_before (max i.begin j.begin) i.end && is_before (max i.begin j.begin) j.end

abbrev pub ends_sooner : Option ℕ → Option ℕ → Bool
ends_sooner None e = false
ends_sooner (Some f) None = true
ends_sooner (Some f) (Some e) = nat_lt f e

-- the one holds a snapshot, from the first on, that the other doesn't, where neither is empty there
abbrev pub outlasts : ℕ → Interval → Interval → Bool
outlasts first i j = nat_lt (max first i.begin) j.begin || ends_sooner j.end i.end
