-- Snapshots rise by their ids.
use Rattle.std.proofs.Common.{◌≡◌, ℕ, ◌<◌, List, [], ◌∷◌, refl, Ordering, Less, Equal, Greater}
use Rattle.std.specs.List.{AllByRecursion}
use Rattle.std.specs.Ordering.{MatchOrdering, nat_cmp, ordering_then}
use Rattle.std.proofs.lemmas.Cmp.{ranked}
use Rattle.cat_tables.specs.Table.{IsBelow, key_cmp}
use Rattle.cat_rows.specs.Keys.{snapshot_key}
use Rattle.cat_rows.specs.declared.history.SnapshotRow.{SnapshotRow}

pub below_lt : (a b : ℕ) → key_cmp (a ∷ []) (b ∷ []) ≡ Less → a < b
below_lt a b h = go (nat_cmp a b) (ranked a b (nat_cmp a b) refl) h
  where
    go : (o : Ordering) → MatchOrdering o (a < b) (a ≡ b) (b < a) → ordering_then o Equal ≡ Less → a < b
    go Less m h = m
    go Equal m h = absurd cc
    go Greater m h = absurd cc

pub above : (r : SnapshotRow) (rs : List SnapshotRow) → AllByRecursion (IsBelow snapshot_key r) rs → AllByRecursion (λ q. r.snapshot_id < q.snapshot_id) rs
above r [] h = tt
above r (q ∷ rs) h = (below_lt r.snapshot_id q.snapshot_id h.0, above r rs h.1)
