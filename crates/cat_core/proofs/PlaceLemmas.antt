-- What is put at a session's place, and numbers of snapshots.
use Rattle.std.proofs.Common.{◌≡◌, ℕ, List, map, slice_set, Option, Some, None, IsSome, option_map, refl, ap, ◌∙◌}
use Rattle.std.proofs.lemmas.List.{map-set}
use Rattle.std.proofs.lemmas.Option.{same_Some}
use Rattle.cat_rows.specs.declared.history.SnapshotRow.{SnapshotRow}

-- a place among sixteen, and what is told of it
pub set_told : {A B : Type 0} (f : A → B) (xs : List A) (i j : ℕ) (x : A) → i ≡ j → map f (slice_set xs i x) ≡ slice_set (map f xs) j (f x)
set_told f xs i j x e = map-set f xs i x ∙ ap (λ k. slice_set (map f xs) k (f x)) e

-- a snapshot of a number
pub record HasNumber (o : Option SnapshotRow) (n : ℕ) : Type 0 where
  pub row : SnapshotRow
  pub is : o ≡ Some row
  pub number : row.snapshot_id ≡ n

pub has_number : (o : Option SnapshotRow) (n : ℕ) → option_map (λ (r : SnapshotRow). r.snapshot_id) o ≡ Some n → HasNumber o n
has_number None n e = absurd (cc e)
has_number (Some row) n e = record { row = row; is = refl; number = same_Some row.snapshot_id n e }

pub is_there : (o : Option SnapshotRow) (n : ℕ) → option_map (λ (r : SnapshotRow). r.snapshot_id) o ≡ Some n → IsSome o
is_there None n e = absurd (cc e)
is_there (Some row) n e = refl
