-- What sixteen sessions have open.
use Rattle.std.proofs.Common.{◌≡◌, ◌≢◌, ◌≤◌, ◌<◌, ◌-◌, ℕ, zero, suc, List, [], ◌∷◌, length, Option, None, IfSome, slice_set, true, ◌∙◌, arith}
use Rattle.std.specs.List.{AllByRecursion}
use Rattle.std.proofs.lemmas.List.{get_or-set_other, get_or-set_same, length-set}
use Rattle.lake_types.specs.declared.limits.TheConstants.{MAX_SESSIONS}
use Rattle.lake_model.specs.Core.{is_session}
use Rattle.door.specs.Opened.{Opened}
use Rattle.cat_core.specs.Shown.{opened_in}

from-one : (s : ℕ) → is_session s ≡ true → 1 ≤ s
from-one s h = search arith

to-sixteen : (s : ℕ) → is_session s ≡ true → s ≤ 16
to-sixteen s h = search arith

apart : (s other : ℕ) → is_session s ≡ true → is_session other ≡ true → other ≢ s → other - 1 ≢ s - 1
apart s other p q ne e = ne (omega (arith, from-one s p, from-one other q, e))

within : (s : ℕ) (opens : List (Option Opened)) → is_session s ≡ true → length opens ≡ MAX_SESSIONS → s - 1 < length opens
within s opens p l = omega (arith, from-one s p, to-sixteen s p, l)

-- a session has open what was put in its slot
pub opened_same : (opens : List (Option Opened)) (s : ℕ) (o : Option Opened) → is_session s ≡ true → length opens ≡ MAX_SESSIONS → opened_in (slice_set opens (s - 1) o) s ≡ o
opened_same opens s o p l = get_or-set_same opens (s - 1) o None (within s opens p l)

-- and every other one what it had
pub opened_other : (opens : List (Option Opened)) (s other : ℕ) (o : Option Opened) → is_session s ≡ true → is_session other ≡ true → other ≢ s
    → opened_in (slice_set opens (s - 1) o) other ≡ opened_in opens other
opened_other opens s other o p q ne = get_or-set_other opens (s - 1) (other - 1) o None (apart s other p q ne)

pub still-sixteen : (opens : List (Option Opened)) (s : ℕ) (o : Option Opened) → length opens ≡ MAX_SESSIONS → length (slice_set opens (s - 1) o) ≡ MAX_SESSIONS
still-sixteen opens s o l = length-set opens (s - 1) o ∙ l

-- ---- what holds of all that is open

module _ {X : Type 0} (P : X → Type 0) where
  pub all-set : (xs : List (Option X)) (i : ℕ) (x : Option X) → AllByRecursion (λ (o : Option X). IfSome o P) xs → IfSome x P → AllByRecursion (λ (o : Option X). IfSome o P) (slice_set xs i x)
  all-set [] i x h k = tt
  all-set (o ∷ xs) zero x h k = (k, h.1)
  all-set (o ∷ xs) (suc i) x h k = (h.0, all-set xs i x h.1 k)
