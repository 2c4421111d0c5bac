-- Rows with a validity interval: each is valid from the snapshot at which it begins until the one at which it
-- ends, or for good. What a snapshot sees of them.
use Rattle.std.specs.Prelude.{◌≡◌, ◌≢◌, ◌≤◌, ◌+◌, ℕ, Bool, true, false, ◌&&◌, List, map, filter, fold, Option, Some, None, nat_lt, nat_le, if◌then◌else◌, is_none}
use Rattle.std.specs.List.{AllByRecursion}
use Rattle.cat_tables.specs.Table.{edited, has_key}

-- how a sort of row keeps its interval
pub record Validity (R : Type 0) : Type 0 where
  pub begin : R → ℕ
  pub end : R → Option ℕ
  pub with_end : Option ℕ → R → R

-- s is before the end, if there is one
abbrev pub is_before : ℕ → Option ℕ → Bool
is_before s None = true
is_before s (Some n) = nat_lt s n

-- there is no end past n
abbrev pub EndsBy : ℕ → Option ℕ → Type 0
EndsBy n None = Unit {0}
EndsBy n (Some e) = e ≤ n

-- these rows end at one snapshot
abbrev pub ends_at : {R : Type 0} → (R → List ℕ) → ℕ → List R → List (List ℕ × ℕ)
ends_at key n rows = map (λ r. (key r, n)) rows

module _ {R : Type 0} (v : Validity R) where
  -- the interval holds s: the row begins at s or before, and ends past it or never
  abbrev pub is_visible : ℕ → R → Bool
  is_visible s r = nat_le (v.begin r) s && is_before s (v.end r)

  -- What snapshot s sees, without the ends: that a row ends later makes no difference at s.
  abbrev pub visible_at : ℕ → List R → List R
  visible_at s rows = map (v.with_end None) (filter (is_visible s) rows)

  -- a row that has no end ends at n; an end that is there stays
  abbrev pub ended_at : ℕ → R → R
  ended_at n r = if is_none (v.end r) then v.with_end (Some n) r else r

  -- the rows of these keys end there
  abbrev pub all_ended : (R → List ℕ) → List (List ℕ × ℕ) → List R → List R
  all_ended key ends rows = fold (λ rs e. edited key (ended_at e.1) e.0 rs) rows ends

  -- the row neither begins nor ends past n
  abbrev pub IsBy : ℕ → R → Type 0
  IsBy n r = (v.begin r ≤ n) × EndsBy n (v.end r)

  -- the row begins at n, and has no end
  abbrev pub IsNew : ℕ → R → Type 0
  IsNew n r = (v.begin r ≡ n) × (v.end r ≡ None)

  -- s doesn't see the row of a key
  abbrev pub IsUnseen : (R → List ℕ) → ℕ → List ℕ → List R → Type 0
  IsUnseen key s k rows = AllByRecursion (λ r. has_key key k r ≡ true → is_visible s r ≡ false) rows

  -- a row that passes p neither begins nor ends at n + 1
  abbrev pub Rests : (R → Bool) → ℕ → R → Type 0
  Rests p n r = p r ≡ true → (v.begin r ≢ n + 1) × (v.end r ≢ Some (n + 1))

  -- only a row that s names begins or ends at s
  abbrev pub Tells : (R → Bool) → ℕ → R → Type 0
  Tells named s r = named r ≡ false → (v.begin r ≢ s) × (v.end r ≢ Some s)

-- what is true of each sort of row
pub record IsValidity {R : Type 0} (v : Validity R) (key : R → List ℕ) : Type 0 where
  pub begin_stays : (e : Option ℕ) (r : R) → v.begin (v.with_end e r) ≡ v.begin r
  pub end_is : (e : Option ℕ) (r : R) → v.end (v.with_end e r) ≡ e
  pub last_end : (e f : Option ℕ) (r : R) → v.with_end e (v.with_end f r) ≡ v.with_end e r
  pub key_stays : (e : Option ℕ) (r : R) → key (v.with_end e r) ≡ key r
  pub opens : (r : R) → v.end r ≡ None → v.with_end None r ≡ r
