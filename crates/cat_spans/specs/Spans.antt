-- Spans of numbers in groups: how many spans of a group cover a number, and which span is one too many.
use Rattle.std.specs.Prelude.{◌≡◌, ◌≤◌, ◌<◌, ℕ, Bool, true, ◌&&◌, List, length, take, count_by, Option, Some, None, nat_le}
use Rattle.std.specs.List.{All, AllWithin, HoldsAt, slice_get}
use Rattle.std.specs.Ordering.{is_eq, is_lt}
use Rattle.cat_tables.specs.Table.{key_cmp}
use Rattle.cat_tables.specs.Validity.{is_before}

-- a span: its group, and the numbers that it covers there
pub record Extent : Type 0 where
  pub group : List ℕ
  pub begin : ℕ
  pub end : Option ℕ

-- from its begin up to before its end, or all from its begin on
abbrev pub covers : ℕ → Extent → Bool
covers s x = nat_le x.begin s && is_before s x.end

abbrev pub is_in : List ℕ → Extent → Bool
is_in g x = is_eq (key_cmp x.group g)

-- how many spans of a group cover a number
abbrev pub depth_at : List ℕ → ℕ → List Extent → ℕ
depth_at g s = count_by (λ x. is_in g x && covers s x)

-- the i-th span is one too many: it covers a number that as many earlier spans of its group cover as may
pub record IsPast (limit : ℕ) (spans : List Extent) (i : ℕ) : Type 0 where
  pub span : Extent
  pub number : ℕ
  pub here : slice_get spans i ≡ Some span
  pub covered : covers number span ≡ true
  pub earlier : limit ≤ depth_at span.group number (take i spans)

-- the first that is one too many, if there is one
abbrev pub IsFirstPast : ℕ → List Extent → Option ℕ → Type 0
IsFirstPast limit spans None = (i : ℕ) → IsPast limit spans i → ⊥
IsFirstPast limit spans (Some i) = IsPast limit spans i × ((j : ℕ) → j < i → IsPast limit spans j → ⊥)

-- each number is covered by at most so many spans of a group
abbrev pub IsWithin : ℕ → List Extent → Type 0
IsWithin limit spans = (g : List ℕ) (s : ℕ) → depth_at g s spans ≤ limit

-- some number is covered by more
abbrev pub IsExceeded : ℕ → List Extent → Type 0
IsExceeded limit spans = (g : List ℕ) × (s : ℕ) × (limit < depth_at g s spans)

-- ---- of rows that rise by key

module _ {R : Type 0} (key : R → List ℕ) (span : R → Extent) where
  -- a row below this one that lies in its group over a number
  abbrev pub is_under : R → ℕ → R → Bool
  is_under r s q = is_lt (key_cmp (key q) (key r)) && (is_in (span r).group (span q) && covers s (span q))

  -- the row is one too many: it covers a number that as many rows below it in its group cover as may
  abbrev pub IsRowPast : ℕ → List R → R → Type 0
  IsRowPast limit rows r = (s : ℕ) × (covers s (span r) ≡ true) × (limit ≤ count_by (is_under r s) rows)

  -- the place of the first row that is one too many, if there is one
  abbrev pub IsFirstRowPast : ℕ → List R → Option ℕ → Type 0
  IsFirstRowPast limit rows None = (i : ℕ) (r : R) → slice_get rows i ≡ Some r → IsRowPast limit rows r → ⊥
  IsFirstRowPast limit rows (Some i) =
      (r : R) × (slice_get rows i ≡ Some r) × IsRowPast limit rows r
      × ((j : ℕ) (q : R) → slice_get rows j ≡ Some q → IsRowPast limit rows q → is_lt (key_cmp (key q) (key r)) ≡ true → ⊥)

-- ---- numbers that nothing covers

-- a number that the span covers is covered by none of the others, in its group
abbrev pub HasGap : List Extent → Extent → Type 0
HasGap others x = (s : ℕ) × (covers s x ≡ true) × (depth_at x.group s others ≡ 0)

-- the place of the first span with such a number, if there is one
abbrev pub IsFirstGap : List Extent → List Extent → Option ℕ → Type 0
IsFirstGap others spans None = All (λ x. HasGap others x → ⊥) spans
IsFirstGap others spans (Some i) = (i < length spans) × HoldsAt (HasGap others) spans i × AllWithin (λ x. HasGap others x → ⊥) spans 0 i
