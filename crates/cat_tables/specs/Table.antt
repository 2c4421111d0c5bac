-- The rows of one table, rising by their keys, and the three edits that a batch makes of them.
use Rattle.std.specs.Prelude.{◌≡◌, ℕ, Bool, true, false, not, List, [], ◌∷◌, filter, find, fold, map, Option, if◌then◌else◌, ⊤, refl}
use Rattle.std.specs.Cmp.Lexicographic.{slice_cmp}
use Rattle.std.specs.Coded.{Coded, code_by, coded×, coded_list, coded_ℕ}
use Rattle.std.specs.List.{AllByRecursion}
use Rattle.std.specs.Ordering.{is_lt, is_eq, nat_cmp}
use Rattle.std.specs.declared.cmp.Ordering.{Ordering}
use Rattle.std.specs.declared.cmp.Ordering.TheVariants.{Less}

-- a table: its rows, and how many more there is room for
pub record Stored (R : Type 0) : Type 0 where
  pub rows : List R
  pub room : ℕ

abbrev pub stored_code : {R : Type 0} → Coded R → Coded (Stored R)
stored_code {R} code = code_by (List R × ℕ) (coded× (coded_list code) coded_ℕ) (λ s. (s.rows, s.room)) (λ p. record { rows = p.0; room = p.1 }) (λ _. refl)

-- The order of keys. A key is a list of numbers: those of its columns, or the bytes of a text.
abbrev pub key_cmp : List ℕ → List ℕ → Ordering
key_cmp = slice_cmp nat_cmp

-- each element stands so to all that follow it
abbrev pub IsAscending : {X : Type 0} → (X → X → Type 0) → List X → Type 0
IsAscending R [] = ⊤
IsAscending R (x ∷ xs) = AllByRecursion (R x) xs × IsAscending R xs

module _ {R : Type 0} (key : R → List ℕ) where
  abbrev pub IsBelow : R → R → Type 0
  IsBelow a b = key_cmp (key a) (key b) ≡ Less

  -- the keys rise, so each stands once
  abbrev pub RisesByKey : List R → Type 0
  RisesByKey = IsAscending IsBelow

  abbrev pub has_key : List ℕ → R → Bool
  has_key k r = is_eq (key_cmp (key r) k)

  -- the row of a key
  abbrev pub row_of : List ℕ → List R → Option R
  row_of k = find (has_key k)

  -- no row has this key
  abbrev pub LacksKey : List ℕ → List R → Type 0
  LacksKey k = AllByRecursion (λ r. has_key k r ≡ false)

  -- the rows, with this one at its place
  abbrev pub put : R → List R → List R
  put new [] = new ∷ []
  put new (r ∷ rs) = if is_lt (key_cmp (key r) (key new)) then r ∷ put new rs else new ∷ r ∷ rs

  -- the rows, with each of these at its place
  abbrev pub put_all : List R → List R → List R
  put_all news rows = fold (λ rs r. put r rs) rows news

  -- each new row's key is past those of all rows and of the new rows before it
  abbrev pub ArePast : List R → List R → Type 0
  ArePast [] rows = ⊤
  ArePast (new ∷ news) rows =
      AllByRecursion (λ r. is_lt (key_cmp (key r) (key new)) ≡ true) rows
      × AllByRecursion (λ r. is_lt (key_cmp (key new) (key r)) ≡ true) news × ArePast news rows

  -- the rows without the one of this key
  abbrev pub without : List ℕ → List R → List R
  without k = filter (λ r. not (has_key k r))

  -- the rows without those of these keys
  abbrev pub all_removed : List (List ℕ) → List R → List R
  all_removed ks rows = fold (λ rs k. without k rs) rows ks

  -- the rows, with the one of this key changed
  abbrev pub edited : (R → R) → List ℕ → List R → List R
  edited f k = map (λ r. if has_key k r then f r else r)
