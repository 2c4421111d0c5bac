-- Rows in groups, by the id of what they belong to.
use Rattle.std.specs.Prelude.{◌≡◌, ◌==◌, ℕ, Bool, false, List, [], ◌∷◌, ◌++◌, filter, take, Option, Some, None, if◌then◌else◌}
use Rattle.std.specs.List.{filter_map, slice_get}

abbrev pub is_owner : ℕ → Option ℕ → Bool
is_owner id None = false
is_owner id (Some owner) = owner == id

-- the rows at some places
abbrev pub rows_at : {R : Type 0} → List R → List ℕ → List R
rows_at rows places = filter_map (slice_get rows) places

-- the rows of one owner, in their order
abbrev pub rows_of : {R : Type 0} → (R → Option ℕ) → ℕ → List R → List R
rows_of owner id rows = filter (λ r. is_owner id (owner r)) rows

-- these are the places of the owner's rows among the first n
abbrev pub IsGroupOf : {R : Type 0} → (R → Option ℕ) → List R → ℕ → ℕ → List ℕ → Type 0
IsGroupOf owner rows n id places = rows_at rows places ≡ rows_of owner id (take n rows)

abbrev pub IsGroup : {R : Type 0} → (R → Option ℕ) → List R → ℕ → List ℕ → Type 0
IsGroup owner rows id places = rows_at rows places ≡ rows_of owner id rows

-- ids as keys, so that they rise and are found as rows are
abbrev pub id_key : ℕ → List ℕ
id_key id = id ∷ []

-- the groups, with one more place in that of the owner
abbrev pub with_place : Option ℕ → ℕ → List ℕ → List (List ℕ) → List (List ℕ)
with_place owner place [] groups = groups
with_place owner place (id ∷ ids) [] = []
with_place owner place (id ∷ ids) (g ∷ groups) = (if is_owner id owner then g ++ place ∷ [] else g) ∷ with_place owner place ids groups

-- the group of an id
abbrev pub group_in : ℕ → List ℕ → List (List ℕ) → List ℕ
group_in id [] groups = []
group_in id (x ∷ ids) [] = []
group_in id (x ∷ ids) (g ∷ groups) = if x == id then g else group_in id ids groups
