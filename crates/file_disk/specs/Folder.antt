-- What a folder holds, and how a call may change it.
use Rattle.std.specs.Prelude.{◌≡◌, ◌≢◌, ◌⊎◌, ⊤, ℕ, List, [], ◌∷◌, Option, Some, None}
use Rattle.std.specs.Cmp.Lexicographic.{slice_cmp}
use Rattle.std.specs.List.{AllByRecursion}
use Rattle.std.specs.Ordering.{nat_cmp}
use Rattle.std.specs.declared.cmp.Ordering.TheVariants.{Less}

-- the bytes under each name that is there
abbrev pub Folder : Type 0
Folder = List ℕ → Option (List ℕ)

-- every name has the bytes that it had
abbrev pub Same : Folder → Folder → Type 0
Same old new = (name : List ℕ) → new name ≡ old name

-- every name but this one has the bytes that it had
abbrev pub SameBut : List ℕ → Folder → Folder → Type 0
SameBut name old new = (other : List ℕ) → other ≢ name → new other ≡ old other

-- A disk tells its files after a call exactly where it told them before, and then they have changed in this way.
abbrev pub Changes : (Folder → Folder → Type 0) → Option Folder → Option Folder → Type 0
Changes step (Some old) (Some new) = step old new
Changes step None None = Unit {0}
Changes step (Some old) None = ⊥
Changes step None (Some new) = ⊥

-- An image is a folder that a crash may leave. This one comes from an image before the call, with at most what
-- stands under the name changed, and that in this way.
pub record ComesFrom (how : Option (List ℕ) → Option (List ℕ) → Type 0) (name : List ℕ) (before : Folder → Type 0) (image : Folder) : Type 0 where
  pub old : Folder
  pub was : before old
  pub others : SameBut name old image
  pub at_name : how (old name) (image name)

-- each image after a call comes so from one before it
abbrev pub Touches : (Option (List ℕ) → Option (List ℕ) → Type 0) → List ℕ → (Folder → Type 0) → (Folder → Type 0) → Type 0
Touches how name before after = (image : Folder) → after image → ComesFrom how name before image

-- each image after a call was one before it
abbrev pub AddsNone : (Folder → Type 0) → (Folder → Type 0) → Type 0
AddsNone before after = (image : Folder) → after image → before image

-- what stands under a name may become anything
abbrev pub MayBecomeAny : Option (List ℕ) → Option (List ℕ) → Type 0
MayBecomeAny old new = Unit {0}

-- what is there stays
abbrev pub StaysIfThere : Option (List ℕ) → Option (List ℕ) → Type 0
StaysIfThere old new = (old ≡ None) ⊎ (new ≡ old)

-- it stays or goes
abbrev pub StaysOrGoes : Option (List ℕ) → Option (List ℕ) → Type 0
StaysOrGoes old new = (new ≡ old) ⊎ (new ≡ None)

-- the order of names, by their bytes
abbrev pub ComesBefore : List ℕ → List ℕ → Type 0
ComesBefore a b = slice_cmp nat_cmp a b ≡ Less

-- each name comes before all that follow it
abbrev pub Rises : List (List ℕ) → Type 0
Rises [] = ⊤
Rises (name ∷ names) = AllByRecursion (ComesBefore name) names × Rises names
