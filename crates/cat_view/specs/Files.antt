-- The files that lie on a disk, as the catalogue and the plain lake meet in them: each name has bytes and a sheet.
use Rattle.std.specs.Prelude.{◌≡◌, ℕ, true, List, Option, is_some, option_and_then}
use Rattle.lake_types.specs.declared.sheet.Sheet.{Sheet}

-- a file: its bytes, and the sheet that they hold, where they hold one
pub record Filed : Type 0 where
  pub bytes : List ℕ
  pub sheet : Option Sheet

-- The files that are there, by name. They may be any part of those on a disk: what says nothing of a name, needs none.
abbrev pub Files : Type 0
Files = List ℕ → Option Filed

abbrev pub sheet_at : Files → List ℕ → Option Sheet
sheet_at files name = option_and_then (λ (f : Filed). f.sheet) (files name)

-- what is there stays as it is, and other files may come
abbrev pub Extends : Files → Files → Type 0
Extends files more = (name : List ℕ) → is_some (files name) ≡ true → more name ≡ files name
