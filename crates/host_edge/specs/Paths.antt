-- Names of files that lie in a folder itself, and their paths.
use Rattle.std.specs.Prelude.{◌≡◌, ◌≢◌, ℕ, List, [], ◌++◌, All, codes}

-- a byte that ends no name and no path: neither `/` nor NUL
abbrev pub IsInName : ℕ → Type 0
IsInName byte = (byte ≢ 47) × (byte ≢ 0)

-- a name that can be one of a file in the folder itself, and no step out of it
pub record IsPlain (name : List ℕ) : Type 0 where
  pub some : name ≢ []
  pub own : name ≢ codes "."
  pub above : name ≢ codes ".."
  pub bytes : All IsInName name

-- the path of a plain name in a folder
abbrev pub IsPathIn : List ℕ → List ℕ → List ℕ → Type 0
IsPathIn folder name path = IsPlain name × (path ≡ folder ++ codes "/" ++ name)
