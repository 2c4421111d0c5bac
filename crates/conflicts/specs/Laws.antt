-- What holds of the first conflict between two lists of kinds.
use Rattle.std.specs.Prelude.{◌≡◌, ◌↔◌, ℕ, true, false, List, ◌∷◌, ◌++◌, Some, None}
use Rattle.std.specs.List.{AllByRecursion}
use Rattle.lake_model.specs.Clashes.{conflicts, first_clash}
use Rattle.lake_types.specs.declared.kind.Clash.{Clash}
use Rattle.lake_types.specs.declared.kind.Kind.{Kind}

-- none of mine conflicts with this one of theirs
abbrev pub IsApart : List Kind → Kind → Type 0
IsApart mine t = AllByRecursion (λ m. conflicts m t ≡ false) mine

-- no kind of mine conflicts with one of theirs
abbrev pub AreApart : List Kind → List Kind → Type 0
AreApart mine theirs = AllByRecursion (IsApart mine) theirs

abbrev pub NoneWhereNoPairStands : Type 0
NoneWhereNoPairStands =
    (mine : List Kind) (n : ℕ) (theirs : List Kind) → (first_clash mine n theirs ≡ None) ↔ AreApart mine theirs

-- The two kinds stand in the lists and conflict. Before theirs stands none that one of mine conflicts with, and
-- before mine none that conflicts with theirs.
pub record IsFirst (mine : List Kind) (n : ℕ) (theirs : List Kind) (c : Clash) : Type 0 where
  pub snapshot_is : c.snapshot ≡ n
  pub sooner : List Kind
  pub later : List Kind
  pub mine_stands : mine ≡ sooner ++ c.mine ∷ later
  pub before : List Kind
  pub behind : List Kind
  pub theirs_stands : theirs ≡ before ++ c.theirs ∷ behind
  pub conflict : conflicts c.mine c.theirs ≡ true
  pub none_before : AreApart mine before
  pub none_sooner : IsApart sooner c.theirs

abbrev pub SomeIsFirstPair : Type 0
SomeIsFirstPair =
    (mine : List Kind) (n : ℕ) (theirs : List Kind) (c : Clash)
    → (first_clash mine n theirs ≡ Some c) ↔ IsFirst mine n theirs c
