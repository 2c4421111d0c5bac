-- Rows that are bad, and the keys that they name.
use Rattle.std.specs.Prelude.{◌≡◌, ◌⊎◌, Bool, true, List, [], ◌∷◌}
use Rattle.cat_rows.specs.declared.batch.Key.{Key}

-- one of these is so
abbrev pub SomeOf : {X : Type 0} → (X → Type 0) → List X → Type 0
SomeOf P [] = ⊥
SomeOf P (x ∷ xs) = P x ⊎ SomeOf P xs

-- one of these rows is bad, and this is the key that it names
abbrev pub Names : {R : Type 0} → (R → Key) → (R → Type 0) → List R → Key → Type 0
Names name Bad rows k = SomeOf (λ r. Bad r × (name r ≡ k)) rows

-- the same of a test
abbrev pub NamesIf : {R : Type 0} → (R → Key) → (R → Bool) → List R → Key → Type 0
NamesIf name is_bad rows k = Names name (λ r. is_bad r ≡ true) rows k
