-- The first bad row of a rule. A rule says of each key whether it is bad, a row's that is there or a missing one's.
use Rattle.std.specs.Prelude.{◌≡◌, Bool, true, Option, Some, None, if◌then◌else◌}
use Rattle.cat_rows.specs.declared.batch.Key.{Key}
use Rattle.cat_rules.specs.Places.{is_sooner}

-- no key is bad
abbrev pub Holds : (Key → Type 0) → Type 0
Holds Bad = (k : Key) → Bad k → ⊥

-- a bad key before which none stands, and none exactly where no key is bad
abbrev pub FirstBad : (Key → Type 0) → Option Key → Type 0
FirstBad Bad None = Holds Bad
FirstBad Bad (Some k) = Bad k × ((j : Key) → Bad j → is_sooner j k ≡ true → ⊥)

-- the one that stands before the other
abbrev pub sooner : Option Key → Option Key → Option Key
sooner None found = found
sooner (Some k) None = Some k
sooner (Some k) (Some j) = if is_sooner j k then Some j else Some k

-- the key that a row names, where it is bad
abbrev pub told : {R : Type 0} → (R → Key) → (R → Bool) → R → Option Key
told name is_bad r = if is_bad r then Some (name r) else None

-- the key, exactly where this is bad
abbrev pub Judges : Type 0 → Key → Option Key → Type 0
Judges Bad k None = Bad → ⊥
Judges Bad k (Some j) = Bad × (j ≡ k)
