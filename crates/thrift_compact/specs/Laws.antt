-- What holds of the spellings.
use Rattle.std.specs.Prelude.{◌≡◌, ◌≤◌, ◌+◌, ◌⊎◌, ◌++◌, ℕ, List, length, Ok, Err}
use Rattle.thrift_compact.specs.declared.fault.ThriftFault.{ThriftFault}
use Rattle.thrift_compact.specs.declared.fault.ThriftFault.TheVariants.{Short, BadType, TooDeep, TooWide}
use Rattle.thrift_compact.specs.Reading.{Read, after_value}

-- No spelling begins another one: where two of them begin the same bytes, they are the same, and so is what follows.
abbrev pub NoneBeginsAnother : {A : Type 0} → (List ℕ → A → Type 0) → Type 0
NoneBeginsAnother {A} S = (a b x y : List ℕ) (s t : A) → S a s → S b t → a ++ x ≡ b ++ y → (a ≡ b) × (x ≡ y)

-- a spelling says one thing
abbrev pub SaysOne : {A : Type 0} → (List ℕ → A → Type 0) → Type 0
SaysOne {A} S = (bytes : List ℕ) (s t : A) → S bytes s → S bytes t → s ≡ t

-- these bytes, whatever follows, are read as x
abbrev pub ReadsBack : {A : Type 0} → (List ℕ → Read A) → List ℕ → A → Type 0
ReadsBack read bytes x = (rest : List ℕ) → read (bytes ++ rest) ≡ Ok (x, rest)

abbrev pub IsShort : ThriftFault → Type 0
IsShort (Short at) = Unit {0}
IsShort (BadType at ty) = ⊥
IsShort (TooDeep at) = ⊥
IsShort (TooWide at) = ⊥

-- A fault other than `Short` stands, whatever bytes follow: the bytes up to it decide.
abbrev pub FaultsStand : {A : Type 0} → (List ℕ → Read A) → Type 0
FaultsStand read =
    (bytes more : List ℕ) (fault : ThriftFault) → read bytes ≡ Err fault → IsShort fault ⊎ (read (bytes ++ more) ≡ Err fault)

-- the same of values that are passed over, whose offsets count from the end of all bytes
abbrev pub ValueFaultsStand : ℕ → ℕ → Type 0
ValueFaultsStand depth ty =
    (end : ℕ) (bytes more : List ℕ) (fault : ThriftFault) → length bytes ≤ end → after_value end depth ty bytes ≡ Err fault
    → IsShort fault ⊎ (after_value (end + length more) depth ty (bytes ++ more) ≡ Err fault)
