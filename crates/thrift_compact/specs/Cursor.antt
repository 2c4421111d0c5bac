-- A reader as its contracts see it: how many bytes it has passed, and those that are left.
use Rattle.std.specs.Prelude.{◌≡◌, ℕ, ◌+◌, ◌++◌, length, List, Result, Ok, Err, ⊤}
use Rattle.std.specs.Borrow.{Bor}
use Rattle.thrift_compact.specs.declared.fault.ThriftFault.{ThriftFault}
use Rattle.thrift_compact.specs.declared.fault.ThriftFault.TheVariants.{Short, BadType, TooDeep, TooWide}
use Rattle.thrift_compact.specs.Reading.{Read, Rest}

pub record Cursor : Type 0 where
  pub at : ℕ
  pub rest : List ℕ

-- the offset at which the bytes end
abbrev pub end_of : Cursor → ℕ
end_of c = c.at + length c.rest

-- The reader has moved past bytes that spell x, and past nothing else.
pub record MovesPast {A : Type 0} (S : List ℕ → A → Type 0) (old new : Cursor) (x : A) : Type 0 where
  pub front : List ℕ
  pub parts : old.rest ≡ front ++ new.rest
  pub moved : new.at ≡ old.at + length front
  pub spells : S front x

-- The reader has moved past bytes that spell something.
pub record MovesPastSome {A : Type 0} (S : List ℕ → A → Type 0) (old new : Cursor) : Type 0 where
  pub value : A
  pub past : MovesPast S old new value

-- No front of these bytes spells anything.
pub record NoneAt {A : Type 0} (S : List ℕ → A → Type 0) (bytes : List ℕ) : Type 0 where
  pub never : (front more : List ℕ) (x : A) → bytes ≡ front ++ more → S front x → ⊥

-- the offset that a fault names
abbrev pub place_of : ThriftFault → ℕ
place_of (Short at) = at
place_of (BadType at ty) = at
place_of (TooDeep at) = at
place_of (TooWide at) = at

-- What was read is the item at this place. A fault says that there is none, and names the place; the reader stands where it stood.
unfoldable pub Finds : {A : Type 0} → (List ℕ → A → Type 0) → Cursor → Cursor → Result A ThriftFault → Type 0
Finds S old new (Ok x) = MovesPast S old new x
Finds S old new (Err fault) = NoneAt S old.rest × (place_of fault ≡ old.at) × (new ≡ old)

-- What was read is what reading gives, and the reader has moved past it. After a fault it stands where it stood.
abbrev pub Reads : {A : Type 0} → Cursor → Cursor → Result A ThriftFault → Read A → Type 0
Reads old new (Ok x) read = (read ≡ Ok (x, new.rest)) × (end_of new ≡ end_of old)
Reads old new (Err fault) read = (read ≡ Err fault) × (new ≡ old)

-- the same of a slice
abbrev pub ReadsSlice : Cursor → Cursor → Result (Bor (List ℕ)) ThriftFault → Read (List ℕ) → Type 0
ReadsSlice old new (Ok slice) read = (read ≡ Ok (slice.now, new.rest)) × (end_of new ≡ end_of old)
ReadsSlice old new (Err fault) read = (read ≡ Err fault) × (new ≡ old)

-- The reader has moved past some value of this type. A fault says that there is none, and the reader stands where it stood.
unfoldable pub FindsSome : {A : Type 0} → (List ℕ → A → Type 0) → Cursor → Cursor → Result ⊤ ThriftFault → Type 0
FindsSome S old new (Ok unit) = MovesPastSome S old new
FindsSome S old new (Err fault) = NoneAt S old.rest × (new ≡ old)

-- what was passed over is what reading passes over
abbrev pub Skips : Cursor → Cursor → Result ⊤ ThriftFault → Rest → Type 0
Skips old new (Ok unit) read = (read ≡ Ok new.rest) × (end_of new ≡ end_of old)
Skips old new (Err fault) read = (read ≡ Err fault) × (new ≡ old)
