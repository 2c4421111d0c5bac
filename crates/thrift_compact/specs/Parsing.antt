-- What a private function returned, compared with what reading gives.
use Rattle.std.specs.Prelude.{◌≡◌, ℕ, List, Result, Ok, Err}
use Rattle.std.specs.Borrow.{Bor}
use Rattle.thrift_compact.specs.declared.fault.ThriftFault.{ThriftFault}
use Rattle.thrift_compact.specs.Reading.{Read, Rest}

-- a value and the bytes behind it
abbrev pub Parses : {A : Type 0} → Result (A × Bor (List ℕ)) ThriftFault → Read A → Type 0
Parses (Ok x) read = read ≡ Ok (x.0, x.1.now)
Parses (Err fault) read = read ≡ Err fault

-- a slice and the bytes behind it
abbrev pub ParsesSlice : Result (Bor (List ℕ) × Bor (List ℕ)) ThriftFault → Read (List ℕ) → Type 0
ParsesSlice (Ok x) read = read ≡ Ok (x.0.now, x.1.now)
ParsesSlice (Err fault) read = read ≡ Err fault

-- the bytes behind what was passed over
abbrev pub Leaves : Result (Bor (List ℕ)) ThriftFault → Rest → Type 0
Leaves (Ok rest) read = read ≡ Ok rest.now
Leaves (Err fault) read = read ≡ Err fault
