-- Steps that answer a value or a fault. The first fault of a chain of steps is its answer.
use Rattle.std.specs.Prelude.{ℕ, ℤ, List, [], ◌∷◌, ◌==◌, Option, Some, None, Result, Ok, Err, if◌then◌else◌, Bool, true, false, ⊤}
use Rattle.answers.specs.Answers.{◌>>=◌}
use Rattle.pq_meta.specs.declared.fault.MetaFault.{MetaFault}
use Rattle.pq_meta.specs.declared.fault.MetaFault.TheVariants as fault

abbrev pub is_memory : MetaFault → Bool
is_memory fault.Memory = true
is_memory e = false

-- a required field
abbrev pub need : {A : Type 0} → ℤ → Option A → Result A MetaFault
need id None = Err (fault.MissingField id)
need id (Some x) = Ok x

-- the stated number is the number that was found
abbrev pub counted : ℕ → ℕ → Result ⊤ MetaFault
counted want got = if want == got then Ok tt else Err (fault.Count want got)

-- the same step for each of a list
abbrev pub each : {A B : Type 0} → (A → Result B MetaFault) → List A → Result (List B) MetaFault
each step [] = Ok []
each step (a ∷ rest) = step a >>= λ b. each step rest >>= λ bs. Ok (b ∷ bs)
