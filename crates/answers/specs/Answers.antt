-- What a call answers where a definition gives a value or the first fault. Memory may run out at any place, of which a
-- definition says nothing: a test of the faults, is_memory, tells that one from the others.
use Rattle.std.specs.Prelude.{◌≡◌, Bool, Result, Ok, Err}
use Rattle.std.specs.Bool.{OnFalse}

-- one step after another: the first fault stands
infixl 10 ◌>>=◌
abbrev pub ◌>>=◌ : {A B E : Type 0} → Result A E → (A → Result B E) → Result B E
(Ok x) >>= f = f x
(Err e) >>= f = Err e

-- a result, its fault seen from another type of faults
abbrev pub raised : {A E F : Type 0} → (E → F) → Result A E → Result A F
raised raise (Ok x) = Ok x
raised raise (Err e) = Err (raise e)

-- the fault is the definition's, or memory ran out
abbrev pub Fails : {A E : Type 0} → (E → Bool) → E → Result A E → Type 0
Fails is_memory e read = OnFalse (is_memory e) (read ≡ Err e)

-- A result, seen by view, is what the definition gives: its value exactly where it has one, its fault exactly where it
-- has one, or want of memory.
abbrev pub Gives : {A B E : Type 0} → (E → Bool) → (A → B) → Result A E → Result B E → Type 0
Gives is_memory view (Ok x) read = read ≡ Ok (view x)
Gives is_memory view (Err e) read = Fails is_memory e read

-- the same of a value that definitions see as it is
abbrev pub Answers : {A E : Type 0} → (E → Bool) → Result A E → Result A E → Type 0
Answers is_memory result read = Gives is_memory (λ x. x) result read

-- P holds of x and of nothing else
pub record IsOnly {A : Type 0} (P : A → Type 0) (x : A) : Type 0 where
  pub holds : P x
  pub only : (other : A) → P other → other ≡ x

-- P holds of nothing
abbrev pub IsNever : {A : Type 0} → (A → Type 0) → Type 0
IsNever {A} P = (x : A) → P x → ⊥

-- A result, seen by view, is the one value of which P holds; or P holds of none, or memory ran out.
abbrev pub Decides : {A B E : Type 0} → (E → Bool) → (A → B) → (B → Type 0) → Result A E → Type 0
Decides is_memory view P (Ok x) = IsOnly P (view x)
Decides is_memory view P (Err e) = OnFalse (is_memory e) (IsNever P)
