-- A script that is read in pieces and answered as it comes in.
use Rattle.std.specs.Prelude.{◌≡◌, ◌≤◌, ℕ, Bool, true, false, List, [], ◌∷◌, length, Option}
use Rattle.lake_io.specs.Told.{Gives, IsAtEnd}
use Rattle.lake_top.specs.Desks.{Answers, Moment, Stops}
use Rattle.lake_top.specs.declared.desk.Desk.{Desk}
use Rattle.lake_top.specs.declared.desk.Stop.{Stop}
use Rattle.lake_top.specs.declared.desk.Stop.TheVariants as stop
use Rattle.lake_top.specs.declared.halt.Halt.{Halt}
use Rattle.lake_top.specs.declared.halt.Halt.TheVariants as halt

module _ {F : Type 0} where
  -- so many bytes of a source are answered into a sink
  pub record Moves (old new : Desk F) (a b : Moment) (count : ℕ) (left left' taken taken' : Option (List ℕ)) : Type 0 where
    pub bytes : List ℕ
    pub counts : length bytes ≡ count
    pub given : Gives left left' bytes
    pub answered : Answers old new a b bytes taken taken'

  -- the bytes of the last piece that a source gave, within which the desk stopped
  pub record StopsOff (stop : Stop) (old : Desk F) (a b : Moment) (left left' taken taken' : Option (List ℕ)) : Type 0 where
    pub bytes : List ℕ
    pub small : length bytes ≤ 65536
    pub given : Gives left left' bytes
    pub stopped : Stops stop old a b bytes taken taken'

  -- what one piece and the end of the input come to where the run halts there
  abbrev pub TurnHalts : Halt → Desk F → Moment → Moment → Option (List ℕ) → Option (List ℕ) → Option (List ℕ) → Option (List ℕ) → Type 0
  TurnHalts halt.Read old a b left left' taken taken' = Moves old old a b 0 left left' taken taken'
  TurnHalts halt.Write old a b left left' taken taken' = StopsOff stop.Write old a b left left' taken taken'
  TurnHalts halt.Memory old a b left left' taken taken' = StopsOff stop.Memory old a b left left' taken taken'
  TurnHalts halt.TooLong old a b left left' taken taken' = ⊥

  abbrev pub FinishHalts : Halt → Desk F → Moment → Moment → Option (List ℕ) → Option (List ℕ) → Type 0
  FinishHalts halt.Read old a b taken taken' = ⊥
  FinishHalts halt.Write old a b taken taken' = Stops stop.Write old a b (10 ∷ []) taken taken'
  FinishHalts halt.Memory old a b taken taken' = Stops stop.Memory old a b (10 ∷ []) taken taken'
  FinishHalts halt.TooLong old a b taken taken' = ⊥

-- whether a source has given more bytes, or is at its end
abbrev pub GivesMore : Bool → Option (List ℕ) → Option (List ℕ) → Type 0
GivesMore true left left' = (bytes : List ℕ) × Gives left left' bytes
GivesMore false left left' = IsAtEnd left' × Gives left left' []
