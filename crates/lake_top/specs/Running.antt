-- Lines that are answered one after the other.
use Rattle.std.specs.Prelude.{◌≤◌, ℕ, ◌+◌, ◌-◌, ◌^◌, min, Bool, true, false, List, [], ◌∷◌, ◌++◌, filter, length}
use Rattle.lake_model.specs.Replay.{IsReplay, Lake, Line, lake_after, lost_in}
use Rattle.lake_model.specs.declared.answer.Answer.{Answer}
use Rattle.lake_model.specs.declared.answer.Answer.TheVariants as answer
use Rattle.lake_model.specs.declared.answer.Reply.{Reply}
use Rattle.lake_top.specs.Sixteen.{IsSaid, reply_text}

-- the replies to lines, in their order, as they are printed
abbrev pub texts_of : List Line → List Reply → List ℕ
texts_of [] replies = []
texts_of (line ∷ lines) [] = []
texts_of (line ∷ lines) (reply ∷ replies) = reply_text line reply ++ texts_of lines replies

-- each line has its reply, for a lake for which all stood before the first
abbrev pub Runs : List Line → List Reply → (Lake → Type 0) → Lake → Type 0
Runs [] [] after lake = after lake
Runs [] (reply ∷ replies) after lake = ⊥
Runs (line ∷ lines) [] after lake = ⊥
Runs (line ∷ lines) (reply ∷ replies) after lake = IsSaid line reply (Runs lines replies after) lake

-- The text is that of the replay with the losses that it shows, and its lake stands afterwards.
pub record Replays (lines : List Line) (text : List ℕ) (after : Lake → Type 0) (lake : Lake) : Type 0 where
  pub replay : IsReplay lake lines text
  pub now : after (lake_after lake lines (lost_in text))

-- ---- causes

abbrev pub is_keeper : Answer → Bool
is_keeper answer.Keeper = true
is_keeper a = false

abbrev pub is_disk : Answer → Bool
is_disk answer.Disk = true
is_disk a = false

-- so many replies have such an answer
abbrev pub number_with : (Answer → Bool) → List Reply → ℕ
number_with is replies = length (filter (λ (r : Reply). is r.last) replies)

-- They are at most as many as a count rose, as long as it doesn't stand at its last value. It doesn't fall.
pub record IsRiseOf (number before now : ℕ) : Type 0 where
  pub later : before ≤ now
  pub rise : min (before + number) (2 ^ 64 - 1) ≤ now
