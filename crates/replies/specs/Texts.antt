-- The lines of a reply. What stands in a line is said by `lake_model`.
use Rattle.std.specs.Prelude.{◌≡◌, ℕ, List, ◌++◌, flat_map, length, take}
use Rattle.lake_model.specs.Texts.{answer_text, printed, printed_row, shown}
use Rattle.lake_model.specs.declared.answer.Reply.{Reply}

-- the rows, and then the answer, each a line under the head
abbrev pub reply_text : List ℕ → Reply → List ℕ
reply_text head reply = flat_map (printed_row head) reply.rows ++ printed head (shown (answer_text reply.last))

-- a list has this one at its front
abbrev pub BeginsWith : List ℕ → List ℕ → Type 0
BeginsWith list front = take (length front) list ≡ front
