-- What an INSERT comes to over what a transaction sees, and how much its rows weigh.
use Rattle.std.specs.Prelude.{ℕ, ◌+◌, nat_le, List, [], ◌∷◌, length, if◌then◌else◌}
use Rattle.lake_types.specs.declared.limits.TheConstants.{MAX_TXN_WEIGHT}
use Rattle.lake_types.specs.declared.stmt.Cell.{Cell}
use Rattle.lake_types.specs.declared.stmt.TableName.{TableName}
use Rattle.lake_model.specs.Apply.{Cells, Work}
use Rattle.lake_model.specs.Plans.{Plan, Append, Leave, Refuse}
use Rattle.lake_model.specs.Rows.{change_weight, insert}
use Rattle.lake_model.specs.declared.answer.Answer.TheVariants as answer
use Rattle.lake_model.specs.declared.change.Change.TheVariants as change
use Rattle.lake_model.specs.declared.change.Ref.{Ref}

-- rows that are inserted into a table; where there are none, nothing is appended
abbrev pub plan_of_rows : Ref → List Cells → Plan
plan_of_rows at [] = Leave (answer.Number 0)
plan_of_rows at (row ∷ rows) = Append (change.Insert at (row ∷ rows)) (answer.Number (length (row ∷ rows)))

-- how much the rows weigh that a plan inserts
abbrev pub plan_weight : Work → Plan → ℕ
plan_weight w (Append c a) = change_weight w [] c
plan_weight w p = 0

-- a plan to insert, where its rows have room beside those that the list made before
abbrev pub with_room : ℕ → Work → Plan → Plan
with_room before w (Append c a) = if nat_le (before + change_weight w [] c) MAX_TXN_WEIGHT then Append c a else Refuse answer.TooLarge
with_room before w p = p

-- what the statement comes to, and how much its rows weigh
abbrev pub insertion : ℕ → Work → TableName → List (List Cell) → Plan
insertion before w table rows = with_room before w (insert w table rows)

abbrev pub insertion_weight : Work → TableName → List (List Cell) → ℕ
insertion_weight w table rows = plan_weight w (insert w table rows)
