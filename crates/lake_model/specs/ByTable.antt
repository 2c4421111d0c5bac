-- What a list does to one table depends on the list and on that table's draft alone.
use Rattle.std.specs.Prelude.{ℕ, ◌+◌, List, [], ◌∷◌, ◌++◌, map, Option, Some, None, if◌then◌else◌}
use Rattle.std.specs.List.{cons_option, filter_map}
use Rattle.lake_model.specs.Apply.{Draft, altered, created, drafted}
use Rattle.lake_model.specs.Kinds.{is_drop_of_table}
use Rattle.lake_model.specs.State.{State}
use Rattle.lake_model.specs.declared.change.Change.{Change}
use Rattle.lake_model.specs.declared.change.Change.TheVariants as change

-- a table's draft after a list, or none where the list drops it
abbrev pub draft_after : List Change → Draft → Option Draft
draft_after [] d = Some d
draft_after (c ∷ own) d = if is_drop_of_table d.at c then None else draft_after own (altered c d)

-- the tables that a list creates and doesn't drop, the first of which has this place among its creations
abbrev pub made_from : ℕ → List Change → List Draft
made_from place [] = []
made_from place (change.CreateTable schema name columns ∷ own) =
    cons_option (draft_after own (created place schema name columns)) (made_from (place + 1) own)
made_from place (c ∷ own) = made_from place own

-- the tables after a list: each old one by itself, and then those that it makes
abbrev pub tables_after : State → List Change → List Draft
tables_after s own = filter_map (draft_after own) (map drafted s.tables) ++ made_from 0 own
