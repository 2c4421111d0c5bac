-- Which table a SELECT is of, and what it is refused for.
use Rattle.std.specs.Prelude.{◌≡◌, ℕ, List, [], map, Option, Some, None, option_and_then}
use Rattle.lake_types.specs.declared.pred.Pred.{Pred}
use Rattle.lake_types.specs.declared.stmt.Item.{Item}
use Rattle.lake_types.specs.declared.stmt.Item.TheVariants as item
use Rattle.lake_types.specs.declared.stmt.TableName.{TableName}
use Rattle.lake_model.specs.Apply.{Draft, Work}
use Rattle.lake_model.specs.Plans.{schema_named, table_named}
use Rattle.lake_model.specs.Rows.{select_fault}
use Rattle.lake_model.specs.declared.answer.Answer.{Answer}
use Rattle.lake_model.specs.declared.answer.Answer.TheVariants as answer
use Rattle.lake_model.specs.declared.change.Ref.{Ref}
use Rattle.scan_exec.specs.declared.fault.ScanFault.{ScanFault}
use Rattle.scan_exec.specs.declared.fault.ScanFault.TheVariants as fault

-- the table of a name
abbrev pub table_of : Work → TableName → Option Draft
table_of w table = option_and_then (λ schema. table_named w schema table.table) (schema_named w table.schema)

-- the items of a SELECT of these columns; that of all columns has none
abbrev pub items_of : Option (List (List ℕ)) → List Item
items_of None = []
items_of (Some names) = map item.Column names

-- what the plain lake refuses it for, in the order of its conditions
abbrev pub refusal_at : TableName → Option (List (List ℕ)) → Option Pred → Option Draft → Option Answer
refusal_at table names test None = Some (answer.NoTable table)
refusal_at table names test (Some d) = select_fault d (items_of names) test

abbrev pub refusal_in : Work → TableName → Option (List (List ℕ)) → Option Pred → Option Ref → Option Answer
refusal_in w table names test None = Some (answer.NoSchema table.schema)
refusal_in w table names test (Some schema) = refusal_at table names test (table_named w schema table.table)

abbrev pub refusal : Work → TableName → Option (List (List ℕ)) → Option Pred → Option Answer
refusal w table names test = refusal_in w table names test (schema_named w table.schema)

-- the plain lake's refusal that a fault is; those of the disk and of memory are none of its
abbrev pub told : TableName → ScanFault → Option Answer
told table fault.NoSchema = Some (answer.NoSchema table.schema)
told table fault.NoTable = Some (answer.NoTable table)
told table (fault.NoColumn name) = Some (answer.NoColumn name)
told table (fault.WrongType name) = Some (answer.WrongType name)
told table why = None

abbrev pub IsNoAnswer : ScanFault → Type 0
IsNoAnswer why = (table : TableName) → told table why ≡ None
