-- What a statement makes of a transaction.
use Rattle.std.specs.Prelude.{◌≡◌, ℕ, Bool, true, false, List, [], ◌∷◌, ◌++◌, length, is_none, nat_lt, not, Option, option_and_then, option_map, unwrap_or}
use Rattle.lake_types.specs.declared.limits.TheConstants.{MAX_COLUMNS}
use Rattle.lake_types.specs.declared.stmt.ColumnDef.{ColumnDef}
use Rattle.lake_types.specs.declared.stmt.Stmt.{Stmt}
use Rattle.lake_types.specs.declared.stmt.TableName.{TableName}
use Rattle.lake_model.specs.Apply.{Work}
use Rattle.lake_model.specs.Plans.{Plan, Append, Leave, Refuse, columns_from, new_columns_fault, or_else, refused_if, schema_named, table_named}
use Rattle.lake_model.specs.State.{State}
use Rattle.lake_model.specs.Step.{plan_of}
use Rattle.lake_model.specs.declared.answer.Answer.{Answer}
use Rattle.lake_model.specs.declared.answer.Answer.TheVariants as answer
use Rattle.lake_model.specs.declared.change.Change.{Change}
use Rattle.lake_model.specs.declared.change.Change.TheVariants as change
use Rattle.lake_model.specs.declared.change.Ref.{Ref}
use Rattle.lake_model.specs.declared.change.Ref.TheVariants as ref
use Rattle.lake_model.specs.declared.change.Txn.{Txn}
use Rattle.cat_view.specs.Named.{NamedVersion}
use Rattle.cat_view.specs.Views.{named_view}
use Rattle.txn_buf.specs.Base.{IsBase}
use Rattle.txn_buf.specs.Keeping.{Keeps, tally_of, txn_of, view_of}
use Rattle.txn_buf.specs.declared.buffer.TxnBuf.{TxnBuf}
use Rattle.txn_buf.specs.declared.no.TxnNo.{TxnNo}
use Rattle.txn_buf.specs.declared.no.TxnNo.TheVariants as no

-- the answer that a refusal is
abbrev pub answer_of : TxnNo → Answer
answer_of no.ReadOnly = answer.ReadOnly
answer_of no.Mixed = answer.Mixed
answer_of (no.NoSchema name) = answer.NoSchema name
answer_of (no.NoTable table) = answer.NoTable table
answer_of (no.NoColumn name) = answer.NoColumn name
answer_of (no.NameUsed name) = answer.NameUsed name
answer_of (no.NotEmpty name) = answer.NotEmpty name
answer_of (no.NotNull name) = answer.NotNull name
answer_of (no.WrongType name) = answer.WrongType name
answer_of (no.NoPromotion name) = answer.NoPromotion name
answer_of no.LastColumn = answer.LastColumn
answer_of (no.Arity want got) = answer.Arity want got
answer_of no.ManyColumns = answer.ManyColumns
answer_of no.TooLarge = answer.TooLarge
answer_of (no.Spent counter) = answer.Spent counter
answer_of no.Memory = answer.Memory

-- what a statement comes to in a transaction on a base
abbrev pub planned : Bool → State → List Change → Stmt → Plan
planned true base own x = Refuse answer.ReadOnly
planned false base own x = plan_of base own x

-- the own list that a plan leaves, where it refuses nothing, under this answer
abbrev pub Leaves : Plan → List Change → List Change → Answer → Type 0
Leaves (Refuse b) own left a = ⊥
Leaves (Append c b) own left a = (left ≡ own ++ c ∷ []) × (b ≡ a)
Leaves (Leave b) own left a = (left ≡ own) × (b ≡ a)

-- the statement is done as planned, whatever the rows of the base are
abbrev pub IsDone : NamedVersion → Txn → Stmt → List Change → Answer → Type 0
IsDone v txn x left a = (base : State) → IsBase v base → Leaves (planned txn.read_only base txn.own x) txn.own left a

-- the statement is refused as planned
abbrev pub IsRefused : NamedVersion → Txn → Stmt → TxnNo → Type 0
IsRefused v txn x why = (base : State) → IsBase v base → planned txn.read_only base txn.own x ≡ Refuse (answer_of why)

-- ---- of buffers, whose files have names

abbrev pub StandsFor : {F : Type 0} → (F → List ℕ) → TxnBuf F → Type 0
StandsFor name buf = Keeps (named_view name (view_of buf)) (txn_of buf).own (tally_of buf)

abbrev pub Does : {F : Type 0} → (F → List ℕ) → TxnBuf F → Stmt → TxnBuf F → Answer → Type 0
Does name old x new a = IsDone (named_view name (view_of old)) (txn_of old) x (txn_of new).own a

abbrev pub Refuses : {F : Type 0} → (F → List ℕ) → TxnBuf F → Stmt → TxnNo → Type 0
Refuses name old x why = IsRefused (named_view name (view_of old)) (txn_of old) x why

-- all but the own list
abbrev pub IsSameTxn : {F : Type 0} → TxnBuf F → TxnBuf F → Type 0
IsSameTxn old new = (view_of new ≡ view_of old) × (txn_of new ≡ record (txn_of old) { own = (txn_of new).own })

-- ---- the changes that statements add, where what they name is there

abbrev pub ref_or_none : Option Ref → Ref
ref_or_none at = unwrap_or at (ref.New 0)

abbrev pub schema_drop : Work → List ℕ → Change
schema_drop w name = change.DropSchema (ref_or_none (schema_named w name))

abbrev pub table_ref : Work → TableName → Option Ref
table_ref w table = option_and_then (λ schema. option_map (λ d. d.at) (table_named w schema table.table)) (schema_named w table.schema)

abbrev pub table_drop : Work → TableName → Change
table_drop w table = change.DropTable (ref_or_none (table_ref w table))

abbrev pub table_creation : Work → TableName → List ColumnDef → Change
table_creation w table defs = change.CreateTable (ref_or_none (schema_named w table.schema)) table.table (columns_from 1 defs)

-- what the creation of a table is refused for, in a schema that is there
abbrev pub creation_fault_in : Work → Ref → List ℕ → List ColumnDef → Option Answer
creation_fault_in w schema name defs =
    or_else (refused_if (not (is_none (table_named w schema name))) (answer.NameUsed name))
    (or_else (refused_if (nat_lt MAX_COLUMNS (length defs)) answer.ManyColumns) (new_columns_fault [] defs))
