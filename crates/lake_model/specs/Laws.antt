-- What holds of the plain lake.
use Rattle.std.specs.Prelude.{◌≡◌, ◌≢◌, ◌<◌, ◌≤◌, ◌+◌, ◌^◌, ℕ, List, [], ◌∷◌, length, map, IsSome, Option, Some, None, if◌then◌else◌}
use Rattle.std.specs.List.{AllByRecursion}
use Rattle.lake_types.specs.Cells.{cell_at, laid_cells}
use Rattle.lake_types.specs.Kinds.{AreInOrder, SaysWith, changes_text, name_of}
use Rattle.lake_types.specs.declared.kind.SchemaName.{SchemaName}
use Rattle.lake_types.specs.declared.stmt.Stmt.{Stmt}
use Rattle.lake_types.specs.declared.value.Column.{Column}
use Rattle.lake_types.specs.declared.value.Row.{Row}
use Rattle.lake_types.specs.declared.value.Value.{Value}
use Rattle.lake_model.specs.Apply.{apply, worked}
use Rattle.lake_model.specs.ByTable.{tables_after}
use Rattle.lake_model.specs.Core.{Core, HaveKinds, head, version_at, with_version}
use Rattle.lake_model.specs.Creations.{creations}
use Rattle.lake_model.specs.Fits.{Fits}
use Rattle.lake_model.specs.Growth.{IsGrowth, grown_state, new_schemas, new_tables}
use Rattle.lake_model.specs.Kinds.{drops_schema, kinds, table_of}
use Rattle.lake_model.specs.Losses.{LossSort, loss_sort}
use Rattle.lake_model.specs.Replay.{AreLosses, IsLossText, IsReplay, Lake, Line, LostWhereListed, lost_in, replay_text}
use Rattle.lake_model.specs.State.{State, Table}
use Rattle.lake_model.specs.Step.{step}
use Rattle.lake_model.specs.Texts.{answer_text, shown}
use Rattle.lake_model.specs.declared.answer.Answer.{Answer}
use Rattle.lake_model.specs.declared.change.Change.{Change}
use Rattle.lake_model.specs.declared.change.Change.TheVariants as change
use Rattle.lake_model.specs.declared.change.Ref.{Ref}
use Rattle.lake_model.specs.declared.change.Ref.TheVariants as ref

-- ---- replays

-- a text that was made with some lost lines shows which they were
abbrev pub LostLinesAreShown : Type 0
LostLinesAreShown = (lake : Lake) (lines : List Line) (lost : List (Option (List ℕ))) → AreLosses lines lost → lost_in (replay_text lake lines lost) ≡ lost

-- so it is the text of a replay, where each line is lost where it may be
abbrev pub TextsAreReplays : Type 0
TextsAreReplays =
    (lake : Lake) (lines : List Line) (lost : List (Option (List ℕ))) → AreLosses lines lost → LostWhereListed lake lines lost
    → IsReplay lake lines (replay_text lake lines lost)

-- the text of each answer that stands for a loss, whatever name is in it
abbrev pub LossesHaveTexts : Type 0
LossesHaveTexts = (a : Answer) (s : LossSort) → loss_sort a ≡ Some s → IsLossText (Some (shown (answer_text a)))

-- and no statement of the plain lake answers one
abbrev pub StepsLoseNothing : Type 0
StepsLoseNothing = (core : Core) (own : List Change) (session : ℕ) (x : Stmt) (s : LossSort) → loss_sort (step core own session x).reply.last ≡ Some s → ⊥

-- ---- kinds

-- the kinds of a list stand in order, each once, so that a text spells them
abbrev pub KindsAreInOrder : Type 0
KindsAreInOrder = (names : List SchemaName) (own : List Change) → AreInOrder (kinds names own)

-- ---- apply, table by table

abbrev pub GoesByTable : Type 0
GoesByTable = (s : State) (own : List Change) → (worked s own).tables ≡ tables_after s own

-- ---- rows that are laid twice

-- A later column of a table, and a row that was laid into the table's columns before: where the column was there, it had
-- the same initial default, and where it wasn't, the row has no cell for it, since no field id is given twice.
pub record IsLater (before : List Column) (cells : List (ℕ × Value)) (d : Column) : Type 0 where
  pub same : AllByRecursion (λ (c : Column). c.field ≡ d.field → c.initial ≡ d.initial) before
  pub new : AllByRecursion (λ (c : Column). c.field ≢ d.field) before → cell_at cells d.field ≡ None

-- Laid into a table's columns and then into its later ones, a row is laid into the later ones: what was dropped goes, and
-- what was added reads as its default.
abbrev pub LaysOnce : Type 0
LaysOnce =
    (before later : List Column) (cells : List (ℕ × Value)) → AllByRecursion (IsLater before cells) later
    → laid_cells later (laid_cells before cells) ≡ laid_cells later cells

-- ---- row ids

-- numbers that rise, all of them below a limit
abbrev pub RiseBelow : ℕ → List ℕ → Type 0
RiseBelow limit [] = Unit {0}
RiseBelow limit (x ∷ xs) = (x < limit) × AllByRecursion (λ y. x < y) xs × RiseBelow limit xs

-- the ids of a table's rows rise and lie below its next one
abbrev pub HasRowIds : Table → Type 0
HasRowIds t = RiseBelow t.next_row (map (λ (r : Row). r.id) t.rows)

-- so it is of the new lake, and a list keeps it
abbrev pub RowIdsRise : Type 0
RowIdsRise = (s : State) (own : List Change) → AllByRecursion HasRowIds s.tables → AllByRecursion HasRowIds (apply s own).tables

-- ---- catalogue ids

-- no number stands in both lists
abbrev pub AreApart : List ℕ → List ℕ → Type 0
AreApart xs ys = AllByRecursion (λ x. AllByRecursion (λ y. x ≢ y) ys) xs

abbrev pub schema_ids : State → List ℕ
schema_ids s = map (λ (x : SchemaName). x.id) s.schemas

abbrev pub table_ids : State → List ℕ
table_ids s = map (λ (t : Table). t.id) s.tables

-- the ids of schemas rise, and so do those of tables; all lie below the next one, and no schema and table have one id
pub record HasCatalogIds (s : State) : Type 0 where
  pub schemas : RiseBelow s.next_catalog (schema_ids s)
  pub tables : RiseBelow s.next_catalog (table_ids s)
  pub apart : AreApart (schema_ids s) (table_ids s)

-- a list keeps that, whatever it does
abbrev pub CatalogIdsRise : Type 0
CatalogIdsRise = (s : State) (own : List Change) → HasCatalogIds s → HasCatalogIds (apply s own)

-- a schema of the state keeps its name until a list drops it
abbrev pub SchemasStay : Type 0
SchemasStay =
    (s : State) (own : List Change) (id : ℕ) → id < s.next_catalog
    → name_of (apply s own).schemas id ≡ (if drops_schema own (ref.Old id) then None else name_of s.schemas id)

-- ---- cells

abbrev pub fields_of : List Column → List ℕ
fields_of columns = map (λ (c : Column). c.field) columns

-- a cell for each column, in the columns' order, and no other
abbrev pub HasCellsOf : List Column → List (ℕ × Value) → Type 0
HasCellsOf columns cells = map (λ (cell : ℕ × Value). cell.0) cells ≡ fields_of columns

-- each row of a table has exactly the cells of its columns
abbrev pub HasCells : Table → Type 0
HasCells t = AllByRecursion (λ (r : Row). HasCellsOf t.columns r.cells) t.rows

-- a list keeps that, whatever it does
abbrev pub CellsStand : Type 0
CellsStand = (s : State) (own : List Change) → AllByRecursion HasCells s.tables → AllByRecursion HasCells (apply s own).tables

-- ---- field ids

-- the field ids of a table's columns rise, from 1 at the least, and lie below its next one
pub record HasFieldIds (t : Table) : Type 0 where
  pub rise : RiseBelow t.next_field (fields_of t.columns)
  pub positive : AllByRecursion (λ n. 1 ≤ n) (fields_of t.columns)
  pub next_positive : 1 ≤ t.next_field

-- a list that a transaction may have keeps that, since an added column has the next field id of its table
abbrev pub FieldIdsRise : Type 0
FieldIdsRise =
    (s : State) (own : List Change) → HasCatalogIds s → Fits s own → AllByRecursion HasFieldIds s.tables
    → AllByRecursion HasFieldIds (apply s own).tables

-- ---- kinds and texts

-- an id of the base, if it is one, is a number of 64 bits; a schema that is dropped has a name in the base
abbrev pub KnownTable : Ref → Type 0
KnownTable (ref.Old id) = id < 2 ^ 64
KnownTable (ref.New place) = Unit {0}

abbrev pub KnownSchema : List SchemaName → Ref → Type 0
KnownSchema names (ref.Old id) = (id < 2 ^ 64) × IsSome (name_of names id)
KnownSchema names (ref.New place) = Unit {0}

abbrev pub KnownTarget : Option Ref → Type 0
KnownTarget None = Unit {0}
KnownTarget (Some table) = KnownTable table

-- what a change drops or changes is known
abbrev pub IsKnown : List SchemaName → Change → Type 0
IsKnown names (change.DropSchema schema) = KnownSchema names schema
IsKnown names (change.DropTable table) = KnownTable table
IsKnown names c = KnownTarget (table_of c)

-- a list that a transaction may have changes only what is known
abbrev pub FitsKnown : Type 0
FitsKnown =
    (s : State) (own : List Change) → HasCatalogIds s → s.next_catalog ≤ 2 ^ 64 → Fits s own
    → AllByRecursion (IsKnown s.schemas) own

-- The text of a list's kinds spells them; the base has the schemas of these names.
abbrev pub KindsAreSpelled : Type 0
KindsAreSpelled =
    (names : List SchemaName) (own : List Change) → AllByRecursion (IsKnown names) own
    → SaysWith names (changes_text (kinds names own)) (kinds names own)

-- so each version goes on having the kinds that its text spells
abbrev pub VersionsHaveKinds : Type 0
VersionsHaveKinds =
    (core : Core) (own : List Change) → core.versions ≢ []
    → AllByRecursion (IsKnown (version_at core (head core)).state.schemas) own
    → HaveKinds core.versions → HaveKinds (with_version core own).versions

-- ---- lists that only create, drop and insert

-- such a list leaves the old schemas and tables that it doesn't drop, with its rows behind those of each table, and behind
-- them stand the created ones that it leaves
abbrev pub GrowsByTable : Type 0
GrowsByTable = (s : State) (own : List Change) → AllByRecursion IsGrowth own → apply s own ≡ grown_state s own

-- the ids of created schemas and of created tables: all from the next one on and below a limit, in order of creation
pub record HasNewIds (next limit : ℕ) (schema_ids table_ids : List ℕ) : Type 0 where
  pub schemas : RiseBelow limit schema_ids
  pub tables : RiseBelow limit table_ids
  pub schemas_new : AllByRecursion (λ n. next ≤ n) schema_ids
  pub tables_new : AllByRecursion (λ n. next ≤ n) table_ids
  pub apart : AreApart schema_ids table_ids

-- so it is of any list: one sequence of ids for both, of as many numbers as it creates and leaves
abbrev pub NewIdsRise : Type 0
NewIdsRise =
    (next : ℕ) (own : List Change)
    → HasNewIds next (next + length (creations 0 0 own)) (map (λ (x : SchemaName). x.id) (new_schemas next own)) (map (λ (t : Table). t.id) (new_tables next own))
