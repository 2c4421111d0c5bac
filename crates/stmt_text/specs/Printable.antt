-- The statements that a line can say.
use Rattle.std.specs.Prelude.{ℕ, ◌≡◌, ◌^◌, Bool, true, false, ◌&&◌, nat_le, List, [], ◌∷◌, length, Option, Some, None}
use Rattle.std.specs.List.{list_all}
use Rattle.lake_types.specs.declared.limits.TheConstants.{MAX_NAME_BYTES, MAX_NESTING}
use Rattle.lake_types.specs.Fits.{fits}
use Rattle.lake_types.specs.declared.value.ColType.TheVariants as ty
use Rattle.lake_types.specs.declared.value.Value.{Value}
use Rattle.lake_types.specs.declared.value.Value.TheVariants as value
use Rattle.lake_types.specs.declared.pred.Pred.{Pred}
use Rattle.lake_types.specs.declared.pred.Pred.TheOpen.{Pred-F}
use Rattle.lake_types.specs.declared.pred.Pred.TheFolds.{fold-Pred}
use Rattle.lake_types.specs.declared.stmt.Stmt.{Stmt}
use Rattle.lake_types.specs.declared.stmt.Stmt.TheVariants as stmts
use Rattle.lake_types.specs.declared.stmt.Alter.{Alter}
use Rattle.lake_types.specs.declared.stmt.Alter.TheVariants as alters
use Rattle.lake_types.specs.declared.stmt.TableName.{TableName}
use Rattle.lake_types.specs.declared.stmt.ColumnDef.{ColumnDef}
use Rattle.lake_types.specs.declared.stmt.Cell.{Cell}
use Rattle.lake_types.specs.declared.stmt.Cell.TheVariants as cells
use Rattle.lake_types.specs.declared.stmt.Item.{Item}
use Rattle.lake_types.specs.declared.stmt.Item.TheVariants as items
use Rattle.stmt_text.specs.Printed.{shown}

-- 1 to 255 bytes
abbrev pub is_name : List ℕ → Bool
is_name name = nat_le 1 (length name) && nat_le (length name) MAX_NAME_BYTES

abbrev pub is_table : TableName → Bool
is_table t = is_name t.schema && is_name t.table

-- numbers are those of 64 bits, and days those from 0001-01-01 to 9999-12-31
abbrev pub is_literal : Value → Bool
is_literal (value.Int n) = fits (value.Int n) ty.Int64
is_literal (value.Date day) = fits (value.Date day) ty.Date
is_literal v = true

abbrev pub is_default : Option Value → Bool
is_default None = true
is_default (Some v) = is_literal v

abbrev pub is_column : ColumnDef → Bool
is_column c = is_name c.name && is_default c.default_value

abbrev pub is_cell : Cell → Bool
is_cell (cells.Given v) = is_literal v
is_cell cells.Default = true

-- one or more, and each is such
abbrev pub is_some_of : {A : Type 0} → (A → Bool) → List A → Bool
is_some_of test [] = false
is_some_of test (x ∷ xs) = list_all test (x ∷ xs)

abbrev pub is_row : List Cell → Bool
is_row row = is_some_of is_cell row

abbrev pub is_item : Item → Bool
is_item (items.Column name) = is_name name
is_item items.RowId = true

abbrev pub is_assignment : List ℕ × Value → Bool
is_assignment z = is_name z.0 && is_literal z.1

-- ---- tests

-- two or more
abbrev pub has_two : {A : Type 0} → List A → Bool
has_two [] = false
has_two (x ∷ []) = false
has_two (x ∷ y ∷ rest) = true

abbrev pub is_sound_at : Pred-F Bool → Bool
is_sound_at (Pred-F.Compare name o literal) = is_name name && is_literal literal
is_sound_at (Pred-F.IsNull name) = is_name name
is_sound_at (Pred-F.NotNull name) = is_name name
is_sound_at (Pred-F.Not part) = part
is_sound_at (Pred-F.And parts) = has_two parts && list_all (λ b. b) parts
is_sound_at (Pred-F.Or parts) = has_two parts && list_all (λ b. b) parts

-- names and literals are in their ranges, and each chain has two parts or more
abbrev pub is_sound : Pred → Bool
is_sound = fold-Pred Bool is_sound_at

-- at most 64 parentheses and NOTs are open inside one another
abbrev pub is_test : Pred → Bool
is_test p = is_sound p && nat_le (shown p).nesting MAX_NESTING

abbrev pub is_where : Option Pred → Bool
is_where None = true
is_where (Some p) = is_test p

-- ---- statements

abbrev pub is_count : ℕ → Bool
is_count n = nat_le n (2 ^ 62)

abbrev pub is_change : Alter → Bool
is_change (alters.Add c) = is_column c
is_change (alters.Remove name) = is_name name
is_change (alters.Rename name to) = is_name name && is_name to
is_change (alters.Promote name t) = is_name name
is_change (alters.SetDefault name v) = is_name name && is_literal v

abbrev pub is_stmt : Stmt → Bool
is_stmt stmts.Begin = true
is_stmt (stmts.BeginAt n) = is_count n
is_stmt stmts.Commit = true
is_stmt stmts.Rollback = true
is_stmt (stmts.CreateSchema name) = is_name name
is_stmt (stmts.DropSchema name) = is_name name
is_stmt (stmts.CreateTable t columns) = is_table t && is_some_of is_column columns
is_stmt (stmts.DropTable t) = is_table t
is_stmt (stmts.Change t change) = is_table t && is_change change
is_stmt (stmts.Insert t rows) = is_table t && is_some_of is_row rows
is_stmt (stmts.Delete t test) = is_table t && is_where test
is_stmt (stmts.Update t set test) = is_table t && is_some_of is_assignment set && is_where test
is_stmt (stmts.Select t items test) = is_table t && list_all is_item items && is_where test
is_stmt (stmts.Compact t) = is_table t
is_stmt (stmts.Flush t) = is_table t
is_stmt (stmts.Expire n) = is_count n
is_stmt stmts.Clean = true
is_stmt stmts.Snapshots = true

-- the sessions are 1 to 16
abbrev pub is_printable : ℕ → Stmt → Bool
is_printable session stmt = nat_le 1 session && nat_le session 16 && is_stmt stmt

abbrev pub IsPrintable : ℕ → Stmt → Type 0
IsPrintable session stmt = is_printable session stmt ≡ true
