-- The grammar of a line: each rule below its line in the notation of grammars, where [x] may be left out and {x} stands
-- any number of times.
use Rattle.std.specs.Prelude.{ℕ, zero, suc, Bool, true, false, not, List, [], ◌∷◌, Option, Some, None, is_some, codes, option_map, ◌⊎◌}
use Rattle.std.proofs.Common.{inl, inr}
use Rattle.lake_types.specs.declared.limits.TheConstants.{MAX_NESTING}
use Rattle.stmt_tokens.specs.declared.token.Kind.{Kind}
use Rattle.stmt_tokens.specs.declared.token.Keyword.{Keyword}
use Rattle.stmt_tokens.specs.declared.token.Keyword.TheVariants as words
use Rattle.stmt_tokens.specs.declared.token.Kind.TheVariants as k
use Rattle.stmt_tokens.specs.declared.token.Sign.TheVariants as signs
use Rattle.lake_types.specs.declared.value.ColType.{ColType}
use Rattle.lake_types.specs.declared.value.ColType.TheVariants as ty
use Rattle.lake_types.specs.declared.value.Value.{Value}
use Rattle.lake_types.specs.declared.value.Value.TheVariants as value
use Rattle.lake_types.specs.declared.pred.Pred.{Pred}
use Rattle.lake_types.specs.declared.pred.Pred.TheVariants as pred
use Rattle.lake_types.specs.declared.pred.Op.{Op}
use Rattle.lake_types.specs.declared.pred.Op.TheVariants as op
use Rattle.lake_types.specs.declared.stmt.Stmt.{Stmt}
use Rattle.lake_types.specs.declared.stmt.Stmt.TheVariants as stmts
use Rattle.lake_types.specs.declared.stmt.Alter.{Alter}
use Rattle.lake_types.specs.declared.stmt.Alter.TheVariants as alters
use Rattle.lake_types.specs.declared.stmt.TableName.{TableName}
use Rattle.lake_types.specs.declared.stmt.ColumnDef.{ColumnDef}
use Rattle.lake_types.specs.declared.stmt.Cell.{Cell}
use Rattle.lake_types.specs.declared.stmt.Cell.TheVariants as cells
use Rattle.lake_types.specs.declared.stmt.Item.{Item}
use Rattle.lake_types.specs.declared.stmt.Item.TheVariants as items
use Rattle.stmt_grammar.specs.Grammar.{Grammar, token, maybe, made}
use Rattle.stmt_grammar.specs.Phrases.{is, word, mark, ◌then◌, ◌or◌, chain, list, parenthesized}
use Rattle.stmt_reader.specs.Values.{integer_of, count_of, session_of, unhex}
use Rattle.stmt_reader.specs.Dates.{date_of}

-- ---- names

abbrev pub is_reserved : Keyword → Bool
is_reserved words.And = true
is_reserved words.Default = true
is_reserved words.False = true
is_reserved words.From = true
is_reserved words.Is = true
is_reserved words.Not = true
is_reserved words.Null = true
is_reserved words.Or = true
is_reserved words.RowId = true
is_reserved words.Select = true
is_reserved words.Set = true
is_reserved words.Table = true
is_reserved words.To = true
is_reserved words.True = true
is_reserved words.Values = true
is_reserved words.Where = true
is_reserved _ = false

-- a quoted name, a word, or a keyword that isn't reserved
abbrev pub is_name : Kind → Bool
is_name k.Quoted = true
is_name k.Word = true
is_name (k.Keyword a) = not (is_reserved a)
is_name _ = false

unfoldable pub name : Grammar (List ℕ)
name = token is_name (λ t. Some t.text)

-- the schema is main where none stands
abbrev pub table_of : List ℕ → Option (Unit {0} × List ℕ) → TableName
table_of first None = record { schema = codes "main"; table = first }
table_of first (Some z) = record { schema = first; table = z.1 }

-- table = name [. name]
unfoldable pub table : Grammar TableName
table = made (λ z. table_of z.0 z.1) (name then maybe (mark signs.Dot then name))

-- ---- values

abbrev pub type_of : Kind → Option ColType
type_of (k.Keyword words.Boolean) = Some ty.Bool
type_of (k.Keyword words.TinyInt) = Some ty.Int8
type_of (k.Keyword words.SmallInt) = Some ty.Int16
type_of (k.Keyword words.Integer) = Some ty.Int32
type_of (k.Keyword words.BigInt) = Some ty.Int64
type_of (k.Keyword words.Varchar) = Some ty.Varchar
type_of (k.Keyword words.Blob) = Some ty.Blob
type_of (k.Keyword words.Date) = Some ty.Date
type_of _ = None

-- type = BOOLEAN | TINYINT | SMALLINT | INTEGER | BIGINT | VARCHAR | BLOB | DATE
unfoldable pub column_type : Grammar ColType
column_type = token (λ a. is_some (type_of a)) (λ t. type_of t.kind)

abbrev pub constant_of : Kind → Option Value
constant_of (k.Keyword words.Null) = Some value.Null
constant_of (k.Keyword words.True) = Some (value.Bool true)
constant_of (k.Keyword words.False) = Some (value.Bool false)
constant_of _ = None

-- NULL | TRUE | FALSE
abbrev pub constant : Grammar Value
constant = token (λ a. is_some (constant_of a)) (λ t. constant_of t.kind)

abbrev pub number : Grammar Value
number = token (is k.Number) (λ t. option_map value.Int (integer_of t.text))

abbrev pub text : Grammar Value
text = token (is k.Text) (λ t. Some (value.Text t.text))

abbrev pub bytes : Grammar Value
bytes = token (is k.Bytes) (λ t. Some (value.Bytes (unhex t.text)))

-- the day with this text
unfoldable pub day_of : List ℕ → Option Value
day_of text = option_map value.Date (date_of text)

-- the text behind DATE
abbrev pub day : Grammar Value
day = token (is k.Text) (λ t. day_of t.text)

-- lit = number | text | bytes | DATE text | NULL | TRUE | FALSE
unfoldable pub literal : Grammar Value
literal = number or text or bytes or made (λ z. z.1) (word words.Date then day) or constant

-- [NOT NULL], and whether it is left out
unfoldable pub nulls : Grammar Bool
nulls = made (λ z. not (is_some z)) (maybe (word words.Not then word words.Null))

-- [DEFAULT lit]
unfoldable pub default_value : Grammar (Option Value)
default_value = made (option_map (λ z. z.1)) (maybe (word words.Default then literal))

abbrev pub column_of : List ℕ → ColType → Bool → Option Value → ColumnDef
column_of name ty nulls default = record { name = name; ty = ty; nulls = nulls; default_value = default }

-- coldef = name type [NOT NULL] [DEFAULT lit]
unfoldable pub column : Grammar ColumnDef
column = made (λ z. column_of z.0 z.1.0 z.1.1.0 z.1.1.1) (name then column_type then nulls then default_value)

-- ( coldef {, coldef} )
unfoldable pub columns : Grammar (List ColumnDef)
columns = parenthesized (list column)

-- cell = DEFAULT | lit
unfoldable pub cell : Grammar Cell
cell = made (λ z. cells.Default) (word words.Default) or made cells.Given literal

-- row = ( cell {, cell} )
unfoldable pub row : Grammar (List Cell)
row = parenthesized (list cell)

-- ---- tests

abbrev pub op_of : Kind → Option Op
op_of (k.Sign signs.Eq) = Some op.Eq
op_of (k.Sign signs.Ne) = Some op.Ne
op_of (k.Sign signs.Lt) = Some op.Lt
op_of (k.Sign signs.Le) = Some op.Le
op_of (k.Sign signs.Gt) = Some op.Gt
op_of (k.Sign signs.Ge) = Some op.Ge
op_of _ = None

-- op = = | <> | != | < | <= | > | >=
unfoldable pub operator : Grammar Op
operator = token (λ a. is_some (op_of a)) (λ t. op_of t.kind)

-- op lit
unfoldable pub comparison : Grammar (Op × Value)
comparison = operator then literal

-- IS [NOT] NULL, and whether NOT is there
unfoldable pub nullness : Grammar Bool
nullness = made (λ z. z.1.0) (word words.Is then made is_some (maybe (word words.Not)) then word words.Null)

abbrev pub test_of : List ℕ → Bool ⊎ (Op × Value) → Pred
test_of n (inl true) = pred.NotNull n
test_of n (inl false) = pred.IsNull n
test_of n (inr z) = pred.Compare n z.0 z.1

-- simple_test = name (IS [NOT] NULL | op lit)
unfoldable pub simple_test : Grammar Pred
simple_test = made (λ z. test_of z.0 z.1) (name then (made inl nullness or made inr comparison))

-- one part is itself
abbrev pub and_of : List Pred → Pred
and_of (p ∷ []) = p
and_of ps = pred.And ps

abbrev pub or_of : List Pred → Pred
or_of (p ∷ []) = p
or_of ps = pred.Or ps

-- and = unary {AND unary}
unfoldable pub ands : Grammar Pred → Grammar Pred
ands unary = made and_of (chain (k.Keyword words.And) unary)

-- or = and {OR and}
unfoldable pub ors : Grammar Pred → Grammar Pred
ors unary = made or_of (chain (k.Keyword words.Or) (ands unary))

-- unary = NOT unary | ( or ) | simple_test, where so many more parentheses and NOTs may be opened
unfoldable pub unary : ℕ → Grammar Pred
unary zero = simple_test
unary (suc depth) =
    made (λ z. pred.Not z.1) (word words.Not then unary depth) or parenthesized (ors (unary depth)) or simple_test

unfoldable pub condition : Grammar Pred
condition = ors (unary MAX_NESTING)

-- [WHERE or]
unfoldable pub where_ : Grammar (Option Pred)
where_ = made (option_map (λ z. z.1)) (maybe (word words.Where then condition))

-- ---- transactions

-- n = a number 0 to 4611686018427387904
abbrev pub count : Grammar ℕ
count = token (is k.Number) (λ t. count_of t.text)

-- AT ( VERSION => n )
unfoldable pub begin_at : Grammar ℕ
begin_at = made (λ z. z.1) (word words.At then parenthesized (made (λ z. z.1.1) (word words.Version then mark signs.Arrow then count)))

abbrev pub begun : Option ℕ → Stmt
begun None = stmts.Begin
begun (Some n) = stmts.BeginAt n

-- [AT ( VERSION => n )]
unfoldable pub begin : Grammar Stmt
begin = made begun (maybe begin_at)

-- BEGIN [AT ( VERSION => n )] | COMMIT | ROLLBACK
unfoldable pub transaction : Grammar Stmt
transaction =
    made (λ z. z.1) (word words.Begin then begin)
    or made (λ z. stmts.Commit) (word words.Commit)
    or made (λ z. stmts.Rollback) (word words.Rollback)

-- ---- schemas and tables

-- SCHEMA name | TABLE table ( coldef {, coldef} )
unfoldable pub create : Grammar Stmt
create =
    made (λ z. stmts.CreateSchema z.1) (word words.Schema then name)
    or made (λ z. stmts.CreateTable z.1.0 z.1.1) (word words.Table then table then columns)

-- SCHEMA name | TABLE table
unfoldable pub remove : Grammar Stmt
remove =
    made (λ z. stmts.DropSchema z.1) (word words.Schema then name)
    or made (λ z. stmts.DropTable z.1) (word words.Table then table)

-- RENAME COLUMN name TO name
unfoldable pub rename : Grammar Alter
rename = made (λ z. alters.Rename z.1.1.0 z.1.1.1.1) (word words.Rename then word words.Column then name then word words.To then name)

abbrev pub set_of : List ℕ → ColType ⊎ Value → Alter
set_of n (inl t) = alters.Promote n t
set_of n (inr v) = alters.SetDefault n v

-- DATA TYPE type | DEFAULT lit
unfoldable pub setting : Grammar (ColType ⊎ Value)
setting =
    made (λ z. inl z.1.1) (word words.Data then word words.Type then column_type)
    or made (λ z. inr z.1) (word words.Default then literal)

-- ALTER COLUMN name SET (DATA TYPE type | DEFAULT lit)
unfoldable pub set_column : Grammar Alter
set_column = made (λ z. set_of z.1.1.0 z.1.1.1.1) (word words.Alter then word words.Column then name then word words.Set then setting)

-- ADD COLUMN coldef | DROP COLUMN name | RENAME COLUMN name TO name | ALTER COLUMN name SET (DATA TYPE type | DEFAULT lit)
unfoldable pub change : Grammar Alter
change =
    made (λ z. alters.Add z.1.1) (word words.Add then word words.Column then column)
    or made (λ z. alters.Remove z.1.1) (word words.Drop then word words.Column then name)
    or rename
    or set_column

-- TABLE table change
unfoldable pub alter : Grammar Stmt
alter = made (λ z. stmts.Change z.1.0 z.1.1) (word words.Table then table then change)

-- CREATE create | DROP remove | ALTER alter
unfoldable pub definition : Grammar Stmt
definition =
    made (λ z. z.1) (word words.Create then create)
    or made (λ z. z.1) (word words.Drop then remove)
    or made (λ z. z.1) (word words.Alter then alter)

-- ---- rows

-- INTO table VALUES row {, row}
unfoldable pub insert : Grammar Stmt
insert = made (λ z. stmts.Insert z.1.0 z.1.1.1) (word words.Into then table then word words.Values then list row)

-- FROM table [WHERE or]
unfoldable pub delete : Grammar Stmt
delete = made (λ z. stmts.Delete z.1.0 z.1.1) (word words.From then table then where_)

-- name = lit
unfoldable pub assignment : Grammar (List ℕ × Value)
assignment = made (λ z. (z.0, z.1.1)) (name then mark signs.Eq then literal)

-- table SET name = lit {, name = lit} [WHERE or]
unfoldable pub update : Grammar Stmt
update = made (λ z. stmts.Update z.0 z.1.1.0 z.1.1.1) (table then word words.Set then list assignment then where_)

-- item = ROWID | name
unfoldable pub item : Grammar Item
item = made (λ z. items.RowId) (word words.RowId) or made items.Column name

-- items = * | item {, item}
unfoldable pub shown : Grammar (List Item)
shown = made (λ z. []) (mark signs.Star) or list item

-- items FROM table [WHERE or]
unfoldable pub select : Grammar Stmt
select = made (λ z. stmts.Select z.1.1.0 z.0 z.1.1.1) (shown then word words.From then table then where_)

-- INSERT insert | DELETE delete | UPDATE update | SELECT select
unfoldable pub rows : Grammar Stmt
rows =
    made (λ z. z.1) (word words.Insert then insert)
    or made (λ z. z.1) (word words.Delete then delete)
    or made (λ z. z.1) (word words.Update then update)
    or made (λ z. z.1) (word words.Select then select)

-- ---- upkeep

-- COMPACT table | FLUSH table | EXPIRE n | CLEAN | SNAPSHOTS
unfoldable pub upkeep : Grammar Stmt
upkeep =
    made (λ z. stmts.Compact z.1) (word words.Compact then table)
    or made (λ z. stmts.Flush z.1) (word words.Flush then table)
    or made (λ z. stmts.Expire z.1) (word words.Expire then count)
    or made (λ z. stmts.Clean) (word words.Clean)
    or made (λ z. stmts.Snapshots) (word words.Snapshots)

-- ---- lines

-- stmt = transaction | definition | rows | upkeep
unfoldable pub stmt : Grammar Stmt
stmt = transaction or definition or rows or upkeep

-- session = a number 1 to 16
abbrev pub session : Grammar ℕ
session = token (is k.Number) (λ t. session_of t.text)

-- line = session stmt [;]
unfoldable pub line : Grammar (ℕ × Stmt)
line = made (λ z. (z.0, z.1.0)) (session then stmt then maybe (mark signs.Semicolon))
