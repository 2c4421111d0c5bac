-- The tokens of a statement as it is printed. A name is always quoted, a table's name has its schema before it, and a part of a
-- test stands in parentheses where the grammar needs them and nowhere else.
use Rattle.std.specs.Prelude.{ℕ, ℤ, ◌+◌, max, Bool, true, false, ◌&&◌, List, [], ◌∷◌, ◌++◌, map, fold, flat_map, Option, Some, None, if◌then◌else◌}
use Rattle.std.specs.Fmt.{decimal, signed_decimal}
use Rattle.std.specs.List.{list_all}
use Rattle.std.specs.Str.{is_utf8}
use Rattle.hex.specs.Hex.{encode_lower}
use Rattle.lake_types.specs.Calendar.{day_text, is_day}
use Rattle.lake_types.specs.declared.value.ColType.{ColType}
use Rattle.lake_types.specs.declared.value.ColType.TheVariants as ty
use Rattle.lake_types.specs.declared.value.Value.{Value}
use Rattle.lake_types.specs.declared.value.Value.TheVariants as value
use Rattle.lake_types.specs.declared.pred.Op.{Op}
use Rattle.lake_types.specs.declared.pred.Op.TheVariants as op
use Rattle.lake_types.specs.declared.pred.Pred.{Pred}
use Rattle.lake_types.specs.declared.pred.Pred.TheOpen.{Pred-F}
use Rattle.lake_types.specs.declared.pred.Pred.TheFolds.{fold-Pred}
use Rattle.lake_types.specs.declared.stmt.Stmt.{Stmt}
use Rattle.lake_types.specs.declared.stmt.Stmt.TheVariants as stmts
use Rattle.lake_types.specs.declared.stmt.Alter.{Alter}
use Rattle.lake_types.specs.declared.stmt.Alter.TheVariants as alters
use Rattle.lake_types.specs.declared.stmt.TableName.{TableName}
use Rattle.lake_types.specs.declared.stmt.ColumnDef.{ColumnDef}
use Rattle.lake_types.specs.declared.stmt.Cell.{Cell}
use Rattle.lake_types.specs.declared.stmt.Cell.TheVariants as cells
use Rattle.lake_types.specs.declared.stmt.Item.{Item}
use Rattle.lake_types.specs.declared.stmt.Item.TheVariants as items
use Rattle.stmt_tokens.specs.Tokens.{is_hex}
use Rattle.stmt_tokens.specs.declared.token.Kind.{Kind}
use Rattle.stmt_tokens.specs.declared.token.Keyword.{Keyword}
use Rattle.stmt_tokens.specs.declared.token.Keyword.TheVariants as words
use Rattle.stmt_tokens.specs.declared.token.Kind.TheVariants as k
use Rattle.stmt_tokens.specs.declared.token.Sign.{Sign}
use Rattle.stmt_tokens.specs.declared.token.Sign.TheVariants as signs
use Rattle.stmt_tokens.specs.declared.token.Token.{Token}
use Rattle.stmt_tokens.specs.Laws.{token_of}
use Rattle.stmt_tokens.specs.Spelled.{fixed, word, mark}
use Rattle.stmt_text.specs.declared.predicate.Shape.{Shape}
use Rattle.stmt_text.specs.declared.predicate.Shape.TheVariants as shapes

-- ---- what the types of the code hold

-- a text is UTF-8, and that of bytes is digits
abbrev pub has_digits : Kind → List ℕ → Bool
has_digits k.Bytes text = list_all is_hex text
has_digits a text = true

abbrev pub is_typed : Token → Bool
is_typed t = is_utf8 t.text && has_digits t.kind t.text

-- ---- lists

-- each item behind a separator
abbrev pub others : {A : Type 0} → Kind → (A → List Token) → List A → List Token
others sep item xs = flat_map (λ x. fixed sep ∷ item x) xs

-- items with separators between them
abbrev pub joined : {A : Type 0} → Kind → (A → List Token) → List A → List Token
joined sep item [] = []
joined sep item (x ∷ xs) = item x ++ others sep item xs

abbrev pub enclosed : List Token → List Token
enclosed ts = mark signs.LeftParen ∷ (ts ++ mark signs.RightParen ∷ [])

-- ---- names and values

abbrev pub quoted : List ℕ → Token
quoted name = token_of k.Quoted name

abbrev pub name_tokens : List ℕ → List Token
name_tokens name = quoted name ∷ []

abbrev pub table_tokens : TableName → List Token
table_tokens t = quoted t.schema ∷ mark signs.Dot ∷ quoted t.table ∷ []

abbrev pub number_tokens : ℕ → List Token
number_tokens n = token_of k.Number (decimal n) ∷ []

-- outside the calendar, where no statement that a line can say has a day, it is empty
abbrev pub day_words : ℤ → List ℕ
day_words day = if is_day day then day_text day else []

abbrev pub day_tokens : ℤ → List Token
day_tokens day = word words.Date ∷ token_of k.Text (day_words day) ∷ []

abbrev pub integer_tokens : ℤ → List Token
integer_tokens n = token_of k.Number (signed_decimal n) ∷ []

abbrev pub literal_tokens : Value → List Token
literal_tokens value.Null = word words.Null ∷ []
literal_tokens (value.Bool true) = word words.True ∷ []
literal_tokens (value.Bool false) = word words.False ∷ []
literal_tokens (value.Int n) = integer_tokens n
literal_tokens (value.Text text) = token_of k.Text text ∷ []
literal_tokens (value.Bytes bytes) = token_of k.Bytes (encode_lower bytes) ∷ []
literal_tokens (value.Date day) = day_tokens day

abbrev pub type_word : ColType → Keyword
type_word ty.Bool = words.Boolean
type_word ty.Int8 = words.TinyInt
type_word ty.Int16 = words.SmallInt
type_word ty.Int32 = words.Integer
type_word ty.Int64 = words.BigInt
type_word ty.Varchar = words.Varchar
type_word ty.Blob = words.Blob
type_word ty.Date = words.Date

abbrev pub type_tokens : ColType → List Token
type_tokens t = word (type_word t) ∷ []

abbrev pub nulls_tokens : Bool → List Token
nulls_tokens true = []
nulls_tokens false = word words.Not ∷ word words.Null ∷ []

abbrev pub default_tokens : Option Value → List Token
default_tokens None = []
default_tokens (Some v) = word words.Default ∷ literal_tokens v

abbrev pub column_tokens : ColumnDef → List Token
column_tokens c = quoted c.name ∷ word (type_word c.ty) ∷ (nulls_tokens c.nulls ++ default_tokens c.default_value)

abbrev pub cell_tokens : Cell → List Token
cell_tokens (cells.Given v) = literal_tokens v
cell_tokens cells.Default = word words.Default ∷ []

abbrev pub row_tokens : List Cell → List Token
row_tokens cells = enclosed (joined (k.Sign signs.Comma) cell_tokens cells)

-- ---- tests

-- a test that is printed: its shape, its tokens without parentheses around it, and how many parentheses and NOTs are open
-- inside one another in them
pub record Shown : Type 0 where
  pub shape : Shape
  pub tokens : List Token
  pub nesting : ℕ

abbrev pub in_parentheses : Shown → Shown
in_parentheses s = record { shape = shapes.One; tokens = enclosed s.tokens; nesting = s.nesting + 1 }

-- whether a test of the second shape is put in parentheses where one of the first is the weakest that may stand: behind NOT
-- and between ANDs stands one test, between ORs no chain of ORs
abbrev pub is_enclosed : Shape → Shape → Bool
is_enclosed shapes.All shapes.Any = true
is_enclosed shapes.One shapes.All = true
is_enclosed shapes.One shapes.Any = true
is_enclosed most inside = false

-- as a part, of this shape or one that binds more strongly
abbrev pub within : Shape → Shown → Shown
within most s = if is_enclosed most s.shape then in_parentheses s else s

abbrev pub deepest : List Shown → ℕ
deepest parts = fold (λ n s. max n s.nesting) 0 parts

abbrev pub chain_tokens : Kind → List Shown → List Token
chain_tokens sep parts = joined sep (λ (s : Shown). s.tokens) parts

abbrev pub shown_chain : Shape → Kind → List Shown → Shown
shown_chain shape sep parts = record { shape = shape; tokens = chain_tokens sep parts; nesting = deepest parts }

abbrev pub shown_one : List Token → ℕ → Shown
shown_one ts n = record { shape = shapes.One; tokens = ts; nesting = n }

abbrev pub op_sign : Op → Sign
op_sign op.Eq = signs.Eq
op_sign op.Ne = signs.Ne
op_sign op.Lt = signs.Lt
op_sign op.Le = signs.Le
op_sign op.Gt = signs.Gt
op_sign op.Ge = signs.Ge

abbrev pub comparison_tokens : List ℕ → Op → Value → List Token
comparison_tokens name o literal = quoted name ∷ mark (op_sign o) ∷ literal_tokens literal

abbrev pub is_null_tokens : List ℕ → List Token
is_null_tokens name = quoted name ∷ word words.Is ∷ word words.Null ∷ []

abbrev pub not_null_tokens : List ℕ → List Token
not_null_tokens name = quoted name ∷ word words.Is ∷ word words.Not ∷ word words.Null ∷ []

-- one level of a test, with each part as it is printed in its place
abbrev pub shown_at : Pred-F Shown → Shown
shown_at (Pred-F.Compare name o literal) = shown_one (comparison_tokens name o literal) 0
shown_at (Pred-F.IsNull name) = shown_one (is_null_tokens name) 0
shown_at (Pred-F.NotNull name) = shown_one (not_null_tokens name) 0
shown_at (Pred-F.Not s) = shown_one (word words.Not ∷ (within shapes.One s).tokens) ((within shapes.One s).nesting + 1)
shown_at (Pred-F.And ss) = shown_chain shapes.All (k.Keyword words.And) (map (within shapes.One) ss)
shown_at (Pred-F.Or ss) = shown_chain shapes.Any (k.Keyword words.Or) (map (within shapes.All) ss)

abbrev pub shown : Pred → Shown
shown = fold-Pred Shown shown_at

abbrev pub where_tokens : Option Pred → List Token
where_tokens None = []
where_tokens (Some p) = word words.Where ∷ (shown p).tokens

-- ---- changes of columns

-- a verb, COLUMN and a name
abbrev pub verb_column_tokens : Keyword → List ℕ → List Token
verb_column_tokens verb name = word verb ∷ word words.Column ∷ quoted name ∷ []

abbrev pub add_tokens : ColumnDef → List Token
add_tokens c = word words.Add ∷ word words.Column ∷ column_tokens c

abbrev pub rename_tokens : List ℕ → List ℕ → List Token
rename_tokens name to = word words.Rename ∷ word words.Column ∷ quoted name ∷ word words.To ∷ quoted to ∷ []

abbrev pub promote_tokens : List ℕ → ColType → List Token
promote_tokens name t = word words.Alter ∷ word words.Column ∷ quoted name ∷ word words.Set ∷ word words.Data ∷ word words.Type ∷ type_tokens t

abbrev pub set_default_tokens : List ℕ → Value → List Token
set_default_tokens name v = word words.Alter ∷ word words.Column ∷ quoted name ∷ word words.Set ∷ word words.Default ∷ literal_tokens v

abbrev pub change_tokens : Alter → List Token
change_tokens (alters.Add c) = add_tokens c
change_tokens (alters.Remove name) = verb_column_tokens words.Drop name
change_tokens (alters.Rename name to) = rename_tokens name to
change_tokens (alters.Promote name t) = promote_tokens name t
change_tokens (alters.SetDefault name v) = set_default_tokens name v

-- ---- statements on schemas and tables

-- a verb, SCHEMA and a name
abbrev pub schema_tokens : Keyword → List ℕ → List Token
schema_tokens verb name = word verb ∷ word words.Schema ∷ quoted name ∷ []

-- a verb, TABLE and a name
abbrev pub verb_table_tokens : Keyword → TableName → List Token
verb_table_tokens verb t = word verb ∷ word words.Table ∷ table_tokens t

abbrev pub create_table_tokens : TableName → List ColumnDef → List Token
create_table_tokens t columns = verb_table_tokens words.Create t ++ enclosed (joined (k.Sign signs.Comma) column_tokens columns)

abbrev pub alter_tokens : TableName → Alter → List Token
alter_tokens t change = verb_table_tokens words.Alter t ++ change_tokens change

-- ---- statements on rows

abbrev pub insert_tokens : TableName → List (List Cell) → List Token
insert_tokens t rows = word words.Insert ∷ word words.Into ∷ (table_tokens t ++ word words.Values ∷ joined (k.Sign signs.Comma) row_tokens rows)

abbrev pub delete_tokens : TableName → Option Pred → List Token
delete_tokens t test = word words.Delete ∷ word words.From ∷ (table_tokens t ++ where_tokens test)

abbrev pub assignment_tokens : List ℕ × Value → List Token
assignment_tokens z = quoted z.0 ∷ mark signs.Eq ∷ literal_tokens z.1

abbrev pub update_tokens : TableName → List (List ℕ × Value) → Option Pred → List Token
update_tokens t set test = word words.Update ∷ (table_tokens t ++ word words.Set ∷ (joined (k.Sign signs.Comma) assignment_tokens set ++ where_tokens test))

abbrev pub item_tokens : Item → List Token
item_tokens (items.Column name) = quoted name ∷ []
item_tokens items.RowId = word words.RowId ∷ []

-- no items stand for all columns
abbrev pub shown_items : List Item → List Token
shown_items [] = mark signs.Star ∷ []
shown_items (i ∷ is) = joined (k.Sign signs.Comma) item_tokens (i ∷ is)

abbrev pub select_tokens : TableName → List Item → Option Pred → List Token
select_tokens t items test = word words.Select ∷ (shown_items items ++ word words.From ∷ (table_tokens t ++ where_tokens test))

-- ---- the others

abbrev pub begin_at_tokens : ℕ → List Token
begin_at_tokens n = word words.Begin ∷ word words.At ∷ enclosed (word words.Version ∷ mark signs.Arrow ∷ number_tokens n)

-- a verb and a table's name
abbrev pub upkeep_tokens : Keyword → TableName → List Token
upkeep_tokens verb t = word verb ∷ table_tokens t

abbrev pub expire_tokens : ℕ → List Token
expire_tokens n = word words.Expire ∷ number_tokens n

abbrev pub statement_tokens : Stmt → List Token
statement_tokens stmts.Begin = word words.Begin ∷ []
statement_tokens (stmts.BeginAt n) = begin_at_tokens n
statement_tokens stmts.Commit = word words.Commit ∷ []
statement_tokens stmts.Rollback = word words.Rollback ∷ []
statement_tokens (stmts.CreateSchema name) = schema_tokens words.Create name
statement_tokens (stmts.DropSchema name) = schema_tokens words.Drop name
statement_tokens (stmts.CreateTable t columns) = create_table_tokens t columns
statement_tokens (stmts.DropTable t) = verb_table_tokens words.Drop t
statement_tokens (stmts.Change t change) = alter_tokens t change
statement_tokens (stmts.Insert t rows) = insert_tokens t rows
statement_tokens (stmts.Delete t test) = delete_tokens t test
statement_tokens (stmts.Update t set test) = update_tokens t set test
statement_tokens (stmts.Select t items test) = select_tokens t items test
statement_tokens (stmts.Compact t) = upkeep_tokens words.Compact t
statement_tokens (stmts.Flush t) = upkeep_tokens words.Flush t
statement_tokens (stmts.Expire n) = expire_tokens n
statement_tokens stmts.Clean = word words.Clean ∷ []
statement_tokens stmts.Snapshots = word words.Snapshots ∷ []

-- a session and its statement
abbrev pub printed : ℕ → Stmt → List Token
printed session stmt = number_tokens session ++ statement_tokens stmt
