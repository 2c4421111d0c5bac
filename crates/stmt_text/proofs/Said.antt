-- What a line says can be printed.
use Rattle.std.proofs.Common.{◌≡◌, ℕ, Bool, true, false, ◌&&◌, ◌⊎◌, List, [], ◌∷◌, refl, inl, inr, Option, Some, None}
use Rattle.std.specs.Prelude.{option_map, Result, Ok, Err, IfOk}
use Rattle.std.specs.List.{list_all}
use Rattle.std.proofs.lemmas.Bool.{and_from, and_parts}
use Rattle.lake_types.specs.declared.value.ColType.{ColType}
use Rattle.lake_types.specs.declared.value.Value.{Value}
use Rattle.lake_types.specs.declared.stmt.Stmt.{Stmt}
use Rattle.lake_types.specs.declared.stmt.Stmt.TheVariants as stmts
use Rattle.lake_types.specs.declared.stmt.Alter.TheVariants as alters
use Rattle.lake_types.specs.declared.stmt.Cell.TheVariants as cells
use Rattle.lake_types.specs.declared.stmt.Item.{Item}
use Rattle.lake_types.specs.declared.stmt.Item.TheVariants as items
use Rattle.stmt_tokens.specs.Tokens.{tokens_of}
use Rattle.stmt_tokens.specs.declared.token.Kind.{Kind}
use Rattle.stmt_tokens.specs.declared.token.Keyword.TheVariants as words
use Rattle.stmt_tokens.specs.declared.token.Kind.TheVariants as k
use Rattle.stmt_tokens.specs.declared.token.Sign.TheVariants as signs
use Rattle.stmt_grammar.specs.Grammar.{Grammar, maybe, made}
use Rattle.stmt_grammar.specs.Phrases.{word, mark, only, ◌then◌, ◌or◌, list, parenthesized}
use Rattle.stmt_reader.specs.Lines.{LineAnswers}
use Rattle.stmt_reader.specs.declared.line.LineNo.{LineNo}
use Rattle.stmt_reader.specs.Rules as rules
use Rattle.stmt_text.proofs.Gives.{Gives, or_none, word_gives, both_gives, next_gives, either_gives, made_gives, maybe_gives, chain_gives, enclosed_gives}
use Rattle.stmt_text.proofs.SaidTests.{anything, name_gives, table_gives, count_gives, session_gives, is_session, literal_gives, where_gives}
use Rattle.stmt_text.proofs.TokenFits.{tokens_fit}
use Rattle.stmt_text.specs.Laws.{WhatIsSaidIsPrintable}
use Rattle.stmt_text.specs.Printable.{is_name, is_table, is_literal, is_default, is_column, is_cell, is_row, is_item, is_assignment, is_some_of, is_where, is_count, is_change, is_stmt, is_printable, IsPrintable}

-- ---- columns

some_default : (o : Option (Unit {0} × Value)) → or_none (λ z. is_literal z.1) o ≡ true → is_default (option_map (λ z. z.1) o) ≡ true
some_default None h = refl
some_default (Some z) h = h

default_gives : Gives rules.default_value is_default
unfolding rules.default_value
default_gives =
    made_gives (option_map (λ z. z.1)) (maybe (word words.Default then rules.literal)) (or_none (λ z. is_literal z.1)) is_default
    (maybe_gives (word words.Default then rules.literal) (λ z. is_literal z.1) (next_gives (k.Keyword words.Default) rules.literal is_literal literal_gives)) some_default

column_gives : Gives rules.column is_column
unfolding rules.column
column_gives =
    made_gives (λ z. rules.column_of z.0 z.1.0 z.1.1.0 z.1.1.1) (rules.name then rules.column_type then rules.nulls then rules.default_value)
    (λ z. is_name z.0 && (true && (true && is_default z.1.1.1))) is_column
    (both_gives rules.name (rules.column_type then rules.nulls then rules.default_value) is_name (λ z. true && (true && is_default z.1.1)) name_gives
    (both_gives rules.column_type (rules.nulls then rules.default_value) (λ t. true) (λ z. true && is_default z.1) (anything rules.column_type)
    (both_gives rules.nulls rules.default_value (λ b. true) is_default (anything rules.nulls) default_gives)))
    (λ z h. h)

columns_give : Gives rules.columns (is_some_of is_column)
unfolding rules.columns
columns_give = enclosed_gives (list rules.column) (is_some_of is_column) (chain_gives (k.Sign signs.Comma) rules.column is_column column_gives)

-- ---- changes

add_gives : Gives (made (λ z. alters.Add z.1.1) (word words.Add then word words.Column then rules.column)) is_change
add_gives =
    made_gives (λ z. alters.Add z.1.1) (word words.Add then word words.Column then rules.column) (λ z. is_column z.1.1) is_change
    (next_gives (k.Keyword words.Add) (word words.Column then rules.column) (λ z. is_column z.1) (next_gives (k.Keyword words.Column) rules.column is_column column_gives)) (λ z h. h)

remove_column_gives : Gives (made (λ z. alters.Remove z.1.1) (word words.Drop then word words.Column then rules.name)) is_change
remove_column_gives =
    made_gives (λ z. alters.Remove z.1.1) (word words.Drop then word words.Column then rules.name) (λ z. is_name z.1.1) is_change
    (next_gives (k.Keyword words.Drop) (word words.Column then rules.name) (λ z. is_name z.1) (next_gives (k.Keyword words.Column) rules.name is_name name_gives)) (λ z h. h)

rename_gives : Gives rules.rename is_change
unfolding rules.rename
rename_gives =
    made_gives (λ z. alters.Rename z.1.1.0 z.1.1.1.1) (word words.Rename then word words.Column then rules.name then word words.To then rules.name)
    (λ z. is_name z.1.1.0 && is_name z.1.1.1.1) is_change
    (next_gives (k.Keyword words.Rename) (word words.Column then rules.name then word words.To then rules.name) (λ z. is_name z.1.0 && is_name z.1.1.1)
    (next_gives (k.Keyword words.Column) (rules.name then word words.To then rules.name) (λ z. is_name z.0 && is_name z.1.1)
    (both_gives rules.name (word words.To then rules.name) is_name (λ z. is_name z.1) name_gives (next_gives (k.Keyword words.To) rules.name is_name name_gives))))
    (λ z h. h)

abbrev is_setting : ColType ⊎ Value → Bool
is_setting (inl t) = true
is_setting (inr v) = is_literal v

setting_gives : Gives rules.setting is_setting
unfolding rules.setting
setting_gives =
    either_gives (made (λ z. inl z.1.1) (word words.Data then word words.Type then rules.column_type)) (made (λ z. inr z.1) (word words.Default then rules.literal)) is_setting
    (made_gives (λ z. inl z.1.1) (word words.Data then word words.Type then rules.column_type) (λ z. true) is_setting (anything (word words.Data then word words.Type then rules.column_type)) (λ z h. refl))
    (made_gives (λ z. inr z.1) (word words.Default then rules.literal) (λ z. is_literal z.1) is_setting (next_gives (k.Keyword words.Default) rules.literal is_literal literal_gives) (λ z h. h))

set_fits : (n : List ℕ) (z : ColType ⊎ Value) → (is_name n && is_setting z) ≡ true → is_change (rules.set_of n z) ≡ true
set_fits n (inl t) h = (and_parts (is_name n) true h).0
set_fits n (inr v) h = h

set_column_gives : Gives rules.set_column is_change
unfolding rules.set_column
set_column_gives =
    made_gives (λ z. rules.set_of z.1.1.0 z.1.1.1.1) (word words.Alter then word words.Column then rules.name then word words.Set then rules.setting)
    (λ z. is_name z.1.1.0 && is_setting z.1.1.1.1) is_change
    (next_gives (k.Keyword words.Alter) (word words.Column then rules.name then word words.Set then rules.setting) (λ z. is_name z.1.0 && is_setting z.1.1.1)
    (next_gives (k.Keyword words.Column) (rules.name then word words.Set then rules.setting) (λ z. is_name z.0 && is_setting z.1.1)
    (both_gives rules.name (word words.Set then rules.setting) is_name (λ z. is_setting z.1) name_gives (next_gives (k.Keyword words.Set) rules.setting is_setting setting_gives))))
    (λ z h. set_fits z.1.1.0 z.1.1.1.1 h)

change_gives : Gives rules.change is_change
unfolding rules.change
change_gives =
    either_gives (made (λ z. alters.Add z.1.1) (word words.Add then word words.Column then rules.column)) (made (λ z. alters.Remove z.1.1) (word words.Drop then word words.Column then rules.name) or rules.rename or rules.set_column) is_change add_gives
    (either_gives (made (λ z. alters.Remove z.1.1) (word words.Drop then word words.Column then rules.name)) (rules.rename or rules.set_column) is_change remove_column_gives
    (either_gives rules.rename rules.set_column is_change rename_gives set_column_gives))

-- ---- schemas and tables

alter_gives : Gives rules.alter is_stmt
unfolding rules.alter
alter_gives =
    made_gives (λ z. stmts.Change z.1.0 z.1.1) (word words.Table then rules.table then rules.change) (λ z. is_table z.1.0 && is_change z.1.1) is_stmt
    (next_gives (k.Keyword words.Table) (rules.table then rules.change) (λ z. is_table z.0 && is_change z.1) (both_gives rules.table rules.change is_table is_change table_gives change_gives)) (λ z h. h)

create_gives : Gives rules.create is_stmt
unfolding rules.create
create_gives =
    either_gives (made (λ z. stmts.CreateSchema z.1) (word words.Schema then rules.name)) (made (λ z. stmts.CreateTable z.1.0 z.1.1) (word words.Table then rules.table then rules.columns)) is_stmt
    (made_gives (λ z. stmts.CreateSchema z.1) (word words.Schema then rules.name) (λ z. is_name z.1) is_stmt (next_gives (k.Keyword words.Schema) rules.name is_name name_gives) (λ z h. h))
    (made_gives (λ z. stmts.CreateTable z.1.0 z.1.1) (word words.Table then rules.table then rules.columns) (λ z. is_table z.1.0 && is_some_of is_column z.1.1) is_stmt
    (next_gives (k.Keyword words.Table) (rules.table then rules.columns) (λ z. is_table z.0 && is_some_of is_column z.1) (both_gives rules.table rules.columns is_table (is_some_of is_column) table_gives columns_give))
    (λ z h. h))

remove_gives : Gives rules.remove is_stmt
unfolding rules.remove
remove_gives =
    either_gives (made (λ z. stmts.DropSchema z.1) (word words.Schema then rules.name)) (made (λ z. stmts.DropTable z.1) (word words.Table then rules.table)) is_stmt
    (made_gives (λ z. stmts.DropSchema z.1) (word words.Schema then rules.name) (λ z. is_name z.1) is_stmt (next_gives (k.Keyword words.Schema) rules.name is_name name_gives) (λ z h. h))
    (made_gives (λ z. stmts.DropTable z.1) (word words.Table then rules.table) (λ z. is_table z.1) is_stmt (next_gives (k.Keyword words.Table) rules.table is_table table_gives) (λ z h. h))

-- a statement behind a keyword
abbrev after : Kind → Grammar Stmt → Grammar Stmt
after a g = made (λ z. z.1) (only a then g)

after_gives : (a : Kind) (g : Grammar Stmt) → Gives g is_stmt → Gives (after a g) is_stmt
after_gives a g h = made_gives (λ z. z.1) (only a then g) (λ z. is_stmt z.1) is_stmt (next_gives a g is_stmt h) (λ z h. h)

definition_gives : Gives rules.definition is_stmt
unfolding rules.definition
definition_gives =
    either_gives (after (k.Keyword words.Create) rules.create) (after (k.Keyword words.Drop) rules.remove or after (k.Keyword words.Alter) rules.alter) is_stmt (after_gives (k.Keyword words.Create) rules.create create_gives)
    (either_gives (after (k.Keyword words.Drop) rules.remove) (after (k.Keyword words.Alter) rules.alter) is_stmt (after_gives (k.Keyword words.Drop) rules.remove remove_gives) (after_gives (k.Keyword words.Alter) rules.alter alter_gives))

-- ---- rows

cell_gives : Gives rules.cell is_cell
unfolding rules.cell
cell_gives =
    either_gives (made (λ z. cells.Default) (word words.Default)) (made cells.Given rules.literal) is_cell
    (made_gives (λ z. cells.Default) (word words.Default) (λ z. true) is_cell (word_gives (k.Keyword words.Default)) (λ z h. refl))
    (made_gives cells.Given rules.literal is_literal is_cell literal_gives (λ z h. h))

row_gives : Gives rules.row is_row
unfolding rules.row
row_gives = enclosed_gives (list rules.cell) is_row (chain_gives (k.Sign signs.Comma) rules.cell is_cell cell_gives)

insert_gives : Gives rules.insert is_stmt
unfolding rules.insert
insert_gives =
    made_gives (λ z. stmts.Insert z.1.0 z.1.1.1) (word words.Into then rules.table then word words.Values then list rules.row) (λ z. is_table z.1.0 && is_some_of is_row z.1.1.1) is_stmt
    (next_gives (k.Keyword words.Into) (rules.table then word words.Values then list rules.row) (λ z. is_table z.0 && is_some_of is_row z.1.1)
    (both_gives rules.table (word words.Values then list rules.row) is_table (λ z. is_some_of is_row z.1) table_gives
    (next_gives (k.Keyword words.Values) (list rules.row) (is_some_of is_row) (chain_gives (k.Sign signs.Comma) rules.row is_row row_gives))))
    (λ z h. h)

delete_gives : Gives rules.delete is_stmt
unfolding rules.delete
delete_gives =
    made_gives (λ z. stmts.Delete z.1.0 z.1.1) (word words.From then rules.table then rules.where_) (λ z. is_table z.1.0 && is_where z.1.1) is_stmt
    (next_gives (k.Keyword words.From) (rules.table then rules.where_) (λ z. is_table z.0 && is_where z.1) (both_gives rules.table rules.where_ is_table is_where table_gives where_gives)) (λ z h. h)

assignment_gives : Gives rules.assignment is_assignment
unfolding rules.assignment
assignment_gives =
    made_gives (λ z. (z.0, z.1.1)) (rules.name then mark signs.Eq then rules.literal) (λ z. is_name z.0 && is_literal z.1.1) is_assignment
    (both_gives rules.name (mark signs.Eq then rules.literal) is_name (λ z. is_literal z.1) name_gives (next_gives (k.Sign signs.Eq) rules.literal is_literal literal_gives)) (λ z h. h)

regroup : (a b c : Bool) → (a && (b && c)) ≡ true → (a && b && c) ≡ true
regroup true b c h = h
regroup false b c h = h

update_gives : Gives rules.update is_stmt
unfolding rules.update
update_gives =
    made_gives (λ z. stmts.Update z.0 z.1.1.0 z.1.1.1) (rules.table then word words.Set then list rules.assignment then rules.where_)
    (λ z. is_table z.0 && (is_some_of is_assignment z.1.1.0 && is_where z.1.1.1)) is_stmt
    (both_gives rules.table (word words.Set then list rules.assignment then rules.where_) is_table (λ z. is_some_of is_assignment z.1.0 && is_where z.1.1) table_gives
    (next_gives (k.Keyword words.Set) (list rules.assignment then rules.where_) (λ z. is_some_of is_assignment z.0 && is_where z.1)
    (both_gives (list rules.assignment) rules.where_ (is_some_of is_assignment) is_where (chain_gives (k.Sign signs.Comma) rules.assignment is_assignment assignment_gives) where_gives)))
    (λ z h. regroup (is_table z.0) (is_some_of is_assignment z.1.1.0) (is_where z.1.1.1) h)

item_gives : Gives rules.item is_item
unfolding rules.item
item_gives =
    either_gives (made (λ z. items.RowId) (word words.RowId)) (made items.Column rules.name) is_item
    (made_gives (λ z. items.RowId) (word words.RowId) (λ z. true) is_item (word_gives (k.Keyword words.RowId)) (λ z h. refl))
    (made_gives items.Column rules.name is_name is_item name_gives (λ z h. h))

some_items : (xs : List Item) → is_some_of is_item xs ≡ true → list_all is_item xs ≡ true
some_items [] h = refl
some_items (x ∷ xs) h = h

shown_gives : Gives rules.shown (list_all is_item)
unfolding rules.shown
shown_gives =
    either_gives (made (λ z. []) (mark signs.Star)) (list rules.item) (list_all is_item)
    (made_gives (λ z. []) (mark signs.Star) (λ z. true) (list_all is_item) (word_gives (k.Sign signs.Star)) (λ z h. refl))
    (λ ts xs f s. some_items xs (chain_gives (k.Sign signs.Comma) rules.item is_item item_gives ts xs f s))

swap : (a b c : Bool) → (a && (b && c)) ≡ true → (b && a && c) ≡ true
swap true true c h = h
swap true false c h = h
swap false b c h = cc

select_gives : Gives rules.select is_stmt
unfolding rules.select
select_gives =
    made_gives (λ z. stmts.Select z.1.1.0 z.0 z.1.1.1) (rules.shown then word words.From then rules.table then rules.where_)
    (λ z. list_all is_item z.0 && (is_table z.1.1.0 && is_where z.1.1.1)) is_stmt
    (both_gives rules.shown (word words.From then rules.table then rules.where_) (list_all is_item) (λ z. is_table z.1.0 && is_where z.1.1) shown_gives
    (next_gives (k.Keyword words.From) (rules.table then rules.where_) (λ z. is_table z.0 && is_where z.1) (both_gives rules.table rules.where_ is_table is_where table_gives where_gives)))
    (λ z h. swap (list_all is_item z.0) (is_table z.1.1.0) (is_where z.1.1.1) h)

rows_give : Gives rules.rows is_stmt
unfolding rules.rows
rows_give =
    either_gives (after (k.Keyword words.Insert) rules.insert) (after (k.Keyword words.Delete) rules.delete or after (k.Keyword words.Update) rules.update or after (k.Keyword words.Select) rules.select) is_stmt (after_gives (k.Keyword words.Insert) rules.insert insert_gives)
    (either_gives (after (k.Keyword words.Delete) rules.delete) (after (k.Keyword words.Update) rules.update or after (k.Keyword words.Select) rules.select) is_stmt (after_gives (k.Keyword words.Delete) rules.delete delete_gives)
    (either_gives (after (k.Keyword words.Update) rules.update) (after (k.Keyword words.Select) rules.select) is_stmt (after_gives (k.Keyword words.Update) rules.update update_gives) (after_gives (k.Keyword words.Select) rules.select select_gives)))

-- ---- the others

abbrev version : Grammar ℕ
version = made (λ z. z.1.1) (word words.Version then mark signs.Arrow then rules.count)

begin_at_gives : Gives rules.begin_at is_count
unfolding rules.begin_at
begin_at_gives =
    made_gives (λ z. z.1) (word words.At then parenthesized version) (λ z. is_count z.1) is_count
    (next_gives (k.Keyword words.At) (parenthesized version) is_count
    (enclosed_gives version is_count
    (made_gives (λ z. z.1.1) (word words.Version then mark signs.Arrow then rules.count) (λ z. is_count z.1.1) is_count
    (next_gives (k.Keyword words.Version) (mark signs.Arrow then rules.count) (λ z. is_count z.1) (next_gives (k.Sign signs.Arrow) rules.count is_count count_gives)) (λ z h. h))))
    (λ z h. h)

begun_fits : (o : Option ℕ) → or_none is_count o ≡ true → is_stmt (rules.begun o) ≡ true
begun_fits None h = refl
begun_fits (Some n) h = h

begin_gives : Gives rules.begin is_stmt
unfolding rules.begin
begin_gives = made_gives rules.begun (maybe rules.begin_at) (or_none is_count) is_stmt (maybe_gives rules.begin_at is_count begin_at_gives) begun_fits

-- a keyword alone
alone : (a : Kind) (x : Stmt) → is_stmt x ≡ true → Gives (made (λ z. x) (only a)) is_stmt
alone a x h = made_gives (λ z. x) (only a) (λ z. true) is_stmt (word_gives a) (λ z e. h)

transaction_gives : Gives rules.transaction is_stmt
unfolding rules.transaction
transaction_gives =
    either_gives (after (k.Keyword words.Begin) rules.begin) (made (λ z. stmts.Commit) (word words.Commit) or made (λ z. stmts.Rollback) (word words.Rollback)) is_stmt (after_gives (k.Keyword words.Begin) rules.begin begin_gives)
    (either_gives (made (λ z. stmts.Commit) (word words.Commit)) (made (λ z. stmts.Rollback) (word words.Rollback)) is_stmt (alone (k.Keyword words.Commit) stmts.Commit refl) (alone (k.Keyword words.Rollback) stmts.Rollback refl))

upkeep_gives : Gives rules.upkeep is_stmt
unfolding rules.upkeep
upkeep_gives =
    either_gives (made (λ z. stmts.Compact z.1) (word words.Compact then rules.table)) (made (λ z. stmts.Flush z.1) (word words.Flush then rules.table) or made (λ z. stmts.Expire z.1) (word words.Expire then rules.count) or made (λ z. stmts.Clean) (word words.Clean) or made (λ z. stmts.Snapshots) (word words.Snapshots)) is_stmt
    (made_gives (λ z. stmts.Compact z.1) (word words.Compact then rules.table) (λ z. is_table z.1) is_stmt (next_gives (k.Keyword words.Compact) rules.table is_table table_gives) (λ z h. h))
    (either_gives (made (λ z. stmts.Flush z.1) (word words.Flush then rules.table)) (made (λ z. stmts.Expire z.1) (word words.Expire then rules.count) or made (λ z. stmts.Clean) (word words.Clean) or made (λ z. stmts.Snapshots) (word words.Snapshots)) is_stmt
    (made_gives (λ z. stmts.Flush z.1) (word words.Flush then rules.table) (λ z. is_table z.1) is_stmt (next_gives (k.Keyword words.Flush) rules.table is_table table_gives) (λ z h. h))
    (either_gives (made (λ z. stmts.Expire z.1) (word words.Expire then rules.count)) (made (λ z. stmts.Clean) (word words.Clean) or made (λ z. stmts.Snapshots) (word words.Snapshots)) is_stmt
    (made_gives (λ z. stmts.Expire z.1) (word words.Expire then rules.count) (λ z. is_count z.1) is_stmt (next_gives (k.Keyword words.Expire) rules.count is_count count_gives) (λ z h. h))
    (either_gives (made (λ z. stmts.Clean) (word words.Clean)) (made (λ z. stmts.Snapshots) (word words.Snapshots)) is_stmt (alone (k.Keyword words.Clean) stmts.Clean refl) (alone (k.Keyword words.Snapshots) stmts.Snapshots refl))))

stmt_gives : Gives rules.stmt is_stmt
unfolding rules.stmt
stmt_gives =
    either_gives rules.transaction (rules.definition or rules.rows or rules.upkeep) is_stmt transaction_gives
    (either_gives rules.definition (rules.rows or rules.upkeep) is_stmt definition_gives
    (either_gives rules.rows rules.upkeep is_stmt rows_give upkeep_gives))

-- ---- lines

line_gives : Gives rules.line (λ z. is_printable z.0 z.1)
unfolding rules.line
line_gives =
    made_gives (λ z. (z.0, z.1.0)) (rules.session then rules.stmt then maybe (mark signs.Semicolon)) (λ z. is_session z.0 && (is_stmt z.1.0 && true)) (λ z. is_printable z.0 z.1)
    (both_gives rules.session (rules.stmt then maybe (mark signs.Semicolon)) is_session (λ z. is_stmt z.0 && true) session_gives
    (both_gives rules.stmt (maybe (mark signs.Semicolon)) is_stmt (λ o. true) stmt_gives (anything (maybe (mark signs.Semicolon)))))
    (λ z h.
    let p = and_parts (is_session z.0) (is_stmt z.1.0 && true) h in
    and_from (is_session z.0) (is_stmt z.1.0) p.0 (and_parts (is_stmt z.1.0) true p.1).0)

pub printable : WhatIsSaidIsPrintable
printable line session stmt h = line_gives (tokens_of line) (session, stmt) (tokens_fit line) h

pub answered : (line : List ℕ) (r : Result (ℕ × Stmt) LineNo) → LineAnswers line r → IfOk r (λ said. IsPrintable said.0 said.1)
answered line (Ok said) h = printable line said.0 said.1 h.1
answered line (Err e) h = tt

pub ruleset printing = (answered)
