-- A printed statement spells itself.
use Rattle.std.proofs.Common.{◌⊎◌, ◌≡◌, ℕ, Bool, true, ◌&&◌, List, [], ◌∷◌, ◌++◌, refl, sym, subst, append-nil, inl, inr, Option, Some, None}
use Rattle.std.specs.Prelude.{nat_le}
use Rattle.std.specs.List.{list_all}
use Rattle.std.proofs.lemmas.Bool.{and_parts}
use Rattle.lake_types.specs.declared.value.ColType.{ColType}
use Rattle.lake_types.specs.declared.value.Value.{Value}
use Rattle.lake_types.specs.declared.pred.Pred.{Pred}
use Rattle.lake_types.specs.declared.stmt.Stmt.{Stmt}
use Rattle.lake_types.specs.declared.stmt.Stmt.TheVariants as stmts
use Rattle.lake_types.specs.declared.stmt.Alter.{Alter}
use Rattle.lake_types.specs.declared.stmt.Alter.TheVariants as alters
use Rattle.lake_types.specs.declared.stmt.TableName.{TableName}
use Rattle.lake_types.specs.declared.stmt.ColumnDef.{ColumnDef}
use Rattle.lake_types.specs.declared.stmt.Cell.{Cell}
use Rattle.lake_types.specs.declared.stmt.Cell.TheVariants as cells
use Rattle.lake_types.specs.declared.stmt.Item.{Item}
use Rattle.lake_types.specs.declared.stmt.Item.TheVariants as items
use Rattle.stmt_tokens.specs.declared.token.Keyword.TheVariants as words
use Rattle.stmt_tokens.specs.declared.token.Kind.TheVariants as k
use Rattle.stmt_tokens.specs.declared.token.Sign.TheVariants as signs
use Rattle.stmt_tokens.specs.declared.token.Token.{Token}
use Rattle.stmt_grammar.specs.Grammar.{Grammar, Spells, made}
use Rattle.stmt_grammar.specs.Phrases.{is, word, mark, ◌then◌, list, parenthesized}
use Rattle.stmt_tokens.proofs.CutLemmas.{append_cut, cut_spelled}
use Rattle.stmt_tokens.specs.Spelled.{fixed, spelled}
use Rattle.stmt_reader.specs.Lines.{Says}
use Rattle.stmt_reader.specs.Rules as rules
use Rattle.stmt_reader.specs.Rules.{column_type, count, literal, name, session, where_}
use Rattle.stmt_text.proofs.NamePuts.{put_name, put_table, put_count, put_session, put_literal, put_type, put_column}
use Rattle.stmt_text.proofs.Puts.{Put, AllTyped, Pairs, all_typed, typed_parts, put_word, put_next, put_then, put_enclosed, put_chain}
use Rattle.stmt_text.proofs.TestPuts.{put_where}
use Rattle.stmt_text.specs.Printable.{is_name, is_table, is_literal, is_column, is_cell, is_some_of, is_row, is_item, is_assignment, is_where, is_count, is_change, is_stmt, IsPrintable}
use Rattle.stmt_text.specs.Printed as spec
use Rattle.stmt_text.specs.Printed.{is_typed, joined, others, enclosed, quoted, name_tokens, table_tokens, number_tokens, literal_tokens, type_tokens, column_tokens, cell_tokens, row_tokens, where_tokens, printed, statement_tokens}

-- ---- lists

module _ {A : Type 0} (g : Grammar A) (item : A → List Token) (test : A → Bool) (each : (x : A) → test x ≡ true → AllTyped (item x) → Put g (item x) x) where
  same_pairs : (xs : List A) → list_all test xs ≡ true → AllTyped (others (k.Sign signs.Comma) item xs) → Pairs (λ b x. Put g (item b) x) xs xs
  same_pairs [] h t = tt
  same_pairs (x ∷ xs) h t =
      let p = and_parts (test x) (list_all test xs) h in
      let typed = typed_parts (item x) (others (k.Sign signs.Comma) item xs) t.1 in
      (each x p.0 typed.0, same_pairs xs p.1 typed.1)

  put_list : (xs : List A) → is_some_of test xs ≡ true → AllTyped (joined (k.Sign signs.Comma) item xs) → Put (list g) (joined (k.Sign signs.Comma) item xs) xs
  put_list [] h t = cc
  put_list (x ∷ xs) h t =
      let p = and_parts (test x) (list_all test xs) h in
      let typed = typed_parts (item x) (others (k.Sign signs.Comma) item xs) t in
      put_chain (k.Sign signs.Comma) refl g item x xs x xs (each x p.0 typed.0, same_pairs xs p.1 typed.1)

  put_enclosed_list : (xs : List A) → is_some_of test xs ≡ true → AllTyped (enclosed (joined (k.Sign signs.Comma) item xs)) → Put (parenthesized (list g)) (enclosed (joined (k.Sign signs.Comma) item xs)) xs
  put_enclosed_list xs h t = put_enclosed (list g) (joined (k.Sign signs.Comma) item xs) xs (put_list xs h (typed_parts (joined (k.Sign signs.Comma) item xs) (fixed (k.Sign signs.RightParen) ∷ []) t.1).0)

-- ---- changes of columns

put_add : (c : ColumnDef) → is_column c ≡ true → AllTyped (spec.add_tokens c) → Put rules.change (spec.add_tokens c) (alters.Add c)
unfolding rules.change
put_add c h t =
    let p = put_next (k.Keyword words.Add) (word words.Column then rules.column) (fixed (k.Keyword words.Column) ∷ column_tokens c) (tt, c) refl
    (put_next (k.Keyword words.Column) rules.column (column_tokens c) c refl (put_column c h t.1.1)) in
    (inl ((tt, (tt, c)), p.0, refl), p.1)

put_remove : (n : List ℕ) → is_name n ≡ true → AllTyped (spec.verb_column_tokens words.Drop n) → Put rules.change (spec.verb_column_tokens words.Drop n) (alters.Remove n)
unfolding rules.change
put_remove n h t =
    let p = put_next (k.Keyword words.Drop) (word words.Column then name) (fixed (k.Keyword words.Column) ∷ name_tokens n) (tt, n) refl (put_next (k.Keyword words.Column) name (name_tokens n) n refl (put_name n h t.1.1)) in
    (inr (inl ((tt, (tt, n)), p.0, refl)), p.1)

put_rename : (n to : List ℕ) → (is_name n && is_name to) ≡ true → AllTyped (spec.rename_tokens n to) → Put rules.change (spec.rename_tokens n to) (alters.Rename n to)
unfolding rules.change rules.rename
put_rename n to h t =
    let h = and_parts (is_name n) (is_name to) h in
    let ends = put_next (k.Keyword words.To) name (name_tokens to) to refl (put_name to h.1 t.1.1.1.1) in
    let named = put_then name (word words.To then name) (name_tokens n) (fixed (k.Keyword words.To) ∷ name_tokens to) n (tt, to) (put_name n h.0 (t.1.1.0, tt)) ends in
    let p = put_next (k.Keyword words.Rename) (word words.Column then name then word words.To then name) (fixed (k.Keyword words.Column) ∷ quoted n ∷ fixed (k.Keyword words.To) ∷ name_tokens to) (tt, (n, (tt, to))) refl
    (put_next (k.Keyword words.Column) (name then word words.To then name) (quoted n ∷ fixed (k.Keyword words.To) ∷ name_tokens to) (n, (tt, to)) refl named) in
    (inr (inr (inl ((tt, (tt, (n, (tt, to)))), p.0, refl))), p.1)

-- ALTER COLUMN name SET, and what follows
put_setting : (n : List ℕ) (ts : List Token) (z : ColType ⊎ Value) → is_name n ≡ true → is_typed (quoted n) ≡ true → Put rules.setting ts z
    → Put rules.change (fixed (k.Keyword words.Alter) ∷ fixed (k.Keyword words.Column) ∷ quoted n ∷ fixed (k.Keyword words.Set) ∷ ts) (rules.set_of n z)
unfolding rules.change rules.set_column
put_setting n ts z h t q =
    let named = put_then name (word words.Set then rules.setting) (name_tokens n) (fixed (k.Keyword words.Set) ∷ ts) n (tt, z) (put_name n h (t, tt)) (put_next (k.Keyword words.Set) rules.setting ts z refl q) in
    let p = put_next (k.Keyword words.Alter) (word words.Column then name then word words.Set then rules.setting) (fixed (k.Keyword words.Column) ∷ quoted n ∷ fixed (k.Keyword words.Set) ∷ ts) (tt, (n, (tt, z))) refl
    (put_next (k.Keyword words.Column) (name then word words.Set then rules.setting) (quoted n ∷ fixed (k.Keyword words.Set) ∷ ts) (n, (tt, z)) refl named) in
    (inr (inr (inr ((tt, (tt, (n, (tt, z)))), p.0, refl))), p.1)

set_type : (ty : ColType) → Put rules.setting (fixed (k.Keyword words.Data) ∷ fixed (k.Keyword words.Type) ∷ type_tokens ty) (inl ty)
unfolding rules.setting
set_type ty =
    let p = put_next (k.Keyword words.Data) (word words.Type then column_type) (fixed (k.Keyword words.Type) ∷ type_tokens ty) (tt, ty) refl (put_next (k.Keyword words.Type) column_type (type_tokens ty) ty refl (put_type ty)) in
    (inl ((tt, (tt, ty)), p.0, refl), p.1)

set_default : (v : Value) → is_literal v ≡ true → AllTyped (literal_tokens v) → Put rules.setting (fixed (k.Keyword words.Default) ∷ literal_tokens v) (inr v)
unfolding rules.setting
set_default v h t = let p = put_next (k.Keyword words.Default) literal (literal_tokens v) v refl (put_literal v h t) in (inr ((tt, v), p.0, refl), p.1)

put_change : (c : Alter) → is_change c ≡ true → AllTyped (spec.change_tokens c) → Put rules.change (spec.change_tokens c) c
put_change (alters.Add c) h t = put_add c h t
put_change (alters.Remove n) h t = put_remove n h t
put_change (alters.Rename n to) h t = put_rename n to h t
put_change (alters.Promote n ty) h t = put_setting n (fixed (k.Keyword words.Data) ∷ fixed (k.Keyword words.Type) ∷ type_tokens ty) (inl ty) h t.1.1.0 (set_type ty)
put_change (alters.SetDefault n v) h t =
    let p = and_parts (is_name n) (is_literal v) h in
    put_setting n (fixed (k.Keyword words.Default) ∷ literal_tokens v) (inr v) p.0 t.1.1.0 (set_default v p.1 t.1.1.1.1.1)

-- ---- statements on schemas and tables

abbrev PutStmt : Stmt → Type 0
PutStmt x = AllTyped (statement_tokens x) → Put rules.stmt (statement_tokens x) x

defined : (ts : List Token) (x : Stmt) → Put rules.definition ts x → Put rules.stmt ts x
unfolding rules.stmt
defined ts x p = (inr (inl p.0), p.1)

created : (ts : List Token) (x : Stmt) → Put rules.create ts x → Put rules.stmt (fixed (k.Keyword words.Create) ∷ ts) x
unfolding rules.definition
created ts x q = let p = put_next (k.Keyword words.Create) rules.create ts x refl q in defined (fixed (k.Keyword words.Create) ∷ ts) x (inl ((tt, x), p.0, refl), p.1)

removed : (ts : List Token) (x : Stmt) → Put rules.remove ts x → Put rules.stmt (fixed (k.Keyword words.Drop) ∷ ts) x
unfolding rules.definition
removed ts x q = let p = put_next (k.Keyword words.Drop) rules.remove ts x refl q in defined (fixed (k.Keyword words.Drop) ∷ ts) x (inr (inl ((tt, x), p.0, refl)), p.1)

altered : (ts : List Token) (x : Stmt) → Put rules.alter ts x → Put rules.stmt (fixed (k.Keyword words.Alter) ∷ ts) x
unfolding rules.definition
altered ts x q = let p = put_next (k.Keyword words.Alter) rules.alter ts x refl q in defined (fixed (k.Keyword words.Alter) ∷ ts) x (inr (inr ((tt, x), p.0, refl)), p.1)

create_schema : (n : List ℕ) → is_name n ≡ true → PutStmt (stmts.CreateSchema n)
unfolding rules.create
create_schema n h t =
    let p = put_next (k.Keyword words.Schema) name (name_tokens n) n refl (put_name n h t.1.1) in
    created (fixed (k.Keyword words.Schema) ∷ name_tokens n) (stmts.CreateSchema n) (inl ((tt, n), p.0, refl), p.1)

drop_schema : (n : List ℕ) → is_name n ≡ true → PutStmt (stmts.DropSchema n)
unfolding rules.remove
drop_schema n h t =
    let p = put_next (k.Keyword words.Schema) name (name_tokens n) n refl (put_name n h t.1.1) in
    removed (fixed (k.Keyword words.Schema) ∷ name_tokens n) (stmts.DropSchema n) (inl ((tt, n), p.0, refl), p.1)

create_table : (table : TableName) (columns : List ColumnDef) → (is_table table && is_some_of is_column columns) ≡ true → PutStmt (stmts.CreateTable table columns)
unfolding rules.create rules.columns
create_table table columns h t =
    let h = and_parts (is_table table) (is_some_of is_column columns) h in
    let cols : List Token = enclosed (joined (k.Sign signs.Comma) column_tokens columns) in
    let typed = typed_parts (table_tokens table) cols t.1.1 in
    let q = put_then rules.table rules.columns (table_tokens table) cols table columns (put_table table h.0 typed.0) (put_enclosed_list rules.column column_tokens is_column put_column columns h.1 typed.1) in
    let p = put_next (k.Keyword words.Table) (rules.table then rules.columns) (table_tokens table ++ cols) (table, columns) refl q in
    created (fixed (k.Keyword words.Table) ∷ (table_tokens table ++ cols)) (stmts.CreateTable table columns) (inr ((tt, (table, columns)), p.0, refl), p.1)

drop_table : (table : TableName) → is_table table ≡ true → PutStmt (stmts.DropTable table)
unfolding rules.remove
drop_table table h t =
    let p = put_next (k.Keyword words.Table) rules.table (table_tokens table) table refl (put_table table h t.1.1) in
    removed (fixed (k.Keyword words.Table) ∷ table_tokens table) (stmts.DropTable table) (inr ((tt, table), p.0, refl), p.1)

alter_table : (table : TableName) (c : Alter) → (is_table table && is_change c) ≡ true → PutStmt (stmts.Change table c)
unfolding rules.alter
alter_table table c h t =
    let h = and_parts (is_table table) (is_change c) h in
    let typed = typed_parts (table_tokens table) (spec.change_tokens c) t.1.1 in
    let q = put_then rules.table rules.change (table_tokens table) (spec.change_tokens c) table c (put_table table h.0 typed.0) (put_change c h.1 typed.1) in
    let p = put_next (k.Keyword words.Table) (rules.table then rules.change) (table_tokens table ++ spec.change_tokens c) (table, c) refl q in
    altered (fixed (k.Keyword words.Table) ∷ (table_tokens table ++ spec.change_tokens c)) (stmts.Change table c) (((tt, (table, c)), p.0, refl), p.1)

-- ---- statements on rows

put_cell : (c : Cell) → is_cell c ≡ true → AllTyped (cell_tokens c) → Put rules.cell (cell_tokens c) c
unfolding rules.cell
put_cell cells.Default h t = let p = put_word (k.Keyword words.Default) refl in (inl (tt, p.0, refl), p.1)
put_cell (cells.Given v) h t = let p = put_literal v h t in (inr (v, p.0, refl), p.1)

put_row : (row : List Cell) → is_row row ≡ true → AllTyped (row_tokens row) → Put rules.row (row_tokens row) row
unfolding rules.row
put_row row h t = put_enclosed_list rules.cell cell_tokens is_cell put_cell row h t

put_assignment : (z : List ℕ × Value) → is_assignment z ≡ true → AllTyped (spec.assignment_tokens z) → Put rules.assignment (spec.assignment_tokens z) z
unfolding rules.assignment
put_assignment z h t =
    let h = and_parts (is_name z.0) (is_literal z.1) h in
    let p = put_then name (mark signs.Eq then literal) (name_tokens z.0) (fixed (k.Sign signs.Eq) ∷ literal_tokens z.1) z.0 (tt, z.1) (put_name z.0 h.0 (t.0, tt))
    (put_next (k.Sign signs.Eq) literal (literal_tokens z.1) z.1 refl (put_literal z.1 h.1 t.1.1)) in
    (((z.0, (tt, z.1)), p.0, refl), p.1)

put_item : (i : Item) → is_item i ≡ true → AllTyped (spec.item_tokens i) → Put rules.item (spec.item_tokens i) i
unfolding rules.item
put_item items.RowId h t = let p = put_word (k.Keyword words.RowId) refl in (inl (tt, p.0, refl), p.1)
put_item (items.Column n) h t = let p = put_name n h t in (inr (n, p.0, refl), p.1)

put_shown : (xs : List Item) → list_all is_item xs ≡ true → AllTyped (spec.shown_items xs) → Put rules.shown (spec.shown_items xs) xs
unfolding rules.shown
put_shown [] h t = let p = put_word (k.Sign signs.Star) refl in (inl (tt, p.0, refl), p.1)
put_shown (i ∷ xs) h t = let p = put_list rules.item spec.item_tokens is_item put_item (i ∷ xs) h t in (inr p.0, p.1)

of_rows : (ts : List Token) (x : Stmt) → Put rules.rows ts x → Put rules.stmt ts x
unfolding rules.stmt
of_rows ts x p = (inr (inr (inl p.0)), p.1)

insert : (table : TableName) (rows : List (List Cell)) → (is_table table && is_some_of is_row rows) ≡ true → PutStmt (stmts.Insert table rows)
unfolding rules.rows rules.insert
insert table rows h t =
    let h = and_parts (is_table table) (is_some_of is_row rows) h in
    let all : List Token = joined (k.Sign signs.Comma) row_tokens rows in
    let typed = typed_parts (table_tokens table) (fixed (k.Keyword words.Values) ∷ all) t.1.1 in
    let behind = put_next (k.Keyword words.Values) (list rules.row) all rows refl (put_list rules.row row_tokens is_row put_row rows h.1 typed.1.1) in
    let q = put_then rules.table (word words.Values then list rules.row) (table_tokens table) (fixed (k.Keyword words.Values) ∷ all) table (tt, rows) (put_table table h.0 typed.0) behind in
    let r = put_next (k.Keyword words.Into) (rules.table then word words.Values then list rules.row) (table_tokens table ++ fixed (k.Keyword words.Values) ∷ all) (table, (tt, rows)) refl q in
    let p = put_next (k.Keyword words.Insert) rules.insert (fixed (k.Keyword words.Into) ∷ (table_tokens table ++ fixed (k.Keyword words.Values) ∷ all)) (stmts.Insert table rows) refl (((tt, (table, (tt, rows))), r.0, refl), r.1) in
    of_rows (statement_tokens (stmts.Insert table rows)) (stmts.Insert table rows) (inl ((tt, stmts.Insert table rows), p.0, refl), p.1)

-- a table and a test
tested : (table : TableName) (test : Option Pred) → is_table table ≡ true → is_where test ≡ true → AllTyped (table_tokens table ++ where_tokens test)
    → Put (rules.table then where_) (table_tokens table ++ where_tokens test) (table, test)
tested table test h l t =
    let typed = typed_parts (table_tokens table) (where_tokens test) t in
    put_then rules.table where_ (table_tokens table) (where_tokens test) table test (put_table table h typed.0) (put_where test l typed.1)

delete : (table : TableName) (test : Option Pred) → (is_table table && is_where test) ≡ true → PutStmt (stmts.Delete table test)
unfolding rules.rows rules.delete
delete table test h t =
    let h = and_parts (is_table table) (is_where test) h in
    let q = tested table test h.0 h.1 t.1.1 in
    let r = put_next (k.Keyword words.From) (rules.table then where_) (table_tokens table ++ where_tokens test) (table, test) refl q in
    let p = put_next (k.Keyword words.Delete) rules.delete (fixed (k.Keyword words.From) ∷ (table_tokens table ++ where_tokens test)) (stmts.Delete table test) refl (((tt, (table, test)), r.0, refl), r.1) in
    of_rows (statement_tokens (stmts.Delete table test)) (stmts.Delete table test) (inr (inl ((tt, stmts.Delete table test), p.0, refl)), p.1)

update : (table : TableName) (set : List (List ℕ × Value)) (test : Option Pred) → (is_table table && is_some_of is_assignment set && is_where test) ≡ true → PutStmt (stmts.Update table set test)
unfolding rules.rows rules.update
update table set test h t =
    let l = and_parts (is_table table && is_some_of is_assignment set) (is_where test) h in
    let h = and_parts (is_table table) (is_some_of is_assignment set) l.0 in
    let all : List Token = joined (k.Sign signs.Comma) spec.assignment_tokens set in
    let typed = typed_parts (table_tokens table) (fixed (k.Keyword words.Set) ∷ (all ++ where_tokens test)) t.1 in
    let ends = typed_parts all (where_tokens test) typed.1.1 in
    let sets = put_then (list rules.assignment) where_ all (where_tokens test) set test (put_list rules.assignment spec.assignment_tokens is_assignment put_assignment set h.1 ends.0) (put_where test l.1 ends.1) in
    let q = put_then rules.table (word words.Set then list rules.assignment then where_) (table_tokens table) (fixed (k.Keyword words.Set) ∷ (all ++ where_tokens test)) table (tt, (set, test)) (put_table table h.0 typed.0)
    (put_next (k.Keyword words.Set) (list rules.assignment then where_) (all ++ where_tokens test) (set, test) refl sets) in
    let p = put_next (k.Keyword words.Update) rules.update (table_tokens table ++ fixed (k.Keyword words.Set) ∷ (all ++ where_tokens test)) (stmts.Update table set test) refl (((table, (tt, (set, test))), q.0, refl), q.1) in
    of_rows (statement_tokens (stmts.Update table set test)) (stmts.Update table set test) (inr (inr (inl ((tt, stmts.Update table set test), p.0, refl))), p.1)

select : (table : TableName) (xs : List Item) (test : Option Pred) → (is_table table && list_all is_item xs && is_where test) ≡ true → PutStmt (stmts.Select table xs test)
unfolding rules.rows rules.select
select table xs test h t =
    let l = and_parts (is_table table && list_all is_item xs) (is_where test) h in
    let h = and_parts (is_table table) (list_all is_item xs) l.0 in
    let ends : List Token = table_tokens table ++ where_tokens test in
    let typed = typed_parts (spec.shown_items xs) (fixed (k.Keyword words.From) ∷ ends) t.1 in
    let q = put_then rules.shown (word words.From then rules.table then where_) (spec.shown_items xs) (fixed (k.Keyword words.From) ∷ ends) xs (tt, (table, test)) (put_shown xs h.1 typed.0)
    (put_next (k.Keyword words.From) (rules.table then where_) ends (table, test) refl (tested table test h.0 l.1 typed.1.1)) in
    let p = put_next (k.Keyword words.Select) rules.select (spec.shown_items xs ++ fixed (k.Keyword words.From) ∷ ends) (stmts.Select table xs test) refl (((xs, (tt, (table, test))), q.0, refl), q.1) in
    of_rows (statement_tokens (stmts.Select table xs test)) (stmts.Select table xs test) (inr (inr (inr ((tt, stmts.Select table xs test), p.0, refl))), p.1)

-- ---- the others

in_turn : (ts : List Token) (x : Stmt) → Put rules.transaction ts x → Put rules.stmt ts x
unfolding rules.stmt
in_turn ts x p = (inl p.0, p.1)

begun : (ts : List Token) (x : Stmt) → Put rules.begin ts x → Put rules.stmt (fixed (k.Keyword words.Begin) ∷ ts) x
unfolding rules.transaction
begun ts x q = let p = put_next (k.Keyword words.Begin) rules.begin ts x refl q in in_turn (fixed (k.Keyword words.Begin) ∷ ts) x (inl ((tt, x), p.0, refl), p.1)

put_begin : Put rules.begin [] stmts.Begin
unfolding rules.begin
put_begin = ((None, refl, refl), tt)

abbrev version : Grammar ℕ
version = made (λ z. z.1.1) (word words.Version then mark signs.Arrow then count)

put_at : (n : ℕ) → is_count n ≡ true → AllTyped (fixed (k.Keyword words.At) ∷ enclosed (fixed (k.Keyword words.Version) ∷ fixed (k.Sign signs.Arrow) ∷ number_tokens n))
    → Put rules.begin (fixed (k.Keyword words.At) ∷ enclosed (fixed (k.Keyword words.Version) ∷ fixed (k.Sign signs.Arrow) ∷ number_tokens n)) (stmts.BeginAt n)
unfolding rules.begin rules.begin_at
put_at n h t =
    let q = put_next (k.Keyword words.Version) (mark signs.Arrow then count) (fixed (k.Sign signs.Arrow) ∷ number_tokens n) (tt, n) refl (put_next (k.Sign signs.Arrow) count (number_tokens n) n refl (put_count n h (t.1.1.1.1.0, tt))) in
    let inner = put_enclosed (version) (fixed (k.Keyword words.Version) ∷ fixed (k.Sign signs.Arrow) ∷ number_tokens n) n (((tt, (tt, n)), q.0, refl), q.1) in
    let p = put_next (k.Keyword words.At) (parenthesized version) (enclosed (fixed (k.Keyword words.Version) ∷ fixed (k.Sign signs.Arrow) ∷ number_tokens n)) n refl inner in
    ((Some n, ((tt, n), p.0, refl), refl), p.1)

commit : Put rules.stmt (fixed (k.Keyword words.Commit) ∷ []) stmts.Commit
unfolding rules.transaction
commit = let p = put_word (k.Keyword words.Commit) refl in in_turn (fixed (k.Keyword words.Commit) ∷ []) stmts.Commit (inr (inl (tt, p.0, refl)), p.1)

rollback : Put rules.stmt (fixed (k.Keyword words.Rollback) ∷ []) stmts.Rollback
unfolding rules.transaction
rollback = let p = put_word (k.Keyword words.Rollback) refl in in_turn (fixed (k.Keyword words.Rollback) ∷ []) stmts.Rollback (inr (inr (tt, p.0, refl)), p.1)

kept_up : (ts : List Token) (x : Stmt) → Put rules.upkeep ts x → Put rules.stmt ts x
unfolding rules.stmt
kept_up ts x p = (inr (inr (inr p.0)), p.1)

compact : (table : TableName) → is_table table ≡ true → PutStmt (stmts.Compact table)
unfolding rules.upkeep
compact table h t =
    let p = put_next (k.Keyword words.Compact) rules.table (table_tokens table) table refl (put_table table h t.1) in
    kept_up (fixed (k.Keyword words.Compact) ∷ table_tokens table) (stmts.Compact table) (inl ((tt, table), p.0, refl), p.1)

flush : (table : TableName) → is_table table ≡ true → PutStmt (stmts.Flush table)
unfolding rules.upkeep
flush table h t =
    let p = put_next (k.Keyword words.Flush) rules.table (table_tokens table) table refl (put_table table h t.1) in
    kept_up (fixed (k.Keyword words.Flush) ∷ table_tokens table) (stmts.Flush table) (inr (inl ((tt, table), p.0, refl)), p.1)

expire : (n : ℕ) → is_count n ≡ true → PutStmt (stmts.Expire n)
unfolding rules.upkeep
expire n h t =
    let p = put_next (k.Keyword words.Expire) count (number_tokens n) n refl (put_count n h t.1) in
    kept_up (fixed (k.Keyword words.Expire) ∷ number_tokens n) (stmts.Expire n) (inr (inr (inl ((tt, n), p.0, refl))), p.1)

clean : Put rules.stmt (fixed (k.Keyword words.Clean) ∷ []) stmts.Clean
unfolding rules.upkeep
clean = let p = put_word (k.Keyword words.Clean) refl in kept_up (fixed (k.Keyword words.Clean) ∷ []) stmts.Clean (inr (inr (inr (inl (tt, p.0, refl)))), p.1)

snapshots : Put rules.stmt (fixed (k.Keyword words.Snapshots) ∷ []) stmts.Snapshots
unfolding rules.upkeep
snapshots = let p = put_word (k.Keyword words.Snapshots) refl in kept_up (fixed (k.Keyword words.Snapshots) ∷ []) stmts.Snapshots (inr (inr (inr (inr (tt, p.0, refl)))), p.1)

put_stmt : (x : Stmt) → is_stmt x ≡ true → PutStmt x
put_stmt stmts.Begin h t = begun [] stmts.Begin put_begin
put_stmt (stmts.BeginAt n) h t = begun (fixed (k.Keyword words.At) ∷ enclosed (fixed (k.Keyword words.Version) ∷ fixed (k.Sign signs.Arrow) ∷ number_tokens n)) (stmts.BeginAt n) (put_at n h t.1)
put_stmt stmts.Commit h t = commit
put_stmt stmts.Rollback h t = rollback
put_stmt (stmts.CreateSchema n) h t = create_schema n h t
put_stmt (stmts.DropSchema n) h t = drop_schema n h t
put_stmt (stmts.CreateTable table columns) h t = create_table table columns h t
put_stmt (stmts.DropTable table) h t = drop_table table h t
put_stmt (stmts.Change table c) h t = alter_table table c h t
put_stmt (stmts.Insert table rows) h t = insert table rows h t
put_stmt (stmts.Delete table test) h t = delete table test h t
put_stmt (stmts.Update table set test) h t = update table set test h t
put_stmt (stmts.Select table is test) h t = select table is test h t
put_stmt (stmts.Compact table) h t = compact table h t
put_stmt (stmts.Flush table) h t = flush table h t
put_stmt (stmts.Expire n) h t = expire n h t
put_stmt stmts.Clean h t = clean
put_stmt stmts.Snapshots h t = snapshots

-- ---- lines

put_line : (s : ℕ) (x : Stmt) → IsPrintable s x → AllTyped (printed s x) → Put rules.line (printed s x) (s, x)
unfolding rules.line
put_line s x h t =
    let all = and_parts (nat_le 1 s && nat_le s 16) (is_stmt x) h in
    let both = and_parts (nat_le 1 s) (nat_le s 16) all.0 in
    let front = put_session s both.0 both.1 (t.0, tt) in
    let behind = put_stmt x all.1 t.1 in
    (((s, (x, None)), (number_tokens s, statement_tokens x, refl, front.0, (statement_tokens x, [], sym (append-nil (statement_tokens x)), behind.0, refl)), refl), append_cut (number_tokens s) (statement_tokens x) front.1 behind.1)

-- a printed line says what it is printed of
pub says : (s : ℕ) (x : Stmt) → IsPrintable s x → list_all is_typed (printed s x) ≡ true → Says (spelled (printed s x)) (s, x)
says s x h t =
    let p = put_line s x h (all_typed (printed s x) t) in
    subst (λ (ts : List Token). Spells rules.line ts (s, x)) (sym (cut_spelled (printed s x) p.1)) p.0
