-- No step of the plain lake gives an answer that stands for a loss.
use Rattle.std.proofs.Common.{◌≡◌, ℕ, List, [], ◌∷◌, ◌++◌, refl, Bool, true, false, length}
use Rattle.std.specs.Prelude.{Option, Some, None, option_map, not, ◌==◌}
use Rattle.lake_types.specs.Cells.{column_named}
use Rattle.lake_types.specs.Fits.{promotes}
use Rattle.lake_types.specs.declared.kind.Clash.{Clash}
use Rattle.lake_types.specs.declared.pred.Pred.{Pred}
use Rattle.lake_types.specs.declared.stmt.Alter.{Alter}
use Rattle.lake_types.specs.declared.stmt.Alter.TheVariants as alter
use Rattle.lake_types.specs.declared.stmt.Cell.{Cell}
use Rattle.lake_types.specs.declared.stmt.ColumnDef.{ColumnDef}
use Rattle.lake_types.specs.declared.stmt.Item.{Item}
use Rattle.lake_types.specs.declared.stmt.Stmt.{Stmt}
use Rattle.lake_types.specs.declared.stmt.Stmt.TheVariants as stmt
use Rattle.lake_types.specs.declared.stmt.TableName.{TableName}
use Rattle.lake_types.specs.declared.value.ColType.{ColType}
use Rattle.lake_types.specs.declared.value.Column.{Column}
use Rattle.lake_types.specs.declared.value.Value.{Value}
use Rattle.lake_model.specs.Apply.{Cells, Draft, Work, worked}
use Rattle.lake_model.specs.Calls as calls
use Rattle.lake_model.specs.Calls.{CallStep, call_step, is_empty, replied, opened}
use Rattle.lake_model.specs.Core.{Core, is_kept, head, open_at, version_at, with_open, first_past}
use Rattle.lake_model.specs.Losses.{loss_sort}
use Rattle.lake_model.specs.Plans as p
use Rattle.lake_model.specs.Plans.{Plan, Append, Leave, Refuse, or_else, refused_if, unless}
use Rattle.lake_model.specs.Rows as r
use Rattle.lake_model.specs.State.{State}
use Rattle.lake_model.specs.Step as s
use Rattle.lake_model.specs.Step.{Step, step}
use Rattle.lake_model.specs.declared.answer.Answer.{Answer}
use Rattle.lake_model.specs.declared.answer.Answer.TheVariants as answer
use Rattle.lake_model.specs.declared.answer.Reply.{Reply}
use Rattle.lake_model.specs.declared.call.Call.{Call}
use Rattle.lake_model.specs.declared.call.Call.TheVariants.{Begin, BeginAt, Commit, Rollback, Expire, Clean, List as ListCall}
use Rattle.lake_model.specs.declared.call.CallReply.{CallReply}
use Rattle.lake_model.specs.declared.call.CallReply.TheVariants as reply
use Rattle.lake_model.specs.declared.call.Open.{Open}
use Rattle.lake_model.specs.declared.change.Change.{Change}
use Rattle.lake_model.specs.declared.change.Change.TheVariants as change
use Rattle.lake_model.specs.declared.change.Ref.{Ref}
use Rattle.lake_model.specs.declared.change.RowRef.{RowRef}
use Rattle.lake_model.proofs.LineLemmas.{either}

-- ---- faults

unfoldable FaultSpares : Option Answer → Type 0
FaultSpares None = Unit {0}
FaultSpares (Some a) = loss_sort a ≡ None

refused-spares : (b : Bool) (a : Answer) → loss_sort a ≡ None → FaultSpares (refused_if b a)
unfolding FaultSpares
refused-spares true a h = h
refused-spares false a h = tt

nothing : FaultSpares None
unfolding FaultSpares
nothing = tt

fault : (a : Answer) → loss_sort a ≡ None → FaultSpares (Some a)
unfolding FaultSpares
fault a h = h

or_else-spares : (f g : Option Answer) → FaultSpares f → FaultSpares g → FaultSpares (or_else f g)
unfolding FaultSpares
or_else-spares None g p q = q
or_else-spares (Some a) g p q = p

test-spares : (f : Option r.TestFault) → FaultSpares (option_map r.answer_to f)
unfolding FaultSpares
test-spares None = tt
test-spares (Some (r.LacksColumn name)) = refl
test-spares (Some (r.HasWrongType name)) = refl

value-spares : (name : List ℕ) (ty : ColType) (nulls : Bool) (v : Value) → FaultSpares (p.value_fault name ty nulls v)
value-spares name ty nulls v = or_else-spares _ _ (refused-spares _ (answer.WrongType name) refl) (refused-spares _ (answer.NotNull name) refl)

-- ---- plans

unfoldable PlanSpares : Plan → Type 0
PlanSpares (Refuse a) = loss_sort a ≡ None
PlanSpares (Append c a) = loss_sort a ≡ None
PlanSpares (Leave a) = loss_sort a ≡ None

refuses : (a : Answer) → loss_sort a ≡ None → PlanSpares (Refuse a)
unfolding PlanSpares
refuses a h = h

appends : (c : Change) (a : Answer) → loss_sort a ≡ None → PlanSpares (Append c a)
unfolding PlanSpares
appends c a h = h

leaves : (a : Answer) → loss_sort a ≡ None → PlanSpares (Leave a)
unfolding PlanSpares
leaves a h = h

unless-spares : (f : Option Answer) (plan : Plan) → FaultSpares f → PlanSpares plan → PlanSpares (unless f plan)
unfolding FaultSpares PlanSpares
unless-spares None plan p q = q
unless-spares (Some a) plan p q = p

in_schema-spares : (name : List ℕ) (plan : Ref → Plan) (o : Option Ref) → ((at : Ref) → PlanSpares (plan at)) → PlanSpares (p.in_schema name plan o)
unfolding PlanSpares
in_schema-spares name plan None h = refl
in_schema-spares name plan (Some at) h = h at

of_draft-spares : (table : TableName) (plan : Draft → Plan) (o : Option Draft) → ((d : Draft) → PlanSpares (plan d)) → PlanSpares (p.of_draft table plan o)
unfolding PlanSpares
of_draft-spares table plan None h = refl
of_draft-spares table plan (Some d) h = h d

on_table-spares : (w : Work) (table : TableName) (plan : Draft → Plan) → ((d : Draft) → PlanSpares (plan d)) → PlanSpares (p.on_table w table plan)
on_table-spares w table plan h =
    in_schema-spares table.schema _ (p.schema_named w table.schema) (λ at. of_draft-spares table plan (p.table_named w at table.table) h)

of_column-spares : (name : List ℕ) (plan : Column → Plan) (o : Option Column) → ((c : Column) → PlanSpares (plan c)) → PlanSpares (p.of_column name plan o)
unfolding PlanSpares
of_column-spares name plan None h = refl
of_column-spares name plan (Some c) h = h c

new_columns-spares : (before defs : List ColumnDef) → FaultSpares (p.new_columns_fault before defs)
new_columns-spares before [] = nothing
new_columns-spares before (def ∷ defs) =
    or_else-spares (p.new_column_fault before def) (p.new_columns_fault (def ∷ before) defs)
    (or_else-spares _ _ (refused-spares _ (answer.NameUsed def.name) refl)
    (or_else-spares _ _ (refused-spares _ (answer.WrongType def.name) refl) (refused-spares _ (answer.NotNull def.name) refl)))
    (new_columns-spares (def ∷ before) defs)

create_table-spares : (w : Work) (table : TableName) (defs : List ColumnDef) → PlanSpares (p.create_table w table defs)
create_table-spares w table defs =
    in_schema-spares table.schema (p.create_in w table defs) (p.schema_named w table.schema)
    (λ at. unless-spares _ _ (or_else-spares _ _ (refused-spares _ (answer.NameUsed table.table) refl)
    (or_else-spares _ _ (refused-spares _ answer.ManyColumns refl) (new_columns-spares [] defs))) (appends _ answer.Done refl))

added-spares : (table : ℕ) (d : Draft) (def : ColumnDef) → FaultSpares (p.added_column_fault table d def)
added-spares table d def =
    or_else-spares _ _ (refused-spares _ answer.ManyColumns refl)
    (or_else-spares _ _ (refused-spares _ (answer.NameUsed def.name) refl)
    (or_else-spares _ _ (value-spares def.name def.ty def.nulls (p.default_of def)) (refused-spares _ _ refl)))

on_column-spares : (d : Draft) (name : List ℕ) (plan : Column → Plan) → ((c : Column) → PlanSpares (plan c)) → PlanSpares (p.on_column d name plan)
on_column-spares d name plan h = of_column-spares name plan (column_named d.columns name) h

-- a change behind one test
tried-spares : (b : Bool) (a : Answer) (c : Change) → loss_sort a ≡ None → PlanSpares (unless (refused_if b a) (Append c answer.Done))
tried-spares b a c h = unless-spares (refused_if b a) (Append c answer.Done) (refused-spares b a h) (appends c answer.Done refl)

alter-spares : (next : ℕ) (w : Work) (alteration : Alter) (d : Draft) → PlanSpares (p.alter_column next w alteration d)
alter-spares next w (alter.Add def) d = unless-spares _ _ (added-spares (p.id_of next w d) d def) (appends _ answer.Done refl)
alter-spares next w (alter.Remove name) d =
    on_column-spares d name (λ c. unless (refused_if (length d.columns == 1) answer.LastColumn) (Append (change.DropColumn d.at c.field) answer.Done))
    (λ c. tried-spares (length d.columns == 1) answer.LastColumn (change.DropColumn d.at c.field) refl)
alter-spares next w (alter.Rename name to) d =
    on_column-spares d name (λ c. unless (refused_if (p.has_column d to) (answer.NameUsed to)) (Append (change.RenameColumn d.at c.field to) answer.Done))
    (λ c. tried-spares (p.has_column d to) (answer.NameUsed to) (change.RenameColumn d.at c.field to) refl)
alter-spares next w (alter.Promote name ty) d =
    on_column-spares d name (λ c. unless (refused_if (not (promotes c.ty ty)) (answer.NoPromotion name)) (Append (change.PromoteColumn d.at c.field ty) answer.Done))
    (λ c. tried-spares (not (promotes c.ty ty)) (answer.NoPromotion name) (change.PromoteColumn d.at c.field ty) refl)
alter-spares next w (alter.SetDefault name v) d =
    on_column-spares d name (λ c. unless (p.value_fault name c.ty c.nulls v) (Append (change.SetDefault d.at c.field v) answer.Done))
    (λ c. unless-spares (p.value_fault name c.ty c.nulls v) (Append (change.SetDefault d.at c.field v) answer.Done) (value-spares name c.ty c.nulls v)
    (appends (change.SetDefault d.at c.field v) answer.Done refl))

-- ---- rows

cells-spares : (columns : List Column) (row : List Cell) → FaultSpares (r.cells_fault columns row)
cells-spares [] row = nothing
cells-spares (c ∷ columns) [] = nothing
cells-spares (c ∷ columns) (x ∷ row) = or_else-spares _ _ (value-spares c.name c.ty c.nulls (r.given c x)) (cells-spares columns row)

rows-spares : (columns : List Column) (rows : List (List Cell)) → FaultSpares (r.rows_fault columns rows)
rows-spares columns [] = nothing
rows-spares columns (row ∷ rows) =
    or_else-spares _ _ (or_else-spares _ _ (refused-spares _ (answer.Arity (length columns) (length row)) refl) (cells-spares columns row)) (rows-spares columns rows)

insertion-spares : (d : Draft) (rows : List (List Cell)) → PlanSpares (r.insertion d rows)
unfolding PlanSpares
insertion-spares d [] = refl
insertion-spares d (row ∷ rows) = refl

deletion-spares : (d : Draft) (rows : List RowRef) → PlanSpares (r.deletion d rows)
unfolding PlanSpares
deletion-spares d [] = refl
deletion-spares d (row ∷ rows) = refl

updating-spares : (d : Draft) (set : Cells) (rows : List RowRef) → PlanSpares (r.updating d set rows)
unfolding PlanSpares
updating-spares d set [] = refl
updating-spares d set (row ∷ rows) = refl

of_assignment-spares : (name : List ℕ) (again : Bool) (v : Value) (o : Option Column) → FaultSpares (r.of_assignment name again v o)
of_assignment-spares name again v None = fault (answer.NoColumn name) refl
of_assignment-spares name again v (Some c) = or_else-spares _ _ (refused-spares again (answer.NameUsed name) refl) (value-spares name c.ty c.nulls v)

assignments-spares : (columns : List Column) (before set : List (List ℕ × Value)) → FaultSpares (r.assignments_fault columns before set)
assignments-spares columns before [] = nothing
assignments-spares columns before (a ∷ set) =
    or_else-spares (r.assignment_fault columns before a) (r.assignments_fault columns (a ∷ before) set) (of_assignment-spares a.0 _ a.1 _) (assignments-spares columns (a ∷ before) set)

-- ---- statements

plan_in-spares : (next : ℕ) (w : Work) (x : Stmt) → PlanSpares (s.plan_in next w x)
plan_in-spares next w (stmt.CreateSchema name) = unless-spares _ _ (refused-spares _ (answer.NameUsed name) refl) (appends _ answer.Done refl)
plan_in-spares next w (stmt.DropSchema name) =
    in_schema-spares name (λ schema. unless (refused_if (p.has_tables w schema) (answer.NotEmpty name)) (Append (change.DropSchema schema) answer.Done)) (p.schema_named w name)
    (λ schema. tried-spares (p.has_tables w schema) (answer.NotEmpty name) (change.DropSchema schema) refl)
plan_in-spares next w (stmt.CreateTable table columns) = create_table-spares w table columns
plan_in-spares next w (stmt.DropTable table) = on_table-spares w table _ (λ d. appends _ answer.Done refl)
plan_in-spares next w (stmt.Change table alteration) = on_table-spares w table _ (alter-spares next w alteration)
plan_in-spares next w (stmt.Insert table rows) = on_table-spares w table _ (λ (d : Draft). unless-spares _ _ (rows-spares d.columns rows) (insertion-spares d rows))
plan_in-spares next w (stmt.Delete table test) = on_table-spares w table _ (λ (d : Draft). unless-spares _ _ (test-spares (r.fault_of_test d.columns test)) (deletion-spares d _))
plan_in-spares next w (stmt.Update table set test) =
    on_table-spares w table _ (λ (d : Draft). unless-spares _ _ (or_else-spares _ _ (assignments-spares d.columns [] set) (test-spares (r.fault_of_test d.columns test))) (updating-spares d _ _))
plan_in-spares next w (stmt.Compact table) = on_table-spares w table _ (λ d. appends _ answer.Done refl)
plan_in-spares next w (stmt.Flush table) = on_table-spares w table _ (λ d. appends _ answer.Done refl)
plan_in-spares next w stmt.Begin = leaves answer.Done refl
plan_in-spares next w (stmt.BeginAt n) = leaves answer.Done refl
plan_in-spares next w stmt.Commit = leaves answer.Done refl
plan_in-spares next w stmt.Rollback = leaves answer.Done refl
plan_in-spares next w (stmt.Select table items test) = leaves answer.Done refl
plan_in-spares next w (stmt.Expire n) = leaves answer.Done refl
plan_in-spares next w stmt.Clean = leaves answer.Done refl
plan_in-spares next w stmt.Snapshots = leaves answer.Done refl

within-spares : (base : State) (own : List Change) (plan : Plan) → PlanSpares plan → PlanSpares (s.within base own plan)
within-spares base own (Refuse a) h = h
within-spares base own (Leave a) h = h
within-spares base own (Append c a) h = either PlanSpares (s.has_room base (own ++ c ∷ [])) (Append c a) (Refuse answer.TooLarge) h (refuses answer.TooLarge refl)

plan_of-spares : (base : State) (own : List Change) (x : Stmt) → PlanSpares (s.plan_of base own x)
plan_of-spares base own x =
    either PlanSpares (s.is_mixed own x) (Refuse answer.Mixed) _ (refuses answer.Mixed refl) (within-spares base own _ (plan_in-spares base.next_catalog (worked base own) x))

-- ---- steps

abbrev Spares : Step → Type 0
Spares st = loss_sort st.reply.last ≡ None

followed-spares : (core : Core) (own : List Change) (plan : Plan) → PlanSpares plan → Spares (s.followed core own plan)
unfolding PlanSpares
followed-spares core own (Refuse a) h = h
followed-spares core own (Leave a) h = h
followed-spares core own (Append c a) h = h

write-spares : (core : Core) (own : List Change) (x : Stmt) (o : Option Open) → Spares (s.write core own x o)
write-spares core own x None = refl
write-spares core own x (Some o) =
    either Spares o.read_only (s.refused core own answer.ReadOnly) _ refl (followed-spares core own _ (plan_of-spares (version_at core o.base).state own x))

abbrev NotLost : CallStep → Type 0
NotLost c = loss_sort (s.reply_of c.reply).last ≡ None

decided-spares : (core : Core) (session : ℕ) (own : List Change) (c : Option Clash) → NotLost (calls.decided core session own c)
decided-spares core session own None = refl
decided-spares core session own (Some c) = refl

commit-spares : (core : Core) (session : ℕ) (own : List Change) (o : Option Open) → NotLost (calls.commit core session own o)
commit-spares core session own None = refl
commit-spares core session own (Some o) =
    either NotLost (is_empty own) (replied (with_open core session None) (reply.Snapshot o.base)) (calls.decided core session own (first_past core o.base own)) refl (decided-spares core session own (first_past core o.base own))

unless_pinned-spares : (core : Core) (n : ℕ) (o : Option ℕ) → NotLost (calls.expire_unless core n o)
unless_pinned-spares core n None = refl
unless_pinned-spares core n (Some base) = refl

expire-spares : (core : Core) (n : ℕ) → NotLost (calls.expire core n)
expire-spares core n =
    either NotLost (is_kept core n) (calls.expire_unless core n (calls.least_base_below n core.opens)) (replied core (reply.NotKept core.first (head core))) (unless_pinned-spares core n (calls.least_base_below n core.opens)) refl

call-spares : (core : Core) (session : ℕ) (call : Call) → NotLost (call_step core session call)
call-spares core session Begin = refl
call-spares core session (BeginAt n) = either NotLost (is_kept core n) (opened core session n true) (replied core (reply.NotKept core.first (head core))) refl refl
call-spares core session (Commit own files) = commit-spares core session own (open_at core session)
call-spares core session Rollback = refl
call-spares core session (Expire n) = expire-spares core n
call-spares core session Clean = refl
call-spares core session ListCall = refl

begin-spares : (core : Core) (own : List Change) (session : ℕ) (call : Call) (o : Option Open) → Spares (s.begin core own session call o)
begin-spares core own session call None = call-spares core session call
begin-spares core own session call (Some o) = refl

end-spares : (core : Core) (own : List Change) (session : ℕ) (call : Call) (o : Option Open) → Spares (s.end core own session call o)
end-spares core own session call None = refl
end-spares core own session call (Some o) = call-spares core session call

expired-spares : (n : ℕ) (r : CallReply) → loss_sort (s.reply_of r).last ≡ None → loss_sort (s.expired n r).last ≡ None
expired-spares n reply.Done h = refl
expired-spares n (reply.Base m) h = h
expired-spares n (reply.NotKept first head) h = h
expired-spares n (reply.Snapshot m) h = h
expired-spares n (reply.Clash c) h = h
expired-spares n (reply.Pinned base) h = h
expired-spares n (reply.Listed rows) h = h
expired-spares n (reply.Lost cause) h = h

shown_unless-spares : (f : Option Answer) (rep : Reply) → FaultSpares f → loss_sort rep.last ≡ None → loss_sort (s.shown_unless f rep).last ≡ None
unfolding FaultSpares
shown_unless-spares None rep p q = q
shown_unless-spares (Some a) rep p q = p

select_at-spares : (table : TableName) (items : List Item) (test : Option Pred) (o : Option Draft) → loss_sort (s.select_at table items test o).last ≡ None
select_at-spares table items test None = refl
select_at-spares table items test (Some d) =
    shown_unless-spares (r.select_fault d items test) (s.shown d items test) (or_else-spares _ _ (test-spares _) (test-spares _)) refl

select_in-spares : (w : Work) (table : TableName) (items : List Item) (test : Option Pred) (o : Option Ref) → loss_sort (s.select_in w table items test o).last ≡ None
select_in-spares w table items test None = refl
select_in-spares w table items test (Some schema) = select_at-spares table items test (p.table_named w schema table.table)

select-spares : (core : Core) (own : List Change) (table : TableName) (items : List Item) (test : Option Pred) (o : Option Open) → Spares (s.select core own table items test o)
select-spares core own table items test None = refl
select-spares core own table items test (Some o) =
    let w = worked (version_at core o.base).state own in
    select_in-spares w table items test (p.schema_named w table.schema)

pub step-spares : (core : Core) (own : List Change) (session : ℕ) (x : Stmt) → Spares (step core own session x)
step-spares core own session stmt.Begin = begin-spares core own session Begin (open_at core session)
step-spares core own session (stmt.BeginAt n) = begin-spares core own session (BeginAt n) (open_at core session)
step-spares core own session stmt.Commit = end-spares core own session (Commit own 0) (open_at core session)
step-spares core own session stmt.Rollback = end-spares core own session Rollback (open_at core session)
step-spares core own session (stmt.Select table items test) = select-spares core own table items test (open_at core session)
step-spares core own session (stmt.Expire n) = expired-spares n (calls.expire core n).reply (expire-spares core n)
step-spares core own session stmt.Clean = refl
step-spares core own session stmt.Snapshots = refl
step-spares core own session (stmt.CreateSchema name) = write-spares core own (stmt.CreateSchema name) (open_at core session)
step-spares core own session (stmt.DropSchema name) = write-spares core own (stmt.DropSchema name) (open_at core session)
step-spares core own session (stmt.CreateTable table columns) = write-spares core own (stmt.CreateTable table columns) (open_at core session)
step-spares core own session (stmt.DropTable table) = write-spares core own (stmt.DropTable table) (open_at core session)
step-spares core own session (stmt.Change table alteration) = write-spares core own (stmt.Change table alteration) (open_at core session)
step-spares core own session (stmt.Insert table rows) = write-spares core own (stmt.Insert table rows) (open_at core session)
step-spares core own session (stmt.Delete table test) = write-spares core own (stmt.Delete table test) (open_at core session)
step-spares core own session (stmt.Update table set test) = write-spares core own (stmt.Update table set test) (open_at core session)
step-spares core own session (stmt.Compact table) = write-spares core own (stmt.Compact table) (open_at core session)
step-spares core own session (stmt.Flush table) = write-spares core own (stmt.Flush table) (open_at core session)
