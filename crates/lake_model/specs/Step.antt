-- The plain lake's step of one session, over the core and this session's own list alone. A refusal changes nothing, but
-- for a conflict, which ends the transaction.
use Rattle.std.specs.Prelude.{ℕ, not, nat_le, Bool, true, false, List, [], ◌∷◌, ◌++◌, length, map, decimal, Option, Some, None, if◌then◌else◌}
use Rattle.std.specs.List.{list_any}
use Rattle.lake_types.specs.declared.limits.TheConstants.{MAX_TXN_WEIGHT}
use Rattle.lake_types.specs.declared.pred.Pred.{Pred}
use Rattle.lake_types.specs.declared.stmt.Item.{Item}
use Rattle.lake_types.specs.declared.stmt.Stmt.{Stmt}
use Rattle.lake_types.specs.declared.stmt.Stmt.TheVariants as stmt
use Rattle.lake_types.specs.declared.stmt.TableName.{TableName}
use Rattle.lake_model.specs.Apply.{Draft, Work, worked}
use Rattle.lake_model.specs.Calls.{CallStep, call_step, is_empty}
use Rattle.lake_model.specs.Core.{Core, open_at, version_at}
use Rattle.lake_model.specs.Plans as plan
use Rattle.lake_model.specs.Plans.{Plan, schema_named, table_named}
use Rattle.lake_model.specs.Rows as rows
use Rattle.lake_model.specs.State.{State}
use Rattle.lake_model.specs.declared.answer.Answer.{Answer}
use Rattle.lake_model.specs.declared.answer.Answer.TheVariants as answer
use Rattle.lake_model.specs.declared.answer.Reply.{Reply}
use Rattle.lake_model.specs.declared.call.Call.{Call}
use Rattle.lake_model.specs.declared.call.Call.TheVariants.{Begin, BeginAt, Commit, Rollback, Expire, Clean, List as ListCall}
use Rattle.lake_model.specs.declared.call.CallReply.{CallReply}
use Rattle.lake_model.specs.declared.call.CallReply.TheVariants as reply
use Rattle.lake_model.specs.declared.call.Open.{Open}
use Rattle.lake_model.specs.declared.call.SnapRow.{SnapRow}
use Rattle.lake_model.specs.declared.change.Change.{Change}
use Rattle.lake_model.specs.declared.change.Change.TheVariants as change
use Rattle.lake_model.specs.declared.change.Ref.{Ref}

pub record Step : Type 0 where
  pub core : Core
  pub own : List Change
  pub reply : Reply

abbrev pub only : Answer → Reply
only a = record { rows = []; last = a }

abbrev pub refused : Core → List Change → Answer → Step
refused core own a = record { core = core; own = own; reply = only a }

-- ---- statements that are one call

abbrev pub snapshot_text : SnapRow → List ℕ
snapshot_text r = decimal r.snapshot ++ 44 ∷ r.changes

abbrev pub reply_of : CallReply → Reply
reply_of (reply.Base n) = only (answer.Number n)
reply_of (reply.NotKept first head) = only (answer.NotKept first head)
reply_of (reply.Snapshot n) = only (answer.Number n)
reply_of (reply.Clash c) = only (answer.Conflict c)
reply_of reply.Done = only answer.Done
reply_of (reply.Pinned base) = only (answer.Pinned base)
reply_of (reply.Listed found) = record { rows = map snapshot_text found; last = answer.Number (length found) }
reply_of (reply.Lost cause) = only answer.Memory

-- where it opens or ends a transaction, the own list is empty afterwards
abbrev pub called : CallStep → Step
called s = record { core = s.core; own = []; reply = reply_of s.reply }

abbrev pub begin : Core → List Change → ℕ → Call → Option Open → Step
begin core own session call (Some o) = refused core own answer.InTransaction
begin core own session call None = called (call_step core session call)

abbrev pub end : Core → List Change → ℕ → Call → Option Open → Step
end core own session call None = refused core own answer.NoTransaction
end core own session call (Some o) = called (call_step core session call)

-- a call that stands beside transactions; EXPIRE answers its number
abbrev pub beside : List Change → CallStep → Step
beside own s = record { core = s.core; own = own; reply = reply_of s.reply }

abbrev pub expired : ℕ → CallReply → Reply
expired n reply.Done = only (answer.Number n)
expired n r = reply_of r

abbrev pub expire : List Change → ℕ → CallStep → Step
expire own n s = record { core = s.core; own = own; reply = expired n s.reply }

-- ---- writing statements

abbrev pub is_compaction : Change → Bool
is_compaction (change.Compact table) = true
is_compaction (change.Flush table) = true
is_compaction c = false

-- a compaction stands alone in its list
abbrev pub compacts : Stmt → Bool
compacts (stmt.Compact table) = true
compacts (stmt.Flush table) = true
compacts x = false

abbrev pub is_mixed : List Change → Stmt → Bool
is_mixed own x = if compacts x then not (is_empty own) else list_any is_compaction own

-- what a writing statement comes to, in a base with the changes of the own list in effect
abbrev pub plan_in : ℕ → Work → Stmt → Plan
plan_in next w (stmt.CreateSchema name) = plan.create_schema w name
plan_in next w (stmt.DropSchema name) = plan.drop_schema w name
plan_in next w (stmt.CreateTable table columns) = plan.create_table w table columns
plan_in next w (stmt.DropTable table) = plan.drop_table w table
plan_in next w (stmt.Change table alteration) = plan.alter_table next w table alteration
plan_in next w (stmt.Insert table more) = rows.insert w table more
plan_in next w (stmt.Delete table test) = rows.delete w table test
plan_in next w (stmt.Update table set test) = rows.update w table set test
plan_in next w (stmt.Compact table) = plan.compact w table
plan_in next w (stmt.Flush table) = plan.flush w table
plan_in next w x = plan.Leave answer.Done

-- a list may weigh so much at most
abbrev pub has_room : State → List Change → Bool
has_room base own = nat_le (rows.own_weight base own) MAX_TXN_WEIGHT

abbrev pub within : State → List Change → Plan → Plan
within base own (plan.Append c a) = if has_room base (own ++ c ∷ []) then plan.Append c a else plan.Refuse answer.TooLarge
within base own p = p

abbrev pub plan_of : State → List Change → Stmt → Plan
plan_of base own x = if is_mixed own x then plan.Refuse answer.Mixed else within base own (plan_in base.next_catalog (worked base own) x)

abbrev pub followed : Core → List Change → Plan → Step
followed core own (plan.Refuse a) = refused core own a
followed core own (plan.Leave a) = refused core own a
followed core own (plan.Append c a) = record { core = core; own = own ++ c ∷ []; reply = only a }

abbrev pub write : Core → List Change → Stmt → Option Open → Step
write core own x None = refused core own answer.NoTransaction
write core own x (Some o) =
    if o.read_only then refused core own answer.ReadOnly else followed core own (plan_of (version_at core o.base).state own x)

-- ---- SELECT

abbrev pub shown : Draft → List Item → Option Pred → Reply
shown d items test = record {
  rows = map (rows.row_text d.columns items) (rows.chosen test d);
  last = answer.Number (length (rows.chosen test d));
}

abbrev pub shown_unless : Option Answer → Reply → Reply
shown_unless None r = r
shown_unless (Some a) r = only a

abbrev pub select_at : TableName → List Item → Option Pred → Option Draft → Reply
select_at table items test None = only (answer.NoTable table)
select_at table items test (Some d) = shown_unless (rows.select_fault d items test) (shown d items test)

abbrev pub select_in : Work → TableName → List Item → Option Pred → Option Ref → Reply
select_in w table items test None = only (answer.NoSchema table.schema)
select_in w table items test (Some schema) = select_at table items test (table_named w schema table.table)

abbrev pub selection : Work → TableName → List Item → Option Pred → Reply
selection w table items test = select_in w table items test (schema_named w table.schema)

abbrev pub select : Core → List Change → TableName → List Item → Option Pred → Option Open → Step
select core own table items test None = refused core own answer.NoTransaction
select core own table items test (Some o) =
    record { core = core; own = own; reply = selection (worked (version_at core o.base).state own) table items test }

-- ---- all statements

abbrev pub step : Core → List Change → ℕ → Stmt → Step
step core own session stmt.Begin = begin core own session Begin (open_at core session)
step core own session (stmt.BeginAt n) = begin core own session (BeginAt n) (open_at core session)
step core own session stmt.Commit = end core own session (Commit own 0) (open_at core session)
step core own session stmt.Rollback = end core own session Rollback (open_at core session)
step core own session (stmt.Select table items test) = select core own table items test (open_at core session)
step core own session (stmt.Expire n) = expire own n (call_step core session (Expire n))
step core own session stmt.Clean = beside own (call_step core session Clean)
step core own session stmt.Snapshots = beside own (call_step core session ListCall)
step core own session x = write core own x (open_at core session)
