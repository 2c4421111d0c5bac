-- The answers of a session, as those of the plain lake.
use Rattle.std.specs.Prelude.{◌||◌, ℕ, Bool, true, false, List, Option}
use Rattle.lake_types.specs.declared.stmt.Stmt.{Stmt}
use Rattle.lake_types.specs.declared.stmt.Stmt.TheVariants as stmt
use Rattle.lake_model.specs.Core.{Core, open_at}
use Rattle.lake_model.specs.Step.{only, reply_of}
use Rattle.lake_model.specs.declared.answer.Answer.{Answer}
use Rattle.lake_model.specs.declared.answer.Answer.TheVariants as answer
use Rattle.lake_model.specs.declared.answer.Reply.{Reply}
use Rattle.lake_model.specs.declared.call.CallReply.{CallReply}
use Rattle.lake_model.specs.declared.call.CallReply.TheVariants as reply
use Rattle.lake_model.specs.declared.call.Loss.{Loss}
use Rattle.lake_model.specs.declared.call.Loss.TheVariants as loss
use Rattle.lake_model.specs.declared.change.Change.{Change}
use Rattle.cat_view.specs.Files.{Files}
use Rattle.row_files.specs.declared.fault.StageNo.{StageNo}
use Rattle.row_files.specs.declared.fault.StageNo.TheVariants as stage_no
use Rattle.door.specs.Opened.{Agrees, Opened}
use Rattle.session.specs.Line.{IsTurn}

-- ---- statements that call no door

-- a turn that leaves the core as it is, on each core that agrees, over these files, with what is open
abbrev pub IsTurnOver : Files → Option Opened → List Change → ℕ → Stmt → Reply → List Change → Type 0
IsTurnOver files opened own session x r own' = (core : Core) → Agrees files core (open_at core session) opened → IsTurn core own session x r own' core

-- the same over any files
abbrev pub IsTurnFor : Option Opened → List Change → ℕ → Stmt → Reply → List Change → Type 0
IsTurnFor opened own session x r own' = (files : Files) → IsTurnOver files opened own session x r own'

-- statements that add a change to the own list
abbrev pub is_written : Stmt → Bool
is_written (stmt.CreateSchema name) = true
is_written (stmt.DropSchema name) = true
is_written (stmt.CreateTable table columns) = true
is_written (stmt.DropTable table) = true
is_written (stmt.Insert table rows) = true
is_written x = false

-- statements that write or read files
abbrev pub uses_files : Stmt → Bool
uses_files stmt.Commit = true
uses_files (stmt.Select table items test) = true
uses_files x = false

-- ---- answers to what a door replies

abbrev pub loss_answer : Loss → Answer
loss_answer loss.Memory = answer.Memory
loss_answer loss.Keeper = answer.Keeper
loss_answer loss.Disk = answer.Disk
loss_answer (loss.Spent counter) = answer.Spent counter

abbrev pub answered : CallReply → Reply
answered (reply.Lost cause) = only (loss_answer cause)
answered r = reply_of r

-- the own list after a call that leaves this one, where it isn't lost
abbrev pub own_after : CallReply → List Change → List Change → List Change
own_after (reply.Lost cause) left own = own
own_after r left own = left

-- ---- answers to a refusal of staging

abbrev pub stage_answer : StageNo → Answer
stage_answer stage_no.DiskFault = answer.Disk
stage_answer (stage_no.Taken name) = answer.NameTaken name
stage_answer (stage_no.Damaged name) = answer.Damaged name
stage_answer stage_no.Memory = answer.Memory

-- ---- answers of faults, which have causes of their own

abbrev pub is_keeper_fault : Answer → Bool
is_keeper_fault answer.Keeper = true
is_keeper_fault a = false

-- those of the disk, and of the files and names on it
abbrev pub is_disk_fault : Answer → Bool
is_disk_fault answer.Disk = true
is_disk_fault (answer.Damaged name) = true
is_disk_fault (answer.NameTaken name) = true
is_disk_fault a = false

abbrev pub is_fault : Answer → Bool
is_fault a = is_keeper_fault a || is_disk_fault a
