-- What a run has read and written, and the lake that it leaves.
use Rattle.std.specs.Prelude.{◌≡◌, ◌≤◌, ◌⊎◌, ℕ, List, [], ◌∷◌, ◌++◌, codes, decimal, length, replicate, take, Option, IfSome}
use Rattle.lake_io.specs.Told.{Gives, IsAtEnd, Takes}
use Rattle.file_disk.specs.Folder.{Changes, Folder}
use Rattle.lake_types.specs.declared.limits.TheConstants.{MAX_SESSIONS}
use Rattle.lake_model.specs.Calls.{Ground}
use Rattle.lake_model.specs.Replay.{Lake, Line}
use Rattle.lake_model.specs.Texts.{shown, two_numbers}
use Rattle.lake_model.specs.declared.answer.Reply.{Reply}
use Rattle.cat_rows.specs.Tables.{Tables}
use Rattle.cat_rules.specs.declared.bad_row.BadRow.{BadRow}
use Rattle.cat_stands.specs.Stands as stands
use Rattle.cat_view.specs.Files.{Files}
use Rattle.row_files.specs.Folders.{files_of}
use Rattle.recover.specs.declared.no.OpenNo.{OpenNo}
use Rattle.recover.specs.declared.no.OpenNo.TheVariants as open_no
use Rattle.lake_top.specs.Opening.{IsLakeOf, WhyNotOpen}
use Rattle.lake_top.specs.Desks.{Moment}
use Rattle.lake_top.specs.Running.{IsRiseOf, Replays, Runs, is_disk, is_keeper, number_with, texts_of}
use Rattle.lake_top.specs.Sixteen.{StandsFor}
use Rattle.lake_top.specs.Script.{lines_of, lines_within_most, script_lines}
use Rattle.lake_top.specs.declared.halt.Halt.{Halt}
use Rattle.lake_top.specs.declared.halt.Halt.TheVariants as halt
use Rattle.lake_top.specs.declared.status.Status.{Status}
use Rattle.lake_top.specs.declared.status.Status.TheVariants as status

-- ---- last lines

-- the status of a run that halts
abbrev pub status_of : Halt → Status
status_of halt.Read = status.ReadFault
status_of halt.Write = status.WriteFault
status_of halt.Memory = status.Memory
status_of halt.TooLong = status.TooLong

-- the last line that it has, behind the replies
abbrev pub halt_line : Halt → List ℕ
halt_line halt.Read = codes "! read fault\n"
halt_line halt.Write = []
halt_line halt.Memory = codes "! no memory\n"
halt_line halt.TooLong = codes "! too long\n"

-- the status of a lake that isn't opened, and the last line, which stands alone
abbrev pub refusal_status : OpenNo → Status
refusal_status open_no.KeeperFault = status.KeeperFault
refusal_status open_no.DiskFault = status.DiskFault
refusal_status (open_no.BadRow bad) = status.Damaged
refusal_status (open_no.FileMissing name) = status.Damaged
refusal_status (open_no.FileSize name want got) = status.Damaged
refusal_status open_no.Memory = status.Memory

abbrev pub bad_row_text : BadRow → List ℕ
bad_row_text bad = bad.table ++ 32 ∷ (bad.key ++ (codes " rule " ++ decimal bad.rule))

abbrev pub other_size_text : List ℕ → ℕ → ℕ → List ℕ
other_size_text name want got = name ++ 32 ∷ two_numbers want got

abbrev pub refusal_text : OpenNo → List ℕ
refusal_text open_no.KeeperFault = codes "keeper"
refusal_text open_no.DiskFault = codes "disk"
refusal_text (open_no.BadRow bad) = codes "damaged row " ++ bad_row_text bad
refusal_text (open_no.FileMissing name) = codes "damaged missing " ++ name
refusal_text (open_no.FileSize name want got) = codes "damaged size " ++ other_size_text name want got
refusal_text open_no.Memory = codes "no memory"

abbrev pub refusal_line : OpenNo → List ℕ
refusal_line why = codes "! " ++ (shown (refusal_text why) ++ 10 ∷ [])

abbrev pub usage_line : List ℕ
usage_line = codes "! usage: lake [--inline 0..1000] [--target 1..1000000] [--gen SEED] [--count 0..20000]\n"

-- a last line of a run with the right words
abbrev pub IsLastLine : List ℕ → Type 0
IsLastLine line = ((halt : Halt) × (line ≡ halt_line halt)) ⊎ ((why : OpenNo) × (line ≡ refusal_line why))

-- ---- answered lines

-- These lines are answered, and this is the text of their replies: that of the replay from each lake for which keeper and disk
-- stood. One line more at most is answered whose reply isn't written; it counts for the lake that is left. Faults are
-- answered at most as often as the counts rose.
pub record AreAnswered (a b : Moment) (lines last : List Line) (out : List ℕ) : Type 0 where
  pub replies : List Reply
  pub unwritten : List Reply
  pub one : length last ≤ 1
  pub text_is : out ≡ texts_of lines replies
  pub replay : Changes (λ folder folder'. (lake : Lake) → a.stood folder lake → Replays lines out (Runs last unwritten (b.stood folder')) lake) a.files b.files
  pub keeper : IsRiseOf (number_with is_keeper (replies ++ unwritten)) a.keeper_faults b.keeper_faults
  pub disk : IsRiseOf (number_with is_disk (replies ++ unwritten)) a.disk_faults b.disk_faults

-- The run has answered these lines of the bytes that its source gave, each reply is written whole, and behind them the last line.
pub record Answered (a b : Moment) (left left' taken taken' : Option (List ℕ)) (lines : List ℕ → List Line) (line : List ℕ) : Type 0 where
  pub bytes : List ℕ
  pub given : Gives left left' bytes
  pub out : List ℕ
  pub answered : AreAnswered a b (lines bytes) [] out
  pub written : Takes taken taken' (out ++ line)

-- The front ends with some line of the script: it stands at the front of the bytes that were given, or, at the end of
-- the input, of the whole script, whose end counts as a line feed.
abbrev pub IsFront : List ℕ → List ℕ → Option (List ℕ) → Type 0
IsFront front bytes left' =
    ((back : List ℕ) × (front ++ back ≡ bytes)) ⊎ (IsAtEnd left' × ((back : List ℕ) × (front ++ back ≡ bytes ++ 10 ∷ [])))

-- No line before the last piece of the input is held back.
pub record IsKept (bytes front : List ℕ) : Type 0 where
  pub before : List ℕ
  pub piece : List ℕ
  pub is : before ++ piece ≡ bytes
  pub small : length piece ≤ 65536
  pub rest : List ℕ
  pub more : front ≡ before ++ rest

-- The run has answered the first lines of the script. Each reply is written whole, but for one at most.
pub record AnsweredFront (a b : Moment) (left left' : Option (List ℕ)) (out : List ℕ) : Type 0 where
  pub bytes : List ℕ
  pub given : Gives left left' bytes
  pub front : List ℕ
  pub is_front : IsFront front bytes left'
  pub lines : List Line
  pub last : List Line
  pub are : lines_of front ≡ lines ++ last
  pub answered : AreAnswered a b lines last out

-- The text of that one, or a last line, is written in part.
pub record IsCutShort (a b : Moment) (left left' taken taken' : Option (List ℕ)) : Type 0 where
  pub out : List ℕ
  pub front : AnsweredFront a b left left' out
  pub part : List ℕ
  pub missing : List ℕ
  pub written : Takes taken taken' (out ++ part)
  pub cut : (IsKept front.bytes front.front × (part ++ missing ≡ texts_of front.last front.answered.unwritten)) ⊎ IsLastLine (part ++ missing)

-- and no more than the last line behind the replies
pub record HasEnded (a b : Moment) (left left' taken taken' : Option (List ℕ)) (line : List ℕ) : Type 0 where
  pub out : List ℕ
  pub front : AnsweredFront a b left left' out
  pub kept : IsKept front.bytes front.front
  pub written : Takes taken taken' (out ++ line)

-- what a run has read and written where it halts, before the last line
abbrev pub Halts : Halt → Moment → Moment → Option (List ℕ) → Option (List ℕ) → Option (List ℕ) → Option (List ℕ) → Type 0
Halts halt.Read a b left left' taken taken' = Answered a b left left' taken taken' lines_of []
Halts halt.Write a b left left' taken taken' = IsCutShort a b left left' taken taken'
Halts halt.Memory a b left left' taken taken' = HasEnded a b left left' taken taken' []
Halts halt.TooLong a b left left' taken taken' = Answered a b left left' taken taken' lines_within_most []

-- ---- a door by itself

-- the lakes that a door stands for before any session has begun
abbrev pub fresh_of : (Files → Ground → Type 0) → Option Folder → ℕ → ℕ → Moment
fresh_of stood files keeper_faults disk_faults = record {
  stood = λ folder lake. StandsFor (stood (files_of folder)) (replicate MAX_SESSIONS []) lake;
  files = files;
  keeper_faults = keeper_faults;
  disk_faults = disk_faults;
}

-- and those whose core it stands for, whatever the sessions' lists are
pub record IsCoreOf (stood_for : Ground → Type 0) (lake : Lake) : Type 0 where
  pub ground : Ground
  pub core_is : ground.core ≡ lake.core
  pub stood : stood_for ground

abbrev pub left_of : (Files → Ground → Type 0) → Option Folder → ℕ → ℕ → Moment
left_of stood files keeper_faults disk_faults = record {
  stood = λ folder lake. IsCoreOf (stood (files_of folder)) lake;
  files = files;
  keeper_faults = keeper_faults;
  disk_faults = disk_faults;
}

-- ---- a whole run

-- the lakes that a keeper and a disk stand for before a run, on which nothing is open
abbrev pub start_of : Option Tables → Option Folder → ℕ → ℕ → Moment
start_of content files keeper_faults disk_faults = record {
  stood = λ folder lake. IsLakeOf content folder lake;
  files = files;
  keeper_faults = keeper_faults;
  disk_faults = disk_faults;
}

-- And those that they stand for at its exit, where the keeper tells its rows: what was open is rolled back.
abbrev pub exit_of : Option Tables → Option Folder → ℕ → ℕ → Moment
exit_of content files keeper_faults disk_faults = record {
  stood = λ folder lake. IfSome content (λ rows. stands.StandsFor rows (files_of folder) lake.core.first lake.core.versions);
  files = files;
  keeper_faults = keeper_faults;
  disk_faults = disk_faults;
}

-- The lake wasn't opened: nothing is read, and keeper and disk stand for the lake that they stood for.
pub record WasRefused (s : Status) (content : Option Tables) (a b : Moment) (left left' taken taken' : Option (List ℕ)) : Type 0 where
  pub why : OpenNo
  pub status_is : s ≡ refusal_status why
  pub cause : WhyNotOpen a.keeper_faults b.keeper_faults a.disk_faults b.disk_faults content a.files why
  pub lake : AreAnswered a b [] [] []
  pub unread : Gives left left' []
  pub written : Takes taken taken' (refusal_line why)

-- What a run with exactly one word has read and written, by the status that it ends with.
abbrev pub Outcome : Status → Option Tables → Moment → Moment → Option (List ℕ) → Option (List ℕ) → Option (List ℕ) → Option (List ℕ) → Type 0
Outcome status.Good content a b left left' taken taken' = IsAtEnd left' × Answered a b left left' taken taken' script_lines []
Outcome status.Usage content a b left left' taken taken' = ⊥
Outcome status.ReadFault content a b left left' taken taken' = Answered a b left left' taken taken' lines_of (halt_line halt.Read)
Outcome status.WriteFault content a b left left' taken taken' = IsCutShort a b left left' taken taken'
Outcome status.KeeperFault content a b left left' taken taken' = WasRefused status.KeeperFault content a b left left' taken taken'
Outcome status.DiskFault content a b left left' taken taken' = WasRefused status.DiskFault content a b left left' taken taken'
Outcome status.Damaged content a b left left' taken taken' = WasRefused status.Damaged content a b left left' taken taken'
Outcome status.Memory content a b left left' taken taken' = HasEnded a b left left' taken taken' (halt_line halt.Memory)
Outcome status.TooLong content a b left left' taken taken' = Answered a b left left' taken taken' lines_within_most (halt_line halt.TooLong)

-- What a run with other words has written.
abbrev pub UsageOutcome : Status → Option (List ℕ) → Option (List ℕ) → Type 0
UsageOutcome status.Usage taken taken' = Takes taken taken' usage_line
UsageOutcome status.WriteFault taken taken' = (n : ℕ) × Takes taken taken' (take n usage_line)
UsageOutcome s taken taken' = ⊥

-- ---- last lines as they are written

-- The status is this one and its line is written, or the status is a write fault's and a front of the line is.
abbrev pub EndsWith : Status → List ℕ → Status → Option (List ℕ) → Option (List ℕ) → Type 0
EndsWith s line told taken taken' = ((told ≡ s) × Takes taken taken' line) ⊎ ((told ≡ status.WriteFault) × ((n : ℕ) × Takes taken taken' (take n line)))
