-- A desk that answers a script as it comes in.
use Rattle.std.specs.Prelude.{◌≡◌, ◌≤◌, ◌⊎◌, ℕ, ◌==◌, Bool, true, List, [], ◌∷◌, ◌++◌, suc, length, Option, if◌then◌else◌}
use Rattle.lake_io.specs.Told.{Takes}
use Rattle.lake_types.specs.declared.limits.TheConstants.{MAX_SESSIONS}
use Rattle.lake_model.specs.Calls.{Ground}
use Rattle.lake_model.specs.Core.{is_session}
use Rattle.lake_model.specs.Replay.{Lake, Line, NoFeed}
use Rattle.lake_model.specs.declared.answer.Reply.{Reply}
use Rattle.file_disk.specs.Folder.{Changes, Folder}
use Rattle.cat_view.specs.Files.{Files}
use Rattle.row_files.specs.Folders.{files_of}
use Rattle.door.specs.Opened.{Opened}
use Rattle.session.specs.declared.session.Session.{Session}
use Rattle.lake_top.specs.Running.{IsRiseOf, Runs, is_disk, is_keeper, number_with, texts_of}
use Rattle.lake_top.specs.Script.{counted, lines_from}
use Rattle.lake_top.specs.Sixteen.{AreReady, StandsFor, owns_of, reply_text}
use Rattle.lake_top.specs.declared.desk.Desk.{Desk}
use Rattle.lake_top.specs.declared.desk.Stop.{Stop}
use Rattle.lake_top.specs.declared.desk.Stop.TheVariants.{Memory}

-- ---- what holds of sessions and their door between two lines

-- The door serves all sixteen and is in order, and each is ready for it.
pub record AreSet {F : Type 0} (name : F → List ℕ) (size : F → ℕ) (bytes : F → Option (List ℕ)) (in_order : Type 0) (serves : ℕ → Bool) (opened : ℕ → Option Opened) (sessions : List (Session F)) : Type 0 where
  pub all : (s : ℕ) → is_session s ≡ true → serves s ≡ true
  pub orderly : in_order
  pub ready : AreReady name size bytes opened sessions
  pub sixteen : length sessions ≡ MAX_SESSIONS

-- ---- moments

-- the lakes that door and sessions stand for with a folder, what the disk holds, and how often keeper and disk failed
pub record Moment : Type 1 where
  pub stood : Folder → Lake → Type 0
  pub files : Option Folder
  pub keeper_faults : ℕ
  pub disk_faults : ℕ

abbrev pub moment : {F : Type 0} → (Files → Ground → Type 0) → List (Session F) → Option Folder → ℕ → ℕ → Moment
moment stands sessions files keeper_faults disk_faults = record {
  stood = λ folder lake. StandsFor (stands (files_of folder)) (owns_of sessions) lake;
  files = files;
  keeper_faults = keeper_faults;
  disk_faults = disk_faults;
}

-- ---- from one moment to another

-- lines have been answered by these replies, for each lake for which all stood; faults were answered only where counts rose
pub record Goes (a b : Moment) (lines : List Line) (replies : List Reply) : Type 0 where
  pub runs : Changes (λ folder folder'. (lake : Lake) → a.stood folder lake → Runs lines replies (b.stood folder') lake) a.files b.files
  pub keeper : IsRiseOf (number_with is_keeper replies) a.keeper_faults b.keeper_faults
  pub disk : IsRiseOf (number_with is_disk replies) a.disk_faults b.disk_faults

-- these lines end in the bytes, and what comes behind them goes on with these counts and the line that has begun
abbrev pub Carries : List ℕ → List ℕ → List ℕ → List Line → List ℕ → List ℕ → Type 0
Carries counts pending bytes lines counts' pending' =
    (more : List ℕ) → lines_from counts (pending ++ (bytes ++ more)) ≡ lines ++ lines_from counts' (pending' ++ more)

-- the bytes are answered, and each reply is written
pub record Answers {F : Type 0} (old new : Desk F) (a b : Moment) (bytes : List ℕ) (taken taken' : Option (List ℕ)) : Type 0 where
  pub lines : List Line
  pub replies : List Reply
  pub same : length lines ≡ length replies
  pub carries : Carries old.counts.items old.pending.items bytes lines new.counts.items new.pending.items
  pub begun : NoFeed new.pending.items
  pub goes : Goes a b lines replies
  pub written : Takes taken taken' (texts_of lines replies)

-- No more lines are answered. All replies are written whole, but for one at most: of that a front is written where the
-- sink failed, and nothing where memory was wanting.
pub record Stops {F : Type 0} (stop : Stop) (old : Desk F) (a b : Moment) (bytes : List ℕ) (taken taken' : Option (List ℕ)) : Type 0 where
  pub front : List ℕ
  pub back : List ℕ
  pub is : front ++ back ≡ bytes
  pub lines : List Line
  pub replies : List Reply
  pub same : length lines ≡ length replies
  pub last : List Line
  pub unwritten : List Reply
  pub one : length last ≤ 1
  pub are : lines_from old.counts.items (old.pending.items ++ front) ≡ lines ++ last
  pub goes : Goes a b (lines ++ last) (replies ++ unwritten)
  pub part : List ℕ
  pub missing : List ℕ
  pub cut : part ++ missing ≡ texts_of last unwritten
  pub none : stop ≡ Memory → part ≡ []
  pub written : Takes taken taken' (texts_of lines replies ++ part)

-- ---- the parts of one line's turn

-- a counted line is answered, and this is its reply's text
pub record TellsOne (line : Line) (text : List ℕ) (a b : Moment) : Type 0 where
  pub reply : Reply
  pub goes : Goes a b (line ∷ []) (reply ∷ [])
  pub text_is : text ≡ reply_text line reply

-- memory is wanting, before it is answered or after
pub record LeavesOne (line : Line) (a b : Moment) : Type 0 where
  pub last : List Line
  pub unwritten : List Reply
  pub is_last : (last ≡ []) ⊎ (last ≡ line ∷ [])
  pub goes : Goes a b last unwritten

-- the same of any line: one that is skipped has no text
pub record Tells (counts line text counts' : List ℕ) (a b : Moment) : Type 0 where
  pub lines : List Line
  pub replies : List Reply
  pub same : length lines ≡ length replies
  pub one : length lines ≤ 1
  pub tells : (more : List (List ℕ)) → counted counts (line ∷ more) ≡ lines ++ counted counts' more
  pub goes : Goes a b lines replies
  pub text_is : text ≡ texts_of lines replies

pub record Leaves (counts line : List ℕ) (a b : Moment) : Type 0 where
  pub last : List Line
  pub unwritten : List Reply
  pub one : length last ≤ 1
  pub is_last : (last ≡ []) ⊎ (counted counts (line ∷ []) ≡ last)
  pub goes : Goes a b last unwritten

-- how many bytes at the front stand before a line feed
abbrev pub line_len : List ℕ → ℕ
line_len [] = 0
line_len (b ∷ bytes) = if b == 10 then 0 else suc (line_len bytes)
