-- What a SELECT reads of a table, and what it answers.
use Rattle.std.specs.Prelude.{◌≡◌, ℕ, Bool, true, false, List, [], ◌∷◌, length, map, Option, Some, None}
use Rattle.std.specs.List.{filter_map}
use Rattle.lake_types.specs.declared.pred.Pred.{Pred}
use Rattle.lake_types.specs.declared.stmt.Item.{Item}
use Rattle.lake_types.specs.declared.stmt.Item.TheVariants as item
use Rattle.lake_types.specs.declared.stmt.Stmt.{Stmt}
use Rattle.lake_types.specs.declared.stmt.Stmt.TheVariants as stmt
use Rattle.lake_types.specs.declared.stmt.TableName.{TableName}
use Rattle.lake_types.specs.declared.value.Row.{Row}
use Rattle.lake_model.specs.Apply.{Work}
use Rattle.lake_model.specs.Step.{only, selection}
use Rattle.lake_model.specs.declared.answer.Answer.{Answer}
use Rattle.lake_model.specs.declared.answer.Answer.TheVariants as answer
use Rattle.lake_model.specs.declared.answer.Reply.{Reply}
use Rattle.file_disk.specs.Folder.{Folder}
use Rattle.cat_view.specs.Named.{NamedFile}
use Rattle.cat_view.specs.Views.{named_view}
use Rattle.scan_exec.specs.Damage.{AreReadIn, IsDamagedIn}
use Rattle.scan_exec.specs.Scans.{all_reads, files_before}
use Rattle.scan_exec.specs.declared.fault.ScanFault.{ScanFault}
use Rattle.scan_exec.specs.declared.fault.ScanFault.TheVariants as fault
use Rattle.txn_buf.specs.Keeping.{txn_of, view_of}
use Rattle.txn_buf.specs.declared.buffer.TxnBuf.{TxnBuf}
use Rattle.session.specs.Shown.{row_shown}

-- ---- what is read

abbrev pub name_of : Item → Option (List ℕ)
name_of (item.Column name) = Some name
name_of item.RowId = None

abbrev pub names_of : List Item → List (List ℕ)
names_of items = filter_map name_of items

-- the columns that are read: those that items name, or all where there are no items
abbrev pub names_read : List Item → Option (List (List ℕ))
names_read [] = None
names_read (i ∷ items) = Some (names_of (i ∷ items))

-- ---- what is answered

abbrev pub rows_reply : List Item → List Row → Reply
rows_reply items rows = record { rows = map (row_shown items) rows; last = answer.Number (length rows) }

abbrev pub fault_answer : TableName → ScanFault → Answer
fault_answer table fault.NoSchema = answer.NoSchema table.schema
fault_answer table fault.NoTable = answer.NoTable table
fault_answer table (fault.NoColumn name) = answer.NoColumn name
fault_answer table (fault.WrongType name) = answer.WrongType name
fault_answer table fault.DiskFault = answer.Disk
fault_answer table (fault.Damaged name) = answer.Damaged name
fault_answer table fault.Memory = answer.Memory

abbrev pub is_reading_fault : Answer → Bool
is_reading_fault answer.Disk = true
is_reading_fault (answer.Damaged name) = true
is_reading_fault a = false

-- A reply is the plain lake's selection, or it is lost: for want of memory, or to a fault in reading where rows would be told.
pub data IsSelected (w : Work) (table : TableName) (items : List Item) (test : Option Pred) (r : Reply) : Type 0 where
  Told : r ≡ selection w table items test → IsSelected w table items test r
  Wanted : r ≡ only answer.Memory → IsSelected w table items test r
  Failed : (a : Answer) (n : ℕ) → is_reading_fault a ≡ true → (selection w table items test).last ≡ answer.Number n → r ≡ only a → IsSelected w table items test r

-- ---- reads of files

-- A count of reads before and after an answer. Where rows are told, each file is read once. Where the plain lake refuses, none
-- is. An answer that is lost says nothing of it.
abbrev pub Reads : List NamedFile → Answer → ℕ → ℕ → Type 0
Reads files (answer.Number n) before now = now ≡ all_reads files before
Reads files answer.Memory before now = Unit {0}
Reads files answer.Disk before now = Unit {0}
Reads files (answer.Damaged name) before now = Unit {0}
Reads files a before now = now ≡ before

-- the data files of a table in the version that is open
abbrev pub files_at : {F : Type 0} → (F → List ℕ) → Option (TxnBuf F) → TableName → List NamedFile
files_at name None table = []
files_at name (Some buf) table = files_before (txn_of buf).own (named_view name (view_of buf)) table

-- a SELECT reads the files of its table, and no other statement reads files
abbrev pub ReadsFor : {F : Type 0} → (F → List ℕ) → Option (TxnBuf F) → Stmt → Answer → ℕ → ℕ → Type 0
ReadsFor name opened (stmt.Select table items test) a before now = Reads (files_at name opened table) a before now
ReadsFor name opened x a before now = now ≡ before

-- ---- damaged files

module _ {F : Type 0} (name : F → List ℕ) (part : F → ℕ) (bytes : F → Option (List ℕ)) (own : ℕ) (files : Option Folder) where
  -- the first damaged file of a table in the version that is open
  abbrev pub IsDamagedAt : Option (TxnBuf F) → TableName → List ℕ → Type 0
  IsDamagedAt None table told = ⊥
  IsDamagedAt (Some buf) table told = IsDamagedIn name part bytes own files (view_of buf) (txn_of buf).own table told

  -- a SELECT tells that of its table, and no other statement tells of one
  abbrev pub IsDamagedFor : Option (TxnBuf F) → Stmt → List ℕ → Type 0
  IsDamagedFor opened (stmt.Select table items test) told = IsDamagedAt opened table told
  IsDamagedFor opened x told = ⊥

  -- ---- whole files

  -- no file of a table in the version that is open is damaged
  abbrev pub AreReadAt : Option (TxnBuf F) → TableName → Type 0
  AreReadAt None table = Unit {0}
  AreReadAt (Some buf) table = AreReadIn name part bytes own files (view_of buf) (txn_of buf).own table

  -- a SELECT asks this of its table, and no other statement asks it
  abbrev pub AreReadFor : Option (TxnBuf F) → Stmt → Type 0
  AreReadFor opened (stmt.Select table items test) = AreReadAt opened table
  AreReadFor opened x = Unit {0}
