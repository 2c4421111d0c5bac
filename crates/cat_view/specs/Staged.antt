-- What a transaction staged stands for its own list of changes.
use Rattle.std.specs.Prelude.{◌≡◌, ◌≤◌, ◌+◌, ◌-◌, ◌==◌, ◌&&◌, ◌||◌, not, ℕ, Bool, true, false, List, [], ◌∷◌, ◌++◌, drop, take, length, map, filter, find, is_some, Option, Some, None, option_map, unwrap_or, if◌then◌else◌}
use Rattle.std.specs.List.{AllByRecursion, AllZip, filter_map, flat_map, list_any}
use Rattle.lake_types.specs.Cells.{laid_cells}
use Rattle.lake_types.specs.declared.limits.TheConstants.{MAX_FILE_ROWS, MAX_INLINED_ROWS, MAX_PATH_BYTES}
use Rattle.lake_types.specs.declared.sheet.Sheet.{Sheet}
use Rattle.lake_types.specs.declared.sheet.SheetColumn.{SheetColumn}
use Rattle.lake_types.specs.declared.value.Column.{Column}
use Rattle.lake_types.specs.declared.value.Row.{Row}
use Rattle.lake_model.specs.Apply.{Cells, Draft, is_ref, left, worked}
use Rattle.lake_model.specs.Fits.{Fits}
use Rattle.lake_model.specs.State.{State}
use Rattle.lake_model.specs.declared.change.Change.{Change}
use Rattle.lake_model.specs.declared.change.Change.TheVariants as change
use Rattle.lake_model.specs.declared.change.Ref.{Ref}
use Rattle.lake_model.specs.declared.change.Ref.TheVariants as ref
use Rattle.lake_model.specs.declared.change.RowRef.{RowRef}
use Rattle.lake_model.specs.declared.change.RowRef.TheVariants as row_ref
use Rattle.col_stats.specs.Stats.{AreStats}
use Rattle.col_stats.specs.declared.stats.ColStats.{ColStats}
use Rattle.sheet_rows.specs.Live.{deleted_in, laid_rows}
use Rattle.sheet_rows.specs.Sheets.{cells_of, is_data, sheet_weight}
use Rattle.cat_view.specs.Files.{Filed, Files}
use Rattle.cat_view.specs.Named.{NamedFile, NamedTable, NamedVersion, deleted, live_rows, ordered, rows_in}

-- ---- what is staged, with files by name

pub record NamedStagedFile : Type 0 where
  pub name : List ℕ
  pub size : ℕ
  pub rows : ℕ
  pub weight : ℕ
  pub stats : List ColStats

pub record NamedStagedDelete : Type 0 where
  pub of_file : ℕ
  pub name : List ℕ
  pub size : ℕ
  pub count : ℕ

pub record NamedStagedTable : Type 0 where
  pub table : Ref
  pub fresh : Option NamedStagedFile
  pub updated : Option NamedStagedFile
  pub merged : List NamedStagedFile
  pub ended_files : List ℕ
  pub inlined : List Row
  pub inlined_fresh : ℕ
  pub ended_rows : List ℕ
  pub deletes : List NamedStagedDelete

-- a table for which nothing is staged
abbrev pub nothing_for : Ref → NamedStagedTable
nothing_for at = record { table = at; fresh = None; updated = None; merged = []; ended_files = []; inlined = []; inlined_fresh = 0; ended_rows = []; deletes = [] }

abbrev pub staged_for : List NamedStagedTable → Ref → NamedStagedTable
staged_for staged at = unwrap_or (find (λ (x : NamedStagedTable). is_ref x.table at) staged) (nothing_for at)

-- ---- which old rows a list names

abbrev pub rows_named : Ref → Change → List RowRef
rows_named at (change.Delete table rows) = if is_ref table at then rows else []
rows_named at (change.Update table rows set) = if is_ref table at then rows else []
rows_named at c = []

abbrev pub rows_updated : Ref → Change → List RowRef
rows_updated at (change.Update table rows set) = if is_ref table at then rows else []
rows_updated at c = []

abbrev pub old_id : RowRef → Option ℕ
old_id (row_ref.Old id) = Some id
old_id (row_ref.Fresh place) = None

-- the old rows of a table that the list deletes or updates, in the order in which it names them
abbrev pub named_ids : List Change → Ref → List ℕ
named_ids own at = filter_map old_id (flat_map (rows_named at) own)

abbrev pub names_row : List Change → Ref → ℕ → Bool
names_row own at id = list_any (λ n. n == id) (named_ids own at)

abbrev pub updates_row : List Change → Ref → ℕ → Bool
updates_row own at id = list_any (λ n. n == id) (filter_map old_id (flat_map (rows_updated at) own))

-- the new images of old rows: those that the list updates and leaves, as they are after it
abbrev pub images : List Change → Draft → List Row
images own d = filter (λ (r : Row). updates_row own d.at r.id) d.rows

-- ---- deleted places

-- the places of a file's rows, counted from one number on, that were deleted before or whose rows the list names
abbrev pub gone_from : (ℕ → Bool) → List ℕ → ℕ → List Row → List ℕ
gone_from names before place [] = []
gone_from names before place (r ∷ rows) =
    if list_any (λ n. n == place) before || names r.id then place ∷ gone_from names before (place + 1) rows
    else gone_from names before (place + 1) rows

-- the list names a live row of the file
abbrev pub is_touched : Files → List Change → NamedTable → NamedFile → Bool
is_touched files own x f = list_any (λ (r : Row). names_row own (ref.Old x.id) r.id) (live_rows files x.columns f)

-- the file that has a live row of an id
abbrev pub file_with_row : Files → NamedTable → ℕ → Option ℕ
file_with_row files x id =
    option_map (λ (f : NamedFile). f.id) (find (λ (f : NamedFile). list_any (λ (r : Row). r.id == id) (live_rows files x.columns f)) x.files)

-- each number once, where it stands first
abbrev pub firsts : List ℕ → List ℕ
firsts [] = []
firsts (n ∷ ns) = n ∷ filter (λ m. not (m == n)) (firsts ns)

-- the files with newly deleted rows, in the order in which the list first names a row of each
abbrev pub touched_files : Files → List Change → NamedTable → List ℕ
touched_files files own x = firsts (filter_map (file_with_row files x) (named_ids own (ref.Old x.id)))

-- ---- files

-- a sealed file: there with its size and a sheet, under a name that isn't too long
pub record IsSealed (files : Files) (name : List ℕ) (size : ℕ) (sheet : Sheet) : Type 0 where
  pub filed : Filed
  pub there : files name ≡ Some filed
  pub size_is : length filed.bytes ≡ size
  pub sheet_is : filed.sheet ≡ Some sheet
  pub short : length name ≤ MAX_PATH_BYTES

pub record HasStats (c : SheetColumn) (s : ColStats) : Type 0 where
  pub field : c.field ≡ Some s.field
  pub counted : AreStats c.cells s

-- a data column is that of a table's column
pub record IsColumnOf (column : Column) (c : SheetColumn) : Type 0 where
  pub field : c.field ≡ Some column.field
  pub type : c.ty ≡ column.ty

-- A staged data file has the columns that its table has after the list, and its stated rows, weight and statistics.
pub record IsStagedFile (files : Files) (columns : List Column) (x : NamedStagedFile) (sheet : Sheet) : Type 0 where
  pub sealed : IsSealed files x.name x.size sheet
  pub rows : sheet.rows ≡ x.rows
  pub some : 1 ≤ x.rows
  pub few : x.rows ≤ MAX_FILE_ROWS
  pub weight : sheet_weight sheet ≡ x.weight
  pub columns_are : AllZip IsColumnOf columns (filter is_data sheet.columns)
  pub stats : AllZip HasStats (filter is_data sheet.columns) x.stats

-- it has no column of row ids, and these cells
pub record HoldsCells (files : Files) (columns : List Column) (x : NamedStagedFile) (rows : List Cells) : Type 0 where
  pub sheet : Sheet
  pub staged : IsStagedFile files columns x sheet
  pub without_ids : list_any (λ (c : SheetColumn). not (is_data c)) sheet.columns ≡ false
  pub cells : map (laid_cells columns) (cells_of sheet) ≡ rows

-- it has these rows, with their ids
pub record HoldsRows (files : Files) (columns : List Column) (x : NamedStagedFile) (rows : List Row) : Type 0 where
  pub sheet : Sheet
  pub staged : IsStagedFile files columns x sheet
  pub laid : laid_rows None columns sheet ≡ Some rows

abbrev pub MayHoldCells : Files → List Column → Option NamedStagedFile → List Cells → Type 0
MayHoldCells files columns None rows = rows ≡ []
MayHoldCells files columns (Some x) rows = HoldsCells files columns x rows

abbrev pub MayHoldRows : Files → List Column → Option NamedStagedFile → List Row → Type 0
MayHoldRows files columns None rows = rows ≡ []
MayHoldRows files columns (Some x) rows = HoldsRows files columns x rows

-- several files, one after the other
abbrev pub HoldRows : Files → List Column → List NamedStagedFile → List Row → Type 0
HoldRows files columns [] rows = rows ≡ []
HoldRows files columns (x ∷ xs) rows =
    (front : List Row) × (rest : List Row) × (rows ≡ front ++ rest) × HoldsRows files columns x front × HoldRows files columns xs rest

-- a staged delete file lists all places of its data file that are deleted after the list
pub record IsStagedDelete (files : Files) (own : List Change) (x : NamedTable) (d : NamedStagedDelete) : Type 0 where
  pub data_file : NamedFile
  pub of_file : find (λ (f : NamedFile). f.id == d.of_file) x.files ≡ Some data_file
  pub sheet : Sheet
  pub sealed : IsSealed files d.name d.size sheet
  pub lists :
      deleted_in (record { path = data_file.name; rows = data_file.rows; count = d.count }) sheet
      ≡ Some (gone_from (names_row own (ref.Old x.id)) (deleted files data_file.deletes) 0 (rows_in files x.columns data_file))

-- ---- one table

-- the list compacts or flushes the table
abbrev pub compacts : Ref → Change → Bool
compacts at (change.Compact table) = is_ref table at
compacts at (change.Flush table) = is_ref table at
compacts at c = false

abbrev pub flushes : Ref → Change → Bool
flushes at (change.Flush table) = is_ref table at
flushes at c = false

-- a base table as the base sees it, and none where the list creates the table
abbrev pub base_table : NamedVersion → Ref → Option NamedTable
base_table v (ref.Old id) = find (λ (x : NamedTable). x.id == id) v.tables
base_table v (ref.New place) = None

-- the rows that were inlined and are named or flushed
abbrev pub ends_inlined : List Change → Ref → Row → Bool
ends_inlined own at r = names_row own at r.id || list_any (flushes at) own

-- the live rows of some files
abbrev pub rows_of_files : Files → NamedTable → List ℕ → List Row
rows_of_files files x ids = flat_map (live_rows files x.columns) (filter (λ (f : NamedFile). list_any (λ n. n == f.id) ids) x.files)

-- The merged files have the live rows of the files that end, and of the inlined rows that are flushed. Without COMPACT and
-- FLUSH there are neither.
pub record IsMerged (files : Files) (own : List Change) (x : NamedTable) (columns : List Column) (s : NamedStagedTable) : Type 0 where
  pub each_once : firsts s.ended_files ≡ s.ended_files
  pub there : AllByRecursion (λ id. is_some (find (λ (f : NamedFile). f.id == id) x.files) ≡ true) s.ended_files
  pub rows : List Row
  pub merged : HoldRows files columns s.merged rows
  pub live : rows ≡ ordered (λ (r : Row). r.id)
      (rows_of_files files x s.ended_files ++ filter (λ r. list_any (flushes (ref.Old x.id)) own) x.inlined)
  pub none_else : list_any (compacts (ref.Old x.id)) own ≡ false → (s.merged ≡ []) × (s.ended_files ≡ [])

-- of a table of the base
pub record IsStagedOld (files : Files) (own : List Change) (x : NamedTable) (d : Draft) (s : NamedStagedTable) : Type 0 where
  pub deletes : AllByRecursion (IsStagedDelete files own x) s.deletes
  pub order : map (λ (e : NamedStagedDelete). e.of_file) s.deletes ≡ touched_files files own x
  pub ended_rows : s.ended_rows ≡ map (λ (r : Row). r.id) (filter (ends_inlined own d.at) x.inlined)
  pub merged : IsMerged files own x d.columns s

-- of a table that the list creates: it has no files and rows from before
pub record IsStagedNew (s : NamedStagedTable) : Type 0 where
  pub deletes : s.deletes ≡ []
  pub ended_rows : s.ended_rows ≡ []
  pub merged : s.merged ≡ []
  pub ended_files : s.ended_files ≡ []

abbrev pub IsStagedFrom : Files → List Change → Option NamedTable → Draft → NamedStagedTable → Type 0
IsStagedFrom files own None d s = IsStagedNew s
IsStagedFrom files own (Some x) d s = IsStagedOld files own x d s

-- the new rows of a table that is there after the list: its fresh rows that are left, in insert order, and the new images
-- of its old rows, rising by id
pub record IsStagedTable (files : Files) (own : List Change) (base : NamedVersion) (d : Draft) (s : NamedStagedTable) : Type 0 where
  pub few : length s.inlined ≤ MAX_INLINED_ROWS
  pub fresh_within : s.inlined_fresh ≤ length s.inlined
  pub in_file : List Cells
  pub fresh : MayHoldCells files d.columns s.fresh in_file
  pub fresh_are : in_file ++ map (λ (r : Row). r.cells) (drop (length s.inlined - s.inlined_fresh) s.inlined) ≡ left d.fresh
  pub moved : List Row
  pub updated : MayHoldRows files d.columns s.updated moved
  pub images_are : moved ++ take (length s.inlined - s.inlined_fresh) s.inlined ≡ images own d
  pub from : IsStagedFrom files own (base_table base d.at) d s

-- ---- the whole

abbrev pub is_table : List Draft → NamedStagedTable → Bool
is_table drafts s = list_any (λ (d : Draft). is_ref d.at s.table) drafts

abbrev pub are_apart : List NamedStagedTable → Bool
are_apart [] = true
are_apart (s ∷ staged) = not (list_any (λ (x : NamedStagedTable). is_ref x.table s.table) staged) && are_apart staged

-- The own list fits the base, and what is staged is what each table needs that is there after it.
pub record IsStaged (files : Files) (base : NamedVersion) (state : State) (own : List Change) (staged : List NamedStagedTable) : Type 0 where
  pub fits : Fits state own
  pub known : AllByRecursion (λ s. is_table (worked state own).tables s ≡ true) staged
  pub once : are_apart staged ≡ true
  pub tables : AllByRecursion (λ (d : Draft). IsStagedTable files own base d (staged_for staged d.at)) (worked state own).tables
