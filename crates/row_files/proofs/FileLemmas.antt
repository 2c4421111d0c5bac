-- A file of fresh rows that was written under a new name.
use Rattle.std.proofs.Common.{◌≡◌, ◌≤◌, ℕ, Bool, true, false, List, length, length-append, Option, Some, None, OnSome, option_and_then, option_map, Result, refl, sym, ap, ◌∙◌, arith}
use Rattle.std.specs.List.{AllZip}
use Rattle.lake_types.specs.declared.limits.TheConstants.{MAX_PATH_BYTES}
use Rattle.lake_types.specs.declared.value.Column.{Column}
use Rattle.lake_model.specs.Apply.{Cells}
use Rattle.file_disk.specs.Calls.{AllHold}
use Rattle.file_disk.specs.Folder.{Changes, Folder}
use Rattle.new_files.specs.Drawing.{Drew, Wrote}
use Rattle.new_files.specs.Names.{ending, name_of, uuid_of}
use Rattle.new_files.specs.Writing.{AddsBytes}
use Rattle.new_files.specs.declared.fault.NewFileNo.{NewFileNo}
use Rattle.new_files.proofs.NameLemmas.{uuid_length}
use Rattle.sheet_rows.specs.Sheets.{AreCounts, sheet_of, sheet_weight}
use Rattle.cat_view.specs.Files.{Filed}
use Rattle.cat_view.specs.Staged.{NamedStagedFile}
use Rattle.cat_view.specs.Workable.{AreColumns}
use Rattle.row_files.specs.Folders.{filed, files_of, sheet_in}
use Rattle.row_files.specs.Fresh.{AreFresh, HoldAllBytes}
use Rattle.row_files.specs.Staging.{AddsRows, WroteOne}
use Rattle.row_files.proofs.FreshLemmas.{holds_cells, holds_typed}

-- ---- names are short

ending_is_short : (deletes : Bool) → length (ending deletes) ≤ 15
ending_is_short true = let count : length (ending true) ≡ 15 = refl in omega (arith, count)
ending_is_short false = let count : length (ending false) ≡ 8 = refl in omega (arith, count)

name_is_short : (number : ℕ) (deletes : Bool) → length (name_of number deletes) ≤ MAX_PATH_BYTES
name_is_short number deletes = omega (arith, length-append (uuid_of number) (ending deletes), uuid_length number, ending_is_short deletes)

drawn_is_short : (deletes : Bool) (before now : Option (List ℕ)) (name : List ℕ) → Drew deletes before now name → length name ≤ MAX_PATH_BYTES
drawn_is_short deletes before now name drew = omega (arith, ap length drew.spells, name_is_short drew.number deletes)

-- ---- the new file

module _ (columns : List Column) (rows : List Cells) (are : AreColumns columns) (fresh : AreFresh columns rows) (held : HoldAllBytes (sheet_of columns rows).columns) (x : NamedStagedFile) (told : Option (List ℕ))
    (bytes : List ℕ) (images : Folder → Type 0) (sheet : sheet_in bytes ≡ Some (sheet_of columns rows)) (short : length x.name ≤ MAX_PATH_BYTES)
    (count : x.rows ≡ length rows) (weight : x.weight ≡ sheet_weight (sheet_of columns rows)) (stats : AllZip AreCounts (sheet_of columns rows).columns x.stats) where
  one_folder : (old new : Folder) → told ≡ Some bytes → x.size ≡ length bytes → AllHold x.name bytes images → AddsBytes x.name bytes old new
      → AddsRows columns rows x told images old new
  one_folder old new same size all adds = record {
    fresh = adds.fresh;
    holds = holds_cells (files_of new) columns rows x are fresh (record {
      filed = filed bytes;
      there = ap (option_map filed) adds.there;
      size_is = sym size;
      sheet_is = sheet;
      short = short;
      rows = sym count;
      weight = sym weight;
      stats = stats;
    });
    typed = holds_typed (files_of new) columns rows x.name are fresh held (ap (λ o. option_and_then (λ (f : Filed). f.sheet) (option_map filed o)) adds.there ∙ sheet);
    bytes = same ∙ sym adds.there;
    durable = λ image may. all image may ∙ sym adds.there;
    others = adds.others;
  }

  folders : (old new : Option Folder) → OnSome old (told ≡ Some bytes) → OnSome old (x.size ≡ length bytes) → OnSome old (AllHold x.name bytes images)
      → Changes (AddsBytes x.name bytes) old new → Changes (AddsRows columns rows x told images) old new
  folders (Some old) (Some new) same size all adds = one_folder old new same size all adds
  folders None None same size all adds = tt
  folders (Some old) None same size all adds = adds
  folders None (Some new) same size all adds = adds

pub adds_rows : (columns : List Column) (rows : List Cells) (x : NamedStagedFile) (told : Option (List ℕ)) (bytes : List ℕ) (images : Folder → Type 0) (old new : Option Folder)
    (drawn drawn_now : Option (List ℕ)) → AreColumns columns → AreFresh columns rows → HoldAllBytes (sheet_of columns rows).columns
    → sheet_in bytes ≡ Some (sheet_of columns rows) → Drew false drawn drawn_now x.name
    → x.rows ≡ length rows → x.weight ≡ sheet_weight (sheet_of columns rows) → AllZip AreCounts (sheet_of columns rows).columns x.stats
    → OnSome old (told ≡ Some bytes) → OnSome old (x.size ≡ length bytes) → OnSome old (AllHold x.name bytes images)
    → Changes (AddsBytes x.name bytes) old new → Changes (AddsRows columns rows x told images) old new
adds_rows columns rows x told bytes images old new drawn drawn_now are fresh held sheet drew count weight stats same size all adds =
    folders columns rows are fresh held x told bytes images sheet (drawn_is_short false drawn drawn_now x.name drew) count weight stats old new same size all adds

-- ---- on every answer

pub wrote_one : {T : Type 0} (before now : Option (List ℕ)) (old new : Option Folder) (could can : Folder → Type 0) (result : Result T NewFileNo)
    → Wrote false before now old new could can result → WroteOne before now old new could can
wrote_one before now old new could can result w = record { name = w.name; drew = w.drew; files = w.files; images = w.images }

pub ruleset staging = (adds_rows, wrote_one)
