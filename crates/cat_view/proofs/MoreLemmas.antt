-- Where files are the same under the names of a version's files, its tables have the same rows.
use Rattle.std.proofs.Common.{◌≡◌, ℕ, List, [], ◌∷◌, ◌++◌, map, Option, Some, None, IfSome, option_map, refl, ap, ap₂}
use Rattle.std.specs.Prelude.{option_and_then, unwrap_or}
use Rattle.std.specs.List.{AllByRecursion, flat_map}
use Rattle.lake_types.specs.declared.sheet.Sheet.{Sheet}
use Rattle.lake_types.specs.declared.value.Column.{Column}
use Rattle.lake_types.specs.declared.value.Row.{Row}
use Rattle.sheet_rows.specs.Live.{laid_rows, left_from, places_in}
use Rattle.cat_view.specs.Files.{Filed, Files, sheet_at}
use Rattle.cat_view.specs.Named.{NamedDeletes, NamedFile, NamedTable, deleted, live_rows, ordered, rows_in, table_of}

module _ (files more : Files) where
  abbrev pub IsSame : List ℕ → Type 0
  IsSame name = more name ≡ files name

  same_sheet : (name : List ℕ) → IsSame name → sheet_at more name ≡ sheet_at files name
  same_sheet name e = ap (λ (o : Option Filed). option_and_then (λ (f : Filed). f.sheet) o) e

  abbrev pub HasSame : NamedFile → Type 0
  HasSame f = IsSame f.name × IfSome f.deletes (λ (d : NamedDeletes). IsSame d.name)

  same_deleted : (d : Option NamedDeletes) → IfSome d (λ (x : NamedDeletes). IsSame x.name) → deleted more d ≡ deleted files d
  same_deleted None h = refl
  same_deleted (Some x) h = ap (λ (o : Option Sheet). unwrap_or (option_map places_in o) []) (same_sheet x.name h)

  same_rows : (columns : List Column) (f : NamedFile) → IsSame f.name → rows_in more columns f ≡ rows_in files columns f
  same_rows columns f h = ap (λ (o : Option Sheet). unwrap_or (option_and_then (laid_rows f.first_row columns) o) []) (same_sheet f.name h)

  pub same_live : (columns : List Column) (fs : List NamedFile) → AllByRecursion HasSame fs → flat_map (live_rows more columns) fs ≡ flat_map (live_rows files columns) fs
  same_live columns [] h = refl
  same_live columns (f ∷ fs) h =
      let one : live_rows more columns f ≡ live_rows files columns f = ap₂ (λ (gone : List ℕ) (rows : List Row). left_from 0 gone rows) (same_deleted f.deletes h.0.1) (same_rows columns f h.0.0) in
      ap₂ (λ (a b : List Row). a ++ b) one (same_live columns fs h.1)

  abbrev pub HasSameFiles : NamedTable → Type 0
  HasSameFiles x = AllByRecursion HasSame x.files

  same_table : (x : NamedTable) → HasSameFiles x → table_of more x ≡ table_of files x
  same_table x h = ap (λ (rows : List Row). record (table_of files x) { rows = ordered (λ (r : Row). r.id) (rows ++ x.inlined) }) (same_live x.columns x.files h)

  pub same_tables : (xs : List NamedTable) → AllByRecursion HasSameFiles xs → map (table_of more) xs ≡ map (table_of files) xs
  same_tables [] h = refl
  same_tables (x ∷ xs) h = ap₂ (λ a b. a ∷ b) (same_table x h.0) (same_tables xs h.1)
