-- The rows that are told at an aim, and the reads that they take.
use Rattle.std.proofs.Common.{◌≡◌, ℕ, List, [], ◌∷◌, ◌++◌, map, refl, sym, ap, subst, ◌∙◌}
use Rattle.std.specs.Prelude.{Option, Some, None, IfSome, option_map}
use Rattle.std.specs.Arc.{arc_value}
use Rattle.std.specs.List.{AllByRecursion, Contains}
use Rattle.std.specs.Option.{option_copied}
use Rattle.std.specs.declared.sync.Arc.{Arc}
use Rattle.lake_types.specs.Cells.{laid_cells}
use Rattle.lake_types.specs.declared.pred.Pred.{Pred}
use Rattle.lake_types.specs.declared.value.Column.{Column}
use Rattle.lake_types.specs.declared.value.Row.{Row}
use Rattle.lake_model.specs.Apply.{Cells, Draft}
use Rattle.lake_model.specs.Growth.{rows_for}
use Rattle.lake_model.specs.declared.change.RowRef.{RowRef}
use Rattle.lake_model.specs.declared.change.RowRef.TheVariants as row_ref
use Rattle.cat_view.specs.Files.{Files}
use Rattle.cat_view.specs.Views.{named_deletes, named_file, named_table}
use Rattle.cat_view.specs.declared.live.LiveDelete.{LiveDelete}
use Rattle.cat_view.specs.declared.live.LiveFile.{LiveFile}
use Rattle.cat_view.specs.declared.live.TableView.{TableView}
use Rattle.pred.specs.declared.bound.Bound.{Bound}
use Rattle.scan_exec.specs.Aims.{IsDraftOf, reads_before, rows_before}
use Rattle.scan_exec.specs.Chosen.{fields_told, refs_of, rows_of}
use Rattle.scan_exec.specs.Own.{own_rows, refs_told, rows_told}
use Rattle.scan_exec.specs.Picking.{IsBound, short_rows}
use Rattle.scan_exec.specs.Scans.{all_reads, files_in}
use Rattle.scan_exec.specs.Telling.{read_with, reads}
use Rattle.scan_exec.specs.declared.aim.Aim.{Aim}
use Rattle.scan_exec.proofs.FileLemmas.{one_of}
use Rattle.scan_exec.proofs.ScanLemmas.{refs_are, rows_are}

-- ---- a table that is one of a version's

all_mapped : {A X : Type 0} (P : X → Type 0) (f : A → X) (xs : List A) → AllByRecursion (λ x. P (f x)) xs → AllByRecursion P (map f xs)
all_mapped P f [] all = tt
all_mapped P f (x ∷ xs) all = (all.0, all_mapped P f xs all.1)

pub of_held : {F A : Type 0} (P : TableView F → Type 0) (tables : List (Arc (TableView F) A)) (o : Option (TableView F))
    → IfSome o (Contains (map (λ x. arc_value x) tables)) → AllByRecursion (λ x. P (arc_value x)) tables → IfSome o P
of_held P tables None held all = tt
of_held P tables (Some x) held all = one_of P (map (λ x. arc_value x) tables) held.0 x held.1 (sym held.2) (all_mapped P (λ x. arc_value x) tables all)

-- ---- reads

module _ {F : Type 0} (name : F → List ℕ) where
  read_named : (deletes : Option (LiveDelete F)) (count : ℕ) → read_with deletes count ≡ read_with (option_map (named_deletes name) deletes) count
  read_named None count = refl
  read_named (Some d) count = refl

  reads_named : {A : Type 0} (files : List (Arc (LiveFile F) A)) (count : ℕ) → reads files count ≡ all_reads (map (λ f. named_file name (arc_value f)) files) count
  reads_named [] count = refl
  reads_named (f ∷ files) count =
      ap (reads files) (read_named (arc_value f).deletes count) ∙ reads_named files (read_with (option_map (named_deletes name) (arc_value f).deletes) count)

  pub reads_are : (o : Option (TableView F)) (count : ℕ) → reads_before o count ≡ all_reads (files_in (option_map (named_table name) o)) count
  reads_are None count = refl
  reads_are (Some x) count = reads_named x.files.items count

-- ---- rows and references

module _ {F : Type 0} (name : F → List ℕ) (files : Files) (a : Aim F) (d : Draft) (is : IsDraftOf name files a d) (test : Option Pred) (bound : Option Bound)
    (columns : List Column) (same : columns ≡ a.columns) (bind : IsBound columns test bound) where
  abbrev pub own : List Cells
  own = rows_for a.table a.own.now

  bind_draft : IsBound d.columns test bound
  bind_draft = subst (λ cs. IsBound cs test bound) (same ∙ sym is.columns) bind

  fresh : d.fresh ≡ map (λ cells. Some (laid_cells d.columns cells)) own
  fresh = is.fresh ∙ ap (λ cs. map (λ cells. Some (laid_cells cs cells)) own) (sym is.columns)

  module _ (names : Option (List (List ℕ))) (fields : List ℕ) (are : fields ≡ fields_told columns names) where
    pub rows_aimed : (rows : List Row)
        → rows ≡ short_rows bound fields (rows_before name files (option_copied a.old)) ++ rows_told bound fields (own_rows a.columns a.next_row 0 own)
        → rows ≡ rows_of d test names
    rows_aimed rows h =
        h ∙ sym (rows_are d test bound bind_draft own fresh names ∙ rw (is.columns, is.rows, is.next_row, are, same) refl)

    pub refs_aimed : (refs : List RowRef)
        → refs ≡ map (λ (r : Row). row_ref.Old r.id) (short_rows bound fields (rows_before name files (option_copied a.old))) ++ refs_told bound (own_rows a.columns a.next_row 0 own)
        → refs ≡ refs_of d test
    refs_aimed refs h =
        h ∙ sym (refs_are d test bound bind_draft own fresh fields ∙ rw (is.columns, is.rows, is.next_row) refl)
