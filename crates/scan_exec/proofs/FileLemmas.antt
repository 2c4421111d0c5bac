-- Files that are read one after the other.
use Rattle.std.proofs.Common.{◌≡◌, ◌<◌, ◌+◌, ℕ, suc, zero, List, [], ◌∷◌, ◌++◌, Option, Some, None, drop, get_or, length, map, refl, sym, ap, subst, ◌∙◌, append_assoc, arith}
use Rattle.std.specs.Prelude.{filter}
use Rattle.std.specs.List.{AllByRecursion}
use Rattle.std.specs.Arc.{arc_value}
use Rattle.std.specs.declared.sync.Arc.{Arc}
use Rattle.std.proofs.lemmas.List.{map-append}
use Rattle.lake_types.specs.declared.value.Column.{Column}
use Rattle.lake_types.specs.declared.value.Row.{Row}
use Rattle.file_disk.specs.Folder.{Changes, Folder, Same}
use Rattle.cat_view.specs.Named.{live_rows}
use Rattle.cat_view.specs.Views.{named_file}
use Rattle.cat_view.specs.declared.live.LiveFile.{LiveFile}
use Rattle.pred.specs.declared.bound.Bound.{Bound}
use Rattle.row_files.specs.Folders.{files_of}
use Rattle.row_files.proofs.LeftLemmas.{same_twice}
use Rattle.scan_exec.specs.Picking.{is_chosen, short_row, short_rows}
use Rattle.scan_exec.specs.Telling.{HasIds, HaveIds, TellFiles, TellsFile, rows_in}
use Rattle.std.proofs.lemmas.List.Elements.{filter-append}
use Rattle.scan_exec.proofs.FindLemmas.{left}

-- what holds of each holds of one
pub one_of : {X : Type 0} (P : X → Type 0) (xs : List X) (at : ℕ) (x : X) → at < length xs → x ≡ get_or xs at x → AllByRecursion P xs → P x
one_of P [] at x lt is all = absurd (omega (arith, lt))
one_of P (y ∷ xs) zero x lt is all = subst P (sym is) all.0
one_of P (y ∷ xs) (suc at) x lt is all = one_of P xs at x (omega (arith, lt)) is all.1

module _ {F A : Type 0} (name : F → List ℕ) (bytes : F → Option (List ℕ)) (files : List (Arc (LiveFile F) A)) (at : ℕ) (f : Arc (LiveFile F) A) (lt : at < length files) (is : f ≡ get_or files at f) where
  pub first : drop at files ≡ f ∷ drop (at + 1) files
  first = left files at f lt is

  pub has_ids : HaveIds files → HasIds (arc_value f)
  has_ids all = one_of (λ f. HasIds (arc_value f)) files at f lt is all

  pub tells : (folder : Folder) → TellFiles name bytes folder files → TellsFile name bytes folder (arc_value f)
  tells folder all = one_of (λ f. TellsFile name bytes folder (arc_value f)) files at f lt is all

  pub rows_turn : (bound : Option Bound) (fields : List ℕ) (rows : List Row) (columns : List Column) (folder : Folder)
      → (rows ++ short_rows bound fields (live_rows (files_of folder) columns (named_file name (arc_value f)))) ++ short_rows bound fields (rows_in name folder columns (drop (at + 1) files))
      ≡ rows ++ short_rows bound fields (rows_in name folder columns (drop at files))
  rows_turn bound fields rows columns folder =
      let xs = live_rows (files_of folder) columns (named_file name (arc_value f)) in
      let ys = rows_in name folder columns (drop (at + 1) files) in
      append_assoc rows (short_rows bound fields xs) (short_rows bound fields ys)
      ∙ ap (λ l. rows ++ l) (sym (ap (λ l. short_rows bound fields (rows_in name folder columns l)) first ∙ ap (map (short_row fields)) (filter-append (is_chosen bound) xs ys)
      ∙ map-append (short_row fields) (filter (is_chosen bound) xs) (filter (is_chosen bound) ys)))

pub same_once : (a : Option Folder) → Changes Same a a
same_once None = tt
same_once (Some a) = λ name. refl

pub ruleset files = (has_ids, tells, rows_turn, same_twice, same_once)
