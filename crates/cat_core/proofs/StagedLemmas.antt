-- The files of staged tables, table by table, of which some have no file.
use Rattle.std.proofs.Common.{◌≡◌, ◌≤◌, ◌-◌, ℕ, true, false, List, [], ◌∷◌, length, take, drop, Option, Some, None, option_map, sym, ap, subst, ◌∙◌, arith}
use Rattle.std.specs.Prelude.{◌↔◌, IsTrue, slice_index_or}
use Rattle.std.specs.List.{cons_option}
use Rattle.lake_model.proofs.PlaceLemmas.{tail}
use Rattle.cat_rows.specs.Tables.{Tables}
use Rattle.cat_view.specs.Staged.{NamedStagedFile}
use Rattle.cat_view.specs.StagedNames.{named_staged_file}
use Rattle.cat_view.specs.declared.staged.StagedFile.{StagedFile}
use Rattle.cat_view.specs.declared.staged.StagedTable.{StagedTable}
use Rattle.rebase.specs.Files.{files_in}
use Rattle.rebase.specs.Parts.{FreshFile}
use Rattle.cat_core.specs.Makeable.{CanAllBeAdded, CanBeAdded}

module _ {F : Type 0} (name : F → List ℕ) (size : F → ℕ) where
  abbrev pub file_in : StagedTable F → StagedFile F → FreshFile
  file_in x file = record { table = x.table; file = named_staged_file name size file }

  with_file : (x : StagedTable F) (xs : List (StagedTable F)) (file : StagedFile F) → x.fresh ≡ Some file → files_in name size (x ∷ xs) ≡ file_in x file ∷ files_in name size xs
  with_file x xs file e = ap (λ (o : Option (StagedFile F)). cons_option (option_map (λ (f : NamedStagedFile). record { table = x.table; file = f }) (option_map (named_staged_file name size) o)) (files_in name size xs)) e

  without : (x : StagedTable F) (xs : List (StagedTable F)) → x.fresh ≡ None → files_in name size (x ∷ xs) ≡ files_in name size xs
  without x xs e = ap (λ (o : Option (StagedFile F)). cons_option (option_map (λ (f : NamedStagedFile). record { table = x.table; file = f }) (option_map (named_staged_file name size) o)) (files_in name size xs)) e

  -- where a fact of files is one of the first and one of the others
  module _ (P : List FreshFile → Type 0) (Q : FreshFile → List FreshFile → Type 0) (first : (x : FreshFile) (xs : List FreshFile) → P (x ∷ xs) ↔ (Q x xs × P xs)) (W : Type 0) where
    pub past_none : (x d : StagedTable F) (rest : List (StagedTable F)) → P (files_in name size rest) ↔ W → 1 ≤ length rest → x ≡ slice_index_or rest 0 d → x.fresh ≡ None
        → P (files_in name size (take (length rest - 1) (drop 1 rest))) ↔ W
    past_none x d [] inv some is e = absurd (omega (arith, some))
    past_none x d (y ∷ ys) inv some is e =
        subst (λ more. P (files_in name size more) ↔ W) (sym (tail y ys)) (subst (λ files. P files ↔ W) (without y ys (ap (λ (z : StagedTable F). z.fresh) (sym is) ∙ e)) inv)

    -- what the first one has to do with the others
    abbrev pub IsFirst : StagedTable F → StagedFile F → List (StagedTable F) → Type 0
    IsFirst x file rest = Q (file_in x file) (files_in name size (take (length rest - 1) (drop 1 rest)))

    opened : (x d : StagedTable F) (y : StagedTable F) (ys : List (StagedTable F)) (file : StagedFile F) → P (files_in name size (y ∷ ys)) ↔ W → x ≡ y → x.fresh ≡ Some file
        → (IsFirst x file (y ∷ ys) × P (files_in name size (take (length (y ∷ ys) - 1) (drop 1 (y ∷ ys))))) ↔ W
    opened x d y ys file inv is e =
        subst (λ more. (Q (file_in x file) (files_in name size more) × P (files_in name size more)) ↔ W) (sym (tail y ys))
        ((λ h. inv.0 (subst P (sym same) ((first (file_in x file) (files_in name size ys)).1 h))), (λ w. (first (file_in x file) (files_in name size ys)).0 (subst P same (inv.1 w))))
      where
        same : files_in name size (y ∷ ys) ≡ file_in x file ∷ files_in name size ys
        same = subst (λ (z : StagedTable F). files_in name size (z ∷ ys) ≡ file_in x file ∷ files_in name size ys) is (with_file x ys file e)

    pub past_file : (x d : StagedTable F) (rest : List (StagedTable F)) (file : StagedFile F) → P (files_in name size rest) ↔ W → 1 ≤ length rest → x ≡ slice_index_or rest 0 d → x.fresh ≡ Some file
        → IsFirst x file rest → P (files_in name size (take (length rest - 1) (drop 1 rest))) ↔ W
    past_file x d [] file inv some is e q = absurd (omega (arith, some))
    past_file x d (y ∷ ys) file inv some is e q = let o = opened x d y ys file inv is e in ((λ p. o.0 (q, p)), (λ w. (o.1 w).1))

    pub at_file : (x d : StagedTable F) (rest : List (StagedTable F)) (file : StagedFile F) → P (files_in name size rest) ↔ W → 1 ≤ length rest → x ≡ slice_index_or rest 0 d → x.fresh ≡ Some file
        → (IsFirst x file rest → ⊥) → IsTrue false ↔ W
    at_file x d [] file inv some is e bad = absurd (omega (arith, some))
    at_file x d (y ∷ ys) file inv some is e bad = ((λ (h : false ≡ true). absurd (cc h)), (λ w. absurd (bad ((opened x d y ys file inv is e).1 w).0)))

-- ---- files that can be added

abbrev pub IsAdded : Tables → FreshFile → List FreshFile → Type 0
IsAdded t x xs = CanBeAdded t x.table x.file.rows x.file.stats

pub first_added : (t : Tables) (x : FreshFile) (xs : List FreshFile) → CanAllBeAdded t (x ∷ xs) ↔ (IsAdded t x xs × CanAllBeAdded t xs)
first_added t x xs = ((λ h. ((h.0.0, h.1.0), (h.0.1, h.1.1))), (λ h. ((h.0.0, h.1.0), (h.0.1, h.1.1))))
