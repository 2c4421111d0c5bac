-- What lies in the folder of the files that were staged, and what their handles tell of it.
use Rattle.std.proofs.Common.{◌≡◌, ℕ, List, [], ◌∷◌, length, Option, Some, None, IfSome, option_map, refl, sym, ap, subst, ◌∙◌}
use Rattle.std.specs.List.{AllByRecursion, AllZip, cons_option}
use Rattle.file_disk.specs.Folder.{Changes, Folder}
use Rattle.cat_view.specs.Files.{Filed}
use Rattle.cat_view.specs.Typed.{HoldsTyped}
use Rattle.cat_view.specs.declared.staged.StagedFile.{StagedFile}
use Rattle.cat_view.specs.declared.staged.StagedTable.{StagedTable}
use Rattle.row_files.specs.Folders.{filed, files_of}
use Rattle.row_files.specs.Stages.{AddsTables, FreshTable, IsStagedFresh, TellsBytes, StagesTables, fresh_handles, fresh_names}
use Rattle.row_files.proofs.StageLemmas.{one_more, was_there}

same_filed : (at : Option (List ℕ)) (content : List ℕ) (held : Filed) → at ≡ Some content → option_map filed at ≡ Some held → held ≡ filed content
same_filed at content held is there = let h : option_map filed at ≡ Some (filed content) = ap (option_map filed) is in cc

module _ {F : Type 0} (name : F → List ℕ) (size : F → ℕ) (bytes : F → Option (List ℕ)) where
  one_handle : (x : StagedTable F) (xs : List (StagedTable F)) (file : StagedFile F) → x.fresh ≡ Some file → fresh_handles (x ∷ xs) ≡ file.file ∷ fresh_handles xs
  one_handle x xs file is = ap (λ o. cons_option (option_map (λ (f : StagedFile F). f.file) o) (fresh_handles xs)) is

  all_typed : (images : Folder → Type 0) (folder : Folder) (ts : List FreshTable) (xs : List (StagedTable F)) → AllZip (IsStagedFresh name size bytes images folder) ts xs
      → AllByRecursion (HoldsTyped (files_of folder)) (fresh_names name xs)
  all_typed images folder [] [] all = tt
  all_typed images folder [] (x ∷ xs) all = absurd all
  all_typed images folder (t ∷ ts) [] all = absurd all
  all_typed images folder (t ∷ ts) (x ∷ xs) all =
      let s = all.0 in
      subst (AllByRecursion (HoldsTyped (files_of folder))) (sym (one_more name size bytes x xs s.file s.fresh)) (s.typed, all_typed images folder ts xs all.1)

  told_one : (images : Folder → Type 0) (folder : Folder) (t : FreshTable) (x : StagedTable F) (s : IsStagedFresh name size bytes images folder t x) → TellsBytes name size bytes folder s.file.file
  told_one images folder t x s = go (folder (name s.file.file)) refl
    where
      go : (o : Option (List ℕ)) → folder (name s.file.file) ≡ o → TellsBytes name size bytes folder s.file.file
      go None e = let sealed = s.holds.staged.sealed in absurd (was_there (folder (name s.file.file)) sealed.filed sealed.there e)
      go (Some content) e = let sealed = s.holds.staged.sealed in record {
        content = content;
        there = e;
        size_is = ap (λ (h : Filed). length h.bytes) (sym (same_filed (folder (name s.file.file)) content sealed.filed e sealed.there)) ∙ sealed.size_is;
        told = s.told ∙ e;
      }

  all_told : (images : Folder → Type 0) (folder : Folder) (ts : List FreshTable) (xs : List (StagedTable F)) → AllZip (IsStagedFresh name size bytes images folder) ts xs
      → AllByRecursion (TellsBytes name size bytes folder) (fresh_handles xs)
  all_told images folder [] [] all = tt
  all_told images folder [] (x ∷ xs) all = absurd all
  all_told images folder (t ∷ ts) [] all = absurd all
  all_told images folder (t ∷ ts) (x ∷ xs) all =
      let s = all.0 in
      subst (AllByRecursion (TellsBytes name size bytes folder)) (sym (one_handle x xs s.file s.fresh)) (told_one images folder t x s, all_told images folder ts xs all.1)

  module _ (ts : List FreshTable) (a b : Option (List ℕ)) (f g : Option Folder) (i j : Folder → Type 0) (xs : List (StagedTable F)) (done : StagesTables name size bytes ts a b f g i j xs) where
    pub stages_typed : IfSome g (λ folder. AllByRecursion (HoldsTyped (files_of folder)) (fresh_names name xs))
    stages_typed = go f g done.files
      where
        go : (f g : Option Folder) → Changes (AddsTables name size bytes ts xs j) f g → IfSome g (λ folder. AllByRecursion (HoldsTyped (files_of folder)) (fresh_names name xs))
        go f None adds = tt
        go (Some f) (Some g) adds = all_typed j g ts xs adds.holds
        go None (Some g) adds = absurd adds

    pub stages_told : IfSome g (λ folder. AllByRecursion (TellsBytes name size bytes folder) (fresh_handles xs))
    stages_told = go f g done.files
      where
        go : (f g : Option Folder) → Changes (AddsTables name size bytes ts xs j) f g → IfSome g (λ folder. AllByRecursion (TellsBytes name size bytes folder) (fresh_handles xs))
        go f None adds = tt
        go (Some f) (Some g) adds = all_told j g ts xs adds.holds
        go None (Some g) adds = absurd adds
