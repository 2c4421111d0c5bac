-- What is left of a data file, by two reads.
use Rattle.std.proofs.Common.{◌≡◌, ◌⊎◌, ℕ, List, Option, Some, None, IfSome, IsSome, is_some, ap, Result, Ok, Err, inl, inr, sym, ◌∙◌}
use Rattle.lake_types.specs.declared.value.Column.{Column}
use Rattle.lake_types.specs.declared.value.Row.{Row}
use Rattle.file_disk.specs.Calls.{IsGone}
use Rattle.file_disk.specs.Folder.{Changes, Folder, Same}
use Rattle.sheet_rows.specs.declared.live.Stated.{Stated}
use Rattle.cat_view.specs.declared.live.LiveDelete.{LiveDelete}
use Rattle.cat_view.specs.declared.live.LiveFile.{LiveFile}
use Rattle.row_files.specs.Reading.{IfDamaged, IsDamagedData, IsDamagedDelete, places_in, rows_in, stated, stated_deletes}
use Rattle.row_files.specs.declared.fault.ReadNo.{ReadNo}
use Rattle.row_files.specs.declared.fault.ReadNo.TheVariants as read_no

-- files that stay twice stay
pub same_twice : (a b c : Option Folder) → Changes Same a b → Changes Same b c → Changes Same a c
same_twice (Some a) (Some b) (Some c) one two = λ name. two name ∙ one name
same_twice None None None one two = tt
same_twice (Some a) (Some b) None one two = two
same_twice (Some a) None c one two = absurd one
same_twice None (Some b) c one two = absurd one
same_twice None None (Some c) one two = two

module _ (own mid_own : ℕ) (old mid : Folder) (same : Same old mid) (part : mid_own ≡ own) (of : ℕ) (name : List ℕ) where
  pub was_gone : IsGone mid_own mid of name → IsGone own old of name
  was_gone gone = (gone.0 ∙ part, sym (same name) ∙ gone.1)

  pub was_wrong : (P : List ℕ → Type 0) (held : Option (List ℕ)) → IfSome held (λ b. IsGone mid_own mid of name ⊎ P b) → IfSome held (λ b. IsGone own old of name ⊎ P b)
  was_wrong P None wrong = tt
  was_wrong P (Some b) (inl gone) = inl (was_gone gone)
  was_wrong P (Some b) (inr bad) = inr bad

seen : (s : Stated) (columns : List Column) (rows : List Row) (held : Option (List ℕ)) → IfSome held (λ b. rows_in s columns b ≡ Some rows) → IfSome held (λ b. IsSome (rows_in s columns b))
seen s columns rows None read = tt
seen s columns rows (Some b) read = ap is_some read

-- a delete file that is damaged, behind a data file that is not
module _ {F : Type 0} (name : F → List ℕ) (part : F → ℕ) (bytes : F → Option (List ℕ)) (own mid_own : ℕ) (f : LiveFile F) (columns : List Column)
    (d : LiveDelete F) (rows : List Row) (its : f.deletes ≡ Some d) (same_part : mid_own ≡ own)
    (read : IfSome (bytes f.file) (λ (b : List ℕ). rows_in (stated f) columns b ≡ Some rows)) where
  delete_wrong : (old mid : Option Folder) → Changes Same old mid
      → IfSome mid (λ (folder : Folder). IfSome (bytes d.file) (λ (b : List ℕ).
      IsGone mid_own folder (part d.file) (name d.file) ⊎ (places_in (stated_deletes name f d) b ≡ None)))
      → IfSome old (λ (folder : Folder). IfSome (bytes d.file) (λ (b : List ℕ).
      IsGone own folder (part d.file) (name d.file) ⊎ (places_in (stated_deletes name f d) b ≡ None)))
  delete_wrong None mid same wrong = tt
  delete_wrong (Some old) None same wrong = absurd same
  delete_wrong (Some old) (Some mid) same wrong =
      was_wrong own mid_own old mid same same_part (part d.file) (name d.file) (λ b. places_in (stated_deletes name f d) b ≡ None) (bytes d.file) wrong

  pub delete_damaged : {T : Type 0} (old mid : Option Folder) (result : Result T ReadNo) → Changes Same old mid
      → IfSome old (λ (folder : Folder). IsGone own folder (part f.file) (name f.file) → ⊥)
      → IfSome mid (λ (folder : Folder). IfSome (bytes d.file) (λ (b : List ℕ). IfDamaged result (λ _told.
      IsGone mid_own folder (part d.file) (name d.file) ⊎ (places_in (stated_deletes name f d) b ≡ None))))
      → IfDamaged result (λ told. told ≡ name d.file)
      → IfDamaged result (λ told. IsDamagedData name part bytes own old f columns told ⊎ IsDamagedDelete name part bytes own old f columns told)
  delete_damaged old mid (Ok rows) same there wrong named = tt
  delete_damaged old mid (Err read_no.DiskFault) same there wrong named = tt
  delete_damaged old mid (Err read_no.Memory) same there wrong named = tt
  delete_damaged old mid (Err (read_no.Damaged told)) same there wrong named = inr (record {
    deletes = d;
    its = its;
    named = named;
    there = there;
    read = seen (stated f) columns rows (bytes f.file) read;
    why = delete_wrong old mid same wrong;
  })
