-- A held file that is found has the name, and so has a further value of it.
use Rattle.std.proofs.Common.{◌≡◌, ℕ, List, Option, Some, None, option_map, Result, Ok, Err, refl, sym, ap, ◌∙◌}
use Rattle.std.specs.Prelude.{IfOk}
use Rattle.cat_tables.specs.Table.{row_of}
use Rattle.cat_tables.proofs.RowLemmas.{key-row_of}
use Rattle.cat_view.specs.Held.{IsCopyOf, name_by}
use Rattle.cat_view.specs.declared.held.HeldFile.{HeldFile}

module _ {F : Type 0} (name : F → List ℕ) where
  -- the row that was found
  found : (path : List ℕ) (held : List (HeldFile F)) (file : F) → Some file ≡ option_map (λ (h : HeldFile F). h.file) (row_of (name_by name) path held)
      → (h : HeldFile F) × (row_of (name_by name) path held ≡ Some h) × (h.file ≡ file)
  found path held file e = go (row_of (name_by name) path held) refl e
    where
      go : (o : Option (HeldFile F)) → row_of (name_by name) path held ≡ o → Some file ≡ option_map (λ (h : HeldFile F). h.file) o → (h : HeldFile F) × (row_of (name_by name) path held ≡ Some h) × (h.file ≡ file)
      go None is e = absurd (cc e)
      go (Some h) is e = (h, is, sym (one h e))
        where
          one : (h : HeldFile F) → Some file ≡ Some h.file → file ≡ h.file
          one h e = cc e

  pub has_name : (path : List ℕ) (held : List (HeldFile F)) (file : F) → Some file ≡ option_map (λ (h : HeldFile F). h.file) (row_of (name_by name) path held) → name file ≡ path
  has_name path held file e =
      let h = found path held file e in
      ap name (sym h.2) ∙ key-row_of (name_by name) path held h.0 h.1

  pub found_named : {E : Type 0} (copy : Result F E) (path : List ℕ) (held : List (HeldFile F)) (file : F) → Some file ≡ option_map (λ (h : HeldFile F). h.file) (row_of (name_by name) path held)
      → IfOk copy (λ c. name c ≡ name file) → IfOk copy (λ c. name c ≡ path)
  found_named (Ok c) path held file e same = same ∙ has_name path held file e
  found_named (Err why) path held file e same = tt

pub found_copy : {F E : Type 0} (name : F → List ℕ) (size part : F → ℕ) (bytes : F → Option (List ℕ)) (copy : Result F E) (path : List ℕ) (held : List (HeldFile F)) (file : F)
    → Some file ≡ option_map (λ (h : HeldFile F). h.file) (row_of (name_by name) path held)
    → IfOk copy (λ c. name c ≡ name file) → IfOk copy (λ c. size c ≡ size file) → IfOk copy (λ c. part c ≡ part file) → IfOk copy (λ c. bytes c ≡ bytes file)
    → IfOk copy (IsCopyOf name size part bytes held)
found_copy name size part bytes (Ok c) path held file e n s p b =
    let h = found name path held file e in
    let has : name c ≡ path = n ∙ has_name name path held file e in
    record {
      original = h.0;
      there = ap (λ (k : List ℕ). row_of (name_by name) k held) has ∙ h.1;
      same = record { name_is = n ∙ ap name (sym h.2); size_is = s ∙ ap size (sym h.2); part_is = p ∙ ap part (sym h.2); bytes_are = b ∙ ap bytes (sym h.2) };
    }
found_copy name size part bytes (Err why) path held file e n s p b = tt
