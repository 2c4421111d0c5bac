-- The first damaged file among files that are read one after the other.
use Rattle.std.proofs.Common.{◌≡◌, ◌<◌, ◌+◌, ℕ, List, Option, Some, None, IfSome, drop, get_or, length, map, inl, inr, refl, sym, ap, subst}
use Rattle.std.specs.Prelude.{option_map}
use Rattle.std.specs.Arc.{arc_value}
use Rattle.std.specs.List.{Contains}
use Rattle.std.specs.declared.sync.Arc.{Arc}
use Rattle.lake_types.specs.declared.stmt.TableName.{TableName}
use Rattle.lake_types.specs.declared.value.Column.{Column}
use Rattle.lake_model.specs.declared.change.Change.{Change}
use Rattle.file_disk.specs.Folder.{Changes, Folder, Same}
use Rattle.cat_view.specs.Views.{named_table, named_view, version_of}
use Rattle.cat_view.specs.declared.live.LiveFile.{LiveFile}
use Rattle.cat_view.specs.declared.live.TableView.{TableView}
use Rattle.cat_view.specs.declared.version.View.{View}
use Rattle.scan_exec.specs.Damage.{AreRead, IfDamage, IsDamaged, IsDamagedIn, IsDamagedOf, IsFirstDamaged, IsRead}
use Rattle.scan_exec.specs.Finding.{old_named}
use Rattle.scan_exec.specs.Refusals.{told}
use Rattle.scan_exec.specs.declared.fault.ScanFault.{ScanFault}
use Rattle.scan_exec.specs.declared.fault.ScanFault.TheVariants as fault
use Rattle.scan_exec.proofs.FileLemmas.{first}

-- ---- faults

pub if_damage : (why : ScanFault) (P Q : List ℕ → Type 0) → ((name : List ℕ) → P name → Q name) → IfDamage why P → IfDamage why Q
if_damage (fault.Damaged name) P Q f p = f name p
if_damage fault.NoSchema P Q f p = tt
if_damage fault.NoTable P Q f p = tt
if_damage (fault.NoColumn name) P Q f p = tt
if_damage (fault.WrongType name) P Q f p = tt
if_damage fault.DiskFault P Q f p = tt
if_damage fault.Memory P Q f p = tt

-- files that are told and stay the same are the same folder
same_files : (old mid : Option Folder) → Changes Same old mid → mid ≡ old
same_files None None same = refl
same_files None (Some mid) same = absurd same
same_files (Some old) None same = absurd same
same_files (Some old) (Some mid) same =
    let files : mid ≡ old = λ i name. same name i in
    ap Some files

module _ {F : Type 0} (name : F → List ℕ) (part : F → ℕ) (bytes : F → Option (List ℕ)) (own : ℕ) where
  -- ---- what a later read finds was so before

  module _ (mid_own : ℕ) (same_part : mid_own ≡ own) (old mid : Option Folder) (same : Changes Same old mid) where
    before : (P : ℕ → Option Folder → Type 0) → P mid_own mid → P own old
    before P so = subst (λ n. P n old) same_part (subst (P mid_own) (same_files old mid same) so)

    was_read : (columns : List Column) (f : LiveFile F) → IsRead name part bytes mid_own mid columns f → IsRead name part bytes own old columns f
    was_read columns f r = before (λ n files. IsRead name part bytes n files columns f) r

    -- ---- files one by one

    module _ {A : Type 0} (columns : List Column) (files : List (Arc (LiveFile F) A)) (at : ℕ) (f : Arc (LiveFile F) A) (lt : at < length files) (is : f ≡ get_or files at f)
        (so_far : (told : List ℕ) → IsFirstDamaged name part bytes own old columns (drop at files) told → IsFirstDamaged name part bytes own old columns files told) where
      pub is_first : (told : List ℕ) → IsDamaged name part bytes mid_own mid columns (arc_value f) told → IsFirstDamaged name part bytes own old columns files told
      is_first told d = so_far told (subst (λ l. IsFirstDamaged name part bytes own old columns l told) (sym (first name bytes files at f lt is)) (inl (before (λ n files. IsDamaged name part bytes n files columns (arc_value f) told) d)))

      pub is_later : IsRead name part bytes mid_own mid columns (arc_value f) → (told : List ℕ) → IsFirstDamaged name part bytes own old columns (drop (at + 1) files) told
          → IsFirstDamaged name part bytes own old columns files told
      is_later r told d = so_far told (subst (λ l. IsFirstDamaged name part bytes own old columns l told) (sym (first name bytes files at f lt is)) (inr (was_read columns (arc_value f) r, d)))

    module _ {A : Type 0} (columns : List Column) (files : List (Arc (LiveFile F) A)) (at : ℕ) (f : Arc (LiveFile F) A) (lt : at < length files) (is : f ≡ get_or files at f)
        (so_far : AreRead name part bytes own old columns (drop at files) → AreRead name part bytes own old columns files) where
      pub is_read : IsRead name part bytes mid_own mid columns (arc_value f) → AreRead name part bytes own old columns (drop (at + 1) files) → AreRead name part bytes own old columns files
      is_read r rest = so_far (subst (AreRead name part bytes own old columns) (sym (first name bytes files at f lt is)) (was_read columns (arc_value f) r, rest))

  -- ---- the table of an aim

  pub damaged_in : (files : Option Folder) (v : View F) (list : List Change) (table : TableName) (o : Option (TableView F)) (told : List ℕ)
      → IfSome o (Contains (map (λ x. arc_value x) (version_of v).tables.items)) → option_map (named_table name) o ≡ old_named list (named_view name v) table
      → IsDamagedOf name part bytes own files o told → IsDamagedIn name part bytes own files v list table told
  damaged_in files v list table None told held named d = absurd d
  damaged_in files v list table (Some x) told held named d = record { view = x; held = held; named = sym named; first = d }
