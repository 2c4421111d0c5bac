-- What a change of one name does to the images.
use Rattle.std.proofs.Common.{◌≡◌, ℕ, Bool, true, false, cond, List, Option, None, option_map, refl, sym, ap, subst, ◌∙◌, inl, inr, true≢false}
use Rattle.std.specs.Str.{bytes_eq}
use Rattle.std.proofs.lemmas.Slice.Eq.{bytes_eq-Decides}
use Rattle.file_disk.specs.Folder.{Folder, SameBut, Touches, MayBecomeAny, StaysIfThere, StaysOrGoes}
use Rattle.file_disk.specs.Memory.{Kept, Sets, kept_at, folder_of, MayLeave, IsImage}
use Rattle.file_disk.specs.Laws.{MayLeave-told}
use Rattle.file_disk.proofs.KeptLemmas.{named_itself, named_apart}

-- the folder that is told changes at most under that name
pub SameBut-Sets : (name : List ℕ) (x : Option Kept) (old new : List Kept) → Sets name x old new → SameBut name (folder_of old) (folder_of new)
SameBut-Sets name x old new sets other apart = ap (option_map (λ kept. kept.bytes)) (sets.others other apart)

-- what a crash may leave of a name before, for each that it may leave after
abbrev pub LeavesFrom : (Option (List ℕ) → Option (List ℕ) → Type 0) → Option Kept → Option Kept → Type 0
LeavesFrom how before after = (left : Option (List ℕ)) → MayLeave after left → (was : Option (List ℕ)) × (MayLeave before was × how was left)

pub Touches-Sets : (how : Option (List ℕ) → Option (List ℕ) → Type 0) (name : List ℕ) (x : Option Kept) (old new : List Kept) → Sets name x old new → LeavesFrom how (kept_at old name) x → Touches how name (IsImage old) (IsImage new)
Touches-Sets how name x old new sets leaves image may =
    let P : Option Kept → Type 0 = λ y. MayLeave y (image name) in
    let from = leaves (image name) (subst P sets.here (may name)) in
    let before : Folder = λ n. cond (bytes_eq n name) from.0 (image n) in
    let was : (n : List ℕ) (b : Bool) → bytes_eq n name ≡ b → MayLeave (kept_at old n) (cond b from.0 (image n)) =
    λ n b. elim b as (λ (t : Bool). bytes_eq n name ≡ t → MayLeave (kept_at old n) (cond t from.0 (image n))) [
      | true ↦ λ e. let Q : List ℕ → Type 0 = λ m. MayLeave (kept_at old m) from.0 in subst Q (sym ((bytes_eq-Decides n name).0 e)) from.1.0
      | false ↦ λ e. let R : Option Kept → Type 0 = λ y. MayLeave y (image n) in subst R (sets.others n (λ same. true≢false (sym ((bytes_eq-Decides n name).1 same) ∙ e))) (may n)
    ] in
    record {
      old = before;
      was = λ n. was n (bytes_eq n name) refl;
      others = λ other apart. sym (ap (λ b. cond b from.0 (image other)) (named_apart other name apart));
      at_name = let S : Bool → Type 0 = λ b. how (cond b from.0 (image name)) (image name) in subst S (sym (named_itself name)) from.1.1;
    }

-- a call that changes nothing touches nothing
pub Touches-nothing : (how : Option (List ℕ) → Option (List ℕ) → Type 0) (name : List ℕ) (images : Folder → Type 0) → ((x : Option (List ℕ)) → how x x) → Touches how name images images
Touches-nothing how name images stays image may = record { old = image; was = may; others = λ other apart. refl; at_name = stays (image name) }

pub LeavesFrom-any : (before after : Option Kept) → LeavesFrom MayBecomeAny before after
LeavesFrom-any before after left may = (option_map (λ k. k.bytes) before, (MayLeave-told before, tt))

pub LeavesFrom-new : (before after : Option Kept) → before ≡ None → LeavesFrom StaysIfThere before after
LeavesFrom-new before after none left may = (None, (let P : Option Kept → Type 0 = λ k. MayLeave k None in subst P (sym none) refl, inl refl))

pub LeavesFrom-gone : (before : Option Kept) → LeavesFrom StaysOrGoes before None
LeavesFrom-gone before left may = (option_map (λ k. k.bytes) before, (MayLeave-told before, inr may))

-- the same, where the name and what was kept go by other terms
pub Touches-here : (how : Option (List ℕ) → Option (List ℕ) → Type 0) (name same : List ℕ) (x : Option Kept) (all old new : List Kept) → same ≡ name → old ≡ all → Sets same x old new → LeavesFrom how (kept_at old same) x → Touches how name (IsImage all) (IsImage new)
Touches-here how name same x all old new e p sets leaves =
    let N : List ℕ → Type 0 = λ n. Touches how n (IsImage all) (IsImage new) in
    let A : List Kept → Type 0 = λ l. Touches how same (IsImage l) (IsImage new) in
    subst N e (subst A p (Touches-Sets how same x old new sets leaves))

-- a call that leaves all that is kept touches nothing
pub Touches-same : (how : Option (List ℕ) → Option (List ℕ) → Type 0) (name : List ℕ) (all new : List Kept) → ((x : Option (List ℕ)) → how x x) → new ≡ all → Touches how name (IsImage all) (IsImage new)
Touches-same how name all new stays e =
    let P : List Kept → Type 0 = λ l. Touches how name (IsImage l) (IsImage new) in
    subst P e (Touches-nothing how name (IsImage new) stays)
