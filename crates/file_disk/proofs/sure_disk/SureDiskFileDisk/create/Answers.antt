use Rattle.std.proofs.Common.{◌≡◌, ◌∙◌, ℕ, List, Some, None, inr, refl, ap, sym, subst}
use Rattle.file_disk.specs.Folder.{StaysIfThere}
use Rattle.file_disk.specs.Memory.{Kept, StoredPart, kept_at}
use Rattle.file_disk.proofs.ImageLemmas.{Touches-here, Touches-nothing, Touches-same, LeavesFrom-new}
use Rattle.file_disk.proofs.sure_disk.SureDiskFileDisk.create.Goals as goal

pub returns-then-has_entry-clause-images : goal.returns-then-has_entry-clause-images
returns-then-has_entry-clause-images c = Touches-nothing StaysIfThere _ _ (λ x. inr refl)

pub returns-in_err-entry-clause-images : goal.returns-in_err-entry-clause-images
returns-in_err-entry-clause-images c = Touches-nothing StaysIfThere _ _ (λ x. inr refl)

pub returns-in_err-put_entry-clause-images : goal.returns-in_err-put_entry-clause-images
returns-in_err-put_entry-clause-images c = Touches-same StaysIfThere _ _ _ (λ x. inr refl) (c.in_err-put_entry.ensures.err ∙ ap (λ (p : StoredPart). p.all) c.self.view_is)

pub returns-clause-images : goal.returns-clause-images
returns-clause-images c =
    let all = c.self.inside.entries.items in
    let named : c.in_ok-entry.entry.name ≡ c.args.name.now = ap (λ (k : Kept). k.name) c.in_ok-entry.ensures.entry in
    let Absent : List ℕ → Type 0 = λ name. kept_at all name ≡ None in
    let fresh : kept_at all c.in_ok-entry.entry.name ≡ None =
    subst Absent (sym named) (rw (c.as_slice.ensures.value, c.as_str.ensures) at (c.has_entry.ensures.absent c.if-has_entry.false)) in
    Touches-here StaysIfThere _ _ (Some c.in_ok-entry.entry) _ _ _ named (ap (λ (p : StoredPart). p.all) c.self.view_is) c.in_ok-put_entry.ensures.ok (LeavesFrom-new _ (Some c.in_ok-entry.entry) fresh)
