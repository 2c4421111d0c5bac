use Rattle.std.proofs.Common.{◌≡◌, ◌∙◌, Some, ap}
use Rattle.file_disk.specs.Folder.{MayBecomeAny}
use Rattle.file_disk.specs.Memory.{Kept, StoredPart}
use Rattle.file_disk.proofs.ImageLemmas.{Touches-here, Touches-same, LeavesFrom-any}
use Rattle.file_disk.proofs.sure_disk.SureDisk.plant.Goals as goal

pub returns-then-holds-clause-images : goal.returns-then-holds-clause-images
returns-then-holds-clause-images c =
    Touches-here MayBecomeAny _ _ _ _ _ _ c.as_str.ensures (ap (λ (p : StoredPart). p.all) c.self.view_is) c.seal_entry.ensures.sets (LeavesFrom-any _ _)

pub returns-in_err-put_entry-clause-images : goal.returns-in_err-put_entry-clause-images
returns-in_err-put_entry-clause-images c =
    Touches-same MayBecomeAny _ _ _ (λ x. tt) (c.in_err-put_entry.ensures.err ∙ ap (λ (p : StoredPart). p.all) c.self.view_is)

pub returns-clause-images : goal.returns-clause-images
returns-clause-images c =
    let named : c.new-entry.result.name ≡ c.args.name.now = ap (λ (k : Kept). k.name) c.new-entry.ensures ∙ c.in_ok-copy.ensures in
    Touches-here MayBecomeAny _ _ (Some c.new-entry.result) _ _ _ named (ap (λ (p : StoredPart). p.all) c.self.view_is) c.in_ok-put_entry.ensures.ok (LeavesFrom-any _ (Some c.new-entry.result))
