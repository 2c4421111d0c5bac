use Rattle.std.proofs.Common.{◌≡◌, ◌∙◌, ap}
use Rattle.file_disk.specs.Folder.{MayBecomeAny}
use Rattle.file_disk.specs.Memory.{StoredDraft, StoredPart}
use Rattle.file_disk.proofs.ImageLemmas.{Touches-here, LeavesFrom-any}
use Rattle.file_disk.proofs.sure_disk.SureDiskFileDisk.append.Goals as goal

pub returns-clause-images : goal.returns-clause-images
returns-clause-images c =
    let named : c.as_str.result.now ≡ c.args.draft.now.name =
    c.as_str.ensures ∙ ap (λ (d : StoredDraft). d.name) (c.draft.view_is ∙ c.in_ok-bytes.ensures.ok) in
    Touches-here MayBecomeAny _ _ _ _ _ _ named (ap (λ (p : StoredPart). p.all) c.self.view_is) c.show_entry.ensures.sets (LeavesFrom-any _ _)
