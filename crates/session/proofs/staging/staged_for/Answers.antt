use Rattle.std.proofs.Common.{rules, ◌≡◌, [], sym, ◌∙◌, ap}
use Rattle.lake_model.specs.declared.change.Txn.{Txn}
use Rattle.txn_buf.specs.Keeping.{txn_of}
use Rattle.session.proofs.StagingLemmas.{may_stage, nothing_serves, stage_done, still_stays}
use Rattle.session.proofs.staging.staged_for.Goals as goal

pub returns-then-is_empty-clause-staged : goal.returns-then-is_empty-clause-staged
returns-then-is_empty-clause-staged g c =
    let h = g.D.File.Held in
    let empty : c.txn-txn.result.now.own ≡ [] = c.is_empty.ensures.0 (search rules) in
    let own : (txn_of c.args.buf.now).own ≡ [] = ap (λ (t : Txn). t.own) (sym c.txn-txn.ensures) ∙ empty in
    let none : c.new.result.items ≡ [] = search rules in
    nothing_serves h.name h.size h.bytes c.args.buf.now record { tables = c.new.result } (g.D.FileDisk.files c.args.disk.now) own none

pub returns-then-is_empty-clause-stays : goal.returns-then-is_empty-clause-stays
returns-then-is_empty-clause-stays g c = still_stays (g.D.FileDisk.files c.args.disk.now)

pub stage-requires-clause-fits : goal.stage-requires-clause-fits
stage-requires-clause-fits g c =
    may_stage g.D.File.Held.name c.args.buf.now c.view-view.result.now c.txn-txn.result.now c.view-view.ensures c.txn-txn.ensures c.requires.good

pub returns-in-Ok-clause-staged : goal.returns-in-Ok-clause-staged
returns-in-Ok-clause-staged g c =
    let h = g.D.File.Held in
    let files = g.D.FileDisk.files in
    stage_done h.name h.size h.bytes c.args.buf.now c.view-view.result.now c.txn-txn.result.now c.in-Ok.staged _ _ _ (files c.args.disk.now) (files c.stage.new.disk) _ _
    c.view-view.ensures c.txn-txn.ensures c.requires.good c.in-Ok.ensures.staged c.in-Ok.ensures.stands c.in-Ok.ensures.typed c.in-Ok.ensures.told
