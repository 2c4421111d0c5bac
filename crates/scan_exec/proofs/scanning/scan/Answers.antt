use Rattle.std.proofs.Common.{ap, subst, sym, true≢false, ◌∙◌}
use Rattle.std.specs.Prelude.{IsSome, option_map}
use Rattle.std.specs.Option.{option_copied}
use Rattle.lake_model.specs.Apply.{worked}
use Rattle.lake_model.specs.Rows.{answer_to}
use Rattle.cat_view.specs.Named.{state_of}
use Rattle.cat_view.specs.Views.{named_view, version_of}
use Rattle.row_files.specs.Folders.{files_of}
use Rattle.scan_exec.specs.Damage.{IsDamagedIn, IsDamagedOf}
use Rattle.scan_exec.specs.Refusals.{refusal, table_of}
use Rattle.scan_exec.specs.Scans.{all_reads, files_in}
use Rattle.scan_exec.specs.Finding.{old_named}
use Rattle.scan_exec.specs.Telling.{HaveIds, TellFiles}
use Rattle.scan_exec.proofs.AimedLemmas.{of_held, reads_are, refs_aimed, rows_aimed}
use Rattle.scan_exec.proofs.DamageLemmas.{damaged_in, if_damage}
use Rattle.scan_exec.proofs.RefusalLemmas.{aimed_refusal}
use Rattle.scan_exec.proofs.scanning.scan.Goals as goal

pub told_of-requires : goal.told_of-requires
told_of-requires g c = record {
  ids = of_held (λ x. HaveIds x.files.items) (version_of c.args.view.now).tables.items (option_copied c.in-Ok.aim.old) c.in-Ok.ensures.held c.requires.ids;
}

pub returns-in-Err-clause-refused : goal.returns-in-Err-clause-refused
returns-in-Err-clause-refused g c = λ other files next.
    ap (λ own. refusal (worked (state_of files next (named_view g.D.File.Held.name c.args.view.now)) own) c.args.table.now (option_copied c.args.names) (option_copied c.args.test)) (sym c.as_slice.ensures)
    ∙ c.in-Err.ensures.refused other files next (option_copied c.args.names) (option_copied c.args.test)

pub returns-in-Err-choice_of-clause-refused : goal.returns-in-Err-choice_of-clause-refused
returns-in-Err-choice_of-clause-refused g c = λ other files next.
    ap (λ own. refusal (worked (state_of files next (named_view g.D.File.Held.name c.args.view.now)) own) c.args.table.now (option_copied c.args.names) (option_copied c.args.test)) (sym c.as_slice.ensures)
    ∙ aimed_refusal g.D.File.Held.name files (worked (state_of files next (named_view g.D.File.Held.name c.args.view.now)) c.as_slice.result.now) c.args.table.now c.in-Ok.aim
    (c.in-Ok.ensures.aimed files next) c.as_slice-2.result.now c.as_slice-2.ensures (option_copied c.args.names) (option_copied c.args.test)
    ∙ ap (option_map answer_to) (c.in-Err-choice_of.ensures.fault (λ is. other (c.fault_of.ensures.memory is)))
    ∙ sym (c.fault_of.ensures.told c.args.table.now)

pub returns-in-Ok-told_of-clause-accepted : goal.returns-in-Ok-told_of-clause-accepted
returns-in-Ok-told_of-clause-accepted g c = λ files next.
    ap (λ own. refusal (worked (state_of files next (named_view g.D.File.Held.name c.args.view.now)) own) c.args.table.now (option_copied c.args.names) (option_copied c.args.test)) (sym c.as_slice.ensures)
    ∙ aimed_refusal g.D.File.Held.name files (worked (state_of files next (named_view g.D.File.Held.name c.args.view.now)) c.as_slice.result.now) c.args.table.now c.in-Ok.aim
    (c.in-Ok.ensures.aimed files next) c.as_slice-2.result.now c.as_slice-2.ensures (option_copied c.args.names) (option_copied c.args.test)
    ∙ ap (option_map answer_to) c.in-Ok-choice_of.ensures.faultless

pub returns-in-Ok-told_of-clause-opens : goal.returns-in-Ok-told_of-clause-opens
returns-in-Ok-told_of-clause-opens g c =
    c.in-Ok-told_of.ensures.opens ∙ reads_are g.D.File.Held.name (option_copied c.in-Ok.aim.old) (g.D.FileDisk.opens c.args.disk.now)
    ∙ ap (λ o. all_reads (files_in o) (g.D.FileDisk.opens c.args.disk.now)) (c.in-Ok.ensures.old ∙ ap (λ own. old_named own (named_view g.D.File.Held.name c.args.view.now) c.args.table.now) c.as_slice.ensures)

pub returns-in-Ok-told_of-clause-told : goal.returns-in-Ok-told_of-clause-told
returns-in-Ok-told_of-clause-told g c = λ folder next tells.
    let t = c.in-Ok.ensures.aimed (files_of folder) next in
    let told = of_held (λ x. TellFiles g.D.File.Held.name g.D.File.Held.bytes folder x.files.items) (version_of c.args.view.now).tables.items (option_copied c.in-Ok.aim.old) c.in-Ok.ensures.held tells in
    record {
      draft = t.draft;
      is_there = ap (λ own. table_of (worked (state_of (files_of folder) next (named_view g.D.File.Held.name c.args.view.now)) own) c.args.table.now) (sym c.as_slice.ensures) ∙ t.is_there;
      rows = rows_aimed g.D.File.Held.name (files_of folder) c.in-Ok.aim t.draft t.is (option_copied c.args.test) c.in-Ok-choice_of.choice.bound c.as_slice-2.result.now c.as_slice-2.ensures
          c.in-Ok-choice_of.ensures.bound (option_copied c.args.names) c.in-Ok-choice_of.choice.fields.items c.in-Ok-choice_of.ensures.fields c.in-Ok-told_of.told.rows (c.in-Ok-told_of.ensures.rows folder told);
      refs = refs_aimed g.D.File.Held.name (files_of folder) c.in-Ok.aim t.draft t.is (option_copied c.args.test) c.in-Ok-choice_of.choice.bound c.as_slice-2.result.now c.as_slice-2.ensures
          c.in-Ok-choice_of.ensures.bound (option_copied c.args.names) c.in-Ok-choice_of.choice.fields.items c.in-Ok-choice_of.ensures.fields c.in-Ok-told_of.told.refs.items (c.in-Ok-told_of.ensures.refs folder told);
    }

pub returns-in-Ok-told_of-clause-whole : goal.returns-in-Ok-told_of-clause-whole
returns-in-Ok-told_of-clause-whole g c = record {
  view = option_copied c.in-Ok.aim.old;
  held = c.in-Ok.ensures.held;
  named = ap (λ own. old_named own (named_view g.D.File.Held.name c.args.view.now) c.args.table.now) (sym c.as_slice.ensures) ∙ sym c.in-Ok.ensures.old;
  read = c.in-Ok-told_of.ensures.read;
}

pub returns-clause-refused : goal.returns-clause-refused
returns-clause-refused g c = λ other files next.
    ap (λ own. refusal (worked (state_of files next (named_view g.D.File.Held.name c.args.view.now)) own) c.args.table.now (option_copied c.args.names) (option_copied c.args.test)) (sym c.as_slice.ensures)
    ∙ aimed_refusal g.D.File.Held.name files (worked (state_of files next (named_view g.D.File.Held.name c.args.view.now)) c.as_slice.result.now) c.args.table.now c.in-Ok.aim
    (c.in-Ok.ensures.aimed files next) c.as_slice-2.result.now c.as_slice-2.ensures (option_copied c.args.names) (option_copied c.args.test)
    ∙ ap (option_map answer_to) c.in-Ok-choice_of.ensures.faultless
    ∙ sym (c.in-Err-told_of.ensures.untold c.args.table.now)

pub returns-clause-unread : goal.returns-clause-unread
returns-clause-unread g c = λ known. absurd (true≢false (sym (subst IsSome (c.in-Err-told_of.ensures.untold c.args.table.now) known)))

pub returns-clause-damaged : goal.returns-clause-damaged
returns-clause-damaged g c =
    let list = c.args.txn.now.own in
    if_damage c.in-Err-told_of.why
    (IsDamagedOf g.D.File.Held.name g.D.File.Held.part g.D.File.Held.bytes (g.D.FileDisk.part c.args.disk.now) (g.D.FileDisk.files c.args.disk.now) (option_copied c.in-Ok.aim.old))
    (IsDamagedIn g.D.File.Held.name g.D.File.Held.part g.D.File.Held.bytes (g.D.FileDisk.part c.args.disk.now) (g.D.FileDisk.files c.args.disk.now) c.args.view.now list c.args.table.now)
    (λ told. damaged_in g.D.File.Held.name g.D.File.Held.part g.D.File.Held.bytes (g.D.FileDisk.part c.args.disk.now) (g.D.FileDisk.files c.args.disk.now) c.args.view.now list c.args.table.now
    (option_copied c.in-Ok.aim.old) told c.in-Ok.ensures.held
    (c.in-Ok.ensures.old ∙ ap (λ own. old_named own (named_view g.D.File.Held.name c.args.view.now) c.args.table.now) c.as_slice.ensures))
    c.in-Err-told_of.ensures.damaged
