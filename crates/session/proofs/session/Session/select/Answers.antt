use Rattle.std.proofs.Common.{rules, ◌≡◌, ℕ, Some, sym, subst, subst₂}
use Rattle.lake_model.specs.declared.answer.Answer.TheVariants as answer
use Rattle.std.specs.Prelude.{IfSome}
use Rattle.std.specs.Option.{option_copied}
use Rattle.lake_types.specs.declared.stmt.Stmt.TheVariants as stmt
use Rattle.cat_view.specs.Views.{named_view}
use Rattle.row_files.specs.Folders.{files_of}
use Rattle.scan_exec.specs.Damage.{AreReadIn}
use Rattle.scan_exec.specs.Scans.{files_before}
use Rattle.scan_exec.specs.Telling.{HasViewIds}
use Rattle.txn_buf.specs.Keeping.{view_of}
use Rattle.session.specs.Held.{IsGood, IsGoodIn, number_of, open_of, opened_in, own_in}
use Rattle.session.specs.Select.{AreReadAt, Reads, files_at}
use Rattle.session.specs.Turns.{IsTurnOver}
use Rattle.session.proofs.SelectTurns.{turn_selected}
use Rattle.session.proofs.TellLemmas.{has_ids}
use Rattle.session.proofs.session.Session.select.Goals as goal

pub selected-requires-clause-ids : goal.selected-requires-clause-ids
selected-requires-clause-ids g c =
    let open_there : open_of c.args.self.now ≡ Some c.in-Some.buf = search rules in
    let good : IsGood g.F.Held.name c.in-Some.buf = subst (IsGoodIn g.F.Held.name) open_there c.requires.good in
    subst (λ v. HasViewIds v) (sym c.view.ensures) (has_ids g.F.Held.name (view_of c.in-Some.buf) good.workable)

pub returns-in-Some-clause-turn : goal.returns-in-Some-clause-turn
returns-in-Some-clause-turn g c =
    let h = g.F.Held in
    let buf = c.in-Some.buf in
    let open_there : open_of c.args.self.now ≡ Some buf = search rules in
    let good : IsGood h.name buf = subst (IsGoodIn h.name) open_there c.requires.good in
    subst (λ o. IfSome (g.D.FileDisk.files c.args.disk.now) (λ folder. IsTurnOver (files_of folder) (opened_in h.name h.size h.bytes o) (own_in o) (number_of c.args.self.now)
    (stmt.Select c.args.table.now c.args.items.now (option_copied c.args.test)) c.selected.result (own_in o))) (sym open_there)
    (turn_selected h.name h.size h.bytes c.args.table.now c.args.items.now (option_copied c.args.test) buf c.view.result.now c.txn.result.now (g.D.FileDisk.files c.args.disk.now)
    (number_of c.args.self.now) c.selected.result c.view.ensures c.txn.ensures good c.selected.ensures.selected)

pub returns-in-Some-clause-reads : goal.returns-in-Some-clause-reads
returns-in-Some-clause-reads g c =
    let open_there : open_of c.args.self.now ≡ Some c.in-Some.buf = search rules in
    let opens = g.D.FileDisk.opens in
    subst (λ o. Reads (files_at g.F.Held.name o c.args.table.now) c.selected.result.last (opens c.args.disk.now) (opens c.selected.new.disk)) (sym open_there)
    (subst₂ (λ v t. Reads (files_before t.own (named_view g.F.Held.name v) c.args.table.now) c.selected.result.last (opens c.args.disk.now) (opens c.selected.new.disk))
    c.view.ensures c.txn.ensures c.selected.ensures.reads)

pub returns-in-Some-clause-whole : goal.returns-in-Some-clause-whole
returns-in-Some-clause-whole g c =
    let h = g.F.Held in
    let open_there : open_of c.args.self.now ≡ Some c.in-Some.buf = search rules in
    let part = g.D.FileDisk.part c.args.disk.now in
    let files = g.D.FileDisk.files c.args.disk.now in
    subst (λ o. (n : ℕ) → c.selected.result.last ≡ answer.Number n → AreReadAt h.name h.part h.bytes part files o c.args.table.now) (sym open_there)
    (subst₂ (λ v t. (n : ℕ) → c.selected.result.last ≡ answer.Number n → AreReadIn h.name h.part h.bytes part files v t.own c.args.table.now)
    c.view.ensures c.txn.ensures c.selected.ensures.whole)
