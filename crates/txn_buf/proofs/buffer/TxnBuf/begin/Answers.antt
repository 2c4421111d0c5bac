use Rattle.std.proofs.Common.{rules, ◌≡◌, false, None}
use Rattle.cat_view.specs.Views.{named_view}
use Rattle.txn_buf.specs.Drafts.{begun_in, work_of}
use Rattle.txn_buf.proofs.KeepLemmas.{ready_begun}
use Rattle.txn_buf.proofs.buffer.TxnBuf.begin.Goals as goal

pub returns-in-Ok-clause-ready : goal.returns-in-Ok-clause-ready
returns-in-Ok-clause-ready g c =
    let buf = c.args.self.now in
    let writes : buf.txn.read_only ≡ false = search rules in
    let unmixed : buf.tally.compacts ≡ false = search rules in
    let none : buf.tally.seen ≡ None = search rules in
    let begun : work_of c.in-Ok.seen ≡ begun_in (named_view g.F.Held.name buf.view) = search rules in
    ready_begun (named_view g.F.Held.name buf.view) buf.txn buf.tally c.in-Ok.seen c.requires.keeps writes unmixed none begun
