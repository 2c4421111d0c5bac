use Rattle.std.proofs.Common.{refl}
use Rattle.lake_types.specs.declared.stmt.Stmt.TheVariants as stmt
use Rattle.lake_model.specs.Plans as plan
use Rattle.lake_model.specs.declared.answer.Answer.TheVariants as answer
use Rattle.txn_buf.specs.Drafts.{work_of}
use Rattle.txn_buf.specs.Turns.{table_drop}
use Rattle.txn_buf.proofs.KeepLemmas.{does, lists, refuses, stands}
use Rattle.txn_buf.proofs.PlanLemmas.{drop_table-alike}
use Rattle.txn_buf.proofs.buffer.TxnBuf.drop_table.Goals as goal

pub returns-clause-done : goal.returns-clause-done
returns-clause-done g c =
    let call = c.drop_table_in-result in
    does g.F.Held.name c.args.self.now c.begin.new.self c.in-Ok.seen (table_drop (work_of c.in-Ok.seen) c.args.table.now) call.new.own call.result c.requires.stands c.in-Ok.ensures.ready
    c.in-Ok.ensures.txn (λ w before. refl) (stmt.DropTable c.args.table.now) (plan.drop_table (work_of c.in-Ok.seen) c.args.table.now) answer.Done refl (λ next w. drop_table-alike w c.args.table.now) (λ next. refl)
    call.ensures.planned call.ensures.own

pub returns-clause-stands : goal.returns-clause-stands
returns-clause-stands g c =
    let call = c.drop_table_in-result in
    let list = lists g.F.Held.name c.args.self.now c.begin.new.self call.new.own call.result c.requires.stands c.in-Ok.ensures.txn (stmt.DropTable c.args.table.now) tt tt call.ensures.same_own
    (λ u. answer.Done) (returns-clause-done g c) in
    stands g.F.Held.name c.args.self.now c.begin.new.self c.in-Ok.seen (table_drop (work_of c.in-Ok.seen) c.args.table.now) call.new.own call.result c.requires.stands c.in-Ok.ensures.ready
    c.in-Ok.ensures.txn (λ w before. refl) call.new.seen c.in-Ok.ensures.view c.in-Ok.ensures.taken refl call.ensures.own call.ensures.same_own call.ensures.seen call.ensures.same_seen list

pub returns-clause-refused : goal.returns-clause-refused
returns-clause-refused g c =
    let call = c.drop_table_in-result in
    refuses g.F.Held.name c.args.self.now c.in-Ok.seen call.result c.in-Ok.ensures.ready (stmt.DropTable c.args.table.now) (plan.drop_table (work_of c.in-Ok.seen) c.args.table.now) refl
    (λ next w. drop_table-alike w c.args.table.now) (λ next. refl) call.ensures.refused
