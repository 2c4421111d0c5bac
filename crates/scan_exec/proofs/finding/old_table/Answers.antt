use Rattle.std.proofs.Common.{◌∙◌, ap, sym}
use Rattle.std.specs.Arc.{arc_value}
use Rattle.cat_view.specs.Views.{named_table}
use Rattle.scan_exec.specs.Finding.{is_table}
use Rattle.scan_exec.proofs.FindLemmas.{found, passed}
use Rattle.scan_exec.proofs.finding.old_table.Goals as goal

pub returns-then-is_table-clause-table : goal.returns-then-is_table-clause-table
returns-then-is_table-clause-table g c = rw c.deref-then-is_table.ensures (sym (c.loop-table.invariant
    ∙ found (λ x. named_table g.F.Held.name (arc_value x)) (is_table c.args.own.now c.args.schema c.args.name.now) c.args.tables.now c.loop-table.table-index c.table-item.result
    c.loop-table-test.true c.table-item.is (ap (λ x. is_table c.args.own.now c.args.schema c.args.name.now (named_table g.F.Held.name x)) (sym c.deref.ensures) ∙ sym c.is_table.ensures ∙ c.if-is_table.true)))

pub loop-table-preserved : goal.loop-table-preserved
loop-table-preserved g c = c.loop-table.invariant
    ∙ passed (λ x. named_table g.F.Held.name (arc_value x)) (is_table c.args.own.now c.args.schema c.args.name.now) c.args.tables.now c.loop-table.table-index c.table-item.result
    c.loop-table-test.true c.table-item.is (ap (λ x. is_table c.args.own.now c.args.schema c.args.name.now (named_table g.F.Held.name x)) (sym c.deref.ensures) ∙ sym c.is_table.ensures ∙ c.if-is_table.false)
