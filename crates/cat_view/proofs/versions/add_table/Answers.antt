use Rattle.std.proofs.Common.{sym, subst}
use Rattle.std.specs.Arc.{arc_value}
use Rattle.cat_rows.specs.Batches.{tables_of}
use Rattle.cat_view.specs.Building.{IsTableView}
use Rattle.cat_view.specs.Held.{held_in}
use Rattle.cat_view.proofs.ViewLemmas.{one_table}
use Rattle.cat_view.proofs.versions.add_table.Goals as goal

pub returns : goal.returns
returns g c =
    let h = g.F.Held in
    let held = (held_in c.args.held.now).rows in
    let t = tables_of c.args.rows.now in
    let s = c.args.files.now.snapshot in
    let shared = c.in_ok-shared.shared in
    one_table h.name held s t h.size h.part h.bytes c.args.tables.now.items c.push.new.self.items c.args.head.now shared
    (subst (λ head. IsTableView h.name held s t h.size h.part h.bytes head (arc_value shared)) c.in_ok-own.ensures
    (subst (λ x. IsTableView h.name held s t h.size h.part h.bytes c.in_ok-own.own x) (sym c.in_ok-shared.ensures.ok) c.in_ok-table.ensures))
    c.in_ok-push.ensures.items
