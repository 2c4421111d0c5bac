use Rattle.std.proofs.Common.{◌≡◌, [], ◌∷◌, length, rules, arith, sym, ap, subst}
use Rattle.std.proofs.lemmas.Grind.{common_steps}
use Rattle.std.specs.Vec.Iter.{into_iter_items}
use Rattle.cat_core.proofs.HoldLemmas.{holds_on, none_more, rests_on}
use Rattle.cat_core.specs.Commits.{HoldsMore}
use Rattle.cat_core.specs.Holding.{Rests, files_of}
use Rattle.cat_core.specs.Shown.{held_at}
use Rattle.cat_core.proofs.holding.hold.Goals as goal

-- one table less is still to come
pub loop-table-preserved : goal.loop-table-preserved
loop-table-preserved g c =
    let cut : into_iter_items c.loop-table.table-iterator ≡ c.in-Some.table ∷ into_iter_items c.next.new.self = search rules in
    let held = held_at g.F.Held.name g.F.Held.size g.F.Held.bytes c.loop-table.held in
    let now = held_at g.F.Held.name g.F.Held.size g.F.Held.bytes c.hold_table.new.held in
    let rest = into_iter_items c.next.new.self in
    let rests : Rests g.F.Held.name g.F.Held.size held (c.in-Some.table ∷ rest) = subst (Rests g.F.Held.name g.F.Held.size held) cut c.loop-table.invariant.rests in
    record {
      room = omega (arith, c.loop-table.invariant.room, ap length cut, c.hold_table.ensures.room);
      rests = rests_on g.F.Held.name g.F.Held.size g.F.Held.bytes held now c.in-Some.table rest c.hold_table.ensures.more rests;
      more = λ later k. c.loop-table.invariant.more later
          (subst (λ ts. HoldsMore (files_of g.F.Held.name g.F.Held.size g.F.Held.bytes ts) held later) (sym cut)
          (holds_on g.F.Held.name g.F.Held.size g.F.Held.bytes held now later c.in-Some.table rest c.hold_table.ensures.more k));
    }

-- nothing is to come any more
pub returns : goal.returns
returns g c =
    let done : into_iter_items c.loop-table.table-iterator ≡ [] = grind (arith, common_steps) in
    let held = held_at g.F.Held.name g.F.Held.size g.F.Held.bytes c.loop-table.held in
    c.loop-table.invariant.more held (subst (λ ts. HoldsMore (files_of g.F.Held.name g.F.Held.size g.F.Held.bytes ts) held held) (sym done) (none_more held))
