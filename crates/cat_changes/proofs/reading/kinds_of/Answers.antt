use Rattle.std.proofs.Common.{◌≡◌, ◌++◌, ◌∷◌, ◌-◌, [], length, rules}
use Rattle.lake_types.specs.Kinds.{AreInOrder, kind_text}
use Rattle.cat_changes.specs.Changes.{tail_text}
use Rattle.cat_changes.specs.Reading.{tail_of}
use Rattle.cat_changes.proofs.ListLemmas.{stops_order, ends}
use Rattle.cat_changes.proofs.reading.kinds_of.Goals as goal

pub returns-then-not-may_follow : goal.returns-then-not-may_follow
returns-then-not-may_follow c =
    let read = rw c.in-Some.is at c.in_ok-kind.ensures in
    let at : c.saturating_sub.result ≡ length c.args.text.now - length c.loop-kinds.rest.now = search rules in
    stops_order c.args.text.now c.loop-kinds.kinds.items c.loop-kinds.rest.now c.saturating_sub.result c.in-Some.kind (tail_of c.in-Some.tail)
    c.loop-kinds.invariant.0 at read.0 read.2 (search rules)

pub returns-in_default-tail : goal.returns-in_default-tail
returns-in_default-tail c =
    let read = rw c.in-Some.is at c.in_ok-kind.ensures in
    let order : AreInOrder (c.loop-kinds.kinds.items ++ c.in-Some.kind ∷ []) = search rules in
    let kinds : c.from_vec-in_default-tail.result ≡ c.loop-kinds.kinds.items ++ c.in-Some.kind ∷ [] = search rules in
    let stands : kind_text c.in-Some.kind ++ tail_text (tail_of c.in-Some.tail) ≡ c.loop-kinds.rest.now = read.2 in
    rw kinds (ends c.args.text.now c.loop-kinds.kinds.items c.loop-kinds.rest.now c.in-Some.kind c.loop-kinds.invariant.0 order read.0 (rw c.in_default-tail.is at stands))
