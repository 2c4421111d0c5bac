use Rattle.std.proofs.Common.{rules, ◌≡◌, ◌∙◌, Some, None, sym, true≢false}
use Rattle.cat_rows.specs.Batches.{tables_of}
use Rattle.cat_core.specs.Makeable.{CanAllBeAdded}
use Rattle.cat_core.proofs.StagedLemmas.{IsAdded, at_file, first_added, past_file, past_none}
use Rattle.cat_core.proofs.makeable.can_all_be_added.Goals as goal

pub returns-then-not-can_be_added : goal.returns-then-not-can_be_added
returns-then-not-can_be_added g c =
    let t = tables_of c.args.rows.now in
    let x = c.table-item.result in
    let there : x.fresh ≡ Some c.in-Some.file = search rules in
    at_file g.F.Held.name g.F.Held.size (CanAllBeAdded t) (IsAdded t) (first_added t) _ x x c.loop-rest.rest.now c.in-Some.file c.loop-rest.invariant c.in-len1-up.len_at_least c.table-item.is there
    (λ h. true≢false (sym (c.can_be_added.ensures.1 h) ∙ c.if-not-can_be_added.true))

pub loop-rest-preserved-else-not-can_be_added : goal.loop-rest-preserved-else-not-can_be_added
loop-rest-preserved-else-not-can_be_added g c =
    let t = tables_of c.args.rows.now in
    let x = c.table-item.result in
    let there : x.fresh ≡ Some c.in-Some.file = search rules in
    past_file g.F.Held.name g.F.Held.size (CanAllBeAdded t) (IsAdded t) (first_added t) _ x x c.loop-rest.rest.now c.in-Some.file c.loop-rest.invariant c.in-len1-up.len_at_least c.table-item.is there
    (c.can_be_added.ensures.0 c.if-not-can_be_added.false)

pub loop-rest-preserved : goal.loop-rest-preserved
loop-rest-preserved g c =
    let t = tables_of c.args.rows.now in
    let x = c.table-item.result in
    let there : x.fresh ≡ None = search rules in
    past_none g.F.Held.name g.F.Held.size (CanAllBeAdded t) (IsAdded t) (first_added t) _ x x c.loop-rest.rest.now c.loop-rest.invariant c.in-len1-up.len_at_least c.table-item.is there
