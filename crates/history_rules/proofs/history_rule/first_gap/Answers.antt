use Rattle.std.proofs.Common.{refl, sym, ◌∙◌, subst}
use Rattle.cat_tables.specs.Table.{RisesByKey}
use Rattle.cat_rows.specs.Keys.{snapshot_key}
use Rattle.history_rules.proofs.GapLemmas.{climbs, first_gap_of, gap_here, no_gap}
use Rattle.history_rules.proofs.history_rule.first_gap.Goals as goal

pub loop-row-init : goal.loop-row-init
loop-row-init c = record {
  climbs = climbs c.in-Some.first.now c.in-Some.rest.now (subst (RisesByKey snapshot_key) c.in-Some.ensures.cases.0 c.requires);
  same = refl;
}

pub returns-then-row-last-gt1 : goal.returns-then-row-last-gt1
returns-then-row-last-gt1 c =
    first_gap_of c.args.rows.now c.in-Some.first.now c.in-Some.rest.now _ c.in-Some.ensures.cases.0 c.requires
    (sym c.loop-row.invariant.same ∙ gap_here c.loop-row.last c.in-Some.rest.now c.loop-row.row-index _ c.loop-row-test.true c.if-row-last-gt1.true)

pub returns : goal.returns
returns c =
    first_gap_of c.args.rows.now c.in-Some.first.now c.in-Some.rest.now _ c.in-Some.ensures.cases.0 c.requires
    (sym c.loop-row.invariant.same ∙ no_gap c.loop-row.last c.in-Some.rest.now c.loop-row.row-index c.loop-row-test.false)
