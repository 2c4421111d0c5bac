use Rattle.std.proofs.Common.{◌<◌, ◌≤◌, [], length, arith, sym, ◌∙◌}
use Rattle.lake_types.specs.declared.value.Row.{Row}
use Rattle.scan_exec.proofs.PickLemmas.{all_told, turn_at}
use Rattle.scan_exec.proofs.rows.push_sheet.Goals as goal

pub loop-at-preserved : goal.loop-at-preserved
loop-at-preserved c =
    let none : Row = record { id = 0; cells = [] } in
    let lt : c.loop-at.at < length c.args.sheet.now = omega (arith, c.len-at-end.ensures, c.loop-at-test.true) in
    rw c.in_ok-push_chosen.ensures.rows
    (turn_at c.args.choice.now.bound c.args.choice.now.fields.items c.loop-at.rows c.args.sheet.now c.loop-at.at c.id.result none lt (c.id.ensures none) ∙ c.loop-at.invariant)

pub returns : goal.returns
returns c =
    let past : length c.args.sheet.now ≤ c.loop-at.at = omega (arith, c.len-at-end.ensures, c.loop-at-test.false) in
    sym (all_told c.args.choice.now.bound c.args.choice.now.fields.items c.loop-at.rows c.args.sheet.now c.loop-at.at past) ∙ c.loop-at.invariant
