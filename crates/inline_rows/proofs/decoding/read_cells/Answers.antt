use Rattle.std.proofs.Common.{◌≡◌, ◌∙◌, ℕ, [], Some, None, rules}
use Rattle.std.proofs.lemmas.List.{append-nil}
use Rattle.lake_types.specs.declared.value.Value.{Value}
use Rattle.inline_rows.specs.Content.{held}
use Rattle.inline_rows.specs.Reading.{cell_in, cells_in}
use Rattle.inline_rows.proofs.CellLemmas.{cells_turn, cells_stop, cells_done}
use Rattle.inline_rows.proofs.decoding.read_cells.Goals as goal

pub returns-in_default-clause-bad : goal.returns-in_default-clause-bad
returns-in_default-clause-bad c =
    let none : cell_in c.loop-turn.last c.loop-turn.rest.now ≡ None = search rules in
    let stop = cells_stop c.loop-turn.cells.items c.args.end c.args.count c.loop-turn._turn c.loop-turn.last c.loop-turn.rest.now (cells_in c.args.end c.args.count None c.args.bytes.now) c.loop-turn-test.true none c.loop-turn.invariant in
    grind (rules, stop)

pub loop-turn-preserved : goal.loop-turn-preserved
loop-turn-preserved c =
    let cell : ℕ × Value = (c.in-Some.cell.0, held c.in-Some.cell.1) in
    let found : cell_in c.loop-turn.last c.loop-turn.rest.now ≡ Some (cell, c.in-Some.behind.now) = search rules in
    let turn = cells_turn c.loop-turn.cells.items c.args.end c.args.count c.loop-turn._turn c.loop-turn.last c.loop-turn.rest.now cell c.in-Some.behind.now (cells_in c.args.end c.args.count None c.args.bytes.now) c.loop-turn-test.true found c.loop-turn.invariant in
    grind (rules, turn)

pub returns-then-is_empty-clause-ok : goal.returns-then-is_empty-clause-ok
returns-then-is_empty-clause-ok c =
    let done = cells_done c.loop-turn.cells.items c.args.end c.args.count c.loop-turn._turn c.loop-turn.last c.loop-turn.rest.now (cells_in c.args.end c.args.count None c.args.bytes.now) c.loop-turn-test.false c.loop-turn.invariant in
    let empty : c.loop-turn.rest.now ≡ [] = search rules in
    done ∙ rw empty (search (rules, append-nil))

pub returns-else-is_empty-clause-bad : goal.returns-else-is_empty-clause-bad
returns-else-is_empty-clause-bad c =
    let done = cells_done c.loop-turn.cells.items c.args.end c.args.count c.loop-turn._turn c.loop-turn.last c.loop-turn.rest.now (cells_in c.args.end c.args.count None c.args.bytes.now) c.loop-turn-test.false c.loop-turn.invariant in
    grind (rules, done)
