use Rattle.std.proofs.Common.{rules}
use Rattle.col_stats.specs.declared.bounds.Side.TheVariants as side
use Rattle.col_stats.proofs.BoundLemmas.{bound_has_text, kept_bound, kept_has_text}
use Rattle.col_stats.proofs.stats.count_cells.Goals as goal

pub kept-requires : goal.kept-requires
kept-requires c = bound_has_text side.Least c.args.column.now.ty c.args.cells.now _ c.requires c.outermost_cell.ensures

pub kept-requires-2 : goal.kept-requires-2
kept-requires-2 c = bound_has_text side.Greatest c.args.column.now.ty c.args.cells.now _ c.requires c.outermost_cell-2.ensures

pub returns-clause-stats : goal.returns-clause-stats
returns-clause-stats c =
    let ty = c.args.column.now.ty in
    let cells = c.args.cells.now in
    record {
      rows = search rules;
      nulls = c.nulls_in.ensures;
      min = rw c.in_ok-min.ensures (kept_bound side.Least ty cells _ c.requires c.outermost_cell.ensures);
      max = rw c.in_ok-max.ensures (kept_bound side.Greatest ty cells _ c.requires c.outermost_cell-2.ensures);
    }

pub returns-clause-texts : goal.returns-clause-texts
returns-clause-texts c =
    let ty = c.args.column.now.ty in
    let cells = c.args.cells.now in
    record {
      min = rw c.in_ok-min.ensures (kept_has_text _ (bound_has_text side.Least ty cells _ c.requires c.outermost_cell.ensures));
      max = rw c.in_ok-max.ensures (kept_has_text _ (bound_has_text side.Greatest ty cells _ c.requires c.outermost_cell-2.ensures));
    }
