use Rattle.std.proofs.Common.{◌≡◌, ℕ, List, Option, None, sym, ap, ◌∙◌}
use Rattle.std.specs.Prelude.{fold}
use Rattle.std.specs.List.{count_by}
use Rattle.std.specs.Option.{option_copied}
use Rattle.std.proofs.lemmas.List.{length-map}
use Rattle.lake_types.specs.declared.value.Row.{Row}
use Rattle.lake_types.specs.declared.value.Value.{Value}
use Rattle.col_stats.specs.Bounds.{cell_in, cells, outer_cell}
use Rattle.col_stats.specs.Stats.{is_null}
use Rattle.col_stats.specs.declared.bounds.Side.{Side}
use Rattle.col_stats.specs.declared.bounds.Side.TheVariants as side
use Rattle.col_stats.proofs.BoundLemmas.{bound_has_text, cells_fit, kept_bound}
use Rattle.col_stats.proofs.stats.stats_of.Goals as goal

-- what was found in a slice of the rows was found in the rows
of_rows : (s : Side) (field : ℕ) (slice rows : List Row) (bound : Option Value) → slice ≡ rows → bound ≡ fold (outer_cell s) None (cells field slice)
    → bound ≡ fold (outer_cell s) None (cells field rows)
of_rows s field slice rows bound e h = h ∙ ap (λ (rs : List Row). fold (outer_cell s) None (cells field rs)) e

pub kept-requires : goal.kept-requires
kept-requires c =
    let column = c.args.column.now in
    let found = of_rows side.Least column.field c.as_slice.result.now c.args.rows.now (option_copied c.outermost-least.result) c.as_slice.ensures c.outermost-least.ensures in
    bound_has_text side.Least column.ty (cells column.field c.args.rows.now) _ (cells_fit column c.args.rows.now c.requires) found

pub kept-requires-2 : goal.kept-requires-2
kept-requires-2 c =
    let column = c.args.column.now in
    let found = of_rows side.Greatest column.field c.as_slice-2.result.now c.args.rows.now (option_copied c.outermost-greatest.result) c.as_slice-2.ensures c.outermost-greatest.ensures in
    bound_has_text side.Greatest column.ty (cells column.field c.args.rows.now) _ (cells_fit column c.args.rows.now c.requires) found

pub returns-clause-stats : goal.returns-clause-stats
returns-clause-stats c =
    let column = c.args.column.now in
    let rows = c.args.rows.now in
    let fit = cells_fit column rows c.requires in
    let least = of_rows side.Least column.field c.as_slice.result.now rows (option_copied c.outermost-least.result) c.as_slice.ensures c.outermost-least.ensures in
    let greatest = of_rows side.Greatest column.field c.as_slice-2.result.now rows (option_copied c.outermost-greatest.result) c.as_slice-2.ensures c.outermost-greatest.ensures in
    record {
      rows = c.len.ensures ∙ sym (length-map rows (cell_in column.field));
      nulls = c.nulls_of.ensures ∙ ap (λ (rs : List Row). count_by is_null (cells column.field rs)) c.as_slice-3.ensures;
      min = rw c.in_ok-min.ensures (kept_bound side.Least column.ty (cells column.field rows) _ fit least);
      max = rw c.in_ok-max.ensures (kept_bound side.Greatest column.ty (cells column.field rows) _ fit greatest);
    }
