use Rattle.std.proofs.Common.{◌-◌, [], ◌∷◌, take, drop, sym, ap, ◌∙◌, arith}
use Rattle.cat_rules.specs.Lookups.{column_of}
use Rattle.cat_rules.proofs.LookupLemmas.{below, columns_rise, in_order, part_is}
use Rattle.cat_rules.proofs.lookup.rows_of_column.Goals as goal

pub part-requires-clause-order : goal.part-requires-clause-order
part-requires-clause-order c =
    let k = c.args.table ∷ c.args.column ∷ [] in
    let low = in_order column_of k c.args.rows.now (columns_rise c.args.rows.now c.requires) in
    omega (arith, low, c.rows_below-below.ensures.count, c.rows_upto-upto.ensures.count)

pub returns : goal.returns
returns c =
    let k = c.args.table ∷ c.args.column ∷ [] in
    let rows = c.args.rows.now in
    c.part.ensures
    ∙ ap (λ n. take (c.rows_upto-upto.result - n) (drop n rows)) c.rows_below-below.ensures.count
    ∙ ap (λ n. take (n - below column_of k rows) (drop (below column_of k rows) rows)) c.rows_upto-upto.ensures.count
    ∙ sym (part_is column_of k rows (columns_rise rows c.requires))
