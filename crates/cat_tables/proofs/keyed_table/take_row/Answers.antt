use Rattle.std.proofs.Common.{◌∙◌, sym, ap, Some}
use Rattle.cat_tables.proofs.PlaceLemmas.{row_of-place, row_of-lacking, without-place, without-lacking}
use Rattle.cat_tables.proofs.keyed_table.take_row.Goals as goal

pub returns-in-Some-clause-row : goal.returns-in-Some-clause-row
returns-in-Some-clause-row g c =
    let row = c.remove.result in
    ap Some c.remove.ensures.value
    ∙ sym (row_of-place g.R.Keyed.key (g.R.Keyed.parts c.args.key.now) c.args.rows.now.items c.in-Some.at row c.requires (rw c.as_slice.ensures.value at c.in-Some.ensures.within) (rw c.as_slice.ensures.value at (c.in-Some.ensures.there row)))

pub returns-in-Some-clause-rows : goal.returns-in-Some-clause-rows
returns-in-Some-clause-rows g c =
    let key = g.R.Keyed.key in
    let k = g.R.Keyed.parts c.args.key.now in
    let rows = c.args.rows.now.items in
    c.remove.ensures.items ∙ sym (without-place key k rows c.in-Some.at c.remove.result c.requires (rw c.as_slice.ensures.value at c.in-Some.ensures.within) (rw c.as_slice.ensures.value at (c.in-Some.ensures.there c.remove.result)))

pub returns-in-None-clause-row : goal.returns-in-None-clause-row
returns-in-None-clause-row g c =
    sym (row_of-lacking g.R.Keyed.key (g.R.Keyed.parts c.args.key.now) c.args.rows.now.items (rw c.as_slice.ensures.value at c.in-None.ensures.lacking))

pub returns-in-None-clause-rows : goal.returns-in-None-clause-rows
returns-in-None-clause-rows g c =
    sym (without-lacking g.R.Keyed.key (g.R.Keyed.parts c.args.key.now) c.args.rows.now.items (rw c.as_slice.ensures.value at c.in-None.ensures.lacking))
