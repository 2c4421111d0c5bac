use Rattle.std.proofs.Common.{◌∙◌, sym, ap, set}
use Rattle.cat_tables.specs.Validity.{ended_at}
use Rattle.cat_tables.proofs.PlaceLemmas.{edited-place, edited-lacking}
use Rattle.cat_tables.proofs.keyed_table.end_row.Goals as goal

pub returns-in-Some-clause-rows : goal.returns-in-Some-clause-rows
returns-in-Some-clause-rows g c =
    let rows = c.args.rows.now.items in
    let at = c.in-Some.at in
    let change = ended_at g.R.Versioned.validity c.args.snapshot in
    let was = c.index_mut.result.now in
    ap (set rows at) (c.end_at.ensures ∙ ap change c.index_mut.ensures.value)
    ∙ sym (edited-place g.R.Keyed.key change (g.R.Keyed.parts c.args.key.now) rows at was c.requires (rw c.as_slice.ensures.value at c.in-Some.ensures.within) (rw c.as_slice.ensures.value at (c.in-Some.ensures.there was)))

pub returns-in_default-clause-rows : goal.returns-in_default-clause-rows
returns-in_default-clause-rows g c =
    sym (edited-lacking g.R.Keyed.key (ended_at g.R.Versioned.validity c.args.snapshot) (g.R.Keyed.parts c.args.key.now) c.args.rows.now.items (rw c.as_slice.ensures.value at c.in_default.ensures.lacking))
