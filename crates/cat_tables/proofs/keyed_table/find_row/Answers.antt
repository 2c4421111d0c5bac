use Rattle.std.proofs.Common.{◌∙◌, sym, ap, Some}
use Rattle.cat_tables.proofs.PlaceLemmas.{row_of-place, row_of-lacking}
use Rattle.cat_tables.proofs.keyed_table.find_row.Goals as goal

pub returns-in-Some : goal.returns-in-Some
returns-in-Some g c =
    let row = c.index-rows-at.result in
    ap Some c.index-rows-at.is
    ∙ sym (row_of-place g.R.Keyed.key (g.R.Keyed.parts c.args.key.now) c.args.rows.now c.in-Some.at row c.requires c.in-Some.ensures.within (c.in-Some.ensures.there row))

pub returns-in-None : goal.returns-in-None
returns-in-None g c = sym (row_of-lacking g.R.Keyed.key (g.R.Keyed.parts c.args.key.now) c.args.rows.now c.in-None.ensures.lacking)
