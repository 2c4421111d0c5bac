use Rattle.std.proofs.Common.{◌≡◌, ◌∙◌, List, ℕ, not, false, sym, ap, rules}
use Rattle.std.proofs.lemmas.Fn.{filter_same}
use Rattle.cat_tables.specs.Table.{all_removed}
use Rattle.cat_rows.specs.Steps.{any_picked, has_place}
use Rattle.cat_rows.proofs.SweepLemmas.{none_picked, swept}
use Rattle.cat_rows.proofs.sweeping.remove_listed.Goals as goal

pub returns-then-has_own_key-clause-rows : goal.returns-then-has_own_key-clause-rows
returns-then-has_own_key-clause-rows g c =
    let key = g.R.Keyed.key in
    let place_of = g.R.PlacedRow.place_of in
    let parts = g.R.PlacedRow.parts_in in
    let keys = c.args.keys.now in
    filter_same _ (λ r. not (has_place (λ k. k) keys (place_of r))) _ (λ x b f' k. search rules) _ _ c.retain.ensures.rows
    ∙ swept key place_of parts g.met.R.PlacedRow.agree keys c.args.table.now.rows

pub returns-else-has_own_key-clause-rows : goal.returns-else-has_own_key-clause-rows
returns-else-has_own_key-clause-rows g c =
    let parts = g.R.PlacedRow.parts_in in
    let none : any_picked parts c.args.keys.now ≡ false = sym c.has_own_key.ensures ∙ c.if-has_own_key.false in
    sym (ap (λ (ks : List (List ℕ)). all_removed g.R.Keyed.key ks c.args.table.now.rows) (none_picked parts c.args.keys.now none))
