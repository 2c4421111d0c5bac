use Rattle.std.proofs.Common.{◌≡◌, ◌<◌, ℕ, false, length, slice_index_or, ap, ◌∙◌, rules}
use Rattle.lake_model.specs.Kinds as spec
use Rattle.lake_model.specs.declared.change.RowRef.TheVariants.{Fresh}
use Rattle.lake_model.proofs.MarkLemmas.{unmarked}
use Rattle.lake_model.proofs.kinds.leaves_fresh.Goals as goal

pub returns : goal.returns
returns c =
    let gone = c.in_ok-gone.gone.items in
    let own = c.args.own.now in
    let size : length gone ≡ spec.inserted own c.args.at = search rules in
    let marks : (p : ℕ) → p < length gone → slice_index_or gone p false ≡ spec.deletes_row own c.args.at (Fresh p) = search rules in
    let found : c.has_unmarked.result ≡ spec.leaves_among (length gone) own c.args.at = search (rules, unmarked own c.args.at gone marks) in
    found ∙ ap (λ n. spec.leaves_among n own c.args.at) size
