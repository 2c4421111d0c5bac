use Rattle.std.proofs.Common.{◌≡◌, Some, ◌∙◌, rules}
use Rattle.std.specs.Prelude.{find}
use Rattle.lake_model.specs.Clashes.{conflicts}
use Rattle.conflicts.proofs.LawLemmas.{found-first}
use Rattle.conflicts.proofs.clash.first_clash.Goals as goal

pub returns-in-Some : goal.returns-in-Some
returns-in-Some c =
    let mine = c.args.mine.now in
    let t = c.first-item.result in
    let here : find (λ m. conflicts m t) mine ≡ Some c.in-Some.found.now = search rules in
    found-first mine c.args.snapshot c.loop-rest.rest.now t c.in-Some.found.now c.in-len1-up.len_at_least c.first-item.is here ∙ c.loop-rest.invariant
