use Rattle.std.proofs.Common.{◌∙◌, rules, Some, None, ◌≡◌}
use Rattle.cat_changes.proofs.KindLemmas.{id_in}
use Rattle.cat_changes.proofs.reading.id_at.Goals as goal

pub returns-in_err-id_of-in-Some : goal.returns-in_err-id_of-in-Some
returns-in_err-id_of-in-Some c =
    let none : c.id_of.result ≡ None = search rules in
    rw c.from_residual.ensures (λ id tail h e.
    let cut = id_in c.in-Some.digits.now id tail (Some c.in-Some.rest.now) h c.in-Some.ensures.some.1 (e ∙ c.in-Some.ensures.some.0) in
    c.id_of.ensures.none none id h cut.0)
