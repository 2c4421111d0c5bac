use Rattle.std.proofs.Common.{rules, ◌≡◌, Err}
use Rattle.std.specs.BTreeMap.{get}
use Rattle.std.specs.Ordering.{nat_cmp}
use Rattle.cat_changes.specs.Reading.{shown}
use Rattle.cat_changes.proofs.NameLemmas.{named_stops}
use Rattle.cat_changes.proofs.names.named.Goals as goal

pub returns-in_err-kind : goal.returns-in_err-kind
returns-in_err-kind c =
    let fault : c.from_residual.result ≡ Err c.in_err-kind.field-0.0 = search rules in
    rw fault (named_stops (λ id. shown (get nat_cmp c.args.names.now id)) c.args.kinds.now c.loop-kind.named c.loop-kind.kind-index c.kind-item.result c.in_err-kind.field-0.0
    c.loop-kind-test.true c.kind-item.is c.loop-kind.invariant c.in_err-kind.ensures)
