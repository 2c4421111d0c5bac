use Rattle.std.proofs.Common.{is_eq, refl, sym, ap, ◌∙◌}
use Rattle.std.specs.Option.{option_copied}
use Rattle.std.proofs.lemmas.Option.{slice_get_past, slice_get_read}
use Rattle.lake_types.specs.Kinds.{kind_cmp}
use Rattle.conflicts.proofs.OrderLemmas as order
use Rattle.conflicts.proofs.OrderLemmas.{kinds_coarser}
use Rattle.conflicts.proofs.search.same_kind.Goals as goal

pub returns-in_err-found : goal.returns-in_err-found
returns-in_err-found c =
    let kinds = c.args.kinds.now in
    ap option_copied c.from_residual.ensures
    ∙ sym (order.none_there kind_cmp kinds_coarser c.args.kind.now kinds _ c.requires c.kinds_before.ensures (slice_get_past kinds _ c.in_err-found.ensures.lookup.3))

pub returns-then-is_eq : goal.returns-then-is_eq
returns-then-is_eq c =
    let kinds = c.args.kinds.now in
    let k = c.in_ok-found.found.now in
    let there = slice_get_read kinds _ _ k refl c.in_ok-found.ensures.lookup.3.0 c.in_ok-found.ensures.lookup.1 in
    let hits = ap is_eq (sym c.compare.ensures) ∙ sym c.is_eq.ensures ∙ c.if-is_eq.true in
    sym (order.found kind_cmp kinds_coarser c.args.kind.now kinds _ k c.requires c.kinds_before.ensures there hits)

pub returns-else-is_eq : goal.returns-else-is_eq
returns-else-is_eq c =
    let kinds = c.args.kinds.now in
    let k = c.in_ok-found.found.now in
    let there = slice_get_read kinds _ _ k refl c.in_ok-found.ensures.lookup.3.0 c.in_ok-found.ensures.lookup.1 in
    let misses = ap is_eq (sym c.compare.ensures) ∙ sym c.is_eq.ensures ∙ c.if-is_eq.false in
    sym (order.missed kind_cmp kinds_coarser c.args.kind.now kinds _ k c.requires c.kinds_before.ensures there misses)
