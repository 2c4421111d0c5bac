use Rattle.std.proofs.Common.{map, drop, ap₂, ◌∙◌}
use Rattle.cat_spans.specs.Marks.{point_of}
use Rattle.cat_spans.specs.Points.{are_upto}
use Rattle.cat_spans.proofs.CountLemmas.{within_or_exceeded}
use Rattle.cat_spans.proofs.limits.is_within.Goals as goal

pub returns : goal.returns
returns c =
    within_or_exceeded c.args.limit c.args.spans.now _ _ c.in_ok-begins.ensures c.in_ok-stops.ensures c.are_upto.result
    (c.are_upto.ensures ∙ ap₂ (λ ms ns. are_upto (map point_of ms) (drop c.args.limit (map point_of ns))) c.deref.ensures.value c.deref-2.ensures.value)
