use Rattle.std.proofs.Common.{◌≡◌, map, rules, tests, Ok}
use Rattle.std.proofs.lemmas.Iterator.{YieldsList-from_slice, YieldsList-from_map_by}
use Rattle.std.proofs.lemmas.Iterator.Consumers.{map_from_collect}
use Rattle.cat_spans.specs.Marks.{point_of}
use Rattle.cat_spans.specs.Points.{stop_of}
use Rattle.cat_spans.proofs.marks.stops.Goals as goal

pub returns : goal.returns
returns c =
    let made : map point_of c.in_ok-marks.marks.items ≡ map stop_of c.args.spans.now =
    map_from_collect {E = Unit {0}} (Ok c.in_ok-marks.marks) c.in_ok-marks.ensures.ran (YieldsList-from_map_by _ point_of stop_of (YieldsList-from_slice c.args.spans.now cc) c.map.ensures.closure (λ x r q k. search (rules, tests))) in
    rw (← made) c.in_order.ensures
