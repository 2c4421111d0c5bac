use Rattle.std.proofs.Common.{◌≡◌, ◌<◌, ◌+◌, length, ap, sym, ◌∙◌, arith}
use Rattle.std.specs.List.{slice_index_or}
use Rattle.std.proofs.lemmas.List.FromFn.{get_or-range_with_len, length-range_with_len}
use Rattle.sheet_rows.specs.Rows.{places_of}
use Rattle.sheet_rows.proofs.places.place_at.Goals as goal

pub returns-in-All : goal.returns-in-All
returns-in-All c = λ other.
    let count : length (places_of c.args.kept.now c.args.rows) ≡ c.args.rows = ap (λ k. length (places_of k c.args.rows)) c.in-All.is ∙ length-range_with_len 0 c.args.rows in
    let lt : c.args.at < c.args.rows = omega (arith, count, c.requires) in
    let zero : 0 + c.args.at ≡ c.args.at = omega arith in
    sym (ap (λ k. slice_index_or (places_of k c.args.rows) c.args.at other) c.in-All.is ∙ get_or-range_with_len 0 c.args.rows c.args.at other lt ∙ zero)
