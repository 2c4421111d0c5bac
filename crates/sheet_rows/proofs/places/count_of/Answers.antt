use Rattle.std.proofs.Common.{length, ap, sym, ◌∙◌}
use Rattle.std.proofs.lemmas.List.FromFn.{length-range_with_len}
use Rattle.sheet_rows.specs.Rows.{places_of}
use Rattle.sheet_rows.proofs.places.count_of.Goals as goal

pub returns-in-All : goal.returns-in-All
returns-in-All c = sym (ap (λ k. length (places_of k c.args.rows)) c.in-All.is ∙ length-range_with_len 0 c.args.rows)
