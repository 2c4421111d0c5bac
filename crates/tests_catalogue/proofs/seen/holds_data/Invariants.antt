use Rattle.std.proofs.Common.{drop}
use Rattle.std.specs.List.{AllByRecursion}
use Rattle.cat_view.specs.Held.{IsHeld, held_in}
use Rattle.tests_catalogue.proofs.seen.holds_data.Given as goal

-- if the files of the rows that are left are held, those of all are
abbrev pub invariant-loop-row : goal.invariant-loop-row
invariant-loop-row g l =
    AllByRecursion (λ f. IsHeld g.F.Held.name (held_in l.held).rows f.path) (drop l.row-index l.rows)
    → AllByRecursion (λ f. IsHeld g.F.Held.name (held_in l.held).rows f.path) l.rows
