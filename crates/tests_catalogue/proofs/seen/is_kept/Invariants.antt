use Rattle.std.proofs.Common.{◌≡◌, drop}
use Rattle.cat_rules.specs.Rows.{SomeOf}
use Rattle.tests_catalogue.proofs.seen.is_kept.Given as goal

-- if one of the rows that are left has the id, one of all has it
abbrev pub invariant-loop-row : goal.invariant-loop-row
invariant-loop-row l =
    SomeOf (λ q. q.snapshot_id ≡ l.snapshot) (drop l.row-index l.rows) → SomeOf (λ q. q.snapshot_id ≡ l.snapshot) l.rows
