-- The ids so far come before those to come.
use Rattle.std.proofs.Common.{◌≡◌, List, ℕ, drop}
use Rattle.std.specs.Borrow.{Bor}
use Rattle.std.specs.Option.{option_or}
use Rattle.file_rules.specs.Ids.{first_id, id_at}
use Rattle.file_rules.proofs.ids.first_ids.Given as goal

abbrev pub invariant-loop-row : goal.invariant-loop-row
invariant-loop-row g l =
    let path = g.R.Filed.path in
    let id = g.R.Filed.id in
    (p : Bor (List ℕ)) → option_or (id_at l.ids p.now) (first_id path id (drop l.row-index l.rows) p.now) ≡ first_id path id l.rows p.now
