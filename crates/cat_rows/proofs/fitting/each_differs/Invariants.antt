use Rattle.std.proofs.Common.{◌≡◌, drop}
use Rattle.cat_rows.specs.Steps as steps
use Rattle.cat_rows.proofs.fitting.each_differs.Given as goal

-- whether all differ is whether those that are left do
abbrev pub invariant-loop-i : goal.invariant-loop-i
invariant-loop-i g l = steps.all_differ g.T.HasKey.key (drop l.i l.items) ≡ steps.all_differ g.T.HasKey.key l.items
