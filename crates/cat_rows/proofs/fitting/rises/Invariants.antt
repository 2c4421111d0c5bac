use Rattle.std.proofs.Common.{◌≡◌, ◌∷◌, drop}
use Rattle.cat_rows.specs.Steps as steps
use Rattle.cat_rows.proofs.fitting.rises.Given as goal

-- whether all rise is whether those that are left rise from the last one
abbrev pub invariant-loop-item : goal.invariant-loop-item
invariant-loop-item g l = steps.rises g.T.HasKey.key (l.last ∷ drop l.item-index l.others) ≡ steps.rises g.T.HasKey.key l.items
