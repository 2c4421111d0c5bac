use Rattle.std.proofs.Common.{◌≡◌, map, take}
use Rattle.cat_view.specs.declared.live.TableHead.{TableHead}
use Rattle.cat_view.proofs.versions.ids_of_heads.Given as goal

abbrev pub invariant-loop-head : goal.invariant-loop-head
invariant-loop-head l = l.ids.items ≡ map (λ (h : TableHead). h.id) (take l.head-index l.heads)
