use Rattle.cat_view.proofs.HeldLemmas.{found_named, found_copy}
use Rattle.cat_view.proofs.files.held_copy.Goals as goal

pub returns-clause-name : goal.returns-clause-name
returns-clause-name g c = found_named g.F.Held.name c.copy.result c.args.name.now _ c.in-Some.file.now c.in-Some.ensures c.copy.ensures.name

pub returns-clause-copy : goal.returns-clause-copy
returns-clause-copy g c =
    found_copy g.F.Held.name g.F.Held.size g.F.Held.part g.F.Held.bytes c.copy.result c.args.name.now _ c.in-Some.file.now c.in-Some.ensures
    c.copy.ensures.name c.copy.ensures.size c.copy.ensures.part c.copy.ensures.bytes
