use Rattle.std.proofs.Common.{sym, subst}
use Rattle.cat_tables.specs.Table.{LacksKey}
use Rattle.cat_view.specs.Held.{held_in, name_by}
use Rattle.recover.proofs.HoldLemmas.{holds_found, holds_held, lacks_held, why_held}
use Rattle.recover.proofs.holding.hold_named.Goals as goal

pub returns-in-Some-clause-holds : goal.returns-in-Some-clause-holds
returns-in-Some-clause-holds g c =
    let h = g.D.File.Held in
    holds_held h.name h.size h.bytes c.sized.result (g.D.FileDisk.files c.args.disk.now) (held_in c.args.held.now).rows c.in-Some.file.now c.size.result
    (record { name = c.args.path.now; size = c.args.want }) c.in-Some.ensures c.size.ensures c.requires.told c.sized.ensures.ok

pub returns-in-Some-clause-refused : goal.returns-in-Some-clause-refused
returns-in-Some-clause-refused g c =
    let h = g.D.File.Held in
    why_held h.name h.size h.bytes c.sized.result (g.D.FileDisk.faults c.args.disk.now) (g.D.FileDisk.faults c.args.disk.now) (g.D.FileDisk.files c.args.disk.now)
    (held_in c.args.held.now).rows c.in-Some.file.now c.size.result
    (record { name = c.args.path.now; size = c.args.want }) c.in-Some.ensures c.size.ensures c.requires.told c.sized.ensures.others c.sized.ensures.told

pub hold-requires : goal.hold-requires
hold-requires g c =
    let name = g.D.File.Held.name in
    subst (λ path. LacksKey (name_by name) path (held_in c.args.held.now).rows) (sym c.in-Ok.ensures.name)
    (lacks_held name g.D.File.Held.size g.D.File.Held.bytes (held_in c.args.held.now).rows c.args.path.now c.in_default.ensures)

pub returns-in-Ok-clause-holds : goal.returns-in-Ok-clause-holds
returns-in-Ok-clause-holds g c =
    let h = g.D.File.Held in
    holds_found h.name h.size h.bytes c.hold.result (g.D.FileDisk.files c.args.disk.now) (g.D.FileDisk.files c.find_named.new.disk)
    (held_in c.args.held.now).rows (held_in c.hold.new.held).rows c.in-Ok.file (record { name = c.args.path.now; size = c.args.want })
    c.in-Ok.ensures.files c.in-Ok.ensures.name c.in-Ok.ensures.size c.in-Ok.ensures.told
    (subst (λ path. LacksKey (name_by h.name) path (held_in c.args.held.now).rows) (sym c.in-Ok.ensures.name)
    (lacks_held h.name h.size h.bytes (held_in c.args.held.now).rows c.args.path.now c.in_default.ensures))
    c.requires.told c.hold.ensures.more
