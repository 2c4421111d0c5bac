use Rattle.std.proofs.Common.{◌≤◌, ◌<◌, ◌⊎◌, refl, sym, rules, arith}
use Rattle.lake_model.specs.History.{Nothing}
use Rattle.lake_model.specs.declared.call.Call.TheVariants as call
use Rattle.door.specs.Opened.{opened_of}
use Rattle.cat_core.proofs.CallLemmas.{has_begun_at, is_not_kept, wants_memory}
use Rattle.cat_core.specs.Shown.{shown}
use Rattle.cat_core.proofs.calls.CatCoreDoor.begin_at.Goals as goal

pub returns-in_default-clause-enters : goal.returns-in_default-clause-enters
returns-in_default-clause-enters g c =
    let now = shown g.F.Held.name g.F.Held.size g.F.Held.bytes c.args.self.now in
    wants_memory now now c.args.session (call.BeginAt c.args.n) Nothing c.requires.served refl

pub returns-in_default-newest_in-clause-enters : goal.returns-in_default-newest_in-clause-enters
returns-in_default-newest_in-clause-enters g c =
    let now = shown g.F.Held.name g.F.Held.size g.F.Held.bytes c.args.self.now in
    wants_memory now now c.args.session (call.BeginAt c.args.n) Nothing c.requires.served refl

pub returns-then-n-first-clause-enters : goal.returns-then-n-first-clause-enters
returns-then-n-first-clause-enters g c =
    let now = shown g.F.Held.name g.F.Held.size g.F.Held.bytes c.args.self.now in
    let out : (c.args.n < c.in-Some.first) ⊎ (c.in-Some-newest_in.head < c.args.n) = search (rules, arith) in
    is_not_kept now now c.args.session c.in-Some.first c.in-Some-newest_in.head c.args.n c.requires.served c.requires.closed (sym c.in-Some.ensures) (sym c.in-Some-newest_in.ensures) out refl

pub returns-in-Ok-clause-enters : goal.returns-in-Ok-clause-enters
returns-in-Ok-clause-enters g c =
    let low : c.in-Some.first ≤ c.args.n = search (rules, arith) in
    let high : c.args.n ≤ c.in-Some-newest_in.head = search (rules, arith) in
    has_begun_at (shown g.F.Held.name g.F.Held.size g.F.Held.bytes c.args.self.now) (shown g.F.Held.name g.F.Held.size g.F.Held.bytes c.open.new.self) c.args.session c.in-Some.first c.in-Some-newest_in.head c.args.n
    (opened_of g.F.Held.name g.F.Held.size g.F.Held.bytes c.in-Ok.view) c.requires.served c.requires.closed (sym c.in-Some.ensures) (sym c.in-Some-newest_in.ensures) low high c.in-Ok.ensures.opened

pub returns-in-Err-clause-enters : goal.returns-in-Err-clause-enters
returns-in-Err-clause-enters g c =
    wants_memory (shown g.F.Held.name g.F.Held.size g.F.Held.bytes c.args.self.now) (shown g.F.Held.name g.F.Held.size g.F.Held.bytes c.open.new.self) c.args.session (call.BeginAt c.args.n) Nothing c.requires.served
    c.in-Err.ensures.same
