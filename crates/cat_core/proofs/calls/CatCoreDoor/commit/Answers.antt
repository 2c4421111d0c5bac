use Rattle.std.proofs.Common.{◌≡◌, ◌≢◌, ◌-◌, [], None, ap, refl, rules, subst}
use Rattle.lake_io.specs.Causes.{Rose}
use Rattle.lake_model.specs.History.{Committed}
use Rattle.cat_view.specs.StagedNames.{named_staged}
use Rattle.door.specs.Standing.{carried, kinds_at}
use Rattle.cat_core.proofs.CallLemmas.{put_closed}
use Rattle.cat_core.proofs.CarriedLemmas.{carried-named}
use Rattle.cat_core.proofs.LandingLemmas as landing
use Rattle.cat_core.specs.Commits.{first_since}
use Rattle.cat_core.specs.Shown.{Shown, opened_in, shown}
use Rattle.cat_core.proofs.calls.CatCoreDoor.commit.Goals as goal

-- ---- an empty list

pub returns-then-is_empty-clause-opened : goal.returns-then-is_empty-clause-opened
returns-then-is_empty-clause-opened g c =
    let told = shown g.F.Held.name g.F.Held.size g.F.Held.bytes in
    landing.closed_opened (told c.args.self.now) (told c.put.new.self) c.args.session c.requires.served c.requires.in_order.sixteen (ap (λ (s : Shown). s.opens) c.put.ensures.opens)

pub returns-then-is_empty-clause-others : goal.returns-then-is_empty-clause-others
returns-then-is_empty-clause-others g c =
    let told = shown g.F.Held.name g.F.Held.size g.F.Held.bytes in
    landing.closed_others (told c.args.self.now) (told c.put.new.self) c.args.session c.requires.served (ap (λ (s : Shown). s.opens) c.put.ensures.opens)

pub returns-then-is_empty-clause-enters : goal.returns-then-is_empty-clause-enters
returns-then-is_empty-clause-enters g c =
    let told = shown g.F.Held.name g.F.Held.size g.F.Held.bytes in
    let before = told c.args.self.now in
    let none : c.args.txn.own ≡ [] = c.if-is_empty.ensures.0 refl in
    landing.empty_commits before (told c.put.new.self) c.args.session c.args.txn (named_staged g.F.Held.name g.F.Held.size c.args.staged) (carried g.F.Held.name g.F.Held.size g.F.Held.bytes c.args.staged)
    (Committed (kinds_at c.args.txn.own (opened_in before.opens c.args.session)) (carried g.F.Held.name g.F.Held.size g.F.Held.bytes c.args.staged))
    c.requires.served c.requires.open none (put_closed c.args.session before (told c.put.new.self) c.put.ensures.opens)

-- ---- a refusal before the keeper is asked

pub returns-in-Err-clause-opened : goal.returns-in-Err-clause-opened
returns-in-Err-clause-opened g c =
    let told = shown g.F.Held.name g.F.Held.size g.F.Held.bytes in
    let before = told c.args.self.now in
    let mid = told c.prepare.new.self in
    let new = told c.after_refusal.new.self in
    landing.refused_opened before new c.args.session c.requires.served c.in-Err.no
    (λ none. ap (λ (s : Shown). s.opens) (landing.same_then before mid new c.in-Err.ensures.rest (c.after_refusal.ensures.same none)))
    (λ clash e. ap (λ (s : Shown). s.opens) (landing.closed_then before mid new c.in-Err.ensures.rest c.args.session (c.after_refusal.ensures.closed clash e)))
    c.requires.in_order.sixteen

pub returns-in-Err-clause-others : goal.returns-in-Err-clause-others
returns-in-Err-clause-others g c =
    let told = shown g.F.Held.name g.F.Held.size g.F.Held.bytes in
    let before = told c.args.self.now in
    let mid = told c.prepare.new.self in
    let new = told c.after_refusal.new.self in
    landing.refused_others before new c.args.session c.requires.served c.in-Err.no
    (λ none. ap (λ (s : Shown). s.opens) (landing.same_then before mid new c.in-Err.ensures.rest (c.after_refusal.ensures.same none)))
    (λ clash e. ap (λ (s : Shown). s.opens) (landing.closed_then before mid new c.in-Err.ensures.rest c.args.session (c.after_refusal.ensures.closed clash e)))
    c.requires.in_order.sixteen

pub returns-in-Err-clause-enters : goal.returns-in-Err-clause-enters
returns-in-Err-clause-enters g c =
    let told = shown g.F.Held.name g.F.Held.size g.F.Held.bytes in
    let before = told c.args.self.now in
    let mid = told c.prepare.new.self in
    let new = told c.after_refusal.new.self in
    let some : c.args.txn.own ≢ [] = search rules in
    landing.unprepared_commits before new c.args.session c.args.txn (named_staged g.F.Held.name g.F.Held.size c.args.staged) (carried g.F.Held.name g.F.Held.size g.F.Held.bytes c.args.staged)
    (Committed (kinds_at c.args.txn.own (opened_in before.opens c.args.session)) (carried g.F.Held.name g.F.Held.size g.F.Held.bytes c.args.staged))
    c.requires.served c.requires.open c.requires.grows some c.in-Err.no c.in-Err.ensures.refused
    (λ none. landing.same_then before mid new c.in-Err.ensures.rest (c.after_refusal.ensures.same none))
    (λ clash e. landing.closed_then before mid new c.in-Err.ensures.rest c.args.session (c.after_refusal.ensures.closed clash e))

-- ---- a commit that lands

pub returns-in-Ok-land-clause-opened : goal.returns-in-Ok-land-clause-opened
returns-in-Ok-land-clause-opened g c =
    let told = shown g.F.Held.name g.F.Held.size g.F.Held.bytes in
    let before = told c.args.self.now in
    let landed = landing.landed_then before (told c.prepare.new.self) (told c.land.new.self) c.in-Ok.ensures.rest c.in-Ok.landing.batch c.in-Ok.landing.mine (c.args.session - 1)
    (carried g.F.Held.name g.F.Held.size g.F.Held.bytes c.args.staged) c.in-Ok-land.ensures.landed in
    landing.closed_opened before (told c.land.new.self) c.args.session c.requires.served c.requires.in_order.sixteen landed.opens

pub returns-in-Ok-land-clause-others : goal.returns-in-Ok-land-clause-others
returns-in-Ok-land-clause-others g c =
    let told = shown g.F.Held.name g.F.Held.size g.F.Held.bytes in
    let before = told c.args.self.now in
    let landed = landing.landed_then before (told c.prepare.new.self) (told c.land.new.self) c.in-Ok.ensures.rest c.in-Ok.landing.batch c.in-Ok.landing.mine (c.args.session - 1)
    (carried g.F.Held.name g.F.Held.size g.F.Held.bytes c.args.staged) c.in-Ok-land.ensures.landed in
    landing.closed_others before (told c.land.new.self) c.args.session c.requires.served landed.opens

pub returns-in-Ok-land-clause-enters : goal.returns-in-Ok-land-clause-enters
returns-in-Ok-land-clause-enters g c =
    let told = shown g.F.Held.name g.F.Held.size g.F.Held.bytes in
    let before = told c.args.self.now in
    let sealed = carried g.F.Held.name g.F.Held.size g.F.Held.bytes c.args.staged in
    let landed = landing.landed_then before (told c.prepare.new.self) (told c.land.new.self) c.in-Ok.ensures.rest c.in-Ok.landing.batch c.in-Ok.landing.mine (c.args.session - 1) sealed c.in-Ok-land.ensures.landed in
    let some : c.args.txn.own ≢ [] = search rules in
    landing.landed_commits before (told c.land.new.self) c.args.session c.args.txn (named_staged g.F.Held.name g.F.Held.size c.args.staged) sealed
    (Committed (kinds_at c.args.txn.own (opened_in before.opens c.args.session)) sealed)
    c.requires.served c.requires.open c.requires.grows some (carried-named g.F.Held.name g.F.Held.size g.F.Held.bytes c.args.staged) _ c.in-Ok.landing c.in-Ok.ensures.can landed

-- ---- a refusal of the keeper

pub returns-in-Err-Failed-default-clause-fault : goal.returns-in-Err-Failed-default-clause-fault
returns-in-Err-Failed-default-clause-fault g c = λ is.
    subst (λ k. Rose (g.K.Keeper.faults k) (g.K.Keeper.faults c.land.new.self.keeper)) c.in-Ok.ensures.keeper (c.in-Err-Failed-default.ensures.fault c.in-Err-Failed-default.field-0-0-is)

pub returns-in-Err-Failed-default-clause-enters : goal.returns-in-Err-Failed-default-clause-enters
returns-in-Err-Failed-default-clause-enters g c =
    let told = shown g.F.Held.name g.F.Held.size g.F.Held.bytes in
    let before = told c.args.self.now in
    let sealed = carried g.F.Held.name g.F.Held.size g.F.Held.bytes c.args.staged in
    let some : c.args.txn.own ≢ [] = search rules in
    let can = c.in-Ok.ensures.can in
    landing.unkept_commits before (told c.land.new.self) c.args.session c.args.txn (named_staged g.F.Held.name g.F.Held.size c.args.staged) sealed
    (Committed (kinds_at c.args.txn.own (opened_in before.opens c.args.session)) sealed)
    c.requires.served c.requires.open some can.writes (subst (λ ks. first_since before c.args.txn.base ks ≡ None) can.mine can.free)
    (landing.same_then before (told c.prepare.new.self) (told c.land.new.self) c.in-Ok.ensures.rest c.in-Err-Failed-default.ensures.same)

pub returns-in-Err-Memory-default-clause-enters : goal.returns-in-Err-Memory-default-clause-enters
returns-in-Err-Memory-default-clause-enters g c =
    let told = shown g.F.Held.name g.F.Held.size g.F.Held.bytes in
    let before = told c.args.self.now in
    let sealed = carried g.F.Held.name g.F.Held.size g.F.Held.bytes c.args.staged in
    landing.memory_commits before (told c.land.new.self) c.args.session c.args.txn (named_staged g.F.Held.name g.F.Held.size c.args.staged) sealed
    (Committed (kinds_at c.args.txn.own (opened_in before.opens c.args.session)) sealed)
    c.requires.served c.requires.open
    (landing.same_then before (told c.prepare.new.self) (told c.land.new.self) c.in-Ok.ensures.rest c.in-Err-Memory-default.ensures.same)
