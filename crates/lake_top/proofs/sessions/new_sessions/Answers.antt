use Rattle.std.proofs.Common.{◌≡◌, ◌+◌, [], ◌∷◌, length, length-append, sym, ◌∙◌, subst, arith}
use Rattle.lake_top.proofs.SessionsLemmas.{AreNewFrom, new_more, new_owns_all, new_ready}
use Rattle.lake_top.proofs.sessions.new_sessions.Goals as goal

pub loop-place-preserved : goal.loop-place-preserved
loop-place-preserved g c =
    let h = g.F.Held in
    let l = c.loop-place in
    let place : l.place + 1 ≡ 0 + length l.sessions.items + 1 = omega (arith, l.invariant.so_many) in
    record {
      new = subst (AreNewFrom h.name h.size h.bytes 0) (sym c.in_ok-push.ensures.items) (new_more h.name h.size h.bytes 0 l.sessions.items c.new.result l.invariant.new
          (record { number = c.new.ensures.number ∙ place; own = c.new.ensures.own; ready = c.new.ensures.ready }));
      so_many = grind (arith, c.in_ok-push.ensures.items, length-append l.sessions.items (c.new.result ∷ []), l.invariant.so_many);
    }

pub returns-clause-ready : goal.returns-clause-ready
returns-clause-ready g c = λ opened closed.
    let h = g.F.Held in
    let l = c.loop-place in
    let sixteen : length l.sessions.items ≡ 16 = omega (arith, l.invariant.so_many, c.loop-place-test.false, l.auto.place-end) in
    new_ready h.name h.size h.bytes l.sessions.items sixteen l.invariant.new opened closed

pub returns-clause-owns : goal.returns-clause-owns
returns-clause-owns g c =
    let h = g.F.Held in
    let l = c.loop-place in
    let sixteen : length l.sessions.items ≡ 16 = omega (arith, l.invariant.so_many, c.loop-place-test.false, l.auto.place-end) in
    new_owns_all h.name h.size h.bytes l.sessions.items sixteen l.invariant.new
