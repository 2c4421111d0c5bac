use Rattle.std.proofs.Common.{◌≡◌, ◌≤◌, ◌++◌, ◌∷◌, [], map, length, Vec, Global, List, ℕ, ◌∙◌, Ok}
use Rattle.std.proofs.lemmas.List.{map_push}
use Rattle.pq_encodings.specs.Plain.{string_at, strings_before}
use Rattle.pq_encodings.proofs.FrontLemmas.{front_read, front_stops, front_done}
use Rattle.pq_encodings.proofs.fronts.strings_before_fault.Goals as goal

abbrev texts : List (Vec ℕ Global) → List (List ℕ)
texts vs = map (λ (x : Vec ℕ Global). x.items) vs

pub returns-in-None : goal.returns-in-None
returns-in-None c = c.from_vec.ensures ∙ front_stops (texts c.loop-turn.out.items) c.args.count c.loop-turn._turn c.loop-turn.at c.args.bytes.now
    (strings_before c.args.count c.args.bytes.now 0) c.loop-turn-test.true (rw c.in-None.is at c.in_ok-found.ensures.text) c.loop-turn.invariant.0

pub loop-turn-preserved : goal.loop-turn-preserved
loop-turn-preserved c =
    let e : texts c.push.new.self.items ≡ texts c.loop-turn.out.items ++ c.in-Some.text.items ∷ [] = rw c.in_ok-push-in-Some.ensures.items (map_push _ c.loop-turn.out.items c.in-Some.text) in
    let found : string_at c.args.bytes.now c.loop-turn.at ≡ Ok (c.in-Some.text.items, c.in-Some.next) = rw c.in-Some.is at c.in_ok-found.ensures.text in
    let within : c.in-Some.next ≤ length c.args.bytes.now = rw c.in-Some.is at c.in_ok-found.ensures.within in (
      rw e (front_read (texts c.loop-turn.out.items) c.args.count c.loop-turn._turn c.loop-turn.at c.in-Some.next c.args.bytes.now c.in-Some.text.items
          (strings_before c.args.count c.args.bytes.now 0) c.loop-turn-test.true found c.loop-turn.invariant.0),
      within,
    )

pub returns : goal.returns
returns c = c.from_vec-2.ensures ∙ front_done (texts c.loop-turn.out.items) c.args.count c.loop-turn._turn c.loop-turn.at c.args.bytes.now
    (strings_before c.args.count c.args.bytes.now 0) c.loop-turn-test.false c.loop-turn.invariant.0
