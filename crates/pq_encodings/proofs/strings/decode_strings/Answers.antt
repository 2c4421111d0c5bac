use Rattle.std.proofs.Common.{◌≡◌, ◌++◌, ◌∷◌, [], map, Vec, Global, List, ℕ}
use Rattle.std.proofs.lemmas.Result.{err_from_is_err_and}
use Rattle.std.proofs.lemmas.List.{map_push}
use Rattle.pq_encodings.specs.Plain.{strings_at}
use Rattle.pq_encodings.proofs.PlainLemmas.{string_read, strings_stop, strings_done}
use Rattle.pq_encodings.proofs.strings.decode_strings.Goals as goal

abbrev texts : List (Vec ℕ Global) → List (List ℕ)
texts vs = map (λ (x : Vec ℕ Global). x.items) vs

pub returns-in_err-text : goal.returns-in_err-text
returns-in_err-text c =
    let p = err_from_is_err_and c.from_residual.result c.from_residual.ensures.1 in
    rw (p.1, p.2) (strings_stop c.in_err-text.field-0.0 (texts c.loop-turn.out.items) c.args.count c.loop-turn._turn c.loop-turn.at c.args.bytes.now
    (strings_at c.args.count c.args.bytes.now 0) c.loop-turn-test.true c.in_err-text.ensures.string c.loop-turn.invariant.0)

pub loop-turn-preserved : goal.loop-turn-preserved
loop-turn-preserved c =
    let e : texts c.push.new.self.items ≡ texts c.loop-turn.out.items ++ c.in_ok-text.text.items ∷ [] = rw c.in_ok-push.ensures.items (map_push _ c.loop-turn.out.items c.in_ok-text.text) in (
      rw e (string_read (texts c.loop-turn.out.items) c.args.count c.loop-turn._turn c.loop-turn.at c.in_ok-text.next c.args.bytes.now c.in_ok-text.text.items
          (strings_at c.args.count c.args.bytes.now 0) c.loop-turn-test.true c.in_ok-text.ensures.string c.loop-turn.invariant.0),
      c.in_ok-text.ensures.within,
    )

pub returns : goal.returns
returns c = strings_done (texts c.loop-turn.out.items) c.args.count c.loop-turn._turn c.loop-turn.at c.args.bytes.now
    (strings_at c.args.count c.args.bytes.now 0) c.loop-turn-test.false c.loop-turn.invariant.0
