use Rattle.std.proofs.Common.{◌≡◌, ◌<◌, ◌+◌, ◌++◌, ◌∷◌, [], true, false, length, drop, ap, sym, subst, ◌∙◌, arith}
use Rattle.sheet_rows.specs.Live.{begins, rise_within}
use Rattle.sheet_rows.specs.Rows.{places_of}
use Rattle.sheet_rows.proofs.PlaceLemmas.{gone_rises, gone_step, stay_rises, stay_step}
use Rattle.sheet_rows.proofs.places.left_of.Goals as goal
use Rattle.sheet_rows.proofs.places.left_of.Goals.{then-begins, else-begins+in_ok-push}

pub loop-at-preserved : goal.loop-at-preserved
loop-at-preserved c =
    let lt : c.loop-at.at < length (places_of c.args.kept.now c.args.rows) = omega (arith, c.count_of-at-end.ensures, c.loop-at-test.true) in
    let before = c.loop-at.invariant in
    elim c.if-begins.branch [
      | then-begins w ↦
          let is : begins c.loop-at.rest.now c.loop-at.at ≡ true = cc in
          let rest : c.if-begins.rest.now ≡ drop 1 c.loop-at.rest.now = ap (λ b. b.now) w.rest-is ∙ w.behind_first-rest.ensures in
          record {
            same = gone_step (length (places_of c.args.kept.now c.args.rows)) c.loop-at.at c.loop-at.left c.if-begins.left c.loop-at.rest.now c.if-begins.rest.now (places_of c.args.kept.now c.args.rows) _ 0 lt is
                before.rises before.same w.left-is rest;
            rises = subst (λ ns. rise_within (c.loop-at.at + 1) (length (places_of c.args.kept.now c.args.rows)) ns ≡ true) (sym rest) (gone_rises _ c.loop-at.at c.loop-at.rest.now is before.rises);
          }
      | else-begins+in_ok-push w ↦
          let is : begins c.loop-at.rest.now c.loop-at.at ≡ false = cc in
          let rest : c.if-begins.rest.now ≡ c.loop-at.rest.now = ap (λ b. b.now) w.rest-is in
          let made : c.if-begins.left ≡ c.loop-at.left ++ w.place_at.result ∷ [] = w.left-is ∙ w.in_ok-push.ensures.ok in
          record {
            same = stay_step (length (places_of c.args.kept.now c.args.rows)) c.loop-at.at w.place_at.result c.loop-at.left c.if-begins.left c.loop-at.rest.now c.if-begins.rest.now
                (places_of c.args.kept.now c.args.rows) _ lt (w.place_at.ensures w.place_at.result) is before.rises before.same made rest;
            rises = subst (λ ns. rise_within (c.loop-at.at + 1) (length (places_of c.args.kept.now c.args.rows)) ns ≡ true) (sym rest) (stay_rises _ c.loop-at.at c.loop-at.rest.now is before.rises);
          }
    ]
