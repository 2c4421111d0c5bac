use Rattle.std.proofs.Common.{◌++◌, ◌∷◌, [], ℕ, List, map, take, ap, sym, ◌∙◌}
use Rattle.std.specs.List.{slice_index_or}
use Rattle.std.proofs.lemmas.List.{map_more}
use Rattle.sheet_rows.specs.Rows.{places_of}
use Rattle.sheet_rows.proofs.places.places_at.Goals as goal

pub loop-at-preserved : goal.loop-at-preserved
loop-at-preserved c =
    let place : ℕ → ℕ = λ at. slice_index_or (places_of c.args.kept.now c.args.rows) at 0 in
    c.in_ok-push.ensures.ok ∙ ap (λ (ps : List ℕ). ps ++ c.place_at.result ∷ []) c.loop-at.invariant
    ∙ ap (λ (p : ℕ). map place (take c.loop-at.at-index c.args.those.now) ++ p ∷ []) (c.place_at.ensures 0)
    ∙ sym (map_more place c.args.those.now c.loop-at.at-index 0 c.loop-at-test.true)
