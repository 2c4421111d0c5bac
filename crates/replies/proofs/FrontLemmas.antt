-- Lists with another one at their front.
use Rattle.std.proofs.Common.{◌≡◌, ◌++◌, ◌∙◌, ℕ, List, length, take, drop, sym, ap, append_assoc}
use Rattle.std.proofs.lemmas.List.{take-append-drop}
use Rattle.std.proofs.Math.Seq.{take-append_seam}
use Rattle.replies.specs.Texts.{BeginsWith}

-- what begins with a list begins with the front of that one
pub front_of_front : (old more now later : List ℕ) → now ≡ old ++ more → BeginsWith later now → BeginsWith later old
front_of_front old more now later e begins =
    let rest : List ℕ = drop (length now) later in
    let whole : later ≡ old ++ (more ++ rest) = sym (take-append-drop (length now) later) ∙ ap (λ (x : List ℕ). x ++ rest) (begins ∙ e) ∙ append_assoc old more rest in
    ap (λ (x : List ℕ). take (length old) x) whole ∙ take-append_seam old (more ++ rest)
