-- What is kept of a list's drops, and what is still to come.
use Rattle.std.proofs.Common.{◌≡◌, ◌≤◌, ◌-◌, ◌||◌, ℕ, Bool, true, false, List, [], ◌∷◌, take, drop, length, slice_index_or, sym, ap, subst, ◌∙◌, arith}
use Rattle.std.specs.List.{list_any}
use Rattle.lake_model.proofs.PlaceLemmas.{tail}
use Rattle.lake_model.specs.declared.change.Change.{Change}

moved : (a b c d : Bool) → (a || (b || c)) ≡ d → ((a || b) || c) ≡ d
moved true b c d e = e
moved false b c d e = e

-- one change of the rest was added to what is kept
pub one_added : (drops : ℕ → Change → Bool) (old new : ℕ → Bool) (first d : Change) (xs own : List Change) → ((id : ℕ) → new id ≡ (old id || drops id first))
    → 1 ≤ length xs → first ≡ slice_index_or xs 0 d → ((id : ℕ) → (old id || list_any (drops id) xs) ≡ list_any (drops id) own)
    → (id : ℕ) → (new id || list_any (drops id) (take (length xs - 1) (drop 1 xs))) ≡ list_any (drops id) own
one_added drops old new first d [] own step some is all id = absurd (omega (arith, some))
one_added drops old new first d (x ∷ rest) own step some is all id =
    subst (λ l. (new id || list_any (drops id) l) ≡ list_any (drops id) own) (sym (tail x rest))
    (ap (λ b. b || list_any (drops id) rest) (step id ∙ ap (λ c. old id || drops id c) is) ∙ moved (old id) (drops id x) (list_any (drops id) rest) _ (all id))
