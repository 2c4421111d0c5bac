-- Steps that may fail, one after the other.
use Rattle.std.proofs.Common.{◌≡◌, ℕ, ◌+◌, ◌<◌, List, [], ◌∷◌, ◌++◌, length, drop, get_or, Result, Ok, Err, refl, sym, ap, ◌∙◌, append_assoc, add-one, drop-cons}
use Rattle.std.proofs.lemmas.List.{append-nil}
use Rattle.std.proofs.Math.Seq.{drop-length}
use Rattle.answers.proofs.AnswerLemmas.{handed_on}
use Rattle.pq_meta.specs.declared.fault.MetaFault.{MetaFault}
use Rattle.answers.specs.Answers.{◌>>=◌, Fails}
use Rattle.pq_meta.specs.Checks.{each, is_memory}

-- what is there already, before what is still made
abbrev pub with_front : {B : Type 0} → List B → Result (List B) MetaFault → Result (List B) MetaFault
with_front front made = made >>= λ bs. Ok (front ++ bs)

regroup : {B : Type 0} (front : List B) (b : B) (made : Result (List B) MetaFault) → with_front front (made >>= λ bs. Ok (b ∷ bs)) ≡ with_front (front ++ b ∷ []) made
regroup {B = B} front b (Ok bs) = ap (λ (x : List B). Ok x) (simp append_assoc)
regroup front b (Err e) = refl

pub each_step : {A B : Type 0} (step : A → Result B MetaFault) (items : List A) (i : ℕ) (item : A) → i < length items → item ≡ get_or items i item
    → each step (drop i items) ≡ (step item >>= λ b. each step (drop (i + 1) items) >>= λ bs. Ok (b ∷ bs))
each_step step items i item lt is = rw add-one (rw (drop-cons items i item) (rw (← is) refl))

-- a turn that makes one more
pub each_goes_on : {A B : Type 0} (step : A → Result B MetaFault) (items : List A) (front : List B) (i : ℕ) (item : A) (b : B) (total : Result (List B) MetaFault)
    → i < length items → item ≡ get_or items i item → step item ≡ Ok b
    → with_front front (each step (drop i items)) ≡ total → with_front (front ++ b ∷ []) (each step (drop (i + 1) items)) ≡ total
each_goes_on step items front i item b total lt is h so_far =
    let one : with_front front (each step (drop i items)) ≡ with_front (front ++ b ∷ []) (each step (drop (i + 1) items)) =
    rw (each_step step items i item lt is, h) (regroup front b (each step (drop (i + 1) items))) in
    sym one ∙ so_far

-- a turn that meets a fault
pub each_fails : {A B : Type 0} (step : A → Result B MetaFault) (items : List A) (front : List B) (i : ℕ) (item : A) (e : MetaFault) (total : Result (List B) MetaFault)
    → i < length items → item ≡ get_or items i item → Fails is_memory e (step item)
    → with_front front (each step (drop i items)) ≡ total → Fails is_memory e total
each_fails step items front i item e total lt is h so_far =
    rw (← so_far) (rw (each_step step items i item lt is)
    (handed_on is_memory e _ _ (handed_on is_memory e (step item) (λ b. each step (drop (i + 1) items) >>= λ bs. Ok (b ∷ bs)) h)))

pub each_ends : {A B : Type 0} (step : A → Result B MetaFault) (items : List A) (front : List B) (total : Result (List B) MetaFault)
    → with_front front (each step (drop (length items) items)) ≡ total → total ≡ Ok front
each_ends {B = B} step items front total so_far =
    let one : with_front front (each step (drop (length items) items)) ≡ Ok front = rw drop-length (ap (λ (x : List B). Ok x) (append-nil front)) in
    sym so_far ∙ one

pub ruleset turns = (each_goes_on, each_fails, each_ends)
