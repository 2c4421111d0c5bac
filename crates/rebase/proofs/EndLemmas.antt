-- What ends does so by what is kept of a list's drops.
use Rattle.std.proofs.Common.{◌≡◌, ◌++◌, ℕ, Bool, List, [], ◌∷◌, refl, ap, ap₂, ◌∙◌}
use Rattle.cat_tables.specs.Validity.{Validity}
use Rattle.cat_rows.specs.declared.batch.Key.{Key}
use Rattle.rebase.specs.Ends.{ended}
use Rattle.rebase.specs.Parts.{going}

-- tests that agree choose the same rows
going_alike : {R : Type 0} (v : Validity R) (owner : R → ℕ) (p q : ℕ → Bool) (rows : List R) → ((id : ℕ) → p id ≡ q id)
    → going v (λ r. p (owner r)) rows ≡ going v (λ r. q (owner r)) rows
going_alike v owner p q [] same = refl
going_alike {R} v owner p q (r ∷ rows) same = rw (same (owner r), going_alike v owner p q rows same) refl

-- the rows of one table that end are added behind others
pub one_ended : {R : Type 0} (v : Validity R) (named : R → Key) (owner : R → ℕ) (at : ℕ) (p q : ℕ → Bool) (rows table : List R) (old new so_far : List (Key × ℕ)) → ((id : ℕ) → p id ≡ q id)
    → new ≡ old ++ ended named at (going v (λ r. p (owner r)) rows) → rows ≡ table → old ≡ so_far → new ≡ so_far ++ ended named at (going v (λ r. q (owner r)) table)
one_ended v named owner at p q rows table old new so_far same more is before =
    more ∙ ap₂ (λ front (rs : List _). front ++ ended named at (going v (λ r. p (owner r)) rs)) before is ∙ ap (λ (rs : List _). so_far ++ ended named at rs) (going_alike v owner p q table same)
