-- What one rule tells, or else the later ones.
use Rattle.std.proofs.Common.{inl, inr, ℕ, Option, Some, None, Result, Ok, Err}
use Rattle.std.specs.Prelude.{IfOk, IsSomeAnd}
use Rattle.cat_rows.specs.declared.batch.Key.{Key}
use Rattle.cat_rules.specs.First.{FirstBad}
use Rattle.cat_rules.specs.Named.{Tells}
use Rattle.cat_rules.specs.declared.bad_row.BadRow.{BadRow}
use Rattle.cat_rules.specs.Sane.{Then}

module _ {E : Type 0} (rule : ℕ) (Bad : Key → Type 0) (Later : Option BadRow → Type 0) where
  pub told_here : (k : Key) (r : Result (Option BadRow) E) → FirstBad Bad (Some k) → IfOk r (λ told. IsSomeAnd told (λ b. Tells b rule k)) → IfOk r (Then rule Bad Later)
  told_here k (Err e) first told = tt
  told_here k (Ok None) first told = absurd told
  told_here k (Ok (Some b)) first told = inl (k, first, told)

  pub told_later : (r : Result (Option BadRow) E) → FirstBad Bad None → IfOk r Later → IfOk r (Then rule Bad Later)
  told_later (Err e) holds later = tt
  told_later (Ok None) holds later = (holds, later)
  told_later (Ok (Some b)) holds later = inr (holds, later)
