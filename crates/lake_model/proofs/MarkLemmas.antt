-- What marks by place say of the rows that are left.
use Rattle.std.proofs.Common.{◌≡◌, ℕ, zero, suc, ◌+◌, ◌<◌, ◌≤◌, List, length, take, Bool, false, refl, sym, ap, ◌∙◌, arith}
use Rattle.std.specs.Prelude.{not, slice_index_or, ◌||◌}
use Rattle.std.specs.List.{list_any}
use Rattle.std.proofs.lemmas.List.{take_all}
use Rattle.std.proofs.lemmas.List.Folds.{list_any_more}
use Rattle.lake_model.specs.Kinds.{deletes_row, leaves_among}
use Rattle.lake_model.specs.declared.change.Change.{Change}
use Rattle.lake_model.specs.declared.change.Ref.{Ref}
use Rattle.lake_model.specs.declared.change.RowRef.TheVariants.{Fresh}

module _ (own : List Change) (at : Ref) (gone : List Bool) (marks : (p : ℕ) → p < length gone → slice_index_or gone p false ≡ deletes_row own at (Fresh p)) where
  among : (n : ℕ) → n ≤ length gone → list_any not (take n gone) ≡ leaves_among n own at
  among zero below = refl
  among (suc n) below =
      let inside : n < length gone = omega (arith, below) in
      let suc_is : n + 1 ≡ suc n = omega arith in
      ap (λ m. list_any not (take m gone)) (sym suc_is) ∙ list_any_more not gone n false inside
      ∙ ap (λ some. some || not (slice_index_or gone n false)) (among n (omega (arith, below)))
      ∙ ap (λ is. leaves_among n own at || not is) (marks n inside)

  pub unmarked : list_any not gone ≡ leaves_among (length gone) own at
  unmarked = ap (list_any not) (sym (take_all (length gone) gone (omega arith))) ∙ among (length gone) (omega arith)
