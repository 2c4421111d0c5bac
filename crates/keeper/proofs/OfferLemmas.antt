-- What an offered batch does to the images of a keeper in memory.
use Rattle.std.proofs.Common.{◌≡◌, List, [], ◌∷◌, inl, inr, sym, subst, ◌∙◌}
use Rattle.std.specs.List.{Contains}
use Rattle.std.specs.Prelude.{◌⊎◌}
use Rattle.std.proofs.lemmas.List.Elements.{Contains-append_left, Contains-push_cases}
use Rattle.cat_rows.specs.Batches.{applied}
use Rattle.cat_rows.specs.Tables.{Tables}
use Rattle.cat_rows.specs.declared.batch.Batch.{Batch}
use Rattle.keeper.specs.Calls.{Gains, Stay}
use Rattle.keeper.specs.Memory.{FailingKeeper, HoldsOffer, IsImage}

module _ (batch : Batch) (old new : FailingKeeper) (same : new.content ≡ old.content) where
  -- all that a crash might have found it still may
  pub stays_offered : HoldsOffer batch old new → Stay (IsImage old) (IsImage new)
  stays_offered (inl h) image (inl is) = inl (is ∙ sym same)
  stays_offered (inl h) image (inr is) = inr (subst (λ (xs : List Tables). Contains xs image) (sym h.0) (Contains-append_left old.offered (applied batch old.content ∷ []) image is))
  stays_offered (inr h) image (inl is) = inl (is ∙ sym same)
  stays_offered (inr h) image (inr is) = inr (subst (λ (xs : List Tables). Contains xs image) (sym h.0) is)

  either : (image : Tables) → Contains old.offered image ⊎ (applied batch old.content ≡ image) → IsImage old image ⊎ (image ≡ applied batch old.content)
  either image (inl is) = inl (inr is)
  either image (inr is) = inr (sym is)

  -- and besides at most the content with the batch
  pub gains_offered : HoldsOffer batch old new → Gains (applied batch old.content) (IsImage old) (IsImage new)
  gains_offered (inl h) image (inl is) = inl (inl (is ∙ same))
  gains_offered (inl h) image (inr is) = either image (Contains-push_cases old.offered (applied batch old.content) image (subst (λ (xs : List Tables). Contains xs image) h.0 is))
  gains_offered (inr h) image (inl is) = inl (inl (is ∙ same))
  gains_offered (inr h) image (inr is) = inl (inr (subst (λ (xs : List Tables). Contains xs image) h.0 is))
