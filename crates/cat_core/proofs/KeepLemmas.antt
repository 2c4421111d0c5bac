-- What the keeper keeps, and the rows.
use Rattle.std.proofs.Common.{◌≡◌, sym, ap, ◌∙◌, subst}
use Rattle.std.specs.Prelude.{Option, Some, None, IfSome, option_map}
use Rattle.cat_rows.specs.Batches.{Fits, applied}
use Rattle.cat_rows.specs.Tables.{Tables}
use Rattle.cat_rows.specs.declared.batch.Batch.{Batch}
use Rattle.keeper.specs.Calls.{FitsContent}

pub fits_content : (told : Option Tables) (rows : Tables) (b : Batch) → IfSome told (λ (r : Tables). r ≡ rows) → Fits rows b → FitsContent told b
fits_content None rows b is fits = tt
fits_content (Some content) rows b is fits = subst (λ t. Fits t b) (sym is) fits

pub content_then : (told then : Option Tables) (rows now : Tables) (b : Batch) → IfSome told (λ (r : Tables). r ≡ rows) → then ≡ option_map (applied b) told → now ≡ applied b rows → IfSome then (λ (r : Tables). r ≡ now)
content_then told then rows now b is after rows_now = subst (λ o. IfSome o (λ (r : Tables). r ≡ now)) (sym after) (go told is)
  where
    go : (o : Option Tables) → IfSome o (λ (r : Tables). r ≡ rows) → IfSome (option_map (applied b) o) (λ (r : Tables). r ≡ now)
    go None h = tt
    go (Some content) h = ap (applied b) h ∙ sym rows_now
