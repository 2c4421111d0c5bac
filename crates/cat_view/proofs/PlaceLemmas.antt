-- The rows at some places, one place after the other.
use Rattle.std.proofs.Common.{◌≡◌, ℕ, zero, suc, ◌+◌, ◌<◌, ◌≤◌, List, [], ◌∷◌, ◌++◌, length, get_or, drop, drop-cons, take, Option, Some, None, sym, ap, subst, ◌∙◌, arith}
use Rattle.std.specs.List.{AllByRecursion, cons_option, slice_get}
use Rattle.std.specs.Prelude.{IfSome}
use Rattle.std.proofs.lemmas.List.{take_more}
use Rattle.std.proofs.lemmas.Option.{slice_get-get_or, slice_get_past}
use Rattle.std.proofs.lemmas.List.Elements.{filter_map-append}
use Rattle.cat_view.specs.Groups.{rows_at}

module _ {R : Type 0} (rows : List R) (places : List ℕ) (at d : ℕ) (within : at < length places) where
  abbrev place : ℕ
  place = get_or places at d

  left : (found : Option R) → found ≡ slice_get rows place → rows_at rows (drop at places) ≡ cons_option found (rows_at rows (drop (at + 1) places))
  left found there =
      let e : at + 1 ≡ suc at = omega arith in
      ap (rows_at rows) (drop-cons places at d within)
      ∙ ap (λ o. cons_option o (rows_at rows (drop (suc at) places))) (sym there)
      ∙ ap (λ n. cons_option found (rows_at rows (drop n places))) (sym e)

  so_far : (found : Option R) → found ≡ slice_get rows place → rows_at rows (take (at + 1) places) ≡ rows_at rows (take at places) ++ cons_option found []
  so_far found there =
      ap (rows_at rows) (take_more places at d within)
      ∙ filter_map-append (slice_get rows) (take at places) (place ∷ [])
      ∙ ap (λ o. rows_at rows (take at places) ++ cons_option o []) (sym there)

  -- a place at which there is a row
  there_is : (row : R) → place < length rows → row ≡ get_or rows place row → Some row ≡ slice_get rows place
  there_is row lt e = sym (slice_get-get_or rows place row lt ∙ ap Some (sym e))

  pub left_row : (row : R) → place < length rows → row ≡ get_or rows place row → rows_at rows (drop at places) ≡ row ∷ rows_at rows (drop (at + 1) places)
  left_row row lt e = left (Some row) (there_is row lt e)

  pub so_far_row : (row : R) → place < length rows → row ≡ get_or rows place row → rows_at rows (take (at + 1) places) ≡ rows_at rows (take at places) ++ row ∷ []
  so_far_row row lt e = so_far (Some row) (there_is row lt e)

  -- and one at which there is none
  nothing : length rows ≤ place → None ≡ slice_get rows place
  nothing past = sym (slice_get_past rows place past)

  pub left_none : length rows ≤ place → rows_at rows (drop at places) ≡ rows_at rows (drop (at + 1) places)
  left_none past = left None (nothing past)

  pub so_far_none : length rows ≤ place → rows_at rows (take (at + 1) places) ≡ rows_at rows (take at places) ++ []
  so_far_none past = so_far None (nothing past)

-- what holds of all of them holds of each
pub row_has : {R : Type 0} (P : R → Type 0) (rows : List R) (places : List ℕ) (at : ℕ) (found : Option R)
    → rows_at rows (drop at places) ≡ cons_option found (rows_at rows (drop (at + 1) places)) → AllByRecursion P (rows_at rows places) → IfSome found P
row_has {R = R} P rows places at found is all = first found (subst (AllByRecursion P) is (all_left places at all))
  where
    all_left : (ps : List ℕ) (n : ℕ) → AllByRecursion P (rows_at rows ps) → AllByRecursion P (rows_at rows (drop n ps))
    all_left ps zero all = all
    all_left [] (suc n) all = all
    all_left (p ∷ ps) (suc n) all = all_left ps n (tail (slice_get rows p) all)
      where
        tail : (o : Option R) → AllByRecursion P (cons_option o (rows_at rows ps)) → AllByRecursion P (rows_at rows ps)
        tail None all = all
        tail (Some r) all = all.1

    first : (o : Option R) → AllByRecursion P (cons_option o (rows_at rows (drop (at + 1) places))) → IfSome o P
    first None all = tt
    first (Some r) all = all.0

-- the first row of what is left
pub first_found : {R : Type 0} (xs ys : List R) (r : R) → xs ≡ cons_option (Some r) ys → slice_get xs 0 ≡ Some r
first_found xs ys r e = ap (λ zs. slice_get zs 0) e

pub first_later : {R : Type 0} (xs ys : List R) → xs ≡ cons_option None ys → slice_get xs 0 ≡ slice_get ys 0
first_later xs ys e = ap (λ zs. slice_get zs 0) e

pub ruleset first_of = (first_found, first_later)
