-- The places of a delete file.
use Rattle.std.proofs.Common.{◌≡◌, ◌<◌, ◌+◌, ◌++◌, ◌&&◌, ◌==◌, ℕ, Bool, true, false, cond, List, [], ◌∷◌, length, take, get_or, Some, None, refl, sym, ap, subst, ◌∙◌}
use Rattle.std.specs.List.{filter_map}
use Rattle.std.proofs.lemmas.List.{append-nil, take_more}
use Rattle.std.proofs.lemmas.List.Elements.{filter_map-append}
use Rattle.lake_types.specs.declared.value.Value.{Value}
use Rattle.field_map.specs.Laid.{column_of}
use Rattle.sheet_rows.specs.Laws.{PlacesRise}
use Rattle.sheet_rows.specs.Live.{are_numbers, names_only, number_in, path_field, place_field, places_in, rise_within}
use Rattle.sheet_rows.proofs.PlaceLemmas.{all_below, all_rise}

-- where places are told, they rise
pub rising : (a b c d : Bool) (xs ys : List ℕ) → cond (a && (b && (c && d))) (Some xs) None ≡ Some ys → (d ≡ true) × (xs ≡ ys)
rising true true true true xs ys e = (refl, cc)
rising true true true false xs ys e = absurd (cc e)
rising true true false d xs ys e = absurd (cc e)
rising true false c d xs ys e = absurd (cc e)
rising false b c d xs ys e = absurd (cc e)

pub places_rise : PlacesRise
places_rise stated sheet places e =
    let told = rising (sheet.rows == stated.count) (names_only stated.path (column_of sheet.columns path_field)) (are_numbers (column_of sheet.columns place_field)) (rise_within 0 stated.rows (places_in sheet))
    (places_in sheet) places e in
    let rise : rise_within 0 stated.rows places ≡ true = subst (λ ns. rise_within 0 stated.rows ns ≡ true) told.1 told.0 in
    (all_rise 0 stated.rows places rise, all_below 0 stated.rows places rise)

-- the numbers of one more cell
numbers_more : (cells : List Value) (at : ℕ) (cell : Value) → at < length cells → cell ≡ get_or cells at cell
    → filter_map number_in (take (at + 1) cells) ≡ filter_map number_in (take at cells) ++ filter_map number_in (cell ∷ [])
numbers_more cells at cell lt is =
    ap (filter_map number_in) (take_more cells at cell lt ∙ ap (λ c. take at cells ++ c ∷ []) (sym is)) ∙ filter_map-append number_in (take at cells) (cell ∷ [])

pub some_more : (cells : List Value) (at number : ℕ) (cell : Value) → at < length cells → cell ≡ get_or cells at cell → number_in cell ≡ Some number
    → filter_map number_in (take (at + 1) cells) ≡ filter_map number_in (take at cells) ++ number ∷ []
some_more cells at number cell lt is has = numbers_more cells at cell lt is ∙ rw has refl

pub none_more : (cells : List Value) (at : ℕ) (cell : Value) → at < length cells → cell ≡ get_or cells at cell → number_in cell ≡ None
    → filter_map number_in (take (at + 1) cells) ≡ filter_map number_in (take at cells)
none_more cells at cell lt is has = numbers_more cells at cell lt is ∙ rw has (append-nil (filter_map number_in (take at cells)))

pub ruleset more = (some_more, none_more)
