-- Where a group ends, one row at a time.
use Rattle.std.proofs.Common.{◌≡◌, ℕ, ◌+◌, ◌-◌, ◌≤◌, ◌<◌, List, [], ◌∷◌, true, false, length, drop, get_or, refl, sym, ap, ◌∙◌, arith}
use Rattle.std.specs.Prelude.{nat_eq}
use Rattle.std.proofs.lemmas.List.{drop_all, drop_more}
use Rattle.std.proofs.lemmas.List.FromFn.{get_or-map-range_with_len, length-map-range_with_len}
use Rattle.lake_types.specs.declared.sheet.SheetColumn.{SheetColumn}
use Rattle.pq_file.specs.Cuts.{cuts, cuts_behind, is_full, row_weight, row_weights}

pub next_weight : (columns : List SheetColumn) (rows row : ℕ) → row < rows → drop row (row_weights columns rows) ≡ row_weight columns row ∷ drop (row + 1) (row_weights columns rows)
next_weight columns rows row lt =
    let long : row < length (row_weights columns rows) = omega (arith, length-map-range_with_len (row_weight columns) 0 rows) in
    let here : get_or (row_weights columns rows) row 0 ≡ row_weight columns row = get_or-map-range_with_len (row_weight columns) 0 rows row row 0 lt (omega arith) in
    drop_more (row_weights columns rows) row 0 long ∙ ap (λ (w : ℕ). w ∷ drop (row + 1) (row_weights columns rows)) here

pub no_weight : (columns : List SheetColumn) (rows : ℕ) → drop rows (row_weights columns rows) ≡ []
no_weight columns rows = drop_all rows (row_weights columns rows) (omega (arith, length-map-range_with_len (row_weight columns) 0 rows))

open_cut : (n w next : ℕ) (more : List ℕ) → is_full (n + 1) (w + next) ≡ false → cuts_behind n w (next ∷ more) ≡ cuts_behind (n + 1) (w + next) more
open_cut n w next more h = rw h refl

whole_cut : (n w next : ℕ) (more : List ℕ) → is_full (n + 1) (w + next) ≡ true → cuts_behind n w (next ∷ more) ≡ (n + 1) ∷ cuts_behind 0 0 more
whole_cut n w next more h = rw h refl

last_cut : (n w : ℕ) → 0 < n → cuts_behind n w [] ≡ n ∷ []
last_cut n w some = let not_none : nat_eq n 0 ≡ false = grind (arith, some) in rw not_none refl

pub cut_goes_on : (columns : List SheetColumn) (rows first row weight next more : ℕ) (total : List ℕ) → first ≤ row → row < rows → next ≡ row_weight columns row → more ≡ weight + next
    → is_full (row + 1 - first) more ≡ false
    → cuts_behind (row - first) weight (drop row (row_weights columns rows)) ≡ total → cuts_behind (row + 1 - first) more (drop (row + 1) (row_weights columns rows)) ≡ total
cut_goes_on columns rows first row weight next more total le lt is sum goes so_far =
    let one_more : row + 1 - first ≡ row - first + 1 = omega arith in
    let left : is_full (row - first + 1) (weight + row_weight columns row) ≡ false = rw (← one_more, ← is, ← sum) goes in
    let step = open_cut (row - first) weight (row_weight columns row) (drop (row + 1) (row_weights columns rows)) left in
    let here = ap (λ (ws : List ℕ). cuts_behind (row - first) weight ws) (next_weight columns rows row lt) in
    rw (one_more, sum, is) (sym step ∙ sym here ∙ so_far)

pub cut_ends : (columns : List SheetColumn) (rows first row weight next more count : ℕ) (total : List ℕ) → first ≤ row → row < rows → next ≡ row_weight columns row → more ≡ weight + next
    → count ≡ row + 1 - first → is_full count more ≡ true
    → cuts_behind (row - first) weight (drop row (row_weights columns rows)) ≡ total → total ≡ count ∷ cuts (drop (first + count) (row_weights columns rows))
cut_ends columns rows first row weight next more count total le lt is sum size full so_far =
    let one_more : count ≡ row - first + 1 = omega arith in
    let end : first + count ≡ row + 1 = omega arith in
    let left : is_full (row - first + 1) (weight + row_weight columns row) ≡ true = rw (← one_more, ← is, ← sum) full in
    let step = whole_cut (row - first) weight (row_weight columns row) (drop (row + 1) (row_weights columns rows)) left in
    let here = ap (λ (ws : List ℕ). cuts_behind (row - first) weight ws) (next_weight columns rows row lt) in
    rw (end, one_more) (sym so_far ∙ here ∙ step)

pub cut_last : (columns : List SheetColumn) (rows first weight : ℕ) (total : List ℕ) → first < rows
    → cuts_behind (rows - first) weight (drop rows (row_weights columns rows)) ≡ total → total ≡ (rows - first) ∷ cuts (drop (first + (rows - first)) (row_weights columns rows))
cut_last columns rows first weight total lt so_far =
    let end : first + (rows - first) ≡ rows = omega arith in
    let none = no_weight columns rows in
    let step = last_cut (rows - first) weight (omega arith) in
    rw (end, none) (sym so_far ∙ ap (λ (ws : List ℕ). cuts_behind (rows - first) weight ws) none ∙ step)

pub ruleset cutting = (cut_goes_on, cut_ends, cut_last)
