-- Cells, one turn of a loop at a time.
use Rattle.std.proofs.Common.{◌≡◌, ℕ, ◌+◌, ◌<◌, List, [], ◌∷◌, ◌++◌, All, Bool, true, length, drop, get_or, refl, sym, ap, ◌∙◌, append_assoc, add-one, drop-cons, arith}
use Rattle.std.proofs.lemmas.List.{append-nil}
use Rattle.std.proofs.lemmas.List.Elements.{All-head, All-tail}
use Rattle.std.proofs.Math.Seq.{drop-length}
use Rattle.lake_types.specs.declared.value.Value.{Value}
use Rattle.pq_file.specs.Cells.{spread}

pub spread_goes_on : (flags : List Bool) (front before after : List Value) (cell : Value) (i : ℕ) (flag : Bool) (total : List Value)
    → i < length flags → flag ≡ get_or flags i flag
    → ((more : List Bool) → spread (flag ∷ more) before ≡ cell ∷ spread more after)
    → front ++ spread (drop i flags) before ≡ total → (front ++ cell ∷ []) ++ spread (drop (i + 1) flags) after ≡ total
spread_goes_on flags front before after cell i flag total lt is next so_far =
    let one : drop i flags ≡ flag ∷ drop (i + 1) flags = rw add-one (rw (drop-cons flags i flag) (rw (← is) refl)) in
    let two : front ++ spread (drop i flags) before ≡ (front ++ cell ∷ []) ++ spread (drop (i + 1) flags) after =
    rw (one, next (drop (i + 1) flags)) (simp append_assoc) in
    sym two ∙ so_far

pub spread_ends : (flags : List Bool) (front values total : List Value) → front ++ spread (drop (length flags) flags) values ≡ total → front ≡ total
spread_ends flags front values total so_far =
    let one : front ++ spread (drop (length flags) flags) values ≡ front = rw drop-length (append-nil front) in
    sym one ∙ so_far

-- where each cell is a value, and there are no others, the values are the cells
pub spread_all : (flags : List Bool) (values : List Value) → length values ≡ length flags → All (λ flag. flag ≡ true) flags → spread flags values ≡ values
spread_all [] [] same all = refl
spread_all [] (v ∷ values) same all = cc
spread_all (flag ∷ flags) [] same all = cc
spread_all (flag ∷ flags) (v ∷ values) same all =
    let first : flag ≡ true = All-head (λ (f : Bool). f ≡ true) flag flags all in
    rw first (ap (λ (vs : List Value). v ∷ vs) (spread_all flags values (omega (arith, same)) (All-tail (λ (f : Bool). f ≡ true) flag flags all)))

pub ruleset spreading = (spread_goes_on, spread_ends)
