-- Rows that are picked one by one.
use Rattle.std.proofs.Common.{◌≡◌, ◌<◌, ◌≤◌, ◌+◌, ℕ, suc, Bool, true, false, cond, List, [], ◌∷◌, ◌++◌, Option, drop, drop-cons, get_or, length, map, refl, sym, ap, ap₂, ◌∙◌, append_assoc, append-nil, arith}
use Rattle.std.proofs.Math.ListN.{drop_of_length-le}
use Rattle.std.specs.Prelude.{option_and_then, filter}
use Rattle.std.proofs.lemmas.List.{get_or_default, get_or-map, length-map}
use Rattle.std.proofs.lemmas.Option.{slice_get-get_or}
use Rattle.lake_types.specs.Cells.{cell_at}
use Rattle.lake_types.specs.declared.value.Row.{Row}
use Rattle.lake_types.specs.declared.value.Value.{Value}
use Rattle.pred.specs.declared.bound.Bound.{Bound}
use Rattle.scan_exec.specs.Picking.{cell_in, is_chosen, row_if_chosen, short_row, short_rows}

-- one row, and those that are left
one_row : (bound : Option Bound) (fields : List ℕ) (r : Row) (more : List Row)
    → row_if_chosen bound fields r.id (cell_at r.cells) ++ short_rows bound fields more ≡ short_rows bound fields (r ∷ more)
one_row bound fields r more = go (is_chosen bound r)
  where
    go : (b : Bool) → cond b (short_row fields r ∷ []) [] ++ short_rows bound fields more ≡ map (short_row fields) (cond b (r ∷ filter (is_chosen bound) more) (filter (is_chosen bound) more))
    go true = refl
    go false = refl

turn : (bound : Option Bound) (fields : List ℕ) (rows xs : List Row) (at : ℕ) (r : Row) → at < length xs → r ≡ get_or xs at r
    → (rows ++ row_if_chosen bound fields r.id (cell_at r.cells)) ++ short_rows bound fields (drop (suc at) xs) ≡ rows ++ short_rows bound fields (drop at xs)
turn bound fields rows xs at r lt is =
    append_assoc rows (row_if_chosen bound fields r.id (cell_at r.cells)) (short_rows bound fields (drop (suc at) xs))
    ∙ ap (λ l. rows ++ l) (one_row bound fields r (drop (suc at) xs)
    ∙ ap (short_rows bound fields) (ap (λ (x : Row). x ∷ drop (suc at) xs) is ∙ sym (drop-cons xs at r lt)))

-- the same where the rows lie behind others
pub turn_map : {A : Type 0} (f : A → Row) (bound : Option Bound) (fields : List ℕ) (rows : List Row) (xs : List A) (at : ℕ) (x : A) → at < length xs → x ≡ get_or xs at x
    → (rows ++ row_if_chosen bound fields (f x).id (cell_at (f x).cells)) ++ short_rows bound fields (drop (at + 1) (map f xs)) ≡ rows ++ short_rows bound fields (drop at (map f xs))
turn_map f bound fields rows xs at x lt is =
    let next : at + 1 ≡ suc at = omega arith in
    rw next (turn bound fields rows (map f xs) at (f x) (omega (arith, length-map xs f, lt)) (ap f is ∙ sym (get_or-map f xs at x (f x) lt)))

-- a row by its number
pub cells_in : (xs : List Row) (at : ℕ) (d : Row) → at < length xs → cell_in xs at ≡ cell_at (get_or xs at d).cells
cells_in xs at d lt =
    let cell : Option Row → ℕ → Option Value = λ o field. option_and_then (λ (r : Row). cell_at r.cells field) o in
    ap cell (slice_get-get_or xs at d lt)

pub turn_at : (bound : Option Bound) (fields : List ℕ) (rows xs : List Row) (at id : ℕ) (d : Row) → at < length xs → id ≡ (get_or xs at d).id
    → (rows ++ row_if_chosen bound fields id (cell_in xs at)) ++ short_rows bound fields (drop (at + 1) xs) ≡ rows ++ short_rows bound fields (drop at xs)
turn_at bound fields rows xs at id d lt is =
    let next : at + 1 ≡ suc at = omega arith in
    rw next (ap₂ (λ n (cell : ℕ → Option Value). (rows ++ row_if_chosen bound fields n cell) ++ short_rows bound fields (drop (suc at) xs)) is (cells_in xs at d lt)
    ∙ turn bound fields rows xs at (get_or xs at d) lt (get_or_default xs at d (get_or xs at d) lt))

-- past the last row nothing is left
pub all_told : (bound : Option Bound) (fields : List ℕ) (rows xs : List Row) (at : ℕ) → length xs ≤ at → rows ++ short_rows bound fields (drop at xs) ≡ rows
all_told bound fields rows xs at past = ap (λ l. rows ++ short_rows bound fields l) (drop_of_length-le xs past) ∙ append-nil rows
