-- The loop that reads cells, one after the other.
use Rattle.std.proofs.Common.{◌≡◌, ℕ, zero, suc, ◌+◌, ◌-◌, ◌/◌, ◌%◌, ◌<◌, ◌≤◌, List, [], ◌∷◌, ◌++◌, Option, Some, None, Ok, Err, refl, sym, ap, ◌∙◌, append_assoc, arith}
use Rattle.std.proofs.lemmas.Bool.{le-ltb}
use Rattle.thrift_compact.specs.Shortest.{number_spelling}
use Rattle.lake_types.specs.declared.value.Value.{Value}
use Rattle.inline_rows.specs.Reading.{Cells, cells_in, cell_in, with_cell, at_end, place}

-- cells that were read, in front of the others
abbrev pub with_front : List (ℕ × Value) → Cells → Cells
with_front front (Ok cells) = Ok (front ++ cells)
with_front front (Err at) = Err at

with_front_cell : (front : List (ℕ × Value)) (cell : ℕ × Value) (cells : Cells) → with_front (front ++ cell ∷ []) cells ≡ with_front front (with_cell cell cells)
with_front_cell front cell (Ok cells) = ap Ok (append_assoc front (cell ∷ []) cells)
with_front_cell front cell (Err at) = refl

cells_step : (end count i : ℕ) (last : Option ℕ) (bytes : List ℕ) (cell : ℕ × Value) (rest : List ℕ) → i < count → cell_in last bytes ≡ Some (cell, rest)
    → cells_in end (count - i) last bytes ≡ with_cell cell (cells_in end (count - (i + 1)) (Some cell.0) rest)
unfolding cells_in
cells_step end count i last bytes cell rest lt e =
    let k : count - i ≡ suc (count - (i + 1)) = omega arith in
    rw (k, e) refl

pub cells_turn : (front : List (ℕ × Value)) (end count i : ℕ) (last : Option ℕ) (bytes : List ℕ) (cell : ℕ × Value) (rest : List ℕ) (all : Cells)
    → i < count → cell_in last bytes ≡ Some (cell, rest) → with_front front (cells_in end (count - i) last bytes) ≡ all
    → with_front (front ++ cell ∷ []) (cells_in end (count - (i + 1)) (Some cell.0) rest) ≡ all
cells_turn front end count i last bytes cell rest all lt e h =
    with_front_cell front cell (cells_in end (count - (i + 1)) (Some cell.0) rest)
    ∙ ap (with_front front) (sym (cells_step end count i last bytes cell rest lt e)) ∙ h

pub cells_stop : (front : List (ℕ × Value)) (end count i : ℕ) (last : Option ℕ) (bytes : List ℕ) (all : Cells)
    → i < count → cell_in last bytes ≡ None → with_front front (cells_in end (count - i) last bytes) ≡ all → all ≡ Err (place end bytes)
unfolding cells_in
cells_stop front end count i last bytes all lt e h =
    let k : count - i ≡ suc (count - (i + 1)) = omega arith in
    let stops : cells_in end (count - i) last bytes ≡ Err (place end bytes) = rw (k, e) refl in
    sym h ∙ ap (with_front front) stops

pub cells_done : (front : List (ℕ × Value)) (end count i : ℕ) (last : Option ℕ) (bytes : List ℕ) (all : Cells)
    → count ≤ i → with_front front (cells_in end (count - i) last bytes) ≡ all → all ≡ with_front front (at_end end bytes)
unfolding cells_in
cells_done front end count i last bytes all le h =
    let k : count - i ≡ 0 = omega arith in
    let done : cells_in end (count - i) last bytes ≡ at_end end bytes = rw k refl in
    sym h ∙ ap (with_front front) done

-- ---- the groups of a number that is written

groups_more : (most n : ℕ) → 0 < most → 128 ≤ n → number_spelling most n ≡ (128 + n % 128) ∷ number_spelling (most - 1) (n / 128)
unfolding number_spelling
groups_more zero n h le = absurd (omega arith)
groups_more (suc most) n h le =
    let back : suc most - 1 ≡ most = omega arith in
    rw (back, le-ltb n 128 le) refl

pub groups_pushed : (out new : List ℕ) (most n : ℕ) → 0 < most → 128 ≤ n → new ≡ (out ++ (128 + n % 128) ∷ []) ++ number_spelling (most - 1) (n / 128)
    → new ≡ out ++ number_spelling most n
groups_pushed out new most n h le e =
    e ∙ append_assoc out ((128 + n % 128) ∷ []) (number_spelling (most - 1) (n / 128)) ∙ ap (λ (x : List ℕ). out ++ x) (sym (groups_more most n h le))
