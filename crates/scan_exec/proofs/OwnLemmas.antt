-- The rows of an own list, change by change.
use Rattle.std.proofs.Common.{◌≡◌, ◌<◌, ◌+◌, ℕ, suc, List, [], ◌∷◌, ◌++◌, Option, drop, drop-cons, get_or, length, map, refl, sym, ap, ◌∙◌, append_assoc, arith}
use Rattle.std.specs.Prelude.{filter}
use Rattle.std.proofs.lemmas.List.{map-append}
use Rattle.std.proofs.lemmas.List.Elements.{filter-append}
use Rattle.lake_types.specs.declared.value.Column.{Column}
use Rattle.lake_types.specs.declared.value.Row.{Row}
use Rattle.lake_model.specs.Apply.{Cells}
use Rattle.lake_model.specs.Growth.{inserted_into, rows_for}
use Rattle.lake_model.specs.Rows.{SeenRow, places}
use Rattle.lake_model.specs.declared.change.Change.{Change}
use Rattle.lake_model.specs.declared.change.Ref.{Ref}
use Rattle.lake_model.specs.declared.change.RowRef.{RowRef}
use Rattle.pred.specs.declared.bound.Bound.{Bound}
use Rattle.scan_exec.specs.Chosen.{told_row}
use Rattle.scan_exec.specs.Own.{is_seen_chosen, own_row, own_rows, refs_told, rows_told}

own_rows-append : (columns : List Column) (next place : ℕ) (xs ys : List Cells) → own_rows columns next place (xs ++ ys) ≡ own_rows columns next place xs ++ own_rows columns next (place + length xs) ys
own_rows-append columns next place [] ys = ap (λ p. own_rows columns next p ys) (omega arith)
own_rows-append columns next place (x ∷ xs) ys =
    let same : place + 1 + length xs ≡ place + length (x ∷ xs) = omega arith in
    ap (λ l. own_row columns next place x ∷ l) (own_rows-append columns next (place + 1) xs ys ∙ ap (λ p. own_rows columns next (place + 1) xs ++ own_rows columns next p ys) same)

-- the rows of one change, and those of the changes behind it
turn : (columns : List Column) (next place : ℕ) (table : Ref) (own : List Change) (at : ℕ) (c : Change) → at < length own → c ≡ get_or own at c
    → own_rows columns next place (rows_for table (drop at own))
    ≡ own_rows columns next place (inserted_into table c) ++ own_rows columns next (place + length (inserted_into table c)) (rows_for table (drop (at + 1) own))
turn columns next place table own at c lt is =
    let after : at + 1 ≡ suc at = omega arith in
    let first : drop at own ≡ c ∷ drop (at + 1) own = drop-cons own at c lt ∙ rw (after, ← is) refl in
    ap (λ l. own_rows columns next place (rows_for table l)) first ∙ own_rows-append columns next place (inserted_into table c) (rows_for table (drop (at + 1) own))

pub rows_turn : (bound : Option Bound) (fields : List ℕ) (rows : List Row) (columns : List Column) (next place : ℕ) (table : Ref) (own : List Change) (at : ℕ) (c : Change) → at < length own → c ≡ get_or own at c
    → (rows ++ rows_told bound fields (own_rows columns next place (inserted_into table c))) ++ rows_told bound fields (own_rows columns next (place + length (inserted_into table c)) (rows_for table (drop (at + 1) own)))
    ≡ rows ++ rows_told bound fields (own_rows columns next place (rows_for table (drop at own)))
rows_turn bound fields rows columns next place table own at c lt is =
    let xs = own_rows columns next place (inserted_into table c) in
    let ys = own_rows columns next (place + length (inserted_into table c)) (rows_for table (drop (at + 1) own)) in
    append_assoc rows (rows_told bound fields xs) (rows_told bound fields ys)
    ∙ ap (λ l. rows ++ l) (sym (ap (rows_told bound fields) (turn columns next place table own at c lt is) ∙ ap (map (told_row fields)) (filter-append (is_seen_chosen bound) xs ys)
    ∙ map-append (told_row fields) (filter (is_seen_chosen bound) xs) (filter (is_seen_chosen bound) ys)))

pub refs_turn : (bound : Option Bound) (refs : List RowRef) (columns : List Column) (next place : ℕ) (table : Ref) (own : List Change) (at : ℕ) (c : Change) → at < length own → c ≡ get_or own at c
    → (refs ++ refs_told bound (own_rows columns next place (inserted_into table c))) ++ refs_told bound (own_rows columns next (place + length (inserted_into table c)) (rows_for table (drop (at + 1) own)))
    ≡ refs ++ refs_told bound (own_rows columns next place (rows_for table (drop at own)))
refs_turn bound refs columns next place table own at c lt is =
    let xs = own_rows columns next place (inserted_into table c) in
    let ys = own_rows columns next (place + length (inserted_into table c)) (rows_for table (drop (at + 1) own)) in
    append_assoc refs (refs_told bound xs) (refs_told bound ys)
    ∙ ap (λ l. refs ++ l) (sym (ap (refs_told bound) (turn columns next place table own at c lt is) ∙ ap places (filter-append (is_seen_chosen bound) xs ys)
    ∙ map-append (λ (r : SeenRow). r.at) (filter (is_seen_chosen bound) xs) (filter (is_seen_chosen bound) ys)))
