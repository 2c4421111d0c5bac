-- Pieces that are appended one after the other.
use Rattle.std.proofs.Common.{◌≡◌, ℕ, ◌+◌, ◌<◌, ◌≤◌, List, [], ◌∷◌, ◌++◌, length, drop, take, get_or, refl, sym, ap, ◌∙◌, append_assoc, add-one, drop-cons}
use Rattle.std.specs.Prelude.{All}
use Rattle.std.specs.List.{flat_map}
use Rattle.std.proofs.lemmas.List.Elements.{All-more}
use Rattle.std.proofs.lemmas.List.{append-nil, take_all}
use Rattle.std.proofs.Math.Seq.{drop-length}
use Rattle.pq_meta.specs.declared.meta.MetaColumn.{MetaColumn}
use Rattle.pq_meta.specs.Consistency.{IsNamed}

pub ruleset pieces = (append_assoc)

-- a turn of a loop that appends a piece for each item
pub row_goes_on : {A : Type 0} (spell : A → List ℕ) (items : List A) (i : ℕ) (item : A) (out now total : List ℕ) → i < length items → item ≡ get_or items i item
    → now ≡ out ++ spell item → out ++ flat_map spell (drop i items) ≡ total → now ++ flat_map spell (drop (i + 1) items) ≡ total
row_goes_on spell items i item out now total lt is made so_far =
    let one : flat_map spell (drop i items) ≡ spell item ++ flat_map spell (drop (i + 1) items) = rw add-one (rw (drop-cons items i item) (rw (← is) refl)) in
    rw made (append_assoc out (spell item) (flat_map spell (drop (i + 1) items)) ∙ ap (λ (x : List ℕ). out ++ x) (sym one) ∙ so_far)

pub row_ends : {A : Type 0} (spell : A → List ℕ) (items : List A) (out total : List ℕ) → out ++ flat_map spell (drop (length items) items) ≡ total → out ≡ total
row_ends spell items out total so_far =
    let one : out ++ flat_map spell (drop (length items) items) ≡ out = rw drop-length (append-nil out) in
    sym one ∙ so_far

pub ruleset rows = (row_goes_on, row_ends)

-- the names that were written are texts
pub texts_more : (columns : List MetaColumn) (i : ℕ) (column : MetaColumn) → i < length columns → column ≡ get_or columns i column → IsNamed column
    → All IsNamed (take i columns) → All IsNamed (take (i + 1) columns)
texts_more columns i column lt is text so_far = All-more IsNamed columns i column lt so_far (rw (← is) text)

pub texts_end : (columns : List MetaColumn) (i : ℕ) → length columns ≤ i → All IsNamed (take i columns) → All IsNamed columns
texts_end columns i le texts = rw (take_all i columns le) at texts
