-- The first fault of a new table's columns.
use Rattle.std.proofs.Common.{◌≡◌, ℕ, suc, ◌+◌, ◌<◌, List, [], ◌∷◌, ◌++◌, length, take, drop, get_or, reverse, refl, sym, ap, ◌∙◌, Bool, true, false, drop-cons, arith}
use Rattle.std.specs.Prelude.{◌||◌, Some, None}
use Rattle.std.specs.List.{list_any}
use Rattle.std.proofs.lemmas.List.{reverse-append, take_more}
use Rattle.std.proofs.lemmas.List.Folds.{list_any-append}
use Rattle.lake_types.specs.declared.stmt.ColumnDef.{ColumnDef}
use Rattle.lake_model.specs.Clashes.{same_name}
use Rattle.lake_model.specs.declared.answer.Answer.{Answer}
use Rattle.lake_model.specs.Plans.{new_column_fault, new_columns_fault}

or-turned : (a b : Bool) → (a || (b || false)) ≡ (b || a)
or-turned true true = refl
or-turned true false = refl
or-turned false true = refl
or-turned false false = refl

any-reversed : {X : Type 0} (p : X → Bool) (xs : List X) → list_any p (reverse xs) ≡ list_any p xs
any-reversed p [] = refl
any-reversed p (x ∷ xs) =
    ap (list_any p) (reverse-append (x ∷ []) xs) ∙ list_any-append p (reverse xs) (x ∷ []) ∙ ap (λ b. b || (p x || false)) (any-reversed p xs) ∙ or-turned (list_any p xs) (p x)

-- the columns before one count in any order
before-reversed : (before : List ColumnDef) (def : ColumnDef) → new_column_fault (reverse before) def ≡ new_column_fault before def
before-reversed before def = rw (any-reversed (λ (b : ColumnDef). same_name b.name def.name) before) refl

-- the rest decides after a column without fault
pub fault_turn : (defs : List ColumnDef) (i : ℕ) (def : ColumnDef) → i < length defs → def ≡ get_or defs i def → new_column_fault (take i defs) def ≡ None
    → new_columns_fault (reverse (take i defs)) (drop i defs) ≡ new_columns_fault (reverse (take (i + 1) defs)) (drop (i + 1) defs)
fault_turn defs i def lt is none =
    let next : suc i ≡ i + 1 = omega arith in
    let here : drop i defs ≡ def ∷ drop (i + 1) defs =
    drop-cons defs i def lt ∙ ap (λ (d : ColumnDef). d ∷ drop (suc i) defs) (sym is) ∙ ap (λ (n : ℕ). def ∷ drop n defs) next in
    let more : take (i + 1) defs ≡ take i defs ++ def ∷ [] = take_more defs i def lt ∙ ap (λ (d : ColumnDef). take i defs ++ d ∷ []) (sym is) in
    let turned : reverse (take (i + 1) defs) ≡ def ∷ reverse (take i defs) = ap reverse more ∙ reverse-append (take i defs) (def ∷ []) in
    let faultless : new_column_fault (reverse (take i defs)) def ≡ None = before-reversed (take i defs) def ∙ none in
    rw (turned, here, faultless) refl

-- the first fault is that of a column that has one
pub fault_found : (defs : List ColumnDef) (i : ℕ) (def : ColumnDef) (a : Answer) → i < length defs → def ≡ get_or defs i def → new_column_fault (take i defs) def ≡ Some a
    → new_columns_fault (reverse (take i defs)) (drop i defs) ≡ Some a
fault_found defs i def a lt is some =
    let here : drop i defs ≡ def ∷ drop (suc i) defs = drop-cons defs i def lt ∙ ap (λ (d : ColumnDef). d ∷ drop (suc i) defs) (sym is) in
    let fault : new_column_fault (reverse (take i defs)) def ≡ Some a = before-reversed (take i defs) def ∙ some in
    rw (here, fault) refl
