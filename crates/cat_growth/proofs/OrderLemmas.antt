-- Rows in the order of their ids, where new ones come last.
use Rattle.std.proofs.Common.{◌≡◌, ℕ, ◌+◌, ◌<◌, ◌≤◌, Bool, true, false, cond, nat_lt, List, [], ◌∷◌, ◌++◌, refl, sym, ap, ◌∙◌, arith}
use Rattle.std.specs.List.{AllByRecursion}
use Rattle.std.proofs.lemmas.Bool.{le-ltb, lt-ltb, ltb-true}
use Rattle.std.proofs.lemmas.List.{append-nil}
use Rattle.lake_types.specs.declared.value.Row.{Row}
use Rattle.lake_model.specs.Apply.{Cells, numbered}
use Rattle.cat_view.specs.Named.{ordered, put_by}

abbrev pub id_of : Row → ℕ
id_of r = r.id

abbrev pub Below : ℕ → List Row → Type 0
Below limit rows = AllByRecursion (λ (r : Row). r.id < limit) rows

abbrev pub From : ℕ → List Row → Type 0
From start rows = AllByRecursion (λ (r : Row). start ≤ r.id) rows

-- a row below all of these goes before them
put_low : (r : Row) (limit : ℕ) (xs fs : List Row) → r.id < limit → From limit fs → put_by id_of r (xs ++ fs) ≡ put_by id_of r xs ++ fs
put_low r limit [] [] low from = refl
put_low r limit [] (f ∷ fs) low from = ap (λ b. cond b (f ∷ put_by id_of r fs) (r ∷ f ∷ fs)) (le-ltb f.id r.id (omega (arith, low, from.0)))
put_low r limit (x ∷ xs) fs low from = go (nat_lt x.id r.id) (put_low r limit xs fs low from)
  where
    go : (b : Bool) → put_by id_of r (xs ++ fs) ≡ put_by id_of r xs ++ fs → cond b (x ∷ put_by id_of r (xs ++ fs)) (r ∷ x ∷ (xs ++ fs)) ≡ cond b (x ∷ put_by id_of r xs) (r ∷ x ∷ xs) ++ fs
    go true more = ap (λ l. x ∷ l) more
    go false more = refl

-- rows that rise from a limit on, put among rows below it, stand behind them
pub ordered-last : (limit : ℕ) (xs fs : List Row) → Below limit xs → From limit fs → ordered id_of fs ≡ fs → ordered id_of (xs ++ fs) ≡ ordered id_of xs ++ fs
ordered-last limit [] fs low from up = up
ordered-last limit (x ∷ xs) fs low from up =
    ap (put_by id_of x) (ordered-last limit xs fs low.1 from up) ∙ put_low x limit (ordered id_of xs) fs low.0 from

all_put : (P : Row → Type 0) (r : Row) (xs : List Row) → P r → AllByRecursion P xs → AllByRecursion P (put_by id_of r xs)
all_put P r [] h all = (h, tt)
all_put P r (x ∷ xs) h all = go (nat_lt x.id r.id) (all_put P r xs h all.1)
  where
    go : (b : Bool) → AllByRecursion P (put_by id_of r xs) → AllByRecursion P (cond b (x ∷ put_by id_of r xs) (r ∷ x ∷ xs))
    go true more = (all.0, more)
    go false more = (h, all)

pub all_ordered : (P : Row → Type 0) (xs : List Row) → AllByRecursion P xs → AllByRecursion P (ordered id_of xs)
all_ordered P [] all = tt
all_ordered P (x ∷ xs) all = all_put P x (ordered id_of xs) all.0 (all_ordered P xs all.1)

-- and back: what holds of all in order holds of all
all_from_put : (P : Row → Type 0) (r : Row) (xs : List Row) → AllByRecursion P (put_by id_of r xs) → P r × AllByRecursion P xs
all_from_put P r [] all = (all.0, tt)
all_from_put P r (x ∷ xs) all = go (nat_lt x.id r.id) all (λ more. all_from_put P r xs more)
  where
    go : (b : Bool) → AllByRecursion P (cond b (x ∷ put_by id_of r xs) (r ∷ x ∷ xs)) → (AllByRecursion P (put_by id_of r xs) → P r × AllByRecursion P xs) → P r × AllByRecursion P (x ∷ xs)
    go true all more = let h = more all.1 in (h.0, (all.0, h.1))
    go false all more = (all.0, all.1)

pub all_from_ordered : (P : Row → Type 0) (xs : List Row) → AllByRecursion P (ordered id_of xs) → AllByRecursion P xs
all_from_ordered P [] all = tt
all_from_ordered P (x ∷ xs) all = let h = all_from_put P x (ordered id_of xs) all in (h.0, all_from_ordered P xs h.1)

-- two rows go to their places in any order
exchange : (g b : Row) (ys : List Row) → b.id < g.id → put_by id_of g (put_by id_of b ys) ≡ put_by id_of b (put_by id_of g ys)
exchange g b [] lt =
    ap (λ t. cond t (b ∷ g ∷ []) (g ∷ b ∷ [])) (lt-ltb b.id g.id lt) ∙ sym (ap (λ t. cond t (g ∷ b ∷ []) (b ∷ g ∷ [])) (le-ltb g.id b.id (omega (arith, lt))))
exchange g b (y ∷ ys) lt = go (nat_lt y.id b.id) refl (exchange g b ys lt)
  where
    first : (t : Bool) → nat_lt y.id g.id ≡ t → nat_lt y.id b.id ≡ false → b ∷ cond t (y ∷ put_by id_of g ys) (g ∷ y ∷ ys) ≡ put_by id_of b (cond t (y ∷ put_by id_of g ys) (g ∷ y ∷ ys))
    first true e high = sym (ap (λ t. cond t (y ∷ put_by id_of b (put_by id_of g ys)) (b ∷ y ∷ put_by id_of g ys)) high)
    first false e high = sym (ap (λ t. cond t (g ∷ put_by id_of b (y ∷ ys)) (b ∷ g ∷ y ∷ ys)) (le-ltb g.id b.id (omega (arith, lt))))

    go : (t : Bool) → nat_lt y.id b.id ≡ t → put_by id_of g (put_by id_of b ys) ≡ put_by id_of b (put_by id_of g ys)
        → put_by id_of g (cond t (y ∷ put_by id_of b ys) (b ∷ y ∷ ys)) ≡ put_by id_of b (put_by id_of g (y ∷ ys))
    go true e more =
        let low : y.id < b.id = ltb-true y.id b.id e in
        let lower : nat_lt y.id g.id ≡ true = lt-ltb y.id g.id (omega (arith, low, lt)) in
        ap (λ t. cond t (y ∷ put_by id_of g (put_by id_of b ys)) (g ∷ y ∷ put_by id_of b ys)) lower
        ∙ ap (λ l. y ∷ l) more
        ∙ sym (ap (λ t. cond t (y ∷ put_by id_of b (put_by id_of g ys)) (b ∷ y ∷ put_by id_of g ys)) e)
        ∙ sym (ap (λ t. put_by id_of b (cond t (y ∷ put_by id_of g ys) (g ∷ y ∷ ys))) lower)
    go false e more =
        ap (λ t. cond t (b ∷ put_by id_of g (y ∷ ys)) (g ∷ b ∷ y ∷ ys)) (lt-ltb b.id g.id lt)
        ∙ first (nat_lt y.id g.id) refl e

-- a row below goes before rows from the limit on, wherever it stands among them
moved : (limit : ℕ) (gs : List Row) (b : Row) (bs : List Row) → b.id < limit → From limit gs → ordered id_of (gs ++ b ∷ bs) ≡ put_by id_of b (ordered id_of (gs ++ bs))
moved limit [] b bs low from = refl
moved limit (g ∷ gs) b bs low from =
    ap (put_by id_of g) (moved limit gs b bs low from.1) ∙ exchange g b (ordered id_of (gs ++ bs)) (omega (arith, low, from.0))

swapped : (limit : ℕ) (gs bs : List Row) → Below limit bs → From limit gs → ordered id_of (gs ++ bs) ≡ ordered id_of (bs ++ gs)
swapped limit gs [] back from = ap (ordered id_of) (append-nil gs)
swapped limit gs (b ∷ bs) back from = moved limit gs b bs back.0 from ∙ ap (put_by id_of b) (swapped limit gs bs back.1 from)

-- New rows in the middle stand last.
pub ordered-middle : (limit : ℕ) (xs fs bs : List Row) → Below limit xs → Below limit bs → From limit fs → ordered id_of fs ≡ fs
    → ordered id_of ((xs ++ fs) ++ bs) ≡ ordered id_of (xs ++ bs) ++ fs
ordered-middle limit [] fs bs low back from up = swapped limit fs bs back from ∙ ordered-last limit bs fs back from up
ordered-middle limit (x ∷ xs) fs bs low back from up =
    ap (put_by id_of x) (ordered-middle limit xs fs bs low.1 back from up) ∙ put_low x limit (ordered id_of (xs ++ bs)) fs low.0 from

-- ---- rows with ids from a start on

pub numbered-from : (start : ℕ) (rows : List Cells) → From start (numbered start rows)
numbered-from start rows = above start start rows (omega arith)
  where
    above : (low start : ℕ) (rows : List Cells) → low ≤ start → From low (numbered start rows)
    above low start [] le = tt
    above low start (r ∷ rows) le = (le, above low (start + 1) rows (omega (arith, le)))

-- they stand in order
pub numbered-ordered : (start : ℕ) (rows : List Cells) → ordered id_of (numbered start rows) ≡ numbered start rows
numbered-ordered start [] = refl
numbered-ordered start (r ∷ rows) =
    ap (put_by id_of (record { id = start; cells = r })) (numbered-ordered (start + 1) rows) ∙ put_first (record { id = start; cells = r }) (start + 1) rows (omega arith)
  where
    put_first : (x : Row) (next : ℕ) (rows : List Cells) → x.id < next → put_by id_of x (numbered next rows) ≡ x ∷ numbered next rows
    put_first x next [] lt = refl
    put_first x next (r ∷ rows) lt = ap (λ b. cond b (record { id = next; cells = r } ∷ put_by id_of x (numbered (next + 1) rows)) (x ∷ record { id = next; cells = r } ∷ numbered (next + 1) rows)) (le-ltb next x.id (omega (arith, lt)))
