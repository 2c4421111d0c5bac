-- Rows in groups by the id of their owner.
use Rattle.std.proofs.Common.{◌≡◌, ℕ, zero, suc, ◌+◌, ◌<◌, ◌==◌, ◌||◌, Bool, true, false, cond, List, [], ◌∷◌, ◌++◌, length, get_or, set, take, replicate, filter, Option, Some, None, refl, sym, ap, ap₂, subst, ◌∙◌, true≢false, arith, is_eq, ⊎_elim, Less}
use Rattle.std.specs.List.{AllByRecursion, AllZip, list_any, cons_option, slice_get}
use Rattle.std.specs.Cmp.{unsigned_ties}
use Rattle.std.specs.Cmp.Lexicographic.{bytes_decides, lists_ties}
use Rattle.std.specs.Ordering.{nat_cmp}
use Rattle.std.proofs.lemmas.List.{append-nil, take_more}
use Rattle.std.proofs.Math.Seq.{take-length}
use Rattle.std.proofs.lemmas.Slice.Zip.{AllZip-long}
use Rattle.std.proofs.lemmas.List.Elements.{filter-append, filter_map-append}
use Rattle.std.proofs.lemmas.Option.{slice_get-get_or}
use Rattle.std.proofs.lemmas.Bool.{eq-eqb, eqb-true}
use Rattle.std.proofs.lemmas.Bool.Decides.{eqb_tells}
use Rattle.cat_tables.specs.Table.{IsBelow, LacksKey, RisesByKey, has_key, key_cmp}
use Rattle.cat_tables.proofs.KeyLemmas.{key_eq}
use Rattle.cat_view.specs.Groups.{IsGroup, IsGroupOf, id_key, is_owner, rows_at, rows_of, group_in, with_place}

-- ---- one id among others

one_id : (a b : ℕ) → a ∷ [] ≡ b ∷ [] → a ≡ b
one_id a b e = cc e

itself : (a : List ℕ) → is_eq (key_cmp a a) ≡ true
itself a = sym (lists_ties nat_cmp unsigned_ties a a) ∙ (bytes_decides a a).1 refl

-- an id is the owner's where it stands at its key, and nowhere else
owns : (k x : ℕ) → has_key id_key (id_key k) x ≡ true → is_owner x (Some k) ≡ true
owns k x h = eq-eqb k x (sym (one_id x k (key_eq (x ∷ []) (k ∷ []) h)))

owns_not : (k x : ℕ) → has_key id_key (id_key k) x ≡ false → is_owner x (Some k) ≡ false
owns_not k x h =
    ⊎_elim
    (λ same. absurd (true≢false (sym (subst (λ y. has_key id_key (id_key y) x ≡ true) (sym same.1) (itself (x ∷ []))) ∙ h)))
    (λ apart. apart.0)
    (eqb_tells k x)

-- an id below another is another one
other_id : (k id x : ℕ) → IsBelow id_key id x → has_key id_key (id_key k) id ≡ true → has_key id_key (id_key k) x ≡ true → ⊥
other_id k id x below here there =
    let one : x ∷ [] ≡ id ∷ [] = key_eq (x ∷ []) (k ∷ []) there ∙ sym (key_eq (id ∷ []) (k ∷ []) here) in
    true≢false (sym (itself (id ∷ [])) ∙ ap is_eq (subst (λ y. key_cmp (id ∷ []) y ≡ Less) one below))

lacks_above : (k id : ℕ) (ids : List ℕ) → has_key id_key (id_key k) id ≡ true → AllByRecursion (IsBelow id_key id) ids → LacksKey id_key (id_key k) ids
lacks_above k id [] here up = tt
lacks_above k id (x ∷ ids) here up = (go (has_key id_key (id_key k) x) refl, lacks_above k id ids here up.1)
  where
    go : (b : Bool) → has_key id_key (id_key k) x ≡ b → b ≡ false
    go false e = refl
    go true e = absurd (other_id k id x up.0 here e)

below_lacks : (k id x : ℕ) → IsBelow id_key id x → has_key id_key (id_key k) x ≡ true → has_key id_key (id_key k) id ≡ false
below_lacks k id x below there = go (has_key id_key (id_key k) id) refl
  where
    go : (b : Bool) → has_key id_key (id_key k) id ≡ b → b ≡ false
    go false e = refl
    go true e = absurd (other_id k id x below e there)

differs : (k x : ℕ) → has_key id_key (id_key k) x ≡ false → (x == k) ≡ false
differs k x h =
    ⊎_elim
    (λ same. absurd (true≢false (sym (subst (λ y. has_key id_key (id_key y) x ≡ true) same.1 (itself (x ∷ []))) ∙ h)))
    (λ apart. apart.0)
    (eqb_tells x k)

-- ---- one more place in a group

-- where no id is the owner's, the groups stay
pub none_owns : (place : ℕ) (ids : List ℕ) (groups : List (List ℕ)) → length groups ≡ length ids → with_place None place ids groups ≡ groups
none_owns place [] groups h = refl
none_owns place (id ∷ ids) [] h = refl
none_owns place (id ∷ ids) (g ∷ groups) h = ap (λ gs. g ∷ gs) (none_owns place ids groups (omega arith))

pub lacks_owner : (k place : ℕ) (ids : List ℕ) (groups : List (List ℕ)) → LacksKey id_key (id_key k) ids → length groups ≡ length ids → with_place (Some k) place ids groups ≡ groups
lacks_owner k place [] groups lacks h = refl
lacks_owner k place (id ∷ ids) [] lacks h = refl
lacks_owner k place (id ∷ ids) (g ∷ groups) lacks h =
    ap₂ ◌∷◌ (ap (λ b. cond b (g ++ place ∷ []) g) (owns_not k id lacks.0)) (lacks_owner k place ids groups lacks.1 (omega arith))

all_at : {X : Type 0} (P : X → Type 0) (xs : List X) (i : ℕ) (d : X) → AllByRecursion P xs → i < length xs → P (get_or xs i d)
all_at P [] i d h lt = absurd (omega arith)
all_at P (x ∷ xs) zero d h lt = h.0
all_at P (x ∷ xs) (suc i) d h lt = all_at P xs i d h.1 (omega arith)

-- and where one is, its group gains the place
pub has_owner : (k place at : ℕ) (ids : List ℕ) (groups : List (List ℕ)) (d : ℕ) (e : List ℕ) → RisesByKey id_key ids → at < length ids → has_key id_key (id_key k) (get_or ids at d) ≡ true
    → length groups ≡ length ids → with_place (Some k) place ids groups ≡ set groups at (get_or groups at e ++ place ∷ [])
has_owner k place at [] groups d e up lt here h = absurd (omega arith)
has_owner k place at (id ∷ ids) [] d e up lt here h = absurd (omega arith)
has_owner k place zero (id ∷ ids) (g ∷ groups) d e up lt here h =
    ap₂ ◌∷◌ (ap (λ b. cond b (g ++ place ∷ []) g) (owns k id here)) (lacks_owner k place ids groups (lacks_above k id ids here up.0) (omega arith))
has_owner k place (suc at) (id ∷ ids) (g ∷ groups) d e up lt here h =
    let apart = below_lacks k id (get_or ids at d) (all_at (IsBelow id_key id) ids at d up.0 (omega arith)) here in
    ap₂ ◌∷◌ (ap (λ b. cond b (g ++ place ∷ []) g) (owns_not k id apart)) (has_owner k place at ids groups d e up.1 (omega arith) here (omega arith))

-- ---- a loop's turn

-- the places of one owner's rows, with one row more
one_group : {R : Type 0} (owner : R → Option ℕ) (rows : List R) (n id : ℕ) (row : R) (places : List ℕ) → n < length rows → row ≡ get_or rows n row → IsGroupOf owner rows n id places
    → IsGroupOf owner rows (n + 1) id (cond (is_owner id (owner row)) (places ++ n ∷ []) places)
one_group owner rows n id row places lt is had =
    go (is_owner id (owner row)) refl
    ∙ sym (ap (rows_of owner id) (take_more rows n row lt ∙ ap (λ x. take n rows ++ x ∷ []) (sym is)) ∙ filter-append (λ r. is_owner id (owner r)) (take n rows) (row ∷ []))
  where
    there : slice_get rows n ≡ Some row
    there = slice_get-get_or rows n row lt ∙ ap Some (sym is)

    go : (b : Bool) → is_owner id (owner row) ≡ b → rows_at rows (cond b (places ++ n ∷ []) places) ≡ rows_of owner id (take n rows) ++ filter (λ r. is_owner id (owner r)) (row ∷ [])
    go true e =
        filter_map-append (slice_get rows) places (n ∷ [])
        ∙ ap₂ ◌++◌ had (ap (λ o. cons_option o []) there ∙ sym (ap (λ b. cond b (row ∷ []) []) e))
    go false e = had ∙ sym (ap (λ b. rows_of owner id (take n rows) ++ cond b (row ∷ []) []) e ∙ append-nil (rows_of owner id (take n rows)))

pub all_groups : {R : Type 0} (owner : R → Option ℕ) (rows : List R) (n : ℕ) (row : R) (ids : List ℕ) (groups : List (List ℕ)) → n < length rows → row ≡ get_or rows n row
    → AllZip (IsGroupOf owner rows n) ids groups → AllZip (IsGroupOf owner rows (n + 1)) ids (with_place (owner row) n ids groups)
all_groups owner rows n row [] [] lt is all = tt
all_groups owner rows n row [] (g ∷ groups) lt is all = absurd all
all_groups owner rows n row (id ∷ ids) [] lt is all = absurd all
all_groups owner rows n row (id ∷ ids) (g ∷ groups) lt is all = (one_group owner rows n id row g lt is all.0, all_groups owner rows n row ids groups lt is all.1)

pub no_groups : {R : Type 0} (owner : R → Option ℕ) (rows : List R) (ids : List ℕ) → AllZip (IsGroupOf owner rows 0) ids (replicate (length ids) [])
no_groups owner rows [] = tt
no_groups owner rows (id ∷ ids) = (refl, no_groups owner rows ids)

-- all rows were seen
pub whole_groups : {R : Type 0} (owner : R → Option ℕ) (rows : List R) (n : ℕ) (ids : List ℕ) (groups : List (List ℕ)) → n ≡ length rows → AllZip (IsGroupOf owner rows n) ids groups → AllZip (IsGroup owner rows) ids groups
whole_groups owner rows n [] [] e all = tt
whole_groups owner rows n [] (g ∷ groups) e all = absurd all
whole_groups owner rows n (id ∷ ids) [] e all = absurd all
whole_groups owner rows n (id ∷ ids) (g ∷ groups) e all =
    (all.0 ∙ ap (λ m. rows_of owner id (take m rows)) e ∙ ap (rows_of owner id) (take-length rows), whole_groups owner rows n ids groups e all.1)

pub as_many : {R : Type 0} (owner : R → Option ℕ) (rows : List R) (n : ℕ) (ids : List ℕ) (groups : List (List ℕ)) → AllZip (IsGroupOf owner rows n) ids groups → length groups ≡ length ids
as_many owner rows n ids groups all = AllZip-long (IsGroupOf owner rows n) ids groups all

-- ---- the group of an id

pub group_there : (k at : ℕ) (ids : List ℕ) (groups : List (List ℕ)) (d : ℕ) (e : List ℕ) → RisesByKey id_key ids → at < length ids → has_key id_key (id_key k) (get_or ids at d) ≡ true
    → length groups ≡ length ids → get_or groups at e ≡ group_in k ids groups
group_there k at [] groups d e up lt here h = absurd (omega arith)
group_there k at (x ∷ ids) [] d e up lt here h = absurd (omega arith)
group_there k zero (x ∷ ids) (g ∷ groups) d e up lt here h =
    sym (ap (λ b. cond b g (group_in k ids groups)) (eq-eqb x k (one_id x k (key_eq (x ∷ []) (k ∷ []) here))))
group_there k (suc at) (x ∷ ids) (g ∷ groups) d e up lt here h =
    let apart = below_lacks k x (get_or ids at d) (all_at (IsBelow id_key x) ids at d up.0 (omega arith)) here in
    group_there k at ids groups d e up.1 (omega arith) here (omega arith) ∙ sym (ap (λ b. cond b g (group_in k ids groups)) (differs k x apart))

pub group_lacking : (k : ℕ) (ids : List ℕ) (groups : List (List ℕ)) → LacksKey id_key (id_key k) ids → [] ≡ group_in k ids groups
group_lacking k [] groups lacks = refl
group_lacking k (x ∷ ids) [] lacks = refl
group_lacking k (x ∷ ids) (g ∷ groups) lacks = group_lacking k ids groups lacks.1 ∙ sym (ap (λ b. cond b g (group_in k ids groups)) (differs k x lacks.0))

-- a group has its owner's rows
pub group_has : {R : Type 0} (owner : R → Option ℕ) (rows : List R) (k : ℕ) (ids : List ℕ) (groups : List (List ℕ)) → list_any (λ id. id == k) ids ≡ true → AllZip (IsGroup owner rows) ids groups
    → rows_at rows (group_in k ids groups) ≡ rows_of owner k rows
group_has owner rows k [] groups known all = absurd (true≢false (sym known))
group_has owner rows k (x ∷ ids) [] known all = absurd all
group_has owner rows k (x ∷ ids) (g ∷ groups) known all = go (x == k) refl (λ more. group_has owner rows k ids groups more all.1)
  where
    go : (b : Bool) → (x == k) ≡ b → (list_any (λ id. id == k) ids ≡ true → rows_at rows (group_in k ids groups) ≡ rows_of owner k rows) → rows_at rows (cond b g (group_in k ids groups)) ≡ rows_of owner k rows
    go true e more = all.0 ∙ ap (λ id. rows_of owner id rows) (eqb-true x k e)
    go false e more = more (sym (ap (λ b. b || list_any (λ id. id == k) ids) e) ∙ known)

-- the same where rows, ids and groups have other names
pub grouped : {R : Type 0} (owner : R → Option ℕ) (all : List R) (k : ℕ) (ids : List ℕ) (groups : List (List ℕ)) → list_any (λ id. id == k) ids ≡ true → AllZip (IsGroup owner all) ids groups
    → (rows : List R) (is : List ℕ) (gs : List (List ℕ)) (places : List ℕ) → rows ≡ all → places ≡ group_in k is gs → is ≡ ids → gs ≡ groups → rows_at rows places ≡ rows_of owner k all
grouped owner all k ids groups known are rows is gs places r p i g =
    ap₂ rows_at r (p ∙ ap₂ (group_in k) i g) ∙ group_has owner all k ids groups known are

-- there are as many groups as ids
pub as_many_groups : {R : Type 0} (owner : R → Option ℕ) (all : List R) (ids : List ℕ) (groups : List (List ℕ)) → AllZip (IsGroup owner all) ids groups
    → (is : List ℕ) (gs : List (List ℕ)) → is ≡ ids → gs ≡ groups → length gs ≡ length is
as_many_groups owner all ids groups are is gs i g = ap length g ∙ AllZip-long (IsGroup owner all) ids groups are ∙ sym (ap length i)
