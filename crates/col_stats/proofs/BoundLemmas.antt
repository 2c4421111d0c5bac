-- The least and the greatest of values, cell by cell and of two lists.
use Rattle.std.proofs.Common.{◌≡◌, ℕ, suc, ◌+◌, ◌≤◌, List, [], ◌∷◌, ◌++◌, length, Option, Some, None, Bool, true, false, not, ◌||◌, cond, get_or, IfSome, length-append, inl, inr, refl, sym, ap, ◌∙◌, append_assoc, arith}
use Rattle.std.proofs.lemmas.Bool.{or_parts, cases_Bool}
use Rattle.std.proofs.lemmas.List.Sums.{length-filter, sum_by-append}
use Rattle.std.proofs.lemmas.List.Filters.{length-filter_both}
use Rattle.std.specs.Prelude.{◌⊎◌, fold}
use Rattle.std.specs.List.{All, count_by}
use Rattle.std.specs.declared.cmp.Ordering.{Ordering}
use Rattle.std.specs.declared.cmp.Ordering.TheVariants.{Less, Equal, Greater}
use Rattle.std.proofs.lemmas.List.{append-nil}
use Rattle.std.proofs.lemmas.List.Elements.{All-append, All-contains, All-contains_itself, All-map, All-nil, All-cons, filter-append, Contains-append_left, Contains-append_right}
use Rattle.lake_types.specs.Cells.{cell_at}
use Rattle.lake_types.specs.Truth.{by_order, compared, is_true, order_of}
use Rattle.lake_types.specs.declared.pred.Op.TheVariants as op
use Rattle.lake_types.specs.declared.truth.Truth.{Truth}
use Rattle.lake_types.specs.declared.truth.Truth.TheVariants.{True, False, Unknown}
use Rattle.lake_types.specs.declared.value.ColType.{ColType}
use Rattle.lake_types.specs.declared.value.ColType.TheVariants as ty
use Rattle.lake_types.specs.declared.value.Column.{Column}
use Rattle.lake_types.specs.declared.value.Row.{Row}
use Rattle.lake_types.specs.declared.value.Value.{Value}
use Rattle.lake_types.specs.declared.value.Value.TheVariants as value
use Rattle.lake_types.proofs.ValueLemmas.{flips, transitive, only_equals_tie}
use Rattle.col_stats.specs.Bounds.{Bounds, IsBound, HasBound, HasText, cell_in, cells, is_short, is_value, kept, op_of, outer, outer_cell, value_in, values}
use Rattle.col_stats.specs.Stats.{Fits, HasCell, IsThere, MergesLists, is_null, merged, withholds}
use Rattle.col_stats.specs.declared.stats.ColStats.{ColStats}
use Rattle.col_stats.specs.declared.bounds.Side.{Side}
use Rattle.col_stats.specs.declared.bounds.Side.TheVariants as side

-- ---- one value against another

-- the values of a type that are not NULL
pub record IsOf (ty : ColType) (v : Value) : Type 0 where
  pub some : is_value v ≡ true
  pub fits : Fits ty v

-- two of them have an order
ordered : (ty : ColType) (a b : Value) → IsOf ty a → IsOf ty b → (o : Ordering) × (order_of a b ≡ Some o)
ordered ty (value.Bool a) (value.Bool b) h k = (_, refl)
ordered ty (value.Int a) (value.Int b) h k = (_, refl)
ordered ty (value.Text a) (value.Text b) h k = (_, refl)
ordered ty (value.Bytes a) (value.Bytes b) h k = (_, refl)
ordered ty (value.Date a) (value.Date b) h k = (_, refl)
ordered ty a b h k = absurd (grind (arith, h.some, k.some, h.fits, k.fits))

le_cases : (o : Option Ordering) → by_order op.Le o ≡ True → (o ≡ Some Less) ⊎ (o ≡ Some Equal)
le_cases None h = absurd (cc h)
le_cases (Some Less) h = inl refl
le_cases (Some Equal) h = inr refl
le_cases (Some Greater) h = absurd (cc h)

-- at most, where the other is at least
flip_up : (a b : Value) → Bounds side.Greatest a b → Bounds side.Least b a
flip_up a b h = go (order_of a b) refl h where
  go : (o : Option Ordering) → order_of a b ≡ o → by_order op.Ge o ≡ True → Bounds side.Least b a
  go None e h = absurd (cc h)
  go (Some Less) e h = absurd (cc h)
  go (Some Equal) e h = rw (flips a b Equal e) refl
  go (Some Greater) e h = rw (flips a b Greater e) refl

flip_down : (a b : Value) → Bounds side.Least a b → Bounds side.Greatest b a
flip_down a b h = go (order_of a b) refl h where
  go : (o : Option Ordering) → order_of a b ≡ o → by_order op.Le o ≡ True → Bounds side.Greatest b a
  go None e h = absurd (cc h)
  go (Some Less) e h = rw (flips a b Less e) refl
  go (Some Equal) e h = rw (flips a b Equal e) refl
  go (Some Greater) e h = absurd (cc h)

le_trans : (a b c : Value) → Bounds side.Least a b → Bounds side.Least b c → Bounds side.Least a c
le_trans a b c h k = go (le_cases (order_of a b) h) (le_cases (order_of b c) k) where
  go : (order_of a b ≡ Some Less) ⊎ (order_of a b ≡ Some Equal) → (order_of b c ≡ Some Less) ⊎ (order_of b c ≡ Some Equal) → Bounds side.Least a c
  go (inr e) f = rw (only_equals_tie a b e) k
  go (inl e) (inr f) = rw (sym (only_equals_tie b c f)) h
  go (inl e) (inl f) = rw (transitive a b c e f) refl

bounds_trans : (s : Side) (a b c : Value) → Bounds s a b → Bounds s b c → Bounds s a c
bounds_trans side.Least a b c h k = le_trans a b c h k
bounds_trans side.Greatest a b c h k = flip_down c a (le_trans c b a (flip_up b c k) (flip_up a b h))

-- of two values one bounds the other
bounds_other : (s : Side) (ty : ColType) (a b : Value) → IsOf ty a → IsOf ty b → is_true (compared (op_of s) (Some a) b) ≡ false → Bounds s b a
bounds_other s ty a b h k not = go s (ordered ty a b h k).0 (ordered ty a b h k).1 not where
  go : (s : Side) (o : Ordering) → order_of a b ≡ Some o → is_true (compared (op_of s) (Some a) b) ≡ false → Bounds s b a
  go side.Least Less e n = absurd (grind (arith, e, n))
  go side.Least Equal e n = absurd (grind (arith, e, n))
  go side.Least Greater e n = rw (flips a b Greater e) refl
  go side.Greatest Less e n = rw (flips a b Less e) refl
  go side.Greatest Equal e n = absurd (grind (arith, e, n))
  go side.Greatest Greater e n = absurd (grind (arith, e, n))

is_itself : (t : Truth) → is_true t ≡ true → t ≡ True
is_itself True h = refl
is_itself False h = absurd (cc h)
is_itself Unknown h = absurd (cc h)

-- ---- the bound of values, which is none only where there are none

abbrev pub HasOutermost : Side → List Value → Option Value → Type 0
HasOutermost s vs None = vs ≡ []
HasOutermost s vs (Some v) = IsBound s vs v

all_beyond : (s : Side) (vs : List Value) (a b : Value) → Bounds s a b → All (Bounds s b) vs → All (Bounds s a) vs
all_beyond s vs a b h k = λ i d lt. bounds_trans s a b _ h (k i d lt)

-- the outer one of the bounds of two lists bounds both
pub outer_bounds : (s : Side) (ty : ColType) (vs ws : List Value) (a b : Option Value) → All (IsOf ty) vs → All (IsOf ty) ws
    → HasOutermost s vs a → HasOutermost s ws b → HasOutermost s (vs ++ ws) (outer s a b)
outer_bounds s ty vs ws None b of1 of2 h k = rw h k
outer_bounds s ty vs ws (Some a) None of1 of2 h k = rw (k, append-nil vs) h
outer_bounds s ty vs ws (Some a) (Some b) of1 of2 h k = go (is_true (compared (op_of s) (Some a) b)) refl where
  go : (t : Bool) → is_true (compared (op_of s) (Some a) b) ≡ t → HasOutermost s (vs ++ ws) (outer s (Some a) (Some b))
  go true e = rw e (Contains-append_left vs ws a h.0, All-append (Bounds s a) vs ws h.1 (all_beyond s ws a b (is_itself _ e) k.1))
  go false e =
      let other = bounds_other s ty a b (All-contains (IsOf ty) vs a of1 h.0) (All-contains (IsOf ty) ws b of2 k.0) e in
      rw e (Contains-append_right vs ws b k.0, All-append (Bounds s b) vs ws (all_beyond s vs b a other h.1) k.1)

-- ---- the bound of cells, which a loop finds

bounds_self : (s : Side) (ty : ColType) (v : Value) → IsOf ty v → Bounds s v v
bounds_self s ty v h =
    elim (cases_Bool (is_true (compared (op_of s) (Some v) v))) [
      | inl is ↦ is_itself _ is
      | inr not ↦ bounds_other s ty v v h h not
    ]

only_bound : (s : Side) (ty : ColType) (v : Value) → IsOf ty v → IsBound s (v ∷ []) v
only_bound s ty v h = (All-contains_itself (v ∷ []) 0 v (omega arith), All-cons (Bounds s v) v [] (bounds_self s ty v h) (All-nil (Bounds s v)))

value_taken : (s : Side) (bound : Option Value) (v : Value) → is_value v ≡ true → outer_cell s bound v ≡ outer s bound (Some v)
value_taken s bound value.Null h = absurd (cc h)
value_taken s bound (value.Bool b) h = refl
value_taken s bound (value.Int n) h = refl
value_taken s bound (value.Text t) h = refl
value_taken s bound (value.Bytes t) h = refl
value_taken s bound (value.Date d) h = refl

null_left : (s : Side) (bound : Option Value) (v : Value) → is_value v ≡ false → outer_cell s bound v ≡ bound
null_left s bound value.Null h = refl
null_left s bound (value.Bool b) h = absurd (cc h)
null_left s bound (value.Int n) h = absurd (cc h)
null_left s bound (value.Text t) h = absurd (cc h)
null_left s bound (value.Bytes t) h = absurd (cc h)
null_left s bound (value.Date d) h = absurd (cc h)

pub values_are : (ty : ColType) (cells : List Value) → All (Fits ty) cells → All (IsOf ty) (values cells)
values_are ty [] all = All-nil (IsOf ty)
values_are ty (v ∷ cells) all =
    let rest = values_are ty cells (λ i d lt. all (suc i) d (omega arith)) in
    elim (cases_Bool (is_value v)) [
      | inl is ↦ rw is (All-cons (IsOf ty) v (values cells) (record { some = is; fits = all 0 v (omega arith) }) rest)
      | inr not ↦ rw not rest
    ]

cells_outermost : (s : Side) (ty : ColType) (front cells : List Value) (bound : Option Value) → All (IsOf ty) front → All (Fits ty) cells
    → HasOutermost s front bound → HasOutermost s (front ++ values cells) (fold (outer_cell s) bound cells)
cells_outermost s ty front [] bound of all h = rw (append-nil front) h
cells_outermost s ty front (v ∷ cells) bound of all h =
    let rest : All (Fits ty) cells = λ i d lt. all (suc i) d (omega arith) in
    elim (cases_Bool (is_value v)) [
      | inl is ↦
          let one : IsOf ty v = record { some = is; fits = all 0 v (omega arith) } in
          let ones : All (IsOf ty) (v ∷ []) = All-cons (IsOf ty) v [] one (All-nil (IsOf ty)) in
          let turn = outer_bounds s ty front (v ∷ []) bound (Some v) of ones h (only_bound s ty v one) in
          let more = cells_outermost s ty (front ++ v ∷ []) cells (outer s bound (Some v)) (All-append (IsOf ty) front (v ∷ []) of ones) rest turn in
          rw (is, value_taken s bound v is, sym (append_assoc front (v ∷ []) (values cells))) more
      | inr not ↦ rw (not, null_left s bound v not) (cells_outermost s ty front cells bound of rest h)
    ]

pub cells_bound : (s : Side) (ty : ColType) (cells : List Value) → All (Fits ty) cells → HasOutermost s (values cells) (fold (outer_cell s) None cells)
cells_bound s ty cells all = cells_outermost s ty [] cells None (All-nil (IsOf ty)) all refl

-- ---- what the catalogue keeps of it

pub kept_bound : (s : Side) (ty : ColType) (cells : List Value) (bound : Option Value) → All (Fits ty) cells → bound ≡ fold (outer_cell s) None cells
    → HasBound s (values cells) (kept bound)
kept_bound s ty cells bound all e = go bound (rw e (cells_bound s ty cells all)) where
  go : (b : Option Value) → HasOutermost s (values cells) b → HasBound s (values cells) (kept b)
  go None h = inl h
  go (Some v) h =
      elim (cases_Bool (is_short v)) [
        | inl is ↦ rw is (h, is)
        | inr not ↦ rw not (inr (v, h, not))
      ]

has_text : (ty : ColType) (v : Value) → IsOf ty v → HasText v
has_text ty value.Null h = absurd (cc h.some)
has_text ty (value.Bool b) h = ((λ e. cc e), refl)
has_text ty (value.Int n) h = ((λ e. cc e), refl)
has_text ty (value.Text t) h = ((λ e. cc e), refl)
has_text ty (value.Bytes t) h = ((λ e. cc e), refl)
has_text ty.Date (value.Date d) h = ((λ e. cc e), h.fits)
has_text ty (value.Date d) h = absurd (cc h.fits)

pub bound_has_text : (s : Side) (ty : ColType) (cells : List Value) (bound : Option Value) → All (Fits ty) cells → bound ≡ fold (outer_cell s) None cells
    → IfSome bound HasText
bound_has_text s ty cells bound all e = go bound (rw e (cells_bound s ty cells all)) where
  go : (b : Option Value) → HasOutermost s (values cells) b → IfSome b HasText
  go None h = tt
  go (Some v) h = has_text ty v (All-contains (IsOf ty) (values cells) v (values_are ty cells all) h.0)

pub kept_has_text : (bound : Option Value) → IfSome bound HasText → IfSome (kept bound) HasText
kept_has_text None h = tt
kept_has_text (Some v) h = elim (is_short v) as (λ b. IfSome (cond b (Some v) None) HasText) [ true ↦ h | false ↦ tt ]

-- each cell of the rows fits the column's type
cell_fits : (ty : ColType) (cell : Option Value) → IsThere ty cell → Fits ty (value_in cell)
cell_fits ty None h = absurd h
cell_fits ty (Some v) h = h

pub cells_fit : (column : Column) (rows : List Row) → All (HasCell column) rows → All (Fits column.ty) (cells column.field rows)
cells_fit column rows all =
    All-map (Fits column.ty) (cell_in column.field) rows (λ i d lt. cell_fits column.ty (cell_at (get_or rows i d).cells column.field) (all i d lt))

-- ---- two lists

abbrev pub IsShort : Option Value → Type 0
IsShort None = Unit {0}
IsShort (Some v) = is_short v ≡ true

null_or_value : (v : Value) → is_null v ≡ not (is_value v)
null_or_value value.Null = refl
null_or_value (value.Bool b) = refl
null_or_value (value.Int n) = refl
null_or_value (value.Text t) = refl
null_or_value (value.Bytes t) = refl
null_or_value (value.Date d) = refl

values_counted : (cells : List Value) → length (values cells) + count_by is_null cells ≡ length cells
values_counted cells =
    ap (λ (n : ℕ). length (values cells) + n) (sym (length-filter is_null cells)) ∙ length-filter_both is_value is_null null_or_value cells

no_values : (vs : List Value) → length vs ≡ 0 → vs ≡ []
no_values [] h = refl
no_values (v ∷ vs) h = absurd (omega (arith, h))

-- a bound that is not withheld is that of the values
told : (s : Side) (cells : List Value) (stats : ColStats) (x : Option Value) → stats.rows ≡ length cells → stats.nulls ≡ count_by is_null cells
    → HasBound s (values cells) x → withholds stats x ≡ false → HasOutermost s (values cells) x × IsShort x
told s cells stats (Some v) rows nulls h w = (h.0, h.1)
told s cells stats None rows nulls h w =
    let most : stats.rows ≤ stats.nulls = grind (arith, w) in
    let counted = values_counted cells in
    (no_values (values cells) (omega (arith, most, counted, rows, nulls)), tt)

outer_short : (s : Side) (a b : Option Value) → IsShort a → IsShort b → IsShort (outer s a b)
outer_short s None b h k = k
outer_short s (Some a) None h k = h
outer_short s (Some a) (Some b) h k =
    elim (cases_Bool (is_true (compared (op_of s) (Some a) b))) [
      | inl is ↦ rw is h
      | inr not ↦ rw not k
    ]

bound_of : (s : Side) (vs : List Value) (b : Option Value) → HasOutermost s vs b → IsShort b → HasBound s vs b
bound_of s vs None h k = inl h
bound_of s vs (Some v) h k = (h, k)

both_bound : (s : Side) (ty : ColType) (cells others : List Value) (a b : ColStats) (x y z : Option Value) → All (Fits ty) cells → All (Fits ty) others
    → a.rows ≡ length cells → a.nulls ≡ count_by is_null cells → b.rows ≡ length others → b.nulls ≡ count_by is_null others
    → HasBound s (values cells) x → HasBound s (values others) y → z ≡ merged s (withholds a x || withholds b y) x y
    → (withholds a x || withholds b y) ≡ false → HasBound s (values (cells ++ others)) z
both_bound s ty cells others a b x y z fit fits ar an br bn h k e w =
    let parts = or_parts (withholds a x) (withholds b y) w in
    let one = told s cells a x ar an h parts.0 in
    let two = told s others b y br bn k parts.1 in
    let outermost = outer_bounds s ty (values cells) (values others) x y (values_are ty cells fit) (values_are ty others fits) one.0 two.0 in
    let is : z ≡ outer s x y = e ∙ rw w refl in
    rw (is, filter-append is_value cells others) (bound_of s (values cells ++ values others) (outer s x y) outermost (outer_short s x y one.1 two.1))

nulls_of_both : (cells others : List Value) → count_by is_null (cells ++ others) ≡ count_by is_null cells + count_by is_null others
nulls_of_both cells others = sum_by-append (λ v. cond (is_null v) 1 0) cells others

pub merges_lists : MergesLists
merges_lists ty cells others a b c fit fits sa sb m = record {
  rows = m.rows ∙ rw (sa.rows, sb.rows, length-append cells others) refl;
  nulls = m.nulls ∙ rw (sa.nulls, sb.nulls) (sym (nulls_of_both cells others));
  min = λ w. both_bound side.Least ty cells others a b a.min b.min c.min fit fits sa.rows sa.nulls sb.rows sb.nulls sa.min sb.min m.min w;
  max = λ w. both_bound side.Greatest ty cells others a b a.max b.max c.max fit fits sa.rows sa.nulls sb.rows sb.nulls sa.max sb.max m.max w;
}
