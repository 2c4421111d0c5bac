-- The truth of a test over a row, in three values.
use Rattle.std.specs.Prelude.{ℕ, Bool, true, false, not, List, Option, Some, None, fold}
use Rattle.std.specs.declared.cmp.Ordering.{Ordering}
use Rattle.std.specs.declared.cmp.Ordering.TheVariants.{Less, Equal, Greater}
use Rattle.std.specs.Ordering.{nat_cmp, int_cmp, bool_cmp}
use Rattle.std.specs.Cmp.Lexicographic.{slice_cmp}
use Rattle.lake_types.specs.declared.pred.Op.{Op}
use Rattle.lake_types.specs.declared.pred.Op.TheVariants as op
use Rattle.lake_types.specs.declared.pred.Pred.{Pred}
use Rattle.lake_types.specs.declared.pred.Pred.TheOpen.{Pred-F}
use Rattle.lake_types.specs.declared.pred.Pred.TheFolds.{fold-Pred}
use Rattle.lake_types.specs.declared.truth.Truth.{Truth}
use Rattle.lake_types.specs.declared.truth.Truth.TheVariants.{True, False, Unknown}
use Rattle.lake_types.specs.declared.value.Value.{Value}
use Rattle.lake_types.specs.declared.value.Value.TheVariants as value

-- the order of two values of one variant; none where a side is Null or the variants differ
abbrev pub order_of : Value → Value → Option Ordering
order_of (value.Bool a) (value.Bool b) = Some (bool_cmp a b)
order_of (value.Int a) (value.Int b) = Some (int_cmp a b)
order_of (value.Text a) (value.Text b) = Some (slice_cmp nat_cmp a b)
order_of (value.Bytes a) (value.Bytes b) = Some (slice_cmp nat_cmp a b)
order_of (value.Date a) (value.Date b) = Some (int_cmp a b)
order_of a b = None

abbrev pub truth_of : Bool → Truth
truth_of true = True
truth_of false = False

-- whether a comparison holds of two values in this order
abbrev pub holds : Op → Ordering → Bool
holds op.Eq Equal = true
holds op.Ne Less = true
holds op.Ne Greater = true
holds op.Lt Less = true
holds op.Le Less = true
holds op.Le Equal = true
holds op.Gt Greater = true
holds op.Ge Greater = true
holds op.Ge Equal = true
holds o c = false

-- without an order a comparison is Unknown
abbrev pub by_order : Op → Option Ordering → Truth
by_order o None = Unknown
by_order o (Some c) = truth_of (holds o c)

-- a cell that the row lacks counts as Null
abbrev pub compared : Op → Option Value → Value → Truth
compared o None literal = Unknown
compared o (Some cell) literal = by_order o (order_of cell literal)

-- whether IS NULL holds of a cell
abbrev pub is_null : Option Value → Bool
is_null None = true
is_null (Some value.Null) = true
is_null (Some v) = false

-- NOT, AND and OR of three values
abbrev pub not_of : Truth → Truth
not_of True = False
not_of False = True
not_of Unknown = Unknown

abbrev pub and_of : Truth → Truth → Truth
and_of False t = False
and_of t False = False
and_of True True = True
and_of s t = Unknown

abbrev pub or_of : Truth → Truth → Truth
or_of True t = True
or_of t True = True
or_of False False = False
or_of s t = Unknown

-- AND and OR of all parts; no parts are True, and False
abbrev pub all_of : List Truth → Truth
all_of = fold and_of True

abbrev pub any_of : List Truth → Truth
any_of = fold or_of False

-- one level of a test, with the truth of each part in its place
abbrev pub truth_at : (List ℕ → Option Value) → Pred-F Truth → Truth
truth_at cell (Pred-F.Compare name o literal) = compared o (cell name) literal
truth_at cell (Pred-F.IsNull name) = truth_of (is_null (cell name))
truth_at cell (Pred-F.NotNull name) = truth_of (not (is_null (cell name)))
truth_at cell (Pred-F.Not t) = not_of t
truth_at cell (Pred-F.And ts) = all_of ts
truth_at cell (Pred-F.Or ts) = any_of ts

-- the truth of a test, where this gives the cell of each name
abbrev pub truth : (List ℕ → Option Value) → Pred → Truth
truth cell = fold-Pred Truth (truth_at cell)

abbrev pub is_true : Truth → Bool
is_true True = true
is_true t = false

-- a row is chosen where its test is true, or where there is no test
abbrev pub chooses : Option Pred → (List ℕ → Option Value) → Bool
chooses None cell = true
chooses (Some test) cell = is_true (truth cell test)
