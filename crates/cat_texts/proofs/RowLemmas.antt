-- A row spells one column and one column's statistics, and what is written for statistics tells them.
use Rattle.std.proofs.Common.{◌≡◌, ℕ, Bool, List, Option, Some, None, refl, sym, ap, subst, ◌∙◌}
use Rattle.std.specs.Prelude.{All, IfSome}
use Rattle.std.proofs.lemmas.List.Elements.{All-contains}
use Rattle.col_stats.specs.Bounds.{HasBound, bound_text, values}
use Rattle.col_stats.specs.declared.bounds.Side.{Side}
use Rattle.col_stats.specs.declared.bounds.Side.TheVariants as side
use Rattle.col_stats.specs.declared.stats.ColStats.{ColStats}
use Rattle.lake_types.proofs.ValueLemmas.{one_value}
use Rattle.lake_types.specs.declared.value.ColType.{ColType}
use Rattle.lake_types.specs.declared.value.Column.{Column}
use Rattle.lake_types.specs.declared.value.Value.{Value}
use Rattle.cat_texts.specs.Laws.{BoundsHaveTexts, CanBeText, ReadsStatsBack, SpellsOneColumn, TellsOneStats}
use Rattle.cat_texts.specs.Spelled.{IsBoundOf, IsValueOf}
use Rattle.cat_texts.proofs.TypeLemmas.{own_texts}

-- ---- one value, one bound

one_default : (t : ColType) (text : Option (List ℕ)) (a b : Value) → IsValueOf t text a → IsValueOf t text b → a ≡ b
one_default t None a b h k = h ∙ sym k
one_default t (Some text) a b h k = one_value t a b text h k

one_bound : (t : ColType) (text : Option (List ℕ)) (a b : Option Value) → IsBoundOf t text a → IsBoundOf t text b → a ≡ b
one_bound t None a b h k = h ∙ sym k
one_bound t (Some text) None b h k = absurd h
one_bound t (Some text) (Some a) None h k = absurd k
one_bound t (Some text) (Some a) (Some b) h k = ap Some (one_value t a b text h k)

column_of : (field : ℕ) (name : List ℕ) (ty : ColType) (initial default : Value) (nulls : Bool) → Column
column_of field name ty initial default nulls = record { field = field; name = name; ty = ty; initial = initial; default_value = default; nulls = nulls }

column-of : (c : Column) → column_of c.field c.name c.ty c.initial c.default_value c.nulls ≡ c
unfolding column_of
column-of c = refl

pub one_column : SpellsOneColumn
one_column row a b h k =
    let ty : a.ty ≡ b.ty = own_texts a.ty b.ty (h.ty ∙ sym k.ty) in
    let field : a.field ≡ b.field = h.field ∙ sym k.field in
    let name : a.name ≡ b.name = h.name ∙ sym k.name in
    let nulls : a.nulls ≡ b.nulls = h.nulls ∙ sym k.nulls in
    let initial : a.initial ≡ b.initial =
    one_default b.ty row.initial_default a.initial b.initial (subst (λ (t : ColType). IsValueOf t row.initial_default a.initial) ty h.initial) k.initial in
    let default : a.default_value ≡ b.default_value =
    one_default b.ty row.default_value a.default_value b.default_value (subst (λ (t : ColType). IsValueOf t row.default_value a.default_value) ty h.default_value) k.default_value in
    let same : column_of a.field a.name a.ty a.initial a.default_value a.nulls ≡ column_of b.field b.name b.ty b.initial b.default_value b.nulls = cc in
    sym (column-of a) ∙ same ∙ column-of b

stats_of : (field rows nulls : ℕ) (min max : Option Value) → ColStats
stats_of field rows nulls min max = record { field = field; rows = rows; nulls = nulls; min = min; max = max }

stats-of : (s : ColStats) → stats_of s.field s.rows s.nulls s.min s.max ≡ s
unfolding stats_of
stats-of s = refl

pub one_stats : TellsOneStats
one_stats ty rows row a b h k =
    let field : a.field ≡ b.field = h.field ∙ sym k.field in
    let count : a.rows ≡ b.rows = h.rows ∙ sym k.rows in
    let nulls : a.nulls ≡ b.nulls = h.nulls ∙ sym k.nulls in
    let min : a.min ≡ b.min = one_bound ty row.min_value a.min b.min h.min k.min in
    let max : a.max ≡ b.max = one_bound ty row.max_value a.max b.max h.max k.max in
    let same : stats_of a.field a.rows a.nulls a.min a.max ≡ stats_of b.field b.rows b.nulls b.min b.max = cc in
    sym (stats-of a) ∙ same ∙ stats-of b

-- ---- what is written for statistics

bound_back : (t : ColType) (bound : Option Value) → IfSome bound (CanBeText t) → IsBoundOf t (bound_text bound) bound
bound_back t None can = refl
bound_back t (Some v) can = can

pub stats_back : ReadsStatsBack
stats_back ty file stats can = record {
  field = refl;
  rows = refl;
  nulls = refl;
  min = bound_back ty stats.min can.min;
  max = bound_back ty stats.max can.max;
}

-- a bound is one of the values
bound_can : (s : Side) (t : ColType) (vs : List Value) (bound : Option Value) → All (CanBeText t) vs → HasBound s vs bound → IfSome bound (CanBeText t)
bound_can s t vs None all has = tt
bound_can s t vs (Some v) all has = All-contains (CanBeText t) vs v all has.0.0

pub bounds_can : BoundsHaveTexts
bounds_can ty cells stats all are = record {
  min = bound_can side.Least ty (values cells) stats.min all are.min;
  max = bound_can side.Greatest ty (values cells) stats.max all are.max;
}
