-- The columns of created tables.
use Rattle.std.proofs.Common.{◌≡◌, ℕ, ◌+◌, true, cond, List, [], ◌∷◌, ◌++◌, map, refl, ap, ◌∙◌, subst, arith}
use Rattle.std.specs.List.{AllByRecursion, AllZip}
use Rattle.std.proofs.lemmas.Bool.{le-ltb}
use Rattle.lake_types.specs.Fits.{fits}
use Rattle.lake_types.specs.Texts.{HoldsBytes}
use Rattle.lake_types.specs.declared.kind.Kind.{Kind}
use Rattle.lake_types.specs.declared.value.ColType.{ColType}
use Rattle.lake_types.specs.declared.value.Column.{Column}
use Rattle.lake_types.specs.declared.value.Value.{Value}
use Rattle.lake_types.specs.declared.value.Value.TheVariants as value
use Rattle.lake_model.proofs.GrowthLemmas.{grows_by_table}
use Rattle.lake_model.specs.Apply.{Draft, apply, settled_table}
use Rattle.lake_model.specs.Creations.{creations}
use Rattle.lake_model.specs.Growth.{grown, left_tables, made_tables}
use Rattle.lake_model.specs.State.{State, Table}
use Rattle.lake_model.specs.declared.change.Change.{Change}
use Rattle.lake_rebase.proofs.HeadLemmas.{tidy-at-head}
use Rattle.lake_rebase.specs.Laws.{IsFree}
use Rattle.lake_rebase.specs.Tidy.{AreTidyColumns, IsTidyColumn}
use Rattle.cat_rows.specs.declared.schemas.ColumnRow.{ColumnRow}
use Rattle.cat_texts.specs.Spelled.{IsColumnOf, IsValueOf}
use Rattle.cat_texts.specs.Written.{column_row, default_text}
use Rattle.cat_view.specs.Named.{ordered, put_by}
use Rattle.lake_model.proofs.TableLemmas.{all-parts}
use Rattle.rebase.specs.Parts.{column_rows_from}
use Rattle.cat_view.specs.Typed.{HasBytes}
use Rattle.commit_laws.proofs.StandListLemmas.{all_both, all_unmapped}

-- ---- texts of defaults

text_back : (t : ColType) (v : Value) → fits v t ≡ true → HoldsBytes v → IsValueOf t (default_text v) v
text_back t value.Null f b = refl
text_back t (value.Bool x) f b = (λ e. cc, f, b, refl)
text_back t (value.Int x) f b = (λ e. cc, f, b, refl)
text_back t (value.Text x) f b = (λ e. cc, f, b, refl)
text_back t (value.Bytes x) f b = (λ e. cc, f, b, refl)
text_back t (value.Date x) f b = (λ e. cc, f, b, refl)

pub columns-spelled : (table begin order : ℕ) (cs : List Column) → AllByRecursion (λ (c : Column). IsTidyColumn c × HasBytes c) cs → AllZip IsColumnOf (column_rows_from table begin order cs) cs
columns-spelled table begin order [] h = tt
columns-spelled table begin order (c ∷ cs) h = (
  record {
    field = refl;
    name = refl;
    ty = refl;
    initial = text_back c.ty c.initial h.0.0.initial h.0.1.initial;
    default_value = text_back c.ty c.default_value h.0.0.default_value h.0.1.default_value;
    nulls = refl;
  },
  columns-spelled table begin (order + 1) cs h.1,
)

-- ---- their rows

pub columns-of_table : (table begin order : ℕ) (cs : List Column) → AllByRecursion (λ (r : ColumnRow). r.table_id ≡ table) (column_rows_from table begin order cs)
columns-of_table table begin order [] = tt
columns-of_table table begin order (c ∷ cs) = (refl, columns-of_table table begin (order + 1) cs)

-- they stand in order
pub columns-ordered : (table begin order : ℕ) (cs : List Column) → ordered (λ (r : ColumnRow). r.column_order) (column_rows_from table begin order cs) ≡ column_rows_from table begin order cs
columns-ordered table begin order [] = refl
columns-ordered table begin order (c ∷ cs) =
    ap (put_by (λ (r : ColumnRow). r.column_order) (column_row table begin order c)) (columns-ordered table begin (order + 1) cs) ∙ first cs
  where
    first : (ds : List Column) → put_by (λ (r : ColumnRow). r.column_order) (column_row table begin order c) (column_rows_from table begin (order + 1) ds) ≡ column_row table begin order c ∷ column_rows_from table begin (order + 1) ds
    first [] = refl
    first (d ∷ ds) =
        ap (λ b. cond b (column_row table begin (order + 1) d ∷ put_by (λ (r : ColumnRow). r.column_order) (column_row table begin order c) (column_rows_from table begin (order + 1 + 1) ds)) (column_row table begin order c ∷ column_row table begin (order + 1) d ∷ column_rows_from table begin (order + 1 + 1) ds))
        (le-ltb (order + 1) order (omega arith))

-- ---- created tables

pub made-spelled : (told : List Kind) (base head : State) (own : List Change) → IsFree told base head own → AllByRecursion (λ (d : Draft). AllByRecursion HasBytes d.columns) (made_tables 0 own)
    → AllByRecursion (λ (d : Draft). AllByRecursion (λ (c : Column). IsTidyColumn c × HasBytes c) d.columns) (made_tables 0 own)
made-spelled told base head own free bytes = go (made_tables 0 own) tidy bytes
  where
    tables : (apply head own).tables ≡ map (grown own) (left_tables head own) ++ map (settled_table head.next_catalog (creations 0 0 own)) (made_tables 0 own)
    tables = ap (λ (s : State). s.tables) (grows_by_table head own free.grows)

    tidy : AllByRecursion (λ (d : Draft). AreTidyColumns d.columns) (made_tables 0 own)
    tidy =
        all_unmapped (λ (t : Table). AreTidyColumns t.columns) (settled_table head.next_catalog (creations 0 0 own)) (made_tables 0 own)
        (all-parts (λ (t : Table). AreTidyColumns t.columns) (map (grown own) (left_tables head own)) _
        (subst (AllByRecursion (λ (t : Table). AreTidyColumns t.columns)) tables (tidy-at-head told base head own free).columns)).1

    go : (ds : List Draft) → AllByRecursion (λ (d : Draft). AreTidyColumns d.columns) ds → AllByRecursion (λ (d : Draft). AllByRecursion HasBytes d.columns) ds
        → AllByRecursion (λ (d : Draft). AllByRecursion (λ (c : Column). IsTidyColumn c × HasBytes c) d.columns) ds
    go [] a b = tt
    go (d ∷ ds) a b = (all_both IsTidyColumn HasBytes d.columns a.0.each b.0, go ds a.1 b.1)
