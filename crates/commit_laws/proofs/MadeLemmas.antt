-- The tables that a list creates and leaves: each in its place, with field ids that count up.
use Rattle.std.proofs.Common.{◌≡◌, ℕ, ◌+◌, ◌<◌, ◌≤◌, Bool, true, false, List, [], ◌∷◌, map, refl, sym, subst, arith}
use Rattle.std.specs.Prelude.{length}
use Rattle.std.specs.List.{AllByRecursion}
use Rattle.lake_types.specs.declared.value.Column.{Column}
use Rattle.lake_model.specs.Apply.{Creation, Draft, SchemaDraft, fields_from, schema_id, table_id}
use Rattle.lake_model.specs.Creations.{creations, made_schemas}
use Rattle.lake_model.specs.Growth.{made_tables}
use Rattle.lake_model.specs.Kinds.{drops_table}
use Rattle.lake_model.specs.Laws.{RiseBelow}
use Rattle.lake_model.specs.declared.change.Change.{Change}
use Rattle.lake_model.specs.declared.change.Change.TheVariants as change
use Rattle.lake_model.specs.declared.change.Ref.TheVariants as ref
use Rattle.lake_model.proofs.CatalogLemmas.{settled-schema_ids, settled-table_ids}
use Rattle.lake_model.proofs.GrowthLemmas.{new_ids_rise}
use Rattle.lake_model.proofs.RiseLemmas.{all-below}
use Rattle.cat_tables.specs.Table.{IsAscending}
use Rattle.cat_rules.proofs.FirstLemmas.{all_like}
use Rattle.commit_laws.proofs.ListLemmas.{all_unmapped, numbers_rise}

pub record IsMade (d : Draft) : Type 0 where
  pub place : ℕ
  pub at_is : d.at ≡ ref.New place
  pub given : List Column
  pub columns_are : d.columns ≡ fields_from 1 given
  pub next_is : d.next_field ≡ length given + 1

pub made_are : (n : ℕ) (own : List Change) → AllByRecursion IsMade (made_tables n own)
made_are n [] = tt
made_are n (change.CreateTable schema name columns ∷ own) = go (drops_table own (ref.New n)) refl (made_are (n + 1) own)
  where
    go : (b : Bool) → drops_table own (ref.New n) ≡ b → AllByRecursion IsMade (made_tables (n + 1) own) → AllByRecursion IsMade (made_tables n (change.CreateTable schema name columns ∷ own))
    go true e more = rw e more
    go false e more = rw e (record { place = n; at_is = refl; given = columns; columns_are = refl; next_is = refl }, more)
made_are n (c ∷ own) = made_are n own

-- ---- ids

module _ (next : ℕ) (own : List Change) where
  abbrev pub new : List Creation
  new = creations 0 0 own

  abbrev pub limit : ℕ
  limit = next + length new

  abbrev pub schema_of : SchemaDraft → ℕ
  schema_of d = schema_id next new d.at

  abbrev pub table_of : Draft → ℕ
  table_of d = table_id next new d.at

  schemas_below : RiseBelow limit (map schema_of (made_schemas 0 own))
  schemas_below = subst (RiseBelow limit) (settled-schema_ids next new (made_schemas 0 own)) (new_ids_rise next own).schemas

  tables_below : RiseBelow limit (map table_of (made_tables 0 own))
  tables_below = subst (RiseBelow limit) (settled-table_ids next new (made_tables 0 own)) (new_ids_rise next own).tables

  pub schema_ids_rise : IsAscending (λ d e. schema_of d < schema_of e) (made_schemas 0 own)
  schema_ids_rise = numbers_rise schema_of limit (made_schemas 0 own) schemas_below

  pub schema_ids_new : AllByRecursion (λ d. next ≤ schema_of d) (made_schemas 0 own)
  schema_ids_new = all_unmapped (λ n. next ≤ n) schema_of (made_schemas 0 own) (subst (AllByRecursion (λ n. next ≤ n)) (settled-schema_ids next new (made_schemas 0 own)) (new_ids_rise next own).schemas_new)

  pub schema_ids_low : AllByRecursion (λ d. schema_of d < limit) (made_schemas 0 own)
  schema_ids_low = all_unmapped (λ n. n < limit) schema_of (made_schemas 0 own) (all-below limit (map schema_of (made_schemas 0 own)) schemas_below)

  pub table_ids_rise : IsAscending (λ d e. table_of d < table_of e) (made_tables 0 own)
  table_ids_rise = numbers_rise table_of limit (made_tables 0 own) tables_below

  pub table_ids_new : AllByRecursion (λ d. next ≤ table_of d) (made_tables 0 own)
  table_ids_new = all_unmapped (λ n. next ≤ n) table_of (made_tables 0 own) (subst (AllByRecursion (λ n. next ≤ n)) (settled-table_ids next new (made_tables 0 own)) (new_ids_rise next own).tables_new)

  pub table_ids_low : AllByRecursion (λ d. table_of d < limit) (made_tables 0 own)
  table_ids_low = all_unmapped (λ n. n < limit) table_of (made_tables 0 own) (all-below limit (map table_of (made_tables 0 own)) tables_below)

-- ---- field ids

fields_below : (field : ℕ) (cs : List Column) → AllByRecursion (λ (c : Column). c.field < field + length cs) (fields_from field cs)
fields_below field [] = tt
fields_below field (c ∷ cs) = (
  omega arith,
  all_like (λ (d : Column). d.field < field + 1 + length cs) (λ (d : Column). d.field < field + length (c ∷ cs)) (λ d lt. omega (arith, lt)) (fields_from (field + 1) cs) (fields_below (field + 1) cs),
)

pub fields_end : (d : Draft) → IsMade d → AllByRecursion (λ (c : Column). c.field < d.next_field) d.columns
fields_end d m =
    let end = m.next_is in
    subst (AllByRecursion (λ (c : Column). c.field < d.next_field)) (sym m.columns_are)
    (all_like (λ (c : Column). c.field < 1 + length m.given) (λ (c : Column). c.field < d.next_field) (λ c lt. omega (arith, lt, end)) (fields_from 1 m.given) (fields_below 1 m.given))

fields_above : (low field : ℕ) (cs : List Column) → low < field → AllByRecursion (λ (c : Column). low < c.field) (fields_from field cs)
fields_above low field [] lt = tt
fields_above low field (c ∷ cs) lt = (lt, fields_above low (field + 1) cs (omega (arith, lt)))

fields_up : (field : ℕ) (cs : List Column) → IsAscending (λ (c d : Column). c.field < d.field) (fields_from field cs)
fields_up field [] = tt
fields_up field (c ∷ cs) = (fields_above field (field + 1) cs (omega arith), fields_up (field + 1) cs)

pub made_fields_rise : (d : Draft) → IsMade d → IsAscending (λ (a b : Column). a.field < b.field) d.columns
made_fields_rise d m = subst (IsAscending (λ (a b : Column). a.field < b.field)) (sym m.columns_are) (fields_up 1 m.given)
