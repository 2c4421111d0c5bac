-- A version whose tables' ids rise, and each of whose tables is within the limits.
use Rattle.std.proofs.Common.{◌<◌, ◌≤◌, length, ℕ, suc, List, [], ◌∷◌, Some, None, arith}
use Rattle.std.specs.List.{All, AllByRecursion, AllPairs}
use Rattle.std.specs.Prelude.{◌↔◌}
use Rattle.std.proofs.lemmas.List.Elements.{All-from_recursion, recursion_from_All}
use Rattle.std.proofs.lemmas.List.Kept.{AllPairs-cons}
use Rattle.lake_types.specs.declared.limits.TheConstants.{MAX_COLUMNS, MAX_FIELD, MAX_NAME_BYTES}
use Rattle.lake_types.specs.declared.value.Column.{Column}
use Rattle.lake_model.specs.Fits.{IsColumn}
use Rattle.cat_tables.specs.Table.{IsAscending}
use Rattle.cat_view.specs.Named.{NamedTable, NamedVersion}
use Rattle.cat_view.specs.Workable.{AreColumns, HasIds, HasOtherField, HasOtherId, IsWorkable}
use Rattle.cat_core.specs.Workable.{AreSizedColumns, HasLowerId, IsSizedColumn, IsTableWorkable, RisesPast}

pub all_pairs : {X : Type 0} (R : X → X → Type 0) (xs : List X) → IsAscending R xs → AllPairs R xs
all_pairs R [] h = λ i j d below within. absurd (omega (arith, within))
all_pairs R (x ∷ xs) h = AllPairs-cons R x xs (All-from_recursion (R x) xs h.0) (all_pairs R xs h.1)

each : {X : Type 0} (P Q : X → Type 0) → ((x : X) → P x → Q x) → (xs : List X) → AllByRecursion P xs → AllByRecursion Q xs
each P Q f [] h = tt
each P Q f (x ∷ xs) h = (f x h.0, each P Q f xs h.1)

-- and back
pairs_head : {X : Type 0} (R : X → X → Type 0) (x : X) (xs : List X) → AllPairs R (x ∷ xs) → All (R x) xs
pairs_head R x xs h = λ i d within. h 0 (suc i) d (omega arith) (omega (arith, within))

pairs_tail : {X : Type 0} (R : X → X → Type 0) (x : X) (xs : List X) → AllPairs R (x ∷ xs) → AllPairs R xs
pairs_tail R x xs h = λ i j d below within. h (suc i) (suc j) d (omega (arith, below)) (omega (arith, within))

ascending : {X : Type 0} (R : X → X → Type 0) (xs : List X) → AllPairs R xs → IsAscending R xs
ascending R [] h = tt
ascending R (x ∷ xs) h = (recursion_from_All (R x) xs (pairs_head R x xs h), ascending R xs (pairs_tail R x xs h))

-- columns are sized one by one
pub sized_in : (columns : List Column) → AreSizedColumns columns → AllByRecursion IsSizedColumn columns
sized_in columns h = go columns h.1 (recursion_from_All (λ (c : Column). c.field < MAX_FIELD) columns h.0.fields)
  where
    go : (cs : List Column) → AllByRecursion IsColumn cs → AllByRecursion (λ (c : Column). c.field < MAX_FIELD) cs → AllByRecursion IsSizedColumn cs
    go [] a b = tt
    go (c ∷ cs) a b = ((a.0, b.0), go cs a.1 b.1)

pub columns_are : (columns : List Column) → length columns ≤ MAX_COLUMNS → AllByRecursion IsSizedColumn columns → IsAscending HasOtherField columns ↔ AreSizedColumns columns
columns_are columns few sized = ((λ differ. (made differ, each IsSizedColumn IsColumn (λ c h. h.0) columns sized)), (λ h. ascending HasOtherField columns h.0.differ))
  where
    made : IsAscending HasOtherField columns → AreColumns columns
    made differ = record {
      few = few;
      names = All-from_recursion (λ (c : Column). length c.name ≤ MAX_NAME_BYTES) columns (each IsSizedColumn (λ (c : Column). length c.name ≤ MAX_NAME_BYTES) (λ c h. h.0.0) columns sized);
      fields = All-from_recursion (λ (c : Column). c.field < MAX_FIELD) columns (each IsSizedColumn (λ (c : Column). c.field < MAX_FIELD) (λ c h. h.1) columns sized);
      differ = all_pairs HasOtherField columns differ;
    }

-- all ids are past the last one before
all_past : (n : ℕ) (xs : List NamedTable) → RisesPast (Some n) xs → AllByRecursion (λ (x : NamedTable). n < x.id) xs
all_past n [] h = tt
all_past n (x ∷ xs) h = (h.0, each (λ (y : NamedTable). x.id < y.id) (λ (y : NamedTable). n < y.id) (λ y past. omega (arith, past, h.0)) xs (all_past x.id xs h.1))

other_ids : (xs : List NamedTable) (n : ℕ) → RisesPast (Some n) xs → IsAscending HasOtherId xs
other_ids [] n h = tt
other_ids (x ∷ xs) n h = (each (λ (y : NamedTable). x.id < y.id) (HasOtherId x) (λ y past same. omega (arith, past, same)) xs (all_past x.id xs h.1), other_ids xs x.id h.1)

rising : (xs : List NamedTable) → RisesPast None xs → IsAscending HasOtherId xs
rising [] h = tt
rising (x ∷ xs) h = (each (λ (y : NamedTable). x.id < y.id) (HasOtherId x) (λ y past same. omega (arith, past, same)) xs (all_past x.id xs h.1), other_ids xs x.id h.1)

-- and ids that rise do so past none
past_all : (n : ℕ) (xs : List NamedTable) → AllByRecursion (λ (x : NamedTable). n < x.id) xs → IsAscending HasLowerId xs → RisesPast (Some n) xs
past_all n [] past up = tt
past_all n (x ∷ xs) past up = (past.0, past_all x.id xs up.0 up.1)

pub up_past_none : (xs : List NamedTable) → IsAscending HasLowerId xs → RisesPast None xs
up_past_none [] up = tt
up_past_none (x ∷ xs) up = (tt, past_all x.id xs up.0 up.1)

pub workable : (v : NamedVersion) → RisesPast None v.tables → AllByRecursion IsTableWorkable v.tables → IsWorkable v
workable v up all = record {
  tables = record {
    ids = all_pairs HasOtherId v.tables (rising v.tables up);
    columns = each IsTableWorkable (λ (x : NamedTable). AreColumns x.columns) (λ x h. h.0.0) v.tables all;
  };
  sized = each IsTableWorkable (λ (x : NamedTable). AllByRecursion IsColumn x.columns) (λ x h. h.0.1) v.tables all;
  ids = each IsTableWorkable (λ (x : NamedTable). AllByRecursion HasIds x.files) (λ x h. h.1) v.tables all;
}

pub table_by_table : (v : NamedVersion) → IsWorkable v → AllByRecursion IsTableWorkable v.tables
table_by_table v h = go v.tables h.tables.columns h.sized h.ids
  where
    go : (xs : List NamedTable) → AllByRecursion (λ (x : NamedTable). AreColumns x.columns) xs → AllByRecursion (λ (x : NamedTable). AllByRecursion IsColumn x.columns) xs
        → AllByRecursion (λ (x : NamedTable). AllByRecursion HasIds x.files) xs → AllByRecursion IsTableWorkable xs
    go [] a b c = tt
    go (x ∷ xs) a b c = (((a.0, b.0), c.0), go xs a.1 b.1 c.1)
