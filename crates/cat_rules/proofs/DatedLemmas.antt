-- Where the rules on snapshots and intervals hold, all rows lie within the kept snapshots, and so does what is found among them.
use Rattle.std.proofs.Common.{◌≡◌, inl, inr, Bool, true, false, cond, List, [], ◌∷◌, Some, refl, subst, ℕ}
use Rattle.std.proofs.lemmas.Bool.{false_from_ne_true}
use Rattle.std.specs.List.{AllByRecursion}
use Rattle.cat_tables.specs.Table.{has_key, row_of}
use Rattle.cat_tables.specs.Validity.{Validity}
use Rattle.cat_rows.specs.Tables.{Tables}
use Rattle.cat_rows.specs.Validities.{schema_validity, table_validity, column_validity, data_file_validity, delete_file_validity, inlined_row_validity}
use Rattle.cat_rows.specs.declared.batch.Key.{Key}
use Rattle.cat_rules.specs.First.{Holds}
use Rattle.cat_rules.specs.HistoryRule.{IsMissing, IsSnapshotBad}
use Rattle.cat_rules.specs.IntervalRule.{IsIntervalBad, IsWronglyDated, is_misdated}
use Rattle.cat_rules.specs.Kept.{kept_of}
use Rattle.cat_rules.specs.Places.{of_schema, of_table, of_column, of_data_file, of_delete_file, of_inlined}
use Rattle.cat_rules.specs.Rows.{Names, NamesIf}
use Rattle.cat_rules.proofs.FirstLemmas.{all_like}
use Rattle.cat_rules.proofs.SightLemmas.{IsDated}

-- no snapshot is missing
pub none_missing : (t : Tables) → Holds (IsSnapshotBad t) → Holds (IsMissing t.snapshot)
none_missing t history k h = history k (inl h)

abbrev pub AreDated : {R : Type 0} → Tables → Validity R → List R → Type 0
AreDated t v rows = AllByRecursion (IsDated t v) rows

pub row_of_all : {R : Type 0} (key : R → List ℕ) (k : List ℕ) (P : R → Type 0) (rs : List R) → AllByRecursion P rs → (q : R) → row_of key k rs ≡ Some q → P q
row_of_all key k P [] all q e = absurd cc
row_of_all key k P (r ∷ rs) all q e = go (has_key key k r) (row_of_all key k P rs all.1 q) e
  where
    go : (b : Bool) → (row_of key k rs ≡ Some q → P q) → cond b (Some r) (row_of key k rs) ≡ Some q → P q
    go true more e = let same : r ≡ q = cc in subst P same all.0
    go false more e = more e

-- a rule that no row breaks
pub all_fine : {R : Type 0} (name : R → Key) (Bad : R → Type 0) (rows : List R) → Holds (Names name Bad rows) → AllByRecursion (λ r. Bad r → ⊥) rows
all_fine name Bad [] fine = tt
all_fine name Bad (r ∷ rs) fine = (λ bad. fine (name r) (inl (bad, refl)), all_fine name Bad rs (λ k h. fine k (inr h)))

all_dated : {R : Type 0} (t : Tables) (name : R → Key) (v : Validity R) (rows : List R) → Holds (NamesIf name (is_misdated (kept_of t.snapshot) v) rows) → AreDated t v rows
all_dated t name v rows fine = all_like _ _ (λ r h. false_from_ne_true (is_misdated (kept_of t.snapshot) v r) h) rows (all_fine name (λ r. is_misdated (kept_of t.snapshot) v r ≡ true) rows fine)

module _ (t : Tables) (intervals : Holds (IsIntervalBad t)) where
  pub dated_schemas : AreDated t schema_validity t.schema
  dated_schemas = all_dated t of_schema schema_validity t.schema (λ k h. intervals k (inl h))

  pub dated_tables : AreDated t table_validity t.table
  dated_tables = all_dated t of_table table_validity t.table (λ k h. intervals k (inr (inl h)))

  pub dated_columns : AreDated t column_validity t.column
  dated_columns = all_like _ _ (λ r h. false_from_ne_true (is_misdated (kept_of t.snapshot) column_validity r) (λ e. h (inl e))) t.column (all_fine of_column (IsWronglyDated (kept_of t.snapshot) t.column) t.column (λ k h. intervals k (inr (inr (inl h)))))

  pub dated_data_files : AreDated t data_file_validity t.data_file
  dated_data_files = all_dated t of_data_file data_file_validity t.data_file (λ k h. intervals k (inr (inr (inr (inl h)))))

  pub dated_delete_files : AreDated t delete_file_validity t.delete_file
  dated_delete_files = all_dated t of_delete_file delete_file_validity t.delete_file (λ k h. intervals k (inr (inr (inr (inr (inl h))))))

  pub dated_inlined : AreDated t inlined_row_validity t.inlined_row
  dated_inlined = all_dated t of_inlined inlined_row_validity t.inlined_row (λ k h. intervals k (inr (inr (inr (inr (inr h))))))

-- what is found in a table whose rows are dated is dated
pub found_dated : {S : Type 0} (t : Tables) (key : S → List ℕ) (k : List ℕ) (w : Validity S) (rows : List S) → AreDated t w rows → (q : S) → row_of key k rows ≡ Some q → IsDated t w q
found_dated t key k w rows dated q e = row_of_all key k (IsDated t w) rows dated q e
