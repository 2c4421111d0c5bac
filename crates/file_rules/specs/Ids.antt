-- The first file of each path, and what it tells of a row.
use Rattle.std.specs.Prelude.{◌⊎◌, ◌<◌, ℕ, List, Option, IsSome}
use Rattle.std.specs.Borrow.{Bor}
use Rattle.std.specs.BTreeMap.{BTreeMap, get_by}
use Rattle.std.specs.Option.{option_map}
use Rattle.cat_tables.specs.Table.{key_cmp, row_of}
use Rattle.cat_rows.specs.declared.files.DataFileRow.{DataFileRow}
use Rattle.cat_rows.specs.declared.files.DeleteFileRow.{DeleteFileRow}
use Rattle.cat_rows.specs.declared.files.ScheduledFileRow.{ScheduledFileRow}
use Rattle.cat_rules.specs.Lookups.{HasRow}
use Rattle.cat_rules.specs.DataFileRule.{IsLong}

-- the id that is kept for a path
abbrev pub id_at : BTreeMap (Bor (List ℕ)) ℕ → List ℕ → Option ℕ
id_at ids path = get_by (λ k. key_cmp path k.now) ids

-- the id of the first row with this path
abbrev pub first_id : {R : Type 0} → (R → List ℕ) → (R → ℕ) → List R → List ℕ → Option ℕ
first_id path id rows p = option_map id (row_of path p rows)

abbrev pub HasBadDataPath : (List ℕ → Option ℕ) → DataFileRow → Type 0
HasBadDataPath data_ids r = IsLong r.path ⊎ HasRow (data_ids r.path) (λ first. first < r.data_file_id)

abbrev pub HasBadDeletePath : (List ℕ → Option ℕ) → (List ℕ → Option ℕ) → DeleteFileRow → Type 0
HasBadDeletePath data_ids delete_ids r = IsLong r.path ⊎ (IsSome (data_ids r.path) ⊎ HasRow (delete_ids r.path) (λ first. first < r.delete_file_id))

abbrev pub HasBadScheduledPath : (List ℕ → Option ℕ) → (List ℕ → Option ℕ) → ScheduledFileRow → Type 0
HasBadScheduledPath data_ids delete_ids r = IsLong r.path ⊎ (IsSome (data_ids r.path) ⊎ IsSome (delete_ids r.path))
