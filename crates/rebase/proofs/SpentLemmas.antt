-- Where no counter is spent.
use Rattle.std.proofs.Common.{◌≡◌, ◌≤◌, ◌<◌, ◌+◌, ◌^◌, ℕ, Bool, true, false, List, [], ◌∷◌, length, nat_lt, Option, Some, None, IfSome, refl, sym, ◌∙◌, arith}
use Rattle.std.specs.List.{AllByRecursion}
use Rattle.std.specs.Option.{option_or}
use Rattle.std.proofs.lemmas.List.{length-map}
use Rattle.lake_types.specs.declared.limits.TheConstants.{MAX_COUNTER}
use Rattle.lake_model.specs.Apply.{Creation, table_id}
use Rattle.lake_model.specs.declared.answer.Counter.{Counter}
use Rattle.lake_model.specs.declared.answer.Counter.TheVariants as counter
use Rattle.cat_rows.specs.Tables.{Tables}
use Rattle.cat_rows.specs.declared.files.TableStatsRow.{TableStatsRow}
use Rattle.cat_rows.specs.declared.history.SnapshotRow.{SnapshotRow}
use Rattle.rebase.specs.Batch.{HasCounters, HasRecords}
use Rattle.rebase.specs.Made.{creation_of, creations_of}
use Rattle.rebase.specs.Parts.{FreshFile, first_row, old_stats}
use Rattle.rebase.specs.declared.creations.Made.{Made}
use Rattle.rebase.specs.Spent.{first_spent, spent_if, spent_rows}
use Rattle.rebase.specs.Stats.{FitsIn, HasRoom}

pub both_none : {X : Type 0} (a b : Option X) → option_or a b ≡ None → (a ≡ None) × (b ≡ None)
both_none None b e = (refl, e)
both_none (Some x) b e = absurd cc

pub small : (c : Counter) (n : ℕ) → spent_if c n ≡ None → n ≤ MAX_COUNTER
small c n e = go (nat_lt MAX_COUNTER n) refl
  where
    go : (b : Bool) → nat_lt MAX_COUNTER n ≡ b → n ≤ MAX_COUNTER
    go true is = absurd (let some : Some c ≡ None = rw is at e in cc)
    go false is = grind (arith, is)

pub counters_left : (t : Tables) (head : SnapshotRow) (new : List Creation) (files : List FreshFile) → first_spent t head new files ≡ None → HasCounters head (length new) (length files)
counters_left t head new files e =
    let one = both_none (spent_if counter.Catalog (head.next_catalog_id + length new)) _ e in
    let two = both_none (spent_rows t head.next_catalog_id new files) _ one.1 in
    let three = both_none (spent_if counter.File (head.next_file_id + length files)) _ two.1 in
    record {
      catalog = small counter.Catalog _ one.0;
      file = small counter.File _ three.0;
      snapshot = small counter.Snapshot _ three.1;
    }

rows_left : (t : Tables) (next : ℕ) (new : List Creation) (files : List FreshFile) → spent_rows t next new files ≡ None → AllByRecursion (HasRecords t) files → AllByRecursion (FitsIn t) files
rows_left t next new [] e all = tt
rows_left t next new (x ∷ xs) e all =
    let both = both_none (spent_if (counter.Row (table_id next new x.table)) (first_row (old_stats t x.table) + x.file.rows)) _ e in
    (one (old_stats t x.table) (small _ _ both.0) all.0, rows_left t next new xs both.1 all.1)
  where
    one : (o : Option TableStatsRow) → first_row o + x.file.rows ≤ MAX_COUNTER → IfSome o (λ (r : TableStatsRow). r.record_count + x.file.rows < 2 ^ 64) → IfSome o (λ (r : TableStatsRow). HasRoom r x.file)
    one None le h = tt
    one (Some r) le h = record { records = h; next_row = omega (arith, le) }

pub rows_fit : (t : Tables) (head : SnapshotRow) (new : List Creation) (files : List FreshFile) → first_spent t head new files ≡ None → AllByRecursion (HasRecords t) files → AllByRecursion (FitsIn t) files
rows_fit t head new files e all =
    let one = both_none (spent_if counter.Catalog (head.next_catalog_id + length new)) _ e in
    let two = both_none (spent_rows t head.next_catalog_id new files) _ one.1 in
    rows_left t head.next_catalog_id new files two.0 all

pub room_left : (t : Tables) (head : SnapshotRow) (made : List Made) (files : List FreshFile) (created count : ℕ) → first_spent t head (creations_of made) files ≡ None
    → created ≡ length made → count ≡ length files → HasCounters head created count
room_left t head made files created count e c f =
    let h = counters_left t head (creations_of made) files e in
    rw (c ∙ sym (length-map made creation_of), f) h
