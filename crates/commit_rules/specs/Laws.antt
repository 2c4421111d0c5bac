-- The batch of a lawful commit breaks none of the twelve rules, where none was broken before.
use Rattle.std.specs.Prelude.{None, ◌≡◌, ◌+◌}
use Rattle.cat_rows.specs.Batches.{applied}
use Rattle.cat_rows.specs.Parts.{ArePartsOf, Endings, Parts, batch_of, AreSettled}
use Rattle.cat_rows.specs.Tables.{Tables}
use Rattle.cat_rows.specs.declared.batch.Key.{Key}
use Rattle.cat_rows.specs.declared.history.SnapshotRow.{SnapshotRow}
use Rattle.cat_rules.specs.First.{Holds}
use Rattle.cat_rules.specs.Sane.{IsFirstBadRow}
use Rattle.commit_rules.specs.Lawful.{IsHead, IsLawful}
use Rattle.cat_tables.specs.Table.{RisesByKey}
use Rattle.cat_rows.specs.Keys.{column_key, data_file_key, delete_file_key, inlined_row_key, schema_key, table_key}

-- so of the tables after a lawful commit, where the rows before it broke no rule
abbrev pub AfterCommit : (Tables → Type 0) → Type 0
AfterCommit P =
    (t : Tables) (head : SnapshotRow) (p : Parts) (endings : Endings) → IsFirstBadRow t None → IsHead t head
    → ArePartsOf t head.snapshot_id p endings → IsLawful t head p endings → P (applied (batch_of p) t)

-- one rule
abbrev pub RuleStays : (Tables → Key → Type 0) → Type 0
RuleStays Bad = AfterCommit (λ t. Holds (Bad t))

-- all of them
abbrev pub RulesStay : Type 0
RulesStay = AfterCommit (λ t. IsFirstBadRow t None)

-- ---- what a commit rests on

-- rows that begin and end rise by key
pub record AreRising (t : Tables) : Type 0 where
  pub schema : RisesByKey schema_key t.schema
  pub table : RisesByKey table_key t.table
  pub column : RisesByKey column_key t.column
  pub data_file : RisesByKey data_file_key t.data_file
  pub delete_file : RisesByKey delete_file_key t.delete_file
  pub inlined_row : RisesByKey inlined_row_key t.inlined_row

-- where no rule is broken, no such row begins or ends past the head
abbrev pub SaneIsSettled : Type 0
SaneIsSettled = (t : Tables) (head : SnapshotRow) → IsFirstBadRow t None → IsHead t head → AreRising t → AreSettled head.snapshot_id t

-- the commit's snapshot is the next head
abbrev pub HeadMoves : Type 0
HeadMoves =
    (t : Tables) (head : SnapshotRow) (p : Parts) → IsHead t head → p.snapshot.snapshot_id ≡ head.snapshot_id + 1
    → IsHead (applied (batch_of p) t) p.snapshot
