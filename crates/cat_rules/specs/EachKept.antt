-- Rules over what each kept snapshot sees.
use Rattle.std.specs.Prelude.{◌≡◌, ℕ, List, [], ◌∷◌, Option, None, is_none, if◌then◌else◌}
use Rattle.cat_rows.specs.Keys.{table_key}
use Rattle.cat_rules.specs.Lookups.{HasRow}
use Rattle.std.specs.List.{AllByRecursion}
use Rattle.cat_tables.specs.Table.{IsBelow, row_of}
use Rattle.cat_rows.specs.Seen.{Seen, seen_at}
use Rattle.cat_rows.specs.Tables.{Tables}
use Rattle.cat_rows.specs.declared.batch.Key.{Key}
use Rattle.cat_rows.specs.declared.history.SnapshotRow.{SnapshotRow}
use Rattle.cat_rules.specs.Kept.{AtSome}
use Rattle.cat_rules.specs.Rows.{Names, SomeOf}

-- bad in what some kept snapshot sees
abbrev pub AtKept : (Seen → Key → Type 0) → Tables → Key → Type 0
AtKept Bad t k = AtSome t (λ s. Bad (seen_at s t) k)

-- so of what each kept snapshot sees
abbrev pub EachKept : (Seen → Type 0) → Tables → Type 0
EachKept P t = AllByRecursion (λ (q : SnapshotRow). P (seen_at q.snapshot_id t)) t.snapshot

-- one of these rows stands before the row and is alike
abbrev pub HasAlike : {R : Type 0} → (R → R → Type 0) → (R → List ℕ) → List R → R → Type 0
HasAlike Alike key rows r = SomeOf (λ q. IsBelow key q r × Alike q r) rows

-- a row that stands before another one of these and is alike makes that one bad
abbrev pub NamesAlike : {R : Type 0} → (R → Key) → (R → R → Type 0) → (R → List ℕ) → List R → Key → Type 0
NamesAlike name Alike key rows = Names name (HasAlike Alike key rows) rows

-- What is named where a row isn't seen with the one that it refers to: that one where it isn't there at all, and else the row.
abbrev pub missing_or_own : {R S : Type 0} → (R → Option S) → (R → Key) → (R → Key) → R → Key
missing_or_own other other_name name r = if is_none (other r) then other_name r else name r

-- these rows have no other of the key that the row refers to
abbrev pub NamesWithout : {R S : Type 0} → (R → Key) → (R → List ℕ) → (S → List ℕ) → List R → List S → Key → Type 0
NamesWithout named other_key key rows others = Names named (λ r. row_of key (other_key r) others ≡ None) rows

-- the snapshot sees the table of this id
abbrev pub SeesTable : Seen → ℕ → Type 0
SeesTable seen id = HasRow (row_of table_key (id ∷ []) seen.table) (λ r. Unit {0})
