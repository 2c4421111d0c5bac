-- A commit with all that it is made from: its head, and that the head's counters are past all ids that are there.
use Rattle.std.proofs.Common.{◌≡◌, ℕ, ℤ, ◌+◌, ◌<◌, true, ◌||◌, inl, inr, List, [], ◌∷◌, map, sym, ap, ◌∙◌, arith, true≢false}
use Rattle.std.specs.Prelude.{zero, suc, length}
use Rattle.std.specs.List.{AllByRecursion, range_with_len}
use Rattle.std.proofs.lemmas.Bool.{or_parts, false_from_ne_true}
use Rattle.lake_types.specs.Kinds.{changes_text}
use Rattle.lake_types.specs.declared.kind.Kind.{Kind}
use Rattle.lake_model.specs.Apply.{Creation}
use Rattle.lake_model.specs.Core.{Version}
use Rattle.lake_model.specs.Creations.{creations}
use Rattle.lake_model.specs.Kinds.{kinds}
use Rattle.lake_model.specs.State.{State}
use Rattle.lake_model.specs.declared.change.Change.{Change}
use Rattle.cat_tables.specs.Table.{IsBelow, RisesByKey, key_cmp}
use Rattle.cat_tables.proofs.PlaceLemmas.{less_is}
use Rattle.cat_rows.specs.Keys.{snapshot_key}
use Rattle.cat_rows.specs.Parts.{AreSettled, Parts}
use Rattle.cat_rows.specs.Seen.{Seen, seen_at}
use Rattle.cat_rows.specs.Tables.{Tables}
use Rattle.cat_rows.specs.declared.files.DataFileRow.{DataFileRow}
use Rattle.cat_rows.specs.declared.history.SnapshotRow.{SnapshotRow}
use Rattle.cat_rows.specs.declared.schemas.ColumnRow.{ColumnRow}
use Rattle.cat_rows.specs.declared.schemas.SchemaRow.{SchemaRow}
use Rattle.cat_rows.specs.declared.schemas.TableRow.{TableRow}
use Rattle.cat_rules.specs.CounterRule.{IsPastCounters, is_not_past}
use Rattle.cat_rules.specs.First.{Holds}
use Rattle.cat_rules.specs.Kept as kept
use Rattle.cat_rules.specs.Places.{of_column, of_data_file, of_schema, of_table}
use Rattle.cat_rules.proofs.DatedLemmas.{all_fine}
use Rattle.cat_rules.proofs.FirstLemmas.{all_like}
use Rattle.cat_view.specs.Files.{Files}
use Rattle.cat_view.specs.Named.{NamedVersion}
use Rattle.cat_view.specs.Staged.{NamedStagedTable}
use Rattle.commit_rules.specs.Lawful.{IsHead}
use Rattle.commit_rules.proofs.CoreLemmas.{lower_key, newest-append}
use Rattle.commit_rules.proofs.HeadLemmas.{sane-settled}
use Rattle.commit_rules.proofs.StatsLemmas.{below}
use Rattle.rebase.specs.Parts.{FreshFile, fresh_files, parts_of}
use Rattle.commit_laws.specs.Commits.{Commits}
use Rattle.commit_laws.specs.Laws.{OfCommits}

pub record Case : Type 0 where
  pub t : Tables
  pub files : Files
  pub first : ℕ
  pub versions : List Version
  pub told : List Kind
  pub more : Files
  pub base : NamedVersion
  pub state : State
  pub own : List Change
  pub staged : List NamedStagedTable
  pub time : ℤ
  pub c : Commits t files first versions told more base state own staged

abbrev pub newest : Case → SnapshotRow
newest k = k.c.sound.newest

-- the head's number and its next catalogue id
abbrev pub number : Case → ℕ
number k = k.c.sound.newest.snapshot_id

abbrev pub next : Case → ℕ
next k = k.c.sound.newest.next_catalog_id

abbrev pub head : Case → State
head k = k.c.sound.head.state

abbrev pub new : Case → List Creation
new k = creations 0 0 k.own

abbrev pub fresh : Case → List FreshFile
fresh k = fresh_files k.staged

abbrev pub text : Case → List ℕ
text k = changes_text (kinds k.c.sound.head.state.schemas k.own)

abbrev pub parts : Case → Parts
parts k = parts_of k.t k.c.sound.newest k.time (text k) k.own k.staged

-- what the head sees
abbrev pub seen : Case → Seen
seen k = seen_at k.c.sound.newest.snapshot_id k.t

pub of-cases : (P : Tables → SnapshotRow → Parts → List Change → Type 0) → ((k : Case) → P k.t (newest k) (parts k) k.own) → OfCommits P
of-cases P f t files first versions told more base state own staged time c =
    f (record { t = t; files = files; first = first; versions = versions; told = told; more = more; base = base; state = state; own = own; staged = staged; time = time; c = c })

-- ---- the head

counts_past : (low start n : ℕ) (rs : List SnapshotRow) → low < start → map (λ (r : SnapshotRow). r.snapshot_id) rs ≡ range_with_len start n → AllByRecursion (λ (r : SnapshotRow). low < r.snapshot_id) rs
counts_past low start n [] lt e = tt
counts_past low start zero (r ∷ rs) lt e = absurd cc
counts_past low start (suc n) (r ∷ rs) lt e =
    let is : r.snapshot_id ≡ start = cc in let rest : map (λ (q : SnapshotRow). q.snapshot_id) rs ≡ range_with_len (start + 1) n = cc in
    (omega (arith, is, lt), counts_past low (start + 1) n rs (omega (arith, lt)) rest)

numbers_count : (start n : ℕ) (rs : List SnapshotRow) → map (λ (r : SnapshotRow). r.snapshot_id) rs ≡ range_with_len start n → RisesByKey snapshot_key rs
numbers_count start n [] e = tt
numbers_count start zero (r ∷ rs) e = absurd cc
numbers_count start (suc n) (r ∷ rs) e =
    let is : r.snapshot_id ≡ start = cc in let rest : map (λ (q : SnapshotRow). q.snapshot_id) rs ≡ range_with_len (start + 1) n = cc in (
      all_like (λ (q : SnapshotRow). start < q.snapshot_id) (IsBelow snapshot_key r) (λ q lt. less_is (key_cmp (snapshot_key r) (snapshot_key q)) (lower_key r.snapshot_id q.snapshot_id (omega (arith, is, lt)))) rs
          (counts_past start (start + 1) n rs (omega arith) rest),
      numbers_count (start + 1) n rs rest,
    )

module _ (k : Case) where
  pub is-head : IsHead k.t (newest k)
  is-head = record {
    rises = numbers_count k.first (length k.versions) k.t.snapshot k.c.sound.numbers;
    last = ap kept.newest k.c.sound.snapshots ∙ newest-append k.c.sound.before (newest k);
  }

  pub settled : AreSettled (number k) k.t
  settled = sane-settled k.t (newest k) k.c.sound.rules is-head k.c.rising

  -- ---- ids that are there

  pub counted : Holds (IsPastCounters k.t (newest k))
  counted j bad = k.c.sound.rules.1.1.1.1.1.1.1.1.1.1.1.0 j (newest k, is-head.last, bad)

  pub schemas_low : AllByRecursion (λ (r : SchemaRow). r.schema_id < next k) k.t.schema
  schemas_low = all_like _ _ (λ (r : SchemaRow) fine. below (next k) r.schema_id fine) k.t.schema (all_fine of_schema (λ (r : SchemaRow). is_not_past (next k) r.schema_id ≡ true) k.t.schema (λ j h. counted j (inr (inl h))))

  pub tables_low : AllByRecursion (λ (r : TableRow). r.table_id < next k) k.t.table
  tables_low =
      all_like _ _ (λ (r : TableRow) fine. below (next k) r.table_id (λ e. fine (ap (λ b. b || is_not_past (next k) r.schema_id) e))) k.t.table
      (all_fine of_table (λ (r : TableRow). (is_not_past (next k) r.table_id || is_not_past (next k) r.schema_id) ≡ true) k.t.table (λ j h. counted j (inr (inr (inl h)))))

  pub columns_low : AllByRecursion (λ (r : ColumnRow). r.table_id < next k) k.t.column
  columns_low = all_like _ _ (λ (r : ColumnRow) fine. below (next k) r.table_id fine) k.t.column (all_fine of_column (λ (r : ColumnRow). is_not_past (next k) r.table_id ≡ true) k.t.column (λ j h. counted j (inr (inr (inr (inl h))))))

  pub record IsLowFile (r : DataFileRow) : Type 0 where
    pub id : r.data_file_id < k.c.sound.newest.next_file_id
    pub table : r.table_id < next k

  pub files_low : AllByRecursion IsLowFile k.t.data_file
  files_low =
      all_like _ IsLowFile
      (λ (r : DataFileRow) fine.
      let two = or_parts (is_not_past k.c.sound.newest.next_file_id r.data_file_id) (is_not_past (next k) r.table_id) (false_from_ne_true (is_not_past k.c.sound.newest.next_file_id r.data_file_id || is_not_past (next k) r.table_id) fine) in
      record { id = below k.c.sound.newest.next_file_id r.data_file_id (λ e. true≢false (sym e ∙ two.0)); table = below (next k) r.table_id (λ e. true≢false (sym e ∙ two.1)) })
      k.t.data_file (all_fine of_data_file (λ (r : DataFileRow). (is_not_past k.c.sound.newest.next_file_id r.data_file_id || is_not_past (next k) r.table_id) ≡ true) k.t.data_file (λ j h. counted j (inr (inr (inr (inr (inl h)))))))
