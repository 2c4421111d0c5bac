-- What is known at a commit: its snapshots, the ids below the counters, and the version at the head.
use Rattle.std.proofs.Common.{◌≡◌, inl, inr, ℕ, ℤ, ◌+◌, ◌<◌, Bool, true, false, ◌||◌, List, [], ◌∷◌, Some, refl, sym, ap, ◌∙◌, subst}
use Rattle.std.specs.List.{AllByRecursion}
use Rattle.lake_model.specs.Core.{Version}
use Rattle.lake_model.specs.State.{State}
use Rattle.lake_model.specs.declared.change.Change.{Change}
use Rattle.lake_rebase.proofs.MemberLemmas.{In, all_in, in_right}
use Rattle.cat_rows.specs.Parts.{Parts, seen_next}
use Rattle.cat_rows.specs.Seen.{Seen, seen_at}
use Rattle.cat_rows.specs.Tables.{Tables}
use Rattle.cat_rows.specs.declared.files.DataFileRow.{DataFileRow}
use Rattle.cat_rows.specs.declared.files.DeleteFileRow.{DeleteFileRow}
use Rattle.cat_rows.specs.declared.files.FileColumnStatsRow.{FileColumnStatsRow}
use Rattle.cat_rows.specs.declared.files.TableStatsRow.{TableStatsRow}
use Rattle.cat_rows.specs.declared.inlined.InlinedRow.{InlinedRow}
use Rattle.cat_rows.specs.declared.schemas.ColumnRow.{ColumnRow}
use Rattle.cat_rows.specs.declared.schemas.TableRow.{TableRow}
use Rattle.cat_rows.specs.declared.batch.Key.{Key}
use Rattle.cat_rows.proofs.PartLemmas.{sees-parts}
use Rattle.cat_rules.proofs.DatedLemmas.{all_fine}
use Rattle.cat_rules.proofs.FirstLemmas.{all_like}
use Rattle.cat_rules.specs.CounterRule.{IsPastCounters, is_not_past}
use Rattle.cat_rules.specs.First.{Holds}
use Rattle.cat_rules.specs.Kept.{newest}
use Rattle.cat_rules.specs.Places.{of_column, of_column_stats, of_data_file, of_delete_file, of_inlined, of_table, of_table_stats}
use Rattle.cat_rules.specs.Rows.{NamesIf}
use Rattle.commit_rules.proofs.CoreLemmas.{newest-append}
use Rattle.commit_rules.proofs.StatsLemmas.{below}
use Rattle.cat_view.specs.Files.{Files}
use Rattle.cat_view.specs.Staged.{NamedStagedTable}
use Rattle.cat_stands.specs.LakeFacts.{HasIds}
use Rattle.cat_stands.specs.Stands.{IsSound}
use Rattle.commit_laws.specs.Commit.{IsCommit, committed, parts_at}
use Rattle.commit_laws.specs.Commits.{endings_of}

pub record Case : Type 0 where
  pub t : Tables
  pub files : Files
  pub more : Files
  pub first : ℕ
  pub versions : List Version
  pub sound : IsSound t files first versions
  pub time : ℤ
  pub own : List Change
  pub staged : List NamedStagedTable
  pub is : IsCommit t files more sound.newest sound.head.state time own staged

module _ (x : Case) where
  abbrev pub n : ℕ
  n = x.sound.newest.snapshot_id

  abbrev pub next : ℕ
  next = x.sound.newest.next_catalog_id

  abbrev pub next_file : ℕ
  next_file = x.sound.newest.next_file_id

  abbrev pub head : State
  head = x.sound.head.state

  abbrev pub p : Parts
  p = parts_at x.t x.sound.newest x.sound.head.state x.time x.own x.staged

  abbrev pub after : Tables
  after = committed x.t x.sound.newest x.sound.head.state x.time x.own x.staged

  abbrev pub now : Seen
  now = seen_at x.sound.newest.snapshot_id x.t

  abbrev pub seen_then : Seen
  seen_then = seen_next p (endings_of x.own) now

  pub sees : seen_at (n + 1) after ≡ seen_then
  sees = sees-parts x.t n p (endings_of x.own) x.is.parts

  -- ---- the newest snapshot

  pub last : newest x.t.snapshot ≡ Some x.sound.newest
  last = ap newest x.sound.snapshots ∙ newest-append x.sound.before x.sound.newest

  pub newest-in : In x.sound.newest x.t.snapshot
  newest-in = subst (In x.sound.newest) (sym x.sound.snapshots) (in_right x.sound.newest x.sound.before (x.sound.newest ∷ []) (inl refl))

  pub head-in : In x.sound.head x.versions
  head-in = subst (In x.sound.head) (sym x.sound.versions_are) (in_right x.sound.head x.sound.older (x.sound.head ∷ []) (inl refl))

  pub head-ids : HasIds head
  head-ids = all_in (λ (v : Version). HasIds v.state) x.sound.head x.versions x.sound.ids head-in

  pub same-next : head.next_catalog ≡ next
  same-next = x.sound.counters.next_catalog

  -- ---- ids below the counters

  counted : Holds (IsPastCounters x.t x.sound.newest)
  counted k bad = x.sound.rules.1.1.1.1.1.1.1.1.1.1.1.0 k (x.sound.newest, last, bad)

  fine_of : {R : Type 0} (name : R → Key) (bad : R → Bool) (P : R → Type 0) (rows : List R) → ((r : R) → (bad r ≡ true → ⊥) → P r) → ((k : Key) → NamesIf name bad rows k → ⊥) → AllByRecursion P rows
  fine_of name bad P rows f none = all_like (λ r. bad r ≡ true → ⊥) P f rows (all_fine name (λ r. bad r ≡ true) rows none)

  pub tables-low : AllByRecursion (λ (r : TableRow). r.table_id < next) x.t.table
  tables-low = fine_of of_table _ (λ (r : TableRow). r.table_id < next) x.t.table (λ r fine. below next r.table_id (λ e. fine (ap (λ b. b || is_not_past next r.schema_id) e))) (λ k h. counted k (inr (inr (inl h))))

  pub columns-low : AllByRecursion (λ (r : ColumnRow). r.table_id < next) x.t.column
  columns-low = fine_of of_column _ (λ (r : ColumnRow). r.table_id < next) x.t.column (λ r fine. below next r.table_id fine) (λ k h. counted k (inr (inr (inr (inl h)))))

  or_right : (a b : Bool) → b ≡ true → (a || b) ≡ true
  or_right true b e = refl
  or_right false b e = e

  pub files-low : AllByRecursion (λ (r : DataFileRow). (r.data_file_id < next_file) × (r.table_id < next)) x.t.data_file
  files-low = fine_of of_data_file _ (λ (r : DataFileRow). (r.data_file_id < next_file) × (r.table_id < next)) x.t.data_file
      (λ r fine. (below next_file r.data_file_id (λ e. fine (ap (λ b. b || is_not_past next r.table_id) e)), below next r.table_id (λ e. fine (or_right (is_not_past next_file r.data_file_id) _ e))))
      (λ k h. counted k (inr (inr (inr (inr (inl h))))))

  pub deletes-low : AllByRecursion (λ (r : DeleteFileRow). (r.data_file_id < next_file) × (r.table_id < next)) x.t.delete_file
  deletes-low = fine_of of_delete_file _ (λ (r : DeleteFileRow). (r.data_file_id < next_file) × (r.table_id < next)) x.t.delete_file
      (λ r fine. (
        below next_file r.data_file_id (λ e. fine (or_right (is_not_past next_file r.delete_file_id) _ (ap (λ b. b || is_not_past next r.table_id) e))),
        below next r.table_id (λ e. fine (or_right (is_not_past next_file r.delete_file_id) _ (or_right (is_not_past next_file r.data_file_id) _ e))),
      ))
      (λ k h. counted k (inr (inr (inr (inr (inr (inl h)))))))

  pub column_stats-low : AllByRecursion (λ (r : FileColumnStatsRow). r.data_file_id < next_file) x.t.file_column_stats
  column_stats-low = fine_of of_column_stats _ (λ (r : FileColumnStatsRow). r.data_file_id < next_file) x.t.file_column_stats (λ r fine. below next_file r.data_file_id fine) (λ k h. counted k (inr (inr (inr (inr (inr (inr (inl h))))))))

  pub stats-low : AllByRecursion (λ (r : TableStatsRow). r.table_id < next) x.t.table_stats
  stats-low = fine_of of_table_stats _ (λ (r : TableStatsRow). r.table_id < next) x.t.table_stats (λ r fine. below next r.table_id fine) (λ k h. counted k (inr (inr (inr (inr (inr (inr (inr (inl h)))))))))

  pub inlined-low : AllByRecursion (λ (r : InlinedRow). r.table_id < next) x.t.inlined_row
  inlined-low = fine_of of_inlined _ (λ (r : InlinedRow). r.table_id < next) x.t.inlined_row (λ r fine. below next r.table_id fine) (λ k h. counted k (inr (inr (inr (inr (inr (inr (inr (inr h)))))))))
