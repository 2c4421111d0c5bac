-- The rule about ids and the newest snapshot's counters, after a commit.
use Rattle.std.proofs.Common.{◌≡◌, ℕ, ◌⊎◌, inl, inr, ⊎_elim, false, List, [], ◌∷◌, map, refl, sym, ◌∙◌, subst, Option}
use Rattle.cat_tables.specs.Table.{put_all}
use Rattle.cat_tables.specs.Validity.{Validity, all_ended, ends_at}
use Rattle.std.proofs.lemmas.Bool.{false_from_ne_true}
use Rattle.cat_rows.specs.Keys.{column_key, data_file_key, delete_file_key, file_column_stats_key, inlined_row_key, schema_key, table_key, table_stats_key}
use Rattle.cat_rows.specs.Parts.{Endings, Parts}
use Rattle.cat_rows.specs.Tables.{Tables}
use Rattle.cat_rows.specs.Validities.{column_validity, data_file_validity, delete_file_validity, inlined_row_validity, schema_validity, table_validity}
use Rattle.cat_rows.specs.declared.history.SnapshotRow.{SnapshotRow}
use Rattle.cat_rows.specs.declared.files.TableStatsRow.{TableStatsRow}
use Rattle.cat_rules.specs.CounterRule.{IsIdBad, IsPastCounters, has_large_id}
use Rattle.cat_rules.specs.First.{Holds}
use Rattle.cat_rules.specs.Places.{of_snapshot}
use Rattle.cat_rules.specs.Rows.{SomeOf}
use Rattle.cat_rules.proofs.LawLemmas.{counters-stay}
use Rattle.commit_rules.specs.Lawful.{new_rows}
use Rattle.commit_rules.specs.Laws.{RuleStays}
use Rattle.commit_rules.proofs.CoreLemmas.{IsCommit, after, after-commit, newest_after, same_row}
use Rattle.commit_rules.proofs.TableLemmas.{some-all_removed, some-ended, some-put_all, under_end}

-- a row after the commit that is bad is a new one, or was bad before
pub new_or_old : {R : Type 0} (key : R → List ℕ) (v : Validity R) (P : R → Type 0) → ((e : Option ℕ) (r : R) → P (v.with_end e r) → P r) → (m : ℕ) (ends news rs : List R)
    → SomeOf P (put_all key news (all_ended v key (ends_at key m ends) rs)) → SomeOf P news ⊎ SomeOf P rs
new_or_old key v P stays m ends news rs h =
    ⊎_elim (λ a. inl a) (λ b. inr (some-ended key v P m (under_end key v P m stays) ends rs b)) (some-put_all key P news (all_ended v key (ends_at key m ends) rs) h)

module _ (t : Tables) (head : SnapshotRow) (p : Parts) (endings : Endings) (c : IsCommit t head p endings) where
  abbrev u : Tables
  u = after t head p endings c

  pub counted_before : Holds (IsPastCounters t head)
  counted_before k bad = c.sane.1.1.1.1.1.1.1.1.1.1.1.0 k (head, c.is_head.last, bad)

  small : has_large_id p.snapshot ≡ false
  small = false_from_ne_true (has_large_id p.snapshot) (λ e. c.lawful.counters.past (of_snapshot p.snapshot) (inl (e, refl)))

  old : Holds (IsPastCounters t p.snapshot)
  old = counters-stay t head p.snapshot c.lawful.counters.catalog c.lawful.counters.file small counted_before

  new : Holds (IsPastCounters (new_rows p) p.snapshot)
  new = c.lawful.counters.past

  counted_after : Holds (IsPastCounters u p.snapshot)
  counted_after k (inl h) = new k (inl h)
  counted_after k (inr (inl h)) = ⊎_elim (λ a. new k (inr (inl a))) (λ b. old k (inr (inl b))) (new_or_old schema_key schema_validity _ (λ e r x. x) p.snapshot.snapshot_id p.ended_schema p.schema t.schema h)
  counted_after k (inr (inr (inl h))) = ⊎_elim (λ a. new k (inr (inr (inl a)))) (λ b. old k (inr (inr (inl b)))) (new_or_old table_key table_validity _ (λ e r x. x) p.snapshot.snapshot_id p.ended_table p.table t.table h)
  counted_after k (inr (inr (inr (inl h)))) =
      ⊎_elim (λ a. new k (inr (inr (inr (inl a))))) (λ b. old k (inr (inr (inr (inl b))))) (new_or_old column_key column_validity _ (λ e r x. x) p.snapshot.snapshot_id p.ended_column p.column t.column h)
  counted_after k (inr (inr (inr (inr (inl h))))) =
      ⊎_elim (λ a. new k (inr (inr (inr (inr (inl a)))))) (λ b. old k (inr (inr (inr (inr (inl b)))))) (new_or_old data_file_key data_file_validity _ (λ e r x. x) p.snapshot.snapshot_id p.ended_data_file p.data_file t.data_file h)
  counted_after k (inr (inr (inr (inr (inr (inl h)))))) =
      ⊎_elim (λ a. new k (inr (inr (inr (inr (inr (inl a))))))) (λ b. old k (inr (inr (inr (inr (inr (inl b))))))) (new_or_old delete_file_key delete_file_validity _ (λ e r x. x) p.snapshot.snapshot_id p.ended_delete_file p.delete_file t.delete_file h)
  counted_after k (inr (inr (inr (inr (inr (inr (inl h))))))) =
      ⊎_elim (λ a. new k (inr (inr (inr (inr (inr (inr (inl a)))))))) (λ b. old k (inr (inr (inr (inr (inr (inr (inl b)))))))) (some-put_all file_column_stats_key _ p.file_column_stats t.file_column_stats h)
  counted_after k (inr (inr (inr (inr (inr (inr (inr (inl h)))))))) =
      ⊎_elim (λ a. new k (inr (inr (inr (inr (inr (inr (inr (inl a))))))))) (λ b. old k (inr (inr (inr (inr (inr (inr (inr (inl (some-all_removed table_stats_key _ (map (λ (r : TableStatsRow). r.table_id ∷ []) p.old_stats) t.table_stats b))))))))))
      (some-put_all table_stats_key _ p.table_stats _ h)
  counted_after k (inr (inr (inr (inr (inr (inr (inr (inr h)))))))) =
      ⊎_elim (λ a. new k (inr (inr (inr (inr (inr (inr (inr (inr a))))))))) (λ b. old k (inr (inr (inr (inr (inr (inr (inr (inr b)))))))))
      (new_or_old inlined_row_key inlined_row_validity _ (λ e r x. x) p.snapshot.snapshot_id p.ended_inlined_row p.inlined_row t.inlined_row h)

  ids_after : Holds (IsIdBad u)
  ids_after k bad = counted_after k (subst (λ (q : SnapshotRow). IsPastCounters u q k) (same_row (sym bad.1 ∙ newest_after t head p endings c)) bad.2)

pub ids-stay : RuleStays IsIdBad
ids-stay = after-commit (λ (u : Tables). Holds (IsIdBad u)) ids_after
