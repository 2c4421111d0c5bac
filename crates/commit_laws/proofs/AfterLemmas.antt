-- What is found after the commit of the tables that it makes and of those that it inserts into.
use Rattle.std.proofs.Common.{◌≡◌, ◌⊎◌, inl, inr, ⊎_elim, ◌+◌, ◌<◌, ◌≤◌, true, [], ◌∷◌, map, refl, sym, ap, ◌∙◌, subst, arith, Some}
use Rattle.std.specs.Prelude.{option_map}
use Rattle.std.proofs.lemmas.Option.{same_Some}
use Rattle.std.specs.List.{AllByRecursion}
use Rattle.lake_model.specs.Apply.{Draft}
use Rattle.lake_model.specs.declared.change.Ref.{Ref}
use Rattle.lake_model.specs.declared.change.Ref.TheVariants as ref
use Rattle.lake_rebase.proofs.MemberLemmas.{In, IsImage, all_in, in_cases, in_left, in_map, in_right, map_in}
use Rattle.cat_tables.proofs.RowLemmas.{key-row_of}
use Rattle.cat_rows.specs.Keys.{table_key, table_stats_key}
use Rattle.cat_rows.specs.Parts.{with_parts}
use Rattle.cat_rows.specs.Tables.{Tables}
use Rattle.cat_rows.specs.declared.files.TableStatsRow.{TableStatsRow}
use Rattle.cat_rows.specs.declared.schemas.TableRow.{TableRow}
use Rattle.cat_rules.specs.CounterRule.{is_not_past}
use Rattle.cat_rules.specs.Lookups.{stats_of_table, table_of}
use Rattle.cat_rules.specs.Places.{of_table_stats}
use Rattle.cat_rules.proofs.DatedLemmas.{all_fine, row_of_all}
use Rattle.cat_rules.proofs.FirstLemmas.{all_like}
use Rattle.commit_rules.proofs.HistoryLemmas.{first_number}
use Rattle.commit_rules.proofs.StatsLemmas.{below}
use Rattle.rebase.specs.Parts.{FreshFile, made_stats, old_stats, restated, restated_of, table_row}
use Rattle.commit_laws.proofs.CaseLemmas.{Case, counted, fresh, new, next, number, parts}
use Rattle.commit_laws.proofs.ColumnLemmas.{id_of, made, one_draft}
use Rattle.commit_laws.proofs.FreshLemmas.{one_file}
use Rattle.commit_laws.proofs.ListLemmas.{finds_new, in_picked, picked_in, mapped_some}
use Rattle.commit_laws.proofs.MadeLemmas.{table_ids_new}

pub old_stats_id : (t : Tables) (at : Ref) (q : TableStatsRow) → old_stats t at ≡ Some q → at ≡ ref.Old q.table_id
old_stats_id t (ref.Old id) q e = ap ref.Old (sym (first_number (key-row_of table_stats_key (id ∷ []) t.table_stats q e)))
old_stats_id t (ref.New place) q e = absurd cc

module _ (k : Case) where
  abbrev pub after : Tables
  after = with_parts (parts k) k.t

  pub made_new : (d : Draft) → In d (made k) → next k ≤ id_of k d
  made_new d there = all_in (λ (x : Draft). next k ≤ id_of k x) d (made k) (table_ids_new (next k) k.own) there

  -- ---- tables

  abbrev pub row_of_made : Draft → TableRow
  row_of_made = table_row (number k + 1) (next k) (new k)

  pub table_after : (d : Draft) → In d (made k) → table_of after (id_of k d) ≡ Some (row_of_made d)
  table_after d there =
      finds_new table_key (id_of k d ∷ []) (row_of_made d) (parts k).table _ (map_in row_of_made d (made k) there) refl
      (λ r h same.
      let m = in_map row_of_made r (made k) h in
      let id : id_of k m.of ≡ id_of k d = ap (λ (x : TableRow). x.table_id) m.is ∙ first_number same in
      sym m.is ∙ ap row_of_made (one_draft k m.of d m.there there id))

  -- ---- statistics

  pub stats_low : AllByRecursion (λ (r : TableStatsRow). r.table_id < next k) k.t.table_stats
  stats_low =
      all_like _ _ (λ (r : TableStatsRow) fine. below (next k) r.table_id fine) k.t.table_stats
      (all_fine of_table_stats (λ (r : TableStatsRow). is_not_past (next k) r.table_id ≡ true) k.t.table_stats (λ j h. counted k j (inr (inr (inr (inr (inr (inr (inr (inl h))))))))))

  pub record IsRestated (r : TableStatsRow) : Type 0 where
    pub file : FreshFile
    pub there : In file (fresh k)
    pub old : TableStatsRow
    pub old_is : old_stats k.t file.table ≡ Some old
    pub is : restated file.file old ≡ r

  abbrev pub stats_of_made : Draft → TableStatsRow
  stats_of_made = made_stats (next k) (new k) k.staged

  pub restated-is : (r : TableStatsRow) → In r (restated_of k.t (fresh k)) → IsRestated r
  restated-is r there =
      let m = in_picked (λ (x : FreshFile). option_map (restated x.file) (old_stats k.t x.table)) r (fresh k) there in
      let q = mapped_some (restated m.item.file) (old_stats k.t m.item.table) r m.is in
      record { file = m.item; there = m.there; old = q.0; old_is = q.1; is = q.2 }

  pub stats_cases : (r : TableStatsRow) → In r (parts k).table_stats → IsRestated r ⊎ IsImage stats_of_made r (made k)
  stats_cases r there = ⊎_elim (λ old. inl (restated-is r old)) (λ now. inr (in_map stats_of_made r (made k) now)) (in_cases r (restated_of k.t (fresh k)) (map stats_of_made (made k)) there)

  old_low : (at : Ref) (q : TableStatsRow) → old_stats k.t at ≡ Some q → q.table_id < next k
  old_low (ref.Old id) q e = row_of_all table_stats_key (id ∷ []) (λ (r : TableStatsRow). r.table_id < next k) k.t.table_stats stats_low q e
  old_low (ref.New place) q e = absurd cc

  pub restated_low : (r : TableStatsRow) → IsRestated r → r.table_id < next k
  restated_low r m = subst (λ (x : TableStatsRow). x.table_id < next k) m.is (old_low m.file.table m.old m.old_is)

  pub made_stats_after : (d : Draft) → In d (made k) → stats_of_table after (id_of k d) ≡ Some (stats_of_made d)
  made_stats_after d there =
      finds_new table_stats_key (id_of k d ∷ []) (stats_of_made d) (parts k).table_stats _ (in_right (stats_of_made d) (restated_of k.t (fresh k)) (map stats_of_made (made k)) (map_in stats_of_made d (made k) there)) refl
      (λ r h same. go r same (stats_cases r h))
    where
      go : (r : TableStatsRow) → r.table_id ∷ [] ≡ id_of k d ∷ [] → IsRestated r ⊎ IsImage stats_of_made r (made k) → r ≡ stats_of_made d
      go r same (inl m) = let low = restated_low r m in let past = made_new d there in let e : r.table_id ≡ id_of k d = first_number same in absurd (omega (arith, low, past, e))
      go r same (inr m) = let id : id_of k m.of ≡ id_of k d = ap (λ (x : TableStatsRow). x.table_id) m.is ∙ first_number same in sym m.is ∙ ap stats_of_made (one_draft k m.of d m.there there id)

  pub old_stats_after : (x : FreshFile) (q : TableStatsRow) → In x (fresh k) → old_stats k.t x.table ≡ Some q → stats_of_table after q.table_id ≡ Some (restated x.file q)
  old_stats_after x q there e =
      finds_new table_stats_key (q.table_id ∷ []) (restated x.file q) (parts k).table_stats _
      (in_left (restated x.file q) (restated_of k.t (fresh k)) (map stats_of_made (made k)) (picked_in (λ (y : FreshFile). option_map (restated y.file) (old_stats k.t y.table)) x (restated x.file q) (fresh k) there (ap (option_map (restated x.file)) e)))
      refl (λ r h same. go r same (stats_cases r h))
    where
      go : (r : TableStatsRow) → r.table_id ∷ [] ≡ q.table_id ∷ [] → IsRestated r ⊎ IsImage stats_of_made r (made k) → r ≡ restated x.file q
      go r same (inl m) =
          let id : m.old.table_id ≡ q.table_id = ap (λ (y : TableStatsRow). y.table_id) m.is ∙ first_number same in
          let tables : m.file.table ≡ x.table = old_stats_id k.t m.file.table m.old m.old_is ∙ ap ref.Old id ∙ sym (old_stats_id k.t x.table q e) in
          let files = one_file k.staged m.file x k.c.stage.once m.there there tables in
          let olds : m.old ≡ q = same_Some m.old q (sym m.old_is ∙ ap (old_stats k.t) tables ∙ e) in
          sym m.is ∙ ap (λ (y : FreshFile). restated y.file m.old) files ∙ ap (restated x.file) olds
      go r same (inr m) =
          let past = made_new m.of m.there in let low = old_low x.table q e in
          let id : id_of k m.of ≡ q.table_id = ap (λ (y : TableStatsRow). y.table_id) m.is ∙ first_number same in
          absurd (omega (arith, past, low, id))
