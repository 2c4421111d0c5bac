-- Rows rise by key after a commit: ends keep their keys, and new ones come last.
use Rattle.std.proofs.Common.{◌≡◌, ℕ, ◌+◌, true, List, [], ◌∷◌, ◌++◌, map, refl, sym, ap, subst, is_lt}
use Rattle.std.specs.List.{AllByRecursion}
use Rattle.cat_tables.specs.Table.{ArePast, IsBelow, RisesByKey, edited, key_cmp, put_all}
use Rattle.cat_tables.specs.Validity.{IsValidity, Validity, all_ended, ended_at, ends_at}
use Rattle.cat_tables.proofs.FrameLemmas.{key-ended_at}
use Rattle.cat_tables.proofs.PlaceLemmas.{less_is}
use Rattle.cat_tables.proofs.PutLemmas.{RisesByKey-edited}
use Rattle.cat_tables.proofs.SightLemmas.{past_all_ended, put_all-last}
use Rattle.cat_rows.specs.Batches.{applied}
use Rattle.cat_rows.specs.Keys.{column_key, data_file_key, delete_file_key, inlined_row_key, schema_key, table_key}
use Rattle.cat_rows.specs.Parts.{batch_of, with_parts}
use Rattle.cat_rows.specs.Validities.{column_laws, column_validity, data_file_laws, data_file_validity, delete_file_laws, delete_file_validity, inlined_row_laws, inlined_row_validity, schema_laws, schema_validity, table_laws, table_validity}
use Rattle.cat_rows.proofs.PartLemmas.{applied-parts}
use Rattle.cat_rules.proofs.FirstLemmas.{all_like}
use Rattle.commit_rules.specs.Laws.{AreRising}
use Rattle.commit_laws.proofs.CaseLemmas.{Case, number, of-cases, parts}
use Rattle.commit_laws.proofs.ListLemmas.{all_append}
use Rattle.commit_laws.proofs.PartLemmas.{parts_of-case}
use Rattle.commit_laws.specs.AgainLaws.{RowsRiseAfter}

module _ {R : Type 0} (key : R → List ℕ) where
  above_first : (r : R) (rows news : List R) → ArePast key news (r ∷ rows) → AllByRecursion (IsBelow key r) news
  above_first r rows [] past = tt
  above_first r rows (new ∷ news) past = (less_is _ past.0.0, above_first r rows news past.2)

  past_rest : (r : R) (rows news : List R) → ArePast key news (r ∷ rows) → ArePast key news rows
  past_rest r rows [] past = tt
  past_rest r rows (new ∷ news) past = (past.0.1, past.1, past_rest r rows news past.2)

  pub news_rise : (news rows : List R) → ArePast key news rows → RisesByKey key news
  news_rise [] rows past = tt
  news_rise (new ∷ news) rows past =
      (all_like (λ r. is_lt (key_cmp (key new) (key r)) ≡ true) (IsBelow key new) (λ r lt. less_is (key_cmp (key new) (key r)) lt) news past.1, news_rise news rows past.2)

  rise_behind : (rows news : List R) → RisesByKey key rows → ArePast key news rows → RisesByKey key (rows ++ news)
  rise_behind [] news up past = news_rise news [] past
  rise_behind (r ∷ rows) news up past = (all_append (IsBelow key r) rows news up.0 (above_first r rows news past), rise_behind rows news up.1 (past_rest r rows news past))

  module _ (v : Validity R) (laws : IsValidity v key) (m : ℕ) where
    rise_ended : (ends rows : List R) → RisesByKey key rows → RisesByKey key (all_ended v key (ends_at key m ends) rows)
    rise_ended [] rows up = up
    rise_ended (e ∷ ends) rows up = rise_ended ends (edited key (ended_at v m) (key e) rows) (RisesByKey-edited key (ended_at v m) (key e) (key-ended_at key v laws m) rows up)

    pairs : (ends : List R) → map (λ k. (k, m)) (map key ends) ≡ ends_at key m ends
    pairs [] = refl
    pairs (e ∷ ends) = ap (λ l. (key e, m) ∷ l) (pairs ends)

    -- a table after its part of a batch
    pub rise_on : (ends news rows : List R) → RisesByKey key rows → ArePast key news rows → RisesByKey key (put_all key news (all_ended v key (ends_at key m ends) rows))
    rise_on ends news rows up past =
        let still : ArePast key news (all_ended v key (ends_at key m ends) rows) = subst (λ es. ArePast key news (all_ended v key es rows)) (pairs ends) (past_all_ended key v laws m (map key ends) news rows past) in
        subst (RisesByKey key) (sym (put_all-last key news (all_ended v key (ends_at key m ends) rows) still)) (rise_behind (all_ended v key (ends_at key m ends) rows) news (rise_ended ends rows up) still)

module _ (k : Case) where
  abbrev m : ℕ
  m = number k + 1

  rising : AreRising (with_parts (parts k) k.t)
  rising = record {
    schema = rise_on schema_key schema_validity schema_laws m (parts k).ended_schema (parts k).schema k.t.schema k.c.rising.schema (parts_of-case k).schema.past;
    table = rise_on table_key table_validity table_laws m (parts k).ended_table (parts k).table k.t.table k.c.rising.table (parts_of-case k).table.past;
    column = rise_on column_key column_validity column_laws m (parts k).ended_column (parts k).column k.t.column k.c.rising.column (parts_of-case k).column.past;
    data_file = rise_on data_file_key data_file_validity data_file_laws m (parts k).ended_data_file (parts k).data_file k.t.data_file k.c.rising.data_file (parts_of-case k).data_file.past;
    delete_file = rise_on delete_file_key delete_file_validity delete_file_laws m (parts k).ended_delete_file (parts k).delete_file k.t.delete_file k.c.rising.delete_file (parts_of-case k).delete_file.past;
    inlined_row = rise_on inlined_row_key inlined_row_validity inlined_row_laws m (parts k).ended_inlined_row (parts k).inlined_row k.t.inlined_row k.c.rising.inlined_row (parts_of-case k).inlined_row.past;
  }

  rising_after : AreRising (applied (batch_of (parts k)) k.t)
  rising_after = subst AreRising (sym (applied-parts (parts k) k.t)) rising

pub rows-rise : RowsRiseAfter
rows-rise = of-cases (λ t head p own. AreRising (applied (batch_of p) t)) rising_after
