-- The statistics of new files' columns are right.
use Rattle.std.proofs.Common.{◌≡◌, ◌⊎◌, inl, inr, ⊎_elim, ℕ, ◌+◌, ◌<◌, ◌≤◌, Bool, true, false, cond, List, [], ◌∷◌, map, filter, refl, sym, ap, ◌∙◌, subst, arith, Option, Some, None, true≢false}
use Rattle.std.specs.Prelude.{All, is_none, nat_lt, option_map}
use Rattle.std.specs.List.{AllByRecursion}
use Rattle.std.proofs.lemmas.Bool.{eqb-true, false_from_ne_true}
use Rattle.std.proofs.lemmas.Option.{same_Some}
use Rattle.std.proofs.lemmas.List.Elements.{All-contains}
use Rattle.std.proofs.lemmas.List.Sums.{count_by-le-length}
use Rattle.lake_types.specs.Texts.{value_text}
use Rattle.lake_types.specs.declared.sheet.SheetColumn.{SheetColumn}
use Rattle.lake_types.specs.declared.value.ColType.{ColType}
use Rattle.lake_types.specs.declared.value.Column.{Column}
use Rattle.lake_types.specs.declared.value.Value.{Value}
use Rattle.lake_types.specs.declared.value.Value.TheVariants as value
use Rattle.lake_model.specs.Apply.{Draft, table_id}
use Rattle.lake_rebase.proofs.MemberLemmas.{In, all_by, all_in, in_cases, in_kept, in_map, in_of, of_in}
use Rattle.col_stats.specs.Bounds.{HasBound, bound_text, is_value, values}
use Rattle.col_stats.specs.Stats.{is_null}
use Rattle.col_stats.specs.declared.bounds.Side.{Side}
use Rattle.col_stats.specs.declared.bounds.Side.TheVariants as side
use Rattle.col_stats.specs.declared.stats.ColStats.{ColStats}
use Rattle.sheet_rows.specs.Sheets.{is_data}
use Rattle.cat_tables.specs.Table.{IsAscending}
use Rattle.cat_tables.specs.Validity.{all_ended, ended_at, ends_at}
use Rattle.cat_tables.proofs.KeyLemmas.{key_eq}
use Rattle.cat_rows.specs.Keys.{column_key, data_file_key}
use Rattle.cat_rows.specs.Validities.{column_laws, column_validity}
use Rattle.cat_rows.specs.declared.files.DataFileRow.{DataFileRow}
use Rattle.cat_rows.specs.declared.files.FileColumnStatsRow.{FileColumnStatsRow}
use Rattle.cat_rows.specs.declared.files.TableStatsRow.{TableStatsRow}
use Rattle.cat_rows.specs.declared.schemas.ColumnRow.{ColumnRow}
use Rattle.cat_rules.specs.ColumnStatsRule.{AreStatsWrong, HasUnreadableBound}
use Rattle.cat_rules.specs.Lookups.{HasRow, IsFieldPast, column_of, file_of, last, newest_row}
use Rattle.cat_rules.specs.Readable.{IsReadable, IsUnreadable}
use Rattle.cat_rules.proofs.FirstLemmas.{all_like}
use Rattle.cat_texts.specs.Types.{type_text}
use Rattle.cat_texts.specs.Written.{stats_row}
use Rattle.cat_texts.proofs.TypeLemmas.{reads_type}
use Rattle.cat_view.specs.Named.{ordered, put_by}
use Rattle.cat_view.specs.Sight.{column_rows, is_in_table}
use Rattle.cat_view.specs.Staged.{HasStats, IsColumnOf}
use Rattle.commit_rules.specs.Lawful.{AreStatsRight}
use Rattle.commit_rules.proofs.EndedLemmas.{ended_alike}
use Rattle.commit_rules.proofs.HistoryLemmas.{first_number}
use Rattle.commit_rules.proofs.TableLemmas as rules
use Rattle.rebase.specs.Parts.{FreshFile, file_rows_from, stats_rows_from}
use Rattle.cat_view.specs.Typed.{IsOf, IsTyped}
use Rattle.commit_laws.specs.Commits.{AreTyped}
use Rattle.commit_laws.proofs.AfterLemmas.{after, made_new}
use Rattle.commit_laws.proofs.CaseLemmas.{Case, columns_low, fresh, head, new, next, number, parts, seen}
use Rattle.commit_laws.proofs.ColumnLemmas as columns
use Rattle.commit_laws.proofs.ColumnLemmas.{IsNewColumn, id_of, made, new_column, one_draft, one_number, past_of, table_is}
use Rattle.commit_laws.proofs.FileLemmas.{row_of_file, sheet_of, stats-after}
use Rattle.commit_laws.proofs.HolderLemmas.{Holder, NewHolder, OldHolder, holder}
use Rattle.commit_laws.proofs.ListLemmas.{Beside, finds_new, in_of_some, in_zip, some_in, mapped_some}
use Rattle.commit_laws.proofs.MadeLemmas.{IsMade, made_are, made_fields_rise}
use Rattle.commit_laws.proofs.NewColumnLemmas.{reads_on}
use Rattle.commit_rules.proofs.ColumnStatsLemmas.{last_mapped, two_numbers}
use Rattle.commit_laws.proofs.NewestLemmas.{is_column, last_member, newest_type}
use Rattle.commit_laws.proofs.RowLemmas.{file_ids_from}
use Rattle.commit_laws.proofs.SeenLemmas.{tables_seen}

-- ---- lists

in_put_by : {X : Type 0} (n : X → ℕ) (x y : X) (xs : List X) → In x (put_by n y xs) → In x (y ∷ xs)
in_put_by n x y [] there = there
in_put_by n x y (z ∷ xs) there = go (nat_lt (n z) (n y)) there (in_put_by n x y xs)
  where
    go : (b : Bool) → In x (cond b (z ∷ put_by n y xs) (y ∷ z ∷ xs)) → (In x (put_by n y xs) → In x (y ∷ xs)) → In x (y ∷ z ∷ xs)
    go true (inl same) more = inr (inl same)
    go true (inr later) more = ⊎_elim (λ same. inl same) (λ rest. inr (inr rest)) (more later)
    go false h more = h

pub in_ordered : {X : Type 0} (n : X → ℕ) (x : X) (xs : List X) → In x (ordered n xs) → In x xs
in_ordered n x [] there = there
in_ordered n x (y ∷ xs) there = ⊎_elim (λ same. inl same) (λ later. inr (in_ordered n x xs later)) (in_put_by n x y (ordered n xs) there)

-- ---- bounds

has_value : (v : Value) → is_value v ≡ true → v ≡ value.Null → ⊥
has_value v is e = true≢false (sym is ∙ ap is_value e)

all_values : (ty : ColType) (vs : List Value) → All (IsOf ty) vs → (v : Value) → In v (values vs) → IsReadable (type_text ty) (value_text v)
all_values ty vs all v there =
    let m = in_kept is_value v vs there in
    let of = All-contains (IsOf ty) vs v all (of_in v vs m.0) in
    (ty, reads_type ty, (v, (has_value v m.1, of.fits, of.bytes, refl)))

readable_bound : (ty : ColType) (s : Side) (vs : List Value) → All (IsOf ty) vs → (bound : Option Value) → HasBound s (values vs) bound → IsUnreadable (type_text ty) (bound_text bound) → ⊥
readable_bound ty s vs all None has bad = bad
readable_bound ty s vs all (Some v) has bad = bad (all_values ty vs all v (in_of v (values vs) has.0.0))

module _ (k : Case) where
  -- ---- the file of an id

  ids_up : (id : ℕ) (xs : List FreshFile) → IsAscending (λ (a b : DataFileRow). a.data_file_id < b.data_file_id) (file_rows_from k.t (number k + 1) (next k) (new k) id xs)
  ids_up id [] = tt
  ids_up id (x ∷ xs) = (
    all_like (λ (r : DataFileRow). id + 1 ≤ r.data_file_id) (λ (r : DataFileRow). id < r.data_file_id) (λ r le. omega (arith, le)) (file_rows_from k.t (number k + 1) (next k) (new k) (id + 1) xs) (file_ids_from k.t (number k + 1) (next k) (new k) (id + 1) (id + 1) xs (omega arith)),
    ids_up (id + 1) xs,
  )

  file_after : (r : DataFileRow) → In r (parts k).data_file → file_of (after k) r.data_file_id ≡ Some r
  file_after r there =
      finds_new data_file_key (r.data_file_id ∷ []) r (parts k).data_file _ there refl
      (λ q h same. one_number (λ (x : DataFileRow). x.data_file_id) q r (parts k).data_file (ids_up k.c.sound.newest.next_file_id (fresh k)) h there (first_number same))

  record IsStatsRow (r : FileColumnStatsRow) : Type 0 where
    id : ℕ
    file : FreshFile
    there : In file (fresh k)
    row : In (row_of_file k id file) (parts k).data_file
    stats : ColStats
    stated : In stats file.file.stats
    is : stats_row id stats ≡ r

  rows-of : (id : ℕ) (xs : List FreshFile) → ((x : FreshFile) → In x xs → In x (fresh k)) → ((q : DataFileRow) → In q (file_rows_from k.t (number k + 1) (next k) (new k) id xs) → In q (parts k).data_file) → (r : FileColumnStatsRow) → In r (stats_rows_from id xs) → IsStatsRow r
  rows-of id [] within rows r there = absurd there
  rows-of id (x ∷ xs) within rows r there =
      ⊎_elim
      (λ here. let m = in_map (stats_row id) r x.file.stats here in record { id = id; file = x; there = within x (inl refl); row = rows (row_of_file k id x) (inl refl); stats = m.of; stated = m.there; is = m.is })
      (λ later. rows-of (id + 1) xs (λ y h. within y (inr h)) (λ q h. rows q (inr h)) r later)
      (in_cases r (map (stats_row id) x.file.stats) (stats_rows_from (id + 1) xs) there)

  -- ---- the newest row of a file's column

  column_after : (c : ColumnRow) → In c (after k).column → In c (parts k).column ⊎ (c.table_id < next k)
  column_after c there =
      ⊎_elim (λ now. inl (in_of_some c (parts k).column now))
      (λ old. let low = rules.all_in (λ (x : ColumnRow). x.table_id < next k) c _ (rules.all-ended column_key column_validity (λ (x : ColumnRow). x.table_id < next k) (number k + 1) (rules.over_end column_key column_validity (λ (x : ColumnRow). x.table_id < next k) (number k + 1) (λ e r h. h)) (parts k).ended_column k.t.column (columns_low k)) old in inr low)
      (rules.some-put_all column_key (λ x. x ≡ c) (parts k).column _ (some_in (λ x. x ≡ c) c (after k).column there refl))

  newest_new : (x : FreshFile) (cs : List Column) → NewHolder k x cs → (column : Column) → In column cs → (c : ColumnRow) → newest_row (table_id (next k) (new k) x.table) column.field (after k).column ≡ Some c → c.column_type ≡ type_text column.ty
  newest_new x cs h column there c e =
      let table : table_id (next k) (new k) x.table ≡ id_of k h.draft = ap (table_id (next k) (new k)) h.at_is in
      let m = in_kept (is_column (table_id (next k) (new k) x.table) column.field) c (after k).column (last_member c _ e) in
      let ids = two_numbers (key_eq (column_of c) (table_id (next k) (new k) x.table ∷ column.field ∷ []) m.1) in
      let past = made_new k h.draft h.there in
      let t_is = ids.0 in
      ⊎_elim (λ now. new_type h.draft h.there column (subst (In column) (sym h.columns_are) there) c (new_column k c now) (ids.0 ∙ table) ids.1)
      (λ low. absurd (omega (arith, low, past, t_is, table))) (column_after c m.0)
    where
      new_type : (d : Draft) → In d (made k) → (column : Column) → In column d.columns → (c : ColumnRow) (m : IsNewColumn k c) → c.table_id ≡ id_of k d → c.column_id ≡ column.field → c.column_type ≡ type_text column.ty
      new_type d made_is column there c m table field =
          let draft = one_draft k m.item d m.there made_is (sym (table_is k c m) ∙ table) in
          let z = columns.column_of k c m in
          let here : In z.item d.columns = subst (λ (e : Draft). In z.item e.columns) draft z.there in
          let up = made_fields_rise d (all_in IsMade d (made k) (made_are 0 k.own) made_is) in
          let same = one_number (λ (y : Column). y.field) z.item column d.columns up here there (sym (ap (λ (y : ColumnRow). y.column_id) z.is.is) ∙ field) in
          ap (λ (y : ColumnRow). y.column_type) z.is.is ∙ ap (λ (y : Column). type_text y.ty) same

  none_new : (b : ColumnRow) → b.table_id < next k → AllByRecursion (λ (r : ColumnRow). is_column b.table_id b.column_id r ≡ false) (parts k).column
  none_new b low = all_by _ (parts k).column (λ (r : ColumnRow) h.
      false_from_ne_true (is_column b.table_id b.column_id r) (λ has. let ids = two_numbers (key_eq (column_of r) (b.table_id ∷ b.column_id ∷ []) has) in let past = past_of k r h in let same = ids.0 in omega (arith, past, low, same)))

  newest_before : (b : ColumnRow) → In b (seen k).column → (c : ColumnRow) → newest_row b.table_id b.column_id (after k).column ≡ Some c → (d : ColumnRow) × (newest_row b.table_id b.column_id k.t.column ≡ Some d) × (c.column_type ≡ d.column_type)
  newest_before b seen_b c e =
      let test = is_column b.table_id b.column_id in
      let low = all_in (λ (r : ColumnRow). r.table_id < next k) b (seen k).column (columns.seen_columns_low k) seen_b in
      let ends = all_ended column_validity column_key (ends_at column_key (number k + 1) (parts k).ended_column) k.t.column in
      let left : filter test (after k).column ≡ filter test ends = rules.filter-put_all column_key test (parts k).column ends (none_new b low) in
      let opens : map (column_validity.with_end None) (filter test ends) ≡ map (column_validity.with_end None) (filter test k.t.column) =
      ended_alike column_key column_validity column_laws (column_validity.with_end None) (λ e r. refl) test (number k + 1) (alike b) (parts k).ended_column k.t.column in
      let is : option_map (column_validity.with_end None) (newest_row b.table_id b.column_id k.t.column) ≡ Some (column_validity.with_end None c) =
      sym (last_mapped (column_validity.with_end None) (filter test k.t.column)) ∙ ap last (sym opens) ∙ last_mapped (column_validity.with_end None) (filter test ends) ∙ ap (λ l. option_map (column_validity.with_end None) (last l)) (sym left) ∙ ap (option_map (column_validity.with_end None)) e in
      let d = mapped_some (column_validity.with_end None) (newest_row b.table_id b.column_id k.t.column) (column_validity.with_end None c) is in
      (d.0, d.1, sym (ap (λ (r : ColumnRow). r.column_type) d.2))
    where
      alike : (b r : ColumnRow) → is_column b.table_id b.column_id (ended_at column_validity (number k + 1) r) ≡ is_column b.table_id b.column_id r
      alike b r = elim (is_none r.end_snapshot) as (λ t. is_column b.table_id b.column_id (cond t (column_validity.with_end (Some (number k + 1)) r) r) ≡ is_column b.table_id b.column_id r) [ true ↦ refl | false ↦ refl ]

  -- of a column that the head sees
  newest_seen : (b : ColumnRow) → In b (seen k).column → (column : Column) → column.field ≡ b.column_id → type_text column.ty ≡ b.column_type
      → (c : ColumnRow) → newest_row b.table_id column.field (after k).column ≡ Some c → c.column_type ≡ type_text column.ty
  newest_seen b there column field type c e =
      let before = newest_before b there c (subst (λ n. newest_row b.table_id n (after k).column ≡ Some c) field e) in
      before.2 ∙ newest_type k b before.0 there before.1 ∙ sym type

  newest_old : (x : FreshFile) (cs : List Column) → OldHolder k x cs → (column : Column) → In column cs → (c : ColumnRow) → newest_row (table_id (next k) (new k) x.table) column.field (after k).column ≡ Some c → c.column_type ≡ type_text column.ty
  newest_old x cs h column there c e =
      let q = in_zip _ h.table (seen k).table (head k).tables (tables_seen k) h.there in
      let b = in_zip _ column (column_rows q.item.table_id (seen k).column) h.table.columns q.is.columns (subst (In column) (sym h.columns_are) there) in
      let of_table = in_kept (is_in_table q.item.table_id) b.item (seen k).column (in_ordered (λ (r : ColumnRow). r.column_order) b.item _ b.there) in
      let table : b.item.table_id ≡ h.table.id = eqb-true b.item.table_id q.item.table_id of_table.1 ∙ sym q.is.id in
      let at : table_id (next k) (new k) x.table ≡ b.item.table_id = ap (table_id (next k) (new k)) h.at_is ∙ sym table in
      newest_seen b.item of_table.0 column b.is.field b.is.ty c (subst (λ n. newest_row n column.field (after k).column ≡ Some c) at e)

  -- ---- a new row of statistics

  module _ (x : FreshFile) (there : In x (fresh k)) (s : ColStats) (stated : In s x.file.stats) where
    abbrev h : Holder k x
    h = holder k x there

    abbrev table : ℕ
    table = table_id (next k) (new k) x.table

    abbrev c : Beside (λ (z : ColStats) (y : SheetColumn). HasStats y z) s (filter is_data h.sheet.columns)
    c = in_zip HasStats s (filter is_data h.sheet.columns) x.file.stats h.staged.stats stated

    abbrev column : Beside (λ (z : SheetColumn) (y : Column). IsColumnOf y z) c.item h.columns
    column = in_zip IsColumnOf c.item h.columns (filter is_data h.sheet.columns) h.staged.columns_are c.there

    typed : IsTyped h.sheet.rows c.item
    typed = all_in (IsTyped h.sheet.rows) c.item (filter is_data h.sheet.columns) (all_in (AreTyped k.more) x (fresh k) k.c.typed there h.sheet (sheet_of k x h)) c.there

    field_is : s.field ≡ column.item.field
    field_is = same_Some _ _ (sym c.is.field ∙ column.is.field)

    within : IsFieldPast (after k) table s.field → ⊥
    within past =
        let a = stats-after k x there h in
        let le : a.stats.next_field_id ≤ s.field = subst (λ o. HasRow o (λ (r : TableStatsRow). r.next_field_id ≤ s.field)) a.is past in
        let lt = all_in (λ (y : Column). y.field < a.stats.next_field_id) column.item h.columns a.fields column.there in
        let same = field_is in
        omega (arith, le, lt, same)

    few_nulls : x.file.rows < s.nulls → ⊥
    few_nulls lt =
        let nulls = c.is.counted.nulls in
        let le = count_by-le-length is_null c.item.cells in
        let count = typed.count in let rows = h.staged.rows in
        omega (arith, lt, nulls, le, count, rows)

    newest_is : (r : ColumnRow) → newest_row table s.field (after k).column ≡ Some r → r.column_type ≡ type_text c.item.ty
    newest_is r e =
        let at : newest_row table column.item.field (after k).column ≡ Some r = ap (λ n. newest_row table n (after k).column) (sym field_is) ∙ e in
        ⊎_elim (λ old. newest_old x h.columns old column.item column.there r at) (λ now. newest_new x h.columns now column.item column.there r at) h.of ∙ ap type_text (sym column.is.type)

    readable : HasUnreadableBound (after k) table (stats_row 0 s) → ⊥
    readable bad = go (newest_row table s.field (after k).column) refl bad
      where
        go : (o : Option ColumnRow) → newest_row table s.field (after k).column ≡ o → HasRow o (λ (r : ColumnRow). IsUnreadable r.column_type (bound_text s.min) ⊎ IsUnreadable r.column_type (bound_text s.max)) → ⊥
        go None e bad = bad
        go (Some r) e bad =
            let type = newest_is r e in
            ⊎_elim (λ low. readable_bound c.item.ty side.Least c.item.cells typed.cells s.min c.is.counted.min (subst (λ t. IsUnreadable t (bound_text s.min)) type low))
            (λ high. readable_bound c.item.ty side.Greatest c.item.cells typed.cells s.max c.is.counted.max (subst (λ t. IsUnreadable t (bound_text s.max)) type high)) bad

    right : (id : ℕ) → In (row_of_file k id x) (parts k).data_file → AreStatsWrong (after k) (stats_row id s) → ⊥
    right id row bad = go (subst (λ o. HasRow o (λ (f : DataFileRow). IsFieldPast (after k) f.table_id s.field ⊎ ((f.record_count < s.nulls) ⊎ HasUnreadableBound (after k) f.table_id (stats_row id s)))) (file_after (row_of_file k id x) row) bad)
      where
        go : IsFieldPast (after k) table s.field ⊎ ((x.file.rows < s.nulls) ⊎ HasUnreadableBound (after k) table (stats_row id s)) → ⊥
        go (inl past) = within past
        go (inr (inl many)) = few_nulls many
        go (inr (inr unread)) = readable unread

  row_right : (r : FileColumnStatsRow) → In r (parts k).file_column_stats → AreStatsWrong (after k) r → ⊥
  row_right r there bad =
      let m = rows-of k.c.sound.newest.next_file_id (fresh k) (λ y h. h) (λ q h. h) r there in
      right m.file m.there m.stats m.stated m.id m.row (subst (AreStatsWrong (after k)) (sym m.is) bad)

  pub column_stats_right : AreStatsRight k.t (parts k)
  column_stats_right = record { new = all_by (λ (r : FileColumnStatsRow). AreStatsWrong (after k) r → ⊥) (parts k).file_column_stats row_right; columns = reads_on k }
