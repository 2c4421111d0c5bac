-- What a kept snapshot sees is a tidy state, since it breaks no rule on schemas, tables and columns.
use Rattle.std.proofs.Common.{◌≡◌, ◌≢◌, ◌⊎◌, inl, inr, ⊎_elim, ℕ, ◌+◌, ◌<◌, ◌≤◌, Bool, true, false, cond, List, [], ◌∷◌, filter, length, map, refl, sym, ap, ◌∙◌, subst, arith, Option, Some, None, is_lt}
use Rattle.std.specs.Prelude.{count_by, nat_lt}
use Rattle.std.specs.List.{AllByRecursion, AllZip}
use Rattle.std.proofs.lemmas.Option.{same_Some}
use Rattle.std.proofs.lemmas.Bool.{and_from, cases_lt, eq-eqb, eqb-true}
use Rattle.lake_types.specs.Fits.{fits}
use Rattle.lake_types.specs.Texts.{HasText}
use Rattle.lake_types.specs.declared.kind.SchemaName.{SchemaName}
use Rattle.lake_types.specs.declared.limits.TheConstants.{MAX_COLUMNS, MAX_DEFAULT_BYTES, MAX_NAME_BYTES}
use Rattle.lake_types.specs.declared.value.ColType.{ColType}
use Rattle.lake_types.specs.declared.value.Column.{Column}
use Rattle.lake_types.specs.declared.value.Value.{Value}
use Rattle.lake_types.specs.declared.value.Value.TheVariants as value
use Rattle.lake_types.proofs.ValueLemmas.{one_value}
use Rattle.lake_model.specs.Core.{Version}
use Rattle.lake_model.specs.Fits.{IsAtMost}
use Rattle.lake_model.specs.Laws.{HasFieldIds, RiseBelow}
use Rattle.lake_model.specs.State.{State, Table}
use Rattle.lake_rebase.specs.Tidy.{AreTidyColumns, HasSchema, IsTidy, IsTidyColumn}
use Rattle.lake_rebase.proofs.MemberLemmas.{In, all_by, all_in, in_kept, in_map, in_of, kept_in, map_in, of_in}
use Rattle.cat_tables.specs.Table.{IsAscending, IsBelow, has_key, key_cmp, row_of}
use Rattle.cat_tables.proofs.KeyLemmas.{key_eq}
use Rattle.cat_tables.proofs.PlaceLemmas.{less_is}
use Rattle.cat_tables.proofs.SightLemmas.{same_key}
use Rattle.cat_rows.specs.Keys.{column_key, schema_key, table_key}
use Rattle.cat_rows.specs.Seen.{Seen, seen_at}
use Rattle.cat_rows.specs.Tables.{Tables}
use Rattle.cat_rows.specs.declared.batch.Key.{Key}
use Rattle.cat_rows.specs.declared.history.SnapshotRow.{SnapshotRow}
use Rattle.cat_rows.specs.declared.schemas.ColumnRow.{ColumnRow}
use Rattle.cat_rows.specs.declared.schemas.SchemaRow.{SchemaRow}
use Rattle.cat_rows.specs.declared.schemas.TableRow.{TableRow}
use Rattle.cat_rules.specs.ColumnRule.{HasNoColumn, HaveOneColumnName, IsAlikeEarlier, IsColumnBad, IsColumnWrong, IsColumnless, IsCrowdedColumn, IsDefault, IsPastHundred, IsShort, is_earlier}
use Rattle.cat_rules.specs.EachKept.{AtKept, HasAlike, SeesTable}
use Rattle.cat_rules.specs.First.{Holds}
use Rattle.cat_rules.specs.Places.{of_column, of_schema, of_table}
use Rattle.cat_rules.specs.SchemaRule.{HaveOneName, IsSchemaNameUsed}
use Rattle.cat_rules.specs.TableRule.{HaveOnePlace, IsTableNameUsed, IsTableUnmatched}
use Rattle.cat_spans.proofs.CountLemmas.{count, count_by-is}
use Rattle.cat_texts.specs.Spelled.{IsColumnOf, IsValueOf}
use Rattle.cat_texts.specs.Types.{type_of, type_text}
use Rattle.cat_texts.proofs.TypeLemmas.{reads_type}
use Rattle.cat_view.specs.Files.{Files}
use Rattle.cat_view.specs.Named.{ordered, put_by}
use Rattle.cat_view.specs.Sight.{column_rows, is_in_table, schema_of}
use Rattle.cat_stands.specs.LakeFacts.{HasIds}
use Rattle.cat_stands.specs.Stands.{IsPlain}
use Rattle.commit_rules.proofs.CoreLemmas.{lower_key}
use Rattle.commit_rules.proofs.HistoryLemmas.{first_number}
use Rattle.commit_rules.proofs.NextLemmas.{row_member, some_row}
use Rattle.commit_laws.proofs.ColumnStatsLemmas.{in_ordered}
use Rattle.commit_laws.proofs.CountLemmas.{count_filter}
use Rattle.commit_laws.proofs.FileLemmas.{some_is}
use Rattle.commit_laws.proofs.ListLemmas.{Beside, in_of_some, in_zip, lt_second, numbers_rise, some_in}
use Rattle.commit_laws.proofs.SeenLemmas.{IsTableOf, zip_tables}
use Rattle.commit_laws.specs.AgainLaws.{SoundStatesAreTidy}

-- ---- lists in an order

put_by_in : {X : Type 0} (n : X → ℕ) (x y : X) (xs : List X) → In x (y ∷ xs) → In x (put_by n y xs)
put_by_in n x y [] there = there
put_by_in n x y (z ∷ xs) there = go (nat_lt (n z) (n y)) there (put_by_in n x y xs)
  where
    go : (b : Bool) → In x (y ∷ z ∷ xs) → (In x (y ∷ xs) → In x (put_by n y xs)) → In x (cond b (z ∷ put_by n y xs) (y ∷ z ∷ xs))
    go true (inl same) more = inr (more (inl same))
    go true (inr (inl same)) more = inl same
    go true (inr (inr later)) more = inr (more (inr later))
    go false h more = h

ordered_in : {X : Type 0} (n : X → ℕ) (x : X) (xs : List X) → In x xs → In x (ordered n xs)
ordered_in n x [] there = there
ordered_in n x (y ∷ xs) (inl same) = put_by_in n x y (ordered n xs) (inl same)
ordered_in n x (y ∷ xs) (inr later) = put_by_in n x y (ordered n xs) (inr (ordered_in n x xs later))

count-put_by : {X : Type 0} (p : X → Bool) (n : X → ℕ) (y : X) (xs : List X) → count p (put_by n y xs) ≡ count p (y ∷ xs)
count-put_by p n y [] = refl
count-put_by p n y (z ∷ xs) = go (nat_lt (n z) (n y)) (count-put_by p n y xs)
  where
    go : (b : Bool) → count p (put_by n y xs) ≡ count p (y ∷ xs) → count p (cond b (z ∷ put_by n y xs) (y ∷ z ∷ xs)) ≡ count p (y ∷ z ∷ xs)
    go true more = omega (arith, more)
    go false more = refl

count-ordered : {X : Type 0} (p : X → Bool) (n : X → ℕ) (xs : List X) → count p (ordered n xs) ≡ count p xs
count-ordered p n [] = refl
count-ordered p n (x ∷ xs) = let one = count-put_by p n x (ordered n xs) in let more = count-ordered p n xs in omega (arith, one, more)

-- ---- defaults

-- a value that can't be too long isn't
not_long : (v : Value) → ((IsShort v → ⊥) → ⊥) → IsAtMost MAX_DEFAULT_BYTES v
not_long value.Null h = tt
not_long (value.Bool b) h = tt
not_long (value.Int n) h = tt
not_long (value.Text text) h = ⊎_elim (λ lt. absurd (h (λ le. omega (arith, lt, le)))) (λ le. le) (cases_lt 1048576 (length text))
not_long (value.Bytes bytes) h = ⊎_elim (λ lt. absurd (h (λ le. omega (arith, lt, le)))) (λ le. le) (cases_lt 1048576 (length bytes))
not_long (value.Date day) h = tt

-- a default that isn't wrong is a short one of its type
right_default : (ty : ColType) (v : Value) (type : List ℕ) (o : Option (List ℕ)) → type_text ty ≡ type → IsValueOf ty o v → ((IsDefault type o → ⊥) → ⊥) → IsAtMost MAX_DEFAULT_BYTES v × (fits v ty ≡ true)
right_default ty v type None is of fine = subst (λ w. IsAtMost MAX_DEFAULT_BYTES w × (fits w ty ≡ true)) (sym of) (tt, refl)
right_default ty v type (Some text) is of fine = (not_long v (λ no. fine (λ d. no (short d))), of.1)
  where
    short : IsDefault type (Some text) → IsShort v
    short (u, e, (w, h, s)) =
        let same : u ≡ ty = same_Some u ty (sym e ∙ ap type_of (sym is) ∙ reads_type ty) in
        subst IsShort (one_value ty w v text (subst (λ x. HasText x w text) same h) of) s

-- ---- rows of one table

level : (a b : ℕ) → (a < b → ⊥) → (b < a → ⊥) → a ≡ b
level a b f g = ⊎_elim (λ lt. absurd (f lt)) (λ le. ⊎_elim (λ gt. absurd (g gt)) (λ ge. omega (arith, le, ge)) (cases_lt b a)) (cases_lt a b)

earlier : (a b : ColumnRow) → a.table_id ≡ b.table_id → a.column_id < b.column_id → is_earlier b a ≡ true
earlier a b same lt =
    and_from _ _
    (subst (λ n. is_lt (key_cmp (column_key a) (n ∷ b.column_id ∷ b.begin_snapshot ∷ [])) ≡ true) same (lt_second a.table_id a.column_id b.column_id (a.begin_snapshot ∷ []) (b.begin_snapshot ∷ []) lt)) (eq-eqb a.table_id b.table_id same)

zip_length : (rs : List ColumnRow) (cs : List Column) → AllZip IsColumnOf rs cs → length rs ≡ length cs
zip_length [] [] h = refl
zip_length [] (c ∷ cs) h = absurd h
zip_length (r ∷ rs) [] h = absurd h
zip_length (r ∷ rs) (c ∷ cs) h = let more = zip_length rs cs h.1 in omega (arith, more)

zip_fields : (rs : List ColumnRow) (cs : List Column) → AllZip IsColumnOf rs cs → map (λ (r : ColumnRow). r.column_id) rs ≡ map (λ (c : Column). c.field) cs
zip_fields [] [] h = refl
zip_fields [] (c ∷ cs) h = absurd h
zip_fields (r ∷ rs) [] h = absurd h
zip_fields (r ∷ rs) (c ∷ cs) h = let one : c.field ≡ r.column_id = h.0.field in let more = zip_fields rs cs h.1 in cc

-- the last of rows of one table whose field ids rise has all others before it
record IsLast (rs : List ColumnRow) : Type 0 where
  row : ColumnRow
  there : In row rs
  after : length rs ≤ 1 + count (is_earlier row) rs

last_of : (table : ℕ) (rs : List ColumnRow) → 1 ≤ length rs → AllByRecursion (λ (r : ColumnRow). r.table_id ≡ table) rs → IsAscending (λ (a b : ColumnRow). a.column_id < b.column_id) rs → IsLast rs
last_of table [] some own up = absurd (omega (arith, some))
last_of table (r ∷ []) some own up = record { row = r; there = inl refl; after = omega arith }
last_of table (r ∷ q ∷ rs) some own up =
    let m = last_of table (q ∷ rs) (omega arith) own.1 up.1 in
    let lt = all_in (λ (b : ColumnRow). r.column_id < b.column_id) m.row (q ∷ rs) up.0 m.there in
    let same : r.table_id ≡ m.row.table_id = own.0 ∙ sym (all_in (λ (b : ColumnRow). b.table_id ≡ table) m.row (q ∷ rs) own.1 m.there) in
    let one : ◌≡◌ {A = ℕ} (cond (is_earlier m.row r) 1 0) 1 = ap (λ b. cond {A = ℕ} b 1 0) (earlier r m.row same lt) in
    let more = m.after in
    record { row = m.row; there = inr m.there; after = omega (arith, one, more) }

-- ---- what one snapshot sees

-- no rule on schemas, tables and columns is broken there
record IsFine (t : Tables) (seen : Seen) : Type 0 where
  schemas : Holds (IsSchemaNameUsed seen)
  tables : Holds (λ k. IsTableUnmatched t seen k ⊎ IsTableNameUsed seen k)
  columns : Holds (λ k. IsColumnless seen k ⊎ (IsCrowdedColumn seen k ⊎ IsColumnBad t seen k))

module _ (t : Tables) (files : Files) (seen : Seen) (state : State) (fine : IsFine t seen) (plain : IsPlain files seen state) (ids : HasIds state) where
  schemas_seen : map schema_of seen.schema ≡ state.schemas
  schemas_seen = sym (ap (λ (s : State). s.schemas) plain.same ∙ plain.sees.schemas)

  tables_seen : AllZip (IsTableOf seen) seen.table state.tables
  tables_seen = zip_tables seen files seen.table plain.version.tables state.tables plain.sees.tables (ap (λ (s : State). s.tables) plain.same)

  -- ---- schemas

  no_sooner_schema : (q r : SchemaRow) → In q seen.schema → In r seen.schema → q.schema_name ≡ r.schema_name → q.schema_id < r.schema_id → ⊥
  no_sooner_schema q r h i same lt =
      fine.schemas (of_schema r) (some_in (λ (x : SchemaRow). HasAlike HaveOneName schema_key seen.schema x × (of_schema x ≡ of_schema r)) r seen.schema i
      (some_in (λ (x : SchemaRow). IsBelow schema_key x r × HaveOneName x r) q seen.schema h (less_is _ (lower_key q.schema_id r.schema_id lt), same), refl))

  schema_names : (x y : SchemaName) → In x state.schemas → In y state.schemas → x.name ≡ y.name → x.id ≡ y.id
  schema_names x y h i same =
      let a = in_map schema_of x seen.schema (subst (In x) (sym schemas_seen) h) in
      let b = in_map schema_of y seen.schema (subst (In y) (sym schemas_seen) i) in
      let names : a.of.schema_name ≡ b.of.schema_name = ap (λ (s : SchemaName). s.name) a.is ∙ same ∙ sym (ap (λ (s : SchemaName). s.name) b.is) in
      sym (ap (λ (s : SchemaName). s.id) a.is) ∙ level a.of.schema_id b.of.schema_id (no_sooner_schema a.of b.of a.there b.there names) (no_sooner_schema b.of a.of b.there a.there (sym names)) ∙ ap (λ (s : SchemaName). s.id) b.is

  -- ---- tables

  row_of_table : (x : Table) → In x state.tables → Beside (λ (y : Table) (r : TableRow). IsTableOf seen r y) x seen.table
  row_of_table x there = in_zip (IsTableOf seen) x seen.table state.tables tables_seen there

  home : (x : Table) → In x state.tables → HasSchema state.schemas x.schema
  home x there =
      let z = row_of_table x there in
      let q = some_is (row_of schema_key (z.item.schema_id ∷ []) seen.schema) (λ none. fine.tables _ (inl (some_in _ z.item seen.table z.there (none, refl)))) in
      let m = row_member schema_key (z.item.schema_id ∷ []) seen.schema q.0 q.1 in
      let same : q.0.schema_id ≡ z.item.schema_id = first_number (key_eq (schema_key q.0) (z.item.schema_id ∷ []) m.1) in
      (schema_of q.0, of_in (schema_of q.0) state.schemas (subst (In (schema_of q.0)) schemas_seen (map_in schema_of q.0 seen.schema (in_of_some q.0 seen.schema m.0))), same ∙ sym z.is.schema)

  no_sooner_table : (q r : TableRow) → In q seen.table → In r seen.table → HaveOnePlace q r → q.table_id < r.table_id → ⊥
  no_sooner_table q r h i same lt =
      fine.tables (of_table r) (inr (some_in (λ (x : TableRow). HasAlike HaveOnePlace table_key seen.table x × (of_table x ≡ of_table r)) r seen.table i
      (some_in (λ (x : TableRow). IsBelow table_key x r × HaveOnePlace x r) q seen.table h (less_is _ (lower_key q.table_id r.table_id lt), same), refl)))

  table_names : (x y : Table) → In x state.tables → In y state.tables → x.schema ≡ y.schema → x.name ≡ y.name → x.id ≡ y.id
  table_names x y h i schema name =
      let a = row_of_table x h in
      let b = row_of_table y i in
      let schemas : a.item.schema_id ≡ b.item.schema_id = sym a.is.schema ∙ schema ∙ b.is.schema in
      let names : a.item.table_name ≡ b.item.table_name = sym a.is.name ∙ name ∙ b.is.name in
      a.is.id ∙ level a.item.table_id b.item.table_id (no_sooner_table a.item b.item a.there b.there (schemas, names)) (no_sooner_table b.item a.item b.there a.there (sym schemas, sym names)) ∙ sym b.is.id

  -- ---- the columns of a table

  module _ (x : Table) (there : In x state.tables) where
    abbrev r : TableRow
    r = (row_of_table x there).item

    abbrev rows : List ColumnRow
    rows = column_rows r.table_id seen.column

    zip : AllZip IsColumnOf rows x.columns
    zip = (row_of_table x there).is.columns

    sees : SeesTable seen r.table_id
    sees = some_row table_key (r.table_id ∷ []) seen.table (some_in (λ (q : TableRow). has_key table_key (r.table_id ∷ []) q ≡ true) r seen.table (row_of_table x there).there (same_key table_key r))

    row_is : (c : ColumnRow) → In c rows → In c seen.column × (c.table_id ≡ r.table_id)
    row_is c h = let m = in_kept (is_in_table r.table_id) c seen.column (in_ordered (λ (q : ColumnRow). q.column_order) c (filter (is_in_table r.table_id) seen.column) h) in (m.0, eqb-true c.table_id r.table_id m.1)

    sees_of : (c : ColumnRow) → In c rows → SeesTable seen c.table_id
    sees_of c h = subst (SeesTable seen) (sym (row_is c h).1) sees

    some : 1 ≤ length x.columns
    some = go x.columns zip
      where
        none : (rs : List ColumnRow) → AllZip IsColumnOf rs [] → rs ≡ []
        none [] h = refl
        none (c ∷ rs) h = absurd h

        go : (cs : List Column) → AllZip IsColumnOf rows cs → 1 ≤ length cs
        go (c ∷ cs) h = omega arith
        go [] h = absurd (fine.columns (of_table r) (inl (some_in (λ (q : TableRow). HasNoColumn seen.column q × (of_table q ≡ of_table r)) r seen.table (row_of_table x there).there (
          all_by (λ (c : ColumnRow). c.table_id ≢ r.table_id) seen.column
              (λ c i same. subst (In c) (none rows h) (ordered_in (λ (q : ColumnRow). q.column_order) c (filter (is_in_table r.table_id) seen.column) (kept_in (is_in_table r.table_id) c seen.column i (eq-eqb c.table_id r.table_id same)))),
          refl,
        ))))

    few : length x.columns ≤ MAX_COLUMNS
    few =
        let rise = (all_in HasFieldIds x state.tables ids.fields there).rise in
        let up = numbers_rise (λ (c : ColumnRow). c.column_id) x.next_field rows (subst (RiseBelow x.next_field) (sym (zip_fields rows x.columns zip)) rise) in
        let same = zip_length rows x.columns zip in
        let one = some in
        let m = last_of r.table_id rows (omega (arith, one, same)) (all_by (λ (c : ColumnRow). c.table_id ≡ r.table_id) rows (λ c h. (row_is c h).1)) up in
        let a = m.after in
        let b = count-ordered (is_earlier m.row) (λ (q : ColumnRow). q.column_order) (filter (is_in_table r.table_id) seen.column) in
        let d = count_filter (is_earlier m.row) (is_in_table r.table_id) seen.column in
        let e = count_by-is (is_earlier m.row) seen.column in
        ⊎_elim (λ lt. omega (arith, lt, a, b, d, e, same))
        (λ (many : 100 ≤ count_by (is_earlier m.row) seen.column). absurd (fine.columns (of_column m.row) (inr (inl (inl (some_in (λ (c : ColumnRow). IsPastHundred seen c × (of_column c ≡ of_column m.row)) m.row seen.column (row_is m.row m.there).0 ((sees_of m.row m.there, many), refl)))))))
        (cases_lt (count_by (is_earlier m.row) seen.column) 100)

    no_sooner_column : (a b : ColumnRow) → In a rows → In b rows → a.column_name ≡ b.column_name → a.column_id < b.column_id → ⊥
    no_sooner_column a b h i same lt =
        fine.columns (of_column b) (inr (inl (inr (inr (some_in (λ (c : ColumnRow). IsAlikeEarlier HaveOneColumnName seen c × (of_column c ≡ of_column b)) b seen.column (row_is b i).0
        ((sees_of b i, some_in (λ (q : ColumnRow). (is_earlier b q ≡ true) × HaveOneColumnName q b) a seen.column (row_is a h).0 (earlier a b ((row_is a h).1 ∙ sym (row_is b i).1) lt, same)), refl))))))

    row_of_column : (c : Column) → In c x.columns → Beside (λ (y : Column) (q : ColumnRow). IsColumnOf q y) c rows
    row_of_column c h = in_zip IsColumnOf c rows x.columns zip h

    names : (c d : Column) → In c x.columns → In d x.columns → c.name ≡ d.name → c.field ≡ d.field
    names c d h i same =
        let a = row_of_column c h in
        let b = row_of_column d i in
        let one : a.item.column_name ≡ b.item.column_name = sym a.is.name ∙ same ∙ b.is.name in
        a.is.field ∙ level a.item.column_id b.item.column_id (no_sooner_column a.item b.item a.there b.there one) (no_sooner_column b.item a.item b.there a.there (sym one)) ∙ sym b.is.field

    not_wrong : (c : ColumnRow) → In c rows → IsColumnWrong t c → ⊥
    not_wrong c h bad = fine.columns (of_column c) (inr (inr (some_in (λ (q : ColumnRow). (SeesTable seen q.table_id × IsColumnWrong t q) × (of_column q ≡ of_column c)) c seen.column (row_is c h).0 ((sees_of c h, bad), refl))))

    each : (c : Column) → In c x.columns → IsTidyColumn c
    each c h =
        let a = row_of_column c h in
        let right = not_wrong a.item a.there in
        let short : length a.item.column_name ≤ MAX_NAME_BYTES = ⊎_elim (λ lt. absurd (right (inl lt))) (λ le. le) (cases_lt 255 (length a.item.column_name)) in
        let first = right_default c.ty c.initial a.item.column_type a.item.initial_default a.is.ty a.is.initial (λ no. right (inr (inr (inl (inl no))))) in
        let later = right_default c.ty c.default_value a.item.column_type a.item.default_value a.is.ty a.is.default_value (λ no. right (inr (inr (inl (inr no))))) in
        record { sizes = (subst (λ n. length n ≤ MAX_NAME_BYTES) (sym a.is.name) short, first.0, later.0); initial = first.1; default_value = later.1 }

    tidy_columns : AreTidyColumns x.columns
    tidy_columns = record {
      some = some;
      few = few;
      names = λ c d h i same. names c d (in_of c x.columns h) (in_of d x.columns i) same;
      each = all_by IsTidyColumn x.columns each;
    }

  tidy : IsTidy state
  tidy = record {
    schema_names = λ x y h i same. schema_names x y (in_of x state.schemas h) (in_of y state.schemas i) same;
    homes = λ x h. home x (in_of x state.tables h);
    table_names = λ x y h i schema name. table_names x y (in_of x state.tables h) (in_of y state.tables i) schema name;
    columns = all_by (λ (x : Table). AreTidyColumns x.columns) state.tables tidy_columns;
  }

-- ---- each snapshot

at_snapshot : (Bad : Seen → Key → Type 0) (t : Tables) (q : SnapshotRow) → In q t.snapshot → Holds (AtKept Bad t) → Holds (Bad (seen_at q.snapshot_id t))
at_snapshot Bad t q there fine j bad = fine j (some_in (λ (s : SnapshotRow). Bad (seen_at s.snapshot_id t) j) q t.snapshot there bad)

pub sound-tidy : SoundStatesAreTidy
sound-tidy t files first versions sound = all_by (λ (v : Version). IsTidy v.state) versions (λ v there.
    let q = in_zip (λ (r : SnapshotRow) (w : Version). IsPlain files (seen_at r.snapshot_id t) w.state) v t.snapshot versions sound.plain there in
    tidy t files (seen_at q.item.snapshot_id t) v.state
    (record {
      schemas = at_snapshot IsSchemaNameUsed t q.item q.there sound.rules.1.1.1.0;
      tables = at_snapshot (λ seen k. IsTableUnmatched t seen k ⊎ IsTableNameUsed seen k) t q.item q.there sound.rules.1.1.1.1.0;
      columns = at_snapshot (λ seen k. IsColumnless seen k ⊎ (IsCrowdedColumn seen k ⊎ IsColumnBad t seen k)) t q.item q.there sound.rules.1.1.1.1.1.0;
    })
    q.is (all_in (λ (w : Version). HasIds w.state) v versions sound.ids there))
