-- The batch of a commit is made of parts on top of its head.
use Rattle.std.proofs.Common.{◌≡◌, ℕ, ◌+◌, ◌<◌, ◌≤◌, true, List, [], ◌∷◌, refl, sym, subst, arith, is_lt}
use Rattle.std.specs.List.{AllByRecursion}
use Rattle.lake_model.specs.Apply.{Draft, SchemaDraft}
use Rattle.lake_model.specs.Creations.{made_schemas}
use Rattle.lake_model.specs.Growth.{made_tables}
use Rattle.cat_tables.specs.Table.{ArePast, IsAscending, key_cmp}
use Rattle.cat_tables.specs.Validity.{IsNew}
use Rattle.cat_rows.specs.Keys.{column_key, data_file_key, delete_file_key, inlined_row_key, schema_key, table_key}
use Rattle.cat_rows.specs.Parts.{ArePartsOf}
use Rattle.cat_rows.specs.Validities.{column_laws, column_validity, data_file_laws, data_file_validity, delete_file_laws, delete_file_validity, inlined_row_laws, inlined_row_validity, schema_laws, schema_validity, table_laws, table_validity}
use Rattle.cat_rows.specs.declared.files.DataFileRow.{DataFileRow}
use Rattle.cat_rows.specs.declared.schemas.ColumnRow.{ColumnRow}
use Rattle.cat_rows.specs.declared.schemas.SchemaRow.{SchemaRow}
use Rattle.cat_rows.specs.declared.schemas.TableRow.{TableRow}
use Rattle.cat_rules.proofs.FirstLemmas.{all_like, ascends_like}
use Rattle.commit_rules.specs.Lawful.{IsHead}
use Rattle.rebase.specs.Parts.{column_rows_from, columns_of, schema_row, table_row}
use Rattle.commit_laws.specs.Commits.{endings_of}
use Rattle.commit_laws.specs.Laws.{HeadsAre, PartsAre}
use Rattle.commit_laws.proofs.CaseLemmas.{Case, IsLowFile, columns_low, files_low, fresh, is-head, new, next, number, of-cases, parts, schemas_low, settled, tables_low}
use Rattle.commit_laws.proofs.ListLemmas.{all_flat, all_mapped, all_of, asc_flat, asc_mapped, lt_first, past_from}
use Rattle.commit_laws.proofs.MadeLemmas.{IsMade, made_are, schema_ids_new, schema_ids_rise, schema_of, table_ids_new, table_ids_rise, table_of}
use Rattle.commit_laws.proofs.RowLemmas.{SoonerColumn, columns_rise, file_ids_from, file_ids_rise, going_is, new_columns, new_files, of_table}

module _ (k : Case) where
  abbrev begin : ℕ
  begin = number k + 1

  schemas_past : ArePast schema_key (parts k).schema k.t.schema
  schemas_past =
      past_from schema_key (parts k).schema k.t.schema
      (all_mapped (λ (x : SchemaRow). AllByRecursion (λ (r : SchemaRow). is_lt (key_cmp (schema_key r) (schema_key x)) ≡ true) k.t.schema) (schema_row begin (next k) (new k)) (made_schemas 0 k.own)
      (all_like (λ (d : SchemaDraft). next k ≤ schema_of (next k) k.own d) (λ (d : SchemaDraft). AllByRecursion (λ (r : SchemaRow). is_lt (key_cmp (schema_key r) (schema_of (next k) k.own d ∷ [])) ≡ true) k.t.schema)
      (λ d past. all_like (λ (r : SchemaRow). r.schema_id < next k) _ (λ (r : SchemaRow) low. lt_first r.schema_id (schema_of (next k) k.own d) [] [] (omega (arith, past, low))) k.t.schema (schemas_low k))
      (made_schemas 0 k.own) (schema_ids_new (next k) k.own)))
      (asc_mapped (λ (a b : SchemaRow). is_lt (key_cmp (schema_key a) (schema_key b)) ≡ true) (schema_row begin (next k) (new k)) (made_schemas 0 k.own)
      (ascends_like (λ (d e : SchemaDraft). schema_of (next k) k.own d < schema_of (next k) k.own e) _ (λ (d e : SchemaDraft) lt. lt_first (schema_of (next k) k.own d) (schema_of (next k) k.own e) [] [] lt) (made_schemas 0 k.own) (schema_ids_rise (next k) k.own)))

  tables_past : ArePast table_key (parts k).table k.t.table
  tables_past =
      past_from table_key (parts k).table k.t.table
      (all_mapped (λ (x : TableRow). AllByRecursion (λ (r : TableRow). is_lt (key_cmp (table_key r) (table_key x)) ≡ true) k.t.table) (table_row begin (next k) (new k)) (made_tables 0 k.own)
      (all_like (λ (d : Draft). next k ≤ table_of (next k) k.own d) (λ (d : Draft). AllByRecursion (λ (r : TableRow). is_lt (key_cmp (table_key r) (table_of (next k) k.own d ∷ [])) ≡ true) k.t.table)
      (λ d past. all_like (λ (r : TableRow). r.table_id < next k) _ (λ (r : TableRow) low. lt_first r.table_id (table_of (next k) k.own d) [] [] (omega (arith, past, low))) k.t.table (tables_low k))
      (made_tables 0 k.own) (table_ids_new (next k) k.own)))
      (asc_mapped (λ (a b : TableRow). is_lt (key_cmp (table_key a) (table_key b)) ≡ true) (table_row begin (next k) (new k)) (made_tables 0 k.own)
      (ascends_like (λ (d e : Draft). table_of (next k) k.own d < table_of (next k) k.own e) _ (λ (d e : Draft) lt. lt_first (table_of (next k) k.own d) (table_of (next k) k.own e) [] [] lt) (made_tables 0 k.own) (table_ids_rise (next k) k.own)))

  -- ---- columns

  abbrev pub rows_of : Draft → List ColumnRow
  rows_of = columns_of begin (next k) (new k)

  pub own_columns : (d : Draft) → AllByRecursion (λ (r : ColumnRow). r.table_id ≡ table_of (next k) k.own d) (rows_of d)
  own_columns d = of_table begin (table_of (next k) k.own d) 0 d.columns

  pub columns_new : AllByRecursion (λ (r : ColumnRow). next k ≤ r.table_id) (parts k).column
  columns_new =
      all_flat (λ (r : ColumnRow). next k ≤ r.table_id) rows_of (made_tables 0 k.own)
      (all_like (λ (d : Draft). next k ≤ table_of (next k) k.own d) (λ (d : Draft). AllByRecursion (λ (r : ColumnRow). next k ≤ r.table_id) (rows_of d))
      (λ d past. all_like (λ (r : ColumnRow). r.table_id ≡ table_of (next k) k.own d) (λ (r : ColumnRow). next k ≤ r.table_id) (λ r is. omega (arith, is, past)) (rows_of d) (own_columns d))
      (made_tables 0 k.own) (table_ids_new (next k) k.own))

  sooner_table : (d e : Draft) → table_of (next k) k.own d < table_of (next k) k.own e → AllByRecursion (λ (a : ColumnRow). AllByRecursion (SoonerColumn a) (rows_of e)) (rows_of d)
  sooner_table d e lt =
      all_like (λ (a : ColumnRow). a.table_id ≡ table_of (next k) k.own d) (λ (a : ColumnRow). AllByRecursion (SoonerColumn a) (rows_of e))
      (λ a is.
      all_like (λ (b : ColumnRow). b.table_id ≡ table_of (next k) k.own e) (SoonerColumn a)
      (λ b other. lt_first a.table_id b.table_id (a.column_id ∷ a.begin_snapshot ∷ []) (b.column_id ∷ b.begin_snapshot ∷ []) (omega (arith, is, other, lt))) (rows_of e) (own_columns e))
      (rows_of d) (own_columns d)

  columns_past : ArePast column_key (parts k).column k.t.column
  columns_past =
      past_from column_key (parts k).column k.t.column
      (all_like (λ (x : ColumnRow). next k ≤ x.table_id) (λ (x : ColumnRow). AllByRecursion (λ (r : ColumnRow). is_lt (key_cmp (column_key r) (column_key x)) ≡ true) k.t.column)
      (λ x past. all_like (λ (r : ColumnRow). r.table_id < next k) _ (λ (r : ColumnRow) low. lt_first r.table_id x.table_id (r.column_id ∷ r.begin_snapshot ∷ []) (x.column_id ∷ x.begin_snapshot ∷ []) (omega (arith, past, low))) k.t.column (columns_low k))
      (parts k).column columns_new)
      (asc_flat SoonerColumn rows_of (made_tables 0 k.own)
      (all_like IsMade (λ (d : Draft). IsAscending SoonerColumn (rows_of d))
      (λ d h. subst (λ cs. IsAscending SoonerColumn (column_rows_from (table_of (next k) k.own d) begin 0 cs)) (sym h.columns_are) (columns_rise begin (table_of (next k) k.own d) 0 1 h.given)) (made_tables 0 k.own) (made_are 0 k.own))
      (ascends_like (λ (d e : Draft). table_of (next k) k.own d < table_of (next k) k.own e) _ sooner_table (made_tables 0 k.own) (table_ids_rise (next k) k.own)))

  -- ---- files

  files_past : ArePast data_file_key (parts k).data_file k.t.data_file
  files_past =
      past_from data_file_key (parts k).data_file k.t.data_file
      (all_like (λ (x : DataFileRow). k.c.sound.newest.next_file_id ≤ x.data_file_id) (λ (x : DataFileRow). AllByRecursion (λ (r : DataFileRow). is_lt (key_cmp (data_file_key r) (data_file_key x)) ≡ true) k.t.data_file)
      (λ x past. all_like (IsLowFile k) _ (λ (r : DataFileRow) low. lt_first r.data_file_id x.data_file_id [] [] (let l = low.id in omega (arith, past, l))) k.t.data_file (files_low k))
      (parts k).data_file (file_ids_from k.t begin (next k) (new k) k.c.sound.newest.next_file_id k.c.sound.newest.next_file_id (fresh k) (omega arith)))
      (file_ids_rise k.t begin (next k) (new k) k.c.sound.newest.next_file_id (fresh k))

  pub parts_of-case : ArePartsOf k.t (number k) (parts k) (endings_of k.own)
  parts_of-case = record {
    number = refl;
    settled = settled k;
    schema = record {
      ends = going_is schema_validity schema_key schema_laws (number k) (endings_of k.own).schema k.t.schema (settled k).schema.by;
      begins = all_mapped (IsNew schema_validity begin) (schema_row begin (next k) (new k)) (made_schemas 0 k.own) (all_of _ (λ d. (refl, refl)) (made_schemas 0 k.own));
      past = schemas_past;
    };
    table = record {
      ends = going_is table_validity table_key table_laws (number k) (endings_of k.own).table k.t.table (settled k).table.by;
      begins = all_mapped (IsNew table_validity begin) (table_row begin (next k) (new k)) (made_tables 0 k.own) (all_of _ (λ d. (refl, refl)) (made_tables 0 k.own));
      past = tables_past;
    };
    column = record {
      ends = going_is column_validity column_key column_laws (number k) (endings_of k.own).column k.t.column (settled k).column.by;
      begins = all_flat (IsNew column_validity begin) rows_of (made_tables 0 k.own) (all_of _ (λ (d : Draft). new_columns begin (table_of (next k) k.own d) 0 d.columns) (made_tables 0 k.own));
      past = columns_past;
    };
    data_file = record {
      ends = going_is data_file_validity data_file_key data_file_laws (number k) (endings_of k.own).data_file k.t.data_file (settled k).data_file.by;
      begins = new_files k.t begin (next k) (new k) k.c.sound.newest.next_file_id (fresh k);
      past = files_past;
    };
    delete_file = record { ends = going_is delete_file_validity delete_file_key delete_file_laws (number k) (endings_of k.own).delete_file k.t.delete_file (settled k).delete_file.by; begins = tt; past = tt };
    inlined_row = record { ends = going_is inlined_row_validity inlined_row_key inlined_row_laws (number k) (endings_of k.own).inlined_row k.t.inlined_row (settled k).inlined_row.by; begins = tt; past = tt };
  }

pub heads-are : HeadsAre
heads-are = of-cases (λ t head p own. IsHead t head) is-head

pub parts-are : PartsAre
parts-are = of-cases (λ t head p own. ArePartsOf t head.snapshot_id p (endings_of own)) parts_of-case
