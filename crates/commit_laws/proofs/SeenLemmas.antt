-- What the head sees is the head's state, and what the new snapshot sees of schemas and tables is the state after the list.
use Rattle.std.proofs.Common.{◌≡◌, inl, inr, ℕ, ◌+◌, Bool, true, not, List, [], ◌∷◌, ◌++◌, map, filter, refl, sym, ap, ap₂, ◌∙◌, subst, arith, None}
use Rattle.std.specs.List.{AllZip}
use Rattle.std.proofs.lemmas.List.{map-append}
use Rattle.cat_tables.specs.Table.{has_key, row_of}
use Rattle.cat_tables.proofs.SightLemmas.{same_key}
use Rattle.lake_types.specs.declared.kind.SchemaName.{SchemaName}
use Rattle.lake_model.specs.Apply.{Draft, SchemaDraft, settled_schema, settled_table}
use Rattle.lake_model.specs.Core.{Version}
use Rattle.lake_model.specs.Creations.{made_schemas}
use Rattle.lake_model.specs.Growth.{grown, grown_state, left_tables, made_tables}
use Rattle.lake_model.specs.Kinds.{drops_schema, drops_table}
use Rattle.lake_model.specs.State.{State, Table}
use Rattle.lake_model.specs.declared.change.Ref.TheVariants as ref
use Rattle.lake_model.proofs.GrowthLemmas.{grows_by_table}
use Rattle.lake_rebase.specs.Tidy.{IsTidy}
use Rattle.lake_rebase.proofs.HeadLemmas.{tidy-at-head}
use Rattle.lake_rebase.proofs.MemberLemmas.{In, in_map, map_in, in_of, of_in}
use Rattle.cat_rows.specs.Keys.{schema_key, table_key}
use Rattle.cat_rows.specs.Seen.{Seen, seen_at}
use Rattle.cat_rows.specs.Parts.{with_parts}
use Rattle.cat_rows.specs.declared.history.SnapshotRow.{SnapshotRow}
use Rattle.cat_rows.specs.declared.schemas.SchemaRow.{SchemaRow}
use Rattle.cat_rows.specs.declared.schemas.TableRow.{TableRow}
use Rattle.cat_rules.specs.EachKept.{HasAlike}
use Rattle.cat_rules.specs.First.{Holds}
use Rattle.cat_rules.specs.Lookups.{HasRow}
use Rattle.cat_rules.specs.SchemaRule.{HaveOneName, IsSchemaNameUsed}
use Rattle.cat_rules.specs.TableRule.{HaveOnePlace}
use Rattle.cat_rules.proofs.SnapshotLemmas.{below_lt}
use Rattle.cat_stands.specs.Stands.{IsPlain, uncounted_table}
use Rattle.cat_texts.specs.Spelled.{IsColumnOf}
use Rattle.cat_view.specs.Files.{Files}
use Rattle.cat_view.specs.Named as named
use Rattle.cat_view.specs.Named.{NamedTable}
use Rattle.cat_view.specs.Sight.{IsTableAt, column_rows, schema_of}
use Rattle.commit_rules.specs.Lawful.{IsTableWrong, seen_then}
use Rattle.commit_rules.proofs.NextLemmas.{some_row}
use Rattle.rebase.specs.Parts.{schema_row, table_row}
use Rattle.commit_laws.specs.Commits.{endings_of}
use Rattle.commit_laws.proofs.CaseLemmas.{Case, head, new, newest, next, number, parts, seen}
use Rattle.lake_model.proofs.CreationLemmas.{filter-mapped}
use Rattle.commit_laws.proofs.ListLemmas.{found, some_in, zip_last}

-- ---- a table's row is a table of the state, up to its rows and counters

pub record IsTableOf (rows : Seen) (r : TableRow) (x : Table) : Type 0 where
  pub id : x.id ≡ r.table_id
  pub schema : x.schema ≡ r.schema_id
  pub name : x.name ≡ r.table_name
  pub columns : AllZip IsColumnOf (column_rows r.table_id rows.column) x.columns

pub zip_tables : (rows : Seen) (files : Files) (rs : List TableRow) (vs : List NamedTable) (xs : List Table) → AllZip (IsTableAt rows) rs vs → map uncounted_table xs ≡ map uncounted_table (map (named.table_of files) vs) → AllZip (IsTableOf rows) rs xs
zip_tables rows files [] [] [] h e = tt
zip_tables rows files [] [] (x ∷ xs) h e = absurd cc
zip_tables rows files [] (v ∷ vs) xs h e = absurd h
zip_tables rows files (r ∷ rs) [] xs h e = absurd h
zip_tables rows files (r ∷ rs) (v ∷ vs) [] h e = absurd cc
zip_tables rows files (r ∷ rs) (v ∷ vs) (x ∷ xs) h e =
    let one : uncounted_table x ≡ uncounted_table (named.table_of files v) = cc in
    let rest : map uncounted_table xs ≡ map uncounted_table (map (named.table_of files) vs) = cc in (
      record {
        id = ap (λ (t : Table). t.id) one ∙ h.0.id;
        schema = ap (λ (t : Table). t.schema) one ∙ h.0.schema;
        name = ap (λ (t : Table). t.name) one ∙ h.0.name;
        columns = subst (AllZip IsColumnOf (column_rows r.table_id rows.column)) (sym (ap (λ (t : Table). t.columns) one)) h.0.columns;
      },
      zip_tables rows files rs vs xs h.1 rest,
    )

-- where a table stands
abbrev pub Place : Type 0
Place = ℕ × (ℕ × List ℕ)

abbrev pub row_place : TableRow → Place
row_place r = (r.table_id, (r.schema_id, r.table_name))

abbrev pub table_place : Table → Place
table_place x = (x.id, (x.schema, x.name))

places-zip : (rows : Seen) (rs : List TableRow) (xs : List Table) → AllZip (IsTableOf rows) rs xs → map row_place rs ≡ map table_place xs
places-zip rows [] [] h = refl
places-zip rows [] (x ∷ xs) h = absurd h
places-zip rows (r ∷ rs) [] h = absurd h
places-zip rows (r ∷ rs) (x ∷ xs) h =
    let id : x.id ≡ r.table_id = h.0.id in let schema : x.schema ≡ r.schema_id = h.0.schema in let name : x.name ≡ r.table_name = h.0.name in
    let one : row_place r ≡ table_place x = ap₂ (λ (a : ℕ) (b : ℕ × List ℕ). (a, b)) (sym id) (ap₂ (λ (a : ℕ) (b : List ℕ). (a, b)) (sym schema) (sym name)) in
    ap₂ (λ (p : Place) ps. p ∷ ps) one (places-zip rows rs xs h.1)

module _ (k : Case) where
  abbrev pub then : Seen
  then = seen_then k.t (newest k) (parts k) (endings_of k.own)

  abbrev pub grown_head : State
  grown_head = grown_state (head k) k.own

  abbrev pub IsState : SnapshotRow → Version → Type 0
  IsState r v = IsPlain k.files (seen_at r.snapshot_id k.t) v.state

  plain : IsPlain k.files (seen k) (head k)
  plain =
      zip_last IsState k.c.sound.before (newest k) k.c.sound.older k.c.sound.head
      (subst (λ rows. AllZip IsState rows (k.c.sound.older ++ k.c.sound.head ∷ [])) k.c.sound.snapshots (subst (AllZip IsState k.t.snapshot) k.c.sound.versions_are k.c.sound.plain))

  pub schemas_seen : map schema_of (seen k).schema ≡ (head k).schemas
  schemas_seen = sym (ap (λ (s : State). s.schemas) plain.same ∙ plain.sees.schemas)

  pub tables_seen : AllZip (IsTableOf (seen k)) (seen k).table (head k).tables
  tables_seen = zip_tables (seen k) k.files (seen k).table plain.version.tables (head k).tables plain.sees.tables (ap (λ (s : State). s.tables) plain.same)

  pub same_next : (head k).next_catalog ≡ next k
  same_next = k.c.sound.counters.next_catalog

  -- ---- at the new snapshot

  made_same : (ds : List SchemaDraft) → map schema_of (map (schema_row (number k + 1) (next k) (new k)) ds) ≡ map (settled_schema (next k) (new k)) ds
  made_same [] = refl
  made_same (d ∷ ds) = ap (λ l. settled_schema (next k) (new k) d ∷ l) (made_same ds)

  pub schemas_then : map schema_of then.schema ≡ grown_head.schemas
  schemas_then =
      map-append schema_of (filter (λ (r : SchemaRow). not (drops_schema k.own (ref.Old r.schema_id))) (seen k).schema) (parts k).schema
      ∙ ap₂ ◌++◌ (filter-mapped schema_of (λ (x : SchemaName). not (drops_schema k.own (ref.Old x.id))) (seen k).schema ∙ ap (filter (λ (x : SchemaName). not (drops_schema k.own (ref.Old x.id)))) schemas_seen)
      (made_same (made_schemas 0 k.own) ∙ ap (λ n. map (settled_schema n (new k)) (made_schemas 0 k.own)) (sym same_next))

  made_places : (ds : List Draft) → map row_place (map (table_row (number k + 1) (next k) (new k)) ds) ≡ map table_place (map (settled_table (next k) (new k)) ds)
  made_places [] = refl
  made_places (d ∷ ds) = ap (λ l. table_place (settled_table (next k) (new k) d) ∷ l) (made_places ds)

  grown_places : (xs : List Table) → map table_place (map (grown k.own) xs) ≡ map table_place xs
  grown_places [] = refl
  grown_places (x ∷ xs) = ap (λ l. table_place x ∷ l) (grown_places xs)

  abbrev Stays : Place → Bool
  Stays p = not (drops_table k.own (ref.Old p.0))

  pub places_then : map row_place then.table ≡ map table_place grown_head.tables
  places_then =
      map-append row_place (filter (λ (r : TableRow). not (drops_table k.own (ref.Old r.table_id))) (seen k).table) (parts k).table
      ∙ ap₂ ◌++◌
      (filter-mapped row_place Stays (seen k).table ∙ ap (filter Stays) (places-zip (seen k) (seen k).table (head k).tables tables_seen)
      ∙ sym (filter-mapped table_place Stays (head k).tables) ∙ sym (grown_places (left_tables (head k) k.own)))
      (made_places (made_tables 0 k.own) ∙ ap (λ n. map table_place (map (settled_table n (new k)) (made_tables 0 k.own))) (sym same_next))
      ∙ sym (map-append table_place (map (grown k.own) (left_tables (head k) k.own)) _)

  pub tidy : IsTidy grown_head
  tidy = subst IsTidy (grows_by_table (head k) k.own k.c.free.grows) (tidy-at-head k.told k.state (head k) k.own k.c.free)

  -- ---- schemas

  schema_there : (r : SchemaRow) → In r then.schema → In (schema_of r) grown_head.schemas
  schema_there r there = subst (In (schema_of r)) schemas_then (map_in schema_of r then.schema there)

  pub schemas_differ : Holds (IsSchemaNameUsed then)
  schemas_differ j bad =
      let m = found (λ (r : SchemaRow). HasAlike HaveOneName schema_key then.schema r × (_ ≡ j)) then.schema bad in
      let q = found (λ (q : SchemaRow). _ × HaveOneName q m.item) then.schema m.is.0 in
      let lt = below_lt q.item.schema_id m.item.schema_id q.is.0 in
      let same = tidy.schema_names (schema_of q.item) (schema_of m.item) (of_in _ grown_head.schemas (schema_there q.item q.there)) (of_in _ grown_head.schemas (schema_there m.item m.there)) q.is.1 in
      omega (arith, lt, same)

  -- ---- tables

  pub record StandsAs (r : TableRow) : Type 0 where
    pub table : Table
    pub there : In table grown_head.tables
    pub id : table.id ≡ r.table_id
    pub schema : table.schema ≡ r.schema_id
    pub name : table.name ≡ r.table_name

  pub table_there : (r : TableRow) → In r then.table → StandsAs r
  table_there r there =
      let m = in_map table_place (row_place r) grown_head.tables (subst (In (row_place r)) places_then (map_in row_place r then.table there)) in
      record { table = m.of; there = m.there; id = ap (λ (p : Place). p.0) m.is; schema = ap (λ (p : Place). p.1.0) m.is; name = ap (λ (p : Place). p.1.1) m.is }

  -- the schema of a table is seen with it
  pub home_seen : (r : TableRow) → In r then.table → HasRow (row_of schema_key (r.schema_id ∷ []) then.schema) (λ q. Unit {0})
  home_seen r there =
      let x = table_there r there in
      let home = tidy.homes x.table (of_in x.table grown_head.tables x.there) in
      let q = in_map schema_of home.0 then.schema (subst (In home.0) (sym schemas_then) (in_of home.0 grown_head.schemas home.1)) in
      let same : q.of.schema_id ≡ r.schema_id = ap (λ (s : SchemaName). s.id) q.is ∙ home.2 ∙ x.schema in
      some_row schema_key (r.schema_id ∷ []) then.schema (some_in _ q.of then.schema q.there (subst (λ n. has_key schema_key (n ∷ []) q.of ≡ true) same (same_key schema_key q.of)))

  pub tables_right : Holds (IsTableWrong (with_parts (parts k) k.t) then)
  tables_right j (inl bad) =
      let m = found (λ (r : TableRow). (row_of schema_key (r.schema_id ∷ []) then.schema ≡ None) × (_ ≡ j)) then.table bad in
      subst (λ o. HasRow o (λ (q : SchemaRow). Unit {0})) m.is.0 (home_seen m.item m.there)
  tables_right j (inr bad) =
      let m = found (λ (r : TableRow). HasAlike HaveOnePlace table_key then.table r × (_ ≡ j)) then.table bad in
      let q = found (λ (q : TableRow). _ × HaveOnePlace q m.item) then.table m.is.0 in
      let lt = below_lt q.item.table_id m.item.table_id q.is.0 in
      let x = table_there m.item m.there in let y = table_there q.item q.there in
      let same = tidy.table_names y.table x.table (of_in _ grown_head.tables y.there) (of_in _ grown_head.tables x.there) (y.schema ∙ q.is.1.0 ∙ sym x.schema) (y.name ∙ q.is.1.1 ∙ sym x.name) in
      let a = y.id in let b = x.id in
      omega (arith, lt, same, a, b)
