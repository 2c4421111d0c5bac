-- A list that only creates, drops and inserts; and of any list, its new ids and the schemas that it leaves.
use Rattle.std.proofs.Common.{◌≡◌, ℕ, ◌+◌, ◌≤◌, ◌<◌, ◌==◌, arith, List, [], ◌∷◌, ◌++◌, cond, map, filter, length, refl, sym, ap, ap₂, subst, ◌∙◌, append_assoc, append-nil, Bool, true, false}
use Rattle.std.specs.Prelude.{Option, Some, None, not, find, option_map}
use Rattle.std.specs.List.{AllByRecursion, cons_option, filter_map}
use Rattle.std.specs.Option.{option_or}
use Rattle.std.proofs.lemmas.Bool.{eqb-true, ne_eqb}
use Rattle.std.proofs.lemmas.List.{length-map, map-append}
use Rattle.std.proofs.lemmas.List.Folds.{find-append}
use Rattle.lake_types.specs.Cells.{laid_cells}
use Rattle.lake_types.specs.Kinds.{name_of}
use Rattle.lake_types.specs.declared.kind.SchemaName.{SchemaName}
use Rattle.lake_types.specs.declared.value.Column.{Column}
use Rattle.lake_model.specs.Apply.{Cells, Creation, Draft, apply, at_table, begun, created, drafted, drafted_schema, is_ref, left, numbered, settled_schema, settled_table, table_id, with_rows, worked}
use Rattle.lake_model.specs.ByTable.{draft_after, made_from}
use Rattle.lake_model.specs.Creations.{creations, made_schemas}
use Rattle.lake_model.specs.Growth as growth
use Rattle.lake_model.specs.Growth.{IsGrowth, grown, grown_state, made_tables, new_schemas, new_tables, rows_for, with_own_rows}
use Rattle.lake_model.specs.Kinds.{drops_schema, drops_table}
use Rattle.lake_model.specs.Laws.{GrowsByTable, HasNewIds, NewIdsRise, SchemasStay}
use Rattle.lake_model.specs.State.{State, Table}
use Rattle.lake_model.specs.declared.change.Change.{Change}
use Rattle.lake_model.specs.declared.change.Change.TheVariants as change
use Rattle.lake_model.specs.declared.change.Ref.{Ref}
use Rattle.lake_model.specs.declared.change.Ref.TheVariants as ref
use Rattle.lake_model.proofs.ApplyLemmas.{by_table}
use Rattle.lake_model.proofs.CatalogLemmas.{is_schema, made-schema_ids, number, numbers-beyond, numbers-rise, settled-schema_ids, settled-table_ids}
use Rattle.lake_model.proofs.CreationLemmas.{altered-at, created-worked, left_schemas, schemas-after}
use Rattle.lake_model.proofs.RiseLemmas.{parts-apart, rise-filter}

-- ---- one table

no_rows : (d : Draft) → with_rows [] d ≡ d
no_rows d = ap (λ l. record d { fresh = l }) (append-nil d.fresh)

rows_twice : (d : Draft) (xs ys : List Cells) → with_rows ys (with_rows xs d) ≡ with_rows (xs ++ ys) d
rows_twice d xs ys =
    let laid = λ (cells : Cells). Some (laid_cells d.columns cells) in
    ap (λ l. record d { fresh = l })
    (append_assoc d.fresh (map laid xs) (map laid ys) ∙ ap (λ l. d.fresh ++ l) (sym (map-append laid xs ys)))

inserted_first : (table : Ref) (rows : List Cells) (own : List Change) (d : Draft) → with_own_rows own (at_table table (with_rows rows) d) ≡ with_own_rows (change.Insert table rows ∷ own) d
inserted_first table rows own d = go (is_ref d.at table) refl
  where
    go : (b : Bool) → is_ref d.at table ≡ b → with_own_rows own (at_table table (with_rows rows) d) ≡ with_own_rows (change.Insert table rows ∷ own) d
    go true e = rw e (rows_twice d rows (rows_for d.at own))
    go false e = rw e refl

-- what is left of a table is its draft with the list's rows
pub grows : (own : List Change) (d : Draft) → AllByRecursion IsGrowth own → draft_after own d ≡ cond (drops_table own d.at) None (Some (with_own_rows own d))
grows [] d h = ap Some (sym (no_rows d))
grows (change.CreateSchema name ∷ own) d h = grows own d h.1
grows (change.DropSchema schema ∷ own) d h = grows own d h.1
grows (change.CreateTable schema name columns ∷ own) d h = grows own d h.1
grows (change.DropTable table ∷ own) d h = go (is_ref d.at table) refl (grows own d h.1)
  where
    go : (b : Bool) → is_ref d.at table ≡ b → draft_after own d ≡ cond (drops_table own d.at) None (Some (with_own_rows own d))
        → draft_after (change.DropTable table ∷ own) d ≡ cond (drops_table (change.DropTable table ∷ own) d.at) None (Some (with_own_rows own d))
    go true e more = rw e refl
    go false e more = rw e more
grows (change.Insert table rows ∷ own) d h =
    grows own (at_table table (with_rows rows) d) h.1
    ∙ ap₂ (λ at e. cond (drops_table own at) None (Some e)) (altered-at (change.Insert table rows) d) (inserted_first table rows own d)
grows (change.AddColumn table column ∷ own) d h = absurd h.0
grows (change.DropColumn table field ∷ own) d h = absurd h.0
grows (change.RenameColumn table field name ∷ own) d h = absurd h.0
grows (change.PromoteColumn table field ty ∷ own) d h = absurd h.0
grows (change.SetDefault table field value ∷ own) d h = absurd h.0
grows (change.Delete table rows ∷ own) d h = absurd h.0
grows (change.Update table rows set ∷ own) d h = absurd h.0
grows (change.Compact table ∷ own) d h = absurd h.0
grows (change.Flush table ∷ own) d h = absurd h.0

-- ---- all tables

pub left_laid : (columns : List Column) (rows : List Cells) → left (map (λ cells. Some (laid_cells columns cells)) rows) ≡ map (laid_cells columns) rows
left_laid columns [] = refl
left_laid columns (cells ∷ rows) = ap (λ l. laid_cells columns cells ∷ l) (left_laid columns rows)

settled-old : (next : ℕ) (new : List Creation) (own : List Change) (t : Table) → settled_table next new (with_own_rows own (drafted t)) ≡ grown own t
settled-old next new own t =
    let rows = rows_for (ref.Old t.id) own in
    let laid : left (map (λ cells. Some (laid_cells t.columns cells)) rows) ≡ map (laid_cells t.columns) rows = left_laid t.columns rows in
    ap₂ (λ l n. record t { rows = t.rows ++ numbered t.next_row l; next_row = t.next_row + n }) laid (ap length laid ∙ length-map rows (laid_cells t.columns))

old-tables : (next : ℕ) (new : List Creation) (own : List Change) (ts : List Table) → AllByRecursion IsGrowth own
    → map (settled_table next new) (filter_map (draft_after own) (map drafted ts)) ≡ map (grown own) (filter (λ (t : Table). not (drops_table own (ref.Old t.id))) ts)
old-tables next new own [] h = refl
old-tables next new own (t ∷ ts) h =
    ap (λ o. map (settled_table next new) (cons_option o (filter_map (draft_after own) (map drafted ts)))) (grows own (drafted t) h)
    ∙ go (drops_table own (ref.Old t.id)) refl (old-tables next new own ts h)
  where
    go : (b : Bool) → drops_table own (ref.Old t.id) ≡ b
        → map (settled_table next new) (filter_map (draft_after own) (map drafted ts)) ≡ map (grown own) (filter (λ (u : Table). not (drops_table own (ref.Old u.id))) ts)
        → map (settled_table next new) (cons_option (cond (drops_table own (ref.Old t.id)) None (Some (with_own_rows own (drafted t)))) (filter_map (draft_after own) (map drafted ts)))
        ≡ map (grown own) (filter (λ (u : Table). not (drops_table own (ref.Old u.id))) (t ∷ ts))
    go true e more = rw e more
    go false e more = rw e (ap₂ ◌∷◌ (settled-old next new own t) more)

pub made-tables : (n : ℕ) (own : List Change) → AllByRecursion IsGrowth own → made_from n own ≡ made_tables n own
made-tables n [] h = refl
made-tables n (change.CreateTable schema name columns ∷ own) h =
    ap (λ o. cons_option o (made_from (n + 1) own)) (grows own (created n schema name columns) h.1)
    ∙ go (drops_table own (ref.New n)) refl (made-tables (n + 1) own h.1)
  where
    go : (b : Bool) → drops_table own (ref.New n) ≡ b → made_from (n + 1) own ≡ made_tables (n + 1) own
        → cons_option (cond (drops_table own (ref.New n)) None (Some (with_own_rows own (created n schema name columns)))) (made_from (n + 1) own)
        ≡ made_tables n (change.CreateTable schema name columns ∷ own)
    go true e more = rw e more
    go false e more = rw e (ap (λ l. with_own_rows own (created n schema name columns) ∷ l) more)
made-tables n (c ∷ own) h = made-tables n own h.1

-- ---- the whole state

old-schemas : (next : ℕ) (new : List Creation) (own : List Change) (ss : List SchemaName)
    → map (settled_schema next new) (left_schemas own (map drafted_schema ss)) ≡ filter (λ (x : SchemaName). not (drops_schema own (ref.Old x.id))) ss
old-schemas next new own [] = refl
old-schemas next new own (x ∷ ss) = go (drops_schema own (ref.Old x.id)) refl (old-schemas next new own ss)
  where
    go : (b : Bool) → drops_schema own (ref.Old x.id) ≡ b
        → map (settled_schema next new) (left_schemas own (map drafted_schema ss)) ≡ filter (λ (y : SchemaName). not (drops_schema own (ref.Old y.id))) ss
        → map (settled_schema next new) (left_schemas own (map drafted_schema (x ∷ ss))) ≡ filter (λ (y : SchemaName). not (drops_schema own (ref.Old y.id))) (x ∷ ss)
    go true e more = rw e more
    go false e more = rw e (ap (λ l. x ∷ l) more)

-- of any list
pub schemas-left : (s : State) (own : List Change) → map (settled_schema s.next_catalog (creations 0 0 own)) (worked s own).schemas ≡ growth.left_schemas s own ++ new_schemas s.next_catalog own
schemas-left s own =
    let settle = settled_schema s.next_catalog (creations 0 0 own) in
    ap (map settle) (schemas-after own (begun s))
    ∙ map-append settle (left_schemas own (map drafted_schema s.schemas)) (made_schemas 0 own)
    ∙ ap (λ l. l ++ new_schemas s.next_catalog own) (old-schemas s.next_catalog (creations 0 0 own) own s.schemas)

pub grows_by_table : GrowsByTable
grows_by_table s own h =
    let new = creations 0 0 own in
    let next = s.next_catalog in
    let tables : map (settled_table next new) (worked s own).tables ≡ map (grown own) (growth.left_tables s own) ++ new_tables next own =
    ap (map (settled_table next new)) (by_table s own)
    ∙ map-append (settled_table next new) (filter_map (draft_after own) (map drafted s.tables)) (made_from 0 own)
    ∙ ap₂ (λ olds mades. olds ++ map (settled_table next new) mades) (old-tables next new own s.tables h) (made-tables 0 own h) in
    ap (λ cs. record { schemas = map (settled_schema next cs) (worked s own).schemas; tables = map (settled_table next cs) (worked s own).tables; next_catalog = next + length cs }) (created-worked s own)
    ∙ ap₂ (λ ss ts. record { schemas = ss; tables = ts; next_catalog = next + length new }) (schemas-left s own) tables

-- ---- new ids

made_tables-ids : (next : ℕ) (new : List Creation) (m n : ℕ) (own : List Change)
    → map (λ (d : Draft). table_id next new d.at) (made_tables n own) ≡ map (number next new) (filter (λ c. not (is_schema c)) (creations m n own))
made_tables-ids next new m n [] = refl
made_tables-ids next new m n (change.CreateTable schema name columns ∷ own) = go (drops_table own (ref.New n)) refl (made_tables-ids next new m (n + 1) own)
  where
    go : (t : Bool) → drops_table own (ref.New n) ≡ t
        → map (λ (d : Draft). table_id next new d.at) (made_tables (n + 1) own) ≡ map (number next new) (filter (λ c. not (is_schema c)) (creations m (n + 1) own))
        → map (λ (d : Draft). table_id next new d.at) (made_tables n (change.CreateTable schema name columns ∷ own))
        ≡ map (number next new) (filter (λ c. not (is_schema c)) (creations m n (change.CreateTable schema name columns ∷ own)))
    go true e more = rw e more
    go false e more = rw e (ap (λ l. table_id next new (ref.New n) ∷ l) more)
made_tables-ids next new m n (change.CreateSchema name ∷ own) = go (drops_schema own (ref.New m)) refl (made_tables-ids next new (m + 1) n own)
  where
    go : (t : Bool) → drops_schema own (ref.New m) ≡ t
        → map (λ (d : Draft). table_id next new d.at) (made_tables n own) ≡ map (number next new) (filter (λ c. not (is_schema c)) (creations (m + 1) n own))
        → map (λ (d : Draft). table_id next new d.at) (made_tables n own) ≡ map (number next new) (filter (λ c. not (is_schema c)) (creations m n (change.CreateSchema name ∷ own)))
    go true e more = rw e more
    go false e more = rw e more
made_tables-ids next new m n (c ∷ own) = made_tables-ids next new m n own

pub new_ids_rise : NewIdsRise
new_ids_rise next own =
    let new = creations 0 0 own in
    let limit = next + length new in
    let all = numbers-rise next own in
    let first = map (number next new) (filter is_schema new) in
    let second = map (number next new) (filter (λ c. not (is_schema c)) new) in
    let schemas : map (λ (x : SchemaName). x.id) (new_schemas next own) ≡ first = settled-schema_ids next new (made_schemas 0 own) ∙ made-schema_ids next new 0 0 own in
    let tables : map (λ (t : Table). t.id) (new_tables next own) ≡ second = settled-table_ids next new (made_tables 0 own) ∙ made_tables-ids next new 0 0 own in
    let P : List ℕ → List ℕ → Type 0 = λ xs ys. HasNewIds next limit xs ys in
    subst (λ xs. P xs (map (λ (t : Table). t.id) (new_tables next own))) (sym schemas)
    (subst (P first) (sym tables) (record {
      schemas = rise-filter (number next new) limit is_schema new all;
      tables = rise-filter (number next new) limit (λ c. not (is_schema c)) new all;
      schemas_new = numbers-beyond next new (filter is_schema new);
      tables_new = numbers-beyond next new (filter (λ c. not (is_schema c)) new);
      apart = parts-apart (number next new) limit is_schema new all;
    }))

-- ---- schemas by id

abbrev has_id : ℕ → SchemaName → Bool
has_id id x = x.id == id

find-beyond : (id next : ℕ) (xs : List SchemaName) → id < next → AllByRecursion (λ n. next ≤ n) (map (λ (x : SchemaName). x.id) xs) → find (has_id id) xs ≡ None
find-beyond id next [] lt h = refl
find-beyond id next (x ∷ xs) lt h =
    let other : (x.id == id) ≡ false = ne_eqb x.id id (λ same. absurd (omega (arith, same, lt, h.0))) in
    rw other (find-beyond id next xs lt h.1)

find-left : (own : List Change) (id : ℕ) (xs : List SchemaName)
    → find (has_id id) (filter (λ (x : SchemaName). not (drops_schema own (ref.Old x.id))) xs) ≡ cond (drops_schema own (ref.Old id)) None (find (has_id id) xs)
find-left own id [] = none (drops_schema own (ref.Old id))
  where
    none : (b : Bool) → find (has_id id) [] ≡ cond b None (find (has_id id) [])
    none true = refl
    none false = refl
find-left own id (x ∷ xs) = go (x.id == id) refl (drops_schema own (ref.Old x.id)) refl (find-left own id xs)
  where
    go : (b : Bool) → (x.id == id) ≡ b → (t : Bool) → drops_schema own (ref.Old x.id) ≡ t
        → find (has_id id) (filter (λ (y : SchemaName). not (drops_schema own (ref.Old y.id))) xs) ≡ cond (drops_schema own (ref.Old id)) None (find (has_id id) xs)
        → find (has_id id) (filter (λ (y : SchemaName). not (drops_schema own (ref.Old y.id))) (x ∷ xs)) ≡ cond (drops_schema own (ref.Old id)) None (find (has_id id) (x ∷ xs))
    go true e true f more =
        let drops : drops_schema own (ref.Old id) ≡ true = ap (λ n. drops_schema own (ref.Old n)) (sym (eqb-true x.id id e)) ∙ f in
        rw f (more ∙ ap (λ b. cond b None (find (has_id id) xs)) drops ∙ sym (ap (λ b. cond b None (find (has_id id) (x ∷ xs))) drops))
    go true e false f more =
        let keeps : drops_schema own (ref.Old id) ≡ false = ap (λ n. drops_schema own (ref.Old n)) (sym (eqb-true x.id id e)) ∙ f in
        rw (f, e) (sym (ap (λ b. cond b None (Some x)) keeps))
    go false e true f more = rw (f, e) more
    go false e false f more = rw (f, e) more

pub schemas_stay : SchemasStay
schemas_stay s own id lt =
    let next = s.next_catalog in
    let all : (apply s own).schemas ≡ growth.left_schemas s own ++ new_schemas next own = ap (λ cs. map (settled_schema next cs) (worked s own).schemas) (created-worked s own) ∙ schemas-left s own in
    let none = find-beyond id next (new_schemas next own) lt (new_ids_rise next own).schemas_new in
    let found : find (has_id id) (apply s own).schemas ≡ cond (drops_schema own (ref.Old id)) None (find (has_id id) s.schemas) =
    ap (find (has_id id)) all ∙ find-append (has_id id) (growth.left_schemas s own) (new_schemas next own)
    ∙ ap₂ option_or (find-left own id s.schemas) none ∙ alone (cond (drops_schema own (ref.Old id)) None (find (has_id id) s.schemas)) in
    ap (option_map (λ (x : SchemaName). x.name)) found ∙ named (drops_schema own (ref.Old id))
  where
    alone : (o : Option SchemaName) → option_or o None ≡ o
    alone None = refl
    alone (Some x) = refl

    named : (b : Bool) → option_map (λ (x : SchemaName). x.name) (cond b None (find (has_id id) s.schemas)) ≡ cond b None (name_of s.schemas id)
    named true = refl
    named false = refl
