-- The kinds that tell what a list makes and where it inserts, and when they don't depend on the schemas' names.
use Rattle.std.proofs.Common.{◌≡◌, ◌≢◌, ◌+◌, ◌||◌, append_assoc, ℕ, suc, zero, Bool, true, false, List, [], ◌∷◌, ◌++◌, length, sum_by, refl, sym, ap, ap₂, subst, ◌∙◌, inl, inr, arith}
use Rattle.std.specs.Prelude.{unwrap_or}
use Rattle.std.specs.List.{AllByRecursion, list_any}
use Rattle.std.proofs.lemmas.List.{length-append}
use Rattle.std.proofs.lemmas.List.Sums.{sum_by-cons}
use Rattle.std.proofs.lemmas.List.Folds.{list_any-append}
use Rattle.lake_types.specs.Kinds.{AreNamed, name_of}
use Rattle.lake_types.specs.declared.kind.Kind.{Kind}
use Rattle.lake_types.specs.declared.kind.Kind.TheVariants as kind
use Rattle.lake_types.specs.declared.kind.SchemaName.{SchemaName}
use Rattle.lake_model.specs.Apply.{Cells, Draft, SchemaDraft, Work, changed, created, is_ref, worked}
use Rattle.lake_model.specs.Creations.{made_schemas}
use Rattle.lake_model.specs.Fits.{Fits, FitsFrom}
use Rattle.lake_model.specs.Growth.{IsGrowth, inserted_into, made_tables, rows_for, with_own_rows}
use Rattle.lake_model.specs.Kinds.{deletes_row, drops_schema, drops_table, inserted, inserted_by, is_delete_of, is_drop_of_schema, is_drop_of_table, in_order, kinds, kinds_at, kinds_from, leaves_among, leaves_fresh, schema_name, schemas_after, tables_after}
use Rattle.lake_model.specs.State.{State}
use Rattle.lake_model.specs.declared.change.Change.{Change}
use Rattle.lake_model.specs.declared.change.Change.TheVariants as change
use Rattle.lake_model.specs.declared.change.Ref.{Ref}
use Rattle.lake_model.specs.declared.change.Ref.TheVariants as ref
use Rattle.lake_model.specs.declared.change.RowRef.{RowRef}
use Rattle.lake_model.specs.declared.change.RowRef.TheVariants as row_ref
use Rattle.lake_model.proofs.FieldLemmas.{worked-more}
use Rattle.lake_rebase.proofs.MemberLemmas.{In, in_right}
use Rattle.lake_rebase.proofs.MakeLemmas.{IsEarly, early-begun, early-changed, in-kinds, ref-turned}
use Rattle.lake_model.proofs.RefLemmas.{ref-is, ref-same}
use Rattle.lake_rebase.proofs.WorkLemmas.{allowed}

-- ---- made schemas and tables

-- the kinds from here on tell each schema and table that the rest of the list makes
record AreTold (names : List SchemaName) (own : List Change) (m n : ℕ) (rest : List Change) : Type 0 where
  schemas : (x : SchemaDraft) → In x (made_schemas m rest) → In (kind.CreatedSchema x.name) (kinds_from names own m n rest)
  tables : (d : Draft) → In d (made_tables n rest) → In (kind.CreatedTable (schema_name names own d.schema) d.name) (kinds_from names own m n rest)

-- a change that makes nothing
passed : (names : List SchemaName) (own : List Change) (m n : ℕ) (c : Change) (rest : List Change) → schemas_after m c ≡ m → tables_after n c ≡ n
    → made_schemas m (c ∷ rest) ≡ made_schemas m rest → made_tables n (c ∷ rest) ≡ made_tables n rest → AreTold names own m n rest → AreTold names own m n (c ∷ rest)
passed names own m n c rest sa ta ms mt told = record {
  schemas = λ x there.
      let k = told.schemas x (subst (λ l. In x l) ms there) in
      in_right _ (kinds_at names own m n c) _ (rw (sa, ta) k);
  tables = λ d there.
      let k = told.tables d (subst (λ l. In d l) mt there) in
      in_right _ (kinds_at names own m n c) _ (rw (sa, ta) k);
}

module _ (names : List SchemaName) (base : State) (own : List Change) where
  told-from : (before rest : List Change) → own ≡ before ++ rest → AllByRecursion IsGrowth rest → FitsFrom base before rest → IsEarly before (worked base before)
      → AreTold names own (worked base before).created_schemas (worked base before).created_tables rest
  told-from before [] whole growth fitting early = record { schemas = λ x there. absurd there; tables = λ d there. absurd there }
  told-from before (c ∷ rest) whole growth fitting early =
      let w = worked base before in
      let more = worked-more base before c in
      let next : AreTold names own (changed w c).created_schemas (changed w c).created_tables rest =
      subst (λ (v : Work). AreTold names own v.created_schemas v.created_tables rest) more
      (told-from (before ++ c ∷ []) rest (whole ∙ sym (append_assoc before (c ∷ []) rest)) growth.1 fitting.2
      (subst (IsEarly (before ++ c ∷ [])) (sym more) (early-changed before w c growth.0 (allowed base before c growth.0 fitting.0) early))) in
      go w c growth.0 whole early next
    where
      go : (w : Work) (c : Change) → IsGrowth c → own ≡ before ++ c ∷ rest → IsEarly before w → AreTold names own (changed w c).created_schemas (changed w c).created_tables rest
          → AreTold names own w.created_schemas w.created_tables (c ∷ rest)
      go w (change.CreateSchema name) g whole early next = created_schema (drops_schema rest (ref.New w.created_schemas)) refl
        where
          same : drops_schema own (ref.New w.created_schemas) ≡ drops_schema rest (ref.New w.created_schemas)
          same =
              ap (λ l. drops_schema l (ref.New w.created_schemas)) whole ∙ list_any-append (is_drop_of_schema (ref.New w.created_schemas)) before (change.CreateSchema name ∷ rest)
              ∙ ap (λ b. b || drops_schema rest (ref.New w.created_schemas)) (early.schemas w.created_schemas (omega arith))

          made : SchemaDraft
          made = record { at = ref.New w.created_schemas; name = name }

          created_schema : (b : Bool) → drops_schema rest (ref.New w.created_schemas) ≡ b → AreTold names own w.created_schemas w.created_tables (change.CreateSchema name ∷ rest)
          created_schema true e = record {
            schemas = λ x there. in_right _ (kinds_at names own w.created_schemas w.created_tables (change.CreateSchema name)) _ (next.schemas x (rw e at there));
            tables = λ d there. in_right _ (kinds_at names own w.created_schemas w.created_tables (change.CreateSchema name)) _ (next.tables d there);
          }
          created_schema false e = record {
            schemas = λ x there. front x (rw e at there);
            tables = λ d there. in_right _ (kinds_at names own w.created_schemas w.created_tables (change.CreateSchema name)) _ (next.tables d there);
          }
            where
              front : (x : SchemaDraft) → In x (made ∷ made_schemas (w.created_schemas + 1) rest)
                  → In (kind.CreatedSchema x.name) (kinds_from names own w.created_schemas w.created_tables (change.CreateSchema name ∷ rest))
              front x (inl is) = let stays = same ∙ e in rw stays (inl (ap (λ (s : SchemaDraft). kind.CreatedSchema s.name) is))
              front x (inr later) = in_right _ (kinds_at names own w.created_schemas w.created_tables (change.CreateSchema name)) _ (next.schemas x later)
      go w (change.CreateTable schema name columns) g whole early next = created_table (drops_table rest (ref.New w.created_tables)) refl
        where
          creation : Change
          creation = change.CreateTable schema name columns

          same : drops_table own (ref.New w.created_tables) ≡ drops_table rest (ref.New w.created_tables)
          same =
              ap (λ l. drops_table l (ref.New w.created_tables)) whole ∙ list_any-append (is_drop_of_table (ref.New w.created_tables)) before (creation ∷ rest)
              ∙ ap (λ b. b || drops_table rest (ref.New w.created_tables)) (early.tables w.created_tables (omega arith))

          made : Draft
          made = with_own_rows rest (created w.created_tables schema name columns)

          created_table : (b : Bool) → drops_table rest (ref.New w.created_tables) ≡ b → AreTold names own w.created_schemas w.created_tables (creation ∷ rest)
          created_table true e = record {
            schemas = λ x there. in_right _ (kinds_at names own w.created_schemas w.created_tables creation) _ (next.schemas x there);
            tables = λ d there. in_right _ (kinds_at names own w.created_schemas w.created_tables creation) _ (next.tables d (rw e at there));
          }
          created_table false e = record {
            schemas = λ x there. in_right _ (kinds_at names own w.created_schemas w.created_tables creation) _ (next.schemas x there);
            tables = λ d there. front d (rw e at there);
          }
            where
              front : (d : Draft) → In d (made ∷ made_tables (w.created_tables + 1) rest)
                  → In (kind.CreatedTable (schema_name names own d.schema) d.name) (kinds_from names own w.created_schemas w.created_tables (creation ∷ rest))
              front d (inl is) = let stays = same ∙ e in rw stays (inl (ap (λ (f : Draft). kind.CreatedTable (schema_name names own f.schema) f.name) is))
              front d (inr later) = in_right _ (kinds_at names own w.created_schemas w.created_tables creation) _ (next.tables d later)
      go w (change.DropSchema at) g whole early next = passed names own w.created_schemas w.created_tables (change.DropSchema at) rest refl refl refl refl next
      go w (change.DropTable at) g whole early next = passed names own w.created_schemas w.created_tables (change.DropTable at) rest refl refl refl refl next
      go w (change.Insert table rows) g whole early next = passed names own w.created_schemas w.created_tables (change.Insert table rows) rest refl refl refl refl next
      go w (change.AddColumn table column) g whole early next = absurd g
      go w (change.DropColumn table field) g whole early next = absurd g
      go w (change.RenameColumn table field name) g whole early next = absurd g
      go w (change.PromoteColumn table field ty) g whole early next = absurd g
      go w (change.SetDefault table field v) g whole early next = absurd g
      go w (change.Delete table rows) g whole early next = absurd g
      go w (change.Update table rows set) g whole early next = absurd g
      go w (change.Compact table) g whole early next = absurd g
      go w (change.Flush table) g whole early next = absurd g

  module _ (growth : AllByRecursion IsGrowth own) (fitting : Fits base own) (named : AreNamed names (kinds names own)) where
    told : AreTold names own 0 0 own
    told = told-from [] own refl growth fitting (early-begun base)

    pub schema-told : (x : SchemaDraft) → In x (made_schemas 0 own) → In (kind.CreatedSchema x.name) (kinds names own)
    schema-told x there = in-kinds names own (kind.CreatedSchema x.name) named refl (told.schemas x there)

    pub table-told : (d : Draft) → In d (made_tables 0 own) → In (kind.CreatedTable (schema_name names own d.schema) d.name) (kinds names own)
    table-told d there = in-kinds names own (kind.CreatedTable (schema_name names own d.schema) d.name) named refl (told.tables d there)

-- ---- tables that rows are inserted into

keeps-fresh : (own whole : List Change) (at : Ref) (row : RowRef) → AllByRecursion IsGrowth own → list_any (is_delete_of at row) own ≡ false
keeps-fresh [] whole at row growth = refl
keeps-fresh (change.CreateSchema name ∷ own) whole at row growth = keeps-fresh own whole at row growth.1
keeps-fresh (change.DropSchema s ∷ own) whole at row growth = keeps-fresh own whole at row growth.1
keeps-fresh (change.CreateTable s name columns ∷ own) whole at row growth = keeps-fresh own whole at row growth.1
keeps-fresh (change.DropTable t ∷ own) whole at row growth = keeps-fresh own whole at row growth.1
keeps-fresh (change.Insert t rows ∷ own) whole at row growth = keeps-fresh own whole at row growth.1
keeps-fresh (change.AddColumn table column ∷ own) whole at row growth = absurd growth.0
keeps-fresh (change.DropColumn table field ∷ own) whole at row growth = absurd growth.0
keeps-fresh (change.RenameColumn table field name ∷ own) whole at row growth = absurd growth.0
keeps-fresh (change.PromoteColumn table field ty ∷ own) whole at row growth = absurd growth.0
keeps-fresh (change.SetDefault table field v ∷ own) whole at row growth = absurd growth.0
keeps-fresh (change.Delete table rows ∷ own) whole at row growth = absurd growth.0
keeps-fresh (change.Update table rows set ∷ own) whole at row growth = absurd growth.0
keeps-fresh (change.Compact table ∷ own) whole at row growth = absurd growth.0
keeps-fresh (change.Flush table ∷ own) whole at row growth = absurd growth.0

one-inserted : (at : Ref) (c : Change) → inserted_by at c ≡ length (inserted_into at c)
one-inserted at (change.Insert table rows) = go (is_ref at table) refl
  where
    go : (b : Bool) → is_ref at table ≡ b → inserted_by at (change.Insert table rows) ≡ length (inserted_into at (change.Insert table rows))
    go true e = let turned = ref-turned at table ∙ e in rw (e, turned) refl
    go false e = let turned = ref-turned at table ∙ e in rw (e, turned) refl
one-inserted at (change.CreateSchema name) = refl
one-inserted at (change.DropSchema s) = refl
one-inserted at (change.CreateTable s name columns) = refl
one-inserted at (change.DropTable t) = refl
one-inserted at (change.AddColumn table column) = refl
one-inserted at (change.DropColumn table field) = refl
one-inserted at (change.RenameColumn table field name) = refl
one-inserted at (change.PromoteColumn table field ty) = refl
one-inserted at (change.SetDefault table field v) = refl
one-inserted at (change.Delete table rows) = refl
one-inserted at (change.Update table rows set) = refl
one-inserted at (change.Compact table) = refl
one-inserted at (change.Flush table) = refl

inserted-rows : (at : Ref) (own : List Change) → sum_by (inserted_by at) own ≡ length (rows_for at own)
inserted-rows at [] = refl
inserted-rows at (c ∷ own) = sum_by-cons (inserted_by at) c own ∙ ap₂ ◌+◌ (one-inserted at c) (inserted-rows at own) ∙ sym (length-append (inserted_into at c) (rows_for at own))

leaves-rows : (own : List Change) (at : Ref) → AllByRecursion IsGrowth own → rows_for at own ≢ [] → leaves_fresh own at ≡ true
leaves-rows own at growth some = go (inserted own at) (inserted-rows at own)
  where
    go : (n : ℕ) → n ≡ length (rows_for at own) → leaves_among n own at ≡ true
    go zero e = absurd (some (empty (rows_for at own) (sym e)))
      where
        empty : (rows : List Cells) → length rows ≡ 0 → rows ≡ []
        empty [] e = refl
        empty (row ∷ rows) e = absurd cc
    go (suc n) e =
        let kept : deletes_row own at (row_ref.Fresh n) ≡ false = keeps-fresh own own at (row_ref.Fresh n) growth in
        rw kept (or-true (leaves_among n own at))
      where
        or-true : (b : Bool) → (b || true) ≡ true
        or-true true = refl
        or-true false = refl

insert-told : (names : List SchemaName) (own : List Change) (id m n : ℕ) (rest : List Change) → drops_table own (ref.Old id) ≡ false → leaves_fresh own (ref.Old id) ≡ true
    → rows_for (ref.Old id) rest ≢ [] → In (kind.InsertedInto id) (kinds_from names own m n rest)
insert-told names own id m n [] stays leaves some = absurd (some refl)
insert-told names own id m n (change.Insert table rows ∷ rest) stays leaves some = go (is_ref (ref.Old id) table) refl (insert-told names own id m n rest stays leaves)
  where
    K : Kind
    K = kind.InsertedInto id

    go : (b : Bool) → is_ref (ref.Old id) table ≡ b → (rows_for (ref.Old id) rest ≢ [] → In K (kinds_from names own m n rest)) → In K (kinds_from names own m n (change.Insert table rows ∷ rest))
    go true is more =
        subst (λ r. In K (kinds_at names own m n (change.Insert r rows) ++ kinds_from names own m n rest)) (ref-same (ref.Old id) table is) (rw (stays, leaves) (inl refl))
    go false is more = in_right K (kinds_at names own m n (change.Insert table rows)) (kinds_from names own m n rest) (more (λ none. some (rw is none)))
insert-told names own id m n (change.CreateSchema name ∷ rest) stays leaves some =
    in_right _ (kinds_at names own m n (change.CreateSchema name)) _ (insert-told names own id (m + 1) n rest stays leaves some)
insert-told names own id m n (change.CreateTable s name columns ∷ rest) stays leaves some =
    in_right _ (kinds_at names own m n (change.CreateTable s name columns)) _ (insert-told names own id m (n + 1) rest stays leaves some)
insert-told names own id m n (c ∷ rest) stays leaves some = in_right _ (kinds_at names own m n c) _ (insert-told names own id m n rest stays leaves some)

pub inserts-told : (names : List SchemaName) (own : List Change) (id : ℕ) → AllByRecursion IsGrowth own → AreNamed names (kinds names own) → drops_table own (ref.Old id) ≡ false
    → rows_for (ref.Old id) own ≢ [] → In (kind.InsertedInto id) (kinds names own)
inserts-told names own id growth named stays some =
    in-kinds names own (kind.InsertedInto id) named refl (insert-told names own id 0 0 own stays (leaves-rows own (ref.Old id) growth some) some)

-- ---- the names of another state

module _ (names others : List SchemaName) (own : List Change) where
  alike-from : (m n : ℕ) (rest : List Change)
      → ((d : Draft) → In d (made_tables n rest) → schema_name others own d.schema ≡ schema_name names own d.schema)
      → ((id : ℕ) → drops_schema rest (ref.Old id) ≡ true → name_of others id ≡ name_of names id)
      → ((p : ℕ) → drops_table own (ref.New p) ≡ false → drops_table rest (ref.New p) ≡ false)
      → kinds_from others own m n rest ≡ kinds_from names own m n rest
  alike-from m n [] tables dropped whole = refl
  alike-from m n (change.CreateTable schema name columns ∷ rest) tables dropped whole =
      go (drops_table own (ref.New n)) refl (λ later. alike-from m (n + 1) rest later dropped whole)
    where
      made : Draft
      made = with_own_rows rest (created n schema name columns)

      later : (d : Draft) → In d (made_tables (n + 1) rest) → schema_name others own d.schema ≡ schema_name names own d.schema
      later d there = tables d (past (drops_table rest (ref.New n)) refl)
        where
          past : (b : Bool) → drops_table rest (ref.New n) ≡ b → In d (made_tables n (change.CreateTable schema name columns ∷ rest))
          past true e = rw e there
          past false e = rw e (inr there)

      go : (b : Bool) → drops_table own (ref.New n) ≡ b
          → (((d : Draft) → In d (made_tables (n + 1) rest) → schema_name others own d.schema ≡ schema_name names own d.schema) → kinds_from others own m (n + 1) rest ≡ kinds_from names own m (n + 1) rest)
          → kinds_from others own m n (change.CreateTable schema name columns ∷ rest) ≡ kinds_from names own m n (change.CreateTable schema name columns ∷ rest)
      go true e more = rw e (more later)
      go false e more =
          let stays : drops_table rest (ref.New n) ≡ false = whole n e in
          let there : In made (made_tables n (change.CreateTable schema name columns ∷ rest)) = rw stays (inl refl) in
          rw e (ap₂ (λ s ks. kind.CreatedTable s name ∷ ks) (tables made there) (more later))
  alike-from m n (change.DropSchema (ref.Old id) ∷ rest) tables dropped whole =
      let here : drops_schema (change.DropSchema (ref.Old id) ∷ rest) (ref.Old id) ≡ true = rw (ref-is (ref.Old id) (ref.Old id) refl) refl in
      ap₂ (λ o ks. kind.DroppedSchema id (unwrap_or o []) ∷ ks) (dropped id here)
      (alike-from m n rest tables (λ other e. dropped other (rw e (or-true (is_ref (ref.Old other) (ref.Old id))))) whole)
    where
      or-true : (b : Bool) → (b || true) ≡ true
      or-true true = refl
      or-true false = refl
  alike-from m n (change.DropSchema (ref.New p) ∷ rest) tables dropped whole = alike-from m n rest tables dropped whole
  alike-from m n (change.CreateSchema name ∷ rest) tables dropped whole = ap (λ ks. kinds_at names own m n (change.CreateSchema name) ++ ks) (alike-from (m + 1) n rest tables dropped whole)
  alike-from m n (change.DropTable at ∷ rest) tables dropped whole =
      ap (λ ks. kinds_at names own m n (change.DropTable at) ++ ks) (alike-from m n rest tables dropped (λ p e. rest-stays (is_ref (ref.New p) at) (drops_table rest (ref.New p)) (whole p e)))
    where
      rest-stays : (a b : Bool) → (a || b) ≡ false → b ≡ false
      rest-stays true b e = absurd cc
      rest-stays false b e = e
  alike-from m n (c ∷ rest) tables dropped whole = ap (λ ks. kinds_at names own m n c ++ ks) (alike-from m n rest tables dropped whole)

  pub kinds-alike : ((d : Draft) → In d (made_tables 0 own) → schema_name others own d.schema ≡ schema_name names own d.schema)
      → ((id : ℕ) → drops_schema own (ref.Old id) ≡ true → name_of others id ≡ name_of names id) → kinds others own ≡ kinds names own
  kinds-alike tables dropped = ap in_order (alike-from 0 0 own tables dropped (λ p e. e))
