-- The version that a commit's snapshot sees.
use Rattle.std.proofs.Common.{◌≡◌, ◌⊎◌, inl, inr, ℕ, ◌+◌, ◌<◌, ◌≤◌, ◌==◌, Bool, true, false, cond, not, List, [], ◌∷◌, ◌++◌, filter, map, Option, Some, None, refl, sym, ap, ap₂, ◌∙◌, subst, arith, append-nil}
use Rattle.std.specs.List.{AllByRecursion, AllZip}
use Rattle.std.proofs.lemmas.Bool.{eqb-true, ne_eqb}
use Rattle.std.proofs.lemmas.List.{map-append}
use Rattle.lake_types.specs.declared.kind.SchemaName.{SchemaName}
use Rattle.lake_types.specs.declared.value.Column.{Column}
use Rattle.lake_model.specs.Apply.{Creation, Draft, SchemaDraft, is_ref, settled_schema, table_id}
use Rattle.lake_model.specs.Creations.{creations, made_schemas}
use Rattle.lake_model.specs.Growth.{made_tables}
use Rattle.lake_model.specs.Kinds.{drops_schema, drops_table}
use Rattle.lake_model.specs.State.{Table}
use Rattle.lake_model.specs.declared.change.Ref.{Ref}
use Rattle.lake_model.specs.declared.change.Ref.TheVariants as ref
use Rattle.lake_rebase.proofs.MemberLemmas.{In, all_by, all_in, below, in_kept, kept_in}
use Rattle.lake_model.proofs.RefLemmas.{ref-is}
use Rattle.lake_rebase.specs.Tidy.{IsTidyColumn}
use Rattle.cat_tables.proofs.SightLemmas.{same_key}
use Rattle.cat_tables.specs.Table.{row_of}
use Rattle.cat_rows.specs.Keys.{data_file_key}
use Rattle.cat_rows.specs.Validities.{column_validity, data_file_validity, data_file_laws, delete_file_validity, inlined_row_validity, table_validity}
use Rattle.cat_rows.specs.declared.files.DataFileRow.{DataFileRow}
use Rattle.cat_rows.specs.declared.files.DeleteFileRow.{DeleteFileRow}
use Rattle.cat_rows.specs.declared.inlined.InlinedRow.{InlinedRow}
use Rattle.cat_rows.specs.declared.schemas.ColumnRow.{ColumnRow}
use Rattle.cat_rows.specs.declared.schemas.SchemaRow.{SchemaRow}
use Rattle.cat_rows.specs.declared.schemas.TableRow.{TableRow}
use Rattle.cat_rules.proofs.DatedLemmas.{all_fine}
use Rattle.cat_rules.proofs.FirstLemmas.{all_like}
use Rattle.cat_rules.proofs.SeenLemmas.{holds-each}
use Rattle.cat_rules.specs.DeleteFileRule.{IsDeleteFileDiffering, IsDeleteFileUnmatched, differs_from}
use Rattle.cat_rules.specs.First.{Holds}
use Rattle.cat_rules.specs.Places.{of_delete_file}
use Rattle.commit_rules.proofs.NextLemmas.{member_row}
use Rattle.cat_texts.specs.Spelled.{IsColumnOf}
use Rattle.cat_view.specs.Named.{NamedTable, NamedVersion, ordered}
use Rattle.cat_view.specs.Sight.{IsInlined, IsTableAt, IsVersionOf, column_rows, data_rows, delete_row, file_of, file_with, schema_of}
use Rattle.cat_view.specs.Staged.{NamedStagedFile, staged_for}
use Rattle.cat_stands.proofs.FileLemmas.{all-passing, all-seen}
use Rattle.cat_growth.proofs.StagedLemmas.{find-none}
use Rattle.cat_growth.specs.Growth.{grown_table, kept_schemas, kept_tables, made_table}
use Rattle.rebase.specs.Parts.{FreshFile, columns_of, file_row, fresh_files, schema_row, table_row}
use Rattle.commit_laws.specs.Commit.{file_id_at, new_files, next_named}
use Rattle.cat_view.specs.Typed.{HasBytes}
use Rattle.commit_laws.proofs.StandCaseLemmas.{Case, columns-low, deletes-low, files-low, head, inlined-low, n, newest-in, next, next_file, now, p, same-next, seen_then, tables-low}
use Rattle.commit_laws.proofs.StandColumnLemmas.{columns-of_table, columns-ordered, columns-spelled, made-spelled}
use Rattle.commit_laws.proofs.StandFileLemmas.{IsTold, file_id-from, named-file, one-file}
use Rattle.commit_laws.proofs.StandListLemmas.{all_flat, find-kept, its_own, its_part, map-same, new_own, old_own, zip-append, zip-mapped}
use Rattle.commit_laws.proofs.RefLemmas.{IsPlaced, made-past, made-rise, test-same}
use Rattle.commit_laws.proofs.StagedLemmas.{files-of, listed}
use Rattle.commit_laws.proofs.TargetLemmas.{IsTarget, target-of}

-- a listed file is that of the table
pub in_listed : (at : Ref) (y : FreshFile) (o : Option NamedStagedFile) → In y (listed at o) → o ≡ Some y.file
in_listed at y None h = absurd h
in_listed at y (Some f) (inl e) = ap (λ (z : FreshFile). Some z.file) e
in_listed at y (Some f) (inr e) = absurd e

-- schemas
kept-of : (own : List _) (rs : List SchemaRow) → kept_schemas own (map schema_of rs) ≡ map schema_of (filter (λ (r : SchemaRow). not (drops_schema own (ref.Old r.schema_id))) rs)
kept-of own [] = refl
kept-of own (r ∷ rs) = elim (drops_schema own (ref.Old r.schema_id)) as (λ b. cond (not b) (schema_of r ∷ kept_schemas own (map schema_of rs)) (kept_schemas own (map schema_of rs)) ≡ map schema_of (cond (not b) (r ∷ filter (λ (q : SchemaRow). not (drops_schema own (ref.Old q.schema_id))) rs) (filter (λ (q : SchemaRow). not (drops_schema own (ref.Old q.schema_id))) rs)))
    [ true ↦ kept-of own rs | false ↦ ap (λ l. schema_of r ∷ l) (kept-of own rs) ]

made-of : (begin from : ℕ) (new : List Creation) (ds : List SchemaDraft) → map (settled_schema from new) ds ≡ map schema_of (map (schema_row begin from new) ds)
made-of begin from new [] = refl
made-of begin from new (d ∷ ds) = ap (λ l. settled_schema from new d ∷ l) (made-of begin from new ds)

module _ (x : Case) where
  -- ---- the tables that files are staged for

  pub target : (at : Ref) (f : NamedStagedFile) → (staged_for x.staged at).fresh ≡ Some f
      → IsTarget x.is.told x.is.base (head x) x.own x.is.free x.is.version x.is.at_staging x.staged x.is.are_staged at
  target at f e = target-of x.is.told x.is.base (head x) x.own x.is.free x.is.version x.is.at_staging x.staged x.is.are_staged at f e

  pub placed-target : (at : Ref) → IsTarget x.is.told x.is.base (head x) x.own x.is.free x.is.version x.is.at_staging x.staged x.is.are_staged at → IsPlaced (next x) x.own at
  placed-target at (inl old) =
      let low : old.table.id < (head x).next_catalog = below (λ (u : Table). u.id) (head x).next_catalog old.table (head x).tables x.is.free.head_ids.tables old.there in
      inl (record { id = old.table.id; is = old.at_is; low = subst (λ k. old.table.id < k) (same-next x) low })
  placed-target at (inr made) = inr (record { draft = made.draft; there = made.there; is = made.at_is })

  pub fresh-for : (y : FreshFile) → In y (fresh_files x.staged) → (staged_for x.staged y.table).fresh ≡ Some y.file
  fresh-for y there =
      in_listed y.table y (staged_for x.staged y.table).fresh
      (subst (λ l. In y l) (files-of y.table x.staged x.is.are_staged.is_staged.once)
      (kept_in (λ (z : FreshFile). is_ref z.table y.table) y (fresh_files x.staged) there (ref-is y.table y.table refl)))

  pub placed-fresh : (y : FreshFile) → In y (fresh_files x.staged) → IsPlaced (next x) x.own y.table
  placed-fresh y there = placed-target y.table (target y.table y.file (fresh-for y there))

  pub told-by : (at : Ref) → IsPlaced (next x) x.own at → AllByRecursion (IsTold x.t (n x + 1) (next x) (creations 0 0 x.own) at (table_id (next x) (creations 0 0 x.own) at)) (fresh_files x.staged)
  told-by at placed = all_by _ (fresh_files x.staged) (λ y there. test-same (next x) x.own y.table at (placed-fresh y there) placed)

  -- ---- files

  pub file-rows : (at : Ref) → IsPlaced (next x) x.own at
      → data_rows (table_id (next x) (creations 0 0 x.own) at) (p x).data_file
      ≡ map (file_row x.t (n x + 1) (next x) (creations 0 0 x.own) (file_id_at (next_file x) (fresh_files x.staged) at)) (listed at (staged_for x.staged at).fresh)
  file-rows at placed =
      one-file x.t (n x + 1) (next x) (creations 0 0 x.own) at (table_id (next x) (creations 0 0 x.own) at) (next_file x) (fresh_files x.staged) (told-by at placed) (staged_for x.staged at).fresh
      (files-of at x.staged x.is.are_staged.is_staged.once)

  -- no delete file is of a new file
  pub none-deleted : (id : ℕ) → next_file x ≤ id → delete_row (seen_then x).delete_file id ≡ None
  none-deleted id past = find-none (λ (d : DeleteFileRow). d.data_file_id == id) (seen_then x).delete_file
      (subst (AllByRecursion (λ (d : DeleteFileRow). (d.data_file_id == id) ≡ false)) (sym (append-nil _))
      (all-passing (λ (d : DeleteFileRow). (d.data_file_id == id) ≡ false) _ (now x).delete_file
      (all_like (λ (d : DeleteFileRow). d.data_file_id < next_file x) (λ (d : DeleteFileRow). (d.data_file_id == id) ≡ false) (λ d low. ne_eqb d.data_file_id id (λ same. absurd (omega (arith, low, past, same)))) (now x).delete_file
      (all-seen delete_file_validity (λ (d : DeleteFileRow). d.data_file_id < next_file x) (n x) x.t.delete_file (λ d low. low) (all_like _ (λ (d : DeleteFileRow). d.data_file_id < next_file x) (λ d h. h.0) x.t.delete_file (deletes-low x))))))

  pub new-named : (at : Ref) → IsPlaced (next x) x.own at
      → map (file_of (seen_then x).delete_file) (data_rows (table_id (next x) (creations 0 0 x.own) at) (p x).data_file) ≡ new_files x.t x.sound.newest x.staged at
  new-named at placed =
      let id = file_id_at (next_file x) (fresh_files x.staged) at in
      ap (map (file_of (seen_then x).delete_file)) (file-rows at placed)
      ∙ named-file x.t (n x + 1) (next x) (creations 0 0 x.own) at (table_id (next x) (creations 0 0 x.own) at) id (seen_then x).delete_file
      (none-deleted id (file_id-from (next_file x) (fresh_files x.staged) at)) (staged_for x.staged at).fresh

  -- a delete file is of its data file's table
  differing : Holds (IsDeleteFileDiffering (now x))
  differing k bad = all_in _ x.sound.newest x.t.snapshot
      (holds-each (λ seen j. IsDeleteFileUnmatched x.t seen j ⊎ IsDeleteFileDiffering seen j) x.t (λ j h. x.sound.rules.1.1.1.1.1.1.1.0 j (inl h))) (newest-in x) k (inr bad)

  of-table : (f : DataFileRow) (d : DeleteFileRow) → In f (now x).data_file → In d (now x).delete_file → d.data_file_id ≡ f.data_file_id → d.table_id ≡ f.table_id
  of-table f d in_files in_deletes same =
      let fine = all_in (λ (e : DeleteFileRow). differs_from (row_of data_file_key (e.data_file_id ∷ []) (now x).data_file) e ≡ true → ⊥) d (now x).delete_file (all_fine of_delete_file _ (now x).delete_file differing) in_deletes in
      let found : row_of data_file_key (d.data_file_id ∷ []) (now x).data_file ≡ Some f = member_row data_file_key data_file_validity data_file_laws (n x) x.t.data_file x.is.parts.settled.data_file.rises (d.data_file_id ∷ []) f in_files (rw same (same_key data_file_key f)) in
      go (d.table_id == f.table_id) refl (λ e. fine (ap (λ o. differs_from o d) found ∙ e))
    where
      go : (b : Bool) → (d.table_id == f.table_id) ≡ b → (differs_from (Some f) d ≡ true → ⊥) → d.table_id ≡ f.table_id
      go true e more = eqb-true d.table_id f.table_id e
      go false e more = absurd (more (rw e refl))

  same-deletes : (f : DataFileRow) → In f (now x).data_file → drops_table x.own (ref.Old f.table_id) ≡ false → delete_row (seen_then x).delete_file f.data_file_id ≡ delete_row (now x).delete_file f.data_file_id
  same-deletes f there stays =
      ap (λ l. delete_row l f.data_file_id) (append-nil (filter (λ (d : DeleteFileRow). not (drops_table x.own (ref.Old d.table_id))) (now x).delete_file))
      ∙ find-kept (λ (d : DeleteFileRow). d.data_file_id == f.data_file_id) (λ (d : DeleteFileRow). drops_table x.own (ref.Old d.table_id)) (now x).delete_file
      (all_by _ (now x).delete_file (λ d in_deletes is. ap (λ k. drops_table x.own (ref.Old k)) (of-table f d there in_deletes (eqb-true d.data_file_id f.data_file_id is)) ∙ stays))

  -- ---- columns

  columns-high : AllByRecursion (λ (c : ColumnRow). next x ≤ c.table_id) (p x).column
  columns-high = all_flat (λ (c : ColumnRow). next x ≤ c.table_id) (columns_of (n x + 1) (next x) (creations 0 0 x.own)) (made_tables 0 x.own)
      (all_like (λ (d : Draft). next x ≤ table_id (next x) (creations 0 0 x.own) d.at) (λ (d : Draft). AllByRecursion (λ (c : ColumnRow). next x ≤ c.table_id) (columns_of (n x + 1) (next x) (creations 0 0 x.own) d))
      (λ d past. all_like (λ (c : ColumnRow). c.table_id ≡ table_id (next x) (creations 0 0 x.own) d.at) (λ (c : ColumnRow). next x ≤ c.table_id) (λ c same. omega (arith, past, same)) (columns_of (n x + 1) (next x) (creations 0 0 x.own) d) (columns-of_table _ (n x + 1) 0 d.columns))
      (made_tables 0 x.own) (made-past (next x) x.own))

  pub same-columns : (table : ℕ) → drops_table x.own (ref.Old table) ≡ false → table < next x → column_rows table (seen_then x).column ≡ column_rows table (now x).column
  same-columns table stays low =
      ap (ordered (λ (r : ColumnRow). r.column_order)) (old_own (λ (r : ColumnRow). r.table_id) (next x) table (λ k. drops_table x.own (ref.Old k)) (now x).column (p x).column stays low columns-high)

  pub made-columns : (d : Draft) → In d (made_tables 0 x.own) → column_rows (table_id (next x) (creations 0 0 x.own) d.at) (seen_then x).column ≡ columns_of (n x + 1) (next x) (creations 0 0 x.own) d
  made-columns d there =
      let table = table_id (next x) (creations 0 0 x.own) d.at in
      ap (ordered (λ (r : ColumnRow). r.column_order))
      (new_own (λ (r : ColumnRow). r.table_id) (next x) table _ (now x).column (p x).column
      (all_in (λ (e : Draft). next x ≤ table_id (next x) (creations 0 0 x.own) e.at) d (made_tables 0 x.own) (made-past (next x) x.own) there)
      (all-seen column_validity (λ (r : ColumnRow). r.table_id < next x) (n x) x.t.column (λ r low. low) (columns-low x))
      ∙ all_in _ d (made_tables 0 x.own) (its_part (λ (c : ColumnRow). c.table_id) (λ (e : Draft). table_id (next x) (creations 0 0 x.own) e.at) (columns_of (n x + 1) (next x) (creations 0 0 x.own)) (λ e. columns-of_table _ (n x + 1) 0 e.columns) _ (made_tables 0 x.own) (made-rise (next x) x.own)) there)
      ∙ columns-ordered table (n x + 1) 0 d.columns

  -- ---- tables

  now-low : (r : TableRow) → In r (now x).table → r.table_id < next x
  now-low r there = all_in (λ (q : TableRow). q.table_id < next x) r (now x).table (all-seen table_validity (λ (q : TableRow). q.table_id < next x) (n x) x.t.table (λ q low. low) (tables-low x)) there

  old-files : (table : ℕ) → drops_table x.own (ref.Old table) ≡ false → table < next x
      → map (file_of (now x).delete_file) (data_rows table (now x).data_file) ++ new_files x.t x.sound.newest x.staged (ref.Old table)
      ≡ map (file_of (seen_then x).delete_file) (data_rows table (seen_then x).data_file)
  old-files table stays low =
      ap₂ (λ (a b : List _). a ++ b)
      (map-same (file_of (now x).delete_file) (file_of (seen_then x).delete_file) (data_rows table (now x).data_file) same)
      (sym (new-named (ref.Old table) (inl (record { id = table; is = refl; low = low }))))
      ∙ sym (map-append (file_of (seen_then x).delete_file) (data_rows table (now x).data_file) (data_rows table (p x).data_file))
      ∙ ap (map (file_of (seen_then x).delete_file)) (sym (its_own (λ (f : DataFileRow). f.table_id) (λ k. drops_table x.own (ref.Old k)) table (now x).data_file (p x).data_file stays))
    where
      same : (f : DataFileRow) → In f (data_rows table (now x).data_file) → file_of (now x).delete_file f ≡ file_of (seen_then x).delete_file f
      same f there =
          let m = in_kept (λ (g : DataFileRow). g.table_id == table) f (now x).data_file there in
          ap (λ o. file_with o f) (sym (same-deletes f m.0 (ap (λ k. drops_table x.own (ref.Old k)) (eqb-true f.table_id table m.1) ∙ stays)))

  old-table : (r : TableRow) (y : NamedTable) → In r (now x).table → drops_table x.own (ref.Old y.id) ≡ false → IsTableAt (now x) r y → IsTableAt (seen_then x) r (grown_table (new_files x.t x.sound.newest x.staged) x.own y)
  old-table r y there kept is =
      let stays : drops_table x.own (ref.Old r.table_id) ≡ false = ap (λ k. drops_table x.own (ref.Old k)) (sym is.id) ∙ kept in
      let low = now-low r there in
      record {
        id = is.id;
        schema = is.schema;
        name = is.name;
        columns = subst (λ l. AllZip IsColumnOf l y.columns) (sym (same-columns r.table_id stays low)) is.columns;
        files = ap₂ (λ a k. a ++ new_files x.t x.sound.newest x.staged (ref.Old k)) is.files is.id ∙ old-files r.table_id stays low;
        inlined = subst (λ l. AllZip (IsInlined y.columns) l y.inlined)
            (sym (old_own (λ (q : InlinedRow). q.table_id) (next x) r.table_id (λ k. drops_table x.own (ref.Old k)) (now x).inlined_row [] stays low tt)) is.inlined;
      }

  old-tables : (rs : List TableRow) (ys : List NamedTable) → ((r : TableRow) → In r rs → In r (now x).table) → AllZip (IsTableAt (now x)) rs ys
      → AllZip (IsTableAt (seen_then x)) (filter (λ (r : TableRow). not (drops_table x.own (ref.Old r.table_id))) rs) (map (grown_table (new_files x.t x.sound.newest x.staged) x.own) (kept_tables x.own ys))
  old-tables [] [] within h = tt
  old-tables [] (y ∷ ys) within h = absurd h
  old-tables (r ∷ rs) [] within h = absurd h
  old-tables (r ∷ rs) (y ∷ ys) within h = go (drops_table x.own (ref.Old y.id)) refl (old-tables rs ys (λ q there. within q (inr there)) h.1)
    where
      go : (b : Bool) → drops_table x.own (ref.Old y.id) ≡ b
          → AllZip (IsTableAt (seen_then x)) (filter (λ (q : TableRow). not (drops_table x.own (ref.Old q.table_id))) rs) (map (grown_table (new_files x.t x.sound.newest x.staged) x.own) (kept_tables x.own ys))
          → AllZip (IsTableAt (seen_then x)) (filter (λ (q : TableRow). not (drops_table x.own (ref.Old q.table_id))) (r ∷ rs)) (map (grown_table (new_files x.t x.sound.newest x.staged) x.own) (kept_tables x.own (y ∷ ys)))
      go true e more = let also : drops_table x.own (ref.Old r.table_id) ≡ true = ap (λ k. drops_table x.own (ref.Old k)) (sym h.0.id) ∙ e in rw (e, also) more
      go false e more = let also : drops_table x.own (ref.Old r.table_id) ≡ false = ap (λ k. drops_table x.own (ref.Old k)) (sym h.0.id) ∙ e in rw (e, also) (old-table r y (within r (inl refl)) e h.0, more)

  pub new-table : (d : Draft) → In d (made_tables 0 x.own) → IsTableAt (seen_then x) (table_row (n x + 1) (next x) (creations 0 0 x.own) d) (made_table (new_files x.t x.sound.newest x.staged) (next x) (creations 0 0 x.own) d)
  new-table d there =
      let table = table_id (next x) (creations 0 0 x.own) d.at in
      let past = all_in (λ (e : Draft). next x ≤ table_id (next x) (creations 0 0 x.own) e.at) d (made_tables 0 x.own) (made-past (next x) x.own) there in
      let spelled = all_in (λ (e : Draft). AllByRecursion (λ (c : Column). IsTidyColumn c × HasBytes c) e.columns) d (made_tables 0 x.own) (made-spelled x.is.told x.is.base (head x) x.own x.is.free x.is.bytes) there in
      record {
        id = refl;
        schema = refl;
        name = refl;
        columns = subst (λ l. AllZip IsColumnOf l d.columns) (sym (made-columns d there)) (columns-spelled table (n x + 1) 0 d.columns spelled);
        files = sym (ap (map (file_of (seen_then x).delete_file)) (new_own (λ (f : DataFileRow). f.table_id) (next x) table _ (now x).data_file (p x).data_file past
            (all-seen data_file_validity (λ (f : DataFileRow). f.table_id < next x) (n x) x.t.data_file (λ f low. low) (all_like _ (λ (f : DataFileRow). f.table_id < next x) (λ f h. h.1) x.t.data_file (files-low x))))
            ∙ new-named d.at (inr (record { draft = d; there = there; is = refl })));
        inlined = subst (λ l. AllZip (IsInlined d.columns) l [])
            (sym (new_own (λ (q : InlinedRow). q.table_id) (next x) table _ (now x).inlined_row [] past (all-seen inlined_row_validity (λ (q : InlinedRow). q.table_id < next x) (n x) x.t.inlined_row (λ q low. low) (inlined-low x)))) tt;
      }

  pub next-sees : (v : NamedVersion) → IsVersionOf (now x) v → IsVersionOf (seen_then x) (next_named x.t x.sound.newest x.own x.staged v)
  next-sees v is = record {
    schemas =
        ap₂ (λ (a b : List SchemaName). a ++ b) (ap (kept_schemas x.own) is.schemas ∙ kept-of x.own (now x).schema) (made-of (n x + 1) (next x) (creations 0 0 x.own) (made_schemas 0 x.own))
        ∙ sym (map-append schema_of (filter (λ (r : SchemaRow). not (drops_schema x.own (ref.Old r.schema_id))) (now x).schema) (p x).schema);
    tables = zip-append (IsTableAt (seen_then x)) _ (p x).table _ _ (old-tables (now x).table v.tables (λ r there. there) is.tables)
        (zip-mapped (IsTableAt (seen_then x)) (table_row (n x + 1) (next x) (creations 0 0 x.own)) (made_table (new_files x.t x.sound.newest x.staged) (next x) (creations 0 0 x.own)) (made_tables 0 x.own) new-table);
  }
