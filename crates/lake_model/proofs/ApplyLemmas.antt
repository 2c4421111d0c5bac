-- What a list does, table by table.
use Rattle.std.proofs.Common.{◌≡◌, ℕ, ◌+◌, List, [], ◌∷◌, ◌++◌, map, filter, refl, sym, ap, ◌∙◌, append-nil, Bool, true, false}
use Rattle.std.specs.Prelude.{Option, Some, None, not, fold}
use Rattle.std.specs.List.{cons_option, filter_map}
use Rattle.lake_types.specs.declared.value.Column.{Column}
use Rattle.lake_model.specs.Apply.{Draft, Work, altered, begun, changed, created, is_ref, with_schema, with_table, without_schema, without_table}
use Rattle.lake_model.specs.ByTable.{draft_after, made_from}
use Rattle.lake_model.specs.Laws.{GoesByTable}
use Rattle.lake_model.specs.declared.change.Change.{Change}
use Rattle.lake_model.specs.declared.change.Change.TheVariants as change
use Rattle.lake_model.specs.declared.change.Ref.{Ref}

some-all : (ds : List Draft) → filter_map (draft_after []) ds ≡ ds
some-all [] = refl
some-all (d ∷ ds) = ap (λ more. d ∷ more) (some-all ds)

-- a change that drops nothing acts on each table by itself
after-altered : (c : Change) (own : List Change) (ds : List Draft) → ((d : Draft) → draft_after (c ∷ own) d ≡ draft_after own (altered c d))
    → filter_map (draft_after own) (map (altered c) ds) ≡ filter_map (draft_after (c ∷ own)) ds
after-altered c own [] h = refl
after-altered c own (d ∷ ds) h = rw (h d) (ap (cons_option (draft_after own (altered c d))) (after-altered c own ds h))

-- one that acts on no table leaves all
after-still : (c : Change) (own : List Change) (ds : List Draft) → ((d : Draft) → draft_after (c ∷ own) d ≡ draft_after own d)
    → filter_map (draft_after own) ds ≡ filter_map (draft_after (c ∷ own)) ds
after-still c own [] h = refl
after-still c own (d ∷ ds) h = rw (h d) (ap (cons_option (draft_after own d)) (after-still c own ds h))

-- a drop takes what it names
after-drop : (table : Ref) (own : List Change) (ds : List Draft)
    → filter_map (draft_after own) (filter (λ (x : Draft). not (is_ref x.at table)) ds) ≡ filter_map (draft_after (change.DropTable table ∷ own)) ds
after-drop table own [] = refl
after-drop table own (d ∷ ds) = go (is_ref d.at table) refl (after-drop table own ds)
  where
    go : (b : Bool) → is_ref d.at table ≡ b
        → filter_map (draft_after own) (filter (λ (x : Draft). not (is_ref x.at table)) ds) ≡ filter_map (draft_after (change.DropTable table ∷ own)) ds
        → filter_map (draft_after own) (filter (λ (x : Draft). not (is_ref x.at table)) (d ∷ ds)) ≡ filter_map (draft_after (change.DropTable table ∷ own)) (d ∷ ds)
    go true e more = rw e more
    go false e more = rw e (ap (cons_option (draft_after own d)) more)

after-append : (own : List Change) (ds : List Draft) (d : Draft) (more : List Draft) →
    filter_map (draft_after own) (ds ++ d ∷ []) ++ more ≡ filter_map (draft_after own) ds ++ cons_option (draft_after own d) more
after-append own [] d more = first (draft_after own d)
  where
    first : (o : Option Draft) → cons_option o [] ++ more ≡ cons_option o more
    first None = refl
    first (Some x) = refl
after-append own (x ∷ ds) d more = one (draft_after own x) (after-append own ds d more)
  where
    one : (o : Option Draft) → filter_map (draft_after own) (ds ++ d ∷ []) ++ more ≡ filter_map (draft_after own) ds ++ cons_option (draft_after own d) more
        → cons_option o (filter_map (draft_after own) (ds ++ d ∷ [])) ++ more ≡ cons_option o (filter_map (draft_after own) ds) ++ cons_option (draft_after own d) more
    one None h = h
    one (Some y) h = ap (λ rest. y ∷ rest) h

-- ---- the whole list

abbrev Goes : Work → List Change → Type 0
Goes w own = (fold changed w own).tables ≡ filter_map (draft_after own) w.tables ++ made_from w.created_tables own

still-goes : (w v : Work) (c : Change) (own : List Change) → Goes v own → v.created_tables ≡ w.created_tables → v.tables ≡ w.tables
    → ((d : Draft) → draft_after (c ∷ own) d ≡ draft_after own d) → made_from w.created_tables (c ∷ own) ≡ made_from w.created_tables own
    → (fold changed v own).tables ≡ filter_map (draft_after (c ∷ own)) w.tables ++ made_from w.created_tables (c ∷ own)
still-goes w v c own goes e f still none =
    goes ∙ rw (e, f, none) (ap (λ front. front ++ made_from w.created_tables own) (after-still c own w.tables still))

altered-goes : (w : Work) (c : Change) (own : List Change) → Goes (record w { tables = map (altered c) w.tables }) own
    → ((d : Draft) → draft_after (c ∷ own) d ≡ draft_after own (altered c d)) → made_from w.created_tables (c ∷ own) ≡ made_from w.created_tables own
    → (fold changed (record w { tables = map (altered c) w.tables }) own).tables ≡ filter_map (draft_after (c ∷ own)) w.tables ++ made_from w.created_tables (c ∷ own)
altered-goes w c own goes each none =
    goes ∙ rw none (ap (λ front. front ++ made_from w.created_tables own) (after-altered c own w.tables each))

created-goes : (w : Work) (schema : Ref) (name : List ℕ) (columns : List Column) (own : List Change) → Goes (with_table w schema name columns) own
    → Goes w (change.CreateTable schema name columns ∷ own)
created-goes w schema name columns own goes =
    let c = change.CreateTable schema name columns in
    let d = created w.created_tables schema name columns in
    goes ∙ after-append own w.tables d (made_from (w.created_tables + 1) own)
    ∙ ap (λ front. front ++ cons_option (draft_after own d) (made_from (w.created_tables + 1) own)) (after-still c own w.tables (λ x. refl))

goes-by_table : (own : List Change) (w : Work) → Goes w own
goes-by_table [] w = sym (append-nil (filter_map (draft_after []) w.tables) ∙ some-all w.tables)
goes-by_table (change.CreateSchema name ∷ own) w =
    still-goes w (with_schema w name) (change.CreateSchema name) own (goes-by_table own (with_schema w name)) refl refl (λ d. refl) refl
goes-by_table (change.DropSchema schema ∷ own) w =
    still-goes w (without_schema w schema) (change.DropSchema schema) own (goes-by_table own (without_schema w schema)) refl refl (λ d. refl) refl
goes-by_table (change.CreateTable schema name columns ∷ own) w = created-goes w schema name columns own (goes-by_table own (with_table w schema name columns))
goes-by_table (change.DropTable table ∷ own) w =
    goes-by_table own (without_table w table) ∙ ap (λ front. front ++ made_from w.created_tables own) (after-drop table own w.tables)
goes-by_table (change.AddColumn table column ∷ own) w = altered-goes w (change.AddColumn table column) own (goes-by_table own _) (λ d. refl) refl
goes-by_table (change.DropColumn table field ∷ own) w = altered-goes w (change.DropColumn table field) own (goes-by_table own _) (λ d. refl) refl
goes-by_table (change.RenameColumn table field name ∷ own) w = altered-goes w (change.RenameColumn table field name) own (goes-by_table own _) (λ d. refl) refl
goes-by_table (change.PromoteColumn table field ty ∷ own) w = altered-goes w (change.PromoteColumn table field ty) own (goes-by_table own _) (λ d. refl) refl
goes-by_table (change.SetDefault table field value ∷ own) w = altered-goes w (change.SetDefault table field value) own (goes-by_table own _) (λ d. refl) refl
goes-by_table (change.Insert table rows ∷ own) w = altered-goes w (change.Insert table rows) own (goes-by_table own _) (λ d. refl) refl
goes-by_table (change.Delete table rows ∷ own) w = altered-goes w (change.Delete table rows) own (goes-by_table own _) (λ d. refl) refl
goes-by_table (change.Update table rows set ∷ own) w = altered-goes w (change.Update table rows set) own (goes-by_table own _) (λ d. refl) refl
goes-by_table (change.Compact table ∷ own) w = altered-goes w (change.Compact table) own (goes-by_table own _) (λ d. refl) refl
goes-by_table (change.Flush table ∷ own) w = altered-goes w (change.Flush table) own (goes-by_table own _) (λ d. refl) refl

pub by_table : GoesByTable
by_table s own = goes-by_table own (begun s)
