-- A version with the new files of a list is the plain state after the list, table by table.
use Rattle.std.proofs.Common.{◌≡◌, ℕ, ◌+◌, ◌<◌, Bool, true, false, List, [], ◌∷◌, ◌++◌, filter, length, map, Option, Some, None, IfSome, refl, sym, ap, ap₂, ◌∙◌, arith}
use Rattle.std.specs.Prelude.{is_some, not}
use Rattle.std.specs.List.{AllByRecursion, flat_map}
use Rattle.std.proofs.lemmas.Grind.{flat_map-append}
use Rattle.std.proofs.lemmas.List.{append-nil, map-append}
use Rattle.lake_types.specs.Cells.{laid_cells}
use Rattle.lake_types.specs.declared.value.Column.{Column}
use Rattle.lake_types.specs.declared.value.Row.{Row}
use Rattle.lake_model.proofs.GrowthLemmas.{grows_by_table}
use Rattle.lake_model.proofs.RiseLemmas.{all-below}
use Rattle.lake_model.proofs.TableLemmas.{all-parts}
use Rattle.lake_model.specs.Apply.{Creation, Draft, created, left, numbered, settled_table}
use Rattle.lake_model.specs.Creations.{creations}
use Rattle.lake_model.specs.Growth.{grown, grown_state, made_tables, rows_for, with_own_rows}
use Rattle.lake_model.specs.Kinds.{drops_table}
use Rattle.lake_model.specs.State.{Table}
use Rattle.lake_model.specs.declared.change.Change.{Change}
use Rattle.lake_model.specs.declared.change.Change.TheVariants as change
use Rattle.lake_model.specs.declared.change.Ref.{Ref}
use Rattle.lake_model.specs.declared.change.Ref.TheVariants as ref
use Rattle.cat_view.proofs.MoreLemmas.{HasSame, IsSame, same_live}
use Rattle.cat_view.specs.Files.{Extends, Files}
use Rattle.cat_view.specs.Named.{NamedDeletes, NamedFile, NamedTable, live_rows, ordered, state_of, table_of}
use Rattle.cat_growth.specs.Growth.{IsMadeReady, IsReady, IsThere, NewFiles, grown_table, kept_tables, made_table}
use Rattle.cat_growth.specs.Laws.{VersionsApply, VersionsGrow}
use Rattle.cat_growth.proofs.OrderLemmas.{Below, all_from_ordered, id_of, numbered-from, numbered-ordered, ordered-middle}

-- ---- rows below a limit

below-ids : (limit : ℕ) (rows : List Row) → AllByRecursion (λ n. n < limit) (map id_of rows) → Below limit rows
below-ids limit [] h = tt
below-ids limit (r ∷ rows) h = (h.0, below-ids limit rows h.1)

-- ---- tables that the list makes

-- what holds of each new table with its rows
pub made-have : (P : Draft → Type 0) → ((n : ℕ) (schema : Ref) (name : List ℕ) (columns : List Column) (own : List Change) → P (with_own_rows own (created n schema name columns)))
    → (n : ℕ) (own : List Change) → AllByRecursion P (made_tables n own)
made-have P new n [] = tt
made-have P new n (change.CreateTable schema name columns ∷ own) = go (drops_table own (ref.New n)) refl (made-have P new (n + 1) own)
  where
    go : (b : Bool) → drops_table own (ref.New n) ≡ b → AllByRecursion P (made_tables (n + 1) own) → AllByRecursion P (made_tables n (change.CreateTable schema name columns ∷ own))
    go true e more = rw e more
    go false e more = rw e (new n schema name columns own, more)
made-have P new n (c ∷ own) = made-have P new n own

-- it has no rows from before
abbrev IsBlank : Draft → Type 0
IsBlank d = (d.rows ≡ []) × (d.next_row ≡ 0)

module _ (more : Files) (news : NewFiles) (next : ℕ) (new : List Creation) where
  made-table : (d : Draft) → IsBlank d → IsMadeReady more news d → table_of more (made_table news next new d) ≡ settled_table next new d
  made-table d blank ready =
      let cells = left d.fresh in
      let rows : ordered id_of (flat_map (live_rows more d.columns) (news d.at) ++ []) ≡ d.rows ++ numbered d.next_row cells =
      ap (ordered id_of) (append-nil (flat_map (live_rows more d.columns) (news d.at)) ∙ ready)
      ∙ numbered-ordered 0 cells
      ∙ sym (ap₂ (λ (old : List Row) n. old ++ numbered n cells) blank.0 blank.1) in
      let counted : length cells ≡ d.next_row + length cells = omega (arith, blank.1) in
      ap₂ (λ (all : List Row) n. record (settled_table next new d) { rows = all; next_row = n }) rows counted

  made-all : (ds : List Draft) → AllByRecursion IsBlank ds → AllByRecursion (IsMadeReady more news) ds
      → map (table_of more) (map (made_table news next new) ds) ≡ map (settled_table next new) ds
  made-all [] blank ready = refl
  made-all (d ∷ ds) blank ready = ap₂ (λ a b. a ∷ b) (made-table d blank.0 ready.0) (made-all ds blank.1 ready.1)

-- ---- tables from before

module _ (files more : Files) (news : NewFiles) (own : List Change) (extends : Extends files more) where
  same_deletes : (o : Option NamedDeletes) → IfSome o (λ (d : NamedDeletes). is_some (files d.name) ≡ true) → IfSome o (λ (d : NamedDeletes). IsSame files more d.name)
  same_deletes None h = tt
  same_deletes (Some d) h = extends d.name h

  has-same : (f : NamedFile) → IsThere files f → HasSame files more f
  has-same f h = (extends f.name h.file, same_deletes f.deletes h.deletes)

  same_all : (fs : List NamedFile) → AllByRecursion (IsThere files) fs → AllByRecursion (HasSame files more) fs
  same_all [] h = tt
  same_all (f ∷ fs) h = (has-same f h.0, same_all fs h.1)

  grown-table : (x : NamedTable) → IsReady files more news own x → table_of more (grown_table news own x) ≡ grown own (table_of files x)
  grown-table x h =
      let at = ref.Old x.id in
      let live = live_rows more x.columns in
      let old = flat_map (live_rows files x.columns) x.files in
      let new = numbered x.next_row (map (laid_cells x.columns) (rows_for at own)) in
      let below = all-parts (λ (r : Row). r.id < x.next_row) old x.inlined
      (all_from_ordered (λ (r : Row). r.id < x.next_row) (old ++ x.inlined) (below-ids x.next_row (ordered id_of (old ++ x.inlined)) (all-below x.next_row _ h.can_grow.ids))) in
      let read : flat_map live (x.files ++ news at) ≡ old ++ new =
      flat_map-append live x.files (news at) ∙ ap₂ (λ (a b : List Row). a ++ b) (same_live files more x.columns x.files (same_all x.files h.can_grow.there)) h.hold in
      let rows : ordered id_of (flat_map live (x.files ++ news at) ++ x.inlined) ≡ ordered id_of (old ++ x.inlined) ++ new =
      ap (λ (l : List Row). ordered id_of (l ++ x.inlined)) read
      ∙ ordered-middle x.next_row old new x.inlined below.0 below.1 (numbered-from x.next_row _) (numbered-ordered x.next_row _) in
      ap (λ (all : List Row). record (grown own (table_of files x)) { rows = all }) rows

  grown-all : (xs : List NamedTable) → AllByRecursion (λ (x : NamedTable). drops_table own (ref.Old x.id) ≡ false → IsReady files more news own x) xs
      → map (table_of more) (map (grown_table news own) (kept_tables own xs))
      ≡ map (grown own) (filter (λ (t : Table). not (drops_table own (ref.Old t.id))) (map (table_of files) xs))
  grown-all [] h = refl
  grown-all (x ∷ xs) h = go (drops_table own (ref.Old x.id)) refl (grown-all xs h.1)
    where
      go : (b : Bool) → drops_table own (ref.Old x.id) ≡ b
          → map (table_of more) (map (grown_table news own) (kept_tables own xs))
          ≡ map (grown own) (filter (λ (t : Table). not (drops_table own (ref.Old t.id))) (map (table_of files) xs))
          → map (table_of more) (map (grown_table news own) (kept_tables own (x ∷ xs)))
          ≡ map (grown own) (filter (λ (t : Table). not (drops_table own (ref.Old t.id))) (map (table_of files) (x ∷ xs)))
      go true e rest = rw e rest
      go false e rest = rw e (ap₂ (λ a b. a ∷ b) (grown-table x (h.0 e)) rest)

-- ---- the whole

pub versions-grow : VersionsGrow
versions-grow files more news own next v extends ready made_ready =
    let new = creations 0 0 own in
    let mades = made_tables 0 own in
    let olds = map (grown_table news own) (kept_tables own v.tables) in
    let tables : map (table_of more) (olds ++ map (made_table news next new) mades) ≡ (grown_state (state_of files next v) own).tables =
    map-append (table_of more) olds (map (made_table news next new) mades)
    ∙ ap₂ (λ (a b : List Table). a ++ b) (grown-all files more news own extends v.tables ready) (made-all more news next new mades (made-have IsBlank (λ n schema name columns own. (refl, refl)) 0 own) made_ready) in
    ap (λ (ts : List Table). record (grown_state (state_of files next v) own) { tables = ts }) tables

pub versions-apply : VersionsApply
versions-apply files more news own next v grows extends ready made_ready =
    versions-grow files more news own next v extends ready made_ready ∙ sym (grows_by_table (state_of files next v) own grows)
