-- The jobs of a list that only creates, drops and inserts are its tables with fresh rows.
use Rattle.std.proofs.Common.{◌≡◌, ℕ, ◌+◌, ◌++◌, ◌&&◌, ◌||◌, not, Bool, true, false, cond, List, [], ◌∷◌, append_assoc, length, map, filter, Option, Some, None, refl, sym, ap, ap₂, subst, ◌∙◌, if◌then◌else◌}
use Rattle.std.specs.List.{AllByRecursion, slice_get}
use Rattle.std.specs.Option.{option_map_or}
use Rattle.std.proofs.lemmas.List.{length-append, map-append}
use Rattle.std.proofs.lemmas.List.Elements.{filter-append}
use Rattle.lake_types.specs.Cells.{laid_cells}
use Rattle.lake_types.specs.declared.value.Column.{Column}
use Rattle.lake_model.specs.Apply.{Cells, Draft, created, fields_from}
use Rattle.lake_model.specs.Growth.{IsGrowth, inserted_into, made_tables, rows_for, with_own_rows}
use Rattle.lake_model.specs.Kinds.{drops_table}
use Rattle.lake_model.specs.declared.change.Change.{Change}
use Rattle.lake_model.specs.declared.change.Change.TheVariants as change
use Rattle.lake_model.specs.declared.change.Ref.{Ref}
use Rattle.lake_model.specs.declared.change.Ref.TheVariants as ref
use Rattle.lake_model.proofs.GrowthLemmas.{left_laid}
use Rattle.cat_view.specs.Named.{NamedTable, NamedVersion}
use Rattle.row_files.specs.Growing.{HasFields, fresh_of, fresh_of_old, fresh_tables, has_rows, is_some_row}
use Rattle.row_files.specs.Own.{AreMade, ComesTo, Continues, any_row, columns_at, created_columns, fresh_job, inserted_rows, inserts_into, inserts_of, is_dropped, job_if, made_jobs, needs_file, old_jobs, own_rows, places_from, rows_at}
use Rattle.row_files.specs.Stages.{FreshTable}
use Rattle.row_files.specs.declared.jobs.Job.{Job}
use Rattle.row_files.specs.declared.own.OwnTable.{OwnTable}

-- ---- the rows at the places of a table are those that the list inserts into it

at_place : {X : Type 0} (before : List X) (x : X) (rest : List X) → slice_get (before ++ x ∷ rest) (length before) ≡ Some x
at_place [] x rest = refl
at_place (y ∷ before) x rest = at_place before x rest

one_more : {X : Type 0} (before : List X) (x : X) → length (before ++ x ∷ []) ≡ length before + 1
one_more before x = length-append before (x ∷ [])

inserted : (at : Ref) (c : Change) → inserted_into at c ≡ (if inserts_into at c then inserted_rows c else [])
inserted at (change.Insert table rows) = refl
inserted at (change.CreateSchema name) = refl
inserted at (change.DropSchema schema) = refl
inserted at (change.CreateTable schema name columns) = refl
inserted at (change.DropTable table) = refl
inserted at (change.AddColumn table column) = refl
inserted at (change.DropColumn table field) = refl
inserted at (change.RenameColumn table field name) = refl
inserted at (change.PromoteColumn table field ty) = refl
inserted at (change.SetDefault table field v) = refl
inserted at (change.Delete table rows) = refl
inserted at (change.Update table rows set) = refl
inserted at (change.Compact table) = refl
inserted at (change.Flush table) = refl

placed : (before : List Change) (at : Ref) (rest : List Change) (place : ℕ) → place ≡ length before → own_rows (before ++ rest) (places_from place at rest) ≡ rows_for at rest
placed before at [] place is = refl
placed before at (c ∷ rest) place is =
    go (inserts_into at c) refl
    (ap (λ own. own_rows own (places_from (place + 1) at rest)) (sym (append_assoc before (c ∷ []) rest))
    ∙ placed (before ++ c ∷ []) at rest (place + 1) (ap (λ n. n + 1) is ∙ sym (one_more before c)))
  where
    here : rows_at (before ++ c ∷ rest) place ≡ inserted_rows c
    here = ap (λ n. rows_at (before ++ c ∷ rest) n) is ∙ ap (λ o. option_map_or inserted_rows o []) (at_place before c rest)

    go : (b : Bool) → inserts_into at c ≡ b → own_rows (before ++ c ∷ rest) (places_from (place + 1) at rest) ≡ rows_for at rest
        → own_rows (before ++ c ∷ rest) (places_from place at (c ∷ rest)) ≡ rows_for at (c ∷ rest)
    go true e more =
        ap (λ b. own_rows (before ++ c ∷ rest) (cond b (place ∷ places_from (place + 1) at rest) (places_from (place + 1) at rest))) e
        ∙ ap₂ (λ xs ys. xs ++ ys) here more ∙ ap (λ xs. xs ++ rows_for at rest) (sym (inserted at c ∙ ap (λ b. cond b (inserted_rows c) []) e))
    go false e more =
        ap (λ b. own_rows (before ++ c ∷ rest) (cond b (place ∷ places_from (place + 1) at rest) (places_from (place + 1) at rest))) e
        ∙ more ∙ ap (λ xs. xs ++ rows_for at rest) (sym (inserted at c ∙ ap (λ b. cond b (inserted_rows c) []) e))

-- ---- which tables need a file

some_both : (xs ys : List Cells) → is_some_row (xs ++ ys) ≡ (is_some_row xs || is_some_row ys)
some_both [] ys = refl
some_both (x ∷ xs) ys = refl

some_mapped : (f : Cells → Cells) (xs : List Cells) → is_some_row (map f xs) ≡ is_some_row xs
some_mapped f [] = refl
some_mapped f (x ∷ xs) = refl

any_some : (own : List Change) (places : List ℕ) → any_row own places ≡ is_some_row (own_rows own places)
any_some own [] = refl
any_some own (place ∷ places) = ap (λ b. is_some_row (rows_at own place) || b) (any_some own places) ∙ sym (some_both (rows_at own place) (own_rows own places))

-- a table whose rows and columns are so
one_job : (tables : List NamedTable) (own : List Change) (kept : Ref → Option OwnTable) (at : Ref) (place : ℕ) (columns : List Column) (rows : List Cells) (gone : Bool)
    → columns_at tables own at place ≡ columns → own_rows own (inserts_of (kept at)) ≡ rows → is_dropped (kept at) ≡ gone
    → map (fresh_job tables own kept) (job_if (needs_file own (kept at)) at place)
    ≡ filter has_rows (if gone then [] else record { table = at; columns = columns; rows = map (laid_cells columns) rows } ∷ [])
one_job tables own kept at place columns rows gone cs rs dropped =
    ap (λ b. map (fresh_job tables own kept) (job_if b at place)) (ap₂ (λ x y. not x && y) dropped (any_some own (inserts_of (kept at)) ∙ ap is_some_row rs))
    ∙ go gone (is_some_row rows) refl
  where
    t : FreshTable
    t = record { table = at; columns = columns; rows = map (laid_cells columns) rows }

    same : fresh_job tables own kept (record { table = at; place = place }) ≡ t
    same = ap₂ (λ c r. record { table = at; columns = c; rows = map (laid_cells c) r }) cs rs

    go : (gone some : Bool) → is_some_row rows ≡ some → map (fresh_job tables own kept) (job_if (not gone && some) at place) ≡ filter has_rows (if gone then [] else t ∷ [])
    go true some e = refl
    go false true e = ap (λ x. x ∷ []) same ∙ sym (ap (λ b. cond b (t ∷ []) []) (some_mapped (laid_cells columns) rows ∙ e))
    go false false e = sym (ap (λ b. cond b (t ∷ []) []) (some_mapped (laid_cells columns) rows ∙ e))

-- ---- tables of the version

module _ (tables : List NamedTable) (own : List Change) (kept : Ref → Option OwnTable) (comes : ComesTo 0 0 own (λ r. None) kept) where
  old_tables : (before rest : List NamedTable) (place : ℕ) → place ≡ length before → tables ≡ before ++ rest
      → map (fresh_job tables own kept) (old_jobs own kept place rest)
      ≡ filter has_rows (map (fresh_of_old own) (filter (λ (x : NamedTable). not (drops_table own (ref.Old x.id))) rest))
  old_tables before [] place is all = refl
  old_tables before (x ∷ rest) place is all =
      map-append (fresh_job tables own kept) (job_if (needs_file own (kept (ref.Old x.id))) (ref.Old x.id) place) (old_jobs own kept (place + 1) rest)
      ∙ ap₂ (λ xs ys. xs ++ ys) one (old_tables (before ++ x ∷ []) rest (place + 1) (ap (λ n. n + 1) is ∙ sym (one_more before x)) (all ∙ sym (append_assoc before (x ∷ []) rest)))
      ∙ join (drops_table own (ref.Old x.id)) refl
    where
      kept_is : Continues 0 (ref.Old x.id) own None (kept (ref.Old x.id))
      kept_is = comes.earlier (ref.Old x.id) tt

      t : FreshTable
      t = fresh_of_old own x

      one : map (fresh_job tables own kept) (job_if (needs_file own (kept (ref.Old x.id))) (ref.Old x.id) place)
          ≡ filter has_rows (if drops_table own (ref.Old x.id) then [] else t ∷ [])
      one = one_job tables own kept (ref.Old x.id) place x.columns (rows_for (ref.Old x.id) own) (drops_table own (ref.Old x.id))
          (ap (λ o. option_map_or (λ (y : NamedTable). y.columns) o []) (ap₂ (λ ts n. slice_get ts n) all is ∙ at_place before x rest))
          (ap (own_rows own) kept_is.inserts ∙ placed [] (ref.Old x.id) own 0 refl) kept_is.dropped

      more : List NamedTable
      more = filter (λ (y : NamedTable). not (drops_table own (ref.Old y.id))) rest

      join : (b : Bool) → drops_table own (ref.Old x.id) ≡ b → filter has_rows (if drops_table own (ref.Old x.id) then [] else t ∷ []) ++ filter has_rows (map (fresh_of_old own) more)
          ≡ filter has_rows (map (fresh_of_old own) (filter (λ (y : NamedTable). not (drops_table own (ref.Old y.id))) (x ∷ rest)))
      join true e = rw e refl
      join false e = rw e (sym (filter-append has_rows (t ∷ []) (map (fresh_of_old own) more)))

  -- ---- created tables

  made : (before rest : List Change) (place n : ℕ) → place ≡ length before → own ≡ before ++ rest → AllByRecursion IsGrowth rest → AllByRecursion HasFields rest → AreMade kept place n rest
      → map (fresh_job tables own kept) (made_jobs own kept place n rest) ≡ filter has_rows (map fresh_of (made_tables n rest))
  made before [] place n is all growth fields known = refl
  made before (change.CreateTable schema name columns ∷ rest) place n is all growth fields known =
      map-append (fresh_job tables own kept) (job_if (needs_file own (kept (ref.New n))) (ref.New n) place) (made_jobs own kept (place + 1) (n + 1) rest)
      ∙ ap₂ (λ xs ys. xs ++ ys) one
      (made (before ++ change.CreateTable schema name columns ∷ []) rest (place + 1) (n + 1) (ap (λ k. k + 1) is ∙ sym (one_more before (change.CreateTable schema name columns)))
      (all ∙ sym (append_assoc before (change.CreateTable schema name columns ∷ []) rest)) growth.1 fields.1 known.1)
      ∙ join (drops_table rest (ref.New n)) refl
    where
      kept_is : Continues (place + 1) (ref.New n) rest None (kept (ref.New n))
      kept_is = known.0 refl

      rows : List Cells
      rows = rows_for (ref.New n) rest

      d : Draft
      d = with_own_rows rest (created n schema name columns)

      t : FreshTable
      t = record { table = ref.New n; columns = columns; rows = map (laid_cells columns) rows }

      same : fresh_of d ≡ t
      same = ap (λ rs. record { table = ref.New n; columns = fields_from 1 columns; rows = rs }) (left_laid (fields_from 1 columns) rows)
          ∙ ap (λ cs. record { table = ref.New n; columns = cs; rows = map (laid_cells cs) rows }) fields.0

      shift : own ≡ (before ++ change.CreateTable schema name columns ∷ []) ++ rest
      shift = all ∙ sym (append_assoc before (change.CreateTable schema name columns ∷ []) rest)

      one : map (fresh_job tables own kept) (job_if (needs_file own (kept (ref.New n))) (ref.New n) place) ≡ filter has_rows (if drops_table rest (ref.New n) then [] else t ∷ [])
      one = one_job tables own kept (ref.New n) place columns rows (drops_table rest (ref.New n))
          (ap (λ o. option_map_or created_columns o []) (ap₂ (λ cs k. slice_get cs k) all is ∙ at_place before (change.CreateTable schema name columns) rest))
          (ap₂ own_rows shift kept_is.inserts ∙ placed (before ++ change.CreateTable schema name columns ∷ []) (ref.New n) rest (place + 1) (ap (λ k. k + 1) is ∙ sym (one_more before (change.CreateTable schema name columns))))
          kept_is.dropped

      join : (b : Bool) → drops_table rest (ref.New n) ≡ b → filter has_rows (if drops_table rest (ref.New n) then [] else t ∷ []) ++ filter has_rows (map fresh_of (made_tables (n + 1) rest))
          ≡ filter has_rows (map fresh_of (made_tables n (change.CreateTable schema name columns ∷ rest)))
      join true e = rw e refl
      join false e = rw e (sym (filter-append has_rows (t ∷ []) (map fresh_of (made_tables (n + 1) rest))) ∙ ap (λ x. filter has_rows (x ∷ map fresh_of (made_tables (n + 1) rest))) (sym same))
  made before (change.CreateSchema name ∷ rest) place n is all growth fields known =
      made (before ++ change.CreateSchema name ∷ []) rest (place + 1) n (ap (λ k. k + 1) is ∙ sym (one_more before (change.CreateSchema name)))
      (all ∙ sym (append_assoc before (change.CreateSchema name ∷ []) rest)) growth.1 fields.1 known.1
  made before (change.DropSchema schema ∷ rest) place n is all growth fields known =
      made (before ++ change.DropSchema schema ∷ []) rest (place + 1) n (ap (λ k. k + 1) is ∙ sym (one_more before (change.DropSchema schema)))
      (all ∙ sym (append_assoc before (change.DropSchema schema ∷ []) rest)) growth.1 fields.1 known.1
  made before (change.DropTable table ∷ rest) place n is all growth fields known =
      made (before ++ change.DropTable table ∷ []) rest (place + 1) n (ap (λ k. k + 1) is ∙ sym (one_more before (change.DropTable table)))
      (all ∙ sym (append_assoc before (change.DropTable table ∷ []) rest)) growth.1 fields.1 known.1
  made before (change.Insert table rows ∷ rest) place n is all growth fields known =
      made (before ++ change.Insert table rows ∷ []) rest (place + 1) n (ap (λ k. k + 1) is ∙ sym (one_more before (change.Insert table rows)))
      (all ∙ sym (append_assoc before (change.Insert table rows ∷ []) rest)) growth.1 fields.1 known.1
  made before (change.AddColumn table column ∷ rest) place n is all growth fields known = absurd growth.0
  made before (change.DropColumn table field ∷ rest) place n is all growth fields known = absurd growth.0
  made before (change.RenameColumn table field name ∷ rest) place n is all growth fields known = absurd growth.0
  made before (change.PromoteColumn table field ty ∷ rest) place n is all growth fields known = absurd growth.0
  made before (change.SetDefault table field v ∷ rest) place n is all growth fields known = absurd growth.0
  made before (change.Delete table rows ∷ rest) place n is all growth fields known = absurd growth.0
  made before (change.Update table rows set ∷ rest) place n is all growth fields known = absurd growth.0
  made before (change.Compact table ∷ rest) place n is all growth fields known = absurd growth.0
  made before (change.Flush table ∷ rest) place n is all growth fields known = absurd growth.0

  pub jobs_are : AllByRecursion IsGrowth own → AllByRecursion HasFields own
      → map (fresh_job tables own kept) (old_jobs own kept 0 tables ++ made_jobs own kept 0 0 own)
      ≡ filter has_rows (map (fresh_of_old own) (filter (λ (x : NamedTable). not (drops_table own (ref.Old x.id))) tables) ++ map fresh_of (made_tables 0 own))
  jobs_are growth fields =
      map-append (fresh_job tables own kept) (old_jobs own kept 0 tables) (made_jobs own kept 0 0 own)
      ∙ ap₂ (λ xs ys. xs ++ ys) (old_tables [] tables 0 refl refl) (made [] own 0 0 refl refl growth fields comes.made)
      ∙ sym (filter-append has_rows (map (fresh_of_old own) (filter (λ (x : NamedTable). not (drops_table own (ref.Old x.id))) tables)) (map fresh_of (made_tables 0 own)))

pub jobs_of_view : (v : NamedVersion) (tables : List NamedTable) (own mine : List Change) (kept : Ref → Option OwnTable) (jobs : List Job) → tables ≡ v.tables → mine ≡ own
    → jobs ≡ old_jobs mine kept 0 tables ++ made_jobs mine kept 0 0 mine → ComesTo 0 0 mine (λ r. None) kept → AllByRecursion IsGrowth own → AllByRecursion HasFields own
    → map (fresh_job tables mine kept) jobs ≡ fresh_tables v own
jobs_of_view v tables own mine kept jobs is same are comes growth fields =
    ap (map (fresh_job tables mine kept)) are
    ∙ jobs_are tables mine kept comes (subst (AllByRecursion IsGrowth) (sym same) growth) (subst (AllByRecursion HasFields) (sym same) fields)
    ∙ ap₂ (λ ts cs. fresh_tables (record v { tables = ts }) cs) is same
