-- What is kept of a list of changes for each table: where the list inserts rows into it, and whether it drops it.
use Rattle.std.specs.Prelude.{◌≡◌, ◌<◌, ◌+◌, ◌&&◌, ◌||◌, not, ℕ, Bool, true, false, List, [], ◌∷◌, ◌++◌, map, Option, Some, None, if◌then◌else◌}
use Rattle.std.specs.List.{flat_map, list_any, slice_get}
use Rattle.std.specs.Option.{option_map_or}
use Rattle.lake_types.specs.Cells.{laid_cells}
use Rattle.lake_types.specs.declared.value.Column.{Column}
use Rattle.lake_model.specs.Apply.{Cells, is_ref}
use Rattle.lake_model.specs.Kinds.{drops_table}
use Rattle.lake_model.specs.declared.change.Change.{Change}
use Rattle.lake_model.specs.declared.change.Change.TheVariants as change
use Rattle.lake_model.specs.declared.change.Ref.{Ref}
use Rattle.lake_model.specs.declared.change.Ref.TheVariants as ref
use Rattle.cat_view.specs.Named.{NamedTable}
use Rattle.row_files.specs.Growing.{is_some_row}
use Rattle.row_files.specs.Stages.{FreshTable}
use Rattle.row_files.specs.declared.own.OwnTable.{OwnTable}
use Rattle.row_files.specs.declared.jobs.Job.{Job}

-- ---- changes

abbrev pub inserts_into : Ref → Change → Bool
inserts_into at (change.Insert table rows) = is_ref at table
inserts_into at c = false

abbrev pub inserted_rows : Change → List Cells
inserted_rows (change.Insert table rows) = rows
inserted_rows c = []

abbrev pub creates_table : Change → Bool
creates_table (change.CreateTable schema name columns) = true
creates_table c = false

abbrev pub created_columns : Change → List Column
created_columns (change.CreateTable schema name columns) = columns
created_columns c = []

-- the places of the changes that insert into a table; the first change has this one
abbrev pub places_from : ℕ → Ref → List Change → List ℕ
places_from place at [] = []
places_from place at (c ∷ own) = if inserts_into at c then place ∷ places_from (place + 1) at own else places_from (place + 1) at own

-- the rows that changes at these places insert
abbrev pub rows_at : List Change → ℕ → List Cells
rows_at own place = option_map_or inserted_rows (slice_get own place) []

abbrev pub own_rows : List Change → List ℕ → List Cells
own_rows own places = flat_map (rows_at own) places

-- ---- what is kept of a table, if anything

abbrev pub inserts_of : Option OwnTable → List ℕ
inserts_of None = []
inserts_of (Some t) = t.inserts.items

abbrev pub is_dropped : Option OwnTable → Bool
is_dropped None = false
is_dropped (Some t) = t.is_dropped

-- what is kept in the end, where this is kept before the changes from a place on
pub record Continues (place : ℕ) (at : Ref) (own : List Change) (now last : Option OwnTable) : Type 0 where
  pub inserts : inserts_of last ≡ inserts_of now ++ places_from place at own
  pub dropped : is_dropped last ≡ (is_dropped now || drops_table own at)

-- a table of the base, or a created one with a lower place
abbrev pub IsEarlier : ℕ → Ref → Type 0
IsEarlier n (ref.Old id) = Unit {0}
IsEarlier n (ref.New place) = place < n

abbrev pub next_table : ℕ → Change → ℕ
next_table n c = if creates_table c then n + 1 else n

-- of each table that these changes create, what the changes behind its creation do with it
abbrev pub AreMade : (Ref → Option OwnTable) → ℕ → ℕ → List Change → Type 0
AreMade last place n [] = Unit {0}
AreMade last place n (c ∷ own) =
    (creates_table c ≡ true → Continues (place + 1) (ref.New n) own None (last (ref.New n)))
    × AreMade last (place + 1) (next_table n c) own

-- what is kept in the end of all tables; n were created before
pub record ComesTo (place n : ℕ) (own : List Change) (now last : Ref → Option OwnTable) : Type 0 where
  pub earlier : (at : Ref) → IsEarlier n at → Continues place at own (now at) (last at)
  pub made : AreMade last place n own

-- ---- the tables that need a file, in their order

abbrev pub any_row : List Change → List ℕ → Bool
any_row own places = list_any (λ place. is_some_row (rows_at own place)) places

abbrev pub needs_file : List Change → Option OwnTable → Bool
needs_file own t = not (is_dropped t) && any_row own (inserts_of t)

abbrev pub job_if : Bool → Ref → ℕ → List Job
job_if needed table place = if needed then record { table = table; place = place } ∷ [] else []

-- tables of the version, the first of which has this place
abbrev pub old_jobs : List Change → (Ref → Option OwnTable) → ℕ → List NamedTable → List Job
old_jobs own kept place [] = []
old_jobs own kept place (x ∷ tables) =
    job_if (needs_file own (kept (ref.Old x.id))) (ref.Old x.id) place ++ old_jobs own kept (place + 1) tables

-- created tables, by the places of their creations in the whole list; n were created before
abbrev pub made_jobs : List Change → (Ref → Option OwnTable) → ℕ → ℕ → List Change → List Job
made_jobs all kept place n [] = []
made_jobs all kept place n (c ∷ own) =
    (if creates_table c then job_if (needs_file all (kept (ref.New n))) (ref.New n) place else [])
    ++ made_jobs all kept (place + 1) (next_table n c) own

-- the columns of the table that a job is of
abbrev pub columns_at : List NamedTable → List Change → Ref → ℕ → List Column
columns_at tables own (ref.Old id) place = option_map_or (λ (x : NamedTable). x.columns) (slice_get tables place) []
columns_at tables own (ref.New n) place = option_map_or created_columns (slice_get own place) []

abbrev pub laid_rows : List Column → List Change → List ℕ → List Cells
laid_rows columns own places = map (laid_cells columns) (own_rows own places)

-- the fresh rows of a table
abbrev pub fresh_at : Ref → List Column → List Change → List ℕ → FreshTable
fresh_at table columns own places = record { table = table; columns = columns; rows = laid_rows columns own places }

abbrev pub fresh_job : List NamedTable → List Change → (Ref → Option OwnTable) → Job → FreshTable
fresh_job tables own kept job = fresh_at job.table (columns_at tables own job.table job.place) own (inserts_of (kept job.table))
