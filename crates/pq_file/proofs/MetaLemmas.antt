-- The footer of a canonical file can be written.
use Rattle.std.proofs.Common.{◌≡◌, ◌≢◌, ℕ, ◌+◌, ◌≤◌, ◌<◌, ◌^◌, List, [], ◌∷◌, ◌++◌, length, map, Bool, true, false, None, nat_eq, refl, ◌∙◌, arith}
use Rattle.std.specs.Prelude.{All, AllPairs, if◌then◌else◌}
use Rattle.std.specs.List.{sum_by}
use Rattle.std.proofs.lemmas.Bool.{eqb-true}
use Rattle.std.proofs.lemmas.List.{get_or-map, length-append, length-map}
use Rattle.std.proofs.lemmas.List.Elements.{All-cons, All-map, All-nil, All-weaker}
use Rattle.std.proofs.lemmas.List.FromFn.{length-map-range_with_len}
use Rattle.std.proofs.lemmas.List.Sums.{sum_by-cons}
use Rattle.lake_types.specs.declared.sheet.Sheet.{Sheet}
use Rattle.lake_types.specs.declared.sheet.SheetColumn.{SheetColumn}
use Rattle.lake_types.specs.declared.value.ColType.TheVariants as ty
use Rattle.pq_meta.specs.declared.meta.FileMeta.{FileMeta}
use Rattle.pq_meta.specs.declared.meta.MetaChunk.{MetaChunk}
use Rattle.pq_meta.specs.declared.meta.MetaGroup.{MetaGroup}
use Rattle.pq_meta.specs.Consistency as meta
use Rattle.pq_meta.specs.Spelling as meta_spec
use Rattle.pq_meta.specs.Spelling.{IsExtent, IsGroup, IsPlainChunk, total_of}
use Rattle.pq_file.specs.Canonical.{canonical, chunk_at, chunks_at, cuts_of, footer_part, group_at, group_bytes, groups_at, groups_bytes, meta_column, meta_of, piece_bytes}
use Rattle.pq_file.specs.Cuts.{cuts_behind, is_full, row_weight, row_weights}
use Rattle.pq_file.specs.Frame.{mark}
use Rattle.pq_file.specs.Writable.{IsColumn, IsWritable, OtherField}

-- ---- cuts: as many rows as there are, and no more groups than rows

abbrev pub rows_of : List ℕ → ℕ
rows_of sizes = sum_by (λ (n : ℕ). n) sizes

record Counted (sizes : List ℕ) (rows : ℕ) : Type 0 where
  all : rows_of sizes ≡ rows
  few : length sizes ≤ rows

last_counted : (b : Bool) (n : ℕ) → nat_eq n 0 ≡ b → Counted (if b then [] else n ∷ []) (n + 0)
last_counted true n h = let none : n ≡ 0 = eqb-true n 0 h in record { all = omega arith; few = omega arith }
last_counted false n h =
    let some : n ≢ 0 = λ e. (let no : nat_eq n 0 ≡ true = rw e refl in cc) in
    record { all = omega (arith, sum_by-cons (λ (m : ℕ). m) n []); few = omega arith }

next_counted : (b : Bool) (n w x : ℕ) (ws : List ℕ) → Counted (cuts_behind 0 0 ws) (0 + length ws) → Counted (cuts_behind (n + 1) (w + x) ws) (n + 1 + length ws)
    → Counted (if b then (n + 1) ∷ cuts_behind 0 0 ws else cuts_behind (n + 1) (w + x) ws) (n + length (x ∷ ws))
next_counted true n w x ws ends goes = record { all = omega (arith, ends.all, sum_by-cons (λ (m : ℕ). m) (n + 1) (cuts_behind 0 0 ws)); few = omega (arith, ends.few) }
next_counted false n w x ws ends goes = record { all = omega (arith, goes.all); few = omega (arith, goes.few) }

counted_behind : (ws : List ℕ) (n w : ℕ) → Counted (cuts_behind n w ws) (n + length ws)
counted_behind [] n w = last_counted (nat_eq n 0) n refl
counted_behind (x ∷ ws) n w = next_counted (is_full (n + 1) (w + x)) n w x ws (counted_behind ws 0 0) (counted_behind ws (n + 1) (w + x))

pub cuts_all : (sheet : Sheet) → rows_of (cuts_of sheet) ≡ sheet.rows
cuts_all sheet =
    let c = counted_behind (row_weights sheet.columns sheet.rows) 0 0 in
    omega (arith, c.all, length-map-range_with_len (row_weight sheet.columns) 0 sheet.rows)

cuts_few : (sheet : Sheet) → length (cuts_of sheet) ≤ sheet.rows
cuts_few sheet =
    let c = counted_behind (row_weights sheet.columns sheet.rows) 0 0 in
    omega (arith, c.few, length-map-range_with_len (row_weight sheet.columns) 0 sheet.rows)

-- ---- columns

column_fine : (column : SheetColumn) → IsColumn column → meta_spec.IsColumn (meta_column column)
column_fine column is = record { name = is.name; field = is.field }

some_column : SheetColumn
some_column = record { field = None; name = []; ty = ty.Bool; optional = false; cells = [] }

fields_differ : (columns : List SheetColumn) → AllPairs OtherField columns → AllPairs meta.OtherField (map meta_column columns)
fields_differ columns h i j d lt within =
    let long : length (map meta_column columns) ≡ length columns = length-map columns meta_column in
    let before : i < length columns = omega arith in
    let behind : j < length columns = omega arith in
    rw (get_or-map meta_column columns i some_column d before, get_or-map meta_column columns j some_column d behind) (h i j some_column lt behind)

-- ---- groups, which lie below an end

record Fine (rows columns total : ℕ) (chunks : List MetaChunk) : Type 0 where
  count : length chunks ≡ columns
  plain : All (IsPlainChunk rows) chunks
  extents : All IsExtent chunks
  bytes : total_of chunks ≡ total

piece_size : (row rows : ℕ) (column : SheetColumn) (columns : List SheetColumn)
    → length (group_bytes (column ∷ columns) row rows) ≡ length (piece_bytes row rows column) + length (group_bytes columns row rows)
piece_size row rows column columns = length-append (piece_bytes row rows column) (group_bytes columns row rows)

chunks_fine : (row rows at : ℕ) (columns : List SheetColumn) → rows < 2 ^ 63 → at + length (group_bytes columns row rows) < 2 ^ 63
    → Fine rows (length columns) (length (group_bytes columns row rows)) (chunks_at row rows at columns)
chunks_fine row rows at [] few small = record { count = refl; plain = All-nil (IsPlainChunk rows); extents = All-nil IsExtent; bytes = refl }
chunks_fine row rows at (column ∷ columns) few small =
    let size : ℕ = length (piece_bytes row rows column) in
    let both = piece_size row rows column columns in
    let more = chunks_fine row rows (at + size) columns few (omega (arith, small, both)) in
    let extent : IsExtent (chunk_at row rows at column) = record { values = few; first = omega (arith, small, both); size = omega (arith, small, both) } in
    record {
      count = omega (arith, more.count);
      plain = All-cons (IsPlainChunk rows) (chunk_at row rows at column) (chunks_at row rows (at + size) columns) (refl, refl) more.plain;
      extents = All-cons IsExtent (chunk_at row rows at column) (chunks_at row rows (at + size) columns) extent more.extents;
      bytes = omega (arith, more.bytes, both, sum_by-cons (λ (chunk : MetaChunk). chunk.length) (chunk_at row rows at column) (chunks_at row rows (at + size) columns));
    }

group_fine : (row rows at : ℕ) (columns : List SheetColumn) → rows < 2 ^ 63 → at + length (group_bytes columns row rows) < 2 ^ 63 → IsGroup (length columns) (group_at row rows at columns)
group_fine row rows at columns few small =
    let fine = chunks_fine row rows at columns few small in
    record { count = fine.count; plain = fine.plain; extents = fine.extents; rows = few; total = omega (arith, fine.bytes, small) }

groups_fine : (columns : List SheetColumn) (row at : ℕ) (sizes : List ℕ) → rows_of sizes < 2 ^ 63 → at + length (groups_bytes columns row sizes) < 2 ^ 63
    → All (IsGroup (length columns)) (groups_at columns row at sizes)
groups_fine columns row at [] few small = All-nil (IsGroup (length columns))
groups_fine columns row at (rows ∷ more) few small =
    let both = length-append (group_bytes columns row rows) (groups_bytes columns (row + rows) more) in
    let sum = sum_by-cons (λ (m : ℕ). m) rows more in
    All-cons (IsGroup (length columns)) (group_at row rows at columns) (groups_at columns (row + rows) (at + length (group_bytes columns row rows)) more)
    (group_fine row rows at columns (omega (arith, few, sum)) (omega (arith, small, both)))
    (groups_fine columns (row + rows) (at + length (group_bytes columns row rows)) more (omega (arith, few, sum)) (omega (arith, small, both)))

groups_count : (columns : List SheetColumn) (row at : ℕ) (sizes : List ℕ) → length (groups_at columns row at sizes) ≡ length sizes
groups_count columns row at [] = refl
groups_count columns row at (rows ∷ more) = omega (arith, groups_count columns (row + rows) (at + length (group_bytes columns row rows)) more)

groups_rows : (columns : List SheetColumn) (row at : ℕ) (sizes : List ℕ) → sum_by (λ (g : MetaGroup). g.rows) (groups_at columns row at sizes) ≡ rows_of sizes
groups_rows columns row at [] = refl
groups_rows columns row at (rows ∷ more) =
    let next : ℕ = at + length (group_bytes columns row rows) in
    omega (
      arith,
      groups_rows columns (row + rows) next more,
      sum_by-cons (λ (m : ℕ). m) rows more,
      sum_by-cons (λ (g : MetaGroup). g.rows) (group_at row rows at columns) (groups_at columns (row + rows) next more),
    )

pub meta_writable : (sheet : Sheet) → IsWritable sheet → length mark + length (groups_bytes sheet.columns 0 (cuts_of sheet)) < 2 ^ 63 → meta_spec.IsWritable (meta_of sheet)
meta_writable sheet can small =
    let columns : List SheetColumn = sheet.columns in
    let sizes : List ℕ = cuts_of sheet in
    let long : length (map meta_column columns) ≡ length columns = length-map columns meta_column in
    record {
      few_columns = omega (arith, long, can.few_columns);
      columns = All-map meta_spec.IsColumn meta_column columns (All-weaker IsColumn (λ (c : SheetColumn). meta_spec.IsColumn (meta_column c)) column_fine columns can.columns);
      fields = fields_differ columns can.fields;
      few_groups = omega (arith, groups_count columns 0 (length mark) sizes, cuts_few sheet, can.few_rows);
      groups = rw long (groups_fine columns 0 (length mark) sizes (omega (arith, cuts_all sheet, can.few_rows)) small);
      rows = groups_rows columns 0 (length mark) sizes ∙ cuts_all sheet;
      most_rows = omega (arith, can.few_rows);
    }

-- ---- the file

pub canonical_is : (sheet : Sheet) (meta : FileMeta) (chunks file footer : List ℕ) → chunks ≡ mark ++ groups_bytes sheet.columns 0 (cuts_of sheet) → meta ≡ meta_of sheet
    → footer ≡ meta_spec.footer_bytes meta → file ≡ chunks ++ footer_part footer → file ≡ canonical sheet
unfolding canonical
canonical_is sheet meta chunks file footer before says spelled is = rw (is, before, spelled, says) refl
