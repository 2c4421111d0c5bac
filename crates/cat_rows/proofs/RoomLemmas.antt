-- Room for a batch's additions.
use Rattle.std.proofs.Common.{◌≡◌, ◌+◌, ◌<◌, ◌≤◌, List, ◌∷◌, arith, subst, sym}
use Rattle.cat_rows.specs.Batches.{Covers, KeepsRoom}
use Rattle.cat_rows.specs.Steps.{with_row, room_for, CoversHistory, CoversSchemas, CoversFiles}
use Rattle.cat_rows.specs.declared.content.CatRows.{CatRows}
use Rattle.cat_rows.specs.declared.batch.CatRow.{CatRow}
use Rattle.cat_rows.specs.declared.batch.CatRow.TheVariants as row

pub covers_room : (c : CatRows) (r : CatRow) (rs : List CatRow) → Covers c (r ∷ rs) → 0 < room_for c r
covers_room c (row.Metadata x) rs h = let room = h.metadata in omega arith
covers_room c (row.Snapshot x) rs h = let room = h.snapshot in omega arith
covers_room c (row.SnapshotChanges x) rs h = let room = h.snapshot_changes in omega arith
covers_room c (row.Schema x) rs h = let room = h.schema in omega arith
covers_room c (row.Table x) rs h = let room = h.table in omega arith
covers_room c (row.Column x) rs h = let room = h.column in omega arith
covers_room c (row.DataFile x) rs h = let room = h.data_file in omega arith
covers_room c (row.DeleteFile x) rs h = let room = h.delete_file in omega arith
covers_room c (row.FileColumnStats x) rs h = let room = h.file_column_stats in omega arith
covers_room c (row.TableStats x) rs h = let room = h.table_stats in omega arith
covers_room c (row.Inlined x) rs h = let room = h.inlined_row in omega arith
covers_room c (row.ScheduledFile x) rs h = let room = h.scheduled_file in omega arith

covers_with : (old new : CatRows) (r : CatRow) (rs : List CatRow) → Covers old (r ∷ rs) → room_for old r ≤ room_for new r + 1 → Covers (with_row old new r) rs
covers_with old new (row.Metadata x) rs h k = record { metadata = let room = h.metadata in omega arith; snapshot = h.snapshot; snapshot_changes = h.snapshot_changes; schema = h.schema; table = h.table; column = h.column; data_file = h.data_file; delete_file = h.delete_file; file_column_stats = h.file_column_stats; table_stats = h.table_stats; inlined_row = h.inlined_row; scheduled_file = h.scheduled_file }
covers_with old new (row.Snapshot x) rs h k = record { metadata = h.metadata; snapshot = let room = h.snapshot in omega arith; snapshot_changes = h.snapshot_changes; schema = h.schema; table = h.table; column = h.column; data_file = h.data_file; delete_file = h.delete_file; file_column_stats = h.file_column_stats; table_stats = h.table_stats; inlined_row = h.inlined_row; scheduled_file = h.scheduled_file }
covers_with old new (row.SnapshotChanges x) rs h k = record { metadata = h.metadata; snapshot = h.snapshot; snapshot_changes = let room = h.snapshot_changes in omega arith; schema = h.schema; table = h.table; column = h.column; data_file = h.data_file; delete_file = h.delete_file; file_column_stats = h.file_column_stats; table_stats = h.table_stats; inlined_row = h.inlined_row; scheduled_file = h.scheduled_file }
covers_with old new (row.Schema x) rs h k = record { metadata = h.metadata; snapshot = h.snapshot; snapshot_changes = h.snapshot_changes; schema = let room = h.schema in omega arith; table = h.table; column = h.column; data_file = h.data_file; delete_file = h.delete_file; file_column_stats = h.file_column_stats; table_stats = h.table_stats; inlined_row = h.inlined_row; scheduled_file = h.scheduled_file }
covers_with old new (row.Table x) rs h k = record { metadata = h.metadata; snapshot = h.snapshot; snapshot_changes = h.snapshot_changes; schema = h.schema; table = let room = h.table in omega arith; column = h.column; data_file = h.data_file; delete_file = h.delete_file; file_column_stats = h.file_column_stats; table_stats = h.table_stats; inlined_row = h.inlined_row; scheduled_file = h.scheduled_file }
covers_with old new (row.Column x) rs h k = record { metadata = h.metadata; snapshot = h.snapshot; snapshot_changes = h.snapshot_changes; schema = h.schema; table = h.table; column = let room = h.column in omega arith; data_file = h.data_file; delete_file = h.delete_file; file_column_stats = h.file_column_stats; table_stats = h.table_stats; inlined_row = h.inlined_row; scheduled_file = h.scheduled_file }
covers_with old new (row.DataFile x) rs h k = record { metadata = h.metadata; snapshot = h.snapshot; snapshot_changes = h.snapshot_changes; schema = h.schema; table = h.table; column = h.column; data_file = let room = h.data_file in omega arith; delete_file = h.delete_file; file_column_stats = h.file_column_stats; table_stats = h.table_stats; inlined_row = h.inlined_row; scheduled_file = h.scheduled_file }
covers_with old new (row.DeleteFile x) rs h k = record { metadata = h.metadata; snapshot = h.snapshot; snapshot_changes = h.snapshot_changes; schema = h.schema; table = h.table; column = h.column; data_file = h.data_file; delete_file = let room = h.delete_file in omega arith; file_column_stats = h.file_column_stats; table_stats = h.table_stats; inlined_row = h.inlined_row; scheduled_file = h.scheduled_file }
covers_with old new (row.FileColumnStats x) rs h k = record { metadata = h.metadata; snapshot = h.snapshot; snapshot_changes = h.snapshot_changes; schema = h.schema; table = h.table; column = h.column; data_file = h.data_file; delete_file = h.delete_file; file_column_stats = let room = h.file_column_stats in omega arith; table_stats = h.table_stats; inlined_row = h.inlined_row; scheduled_file = h.scheduled_file }
covers_with old new (row.TableStats x) rs h k = record { metadata = h.metadata; snapshot = h.snapshot; snapshot_changes = h.snapshot_changes; schema = h.schema; table = h.table; column = h.column; data_file = h.data_file; delete_file = h.delete_file; file_column_stats = h.file_column_stats; table_stats = let room = h.table_stats in omega arith; inlined_row = h.inlined_row; scheduled_file = h.scheduled_file }
covers_with old new (row.Inlined x) rs h k = record { metadata = h.metadata; snapshot = h.snapshot; snapshot_changes = h.snapshot_changes; schema = h.schema; table = h.table; column = h.column; data_file = h.data_file; delete_file = h.delete_file; file_column_stats = h.file_column_stats; table_stats = h.table_stats; inlined_row = let room = h.inlined_row in omega arith; scheduled_file = h.scheduled_file }
covers_with old new (row.ScheduledFile x) rs h k = record { metadata = h.metadata; snapshot = h.snapshot; snapshot_changes = h.snapshot_changes; schema = h.schema; table = h.table; column = h.column; data_file = h.data_file; delete_file = h.delete_file; file_column_stats = h.file_column_stats; table_stats = h.table_stats; inlined_row = h.inlined_row; scheduled_file = let room = h.scheduled_file in omega arith }

pub covers_rest : (old new : CatRows) (r : CatRow) (rs : List CatRow) → Covers old (r ∷ rs) → new ≡ with_row old new r → room_for old r ≤ room_for new r + 1 → Covers new rs
covers_rest old new r rs h e k = subst (λ c. Covers c rs) (sym e) (covers_with old new r rs h k)

pub KeepsRoom-then : (a b c : CatRows) → KeepsRoom a b → KeepsRoom b c → KeepsRoom a c
KeepsRoom-then a b c x y = record { metadata = omega (arith, x.metadata, y.metadata); snapshot = omega (arith, x.snapshot, y.snapshot); snapshot_changes = omega (arith, x.snapshot_changes, y.snapshot_changes); schema = omega (arith, x.schema, y.schema); table = omega (arith, x.table, y.table); column = omega (arith, x.column, y.column); data_file = omega (arith, x.data_file, y.data_file); delete_file = omega (arith, x.delete_file, y.delete_file); file_column_stats = omega (arith, x.file_column_stats, y.file_column_stats); table_stats = omega (arith, x.table_stats, y.table_stats); inlined_row = omega (arith, x.inlined_row, y.inlined_row); scheduled_file = omega (arith, x.scheduled_file, y.scheduled_file) }

pub Covers-kept : (a b : CatRows) (rs : List CatRow) → KeepsRoom a b → Covers a rs → Covers b rs
Covers-kept a b rs k h = record { metadata = omega (arith, k.metadata, h.metadata); snapshot = omega (arith, k.snapshot, h.snapshot); snapshot_changes = omega (arith, k.snapshot_changes, h.snapshot_changes); schema = omega (arith, k.schema, h.schema); table = omega (arith, k.table, h.table); column = omega (arith, k.column, h.column); data_file = omega (arith, k.data_file, h.data_file); delete_file = omega (arith, k.delete_file, h.delete_file); file_column_stats = omega (arith, k.file_column_stats, h.file_column_stats); table_stats = omega (arith, k.table_stats, h.table_stats); inlined_row = omega (arith, k.inlined_row, h.inlined_row); scheduled_file = omega (arith, k.scheduled_file, h.scheduled_file) }

-- room that was made for some tables after the others
pub Covers-parts : (a b c : CatRows) (adds : List CatRow) → CoversHistory a adds → KeepsRoom a b → CoversSchemas b adds → KeepsRoom b c → CoversFiles c adds → Covers c adds
Covers-parts a b c adds history ab schemas bc files = record { metadata = omega (arith, history.metadata, ab.metadata, bc.metadata); snapshot = omega (arith, history.snapshot, ab.snapshot, bc.snapshot); snapshot_changes = omega (arith, history.snapshot_changes, ab.snapshot_changes, bc.snapshot_changes); schema = omega (arith, schemas.schema, bc.schema); table = omega (arith, schemas.table, bc.table); column = omega (arith, schemas.column, bc.column); data_file = files.data_file; delete_file = files.delete_file; file_column_stats = files.file_column_stats; table_stats = files.table_stats; inlined_row = omega (arith, schemas.inlined_row, bc.inlined_row); scheduled_file = files.scheduled_file }

pub ruleset covering = (covers_room, covers_rest)

pub ruleset keeping = (Covers-kept)
