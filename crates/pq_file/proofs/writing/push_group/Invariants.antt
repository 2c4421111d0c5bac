use Rattle.std.proofs.Common.{◌≡◌, ◌++◌, drop, length, take}
use Rattle.std.specs.Prelude.{All}
use Rattle.std.specs.List.{flat_map}
use Rattle.pq_file.specs.Canonical.{HasPieceTexts, chunks_at, group_bytes, piece_bytes}
use Rattle.pq_file.proofs.writing.push_group.Given as goal

abbrev pub invariant-loop-column : goal.invariant-loop-column
invariant-loop-column l =
    (l.out.items ++ flat_map (piece_bytes l.row l.rows) (drop l.column-index l.columns) ≡ l.fn.out.items ++ group_bytes l.columns l.row l.rows) ×
    (l.chunks ++ chunks_at l.row l.rows (length l.out.items) (drop l.column-index l.columns) ≡ chunks_at l.row l.rows (length l.fn.out.items) l.columns) ×
    All (HasPieceTexts l.row l.rows) (take l.column-index l.columns)
