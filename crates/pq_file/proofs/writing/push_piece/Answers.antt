use Rattle.std.proofs.Common.{◌≡◌, map, rules}
use Rattle.lake_types.specs.declared.sheet.SheetColumn.{SheetColumn}
use Rattle.pq_encodings.specs.Values.{value_bytes}
use Rattle.pq_file.specs.Canonical.{piece_of}
use Rattle.pq_file.specs.Raw.{is_value, values_in}
use Rattle.pq_file.proofs.PieceLemmas.{piece_small}
use Rattle.pq_file.proofs.writing.push_piece.Goals as goal

pub push_chunk-requires-clause-small : goal.push_chunk-requires-clause-small
push_chunk-requires-clause-small c =
    let column : SheetColumn = c.args.column.now in
    let flags : c.as_slice-2.result.now ≡ map is_value (piece_of c.args.row c.args.rows column) = search rules in
    let values : c.as_slice-3.result.now ≡ value_bytes (values_in column.ty (piece_of c.args.row c.args.rows column)) = search rules in
    rw (flags, values) (piece_small c.body_size.ensures column.optional column.ty column.cells c.args.row c.args.rows c.requires.few c.requires.light)
