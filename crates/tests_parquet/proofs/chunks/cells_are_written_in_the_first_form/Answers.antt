use Rattle.tests_parquet.proofs.CellLemmas.{two_writable}
use Rattle.tests_parquet.proofs.chunks.cells_are_written_in_the_first_form.Goals as goal

pub write_chunk-requires : goal.write_chunk-requires
write_chunk-requires g c = two_writable _ c.in_ok-cells.ensures
