use Rattle.sheet_rows.proofs.IdLemmas.{reads_ids_back}
use Rattle.sheet_rows.proofs.SheetLemmas.{reads_back}
use Rattle.sheet_rows.proofs.laws.reads_back.Goals as goal

pub returns : goal.returns
returns c = record { cells = reads_back; ids = reads_ids_back }
