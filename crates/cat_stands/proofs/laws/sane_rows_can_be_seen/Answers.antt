use Rattle.cat_rows.specs.Validities.{data_file_validity, delete_file_validity}
use Rattle.cat_rows.specs.declared.files.DataFileRow.{DataFileRow}
use Rattle.cat_rows.specs.declared.files.DeleteFileRow.{DeleteFileRow}
use Rattle.cat_view.specs.Held.{IsHeld}
use Rattle.cat_stands.proofs.FileLemmas.{all-seen}
use Rattle.cat_stands.proofs.SeeLemmas.{can_be_viewed}
use Rattle.cat_stands.proofs.laws.sane_rows_can_be_seen.Goals as goal

pub returns : goal.returns
returns g c t s held sane kept files deletes =
    let name = g.F.Held.name in
    record {
      tables = can_be_viewed t s kept sane.1.1.1.1.1.0 sane.1.1.1.1.1.1.1.1.1.0 sane.1.1.1.1.1.1.1.1.1.1.0;
      data_files = all-seen data_file_validity (λ (f : DataFileRow). IsHeld name held f.path) s t.data_file (λ f h. h) files;
      delete_files = all-seen delete_file_validity (λ (d : DeleteFileRow). IsHeld name held d.path) s t.delete_file (λ d h. h) deletes;
    }
