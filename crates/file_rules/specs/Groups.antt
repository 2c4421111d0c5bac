-- The groups in which delete files are counted.
use Rattle.std.specs.Prelude.{ℕ, List, [], ◌∷◌}
use Rattle.cat_rows.specs.declared.files.DeleteFileRow.{DeleteFileRow}

abbrev pub delete_file_group : DeleteFileRow → List ℕ
delete_file_group r = r.data_file_id ∷ 0 ∷ []
