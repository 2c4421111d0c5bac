use Rattle.cat_stands.proofs.FileLemmas.{more_files-stand}
use Rattle.cat_stands.proofs.laws.more_files_stand.Goals as goal

pub returns : goal.returns
returns c = more_files-stand
