use Rattle.new_files.proofs.NameLemmas.{names_differ}
use Rattle.new_files.proofs.laws.names_differ.Goals as goal

pub returns : goal.returns
returns c = names_differ
