use Rattle.new_files.proofs.NameLemmas.{is_own}
use Rattle.new_files.proofs.laws.names_of_numbers_are_own.Goals as goal

pub returns : goal.returns
returns c = is_own
