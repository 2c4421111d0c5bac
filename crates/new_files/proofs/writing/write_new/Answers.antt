use Rattle.std.proofs.Common.{refl}
use Rattle.new_files.proofs.DrawLemmas.{wrote_nothing}
use Rattle.new_files.proofs.writing.write_new.Goals as goal

pub returns-in_default-clause-wrote : goal.returns-in_default-clause-wrote
returns-in_default-clause-wrote g c = wrote_nothing c.args.deletes _ _ c.next-number.result _ _ _ c.file_name.ensures.small c.next-number.ensures refl
