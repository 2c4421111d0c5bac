use Rattle.std.proofs.Common.{arith}
use Rattle.std.proofs.lemmas.Grind.{common_steps}
use Rattle.thrift_compact.proofs.WriterLemmas.{appends_binary}
use Rattle.thrift_compact.proofs.writer.Writer.put_binary.Goals as goal

pub returns-clause-shortest : goal.returns-clause-shortest
returns-clause-shortest c = appends_binary _ _ _ (grind (arith, common_steps)) c.requires
