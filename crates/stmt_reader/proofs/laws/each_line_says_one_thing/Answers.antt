use Rattle.stmt_reader.proofs.AnswerLemmas.{says_its_session}
use Rattle.stmt_reader.proofs.PlaceLemmas.{one_thing}
use Rattle.stmt_reader.proofs.laws.each_line_says_one_thing.Goals as goal

pub returns : goal.returns
returns c = record { thing = one_thing; session = says_its_session }
