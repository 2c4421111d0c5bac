use Rattle.stmt_reader.proofs.AnswerLemmas.{has_an_answer, has_one_answer}
use Rattle.stmt_reader.proofs.PlaceLemmas.{has_one_place, says_or_fails}
use Rattle.stmt_reader.proofs.laws.each_line_has_one_answer.Goals as goal

pub returns : goal.returns
returns c = record {
  answer = has_an_answer;
  only = has_one_answer;
  fault = says_or_fails;
  place = has_one_place;
}
