use Rattle.stmt_tokens.proofs.CutLemmas.{cut_bytes, cut_digits, cut_minus, cut_name, cut_text}
use Rattle.stmt_tokens.proofs.FixedLemmas.{cut_mark, cut_word}
use Rattle.stmt_tokens.proofs.laws.forms_are_cut.Goals as goal

pub returns : goal.returns
returns c = record {
  keywords = cut_word;
  signs = cut_mark;
  names = cut_name;
  texts = cut_text;
  bytes = cut_bytes;
  numbers = cut_digits;
  negatives = cut_minus;
}
