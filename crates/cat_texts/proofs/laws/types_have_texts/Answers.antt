use Rattle.cat_texts.proofs.TypeLemmas.{has_type_text, own_texts, reads_type}
use Rattle.cat_texts.proofs.laws.types_have_texts.Goals as goal

pub returns : goal.returns
returns c = record { reads = reads_type; is = has_type_text; own = own_texts }
