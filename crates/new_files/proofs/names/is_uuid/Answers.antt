use Rattle.std.proofs.Common.{◌∙◌, ap, sym, true≢false}
use Rattle.std.specs.Int.{to_be_bytes, w128}
use Rattle.new_files.specs.Names.{uuid_of}
use Rattle.new_files.proofs.NameLemmas.{parses, again}
use Rattle.new_files.proofs.names.is_uuid.Goals as goal

pub returns-in_default : goal.returns-in_default
returns-in_default c = (λ t. absurd (true≢false (sym t)), λ own. absurd (true≢false (sym (c.in_default.ensures.ok.1 (to_be_bytes w128 own.number, sym (parses c.args.text.now own))))))

pub returns : goal.returns
returns c = (
  λ t. record {
    number = c.as_u128.result;
    small = c.encoded-again.ensures.small;
    spells = sym (c.same.ensures.0 t) ∙ c.as_bytes.ensures.value ∙ c.encoded-again.ensures.text;
  },
  λ own. c.same.ensures.1 (c.as_bytes.ensures.value ∙ c.encoded-again.ensures.text ∙ ap uuid_of c.as_u128.ensures ∙ again c.args.text.now c.in-Ok.id own c.in-Ok.ensures.bytes),
)
