use Rattle.stmt_text.proofs.DraftLemmas.{kept}
use Rattle.stmt_text.proofs.draft.Draft.push.Goals as goal

pub invariant_of-self : goal.invariant_of-self
invariant_of-self c = record {
  typed = kept c.push.result c.args.self.now.tokens c.push.new.self c.args.kind c.in_ok-text.text c.args.text.now c.push.ensures.ok c.push.ensures.err
      c.in_ok-text.ensures c.args.self.now.typed c.utf8.text c.requires;
}
