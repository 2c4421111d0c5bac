use Rattle.std.proofs.Common.{rules, ◌≡◌}
use Rattle.lake_top.proofs.LineLemmas.{leaves_one, tells_one}
use Rattle.lake_top.specs.Script.{numbered}
use Rattle.lake_top.specs.Sixteen.{reply_text}
use Rattle.lake_top.proofs.desk.Desk.answer_text.Goals as goal

pub returns-in-Ok-clause-text : goal.returns-in-Ok-clause-text
returns-in-Ok-clause-text g c =
    let printed : c.push_reply.new.out.items ≡ reply_text (numbered c.args.number c.args.line.now) c.answer-reply.result = search rules in
    tells_one _ _ (numbered c.args.number c.args.line.now) c.answer-reply.result c.push_reply.new.out.items (c.answer-reply.ensures.goes c.args.number) printed

pub returns-clause-left : goal.returns-clause-left
returns-clause-left g c = leaves_one _ _ (numbered c.args.number c.args.line.now) c.answer-reply.result (c.answer-reply.ensures.goes c.args.number)
