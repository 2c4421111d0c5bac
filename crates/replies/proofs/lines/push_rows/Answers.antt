use Rattle.std.proofs.Common.{rules}
use Rattle.replies.specs.Texts.{BeginsWith}
use Rattle.replies.proofs.FrontLemmas.{front_of_front}
use Rattle.replies.proofs.lines.push_rows.Goals as goal

pub returns-in_err-push_row-clause-err : goal.returns-in_err-push_row-clause-err
returns-in_err-push_row-clause-err c =
    let front : BeginsWith c.push_row.new.out.items c.args.out.now.items = front_of_front c.args.out.now.items _ c.loop-row.out.items _ c.loop-row.invariant c.in_err-push_row.ensures.err in
    search rules
