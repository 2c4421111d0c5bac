use Rattle.std.proofs.Common.{rules, sym, ◌∙◌}
use Rattle.lake_top.proofs.LineLemmas.{tells_skipped}
use Rattle.lake_top.proofs.RunningLemmas.{goes_none}
use Rattle.lake_top.proofs.desk.Desk.line_text.Goals as goal

pub returns-then-is_skipped-clause-text : goal.returns-then-is_skipped-clause-text
returns-then-is_skipped-clause-text g c =
    tells_skipped c.args.self.now.counts.items c.args.line.now c.shorn-line.result.now c.new.result.items _ (goes_none _) c.shorn-line.ensures (sym c.is_skipped.ensures ∙ c.if-is_skipped.true) (search rules)
