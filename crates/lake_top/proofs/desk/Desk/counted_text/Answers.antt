use Rattle.lake_top.proofs.LineLemmas.{leaves_none}
use Rattle.lake_top.proofs.RunningLemmas.{goes_none}
use Rattle.lake_top.specs.Script.{line_at}
use Rattle.lake_top.proofs.desk.Desk.counted_text.Goals as goal

pub returns-in_default-clause-left : goal.returns-in_default-clause-left
returns-in_default-clause-left g c = leaves_none _ (line_at c.args.self.now.counts.items c.args.line.now) (goes_none _)
