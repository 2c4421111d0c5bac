use Rattle.std.proofs.Common.{◌∙◌, sym}
use Rattle.cat_rows.proofs.RiseLemmas.{differ_rises}
use Rattle.cat_rows.proofs.fitting.all_differ.Goals as goal

pub returns-then-rises : goal.returns-then-rises
returns-then-rises g c = c.if-rises.true ∙ sym (differ_rises g.T.HasKey.key c.args.items.now (sym c.rises.ensures ∙ c.if-rises.true))
