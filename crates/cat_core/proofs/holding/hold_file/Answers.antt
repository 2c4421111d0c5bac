use Rattle.cat_core.proofs.HoldLemmas.{one_more}
use Rattle.cat_core.proofs.holding.hold_file.Goals as goal

-- the file is put among those that are held
pub returns-clause-more : goal.returns-clause-more
returns-clause-more g c =
    one_more g.F.Held.name g.F.Held.size g.F.Held.bytes c.args.held.now c.add.new.self c.args.file c.requires.unheld c.add.ensures.files
