use Rattle.std.proofs.Common.{rules, ◌≡◌, ◌++◌, sym, subst}
use Rattle.lake_model.proofs.LineLemmas.{NoFeed-append}
use Rattle.lake_model.specs.Replay.{NoFeed}
use Rattle.lake_top.proofs.desk.Desk.hold.Goals as goal

pub returns-in-Ok-clause-begun : goal.returns-in-Ok-clause-begun
returns-in-Ok-clause-begun g c =
    let held : c.extend_from_slice.new.self.items ≡ c.args.self.now.pending.items ++ c.args.part.now = search rules in
    subst NoFeed (sym held) (NoFeed-append c.args.self.now.pending.items c.args.part.now c.requires.begun c.requires.feed)
