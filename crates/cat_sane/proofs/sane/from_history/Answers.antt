use Rattle.std.proofs.Common.{Option, inl, subst}
use Rattle.cat_rows.specs.Batches.{tables_of}
use Rattle.cat_rows.specs.declared.batch.Key.{Key}
use Rattle.cat_rules.specs.First.{FirstBad}
use Rattle.cat_rules.specs.Sane.{FromIntervals}
use Rattle.cat_rules.specs.HistoryRule.{IsHistoryBad}
use Rattle.cat_sane.proofs.ChainLemmas.{told_here, told_later}
use Rattle.cat_sane.proofs.sane.from_history.Goals as goal

-- the rule on snapshots is a part of this one
pub from_intervals-requires : goal.from_intervals-requires
from_intervals-requires c =
    let T : Option Key → Type 0 = FirstBad (IsHistoryBad (tables_of c.args.rows.now)) in
    let holds = subst T c.in-None.is c.in_ok-key.ensures in
    record { history = λ k h. holds k (inl h) }

pub returns-in-Some : goal.returns-in-Some
returns-in-Some c =
    let t = tables_of c.args.rows.now in
    let T : Option Key → Type 0 = FirstBad (IsHistoryBad t) in
    told_here 2 (IsHistoryBad t) (FromIntervals t) c.in-Some.key c.told.result (subst T c.in-Some.is c.in_ok-key.ensures) c.told.ensures

pub returns-in-None : goal.returns-in-None
returns-in-None c =
    let t = tables_of c.args.rows.now in
    let T : Option Key → Type 0 = FirstBad (IsHistoryBad t) in
    told_later 2 (IsHistoryBad t) (FromIntervals t) c.from_intervals.result (subst T c.in-None.is c.in_ok-key.ensures) c.from_intervals.ensures
