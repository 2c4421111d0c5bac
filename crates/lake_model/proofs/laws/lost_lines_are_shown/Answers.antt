use Rattle.std.proofs.Common.{◌∙◌, sym}
use Rattle.lake_model.proofs.ReplayLemmas.{answer-loss, is-replay, lost-all}
use Rattle.lake_model.proofs.SpareLemmas.{step-spares}
use Rattle.lake_model.proofs.laws.lost_lines_are_shown.Goals as goal

pub returns-clause-shown : goal.returns-clause-shown
returns-clause-shown c = lost-all

pub returns-clause-replays : goal.returns-clause-replays
returns-clause-replays c = is-replay

pub returns-clause-texts : goal.returns-clause-texts
returns-clause-texts c = answer-loss

pub returns-clause-apart : goal.returns-clause-apart
returns-clause-apart c core own session x s h =
    let none = sym (step-spares core own session x) ∙ h in
    cc
