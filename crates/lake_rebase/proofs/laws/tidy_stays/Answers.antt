use Rattle.std.proofs.Common.{[]}
use Rattle.lake_rebase.proofs.HeadLemmas.{tidy-at-head}
use Rattle.lake_rebase.proofs.TellLemmas.{tells-at-once}
use Rattle.lake_rebase.proofs.laws.tidy_stays.Goals as goal

pub returns-clause-kept : goal.returns-clause-kept
returns-clause-kept c s own ids small grows fitting tidy =
    tidy-at-head [] s s own record { grows = grows; fits_base = fitting; small = small; base_ids = ids; head_ids = ids; base_tidy = tidy; head_tidy = tidy; tells = tells-at-once s; apart = tt }
