use Rattle.lake_rebase.proofs.HeadLemmas.{columns-at-head, kinds-at-head, tidy-at-head}
use Rattle.lake_rebase.proofs.MemberLemmas.{in_of, of_in}
use Rattle.lake_rebase.proofs.laws.free_lists_rebase.Goals as goal

pub returns-clause-tidy : goal.returns-clause-tidy
returns-clause-tidy c = tidy-at-head

pub returns-clause-kinds : goal.returns-clause-kinds
returns-clause-kinds c = kinds-at-head

pub returns-clause-columns : goal.returns-clause-columns
returns-clause-columns c told base head own h u there some stays =
    let k = columns-at-head told base head own h u (in_of u base.tables there) some stays in
    (k.table, of_in k.table head.tables k.there, k.id_is, k.columns_are)
