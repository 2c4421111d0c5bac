use Rattle.pq_meta.specs.Footers.{footer_of}
use Rattle.pq_meta.proofs.ConsistencyLemmas.{answer_consistent}
use Rattle.pq_meta.proofs.HoldingLemmas.{answer_held}
use Rattle.pq_meta.proofs.reading.read_meta.Goals as goal

pub returns-clause-holds : goal.returns-clause-holds
returns-clause-holds c =
    answer_held c.args.footer.now c.footer_in.result (footer_of c.args.footer.now) (c.reads_what_is_held.ensures c.args.footer.now) c.footer_in.ensures

pub returns-clause-consistent : goal.returns-clause-consistent
returns-clause-consistent c =
    answer_consistent c.footer_in.result (footer_of c.args.footer.now) (c.reads_consistent.ensures c.args.footer.now) c.footer_in.ensures
