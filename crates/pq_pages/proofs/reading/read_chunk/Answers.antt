use Rattle.pq_pages.specs.Fitting.{FitSpec}
use Rattle.pq_pages.specs.Pages.{cells_of, chunk_of}
use Rattle.answers.proofs.AnswerLemmas.{gives_holds}
use Rattle.pq_pages.specs.Answers.{is_memory}
use Rattle.pq_pages.proofs.HoldingLemmas.{answer_held}
use Rattle.pq_pages.proofs.reading.read_chunk.Goals as goal

pub returns-clause-holds : goal.returns-clause-holds
returns-clause-holds c =
    answer_held c.args.spec.now c.args.bytes.now c.chunk_cells.result (chunk_of c.args.spec.now c.args.bytes.now)
    (c.reads_what_is_held.ensures c.args.spec.now c.args.bytes.now) c.chunk_cells.ensures.exact

pub returns-clause-fit : goal.returns-clause-fit
returns-clause-fit c =
    gives_holds is_memory cells_of c.chunk_cells.result (chunk_of c.args.spec.now c.args.bytes.now) (λ cells. FitSpec c.args.spec.now cells)
    (c.reads_as_said.ensures c.args.spec.now c.args.bytes.now) c.chunk_cells.ensures.exact
