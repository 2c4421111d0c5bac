use Rattle.std.proofs.Common.{ℕ, Ok, Vec, Global}
use Rattle.pq_encodings.specs.Grammar.{HoldsRuns}
use Rattle.pq_encodings.specs.Runs.{levels_in}
use Rattle.answers.proofs.AnswerLemmas.{gives_holds, gives_same}
use Rattle.pq_encodings.specs.Faults.{is_memory}
use Rattle.pq_encodings.proofs.GrammarLemmas.{levels_in-held, levels_in-of_held}
use Rattle.pq_encodings.proofs.runs.decode_levels.Goals as goal

pub returns-clause-held : goal.returns-clause-held
returns-clause-held c =
    gives_holds is_memory (λ (v : Vec ℕ Global). v.items) c.first_numbers.result (levels_in c.args.width c.args.bytes.now c.args.count)
    (λ xs. HoldsRuns c.args.width c.args.count c.args.bytes.now xs)
    (λ xs read. levels_in-held c.args.width c.args.bytes.now c.args.count xs read) (rw c.from.ensures at c.first_numbers.ensures.gives)

pub returns-clause-only : goal.returns-clause-only
returns-clause-only c = λ xs held.
    gives_same is_memory (λ (v : Vec ℕ Global). v.items) c.first_numbers.result (levels_in c.args.width c.args.bytes.now c.args.count) (Ok xs)
    (levels_in-of_held c.args.width c.args.bytes.now c.args.count xs held) (rw c.from.ensures at c.first_numbers.ensures.gives)
