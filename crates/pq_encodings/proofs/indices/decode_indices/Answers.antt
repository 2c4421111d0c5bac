use Rattle.std.proofs.Common.{◌<◌, ℕ, All, Ok, Vec, Global}
use Rattle.pq_encodings.specs.Grammar.{HoldsIndices}
use Rattle.pq_encodings.specs.Indices.{indices_in}
use Rattle.answers.proofs.AnswerLemmas.{gives_holds, gives_same}
use Rattle.pq_encodings.specs.Faults.{is_memory}
use Rattle.pq_encodings.proofs.IndexLemmas.{indices_in-below, indices_in-held, indices_in-of_held}
use Rattle.pq_encodings.proofs.indices.decode_indices.Goals as goal

pub returns-clause-held : goal.returns-clause-held
returns-clause-held c =
    gives_holds is_memory (λ (v : Vec ℕ Global). v.items) c.first_indices.result (indices_in c.args.bytes.now c.args.count c.args.size)
    (λ xs. HoldsIndices c.args.count c.args.size c.args.bytes.now xs)
    (λ xs read. indices_in-held c.args.bytes.now c.args.count c.args.size xs read) c.first_indices.ensures.gives

pub returns-clause-only : goal.returns-clause-only
returns-clause-only c = λ xs held.
    gives_same is_memory (λ (v : Vec ℕ Global). v.items) c.first_indices.result (indices_in c.args.bytes.now c.args.count c.args.size) (Ok xs)
    (indices_in-of_held c.args.bytes.now c.args.count c.args.size xs held) c.first_indices.ensures.gives

pub returns-clause-below : goal.returns-clause-below
returns-clause-below c =
    gives_holds is_memory (λ (v : Vec ℕ Global). v.items) c.first_indices.result (indices_in c.args.bytes.now c.args.count c.args.size)
    (λ xs. All (λ x. x < c.args.size) xs)
    (λ xs read. indices_in-below c.args.bytes.now c.args.count c.args.size xs read) c.first_indices.ensures.gives
