use Rattle.std.proofs.Common.{◌≡◌, Ok, arith}
use Rattle.pq_encodings.specs.Values.{AreShort, BeginsWith, count_of, kind_of, values_in, values_of}
use Rattle.answers.proofs.AnswerLemmas.{gives_holds, gives_same}
use Rattle.pq_encodings.specs.Faults.{is_memory}
use Rattle.pq_encodings.proofs.HeldLemmas.{values_in-held, values_in-of_held}
use Rattle.pq_encodings.proofs.ValueLemmas.{values_in-asked}
use Rattle.pq_encodings.proofs.plain.decode_plain.Goals as goal

pub returns-clause-held : goal.returns-clause-held
returns-clause-held c =
    gives_holds is_memory values_of c.first_values.result (values_in c.args.kind c.args.count c.args.bytes.now)
    (λ vs. BeginsWith vs c.args.bytes.now)
    (λ vs read. values_in-held c.args.kind c.args.count c.args.bytes.now vs (λ k. omega (arith, c.type_inv.bytes k)) read) c.first_values.ensures

pub returns-clause-only : goal.returns-clause-only
returns-clause-only c = λ vs kind count short fits begins.
    gives_same is_memory values_of c.first_values.result (values_in c.args.kind c.args.count c.args.bytes.now) (Ok vs)
    (rw (← kind, ← count) (values_in-of_held vs c.args.bytes.now short fits begins)) c.first_values.ensures

pub returns-clause-kind : goal.returns-clause-kind
returns-clause-kind c =
    gives_holds is_memory values_of c.first_values.result (values_in c.args.kind c.args.count c.args.bytes.now)
    (λ vs. kind_of vs ≡ c.args.kind) (λ vs read. (values_in-asked c.args.kind c.args.count c.args.bytes.now vs read).same) c.first_values.ensures

pub returns-clause-count : goal.returns-clause-count
returns-clause-count c =
    gives_holds is_memory values_of c.first_values.result (values_in c.args.kind c.args.count c.args.bytes.now)
    (λ vs. count_of vs ≡ c.args.count) (λ vs read. (values_in-asked c.args.kind c.args.count c.args.bytes.now vs read).size) c.first_values.ensures

pub returns-clause-short : goal.returns-clause-short
returns-clause-short c =
    gives_holds is_memory values_of c.first_values.result (values_in c.args.kind c.args.count c.args.bytes.now)
    (λ vs. AreShort vs) (λ vs read. (values_in-asked c.args.kind c.args.count c.args.bytes.now vs read).short) c.first_values.ensures
