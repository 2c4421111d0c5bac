use Rattle.std.proofs.Common.{◌∙◌, ◌++◌, ◌∷◌, [], ap, List, ℕ, rules, arith}
use Rattle.std.specs.String.{string_bytes}
use Rattle.lake_types.specs.Texts.{all_doubled}
use Rattle.cat_changes.proofs.QuoteLemmas.{write_more, write_last}
use Rattle.cat_changes.proofs.quotes.push_quoted.Goals as goal

pub loop-before-preserved : goal.loop-before-preserved
loop-before-preserved c =
    let turn = write_more (string_bytes c.loop-before.text) c.loop-before.rest.now c.in-Some.before.now c.in-Some.after.now _
    c.loop-before.invariant.0 c.in-Some.ensures.some.0 c.in-Some.ensures.some.1 in
    (ap (λ (x : List ℕ). x ++ all_doubled 34 c.in-Some.after.now) (c.in_ok-push_str-2.ensures.bytes ∙ ap (λ (x : List ℕ). x ++ 34 ∷ 34 ∷ []) c.in_ok-push_str.ensures.bytes) ∙ turn, search rules)

pub returns : goal.returns
returns c =
    c.in_ok-push-2.ensures.bytes
    ∙ ap (λ (x : List ℕ). string_bytes c.push_str-2.new.self ++ x) (c.in_ok-push-2.ensures.ascii (omega arith))
    ∙ ap (λ (x : List ℕ). x ++ 34 ∷ []) c.in_ok-push_str-3.ensures.bytes
    ∙ write_last (string_bytes c.loop-before.text) c.loop-before.rest.now (string_bytes c.args.text.now) c.args.name.now c.loop-before.invariant.0 (search rules)
