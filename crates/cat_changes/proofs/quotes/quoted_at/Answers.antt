use Rattle.std.proofs.Common.{◌∙◌, ◌++◌, ◌∷◌, [], ap, sym, false, Some, List, ℕ, rules, arith}
use Rattle.std.specs.String.{string_bytes}
use Rattle.cat_changes.specs.Reading.{inside, with_front, quoted_in}
use Rattle.cat_changes.proofs.QuoteLemmas.{read_more, read_end, read_none}
use Rattle.cat_changes.proofs.quotes.quoted_at.Goals as goal

pub returns-in_default-behind : goal.returns-in_default-behind
returns-in_default-behind c =
    read_end (string_bytes c.loop-before.name) c.loop-before.rest.now c.in-Some-cut.before.now c.in-Some-cut.after.now (quoted_in c.args.text.now)
    c.loop-before.invariant.0 c.in-Some-cut.ensures.some.0 c.in-Some-cut.ensures.some.1 (search rules)
    ∙ ap (λ (x : List ℕ). Some (x, c.in-Some-cut.after.now)) (sym (c.from_string.ensures ∙ c.in_ok-push_str.ensures.bytes))

pub loop-before-preserved : goal.loop-before-preserved
loop-before-preserved c =
    let turn = read_more (string_bytes c.loop-before.name) c.loop-before.rest.now c.in-Some-cut.before.now c.in-Some-cut.after.now c.in-Some-behind.more.now (quoted_in c.args.text.now)
    c.loop-before.invariant.0 c.in-Some-cut.ensures.some.0 c.in-Some-cut.ensures.some.1 c.in-Some-behind.ensures.some in
    (ap (λ (x : List ℕ). with_front x (inside false c.in-Some-behind.more.now)) (c.in_ok-push.ensures.bytes ∙ ap (λ (x : List ℕ). string_bytes c.push_str.new.self ++ x) (c.in_ok-push.ensures.ascii (omega arith)) ∙ ap (λ (x : List ℕ). x ++ 34 ∷ []) c.in_ok-push_str.ensures.bytes) ∙ turn, search rules)

pub returns : goal.returns
returns c = read_none (string_bytes c.loop-before.name) c.loop-before.rest.now (quoted_in c.args.text.now) c.loop-before.invariant.0 (search rules)
