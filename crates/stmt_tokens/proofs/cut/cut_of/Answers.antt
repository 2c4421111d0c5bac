use Rattle.std.proofs.Common.{◌≡◌, ◌+◌, ◌-◌, suc, length, arith, ap, sym, ◌∙◌}
use Rattle.stmt_tokens.specs.Tokens.{cut_in, ◌then◌}
use Rattle.stmt_tokens.proofs.cut.cut_of.Goals as goal

pub loop-turn-preserved : goal.loop-turn-preserved
loop-turn-preserved c =
    let l = c.loop-turn in
    let len = length c.args.line.now in
    let one : len - l._turn ≡ suc (len - (l._turn + 1)) = omega arith in
    record {
      all = sym (c.in_ok-rest.ensures.goes_on (len - (l._turn + 1))) ∙ ap (λ k. l.tokens then cut_in len k l.rest.now) (sym one) ∙ l.invariant.all;
      within = c.in_ok-rest.ensures.within;
    }
