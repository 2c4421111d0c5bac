use Rattle.std.proofs.Common.{rules, sym}
use Rattle.std.proofs.lemmas.Fmt.{parse-decimal}
use Rattle.cat_changes.proofs.reading.id_of.Goals as goal

pub returns-in_default-clause-none : goal.returns-in_default-clause-none
returns-in_default-clause-none c none id h e =
    let read = parse-decimal 64 id c.args.digits.now c.parse.result h h (sym e) c.parse.ensures.value.0 in
    grind (rules, read)

pub returns-else-eq-clause-none : goal.returns-else-eq-clause-none
returns-else-eq-clause-none c none id h e =
    let read = parse-decimal 64 id c.args.digits.now c.parse.result h h (sym e) c.parse.ensures.value.0 in
    grind (rules, read)
