use Rattle.std.proofs.Common.{rules}
use Rattle.lake_types.proofs.TextLemmas.{parses}
use Rattle.lake_types.proofs.texts.integer_of.Goals as goal

pub returns-in_default-clause-none : goal.returns-in_default-clause-none
returns-in_default-clause-none c none n h e =
    let read = parses c.args.ty n c.args.text.now c.parse.result h e c.parse.ensures.value.0 in
    grind (rules, read)

pub returns-then-ne-clause-none : goal.returns-then-ne-clause-none
returns-then-ne-clause-none c none n h e =
    let read = parses c.args.ty n c.args.text.now c.parse.result h e c.parse.ensures.value.0 in
    grind (rules, read)

pub returns-else-fits_integer-clause-none : goal.returns-else-fits_integer-clause-none
returns-else-fits_integer-clause-none c none n h e =
    let read = parses c.args.ty n c.args.text.now c.parse.result h e c.parse.ensures.value.0 in
    grind (rules, read)
