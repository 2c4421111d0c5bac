use Rattle.std.proofs.Common.{rules, ◌≡◌, Ok}
use Rattle.hex.specs.Hex.{decode_of, encode_lower}
use Rattle.hex.proofs.HexLemmas.{decode_of-ok}
use Rattle.lake_types.proofs.TextLemmas.{decodes}
use Rattle.lake_types.proofs.texts.bytes_of.Goals as goal

pub returns-else-eq-clause-none : goal.returns-else-eq-clause-none
returns-else-eq-clause-none c none bytes h e =
    let read = decodes bytes c.args.text.now h e in
    grind (rules, read)

pub returns-then-ne-clause-none : goal.returns-then-ne-clause-none
returns-then-ne-clause-none c none bytes h e =
    let read = decodes bytes c.args.text.now h e in
    grind (rules, read)

pub returns-clause-some : goal.returns-clause-some
returns-clause-some c =
    let decoded : decode_of c.args.text.now ≡ Ok c.from_vec.result = search rules in
    let told : encode_lower c.from_vec.result ≡ c.args.text.now = search rules in
    ((decode_of-ok c.args.text.now c.from_vec.result decoded).3, told)
