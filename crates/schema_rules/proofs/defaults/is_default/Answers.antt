use Rattle.std.proofs.Common.{◌≡◌, Some, rules}
use Rattle.cat_texts.specs.Types.{type_of}
use Rattle.schema_rules.proofs.DefaultLemmas.{default_decides}
use Rattle.schema_rules.proofs.defaults.is_default.Goals as goal

pub returns-in-Ok : goal.returns-in-Ok
returns-in-Ok c =
    let known : type_of c.args.type_text.now ≡ Some c.in-Some-type_of.ty = search rules in
    let text : c.args.text.now ≡ Some c.as_str.result.now = search rules in
    default_decides c.args.type_text.now c.as_str.result.now c.args.text.now c.in-Some-type_of.ty c.in-Ok.value c.is_short.result text known c.in-Ok.ensures.ok c.is_short.ensures
