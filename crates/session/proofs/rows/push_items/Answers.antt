use Rattle.std.proofs.Common.{◌∙◌, ◌≡◌, ◌++◌, ap, arith, rules}
use Rattle.std.specs.String.{string_bytes}
use Rattle.session.specs.Shown.{item_text}
use Rattle.session.proofs.ShownLemmas.{items_step}
use Rattle.session.proofs.rows.push_items.Goals as goal

pub loop-item-preserved : goal.loop-item-preserved
loop-item-preserved c =
    let grown : string_bytes c.push_item.new.text ≡ (string_bytes c.loop-item.text ++ c.loop-item.before.now) ++ item_text c.args.id c.item-item.result c.loop-item.left.now =
    c.in-Ok.ensures.text ∙ ap (λ t. t ++ item_text c.args.id c.item-item.result c.loop-item.left.now) c.in_ok-push_str.ensures.bytes in
    record {
      text = items_step (string_bytes c.loop-item.text) _ c.loop-item.before.now _ c.args.id c.args.items.now c.loop-item.item-index c.item-item.result c.loop-item.left.now _ (omega arith) c.item-item.is grown c.in-Ok.ensures.left c.loop-item.invariant.text;
      utf8 = search rules;
    }
