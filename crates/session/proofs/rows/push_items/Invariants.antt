use Rattle.std.proofs.Common.{◌≡◌, ◌++◌, drop}
use Rattle.std.specs.Str.{IsUtf8}
use Rattle.std.specs.String.{string_bytes}
use Rattle.session.specs.Shown.{behind, item_texts, joined}
use Rattle.session.proofs.rows.push_items.Given as goal

-- the text so far, and the items and cells that are left
abbrev pub invariant-loop-item : goal.invariant-loop-item
invariant-loop-item l = record {
  text : string_bytes l.text ++ behind l.before (item_texts l.id (drop l.item-index l.items) l.left) ≡ string_bytes l.fn.text ++ joined (item_texts l.id l.items l.cells);
  utf8 : IsUtf8 l.before;
}
