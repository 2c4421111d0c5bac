use Rattle.std.proofs.Common.{nat_lt, ap, ◌∙◌}
use Rattle.std.specs.List.{prefix_len}
use Rattle.cat_view.specs.Columns.{order_of}
use Rattle.cat_view.specs.declared.columns.PlacedColumn.{PlacedColumn}
use Rattle.cat_view.proofs.ColumnLemmas.{put_placed}
use Rattle.cat_view.proofs.columns.put_column.Goals as goal

pub returns : goal.returns
returns c = put_placed c.args.new c.args.placed.now.items _ c.count_before-at.result (c.count_before-at.ensures.count ∙ ap (prefix_len (λ (p : PlacedColumn). nat_lt (order_of p) c.args.new.order)) c.as_slice.ensures.value) c.in_ok-insert.ensures.items
