use Rattle.std.proofs.Common.{◌≡◌, arith, take, subst, List}
use Rattle.std.specs.Prelude.{All}
use Rattle.std.proofs.lemmas.List.{take_all}
use Rattle.lake_types.specs.declared.sheet.SheetColumn.{SheetColumn}
use Rattle.pq_file.specs.Canonical.{HasPieceTexts}
use Rattle.pq_file.proofs.GroupLemmas.{bytes_go_on, chunks_go_on}
use Rattle.pq_file.proofs.HeldLemmas.{one_more}
use Rattle.pq_file.proofs.writing.push_group.Goals as goal

pub loop-column-preserved : goal.loop-column-preserved
loop-column-preserved c = (
  bytes_go_on c.args.row c.args.rows c.loop-column.column-index c.args.columns.now c.column-item.result c.loop-column.out.items c.push_placed.new.out.items _
      c.loop-column-test.true c.column-item.is c.in_ok-push_placed.ensures.bytes c.loop-column.invariant.0,
  rw c.in_ok-push.ensures.ok (chunks_go_on c.args.row c.args.rows c.loop-column.column-index c.args.columns.now c.column-item.result c.loop-column.out.items c.push_placed.new.out.items
      c.loop-column.chunks _ c.in_ok-push_placed.field-0 c.loop-column-test.true c.column-item.is c.in_ok-push_placed.ensures.bytes c.in_ok-push_placed.ensures.chunk c.loop-column.invariant.1),
  one_more (HasPieceTexts c.args.row c.args.rows) c.args.columns.now c.loop-column.column-index c.column-item.result c.loop-column-test.true c.column-item.is
      c.loop-column.invariant.2 c.in_ok-push_placed.ensures.texts,
)

pub returns-clause-texts : goal.returns-clause-texts
returns-clause-texts c =
    let all : take c.loop-column.column-index c.args.columns.now ≡ c.args.columns.now = take_all c.loop-column.column-index c.args.columns.now (omega arith) in
    subst (λ (columns : List SheetColumn). All (HasPieceTexts c.args.row c.args.rows) columns) all c.loop-column.invariant.2
