use Rattle.std.proofs.Common.{◌<◌, ◌≤◌, length, arith}
use Rattle.pq_meta.specs.Spelling.{column_bytes}
use Rattle.pq_meta.proofs.SpellingLemmas.{row_goes_on, texts_more, texts_end}
use Rattle.pq_meta.proofs.writing.put_columns.Goals as goal

pub loop-column-preserved : goal.loop-column-preserved
loop-column-preserved c =
    let within : c.loop-column.column-index < length c.args.columns.now = omega arith in (
      row_goes_on column_bytes c.args.columns.now c.loop-column.column-index c.column-item.result c.loop-column.writer c.put_column.new.writer _
          within c.column-item.is c.in_ok-put_column.ensures.bytes c.loop-column.invariant.0,
      texts_more c.args.columns.now c.loop-column.column-index c.column-item.result within c.column-item.is c.in_ok-put_column.ensures.text c.loop-column.invariant.1,
    )

pub returns-clause-text : goal.returns-clause-text
returns-clause-text c =
    let all : length c.args.columns.now ≤ c.loop-column.column-index = omega arith in
    texts_end c.args.columns.now c.loop-column.column-index all c.loop-column.invariant.1
