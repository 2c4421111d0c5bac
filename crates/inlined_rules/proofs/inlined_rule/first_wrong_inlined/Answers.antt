use Rattle.std.proofs.Common.{◌≡◌, ◌∙◌, true, List, ap, is_lt, subst}
use Rattle.inlined_rules.proofs.MisfitLemmas.{first_inlined_seen}
use Rattle.std.specs.Prelude.{IfOk}
use Rattle.std.proofs.lemmas.Result.{IfOk-weaker}
use Rattle.cat_tables.specs.Table.{IsBelow, RisesByKey}
use Rattle.cat_rows.specs.Batches.{tables_of}
use Rattle.cat_rows.specs.Keys.{column_key, inlined_row_key, snapshot_key, table_key}
use Rattle.cat_rows.specs.declared.inlined.InlinedRow.{InlinedRow}
use Rattle.cat_rules.specs.First.{FirstBad}
use Rattle.cat_rules.specs.Places.{is_sooner, of_inlined}
use Rattle.cat_rules.specs.Rows.{Names}
use Rattle.cat_rules.proofs.FirstLemmas.{ascends_like}
use Rattle.cat_rows.specs.Validities.{inlined_row_validity}
use Rattle.inlined_rules.specs.Misfits.{IsInlinedWrong}
use Rattle.cat_rules.specs.Meeting.{meets_table}
use Rattle.cat_rules.specs.Lookups.{table_of}
use Rattle.inlined_rules.specs.TermIndex.{index_of}
use Rattle.inlined_rules.specs.declared.term_index.TypedTerms.{TypedTerms}
use Rattle.inlined_rules.proofs.InlinedLemmas.{first_inlined}
use Rattle.inlined_rules.proofs.inlined_rule.first_wrong_inlined.Goals as goal

pub first_checked-requires : goal.first_checked-requires
first_checked-requires c =
    ascends_like (IsBelow inlined_row_key) (λ a b. is_sooner (of_inlined a) (of_inlined b) ≡ true) (λ a b below. ap is_lt below) c.inlined_row.result.now c.inlined_row.ensures.rises

pub returns : goal.returns
returns c =
    let t = tables_of c.args.rows.now in
    let up = subst (RisesByKey snapshot_key) c.snapshot-snapshots.ensures.rows c.snapshot-snapshots.ensures.rises in
    let columns_up = subst (RisesByKey column_key) c.column.ensures.rows c.column.ensures.rises in
    let First : List TypedTerms → List InlinedRow → Type 0 = λ index rows. IfOk c.first_checked.result (FirstBad (Names of_inlined (λ q. (meets_table inlined_row_validity q (table_of t q.table_id) ≡ true) × IsInlinedWrong t index q) rows)) in
    let index : c.in_ok-index.index ≡ index_of t.column = c.in_ok-index.ensures ∙ ap index_of c.column.ensures.rows in
    let judged : First (index_of t.column) t.inlined_row = subst (First (index_of t.column)) c.inlined_row.ensures.rows (subst (λ i. First i c.inlined_row.result.now) index c.first_checked.ensures) in
    let tables = subst (RisesByKey table_key) c.table-tables.ensures.rows c.table-tables.ensures.rises in
    IfOk-weaker c.first_checked.result _ _ (λ o h. first_inlined_seen t tables o (first_inlined t up c.requires.history c.requires.intervals columns_up o h)) judged
