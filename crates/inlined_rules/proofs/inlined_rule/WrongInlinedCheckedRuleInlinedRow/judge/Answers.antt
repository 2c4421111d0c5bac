use Rattle.std.proofs.Common.{◌≡◌, ◌∙◌, true, refl, sym}
use Rattle.cat_rows.specs.Batches.{tables_of}
use Rattle.cat_rows.specs.Validities.{inlined_row_validity}
use Rattle.cat_rules.specs.Meeting.{meets_table}
use Rattle.cat_rules.specs.Lookups.{table_of}
use Rattle.inlined_rules.proofs.inlined_rule.WrongInlinedCheckedRuleInlinedRow.judge.Goals as goal

pub returns-then-meets_table : goal.returns-then-meets_table
returns-then-meets_table c =
    let meets : meets_table inlined_row_validity c.args.row.now (table_of (tables_of c.args.self.now.rows.now) c.args.row.now.table_id) ≡ true = sym c.meets_table.ensures ∙ c.if-meets_table.true in
    ((meets, c.in_ok-wrong.ensures.0 c.if-wrong.true), refl)
