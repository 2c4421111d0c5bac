use Rattle.sheet_rows.proofs.RowLemmas.{left_known}
use Rattle.sheet_rows.proofs.rows.SheetRows.without.Goals as goal

pub invariant_of-result : goal.invariant_of-result
invariant_of-result c =
    left_known c.self.inside.sheet c.self.inside.columns c.self.inside.at.items c.self.inside.ids c.self.inside.kept c.in_ok-kept.kept c.args.gone.now c.self.invariant c.in_ok-kept.ensures
