use Rattle.std.proofs.Common.{◌≡◌, true, false, refl}
use Rattle.cat_rows.specs.Batches.{holds, tables_of}
use Rattle.cat_rules.proofs.FirstLemmas.{first_alone}
use Rattle.history_rules.proofs.layout_rule.missing.Goals as goal

pub returns-else-holds : goal.returns-else-holds
returns-else-holds c = first_alone (holds (tables_of c.args.rows.now) c.args.key ≡ false) c.args.key true (λ e. cc, λ h. refl)
