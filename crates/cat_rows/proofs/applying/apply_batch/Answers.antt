use Rattle.std.proofs.Common.{rules}
use Rattle.cat_rows.specs.Batches.{tables_of}
use Rattle.cat_rows.proofs.EarlierLemmas.{KeepsEarlier-applied}
use Rattle.cat_rows.proofs.applying.apply_batch.Goals as goal

pub returns-clause-earlier : goal.returns-clause-earlier
returns-clause-earlier c = KeepsEarlier-applied c.args.batch.now (tables_of c.args.rows.now) (tables_of c.apply_reserved.new.rows) (search (rules, c.apply_reserved.ensures.rows, c.in_ok-own.ensures, c.reserve_batch.ensures.rows))
