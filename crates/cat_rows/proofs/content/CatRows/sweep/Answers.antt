use Rattle.std.proofs.Common.{◌∙◌, sym}
use Rattle.cat_rows.specs.Batches.{tables_of}
use Rattle.cat_rows.proofs.TableLemmas.{removed-by_table}
use Rattle.cat_rows.proofs.content.CatRows.sweep.Goals as goal

pub returns-clause-rows : goal.returns-clause-rows
returns-clause-rows c = (λ i. record { metadata = c.remove_listed.ensures.rows i; snapshot = c.remove_listed-2.ensures.rows i; snapshot_changes = c.remove_listed-3.ensures.rows i; schema = c.remove_listed-4.ensures.rows i; table = c.remove_listed-5.ensures.rows i; column = c.remove_listed-6.ensures.rows i; data_file = c.remove_listed-7.ensures.rows i; delete_file = c.remove_listed-8.ensures.rows i; file_column_stats = c.remove_listed-9.ensures.rows i; table_stats = c.remove_listed-10.ensures.rows i; inlined_row = c.remove_listed-11.ensures.rows i; scheduled_file = c.remove_listed-12.ensures.rows i }) ∙ sym (removed-by_table c.args.keys.now (tables_of c.args.self.now))
