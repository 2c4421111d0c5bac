use Rattle.std.proofs.Common.{◌==◌}
use Rattle.indexmap.specs.IndexSet.{contains}
use Rattle.lake_model.specs.Kinds.{is_drop_of_schema, is_drop_of_table}
use Rattle.lake_model.specs.declared.change.Ref.TheVariants as ref
use Rattle.rebase.proofs.DropLemmas.{one_added}
use Rattle.rebase.proofs.dropped.Dropped.of.Goals as goal

pub loop-rest-preserved : goal.loop-rest-preserved
loop-rest-preserved c =
    let told = c.in_ok-add.ensures in
    let so_far = c.loop-rest.invariant in
    let xs = c.loop-rest.rest.now in
    record {
      schemas = one_added (λ id. is_drop_of_schema (ref.Old id)) (contains ◌==◌ c.loop-rest.dropped.schemas) _ c.change-item.result _ xs c.args.own.now told.schemas c.in-len1-up.len_at_least c.change-item.is so_far.schemas;
      tables = one_added (λ id. is_drop_of_table (ref.Old id)) (contains ◌==◌ c.loop-rest.dropped.tables) _ c.change-item.result _ xs c.args.own.now told.tables c.in-len1-up.len_at_least c.change-item.is so_far.tables;
    }
