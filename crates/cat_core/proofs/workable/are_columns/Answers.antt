use Rattle.std.proofs.Common.{rules, ◌≤◌, length}
use Rattle.std.specs.List.{AllByRecursion}
use Rattle.lake_types.specs.declared.limits.TheConstants.{MAX_COLUMNS}
use Rattle.cat_core.specs.Workable.{IsSizedColumn}
use Rattle.cat_core.proofs.WorkLemmas.{columns_are}
use Rattle.cat_core.proofs.workable.are_columns.Goals as goal

pub returns : goal.returns
returns c =
    let columns = c.args.columns.now in
    let few : length columns ≤ MAX_COLUMNS = search rules in
    let sized : AllByRecursion IsSizedColumn columns = search rules in
    let told = columns_are columns few sized in
    ((λ is. told.0 (c.do_fields_differ.ensures.0 is)), (λ are. c.do_fields_differ.ensures.1 (told.1 are)))
