use Rattle.std.proofs.Common.{rules, ◌∙◌, None, subst, sym}
use Rattle.std.specs.Prelude.{◌↔◌, IsTrue}
use Rattle.std.specs.List.{AllByRecursion}
use Rattle.cat_view.specs.Views.{named_tables, named_version}
use Rattle.cat_core.specs.Workable.{IsTableWorkable, RisesPast}
use Rattle.cat_core.proofs.WorkLemmas.{table_by_table, up_past_none, workable}
use Rattle.cat_core.proofs.workable.is_workable.Goals as goal

pub returns-then-not-do_ids_rise-clause-passes : goal.returns-then-not-do_ids_rise-clause-passes
returns-then-not-do_ids_rise-clause-passes g c =
    let told = subst (λ tables. IsTrue c.do_ids_rise.result ↔ RisesPast None (named_tables g.F.Held.name tables)) c.as_slice-tables.ensures.value c.do_ids_rise.ensures in
    λ up h. sym c.if-not-do_ids_rise.true ∙ told.1 (up_past_none (named_tables g.F.Held.name c.args.version.now.tables.items) up)

pub returns-clause-workable : goal.returns-clause-workable
returns-clause-workable g c = λ are.
    let name = g.F.Held.name in
    let tables = named_tables name c.args.version.now.tables.items in
    let up : RisesPast None tables = search rules in
    let told : IsTrue c.are_tables_workable.result → AllByRecursion IsTableWorkable tables = search rules in
    workable (named_version name c.args.version.now) up (told are)

pub returns-clause-passes : goal.returns-clause-passes
returns-clause-passes g c =
    let told = subst (λ tables. IsTrue c.are_tables_workable.result ↔ AllByRecursion IsTableWorkable (named_tables g.F.Held.name tables)) c.as_slice-tables.ensures.value c.are_tables_workable.ensures in
    λ up h. told.1 (table_by_table (named_version g.F.Held.name c.args.version.now) h)
