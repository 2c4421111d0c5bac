use Rattle.std.proofs.Common.{rules, ◌≡◌, ◌∙◌, ◌-◌, Some, None, drop, length, take, subst, sym, true≢false}
use Rattle.std.specs.Prelude.{◌↔◌, IsTrue}
use Rattle.cat_rows.specs.Batches.{tables_of}
use Rattle.rebase.specs.Files.{files_in}
use Rattle.cat_core.specs.Commits.{AreNew}
use Rattle.cat_core.specs.Names.{IsNew, names_of}
use Rattle.cat_core.specs.Shown.{held_at}
use Rattle.cat_core.proofs.NameLemmas.{IsNewBefore, first_new}
use Rattle.cat_core.proofs.StagedLemmas.{at_file, past_file, past_none}
use Rattle.cat_core.proofs.names.are_new.Goals as goal

pub returns-then-not-is_new : goal.returns-then-not-is_new
returns-then-not-is_new g c =
    let t = tables_of c.args.rows.now in
    let held = held_at g.F.Held.name g.F.Held.size g.F.Held.bytes c.args.held.now in
    let there : c.table-item.result.fresh ≡ Some c.in-Some.file = search rules in
    let xs = c.loop-rest.rest.now in
    let told = subst (λ n. IsTrue c.is_new.result ↔ IsNew t held n (names_of (files_in g.F.Held.name g.F.Held.size (take (length xs - 1) (drop 1 xs))))) c.name.ensures c.is_new.ensures in
    at_file g.F.Held.name g.F.Held.size (AreNew t held) (IsNewBefore t held) (first_new t held) _ c.table-item.result c.table-item.result _ c.in-Some.file c.loop-rest.invariant c.in-len1-up.len_at_least c.table-item.is there
    (λ new. true≢false (sym (told.1 new) ∙ c.if-not-is_new.true))

pub loop-rest-preserved-else-not-is_new : goal.loop-rest-preserved-else-not-is_new
loop-rest-preserved-else-not-is_new g c =
    let t = tables_of c.args.rows.now in
    let held = held_at g.F.Held.name g.F.Held.size g.F.Held.bytes c.args.held.now in
    let there : c.table-item.result.fresh ≡ Some c.in-Some.file = search rules in
    let xs = c.loop-rest.rest.now in
    let told = subst (λ n. IsTrue c.is_new.result ↔ IsNew t held n (names_of (files_in g.F.Held.name g.F.Held.size (take (length xs - 1) (drop 1 xs))))) c.name.ensures c.is_new.ensures in
    past_file g.F.Held.name g.F.Held.size (AreNew t held) (IsNewBefore t held) (first_new t held) _ c.table-item.result c.table-item.result _ c.in-Some.file c.loop-rest.invariant c.in-len1-up.len_at_least c.table-item.is there
    (told.0 c.if-not-is_new.false)

pub loop-rest-preserved : goal.loop-rest-preserved
loop-rest-preserved g c =
    let t = tables_of c.args.rows.now in
    let held = held_at g.F.Held.name g.F.Held.size g.F.Held.bytes c.args.held.now in
    let there : c.table-item.result.fresh ≡ None = search rules in
    past_none g.F.Held.name g.F.Held.size (AreNew t held) (IsNewBefore t held) (first_new t held) _ c.table-item.result c.table-item.result _ c.loop-rest.invariant c.in-len1-up.len_at_least c.table-item.is there
