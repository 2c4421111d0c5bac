use Rattle.std.proofs.Common.{rules, ◌≡◌, ◌≢◌, ◌∙◌, Some, None, sym, true≢false}
use Rattle.cat_core.proofs.NameLemmas.{HasOther, Lacks, first_other}
use Rattle.cat_core.proofs.StagedLemmas.{at_file, past_file, past_none}
use Rattle.cat_core.proofs.names.lack_name.Goals as goal

pub returns-then-is_same : goal.returns-then-is_same
returns-then-is_same g c =
    let path = c.args.name.now in
    let there : c.table-item.result.fresh ≡ Some c.in-Some.file = search rules in
    let same : path ≡ g.F.Held.name c.in-Some.file.file = c.is_same.ensures.0 c.if-is_same.true ∙ c.name.ensures in
    at_file g.F.Held.name g.F.Held.size (Lacks path) (HasOther path) (first_other path) _ c.table-item.result c.table-item.result _ c.in-Some.file c.loop-rest.invariant c.in-len1-up.len_at_least c.table-item.is there
    (λ other. other same)

pub loop-rest-preserved-else-is_same : goal.loop-rest-preserved-else-is_same
loop-rest-preserved-else-is_same g c =
    let path = c.args.name.now in
    let there : c.table-item.result.fresh ≡ Some c.in-Some.file = search rules in
    let other : path ≢ g.F.Held.name c.in-Some.file.file = λ e. true≢false (sym (c.is_same.ensures.1 (e ∙ sym c.name.ensures)) ∙ c.if-is_same.false) in
    past_file g.F.Held.name g.F.Held.size (Lacks path) (HasOther path) (first_other path) _ c.table-item.result c.table-item.result _ c.in-Some.file c.loop-rest.invariant c.in-len1-up.len_at_least c.table-item.is there
    other

pub loop-rest-preserved : goal.loop-rest-preserved
loop-rest-preserved g c =
    let path = c.args.name.now in
    let there : c.table-item.result.fresh ≡ None = search rules in
    past_none g.F.Held.name g.F.Held.size (Lacks path) (HasOther path) (first_other path) _ c.table-item.result c.table-item.result _ c.loop-rest.invariant c.in-len1-up.len_at_least c.table-item.is there
