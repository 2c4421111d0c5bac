use Rattle.std.proofs.Common.{◌≡◌, ◌<◌, List, All, length, map, ap, sym, subst, ◌∙◌}
use Rattle.std.specs.List.{slice_index_or}
use Rattle.lake_types.specs.declared.value.Row.{Row}
use Rattle.sheet_rows.specs.Rows.{places_of}
use Rattle.sheet_rows.proofs.RowLemmas.{count, only_known, only_rows}
use Rattle.sheet_rows.proofs.rows.SheetRows.only.Goals as goal

pub invariant_of-result : goal.invariant_of-result
invariant_of-result c =
    let in_all : length c.args.self ≡ length (places_of c.self.inside.kept c.self.inside.sheet.rows) =
    sym (ap length c.self.view_is) ∙ count c.self.inside.ids c.self.inside.kept c.self.inside.columns c.self.inside.sheet in
    let there = subst (λ n. All (λ at. at < n) c.args.those.now) in_all c.requires in
    only_known c.self.inside.sheet c.self.inside.columns c.self.inside.at.items c.self.inside.ids c.self.inside.kept c.in_ok-kept.kept c.args.those.now c.self.invariant there c.in_ok-kept.ensures

pub returns : goal.returns
returns c =
    let in_all : length c.args.self ≡ length (places_of c.self.inside.kept c.self.inside.sheet.rows) =
    sym (ap length c.self.view_is) ∙ count c.self.inside.ids c.self.inside.kept c.self.inside.columns c.self.inside.sheet in
    let there = subst (λ n. All (λ at. at < n) c.args.those.now) in_all c.requires in
    λ other. only_rows c.self.inside.ids c.self.inside.kept c.in_ok-kept.kept c.self.inside.columns c.self.inside.sheet c.args.those.now other there c.in_ok-kept.ensures
    ∙ ap (λ (rows : List Row). map (λ at. slice_index_or rows at other) c.args.those.now) c.self.view_is
