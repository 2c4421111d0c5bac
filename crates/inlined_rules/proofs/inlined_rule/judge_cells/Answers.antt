use Rattle.std.proofs.Common.{ℕ, List, Bool, not, Decides, subst, rules}
use Rattle.cat_rows.specs.Batches.{tables_of}
use Rattle.inline_rows.specs.Laws.{Spells, SpellsNone}
use Rattle.cat_rules.specs.InlinedRule.{next_field}
use Rattle.inlined_rules.proofs.CellLemmas.{misfit_decides, no_misfit, none_allowed, unreadable_decides}
use Rattle.inlined_rules.proofs.inlined_rule.judge_cells.Goals as goal

pub returns-in-Ok-clause-unreadable : goal.returns-in-Ok-clause-unreadable
returns-in-Ok-clause-unreadable c =
    let t = tables_of c.args.rows.now in
    let T : List ℕ → Type 0 = λ bytes. Spells bytes c.in-Ok.cells.items in
    let spells = subst T c.as_slice.ensures.same c.in-Ok.ensures.ok in
    unreadable_decides (next_field t c.args.row.now) c.args.row.now.cells c.in-Ok.cells.items c.cells_ok-allowed.result spells (search rules)

pub returns-in-Ok-clause-misfit : goal.returns-in-Ok-clause-misfit
returns-in-Ok-clause-misfit c =
    let t = tables_of c.args.rows.now in
    let T : List ℕ → Type 0 = λ bytes. Spells bytes c.in-Ok.cells.items in
    let spells = subst T c.as_slice.ensures.same c.in-Ok.ensures.ok in
    misfit_decides t c.args.index.now c.args.row.now c.in-Ok.cells.items c.are_misfits.result spells (search rules)

pub returns-in-Err-BadCells-clause-unreadable : goal.returns-in-Err-BadCells-clause-unreadable
returns-in-Err-BadCells-clause-unreadable c =
    let t = tables_of c.args.rows.now in
    let none : SpellsNone c.as_slice.result.now = c.in-Err-BadCells.ensures.none (λ e. absurd (cc (c.in-Err-BadCells.field-0-is, e))) in
    none_allowed (next_field t c.args.row.now) c.args.row.now.cells (subst SpellsNone c.as_slice.ensures.same none)

pub returns-in-Err-BadCells-clause-misfit : goal.returns-in-Err-BadCells-clause-misfit
returns-in-Err-BadCells-clause-misfit c =
    let t = tables_of c.args.rows.now in
    let none : SpellsNone c.as_slice.result.now = c.in-Err-BadCells.ensures.none (λ e. absurd (cc (c.in-Err-BadCells.field-0-is, e))) in
    no_misfit t c.args.index.now c.args.row.now (subst SpellsNone c.as_slice.ensures.same none)
