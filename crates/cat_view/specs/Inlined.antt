-- Inlined rows whose cells can be read.
use Rattle.std.specs.Prelude.{List, map}
use Rattle.std.specs.Arc.{arc_value}
use Rattle.std.specs.List.{AllZip}
use Rattle.std.specs.declared.sync.Arc.{Arc}
use Rattle.lake_types.specs.declared.value.Column.{Column}
use Rattle.lake_types.specs.declared.value.Row.{Row}
use Rattle.inline_rows.specs.Laws.{SpellsNone}
use Rattle.cat_rows.specs.declared.inlined.InlinedRow.{InlinedRow}
use Rattle.cat_view.specs.Sight.{IsInlined}

-- a row's bytes spell cells: they aren't bytes that spell none
abbrev pub SpellsCells : InlinedRow → Type 0
SpellsCells r = SpellsNone r.cells → ⊥

-- shared rows, each as an inlined row spells it
abbrev pub AreInlined : {A : Type 0} → List Column → List InlinedRow → List (Arc Row A) → Type 0
AreInlined columns rows made = AllZip (IsInlined columns) rows (map (λ r. arc_value r) made)
