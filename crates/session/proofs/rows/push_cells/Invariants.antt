use Rattle.std.proofs.Common.{◌≡◌, ◌++◌, drop}
use Rattle.std.specs.Str.{IsUtf8}
use Rattle.std.specs.String.{string_bytes}
use Rattle.session.specs.Shown.{behind, cell_texts, joined}
use Rattle.session.proofs.rows.push_cells.Given as goal

-- the text so far, and the cells that are left
abbrev pub invariant-loop-cell : goal.invariant-loop-cell
invariant-loop-cell l = record {
  text : string_bytes l.text ++ behind l.before (cell_texts (drop l.cell-index l.cells)) ≡ string_bytes l.fn.text ++ joined (cell_texts l.cells);
  utf8 : IsUtf8 l.before;
}
