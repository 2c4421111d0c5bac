use Rattle.std.proofs.Common.{◌≡◌, map, take}
use Rattle.cat_texts.specs.Types.{types}
use Rattle.inlined_rules.specs.TermIndex.{typed_terms}
use Rattle.inlined_rules.proofs.term_index.index_of_terms.Given as goal

abbrev pub invariant-loop-column_type : goal.invariant-loop-column_type
invariant-loop-column_type l = l.index ≡ map (typed_terms l.terms) (take l.column_type-index types)
