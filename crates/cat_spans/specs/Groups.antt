-- A group, as the list of its numbers and the bytes of its text.
use Rattle.std.specs.Prelude.{ℕ, List, ◌∷◌}
use Rattle.cat_spans.specs.declared.span.Group.{Group}

abbrev pub group_of : Group → List ℕ
group_of g = g.first ∷ g.second ∷ g.text.now
