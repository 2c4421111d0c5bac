use Rattle.std.proofs.Common.{◌≡◌, ◌++◌, ◌∷◌, flat_map, drop}
use Rattle.std.specs.String.{string_bytes}
use Rattle.std.specs.List.{AllByRecursion}
use Rattle.lake_types.specs.Kinds.{HasId, kind_text, changes_text}
use Rattle.cat_changes.proofs.writing.changes_text.Given as goal

-- the text so far, and that of the kinds to come, each behind a comma; the ids of the kinds so far are numbers of 64 bits
abbrev pub invariant-loop-kind : goal.invariant-loop-kind
invariant-loop-kind l = record {
  text : string_bytes l.text ++ flat_map (λ k. 44 ∷ kind_text k) (drop l.kind-index l.others) ≡ changes_text l.kinds;
  ids : AllByRecursion HasId (drop l.kind-index l.others) → AllByRecursion HasId l.kinds;
}
