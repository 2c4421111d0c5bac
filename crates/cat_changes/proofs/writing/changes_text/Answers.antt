use Rattle.std.proofs.Common.{◌≡◌, ◌++◌, ◌∷◌, List, ℕ, ap, ◌∙◌, flat_map, rules}
use Rattle.std.specs.String.{string_bytes}
use Rattle.lake_types.specs.Kinds.{kind_text}
use Rattle.cat_changes.proofs.ListLemmas.{one_by_one}
use Rattle.cat_changes.proofs.writing.changes_text.Goals as goal

pub loop-kind-init : goal.loop-kind-init
loop-kind-init c =
    let split : c.args.kinds.now ≡ c.in-Some.first.now ∷ c.in-Some.others.now = search rules in
    let first : string_bytes c.push_kind.new.text ≡ kind_text c.in-Some.first.now = search rules in
    record {
      text = rw split (ap (λ (x : List ℕ). x ++ flat_map (λ k. 44 ∷ kind_text k) c.in-Some.others.now) first ∙ one_by_one c.in-Some.first.now c.in-Some.others.now);
      ids = λ ids. rw split (c.in_ok-push_kind.ensures.id, ids);
    }
