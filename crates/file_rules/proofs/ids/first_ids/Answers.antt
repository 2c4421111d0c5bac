use Rattle.std.proofs.Common.{◌≡◌, ◌+◌, ◌∷◌, List, ℕ, true, false, cond, Some, drop, is_some, sym, ap, ◌∙◌}
use Rattle.std.specs.Borrow.{Bor}
use Rattle.std.specs.Option.{option_or}
use Rattle.std.proofs.lemmas.List.{at_drop_more}
use Rattle.cat_tables.specs.Table.{has_key}
use Rattle.file_rules.specs.Ids.{first_id, id_at}
use Rattle.file_rules.proofs.PathLemmas.{left_out, put_in}
use Rattle.file_rules.proofs.ids.first_ids.Goals as goal
use Rattle.file_rules.proofs.ids.first_ids.Goals.{then-not-contains_key+in_ok-insert, else-not-contains_key}

pub loop-row-preserved : goal.loop-row-preserved
loop-row-preserved g c =
    let path = g.R.Filed.path in
    let id = g.R.Filed.id in
    let rows = c.args.rows.now in
    let row = c.row-item.result in
    let i = c.loop-row.row-index in
    let old = id_at c.loop-row.ids in
    let parts : drop i rows ≡ row ∷ drop (i + 1) rows = at_drop_more (λ xs. xs) rows i row c.loop-row-test.true ∙ ap (λ x. x ∷ drop (i + 1) rows) (sym c.row-item.is) in
    let so_far : (p : List ℕ) → option_or (old p) (first_id path id (row ∷ drop (i + 1) rows) p) ≡ first_id path id rows p =
    λ p. ap (λ xs. option_or (old p) (first_id path id xs p)) (sym parts) ∙ c.loop-row.invariant (record { ref_ptr = (0, 0); now = p }) in
    let asked : c.contains_key.result ≡ is_some (old (path row)) = c.contains_key.ensures ∙ ap (λ q. is_some (old q)) c.path.ensures in
    elim c.if-not-contains_key.branch [
      | then-not-contains_key+in_ok-insert w ↦
          (let new = id_at w.insert.new.self in
          let lacks : is_some (old (path row)) ≡ false = sym asked ∙ w.if-not-contains_key.true in
          let put : (p : Bor (List ℕ)) → new p.now ≡ cond (has_key path p.now row) (Some (id row)) (old p.now) =
          λ p. w.in_ok-insert.ensures.updates.0 p ∙ ap (λ k. cond (has_key (λ (q : List ℕ). q) p.now k) (Some w.id.result) (old p.now)) w.path-then-not-contains_key.ensures
          ∙ ap (λ n. cond (has_key path p.now row) (Some n) (old p.now)) w.id.ensures in
          λ p. ap (λ ids. option_or (id_at ids p.now) (first_id path id (drop (i + 1) rows) p.now)) w.ids-is ∙ put_in path id old new row (drop (i + 1) rows) p.now lacks (put p) ∙ so_far p.now)
      | else-not-contains_key w ↦
          (let has : is_some (old (path row)) ≡ true = sym asked ∙ w.if-not-contains_key.false in
          λ p. ap (λ ids. option_or (id_at ids p.now) (first_id path id (drop (i + 1) rows) p.now)) w.ids-is ∙ left_out path id old row (drop (i + 1) rows) p.now has ∙ so_far p.now)
    ]
