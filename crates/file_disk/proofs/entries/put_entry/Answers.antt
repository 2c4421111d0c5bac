use Rattle.std.proofs.Common.{◌≡◌, ◌∙◌, ℕ, List, sym, ap, ap₂}
use Rattle.std.specs.List.{insert}
use Rattle.file_disk.specs.Memory.{Kept, put}
use Rattle.file_disk.proofs.KeptLemmas.{Sets-put}
use Rattle.file_disk.proofs.OrderLemmas.{count_below, put-insert, Rises-put}
use Rattle.file_disk.proofs.entries.put_entry.Goals as goal

-- the entry went to its place
went : (c : goal.In_ok-insert) → c.insert.new.self.items ≡ put c.args.entry c.args.entries.now.items
went c =
    let all = c.args.entries.now.items in
    let entry = c.args.entry in
    let named : c.as_str.result.now ≡ entry.name = c.as_str.ensures ∙ ap (λ (e : Kept). e.name) c.entry.view_is in
    let place : c.count_below-at.result ≡ count_below entry.name all =
    c.count_below-at.ensures.count ∙ ap₂ (λ (n : List ℕ) (l : List Kept). count_below n l) named c.as_slice.ensures.value in
    c.in_ok-insert.ensures.items ∙ ap (λ (n : ℕ). insert all n entry) place ∙ sym (put-insert entry all)

pub returns-clause-ok : goal.returns-clause-ok
returns-clause-ok c = rw (went c) (Sets-put c.args.entry c.args.entries.now.items c.requires.fresh)

pub returns-clause-order : goal.returns-clause-order
returns-clause-order c = rw (went c) (Rises-put c.args.entry c.args.entries.now.items c.requires.fresh c.requires.order)
