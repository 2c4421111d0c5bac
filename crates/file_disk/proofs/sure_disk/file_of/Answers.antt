use Rattle.std.proofs.Common.{◌≡◌, ◌∙◌, ℕ, List, Some, None, option_map, sym, ap}
use Rattle.std.specs.List.{position}
use Rattle.file_disk.specs.Memory.{Kept, is_named}
use Rattle.file_disk.proofs.KeptLemmas.{kept_at_no_place, kept_at_place}
use Rattle.file_disk.proofs.sure_disk.file_of.Goals as goal

pub returns-in_default-clause-bytes : goal.returns-in_default-clause-bytes
returns-in_default-clause-bytes c =
    let name = c.args.name.now in
    let entries = c.args.entries.now in
    let none : position (is_named name) entries ≡ None =
    sym (c.place_of.ensures ∙ ap (λ (n : List ℕ). position (is_named n) entries) c.as_str.ensures) ∙ c.in_default.is in
    sym (ap (option_map (λ (k : Kept). k.bytes)) (kept_at_no_place name entries none))

pub returns-clause-bytes : goal.returns-clause-bytes
returns-clause-bytes c =
    let name = c.args.name.now in
    let entries = c.args.entries.now in
    let place : position (is_named name) entries ≡ Some c.in-Some.at =
    sym (c.place_of.ensures ∙ ap (λ (n : List ℕ). position (is_named n) entries) c.as_str.ensures) ∙ c.in-Some.is in
    ap Some (c.in_ok-share.ensures ∙ ap (λ (k : Kept). k.bytes) c.index-entries-at.is)
    ∙ sym (ap (option_map (λ (k : Kept). k.bytes)) (kept_at_place name entries c.in-Some.at c.index-entries-at.result place))
