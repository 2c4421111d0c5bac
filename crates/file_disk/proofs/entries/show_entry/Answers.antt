use Rattle.std.proofs.Common.{◌≡◌, ◌∙◌, Some, None, sym, ap}
use Rattle.std.specs.List.{position}
use Rattle.file_disk.specs.Memory.{is_named, shown}
use Rattle.file_disk.proofs.KeptLemmas.{Sets-edited, Sets-nothing, shown_name}
use Rattle.file_disk.proofs.OrderLemmas.{Rises-edited}
use Rattle.file_disk.proofs.entries.show_entry.Goals as goal

pub returns-in-Some-clause-sets : goal.returns-in-Some-clause-sets
returns-in-Some-clause-sets c =
    let bytes = c.args.bytes.value.items in
    let name = c.args.name.now in
    let place : position (is_named name) c.args.entries.now.items ≡ Some c.in-Some.at =
    sym (c.place_of.ensures ∙ ap (position (is_named name)) c.as_slice.ensures.value) ∙ c.in-Some.is in
    Sets-edited (shown bytes) (shown_name bytes) name c.args.entries.now.items c.in-Some.at c.index_mut.result.now c.show.new.self place (c.show.ensures ∙ ap (shown bytes) c.index_mut.ensures.value)

pub returns-in-Some-clause-order : goal.returns-in-Some-clause-order
returns-in-Some-clause-order c =
    let bytes = c.args.bytes.value.items in
    Rises-edited (shown bytes) (shown_name bytes) c.args.entries.now.items c.in-Some.at c.index_mut.result.now c.show.new.self (c.show.ensures ∙ ap (shown bytes) c.index_mut.ensures.value) c.requires

pub returns-in_default-clause-sets : goal.returns-in_default-clause-sets
returns-in_default-clause-sets c =
    let bytes = c.args.bytes.value.items in
    let name = c.args.name.now in
    let none : position (is_named name) c.args.entries.now.items ≡ None =
    sym (c.place_of.ensures ∙ ap (position (is_named name)) c.as_slice.ensures.value) ∙ c.in_default.is in
    Sets-nothing (shown bytes) (shown_name bytes) name c.args.entries.now.items none
