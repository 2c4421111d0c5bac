use Rattle.std.proofs.Common.{◌∙◌, is_some, sym, ap}
use Rattle.std.specs.List.{position}
use Rattle.file_disk.specs.Memory.{is_named}
use Rattle.file_disk.proofs.KeptLemmas.{kept_at_no_place, there_from_place, none_is}
use Rattle.file_disk.proofs.entries.has_entry.Goals as goal

pub returns-clause-absent : goal.returns-clause-absent
returns-clause-absent c none =
    let place = position (is_named c.args.name.now) c.args.entries.now in
    kept_at_no_place c.args.name.now c.args.entries.now (none_is place (ap is_some (sym c.place_of.ensures) ∙ sym c.is_some.ensures ∙ none))

pub returns-clause-there : goal.returns-clause-there
returns-clause-there c some =
    there_from_place c.args.name.now c.args.entries.now (ap is_some (sym c.place_of.ensures) ∙ sym c.is_some.ensures ∙ some)
