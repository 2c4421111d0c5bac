-- The columns of a sheet while a file's groups are read.
use Rattle.std.specs.Prelude.{ℕ, fold, List, Option, Some, None, Result, Ok, Err, ⊤}
use Rattle.lake_types.specs.declared.sheet.SheetColumn.{SheetColumn}
use Rattle.pq_meta.specs.declared.meta.MetaColumn.{MetaColumn}
use Rattle.pq_meta.specs.declared.meta.MetaGroup.{MetaGroup}
use Rattle.pq_file.specs.declared.fault.FileFault.{FileFault}
use Rattle.pq_file.specs.declared.fault.FileFault.TheVariants as fault
use Rattle.pq_file.specs.declared.parts.Misfit.{Misfit}
use Rattle.answers.specs.Answers.{◌>>=◌}
use Rattle.pq_file.specs.Reading.{groups_fit, groups_in, with_group}

-- what the first misfit says of the cells before and with it
abbrev pub verdict : Option Misfit → Result ⊤ FileFault
verdict None = Ok tt
verdict (Some misfit) = Err (fault.BadCell misfit.column misfit.row)

-- The columns that are had in the end, where these are had of the groups before the one number `group`, and `found` is
-- what the ranges of their cells say.
abbrev pub joined : List ℕ → Option (List ℕ) → List MetaColumn → ℕ → ℕ → Result ⊤ FileFault → List SheetColumn → List MetaGroup → Result (List SheetColumn) FileFault
joined bytes fields metas group row found columns groups =
    groups_in bytes fields metas group groups >>= λ read.
    (found >>= λ u. groups_fit row read) >>= λ v.
    Ok (fold with_group columns read)
