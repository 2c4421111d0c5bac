use Rattle.std.proofs.Common.{◌≡◌, ◌++◌, drop}
use Rattle.scan_exec.specs.Chosen.{fields_named}
use Rattle.scan_exec.specs.Picking.{names_fault}
use Rattle.scan_exec.proofs.choice.fields_named.Given as goal

-- the fields so far, and those of the names that are left; the first fault of these decides
abbrev pub invariant-loop-name : goal.invariant-loop-name
invariant-loop-name l = record {
  fields : l.fields.items ++ fields_named l.columns (drop l.name-index l.names) ≡ fields_named l.columns l.names;
  fault : names_fault l.columns l.names ≡ names_fault l.columns (drop l.name-index l.names);
}
