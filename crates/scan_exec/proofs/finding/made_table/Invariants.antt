use Rattle.std.proofs.Common.{◌≡◌, ◌≤◌, drop}
use Rattle.scan_exec.specs.Finding.{made_table}
use Rattle.scan_exec.proofs.finding.made_table.Given as goal

-- the changes that are left decide
abbrev pub invariant-loop-at : goal.invariant-loop-at
invariant-loop-at l = record {
  small : l.place ≤ l.at;
  left : made_table 0 l.own l.schema l.name ≡ made_table l.place (drop l.at l.own) l.schema l.name;
}
