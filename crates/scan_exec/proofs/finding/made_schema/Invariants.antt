use Rattle.std.proofs.Common.{◌≡◌, ◌≤◌, drop}
use Rattle.scan_exec.specs.Finding.{made_schema}
use Rattle.scan_exec.proofs.finding.made_schema.Given as goal

-- the changes that are left decide
abbrev pub invariant-loop-at : goal.invariant-loop-at
invariant-loop-at l = record {
  small : l.place ≤ l.at;
  left : made_schema 0 l.own l.name ≡ made_schema l.place (drop l.at l.own) l.name;
}
