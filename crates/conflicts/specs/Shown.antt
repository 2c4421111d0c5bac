-- A conflict that two lists lend.
use Rattle.conflicts.specs.declared.clash.ClashRef.{ClashRef}
use Rattle.lake_types.specs.declared.kind.Clash.{Clash}

-- the conflict that it shows
abbrev pub shown : ClashRef → Clash
shown c = record { snapshot = c.snapshot; mine = c.mine.now; theirs = c.theirs.now }
