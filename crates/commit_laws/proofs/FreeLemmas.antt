-- What is known when a commit begins is what its end asks.
use Rattle.std.proofs.Common.{refl}
use Rattle.commit_laws.proofs.PartLemmas.{parts-are}
use Rattle.commit_laws.proofs.WholeLemmas.{rules-hold}
use Rattle.commit_laws.specs.Free.{FreeCommitsStand}
use Rattle.commit_laws.proofs.StandWholeLemmas.{commits-stand}

pub free_commits-stand : FreeCommitsStand
free_commits-stand t files first versions told more base state own staged time c none extends =
    commits-stand t files more first versions c.sound time own staged
    (record {
      told = told;
      base = state;
      free = c.free;
      bytes = c.bytes;
      version = base;
      at_staging = more;
      are_staged = record { grows = c.free.grows; is_staged = c.stage; none_inlined = none };
      extends = extends;
      still = λ name there. refl;
      parts = parts-are t files first versions told more base state own staged time c;
    })
    (rules-hold t files first versions told more base state own staged time c)
