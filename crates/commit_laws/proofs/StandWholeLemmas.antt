-- The rows after a commit stand for the lake with one version more.
use Rattle.std.proofs.Common.{refl}
use Rattle.lake_model.specs.Core.{next_version}
use Rattle.commit_laws.specs.StandLaws.{CommitsStand}
use Rattle.commit_laws.proofs.StandCaseLemmas.{Case, p}
use Rattle.commit_laws.proofs.CoreLemmas.{snapshots, versions-go_on}
use Rattle.commit_laws.proofs.CountedLemmas.{counts-go_on}
use Rattle.commit_laws.proofs.StandCounterLemmas.{counters-go_on}
use Rattle.commit_laws.proofs.NewFileLemmas.{files-go_on}

pub commits-stand : CommitsStand
commits-stand t files more first versions sound time own staged is rules =
    let x : Case = record { t = t; files = files; more = more; first = first; versions = versions; sound = sound; time = time; own = own; staged = staged; is = is } in
    let core = versions-go_on t files more first versions sound time own staged is in
    let right = files-go_on t files more first versions sound time own staged is in
    record {
      rules = rules;
      newest = (p x).snapshot;
      before = t.snapshot;
      snapshots = snapshots x;
      older = versions;
      head = next_version sound.head own;
      versions_are = refl;
      numbers = core.numbers;
      texts = core.texts;
      plain = core.plain;
      counters = counters-go_on t files more first versions sound time own staged is;
      counted = counts-go_on t files more first versions sound time own staged is;
      ids = core.ids;
      kinds = core.kinds;
      data_files = right.data_files;
      delete_files = right.delete_files;
      inlined = right.inlined;
    }
