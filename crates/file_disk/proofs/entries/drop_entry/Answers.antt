use Rattle.std.proofs.Common.{◌≡◌, not, rules}
use Rattle.std.proofs.lemmas.Fn.{filter_same}
use Rattle.file_disk.specs.Memory.{is_named, without}
use Rattle.file_disk.proofs.KeptLemmas.{Sets-without}
use Rattle.file_disk.proofs.OrderLemmas.{Rises-without}
use Rattle.file_disk.proofs.entries.drop_entry.Goals as goal

pub returns : goal.returns
returns c =
    let name = c.args.name.now in
    let all = c.args.entries.now.items in
    let kept : c.retain.new.self.items ≡ without name all =
    filter_same _ (λ kept. not (is_named name kept)) _ (λ x b f' k. search rules) _ _ c.retain.ensures.filtered in
    record {
      sets = rw kept (Sets-without name all);
      order = rw kept (Rises-without name all c.requires);
    }
