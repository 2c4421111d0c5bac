use Rattle.std.proofs.Common.{◌≡◌}
use Rattle.pq_file.proofs.SheetLemmas.{few_stated}
use Rattle.pq_file.proofs.reading.sheet_in.Goals as goal

pub joined-requires-clause-few : goal.joined-requires-clause-few
joined-requires-clause-few c =
    let same : c.as_slice.result.now ≡ c.args.meta.now.groups = cc in
    rw same (few_stated c.args.meta.now.groups c.args.meta.now.num_rows c.requires.rows c.in-Ok.ensures.few)
