use Rattle.row_files.proofs.tables.add_fresh.Goals as goal

pub returns-clause-added : goal.returns-clause-added
returns-clause-added g c = λ name size. record {
  staged = c.only_fresh.result;
  fresh = c.only_fresh.ensures.fresh;
  whole = c.only_fresh.ensures.whole name size;
  behind = c.in_ok-push.ensures.items;
}
