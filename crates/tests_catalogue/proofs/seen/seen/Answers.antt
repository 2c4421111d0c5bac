use Rattle.std.proofs.Common.{rules, sym}
use Rattle.cat_rows.specs.Batches.{tables_of}
use Rattle.cat_view.specs.Held.{held_in}
use Rattle.tests_catalogue.proofs.seen.seen.Goals as goal

pub version_at-requires : goal.version_at-requires
version_at-requires c =
    c.sane_rows_can_be_seen.ensures (tables_of c.args.rows.now) c.args.snapshot (held_in c.args.held.now).rows
    (c.in_ok-breaks_no_rule.ensures (search rules)) (search rules)
    (rw (sym c.data_file.ensures.rows) (c.holds_data.ensures (search rules)))
    (rw (sym c.delete_file.ensures.rows) (c.holds_deletes.ensures (search rules)))
