use Rattle.std.proofs.Common.{rules}
use Rattle.cat_rows.specs.Batches.{tables_of}
use Rattle.cat_view.specs.Views.{named_version}
use Rattle.cat_view.specs.Workable.{IsWorkable}
use Rattle.cat_core.proofs.SeenLemmas.{seen_made}
use Rattle.cat_core.proofs.sight.make_seen.Goals as goal

-- the version can be read, and is within limits
pub returns-clause-made : goal.returns-clause-made
returns-clause-made g c =
    let workable : IsWorkable (named_version g.F.Held.name c.in_ok-version.version) = search rules in
    seen_made g.F.Held.name g.F.Held.size g.F.Held.part g.F.Held.bytes (tables_of c.args.rows.now) c.args.held.now
    (record { base = c.args.snapshot; version = c.in_ok-new.field-0 }) c.in_ok-version.version
    c.in_ok-new.ensures.ok c.in_ok-version.ensures.version c.in_ok-version.ensures.counters c.in_ok-version.ensures.files workable
