use Rattle.std.proofs.Common.{◌≡◌, ◌∙◌, ◌==◌, true, map, sym, ap, subst, ℕ, List}
use Rattle.std.specs.List.{AllByRecursion, list_any}
use Rattle.cat_tables.specs.Table.{RisesByKey}
use Rattle.cat_rows.specs.Batches.{tables_of}
use Rattle.cat_view.specs.Building.{AreTableViews, IsReady, heads_in, schemas_in}
use Rattle.cat_view.specs.Groups.{id_key}
use Rattle.cat_view.specs.Held.{held_in}
use Rattle.cat_view.specs.declared.live.TableHead.{TableHead}
use Rattle.cat_view.proofs.FileLemmas.{each_known}
use Rattle.cat_view.proofs.ViewLemmas.{all_copies, all_counters, all_stats, heads_ready, heads_rise, schemas_seen, tables_are}
use Rattle.cat_view.proofs.versions.version_at.Goals as goal

pub table_places-requires : goal.table_places-requires
table_places-requires g c =
    subst (RisesByKey id_key) (sym (c.in_ok-ids.ensures ∙ ap (map (λ (h : TableHead). h.id)) (c.as_slice.ensures.value ∙ c.in_ok-heads.ensures)))
    (heads_rise c.args.snapshot c.table.result.now c.table.ensures.rises)

pub tables_at-requires-clause-known : goal.tables_at-requires-clause-known
tables_at-requires-clause-known g c =
    let heads = c.in_ok-heads.heads.items in
    let ids = c.in_ok-places.ensures.ids ∙ c.in_ok-ids.ensures ∙ ap (map (λ (h : TableHead). h.id)) c.as_slice.ensures.value in
    subst (AllByRecursion (λ (h : TableHead). list_any (λ id. id == h.id) c.in_ok-places.places.ids.items ≡ true)) (sym c.as_slice-2.ensures.value)
    (subst (λ (is : List ℕ). AllByRecursion (λ (h : TableHead). list_any (λ id. id == h.id) is ≡ true) heads) (sym ids) (each_known (λ (h : TableHead). h.id) heads))

pub tables_at-requires-clause-ready : goal.tables_at-requires-clause-ready
tables_at-requires-clause-ready g c =
    let t = tables_of c.args.rows.now in
    subst (λ (s : ℕ). AllByRecursion (λ (h : TableHead). IsReady s t h.id) c.as_slice-2.result.now) (sym c.in_ok-files.ensures.snapshot)
    (subst (AllByRecursion (λ (h : TableHead). IsReady c.args.snapshot t h.id)) (sym (c.as_slice-2.ensures.value ∙ c.in_ok-heads.ensures ∙ ap (heads_in c.args.snapshot) c.table.ensures.rows))
    (heads_ready c.args.snapshot t t.table c.requires.tables))

pub returns-clause-version : goal.returns-clause-version
returns-clause-version g c =
    let h = g.F.Held in
    let held = (held_in c.args.held.now).rows in
    let t = tables_of c.args.rows.now in
    let s = c.args.snapshot in
    let tables = c.in_ok-tables.tables.items in
    let heads = c.as_slice-2.ensures.value ∙ c.in_ok-heads.ensures ∙ ap (heads_in s) c.table.ensures.rows in
    record {
      schemas = c.in_ok-schemas.ensures ∙ ap (schemas_in s) c.schema.ensures.rows ∙ schemas_seen s t.schema;
      tables =
          tables_are h.name held s t h.size h.part h.bytes t.table tables
          (subst (λ (ds : List TableHead). AreTableViews h.name held s t h.size h.part h.bytes ds tables) heads
          (subst (λ (n : ℕ). AreTableViews h.name held n t h.size h.part h.bytes c.as_slice-2.result.now tables) c.in_ok-files.ensures.snapshot c.in_ok-tables.ensures));
    }

pub returns-clause-counters : goal.returns-clause-counters
returns-clause-counters g c =
    let h = g.F.Held in
    all_counters h.name (held_in c.args.held.now).rows c.in_ok-files.files.snapshot (tables_of c.args.rows.now) h.size h.part h.bytes c.as_slice-2.result.now c.in_ok-tables.tables.items c.in_ok-tables.ensures

pub returns-clause-stats : goal.returns-clause-stats
returns-clause-stats g c =
    let h = g.F.Held in
    all_stats h.name (held_in c.args.held.now).rows c.in_ok-files.files.snapshot (tables_of c.args.rows.now) h.size h.part h.bytes c.as_slice-2.result.now c.in_ok-tables.tables.items c.in_ok-tables.ensures

pub returns-clause-files : goal.returns-clause-files
returns-clause-files g c =
    let h = g.F.Held in
    all_copies h.name (held_in c.args.held.now).rows c.in_ok-files.files.snapshot (tables_of c.args.rows.now) h.size h.part h.bytes c.as_slice-2.result.now c.in_ok-tables.tables.items c.in_ok-tables.ensures
