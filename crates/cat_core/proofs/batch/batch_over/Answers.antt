use Rattle.std.proofs.Common.{◌≡◌, ◌+◌, true, map, rules, refl, sym, ap, ap₂, ◌∙◌, subst, subst₂, w64}
use Rattle.std.specs.Prelude.{IfSome, Err}
use Rattle.std.proofs.lemmas.Int.{to_z-of_z}
use Rattle.std.specs.Arc.{arc_value}
use Rattle.std.specs.List.{AllByRecursion}
use Rattle.cat_view.specs.declared.version.Version.{Version}
use Rattle.cat_rows.specs.Batches.{tables_of}
use Rattle.cat_rows.specs.declared.history.SnapshotRow.{SnapshotRow}
use Rattle.cat_rules.specs.Kept.{newest}
use Rattle.cat_view.specs.StagedNames.{named_staged, named_staged_table}
use Rattle.lake_model.specs.Creations.{creations}
use Rattle.rebase.specs.Batch.{CanBeMade, IsSpentBy, batch_at}
use Rattle.rebase.specs.Parts.{fresh_files}
use Rattle.rebase.specs.Spent.{first_spent}
use Rattle.cat_core.proofs.PlaceLemmas.{has_number}
use Rattle.cat_core.specs.Commits.{AreNew, CreatesBytes}
use Rattle.cat_core.specs.Shown.{held_at, opened_by}
use Rattle.cat_core.proofs.batch.batch_over.Goals as goal

-- the counter is the first of the newest snapshot
pub returns-in-Err-Spent-clause-refused : goal.returns-in-Err-Spent-clause-refused
returns-in-Err-Spent-clause-refused g c =
    let h = has_number (newest (tables_of c.args.rows.now).snapshot) c.args.head.now.base c.requires.newest in
    record {
      newest_row = h.row;
      newest_is = h.is;
      spent = subst (λ why. IsSpentBy (Err why) (first_spent (tables_of c.args.rows.now) h.row (creations 0 0 c.args.txn.now.own) (fresh_files (named_staged g.F.Held.name g.F.Held.size c.args.staged.now))))
          c.in-Err-Spent.field-0-is (c.in-Err-Spent.ensures.spent h.row h.is);
    }

-- the batch is made at the newest snapshot
pub returns-clause-next : goal.returns-clause-next
returns-clause-next g c =
    let h = has_number (newest (tables_of c.args.rows.now).snapshot) c.args.head.now.base c.requires.newest in
    let names : AreNew (tables_of c.args.rows.now) (held_at g.F.Held.name g.F.Held.size g.F.Held.bytes c.args.held.now) (fresh_files (named_staged g.F.Held.name g.F.Held.size c.args.staged.now)) =
    subst (λ ts. AreNew (tables_of c.args.rows.now) (held_at g.F.Held.name g.F.Held.size g.F.Held.bytes c.args.held.now) (fresh_files (map (named_staged_table g.F.Held.name g.F.Held.size) ts)))
    c.as_slice-tables.ensures.value (c.if-not-are_new.ensures.0 refl) in
    let made = c.in-Ok.ensures.batch h.row h.is in
    let batch : c.in-Ok.batch ≡ batch_at (tables_of c.args.rows.now) h.row c.args.time (arc_value c.args.head.now.version).schemas c.args.txn.now.own (named_staged g.F.Held.name g.F.Held.size c.args.staged.now) =
    made ∙ ap₂ (λ time (v : Version g.row.F.Denot). batch_at (tables_of c.args.rows.now) h.row time v.schemas c.args.txn.now.own (named_staged g.F.Held.name g.F.Held.size c.args.staged.now)) (to_z-of_z w64 c.args.time c.ranges.time) c.deref.ensures in
    record {
      newest_row = h.row;
      newest_is = h.is;
      head = opened_by g.F.Held.name g.F.Held.size g.F.Held.bytes true c.args.head.now;
      base = sym h.number;
      made = c.requires.made;
      batch_is = batch;
      unspent = c.in-Ok.ensures.spent h.row h.is;
      names = names;
      bytes = subst (AllByRecursion CreatesBytes) c.as_slice.ensures c.if-not-can_be_made.ensures.bytes;
    }

pub returns-clause-snapshot : goal.returns-clause-snapshot
returns-clause-snapshot g c =
    let h = has_number (newest (tables_of c.args.rows.now).snapshot) c.args.head.now.base c.requires.newest in
    let next : c.in-Some.snapshot ≡ c.args.head.now.base + 1 = search rules in
    subst (λ o. IfSome o (λ (r : SnapshotRow). c.in-Some.snapshot ≡ r.snapshot_id + 1)) (sym h.is) (next ∙ ap (λ n. n + 1) (sym h.number))

-- the test has passed
pub make_batch-requires-clause-can : goal.make_batch-requires-clause-can
make_batch-requires-clause-can g c =
    subst₂ (λ own ts. CanBeMade (tables_of c.args.rows.now) own (fresh_files (map (named_staged_table g.F.Held.name g.F.Held.size) ts)))
    c.as_slice.ensures c.as_slice-tables.ensures.value (c.if-not-can_be_made.ensures.made refl)
