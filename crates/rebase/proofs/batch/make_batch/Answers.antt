use Rattle.std.proofs.Common.{rules, ◌≡◌, ◌+◌, ◌∷◌, [], None, length, refl, sym, ap, ap₂, ◌∙◌}
use Rattle.std.proofs.lemmas.List.{length-map}
use Rattle.lake_model.specs.Creations.{creations}
use Rattle.cat_rows.specs.Batches.{tables_of}
use Rattle.cat_rows.specs.declared.batch.CatRow.TheVariants as row
use Rattle.cat_view.specs.StagedNames.{named_staged}
use Rattle.rebase.specs.Batch.{all_ended, changes_row, next_snapshot, with_created, with_staged}
use Rattle.rebase.specs.Files.{files_in}
use Rattle.rebase.specs.Made.{creation_of, creations_of}
use Rattle.rebase.specs.Parts.{fresh_files, old_stats_of}
use Rattle.rebase.specs.Spent.{first_spent}
use Rattle.rebase.specs.Stats.{stats_keys}
use Rattle.rebase.specs.declared.made.Place.{Place}
use Rattle.rebase.proofs.BatchLemmas.{batch-is}
use Rattle.rebase.proofs.SpentLemmas.{room_left, rows_fit}
use Rattle.rebase.proofs.batch.make_batch.Goals as goal

pub next_snapshot-snapshot-requires : goal.next_snapshot-snapshot-requires
next_snapshot-snapshot-requires g c =
    let t = tables_of c.args.rows.now in
    let head = c.newest_row-newest.result.now in
    let made = c.in_ok-made.made.items in
    let files = files_in g.F.Held.name g.F.Held.size c.as_slice-tables.result.now in
    let none : first_spent t head (creations_of made) files ≡ None = search rules in
    let created : c.len.result ≡ length made = search rules in
    let count : c.count_files.result ≡ length files = search rules in
    room_left t head made files c.len.result c.count_files.result none created count

pub add_staged-requires-clause-fit : goal.add_staged-requires-clause-fit
add_staged-requires-clause-fit g c =
    let t = tables_of c.args.rows.now in
    let head = c.newest_row-newest.result.now in
    let made = c.in_ok-made.made.items in
    let files = files_in g.F.Held.name g.F.Held.size c.as_slice-tables.result.now in
    let none : first_spent t head (creations_of made) files ≡ None = search rules in
    rows_fit t head (creations_of made) files none (search rules)

pub returns-clause-batch : goal.returns-clause-batch
returns-clause-batch g c newest is =
    let t = tables_of c.args.rows.now in
    let own = c.args.txn.now.own in
    let head = c.newest_row-newest.result.now in
    let names = c.args.head.now.schemas in
    let staged = named_staged g.F.Held.name g.F.Held.size c.args.staged.now in
    let place : Place = record { begin = head.snapshot_id + 1; next = head.next_catalog_id; made = c.as_slice-2.result } in
    let made : creations_of c.as_slice-2.result.now ≡ creations 0 0 own = search rules in
    let removes : c.from_vec.result ≡ stats_keys (old_stats_of t (fresh_files staged)) = search rules in
    let ends : c.from_vec-2.result ≡ all_ended t own (head.snapshot_id + 1) = search rules in
    let long : c.len.result ≡ length c.as_slice-2.result.now = search rules in
    let created : c.len.result ≡ length (creations 0 0 own) = long ∙ sym (length-map c.as_slice-2.result.now creation_of) ∙ ap length made in
    let count : c.count_files.result ≡ length (fresh_files staged) = search rules in
    let one : c.next_snapshot-snapshot.result ≡ next_snapshot head c.args.time c.len.result c.count_files.result = search rules in
    let snapshot : c.next_snapshot-snapshot.result ≡ next_snapshot head c.args.time (length (creations 0 0 own)) (length (fresh_files staged)) = one ∙ ap₂ (next_snapshot head c.args.time) created count in
    let changes : c.in_ok-changes.changes ≡ changes_row (head.snapshot_id + 1) names own = search rules in
    let two : c.push-2.new.self.items ≡ row.Snapshot c.next_snapshot-snapshot.result ∷ row.SnapshotChanges c.in_ok-changes.changes ∷ [] = search rules in
    let more : c.add_created.new.adds.items ≡ with_created place own c.push-2.new.self.items = search rules in
    let all : c.from_vec-3.result ≡ with_staged t place head.next_file_id own staged c.add_created.new.adds.items = search rules in
    batch-is t head newest c.args.time names own staged place c.from_vec.result c.from_vec-2.result c.from_vec-3.result c.newest_row-newest.ensures is refl refl made removes ends
    (all ∙ ap (with_staged t place head.next_file_id own staged) (more ∙ ap (with_created place own) (two ∙ ap₂ (λ s k. row.Snapshot s ∷ row.SnapshotChanges k ∷ []) snapshot changes)))
