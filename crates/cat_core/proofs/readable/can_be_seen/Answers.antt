use Rattle.std.proofs.Common.{rules, false}
use Rattle.std.specs.Prelude.{◌↔◌, IsTrue}
use Rattle.std.specs.List.{AllByRecursion}
use Rattle.cat_rows.specs.Batches.{tables_of}
use Rattle.cat_rows.specs.Seen.{seen_at}
use Rattle.cat_view.specs.Held.{held_in}
use Rattle.cat_core.specs.Readable.{IsColumnRead, IsCounted, IsDataHeld, IsDeleteHeld, IsInlinedRead}
use Rattle.cat_core.proofs.ReadLemmas.{can_be, columns_in, inlined_in}
use Rattle.cat_core.proofs.readable.can_be_seen.Goals as goal

pub returns-then-not-columns : goal.returns-then-not-columns
returns-then-not-columns g c =
    let t = tables_of c.args.rows.now in
    let s = c.args.snapshot in
    let told : IsTrue false ↔ AllByRecursion (IsColumnRead (seen_at s t)) (seen_at s t).column = search rules in
    ((λ h. absurd (cc h)), (λ can. told.1 (columns_in g.F.Held.name (held_in c.args.held.now).rows t s can)))

pub returns : goal.returns
returns g c =
    let t = tables_of c.args.rows.now in
    let s = c.args.snapshot in
    let held = (held_in c.args.held.now).rows in
    let files : AllByRecursion (IsDataHeld g.F.Held.name held) (seen_at s t).data_file = search rules in
    let deletes : AllByRecursion (IsDeleteHeld g.F.Held.name held) (seen_at s t).delete_file = search rules in
    let counted : AllByRecursion (IsCounted t) (seen_at s t).table = search rules in
    let columns : AllByRecursion (IsColumnRead (seen_at s t)) (seen_at s t).column = search rules in
    let told : IsTrue c.in_ok-inlined.inlined ↔ AllByRecursion (IsInlinedRead (seen_at s t)) (seen_at s t).inlined_row = search rules in
    ((λ is. can_be g.F.Held.name held t s files deletes counted columns (told.0 is)), (λ can. told.1 (inlined_in g.F.Held.name held t s can)))
