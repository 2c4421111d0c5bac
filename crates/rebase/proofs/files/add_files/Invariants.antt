use Rattle.std.proofs.Common.{◌≡◌, ◌++◌, length}
use Rattle.cat_rows.specs.Batches.{tables_of}
use Rattle.rebase.specs.Files.{file_adds, files_in}
use Rattle.rebase.proofs.files.add_files.Given as goal

abbrev pub invariant-loop-rest : goal.invariant-loop-rest
invariant-loop-rest g l =
    l.adds.items ++ file_adds (tables_of l.rows) l.place l.id (files_in g.F.Held.name g.F.Held.size l.rest)
    ≡ l.fn.adds.items ++ file_adds (tables_of l.rows) l.place l.first_id (files_in g.F.Held.name g.F.Held.size l.staged)

abbrev pub decreases-loop-rest : goal.decreases-loop-rest
decreases-loop-rest g l = length l.rest
