-- The tables that need a file.
use Rattle.std.proofs.Common.{◌≡◌, ℕ, suc, ◌+◌, ◌<◌, ◌++◌, List, ◌∷◌, append_assoc, length, get_or, drop, drop-cons, map, Option, sym, ap, ◌∙◌, arith}
use Rattle.std.specs.Arc.{arc_value}
use Rattle.std.specs.declared.sync.Arc.{Arc}
use Rattle.std.proofs.lemmas.List.{drop-map}
use Rattle.lake_model.specs.declared.change.Change.{Change}
use Rattle.lake_model.specs.declared.change.Ref.{Ref}
use Rattle.lake_model.specs.declared.change.Ref.TheVariants as ref
use Rattle.cat_view.specs.Named.{NamedTable}
use Rattle.cat_view.specs.Views.{named_table, named_tables}
use Rattle.cat_view.specs.declared.live.TableView.{TableView}
use Rattle.row_files.specs.Own.{job_if, needs_file, old_jobs}
use Rattle.row_files.specs.declared.jobs.Job.{Job}
use Rattle.row_files.specs.declared.own.OwnTable.{OwnTable}

pub old_more : {F A : Type 0} (name : F → List ℕ) (tables : List (Arc (TableView F) A)) (own : List Change) (kept : Ref → Option OwnTable) (place : ℕ) (t : Arc (TableView F) A) (before now all : List Job)
    → place < length tables → t ≡ get_or tables place t
    → now ≡ before ++ job_if (needs_file own (kept (ref.Old (arc_value t).head.id))) (ref.Old (arc_value t).head.id) place
    → before ++ old_jobs own kept place (drop place (named_tables name tables)) ≡ all
    → now ++ old_jobs own kept (place + 1) (drop (place + 1) (named_tables name tables)) ≡ all
old_more {F} {A} name tables own kept place t before now all lt is pushed so =
    let f : Arc (TableView F) A → NamedTable = λ x. named_table name (arc_value x) in
    let e : place + 1 ≡ suc place = omega arith in
    let left : drop place (map f tables) ≡ f t ∷ drop (place + 1) (map f tables) =
    drop-map f place tables ∙ ap (map f) (drop-cons tables place t lt ∙ ap (λ x. x ∷ drop (suc place) tables) (sym is))
    ∙ ap (λ xs. f t ∷ xs) (sym (drop-map f (suc place) tables) ∙ ap (λ n. drop n (map f tables)) (sym e)) in
    let job : List Job = job_if (needs_file own (kept (ref.Old (arc_value t).head.id))) (ref.Old (arc_value t).head.id) place in
    ap (λ js. js ++ old_jobs own kept (place + 1) (drop (place + 1) (map f tables))) pushed
    ∙ append_assoc before job (old_jobs own kept (place + 1) (drop (place + 1) (map f tables)))
    ∙ ap (λ xs. before ++ old_jobs own kept place xs) (sym left) ∙ so
