-- The names of staged files, one by one.
use Rattle.std.proofs.Common.{◌≡◌, ◌≢◌, ℕ, true, false, List, [], ◌∷◌, Option, Some, None, refl, subst}
use Rattle.std.specs.Prelude.{◌↔◌, IsTrue}
use Rattle.std.specs.List.{AllByRecursion}
use Rattle.lake_model.specs.History.{CarriedFile}
use Rattle.cat_tables.specs.Table.{LacksKey, has_key, row_of}
use Rattle.cat_tables.proofs.RowLemmas.{LacksKey-none, key-row_of}
use Rattle.cat_tables.proofs.SightLemmas.{same_key}
use Rattle.cat_rules.proofs.DatedLemmas.{row_of_all}
use Rattle.cat_rows.specs.Keys.{scheduled_file_key}
use Rattle.cat_rows.specs.Tables.{Tables}
use Rattle.cat_rows.specs.declared.files.ScheduledFileRow.{ScheduledFileRow}
use Rattle.rebase.specs.Parts.{FreshFile}
use Rattle.cat_core.specs.Commits.{AreNew}
use Rattle.cat_core.specs.Names.{IsNew, names_of}

-- ---- scheduled files

lacks : (path : List ℕ) (rows : List ScheduledFileRow) → LacksKey scheduled_file_key path rows → AllByRecursion (λ (r : ScheduledFileRow). r.path ≢ path) rows
lacks path [] h = tt
lacks path (r ∷ rows) h = (apart, lacks path rows h.1)
  where
    apart : r.path ≢ path
    apart e = let has : has_key scheduled_file_key path r ≡ true = subst (λ p. has_key scheduled_file_key p r ≡ true) e (same_key scheduled_file_key r) in cc (has, h.0)

pub unscheduled_none : (path : List ℕ) (rows : List ScheduledFileRow) → row_of scheduled_file_key path rows ≡ None → IsTrue true ↔ AllByRecursion (λ (r : ScheduledFileRow). r.path ≢ path) rows
unscheduled_none path rows is = ((λ h. lacks path rows (LacksKey-none scheduled_file_key path rows is)), (λ h. refl))

pub scheduled_some : (path : List ℕ) (rows : List ScheduledFileRow) (r : ScheduledFileRow) → row_of scheduled_file_key path rows ≡ Some r → IsTrue false ↔ AllByRecursion (λ (q : ScheduledFileRow). q.path ≢ path) rows
scheduled_some path rows r is = (
  (λ (h : false ≡ true). absurd (cc h)),
  (λ all. absurd (row_of_all scheduled_file_key path (λ (q : ScheduledFileRow). q.path ≢ path) rows all r is (key-row_of scheduled_file_key path rows r is))),
)

-- ---- file by file

module _ (t : Tables) (held : List ℕ → Option CarriedFile) where
  abbrev pub IsNewBefore : FreshFile → List FreshFile → Type 0
  IsNewBefore x xs = IsNew t held x.file.name (names_of xs)

  pub first_new : (x : FreshFile) (xs : List FreshFile) → AreNew t held (x ∷ xs) ↔ (IsNewBefore x xs × AreNew t held xs)
  first_new x xs = (
    (λ h. (record { unheld = h.unheld.0; unscheduled = h.unscheduled.0; differs = h.differ.0 }, record { differ = h.differ.1; unheld = h.unheld.1; unscheduled = h.unscheduled.1 })),
    (λ h. record { differ = (h.0.differs, h.1.differ); unheld = (h.0.unheld, h.1.unheld); unscheduled = (h.0.unscheduled, h.1.unscheduled) }),
  )

abbrev pub Lacks : List ℕ → List FreshFile → Type 0
Lacks path files = AllByRecursion (λ (n : List ℕ). path ≢ n) (names_of files)

abbrev pub HasOther : List ℕ → FreshFile → List FreshFile → Type 0
HasOther path x xs = path ≢ x.file.name

pub first_other : (path : List ℕ) (x : FreshFile) (xs : List FreshFile) → Lacks path (x ∷ xs) ↔ (HasOther path x xs × Lacks path xs)
first_other path x xs = ((λ h. h), (λ h. h))
