-- The laws.
use Rattle.std.proofs.Common.{◌≡◌, ◌≢◌, ◌⊎◌, ℕ, ℤ, List, [], ◌∷◌, ◌++◌, map, Option, None, Some, IsSome, IsSomeAnd, option_map, inl, inr, refl, sym, ap, subst, ◌∙◌}
use Rattle.std.specs.List.{AllByRecursion}
use Rattle.lake_model.specs.Core.{Version}
use Rattle.lake_model.specs.History.{CarriedFile}
use Rattle.lake_model.proofs.PlanLemmas.{found-has}
use Rattle.file_disk.specs.Folder.{Folder}
use Rattle.cat_tables.specs.Table.{has_key, row_of}
use Rattle.cat_tables.proofs.RowLemmas.{key-row_of}
use Rattle.cat_rows.specs.Tables.{Tables, no_rows}
use Rattle.cat_rows.specs.declared.history.SnapshotRow.{SnapshotRow}
use Rattle.cat_rows.specs.declared.files.DataFileRow.{DataFileRow}
use Rattle.cat_rows.specs.declared.files.DeleteFileRow.{DeleteFileRow}
use Rattle.cat_view.specs.Files.{Files}
use Rattle.cat_view.specs.Held.{name_by}
use Rattle.cat_view.specs.declared.held.HeldFile.{HeldFile}
use Rattle.cat_stands.specs.New.{new_tables}
use Rattle.cat_stands.specs.Stands.{IsNew, IsSound, StandsFor}
use Rattle.cat_stands.proofs.NewLemmas.{new_lake-stands}
use Rattle.row_files.specs.Folders.{filed, files_of}
use Rattle.row_files.specs.Stages.{TellsBytes}
use Rattle.door.specs.Opened.{IsIn, carried_file}
use Rattle.recover.specs.Holding.{IsHeldAs, NamedFile, TellTheirs, named_data, named_delete, named_files}
use Rattle.recover.specs.Laws.{HeldFilesAreThere, NamedPathsAreHeld, OpenedRowsStand, held_at}
use Rattle.recover.specs.Opening.{IsOpened}

-- ---- rows

no_snapshot : (before : List SnapshotRow) (newest : SnapshotRow) → [] ≡ before ++ newest ∷ [] → ⊥
no_snapshot [] newest e = cc
no_snapshot (r ∷ before) newest e = cc

module _ (time : ℤ) (before now : Tables) (files : Files) (first : ℕ) (versions : List Version) where
  of_new : IsNew before first versions → IsOpened time before now → IsSound now files first versions
  of_new is (inr h) = absurd (h.0 is.rows)
  of_new is (inl h) =
      subst (λ (t : Tables). IsSound t files first versions) (sym h.1)
      (subst (λ n. IsSound (new_tables time) files n versions) (sym is.first_is) (subst (λ vs. IsSound (new_tables time) files 0 vs) (sym is.versions_are) (new_lake-stands files time)))

  of_sound : IsSound before files first versions → IsOpened time before now → IsSound now files first versions
  of_sound is (inr h) = subst (λ (t : Tables). IsSound t files first versions) (sym h.1) is
  of_sound is (inl h) = absurd (no_snapshot is.before is.newest (ap (λ (t : Tables). t.snapshot) (sym h.0) ∙ is.snapshots))

  stand : StandsFor before files first versions → IsOpened time before now → IsSound now files first versions
  stand (inl is) h = of_new is h
  stand (inr is) h = of_sound is h

pub opened_rows-stand : OpenedRowsStand
opened_rows-stand time before now files first versions is h = stand time before now files first versions is h

-- ---- files

module _ {F : Type 0} (name : F → List ℕ) (size : F → ℕ) (bytes : F → Option (List ℕ)) where
  some_held : (o : Option (HeldFile F)) (P : HeldFile F → Type 0) → IsSomeAnd o P → IsSome (option_map (λ (h : HeldFile F). carried_file name size bytes h.file) o)
  some_held None P h = absurd h
  some_held (Some x) P h = refl

  paths : {R : Type 0} (named : R → NamedFile) (path : R → List ℕ) → ((r : R) → (named r).name ≡ path r) → (held : List (HeldFile F)) (rs : List R) (more : List NamedFile) (after : List (List ℕ))
      → (AllByRecursion (IsHeldAs name size held) more → AllByRecursion (λ p. IsSome (held_at name size bytes held p)) after)
      → AllByRecursion (IsHeldAs name size held) (map named rs ++ more) → AllByRecursion (λ p. IsSome (held_at name size bytes held p)) (map path rs ++ after)
  paths named path is held [] more after rest h = rest h
  paths named path is held (r ∷ rs) more after rest h =
      (subst (λ p. IsSome (held_at name size bytes held p)) (is r) (some_held (row_of (name_by name) (named r).name held) (λ (q : HeldFile F). size q.file ≡ (named r).size) h.0), paths named path is held rs more after rest h.1)

  all_paths : {R : Type 0} (named : R → NamedFile) (path : R → List ℕ) → ((r : R) → (named r).name ≡ path r) → (held : List (HeldFile F)) (rs : List R)
      → AllByRecursion (IsHeldAs name size held) (map named rs) → AllByRecursion (λ p. IsSome (held_at name size bytes held p)) (map path rs)
  all_paths named path is held [] h = tt
  all_paths named path is held (r ∷ rs) h =
      (subst (λ p. IsSome (held_at name size bytes held p)) (is r) (some_held (row_of (name_by name) (named r).name held) (λ (q : HeldFile F). size q.file ≡ (named r).size) h.0), all_paths named path is held rs h.1)

  pub named_paths-held : NamedPathsAreHeld name size bytes
  named_paths-held t held h =
      paths named_data (λ (r : DataFileRow). r.path) (λ r. refl) held t.data_file (map named_delete t.delete_file) (map (λ (r : DeleteFileRow). r.path) t.delete_file)
      (all_paths named_delete (λ (r : DeleteFileRow). r.path) (λ r. refl) held t.delete_file) h

  lies : (folder : Folder) (path : List ℕ) (file : F) → TellsBytes name size bytes folder file → name file ≡ path
      → ((carried_file name size bytes file).name ≡ path) × IsIn (files_of folder) (carried_file name size bytes file)
  lies folder path file t named =
      (named, record { filed = filed t.content; there = ap (option_map filed) t.there; size_is = t.size_is; told = t.told })

  pub held_files-there : HeldFilesAreThere name size bytes
  held_files-there folder held told path f is = go (row_of (name_by name) path held) refl is
    where
      go : (o : Option (HeldFile F)) → row_of (name_by name) path held ≡ o → option_map (λ (h : HeldFile F). carried_file name size bytes h.file) o ≡ Some f → (f.name ≡ path) × IsIn (files_of folder) f
      go None at e = absurd cc
      go (Some h) at e =
          let same : carried_file name size bytes h.file ≡ f = one e in
          subst (λ (x : CarriedFile). (x.name ≡ path) × IsIn (files_of folder) x) same
          (lies folder path h.file (found-has (λ (x : HeldFile F). TellsBytes name size bytes folder x.file) (has_key (name_by name) path) held h at told) (key-row_of (name_by name) path held h at))
        where
          one : Some (carried_file name size bytes h.file) ≡ Some f → carried_file name size bytes h.file ≡ f
          one e = cc
