-- What an entry carries of a commit are its staged files, by name.
use Rattle.std.proofs.Common.{◌≡◌, ℕ, List, [], ◌∷◌, map, refl, ap, Option, Some, None}
use Rattle.std.specs.Prelude.{option_map}
use Rattle.std.specs.List.{cons_option, filter_map}
use Rattle.lake_model.specs.History.{CarriedFile}
use Rattle.lake_model.specs.declared.change.Ref.{Ref}
use Rattle.cat_view.specs.Staged.{NamedStagedFile}
use Rattle.cat_view.specs.StagedNames.{named_staged, named_staged_file, named_staged_table}
use Rattle.cat_view.specs.declared.staged.Staged.{Staged}
use Rattle.cat_view.specs.declared.staged.StagedFile.{StagedFile}
use Rattle.cat_view.specs.declared.staged.StagedTable.{StagedTable}
use Rattle.rebase.specs.Parts.{FreshFile, fresh_file, fresh_files}
use Rattle.door.specs.Opened.{carried_file}
use Rattle.door.specs.Standing.{carried}

module _ {F : Type 0} (name : F → List ℕ) (size : F → ℕ) (bytes : F → Option (List ℕ)) where
  abbrev carried_of : StagedTable F → Option CarriedFile
  carried_of s = option_map (λ (f : StagedFile F). carried_file name size bytes f.file) s.fresh

  abbrev name_of : CarriedFile → List ℕ
  name_of f = f.name

  abbrev fresh_name : FreshFile → List ℕ
  fresh_name x = x.file.name

  one-more : (o : Option (StagedFile F)) (table : Ref) (fs : List CarriedFile) (xs : List FreshFile) → map name_of fs ≡ map fresh_name xs
      → map name_of (cons_option (option_map (λ (f : StagedFile F). carried_file name size bytes f.file) o) fs)
      ≡ map fresh_name (cons_option (option_map (λ (f : NamedStagedFile). record { table = table; file = f }) (option_map (named_staged_file name size) o)) xs)
  one-more None table fs xs same = same
  one-more (Some f) table fs xs same = ap (λ l. name f.file ∷ l) same

  names-of : (ts : List (StagedTable F)) → map name_of (filter_map carried_of ts) ≡ map fresh_name (filter_map fresh_file (map (named_staged_table name size) ts))
  names-of [] = refl
  names-of (t ∷ ts) = one-more t.fresh t.table (filter_map carried_of ts) (filter_map fresh_file (map (named_staged_table name size) ts)) (names-of ts)

  pub carried-named : (staged : Staged F) → map (λ (f : CarriedFile). f.name) (carried name size bytes staged) ≡ map (λ (x : FreshFile). x.file.name) (fresh_files (named_staged name size staged))
  carried-named staged = names-of staged.tables.items
