-- What opening a lake comes to.
use Rattle.std.proofs.Common.{◌≡◌, inl, inr, ℕ, ℤ, List, [], Option, Some, None, IfSome, IsSome, option_map, replicate, refl, sym, ◌∙◌, ap, subst}
use Rattle.std.specs.List.{AllByRecursion}
use Rattle.lake_types.specs.declared.limits.TheConstants.{MAX_SESSIONS}
use Rattle.lake_model.specs.Core.{Version}
use Rattle.lake_model.specs.Replay.{Lake}
use Rattle.file_disk.specs.Folder.{Changes, Folder, Same}
use Rattle.cat_rows.specs.Tables.{Tables, no_rows}
use Rattle.cat_view.specs.Files.{Extends, Files}
use Rattle.cat_view.specs.declared.held.HeldFile.{HeldFile}
use Rattle.cat_stands.proofs.FileLemmas.{more_files-stand}
use Rattle.cat_stands.specs.New.{new_tables}
use Rattle.cat_stands.specs.Stands.{IsSound, StandsFor as RowsStandFor}
use Rattle.row_files.specs.Folders.{filed, files_of}
use Rattle.cat_core.specs.Shown.{Shown}
use Rattle.cat_core.specs.Stands.{AreHeldIn, Stands, begun_with, paths_of}
use Rattle.recover.proofs.LawLemmas.{held_files-there, named_paths-held, opened_rows-stand}
use Rattle.recover.specs.Holding.{FirstIs, HasOtherSize, IsHeldAs, IsMissing, IsThere, NamedFile, TellTheirs, WhyNoFiles, named_files}
use Rattle.recover.specs.Laws.{held_at}
use Rattle.recover.specs.Opening.{IsOpened, MayBegin, WhyNoRows}
use Rattle.recover.specs.declared.no.OpenNo.{OpenNo}
use Rattle.recover.specs.declared.no.OpenNo.TheVariants as open_no
use Rattle.session.proofs.StagingLemmas.{changes_as, changes_none}
use Rattle.lake_top.specs.Opening.{IsLakeOf, WhyNotOpen}
use Rattle.lake_top.specs.Sixteen.{StandsFor}

-- ---- rows and a folder that stays

extends_same : (a b : Folder) → Same a b → Extends (files_of a) (files_of b)
extends_same a b same name there = ap (option_map filed) (same name)

stands_same : (rows : Tables) (a b : Folder) (first : ℕ) (versions : List Version) → Same a b → RowsStandFor rows (files_of a) first versions → RowsStandFor rows (files_of b) first versions
stands_same rows a b first versions same (inl new) = inl new
stands_same rows a b first versions same (inr sound) = inr (more_files-stand rows (files_of a) (files_of b) first versions (extends_same a b same) sound)

some-is : {A : Type 0} {a b : A} → Some a ≡ Some b → a ≡ b
some-is e = cc

-- ---- a refusal leaves the lake

lake_stays : (time : ℤ) (before now : Option Tables) (a b : Folder) → MayBegin time before now → Same a b → (lake : Lake) → IsLakeOf before a lake → IsLakeOf now b lake
lake_stays time before now a b (inl e) same lake is = record {
  rows = is.rows;
  told = e ∙ is.told;
  stands = stands_same is.rows a b lake.core.first lake.core.versions same is.stands;
  opens = is.opens;
  owns = is.owns;
}
lake_stays time before now a b (inr begun) same lake is =
    let none : is.rows ≡ no_rows = some-is (sym is.told ∙ begun.0) in
    record {
      rows = new_tables time;
      told = begun.1;
      stands = inr (opened_rows-stand time is.rows (new_tables time) (files_of b) lake.core.first lake.core.versions (stands_same is.rows a b lake.core.first lake.core.versions same is.stands) (inl (none, refl)));
      opens = is.opens;
      owns = is.owns;
    }

pub kept_still : (time : ℤ) (before now : Option Tables) (files files' : Option Folder) → MayBegin time before now → Changes Same files files'
    → Changes (λ a b. (lake : Lake) → IsLakeOf before a lake → IsLakeOf now b lake) files files'
kept_still time before now files files' may same =
    changes_as Same (λ a b. (lake : Lake) → IsLakeOf before a lake → IsLakeOf now b lake) (λ a b s. lake_stays time before now a b may s) files files' same

-- where the disk wasn't asked
pub kept_unasked : (time : ℤ) (before now : Option Tables) (files : Option Folder) → MayBegin time before now
    → Changes (λ a b. (lake : Lake) → IsLakeOf before a lake → IsLakeOf now b lake) files files
kept_unasked time before now files may = kept_still time before now files files may (changes_none Same (λ a name. refl) files)

-- ---- the core of an opened lake

module _ {F : Type 0} (name : F → List ℕ) (size : F → ℕ) (bytes : F → Option (List ℕ)) (time : ℤ) (content : Option Tables) (t : Tables) (held : List (HeldFile F)) (core : Shown) where
  abbrev NewStands : Type 0
  NewStands = (files : Files) (first : ℕ) (versions : List Version) (sound : IsSound t files first versions) → AreHeldIn files (held_at name size bytes held)
      → AllByRecursion (λ path. IsSome (held_at name size bytes held path)) (paths_of t) → Stands core files (begun_with first versions sound.newest.next_file_id)

  stands_opened : (a b : Folder) → Same a b → IfSome content (λ told. IsOpened time told t) → AllByRecursion (IsHeldAs name size held) (named_files t) → TellTheirs name size bytes (Some b) held → NewStands
      → (lake : Lake) → IsLakeOf content a lake → StandsFor (Stands core (files_of b)) (replicate MAX_SESSIONS []) lake
  stands_opened a b same opened named told new lake is =
      let opened-is : IsOpened time is.rows t = subst (λ o. IfSome o (λ told. IsOpened time told t)) is.told opened in
      let sound : IsSound t (files_of b) lake.core.first lake.core.versions = opened_rows-stand time is.rows t (files_of b) lake.core.first lake.core.versions (stands_same is.rows a b lake.core.first lake.core.versions same is.stands) opened-is in
      record {
        ground = begun_with lake.core.first lake.core.versions sound.newest.next_file_id;
        core_is = ap (λ o. record lake.core { opens = o }) (sym is.opens);
        owns_are = sym is.owns;
        stood = new (files_of b) lake.core.first lake.core.versions sound (held_files-there name size bytes b held told) (named_paths-held name size bytes t held named);
      }

  pub core_stands : (files files' : Option Folder) → Changes Same files files' → IfSome content (λ told. IsOpened time told t) → AllByRecursion (IsHeldAs name size held) (named_files t) → TellTheirs name size bytes files' held → NewStands
      → Changes (λ a b. (lake : Lake) → IsLakeOf content a lake → StandsFor (Stands core (files_of b)) (replicate MAX_SESSIONS []) lake) files files'
  core_stands (Some a) (Some b) same opened named told new = stands_opened a b same opened named told new
  core_stands None None same opened named told new = tt
  core_stands (Some a) None same opened named told new = same
  core_stands None (Some b) same opened named told new = same

-- ---- why a lake wasn't opened

pub why_rows : (k k' d d' : ℕ) (content : Option Tables) (files : Option Folder) (why : OpenNo) → WhyNoRows k k' content why → WhyNotOpen k k' d d' content files why
why_rows k k' d d' content files open_no.KeeperFault h = h
why_rows k k' d d' content files (open_no.BadRow bad) h = h
why_rows k k' d d' content files open_no.DiskFault h = absurd h
why_rows k k' d d' content files (open_no.FileMissing name) h = absurd h
why_rows k k' d d' content files (open_no.FileSize name want got) h = absurd h
why_rows k k' d d' content files open_no.Memory h = tt

first_opened : (time : ℤ) (content : Option Tables) (t : Tables) (Good Bad : NamedFile → Type 0) → IfSome content (λ told. IsOpened time told t) → FirstIs Good Bad (named_files t) → IfSome content (λ told. FirstIs Good Bad (named_files told))
first_opened time None t Good Bad opened first = tt
first_opened time (Some told) t Good Bad (inl begun) first = absurd (subst (λ x. FirstIs Good Bad (named_files x)) begun.1 first)
first_opened time (Some told) t Good Bad (inr same) first = subst (λ x. FirstIs Good Bad (named_files x)) same.1 first

pub why_files : (time : ℤ) (k k' d d' : ℕ) (content : Option Tables) (t : Tables) (files : Option Folder) (why : OpenNo) → IfSome content (λ told. IsOpened time told t) → WhyNoFiles d d' files (named_files t) why → WhyNotOpen k k' d d' content files why
why_files time k k' d d' content t files open_no.KeeperFault opened h = absurd h
why_files time k k' d d' content t files (open_no.BadRow bad) opened h = absurd h
why_files time k k' d d' content t files open_no.DiskFault opened h = h
why_files time k k' d d' content t files (open_no.FileMissing name) opened h = first_opened time content t (IsThere files) (IsMissing files name) opened h
why_files time k k' d d' content t files (open_no.FileSize name want got) opened h = first_opened time content t (IsThere files) (HasOtherSize files name want got) opened h
why_files time k k' d d' content t files open_no.Memory opened h = tt
