-- The state that a commit's snapshot sees.
use Rattle.std.proofs.Common.{◌≡◌, inl, inr, ℕ, ◌+◌, ◌==◌, true, false, cond, List, [], ◌∷◌, length, Some, IfSome, option_map, refl, sym, ap, ◌∙◌, subst}
use Rattle.std.specs.Prelude.{is_some}
use Rattle.std.specs.List.{AllByRecursion, AllZip}
use Rattle.lake_model.proofs.TableLemmas.{all-mapped}
use Rattle.lake_model.specs.Apply.{apply}
use Rattle.lake_model.specs.Creations.{creations}
use Rattle.lake_model.specs.Kinds.{drops_table}
use Rattle.lake_model.specs.Laws.{HasRowIds}
use Rattle.lake_model.specs.State.{State, Table}
use Rattle.lake_model.specs.declared.change.Ref.TheVariants as ref
use Rattle.lake_rebase.specs.Laws.{IsFree}
use Rattle.lake_rebase.proofs.MemberLemmas.{In, all_by, all_in, map_in}
use Rattle.cat_rows.specs.Seen.{seen_at}
use Rattle.cat_rows.specs.Validities.{data_file_validity, delete_file_validity}
use Rattle.cat_rows.specs.declared.files.DataFileRow.{DataFileRow}
use Rattle.cat_rows.specs.declared.files.DeleteFileRow.{DeleteFileRow}
use Rattle.cat_rows.specs.declared.schemas.TableRow.{TableRow}
use Rattle.cat_rules.proofs.FirstLemmas.{all_like}
use Rattle.cat_view.specs.Named.{NamedDeletes, NamedTable, NamedVersion, state_of, table_of}
use Rattle.cat_view.specs.Sight.{IsTableAt, IsVersionOf, data_rows, delete_row, deletes_of, file_of}
use Rattle.cat_stands.proofs.FileLemmas.{all-passing, all-seen}
use Rattle.cat_stands.specs.FileFacts.{IsDataFile, IsDeleteFile}
use Rattle.cat_stands.specs.Stands.{HasCounters, IsPlain, uncounted}
use Rattle.cat_growth.proofs.HeadLemmas.{free-tables_stay}
use Rattle.cat_growth.proofs.StagedLemmas.{staged-versions_apply}
use Rattle.cat_growth.specs.Fresh.{CanTake, IsUnaltered}
use Rattle.cat_growth.specs.Growth.{IsThere}
use Rattle.rebase.specs.Parts.{first_row, fresh_files, old_stats}
use Rattle.commit_laws.specs.Commit.{file_id_at, next_named}
use Rattle.commit_laws.specs.StandLaws.{NextIsPlain, NextIsSeen}
use Rattle.commit_laws.proofs.StandCaseLemmas.{Case, after, head, head-ids, n, next, next_file, now, same-next, seen_then, sees}
use Rattle.commit_laws.proofs.HeadLemmas.{head-counted}
use Rattle.commit_laws.proofs.VersionLemmas.{next-sees}

-- the row of a table
pub zip_left : {X Y : Type 0} (P : X → Y → Type 0) (xs : List X) (ys : List Y) (y : Y) → AllZip P xs ys → In y ys → (x : X) × In x xs × P x y
zip_left P [] [] y h there = absurd there
zip_left P [] (z ∷ ys) y h there = absurd h
zip_left P (x ∷ xs) [] y h there = absurd h
zip_left P (x ∷ xs) (z ∷ ys) y h (inl e) = (x, inl refl, subst (P x) e h.0)
zip_left P (x ∷ xs) (z ∷ ys) y h (inr there) = let m = zip_left P xs ys y h.1 there in (m.0, inr m.1, m.2)

module _ (x : Case) where
  abbrev pub v : NamedVersion
  v = (head-counted x.t x.files x.first x.versions x.sound).version

  pub v-is : state_of x.files (next x) v ≡ head x
  v-is = ap (λ k. state_of x.files k v) (sym (same-next x)) ∙ (head-counted x.t x.files x.first x.versions x.sound).is

  pub v-sees : IsVersionOf (now x) v
  v-sees = (head-counted x.t x.files x.first x.versions x.sound).sees

  pub table-in : (y : NamedTable) → In y v.tables → In (table_of x.files y) (head x).tables
  table-in y there = subst (λ (s : State). In (table_of x.files y) s.tables) v-is (map_in (table_of x.files) y v.tables there)

  -- ---- its files are there

  abbrev HasFile : List ℕ → Type 0
  HasFile name = is_some (x.files name) ≡ true

  data-there : AllByRecursion (λ (f : DataFileRow). HasFile f.path) (now x).data_file
  data-there = all-seen data_file_validity (λ (f : DataFileRow). HasFile f.path) (n x) x.t.data_file (λ f h. h) (all_like (IsDataFile x.t x.files) (λ (f : DataFileRow). HasFile f.path) (λ f h. ap is_some h.there.there) x.t.data_file x.sound.data_files)

  deletes-there : AllByRecursion (λ (d : DeleteFileRow). HasFile d.path) (now x).delete_file
  deletes-there = all-seen delete_file_validity (λ (d : DeleteFileRow). HasFile d.path) (n x) x.t.delete_file (λ d h. h) (all_like (IsDeleteFile x.t x.files) (λ (d : DeleteFileRow). HasFile d.path) (λ d h. ap is_some h.there.there) x.t.delete_file x.sound.delete_files)

  delete-there : (id : ℕ) (ds : List DeleteFileRow) → AllByRecursion (λ (d : DeleteFileRow). HasFile d.path) ds → IfSome (option_map deletes_of (delete_row ds id)) (λ (d : NamedDeletes). HasFile d.name)
  delete-there id [] h = tt
  delete-there id (d ∷ ds) h = elim (d.data_file_id == id) as (λ b. IfSome (option_map deletes_of (cond b (Some d) (delete_row ds id))) (λ (e : NamedDeletes). HasFile e.name)) [ true ↦ h.0 | false ↦ delete-there id ds h.1 ]

  files-there : (r : TableRow) (y : NamedTable) → IsTableAt (now x) r y → AllByRecursion (IsThere x.files) y.files
  files-there r y is = subst (AllByRecursion (IsThere x.files)) (sym is.files)
      (all-mapped (λ (f : DataFileRow). HasFile f.path) (IsThere x.files) (file_of (now x).delete_file) (λ f h. record { file = h; deletes = delete-there f.data_file_id (now x).delete_file deletes-there })
      (data_rows r.table_id (now x).data_file) (all-passing (λ (f : DataFileRow). HasFile f.path) (λ (f : DataFileRow). f.table_id == r.table_id) (now x).data_file data-there))

  -- ---- each table takes its rows

  pub counters : (table : Table) → In table (head x).tables → HasCounters x.t table
  counters table there = all_in (HasCounters x.t) table (head x).tables x.sound.counters.tables there

  -- where the list inserts it has the columns of the base
  pub unaltered : (y : NamedTable) → In y v.tables → drops_table x.own (ref.Old y.id) ≡ false → IsUnaltered x.is.base x.own y
  unaltered y there =
      all_in (λ (z : NamedTable). drops_table x.own (ref.Old z.id) ≡ false → IsUnaltered x.is.base x.own z) y v.tables
      (free-tables_stay x.is.told x.is.base x.files (next x) v x.own (subst (λ (s : State). IsFree x.is.told x.is.base s x.own) (sym v-is) x.is.free)) there

  can-take : (y : NamedTable) → In y v.tables → drops_table x.own (ref.Old y.id) ≡ false → CanTake x.files x.is.base x.own (λ at. first_row (old_stats x.t at)) y
  can-take y there stays =
      let r = zip_left (IsTableAt (now x)) (now x).table v.tables y v-sees.tables there in
      let c = counters (table_of x.files y) (table-in y there) in
      record {
        can_grow = record { there = files-there r.0 y r.2; ids = all_in HasRowIds (table_of x.files y) (head x).tables (head-ids x).rows (table-in y there) };
        start = ap first_row c.there ∙ sym c.next_row;
        unaltered = unaltered y there stays;
      }

  pub next-state : state_of x.more (next x + length (creations 0 0 x.own)) (next_named x.t x.sound.newest x.own x.staged v) ≡ apply (head x) x.own
  next-state =
      staged-versions_apply x.is.at_staging x.files x.more x.is.version x.is.base x.own x.staged x.is.are_staged x.is.still x.is.extends (file_id_at (next_file x) (fresh_files x.staged)) (λ at. first_row (old_stats x.t at)) (next x) v (λ place. refl)
      (all_by (λ (y : NamedTable). drops_table x.own (ref.Old y.id) ≡ false → CanTake x.files x.is.base x.own (λ at. first_row (old_stats x.t at)) y) v.tables can-take)
      ∙ ap (λ s. apply s x.own) v-is

  pub plain-then : IsPlain x.more (seen_then x) (apply (head x) x.own)
  plain-then = record {
    version = next_named x.t x.sound.newest x.own x.staged v;
    sees = next-sees x v v-sees;
    same = ap uncounted (sym next-state);
  }

  pub plain-after : IsPlain x.more (seen_at (n x + 1) (after x)) (apply (head x) x.own)
  plain-after = subst (λ seen. IsPlain x.more seen (apply (head x) x.own)) (sym (sees x)) plain-then

pub next-is-seen : NextIsSeen
next-is-seen t files more first versions sound time own staged is version h =
    let x : Case = record { t = t; files = files; more = more; first = first; versions = versions; sound = sound; time = time; own = own; staged = staged; is = is } in
    subst (λ seen. IsVersionOf seen (next_named t sound.newest own staged version)) (sym (sees x)) (next-sees x version h)

pub next-is-plain : NextIsPlain
next-is-plain t files more first versions sound time own staged is =
    plain-after (record { t = t; files = files; more = more; first = first; versions = versions; sound = sound; time = time; own = own; staged = staged; is = is })
