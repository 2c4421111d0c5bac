-- The rule about the paths of files, after a commit.
use Rattle.std.proofs.Common.{◌≡◌, ◌≢◌, ℕ, ◌≤◌, ◌⊎◌, inl, inr, ⊎_elim, List, [], ◌∷◌, ◌++◌, map, sym, ap, ◌∙◌, arith, is_eq, true≢false}
use Rattle.std.specs.Prelude.{length}
use Rattle.std.specs.List.{AllByRecursion}
use Rattle.cat_tables.specs.Table.{IsAscending, IsBelow, key_cmp}
use Rattle.cat_tables.proofs.SightLemmas.{same_key}
use Rattle.cat_rows.specs.Keys.{data_file_key, delete_file_key}
use Rattle.cat_rows.specs.Parts.{Endings, Parts}
use Rattle.cat_rows.specs.Tables.{Tables}
use Rattle.cat_rows.specs.Validities.{data_file_validity, delete_file_validity}
use Rattle.cat_rows.specs.declared.files.DataFileRow.{DataFileRow}
use Rattle.cat_rows.specs.declared.files.DeleteFileRow.{DeleteFileRow}
use Rattle.cat_rows.specs.declared.files.ScheduledFileRow.{ScheduledFileRow}
use Rattle.cat_rows.specs.declared.history.SnapshotRow.{SnapshotRow}
use Rattle.cat_rules.specs.DataFileRule.{IsDataFileBad, IsDataPath, IsDataPathBefore, IsDeletePath, IsDeletePathBefore, IsLong, IsPathBad}
use Rattle.cat_rules.specs.First.{Holds}
use Rattle.cat_rules.specs.Places.{of_data_file, of_delete_file, of_scheduled}
use Rattle.cat_rules.specs.Rows.{SomeOf}
use Rattle.cat_rules.proofs.DatedLemmas.{all_fine}
use Rattle.cat_rules.proofs.FirstLemmas.{all_like}
use Rattle.commit_rules.specs.Lawful.{all_paths}
use Rattle.commit_rules.specs.Laws.{RuleStays}
use Rattle.commit_rules.proofs.CoreLemmas.{IsCommit, after, after-commit}
use Rattle.commit_rules.proofs.CounterLemmas.{new_or_old}
use Rattle.commit_rules.proofs.FileLemmas.{data_files_after}
use Rattle.commit_rules.proofs.HistoryLemmas.{holds-all}
use Rattle.commit_rules.proofs.TableLemmas.{In, all-ended, all-put_all, all_by, all_in, found, over_end}

-- ---- lists of paths

all_first : {X : Type 0} (P : X → Type 0) (xs ys : List X) → AllByRecursion P (xs ++ ys) → AllByRecursion P xs
all_first P [] ys h = tt
all_first P (x ∷ xs) ys h = (h.0, all_first P xs ys h.1)

all_second : {X : Type 0} (P : X → Type 0) (xs ys : List X) → AllByRecursion P (xs ++ ys) → AllByRecursion P ys
all_second P [] ys h = h
all_second P (x ∷ xs) ys h = all_second P xs ys h.1

all_unmapped : {X Y : Type 0} (P : Y → Type 0) (f : X → Y) (xs : List X) → AllByRecursion P (map f xs) → AllByRecursion (λ x. P (f x)) xs
all_unmapped P f [] h = tt
all_unmapped P f (x ∷ xs) h = (h.0, all_unmapped P f xs h.1)

asc_first : {X : Type 0} (R : X → X → Type 0) (xs ys : List X) → IsAscending R (xs ++ ys) → IsAscending R xs
asc_first R [] ys h = tt
asc_first R (x ∷ xs) ys h = (all_first (R x) xs ys h.0, asc_first R xs ys h.1)

asc_second : {X : Type 0} (R : X → X → Type 0) (xs ys : List X) → IsAscending R (xs ++ ys) → IsAscending R ys
asc_second R [] ys h = h
asc_second R (x ∷ xs) ys h = asc_second R xs ys h.1

asc_across : {X : Type 0} (R : X → X → Type 0) (xs ys : List X) → IsAscending R (xs ++ ys) → AllByRecursion (λ x. AllByRecursion (R x) ys) xs
asc_across R [] ys h = tt
asc_across R (x ∷ xs) ys h = (all_second (R x) xs ys h.0, asc_across R xs ys h.1)

asc_unmapped : {X Y : Type 0} (R : Y → Y → Type 0) (f : X → Y) (xs : List X) → IsAscending R (map f xs) → IsAscending (λ x y. R (f x) (f y)) xs
asc_unmapped R f [] h = tt
asc_unmapped R f (x ∷ xs) h = (all_unmapped (R (f x)) f xs h.0, asc_unmapped R f xs h.1)

-- two members whose paths differ, or one
one_path : {X : Type 0} (f : X → List ℕ) (xs : List X) → IsAscending (λ x y. f x ≢ f y) xs → (a b : X) → In a xs → In b xs → f a ≡ f b → a ≡ b
one_path f [] up a b ha hb same = absurd ha
one_path f (x ∷ xs) up a b (inl ea) (inl eb) same = sym ea ∙ eb
one_path f (x ∷ xs) up a b (inl ea) (inr hb) same = absurd (all_in (λ y. f x ≢ f y) b xs up.0 hb (ap f ea ∙ same))
one_path f (x ∷ xs) up a b (inr ha) (inl eb) same = absurd (all_in (λ y. f x ≢ f y) a xs up.0 ha (ap f eb ∙ sym same))
one_path f (x ∷ xs) up a b (inr ha) (inr hb) same = one_path f xs up.1 a b ha hb same

pub not_below_itself : {X : Type 0} (key : X → List ℕ) (a b : X) → a ≡ b → IsBelow key a b → ⊥
not_below_itself key a b same below = true≢false (sym (same_key key a) ∙ ap (λ x. is_eq (key_cmp (key a) (key x))) same ∙ ap is_eq below)

-- none of the others has the path of one of these
abbrev ArePathsApart : {X Y : Type 0} → (X → List ℕ) → (Y → List ℕ) → List X → List Y → Type 0
ArePathsApart f g xs ys = AllByRecursion (λ x. AllByRecursion (λ y. g y ≢ f x) ys) xs

no_other : {X Y : Type 0} (f : X → List ℕ) (g : Y → List ℕ) (xs : List X) (ys : List Y) → ArePathsApart f g xs ys → (x : X) → In x xs → SomeOf (λ y. g y ≡ f x) ys → ⊥
no_other f g xs ys apart x there some =
    let y = found (λ y. g y ≡ f x) ys some in
    all_in (λ z. g z ≢ f x) y.item ys (all_in (λ z. AllByRecursion (λ w. g w ≢ f z) ys) x xs apart there) y.there y.is

no_one : {X Y : Type 0} (f : X → List ℕ) (g : Y → List ℕ) (xs : List X) (ys : List Y) → ArePathsApart f g xs ys → (y : Y) → In y ys → SomeOf (λ x. f x ≡ g y) xs → ⊥
no_one f g xs ys apart y there some =
    let x = found (λ x. f x ≡ g y) xs some in
    all_in (λ z. g z ≢ f x.item) y ys (all_in (λ z. AllByRecursion (λ w. g w ≢ f z) ys) x.item xs apart x.there) there (sym x.is)

-- an earlier one of the same path, as one of the same path
of_path : {X : Type 0} (key : X → List ℕ) (f : X → List ℕ) (r : X) (path : List ℕ) (xs : List X) → SomeOf (λ q. IsBelow key q r × (f q ≡ path)) xs → SomeOf (λ q. f q ≡ path) xs
of_path key f r path [] h = h
of_path key f r path (x ∷ xs) (inl h) = inl h.1
of_path key f r path (x ∷ xs) (inr h) = inr (of_path key f r path xs h)

-- none of the new ones is before another of its path
none_before : {X : Type 0} (key : X → List ℕ) (f : X → List ℕ) (xs : List X) → IsAscending (λ x y. f x ≢ f y) xs → (r : X) → In r xs → SomeOf (λ q. IsBelow key q r × (f q ≡ f r)) xs → ⊥
none_before key f xs up r there some =
    let q = found (λ q. IsBelow key q r × (f q ≡ f r)) xs some in not_below_itself key q.item r (one_path f xs up q.item r q.there there q.is.1) q.is.0

abbrev data_path : DataFileRow → List ℕ
data_path r = r.path

abbrev delete_path : DeleteFileRow → List ℕ
delete_path r = r.path

abbrev scheduled_path : ScheduledFileRow → List ℕ
scheduled_path r = r.path

not_long : (path : List ℕ) → length path ≤ 200 → IsLong path → ⊥
not_long path le long = absurd (omega (arith, le, long))

module _ (t : Tables) (head : SnapshotRow) (p : Parts) (endings : Endings) (c : IsCommit t head p endings) where
  abbrev u : Tables
  u = after t head p endings c

  old : Holds (IsPathBad t)
  old k bad = c.sane.1.1.1.1.1.1.0 k (inr bad)

  -- ---- new paths and those that are there

  abbrev rest_paths : List (List ℕ)
  rest_paths = map delete_path t.delete_file ++ map scheduled_path t.scheduled_file

  abbrev AreUnused : List ℕ → Type 0
  AreUnused path = AllByRecursion (λ used. used ≢ path) (all_paths t)

  unused_data : AllByRecursion (λ r. AreUnused (data_path r)) p.data_file
  unused_data = all_unmapped AreUnused data_path p.data_file (all_first AreUnused (map data_path p.data_file) (map delete_path p.delete_file) c.lawful.paths.unused)

  unused_delete : AllByRecursion (λ r. AreUnused (delete_path r)) p.delete_file
  unused_delete = all_unmapped AreUnused delete_path p.delete_file (all_second AreUnused (map data_path p.data_file) (map delete_path p.delete_file) c.lawful.paths.unused)

  from_data : (path : List ℕ) → AreUnused path → AllByRecursion (λ r. data_path r ≢ path) t.data_file
  from_data path h = all_unmapped (λ used. used ≢ path) data_path t.data_file (all_first (λ used. used ≢ path) (map data_path t.data_file) rest_paths h)

  from_delete : (path : List ℕ) → AreUnused path → AllByRecursion (λ r. delete_path r ≢ path) t.delete_file
  from_delete path h =
      all_unmapped (λ used. used ≢ path) delete_path t.delete_file
      (all_first (λ used. used ≢ path) (map delete_path t.delete_file) (map scheduled_path t.scheduled_file) (all_second (λ used. used ≢ path) (map data_path t.data_file) rest_paths h))

  from_scheduled : (path : List ℕ) → AreUnused path → AllByRecursion (λ r. scheduled_path r ≢ path) t.scheduled_file
  from_scheduled path h =
      all_unmapped (λ used. used ≢ path) scheduled_path t.scheduled_file
      (all_second (λ used. used ≢ path) (map delete_path t.delete_file) (map scheduled_path t.scheduled_file) (all_second (λ used. used ≢ path) (map data_path t.data_file) rest_paths h))

  data_data : ArePathsApart data_path data_path p.data_file t.data_file
  data_data = all_like (λ r. AreUnused (data_path r)) (λ r. AllByRecursion (λ q. data_path q ≢ data_path r) t.data_file) (λ r. from_data (data_path r)) p.data_file unused_data

  data_delete : ArePathsApart data_path delete_path p.data_file t.delete_file
  data_delete = all_like (λ r. AreUnused (data_path r)) (λ r. AllByRecursion (λ q. delete_path q ≢ data_path r) t.delete_file) (λ r. from_delete (data_path r)) p.data_file unused_data

  data_scheduled : ArePathsApart data_path scheduled_path p.data_file t.scheduled_file
  data_scheduled = all_like (λ r. AreUnused (data_path r)) (λ r. AllByRecursion (λ q. scheduled_path q ≢ data_path r) t.scheduled_file) (λ r. from_scheduled (data_path r)) p.data_file unused_data

  delete_data : ArePathsApart delete_path data_path p.delete_file t.data_file
  delete_data = all_like (λ r. AreUnused (delete_path r)) (λ r. AllByRecursion (λ q. data_path q ≢ delete_path r) t.data_file) (λ r. from_data (delete_path r)) p.delete_file unused_delete

  delete_delete : ArePathsApart delete_path delete_path p.delete_file t.delete_file
  delete_delete = all_like (λ r. AreUnused (delete_path r)) (λ r. AllByRecursion (λ q. delete_path q ≢ delete_path r) t.delete_file) (λ r. from_delete (delete_path r)) p.delete_file unused_delete

  delete_scheduled : ArePathsApart delete_path scheduled_path p.delete_file t.scheduled_file
  delete_scheduled = all_like (λ r. AreUnused (delete_path r)) (λ r. AllByRecursion (λ q. scheduled_path q ≢ delete_path r) t.scheduled_file) (λ r. from_scheduled (delete_path r)) p.delete_file unused_delete

  abbrev Differ : List ℕ → List ℕ → Type 0
  Differ a b = a ≢ b

  data_differ : IsAscending (λ q r. data_path q ≢ data_path r) p.data_file
  data_differ = asc_unmapped Differ data_path p.data_file (asc_first Differ (map data_path p.data_file) (map delete_path p.delete_file) c.lawful.paths.differ)

  delete_differ : IsAscending (λ q r. delete_path q ≢ delete_path r) p.delete_file
  delete_differ = asc_unmapped Differ delete_path p.delete_file (asc_second Differ (map data_path p.data_file) (map delete_path p.delete_file) c.lawful.paths.differ)

  -- new data files and new delete files
  across : ArePathsApart data_path delete_path p.data_file p.delete_file
  across =
      all_like (λ r. AllByRecursion (Differ (data_path r)) (map delete_path p.delete_file)) (λ r. AllByRecursion (λ q. delete_path q ≢ data_path r) p.delete_file)
      (λ r h. all_like (λ q. data_path r ≢ delete_path q) (λ q. delete_path q ≢ data_path r) (λ q apart same. apart (sym same)) p.delete_file (all_unmapped (Differ (data_path r)) delete_path p.delete_file h)) p.data_file
      (all_unmapped (λ path. AllByRecursion (Differ path) (map delete_path p.delete_file)) data_path p.data_file (asc_across Differ (map data_path p.data_file) (map delete_path p.delete_file) c.lawful.paths.differ))

  short_data : AllByRecursion (λ r. length (data_path r) ≤ 200) p.data_file
  short_data = all_unmapped (λ path. length path ≤ 200) data_path p.data_file (all_first (λ path. length path ≤ 200) (map data_path p.data_file) (map delete_path p.delete_file) c.lawful.paths.short)

  short_delete : AllByRecursion (λ r. length (delete_path r) ≤ 200) p.delete_file
  short_delete = all_unmapped (λ path. length path ≤ 200) delete_path p.delete_file (all_second (λ path. length path ≤ 200) (map data_path p.data_file) (map delete_path p.delete_file) c.lawful.paths.short)

  -- ---- what has a path after the commit

  data_either : (path : List ℕ) → IsDataPath u path → SomeOf (λ q. data_path q ≡ path) p.data_file ⊎ IsDataPath t path
  data_either path h = new_or_old data_file_key data_file_validity (λ q. data_path q ≡ path) (λ e r x. x) p.snapshot.snapshot_id p.ended_data_file p.data_file t.data_file h

  delete_either : (path : List ℕ) → IsDeletePath u path → SomeOf (λ q. delete_path q ≡ path) p.delete_file ⊎ IsDeletePath t path
  delete_either path h = new_or_old delete_file_key delete_file_validity (λ q. delete_path q ≡ path) (λ e r x. x) p.snapshot.snapshot_id p.ended_delete_file p.delete_file t.delete_file h

  data_before : (r : DataFileRow) → IsDataPathBefore u r → SomeOf (λ q. IsBelow data_file_key q r × (data_path q ≡ data_path r)) p.data_file ⊎ IsDataPathBefore t r
  data_before r h = new_or_old data_file_key data_file_validity (λ q. IsBelow data_file_key q r × (data_path q ≡ data_path r)) (λ e q x. x) p.snapshot.snapshot_id p.ended_data_file p.data_file t.data_file h

  delete_before : (r : DeleteFileRow) → IsDeletePathBefore u r → SomeOf (λ q. IsBelow delete_file_key q r × (delete_path q ≡ delete_path r)) p.delete_file ⊎ IsDeletePathBefore t r
  delete_before r h = new_or_old delete_file_key delete_file_validity (λ q. IsBelow delete_file_key q r × (delete_path q ≡ delete_path r)) (λ e q x. x) p.snapshot.snapshot_id p.ended_delete_file p.delete_file t.delete_file h

  -- ---- data files

  abbrev IsDataBad : Tables → DataFileRow → Type 0
  IsDataBad tables r = IsLong r.path ⊎ IsDataPathBefore tables r

  data_new : (r : DataFileRow) → In r p.data_file → IsDataBad u r → ⊥
  data_new r there (inl long) = not_long r.path (all_in (λ q. length (data_path q) ≤ 200) r p.data_file short_data there) long
  data_new r there (inr some) =
      ⊎_elim (λ new. none_before data_file_key data_path p.data_file data_differ r there new)
      (λ kept. no_other data_path data_path p.data_file t.data_file data_data r there (of_path data_file_key data_path r r.path t.data_file kept)) (data_before r some)

  data_old : (r : DataFileRow) → In r t.data_file → IsDataBad u r → ⊥
  data_old r there bad = all_in (λ q. IsDataBad t q → ⊥) r t.data_file (all_fine of_data_file (IsDataBad t) t.data_file (λ k h. old k (inl h))) there (turn bad)
    where
      turn : IsDataBad u r → IsDataBad t r
      turn (inl long) = inl long
      turn (inr some) =
          ⊎_elim (λ new. absurd (no_one data_path data_path p.data_file t.data_file data_data r there (of_path data_file_key data_path r r.path p.data_file new))) (λ kept. inr kept) (data_before r some)

  data_paths : AllByRecursion (λ r. IsDataBad u r → ⊥) u.data_file
  data_paths =
      all-put_all data_file_key (λ r. IsDataBad u r → ⊥) p.data_file _ (all_by (λ r. IsDataBad u r → ⊥) p.data_file data_new)
      (all-ended data_file_key data_file_validity (λ r. IsDataBad u r → ⊥) p.snapshot.snapshot_id (over_end data_file_key data_file_validity (λ r. IsDataBad u r → ⊥) p.snapshot.snapshot_id (λ e r h. h)) p.ended_data_file t.data_file
      (all_by (λ r. IsDataBad u r → ⊥) t.data_file data_old))

  -- ---- delete files

  abbrev IsDeleteBad : Tables → DeleteFileRow → Type 0
  IsDeleteBad tables r = IsLong r.path ⊎ (IsDataPath tables r.path ⊎ IsDeletePathBefore tables r)

  delete_new : (r : DeleteFileRow) → In r p.delete_file → IsDeleteBad u r → ⊥
  delete_new r there (inl long) = not_long r.path (all_in (λ q. length (delete_path q) ≤ 200) r p.delete_file short_delete there) long
  delete_new r there (inr (inl some)) =
      ⊎_elim (λ new. no_one data_path delete_path p.data_file p.delete_file across r there new) (λ kept. no_other delete_path data_path p.delete_file t.data_file delete_data r there kept) (data_either r.path some)
  delete_new r there (inr (inr some)) =
      ⊎_elim (λ new. none_before delete_file_key delete_path p.delete_file delete_differ r there new)
      (λ kept. no_other delete_path delete_path p.delete_file t.delete_file delete_delete r there (of_path delete_file_key delete_path r r.path t.delete_file kept)) (delete_before r some)

  delete_old : (r : DeleteFileRow) → In r t.delete_file → IsDeleteBad u r → ⊥
  delete_old r there bad = all_in (λ q. IsDeleteBad t q → ⊥) r t.delete_file (all_fine of_delete_file (IsDeleteBad t) t.delete_file (λ k h. old k (inr (inl h)))) there (turn bad)
    where
      turn : IsDeleteBad u r → IsDeleteBad t r
      turn (inl long) = inl long
      turn (inr (inl some)) = ⊎_elim (λ new. absurd (no_one data_path delete_path p.data_file t.delete_file data_delete r there new)) (λ kept. inr (inl kept)) (data_either r.path some)
      turn (inr (inr some)) =
          ⊎_elim (λ new. absurd (no_one delete_path delete_path p.delete_file t.delete_file delete_delete r there (of_path delete_file_key delete_path r r.path p.delete_file new))) (λ kept. inr (inr kept)) (delete_before r some)

  delete_paths : AllByRecursion (λ r. IsDeleteBad u r → ⊥) u.delete_file
  delete_paths =
      all-put_all delete_file_key (λ r. IsDeleteBad u r → ⊥) p.delete_file _ (all_by (λ r. IsDeleteBad u r → ⊥) p.delete_file delete_new)
      (all-ended delete_file_key delete_file_validity (λ r. IsDeleteBad u r → ⊥) p.snapshot.snapshot_id (over_end delete_file_key delete_file_validity (λ r. IsDeleteBad u r → ⊥) p.snapshot.snapshot_id (λ e r h. h)) p.ended_delete_file t.delete_file
      (all_by (λ r. IsDeleteBad u r → ⊥) t.delete_file delete_old))

  -- ---- scheduled files

  abbrev IsScheduledBad : Tables → ScheduledFileRow → Type 0
  IsScheduledBad tables r = IsLong r.path ⊎ (IsDataPath tables r.path ⊎ IsDeletePath tables r.path)

  scheduled_still : (r : ScheduledFileRow) → In r t.scheduled_file → IsScheduledBad u r → ⊥
  scheduled_still r there bad = all_in (λ q. IsScheduledBad t q → ⊥) r t.scheduled_file (all_fine of_scheduled (IsScheduledBad t) t.scheduled_file (λ k h. old k (inr (inr h)))) there (turn bad)
    where
      turn : IsScheduledBad u r → IsScheduledBad t r
      turn (inl long) = inl long
      turn (inr (inl some)) = ⊎_elim (λ new. absurd (no_one data_path scheduled_path p.data_file t.scheduled_file data_scheduled r there new)) (λ kept. inr (inl kept)) (data_either r.path some)
      turn (inr (inr some)) = ⊎_elim (λ new. absurd (no_one delete_path scheduled_path p.delete_file t.scheduled_file delete_scheduled r there new)) (λ kept. inr (inr kept)) (delete_either r.path some)

  paths_after : Holds (IsPathBad u)
  paths_after k (inl h) = holds-all of_data_file (IsDataBad u) u.data_file data_paths k h
  paths_after k (inr (inl h)) = holds-all of_delete_file (IsDeleteBad u) u.delete_file delete_paths k h
  paths_after k (inr (inr h)) = holds-all of_scheduled (IsScheduledBad u) u.scheduled_file (all_by (λ r. IsScheduledBad u r → ⊥) t.scheduled_file scheduled_still) k h

  files_after : Holds (IsDataFileBad u)
  files_after k (inl bad) = data_files_after t head p endings c k bad
  files_after k (inr bad) = paths_after k bad

pub data_files-stay : RuleStays IsDataFileBad
data_files-stay = after-commit (λ (u : Tables). Holds (IsDataFileBad u)) files_after
