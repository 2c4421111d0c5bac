-- The state of a kept version is what its snapshot sees.
use Rattle.std.proofs.Common.{◌≡◌, ◌≤◌, ◌<◌, ◌+◌, ◌-◌, ◌⊎◌, inl, inr, ℕ, zero, suc, true, false, List, [], ◌∷◌, ◌++◌, length, map, slice_index_or, Some, refl, sym, ap, ◌∙◌, subst, arith, nat_le}
use Rattle.std.specs.List.{AllByRecursion, range_with_len}
use Rattle.std.proofs.lemmas.Bool.{and_from, and_left, and_parts, and_right, le-leb, leb-true, lt-leb}
use Rattle.std.proofs.lemmas.List.{get_or_push, length_push}
use Rattle.std.proofs.lemmas.Option.{same_Some, slice_get_read}
use Rattle.lake_model.proofs.TableLemmas.{all-mapped}
use Rattle.lake_model.specs.Core.{Core, Version, first_version, head, is_kept, version_at}
use Rattle.cat_rows.specs.Seen.{seen_at}
use Rattle.cat_rows.specs.Tables.{Tables}
use Rattle.cat_rows.specs.Validities.{data_file_validity, delete_file_validity}
use Rattle.cat_rows.specs.declared.history.SnapshotRow.{SnapshotRow}
use Rattle.cat_rules.proofs.KeptLemmas.{newest_is_last}
use Rattle.cat_rules.specs.Kept.{newest, oldest}
use Rattle.cat_view.proofs.MoreLemmas.{same_tables}
use Rattle.cat_view.specs.Files.{Extends, Files}
use Rattle.cat_view.specs.Named.{NamedVersion, state_of, table_of}
use Rattle.cat_view.specs.Sight as sight
use Rattle.cat_view.specs.Sight.{IsVersionAt}
use Rattle.cat_stands.proofs.FileLemmas.{HasSameData, HasSameDelete, all-seen, all_files, data_names, delete_names}
use Rattle.cat_stands.proofs.OneLemmas.{one_head, one_state}
use Rattle.cat_stands.specs.Laws.{HaveVersions}
use Rattle.cat_stands.specs.Stands.{HasCounters, HasHeadCounters, IsPlain, IsSound, uncounted}

-- ---- kept numbers

pub kept-from : (core : Core) (n : ℕ) → core.first ≤ n → n ≤ head core → is_kept core n ≡ true
kept-from core n low high = and_from (nat_le core.first n) (nat_le n (head core)) (le-leb core.first n low) (le-leb n (head core) high)

pub kept-parts : (core : Core) (n : ℕ) → is_kept core n ≡ true → (core.first ≤ n) × (n ≤ head core)
kept-parts core n kept =
    let parts = and_parts (nat_le core.first n) (nat_le n (head core)) kept in
    (leb-true core.first n parts.0, leb-true n (head core) parts.1)

pub not-kept : (core : Core) (n : ℕ) → (n < core.first) ⊎ (head core < n) → is_kept core n ≡ false
not-kept core n (inl low) = and_left (nat_le core.first n) (nat_le n (head core)) (lt-leb core.first n low)
not-kept core n (inr high) = and_right (nat_le core.first n) (nat_le n (head core)) (lt-leb n (head core) high)

-- ---- numbers of snapshots

abbrev ids : List SnapshotRow → List ℕ
ids rows = map (λ (r : SnapshotRow). r.snapshot_id) rows

last_number : (a k : ℕ) (rows : List SnapshotRow) (row : SnapshotRow) → ids rows ≡ range_with_len a k → newest rows ≡ Some row → row.snapshot_id + 1 ≡ a + k
last_number a k [] row e is = absurd cc
last_number a zero (r ∷ rows) row e is = absurd cc
last_number a (suc zero) (r ∷ []) row e is =
    let number : r.snapshot_id ≡ a = cc in
    let same = ap (λ (x : SnapshotRow). x.snapshot_id) (same_Some r row is) in
    omega (arith, number, same)
last_number a (suc (suc k)) (r ∷ []) row e is = absurd cc
last_number a (suc k) (r ∷ q ∷ rows) row e is =
    let rest : ids (q ∷ rows) ≡ range_with_len (a + 1) k = cc in
    omega (arith, last_number (a + 1) k (q ∷ rows) row rest is)

first_number : (a k : ℕ) (rows : List SnapshotRow) (row : SnapshotRow) → ids rows ≡ range_with_len a k → oldest rows ≡ Some row → row.snapshot_id ≡ a
first_number a k [] row e is = absurd cc
first_number a zero (r ∷ rows) row e is = absurd cc
first_number a (suc k) (r ∷ rows) row e is =
    let number : r.snapshot_id ≡ a = cc in
    let same = ap (λ (x : SnapshotRow). x.snapshot_id) (same_Some r row is) in
    sym same ∙ number

-- ---- one of two lists side by side

plain_at : (t : Tables) (files : Files) (rows : List SnapshotRow) (versions : List Version) (a i : ℕ) → HaveVersions files t rows versions → ids rows ≡ range_with_len a (length versions) → i < length versions
    → IsPlain files (seen_at (a + i) t) (slice_index_or versions i first_version).state
plain_at t files [] [] a i h e lt = absurd (omega (arith, lt))
plain_at t files [] (v ∷ versions) a i h e lt = absurd h
plain_at t files (r ∷ rows) [] a i h e lt = absurd h
plain_at t files (r ∷ rows) (v ∷ versions) a zero h e lt =
    let number : r.snapshot_id ≡ a = cc in
    let here : r.snapshot_id ≡ a + 0 = omega (arith, number) in
    subst (λ n. IsPlain files (seen_at n t) v.state) here h.0
plain_at t files (r ∷ rows) (v ∷ versions) a (suc i) h e lt =
    let rest : ids rows ≡ range_with_len (a + 1) (length versions) = cc in
    let next : a + 1 + i ≡ a + suc i = omega arith in
    subst (λ n. IsPlain files (seen_at n t) (slice_index_or versions i first_version).state) next (plain_at t files rows versions (a + 1) i h.1 rest (omega (arith, lt)))

module _ (t : Tables) (files : Files) (core : Core) (sound : IsSound t files core.first core.versions) where
  long : length core.versions ≡ length sound.older + 1
  long = ap length sound.versions_are ∙ length_push sound.older sound.head

  -- ---- first and head

  pub newest-row : newest t.snapshot ≡ Some sound.newest
  newest-row =
      let rows = sound.before ++ sound.newest ∷ [] in
      let count : length rows ≡ length sound.before + 1 = length_push sound.before sound.newest in
      let place : length sound.before ≡ length rows - 1 = omega (arith, count) in
      ap newest sound.snapshots ∙ sym (newest_is_last rows)
      ∙ slice_get_read rows (length rows) (length rows - 1) sound.newest refl (omega (arith, count)) (sym (get_or_push sound.before sound.newest sound.newest (length rows - 1) place))

  pub newest-is : (row : SnapshotRow) → newest t.snapshot ≡ Some row → sound.newest ≡ row
  newest-is row is = same_Some sound.newest row (sym newest-row ∙ is)

  pub head-number : (row : SnapshotRow) → newest t.snapshot ≡ Some row → row.snapshot_id ≡ head core
  head-number row is = omega (arith, last_number core.first (length core.versions) t.snapshot row sound.numbers is)

  pub oldest-number : (row : SnapshotRow) → oldest t.snapshot ≡ Some row → row.snapshot_id ≡ core.first
  oldest-number row is = first_number core.first (length core.versions) t.snapshot row sound.numbers is

  pub head-kept : is_kept core (head core) ≡ true
  head-kept = kept-from core (head core) (omega (arith, long)) (omega arith)

  pub head-version : version_at core (head core) ≡ sound.head
  head-version =
      let place : length sound.older ≡ head core - core.first = omega (arith, long) in
      ap (λ vs. slice_index_or vs (head core - core.first) first_version) sound.versions_are ∙ get_or_push sound.older sound.head first_version (head core - core.first) place

  -- ---- what a kept number sees

  pub kept-plain : (n : ℕ) → is_kept core n ≡ true → IsPlain files (seen_at n t) (version_at core n).state
  kept-plain n kept =
      let parts = kept-parts core n kept in
      let back : core.first + (n - core.first) ≡ n = omega (arith, parts.0) in
      subst (λ k. IsPlain files (seen_at k t) (version_at core n).state) back
      (plain_at t files t.snapshot core.versions core.first (n - core.first) sound.plain sound.numbers (omega (arith, parts.0, parts.1, long)))

  pub kept-same : (n : ℕ) (v : NamedVersion) → is_kept core n ≡ true → IsVersionAt t n v → uncounted (state_of files 0 v) ≡ uncounted (version_at core n).state
  kept-same n v kept sees = one_state files (seen_at n t) (state_of files 0 v) (version_at core n).state (record { version = v; sees = sees; same = refl }) (kept-plain n kept)

  -- with counters, at the newest snapshot
  pub head-whole : (v : NamedVersion) → IsVersionAt t (head core) v → AllByRecursion (sight.HasCounters t) v.tables → state_of files (version_at core (head core)).state.next_catalog v ≡ (version_at core (head core)).state
  head-whole v sees counted =
      let state = (version_at core (head core)).state in
      let counters : HasHeadCounters t sound.newest state = subst (λ (x : Version). HasHeadCounters t sound.newest x.state) (sym head-version) sound.counters in
      let tables : AllByRecursion (HasCounters t) (map (table_of files) v.tables) =
      all-mapped (sight.HasCounters t) (HasCounters t) (table_of files) (λ x h. record { row = h.row; there = h.there; next_row = h.next_row; next_field = h.next_field }) v.tables counted in
      one_head t sound.newest (state_of files state.next_catalog v) state (kept-same (head core) v head-kept sees) (record { next_catalog = counters.next_catalog; tables = tables }) counters

-- ---- more files

pub state-more : (t : Tables) (files more : Files) (first : ℕ) (versions : List Version) → Extends files more → IsSound t files first versions → (n c : ℕ) (v : NamedVersion) → IsVersionAt t n v
    → state_of more c v ≡ state_of files c v
state-more t files more first versions extends sound n c v sees =
    let rows = all-seen data_file_validity (HasSameData files more extends) n t.data_file (λ f e. e) (data_names files more extends t t.data_file sound.data_files) in
    let deletes = all-seen delete_file_validity (HasSameDelete files more extends) n t.delete_file (λ d e. e) (delete_names files more extends t t.delete_file sound.delete_files) in
    ap (λ tables. record (state_of files c v) { tables = tables }) (same_tables files more v.tables (all_files files more extends (seen_at n t) rows deletes (seen_at n t).table v.tables sees.tables))
