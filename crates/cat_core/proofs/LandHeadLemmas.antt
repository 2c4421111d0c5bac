-- A core that stands: its head, the kinds since its start, and what a session has open of it.
use Rattle.std.proofs.Common.{◌≡◌, ◌≤◌, ◌<◌, ◌+◌, ◌-◌, ℕ, zero, suc, true, false, List, [], ◌∷◌, ◌++◌, length, map, drop, slice_index_or, slice_set, refl, sym, ap, ◌∙◌, subst, arith, inl, Option, Some, None}
use Rattle.std.specs.Prelude.{IfSome, nat_le, nat_lt, option_map}
use Rattle.std.specs.List.{AllByRecursion, flat_map, range_with_len}
use Rattle.std.proofs.Math.ListN.{get_or-map}
use Rattle.std.proofs.Math.Seq.{get_or-append_seam}
use Rattle.std.proofs.lemmas.Bool.{and_parts, false_from_ne_true, leb-true, ltb-false, or_parts}
use Rattle.std.proofs.lemmas.List.{drop-map, length-append}
use Rattle.lake_types.specs.declared.kind.Clash.{Clash}
use Rattle.lake_types.specs.declared.kind.Kind.{Kind}
use Rattle.lake_types.specs.declared.kind.SchemaName.{SchemaName}
use Rattle.lake_model.specs.Calls.{Ground}
use Rattle.lake_model.specs.Clashes.{first_clash, or_later}
use Rattle.lake_model.specs.Core.{Version, first_from, first_past, first_version, head, is_kept, open_at, version_at}
use Rattle.lake_model.specs.Growth.{IsGrowth}
use Rattle.lake_model.specs.History.{FitsOpen}
use Rattle.lake_model.specs.Kinds.{kinds}
use Rattle.lake_model.specs.State.{State}
use Rattle.lake_model.specs.declared.change.Change.{Change}
use Rattle.lake_rebase.specs.Laws.{IsFree}
use Rattle.lake_rebase.specs.Since.{Tells}
use Rattle.lake_rebase.specs.Tidy.{IsTidy}
use Rattle.conflicts.specs.Laws.{AreApart, IsApart}
use Rattle.conflicts.proofs.LawLemmas.{none_stands}
use Rattle.cat_rows.specs.Tables.{Tables}
use Rattle.cat_rows.specs.declared.history.SnapshotRow.{SnapshotRow}
use Rattle.cat_rules.specs.CounterRule.{has_large_id}
use Rattle.cat_rules.specs.Kept.{newest}
use Rattle.cat_rules.specs.Places.{of_snapshot}
use Rattle.cat_rules.specs.TableStatsRule.{last_id}
use Rattle.cat_stands.specs.LakeFacts.{HasIds}
use Rattle.cat_stands.specs.Stands.{IsSound}
use Rattle.cat_view.specs.Files.{Files}
use Rattle.commit_rules.proofs.CoreLemmas.{newest-append, same_row}
use Rattle.commit_laws.proofs.ListLemmas.{all_flat}
use Rattle.commit_laws.proofs.TidyLemmas.{sound-tidy}
use Rattle.door.specs.Opened.{Opened}
use Rattle.cat_core.specs.Commits.{first_in, first_since}
use Rattle.cat_core.specs.Shown.{Shown, opened_in}
use Rattle.cat_core.specs.Stands.{IsKeptOpen, Stands, open_of, told_past}

-- ---- lists

-- what holds of each, and of none, holds at each place
pub all-at : {X : Type 0} (P : X → Type 0) (xs : List X) (i : ℕ) (d : X) → AllByRecursion P xs → P d → P (slice_index_or xs i d)
all-at P [] i d all none = none
all-at P (x ∷ xs) zero d all none = all.0
all-at P (x ∷ xs) (suc i) d all none = all-at P xs i d all.1 none

-- and at each place within
pub all-within : {X : Type 0} (P : X → Type 0) (xs : List X) (i : ℕ) (d : X) → AllByRecursion P xs → i < length xs → P (slice_index_or xs i d)
all-within P [] i d all lt = absurd (omega (arith, lt))
all-within P (x ∷ xs) zero d all lt = all.0
all-within P (x ∷ xs) (suc i) d all lt = all-within P xs i d all.1 (omega (arith, lt))

pub all-put : {X : Type 0} (P : X → Type 0) (xs : List X) (i : ℕ) (x : X) → AllByRecursion P xs → P x → AllByRecursion P (slice_set xs i x)
all-put P [] i x all new = tt
all-put P (y ∷ xs) zero x all new = (new, all.1)
all-put P (y ∷ xs) (suc i) x all new = (all.0, all-put P xs i x all.1 new)

drop-none : {X : Type 0} (n : ℕ) → drop n [] ≡ drop {A = X} 0 []
drop-none zero = refl
drop-none (suc n) = refl

-- first some and then more
pub drop-twice : {X : Type 0} (n m j : ℕ) (xs : List X) → j ≡ m + n → drop n (drop m xs) ≡ drop j xs
drop-twice n zero j xs e = ap (λ k. drop k xs) (omega (arith, e))
drop-twice n (suc m) zero xs e = absurd (omega (arith, e))
drop-twice n (suc m) (suc j) [] e = drop-none n
drop-twice n (suc m) (suc j) (x ∷ xs) e = drop-twice n m j xs (omega (arith, e))

-- ---- conflicts

-- kinds are looked through as the versions that have them
pub first-mapped : (mine : List Kind) (n : ℕ) (vs : List Version) → first_from mine n vs ≡ first_in mine n (map (λ (v : Version). v.kinds) vs)
first-mapped mine n [] = refl
first-mapped mine n (v ∷ vs) = ap (or_later (first_clash mine n v.kinds)) (first-mapped mine (n + 1) vs)

both-none : (a b : Option Clash) → or_later a b ≡ None → (a ≡ None) × (b ≡ None)
both-none None b e = (refl, e)
both-none (Some c) b e = absurd cc

apart-each : (mine : List Kind) (n : ℕ) (vs : List Version) → first_from mine n vs ≡ None → AllByRecursion (λ (v : Version). AreApart mine v.kinds) vs
apart-each mine n [] e = tt
apart-each mine n (v ∷ vs) e =
    let both = both-none (first_clash mine n v.kinds) (first_from mine (n + 1) vs) e in
    ((none_stands mine n v.kinds).0 both.0, apart-each mine (n + 1) vs both.1)

-- where no pair is found, the kinds of all versions are apart from mine
pub none-found : (mine : List Kind) (n : ℕ) (vs : List Version) → first_from mine n vs ≡ None → AreApart mine (flat_map (λ (v : Version). v.kinds) vs)
none-found mine n vs e = all_flat (IsApart mine) (λ (v : Version). v.kinds) vs (apart-each mine n vs e)

-- ---- numbers

last-number : (start n : ℕ) (rs : List SnapshotRow) (r : SnapshotRow) → map (λ (q : SnapshotRow). q.snapshot_id) (rs ++ r ∷ []) ≡ range_with_len start n → r.snapshot_id + 1 ≡ start + n
last-number start zero [] r e = absurd cc
last-number start (suc zero) [] r e = let is : r.snapshot_id ≡ start = cc in omega (arith, is)
last-number start (suc (suc n)) [] r e = absurd cc
last-number start zero (q ∷ rs) r e = absurd cc
last-number start (suc n) (q ∷ rs) r e =
    let rest : map (λ (p : SnapshotRow). p.snapshot_id) (rs ++ r ∷ []) ≡ range_with_len (start + 1) n = cc in
    let more = last-number (start + 1) n rs r rest in
    omega (arith, more)

-- the newest snapshot of sound rows
pub newest-sound : (t : Tables) (files : Files) (first : ℕ) (versions : List Version) (sound : IsSound t files first versions) → newest t.snapshot ≡ Some sound.newest
newest-sound t files first versions sound = ap newest sound.snapshots ∙ newest-append sound.before sound.newest

module _ (c : Shown) (files : Files) (g : Ground) (stands : Stands c files g) where
  -- ---- the head

  pub newest-is : newest c.rows.snapshot ≡ Some stands.sound.newest
  newest-is = newest-sound c.rows files g.core.first g.core.versions stands.sound

  pub newest-same : (r : SnapshotRow) → newest c.rows.snapshot ≡ Some r → r ≡ stands.sound.newest
  newest-same r e = same_row (sym e ∙ newest-is)

  pub versions-count : length g.core.versions ≡ length stands.sound.older + 1
  versions-count = ap length stands.sound.versions_are ∙ length-append stands.sound.older (stands.sound.head ∷ [])

  -- its number is the head's
  pub head-number : stands.sound.newest.snapshot_id ≡ head g.core
  head-number =
      let last = last-number g.core.first (length g.core.versions) stands.sound.before stands.sound.newest (ap (map (λ (q : SnapshotRow). q.snapshot_id)) (sym stands.sound.snapshots) ∙ stands.sound.numbers) in
      omega (arith, last)

  pub number-is : (r : SnapshotRow) → newest c.rows.snapshot ≡ Some r → r.snapshot_id ≡ head g.core
  number-is r e = ap (λ (q : SnapshotRow). q.snapshot_id) (newest-same r e) ∙ head-number

  pub version-at-head : version_at g.core (head g.core) ≡ stands.sound.head
  version-at-head =
      let place : head g.core - g.core.first ≡ length stands.sound.older = let n = versions-count in omega (arith, n) in
      ap (λ i. slice_index_or g.core.versions i first_version) place
      ∙ ap (λ vs. slice_index_or vs (length stands.sound.older) first_version) stands.sound.versions_are
      ∙ get_or-append_seam stands.sound.older stands.sound.head [] first_version

  pub catalog-small : stands.sound.newest.next_catalog_id ≤ last_id
  catalog-small =
      let n = stands.sound.newest in
      let fine : has_large_id n ≡ false = false_from_ne_true (has_large_id n) (λ e. stands.sound.rules.1.1.1.1.1.1.1.1.1.1.1.0 (of_snapshot n) (n, newest-is, inl (e, refl))) in
      ltb-false last_id n.next_catalog_id (or_parts (nat_lt last_id n.next_catalog_id) (nat_lt last_id n.next_file_id) fine).0

  -- ---- kept versions

  pub record IsWithin (n : ℕ) : Type 0 where
    pub low : g.core.first ≤ n
    pub high : n ≤ head g.core
    pub place : n - g.core.first < length g.core.versions

  pub within : (n : ℕ) → is_kept g.core n ≡ true → IsWithin n
  within n e =
      let both = and_parts (nat_le g.core.first n) (nat_le n (head g.core)) e in
      let low = leb-true g.core.first n both.0 in
      let high = leb-true n (head g.core) both.1 in
      let count = versions-count in
      record { low = low; high = high; place = omega (arith, low, high, count) }

  pub each-kept : (P : Version → Type 0) → AllByRecursion P g.core.versions → (n : ℕ) → is_kept g.core n ≡ true → P (version_at g.core n)
  each-kept P all n e = all-within P g.core.versions (n - g.core.first) first_version all (within n e).place

  pub head-kept : (P : Version → Type 0) → AllByRecursion P g.core.versions → P stands.sound.head
  head-kept P all =
      let count = versions-count in
      subst P version-at-head (all-within P g.core.versions (head g.core - g.core.first) first_version all (omega (arith, count)))

  -- ---- kinds since the start

  pub kinds-since : (n : ℕ) → c.start ≤ n → drop (n - c.start) c.kinds ≡ map (λ (v : Version). v.kinds) (drop (n + 1 - g.core.first) g.core.versions)
  kinds-since n le =
      let low = (within c.start stands.start).low in
      ap (drop (n - c.start)) stands.kinds
      ∙ drop-map (λ (v : Version). v.kinds) (n - c.start) (drop (c.start + 1 - g.core.first) g.core.versions)
      ∙ ap (map (λ (v : Version). v.kinds)) (drop-twice (n - c.start) (c.start + 1 - g.core.first) (n + 1 - g.core.first) g.core.versions (omega (arith, low, le)))

  -- ---- what is open

  pub open-is : (session : ℕ) (o : Opened) → opened_in c.opens session ≡ Some o → open_at g.core session ≡ Some (open_of o)
  open-is session o slot =
      ap (λ os. slice_index_or os (session - 1) None) (sym stands.opens)
      ∙ get_or-map (option_map open_of) c.opens (session - 1) None
      ∙ ap (option_map open_of) slot

  pub kept-open : (session : ℕ) (o : Opened) → opened_in c.opens session ≡ Some o → IsKeptOpen c.rows files c.start g.core o
  kept-open session o slot =
      subst (λ x. IfSome x (IsKeptOpen c.rows files c.start g.core)) slot
      (all-at (λ x. IfSome x (IsKeptOpen c.rows files c.start g.core)) c.opens (session - 1) None stands.each tt)

-- A session has this open, and may write it.
pub record IsWriting (c : Shown) (files : Files) (g : Ground) (session : ℕ) (o : Opened) : Type 0 where
  pub stands : Stands c files g
  pub slot : opened_in c.opens session ≡ Some o
  pub writes : o.read_only ≡ false

module _ (c : Shown) (files : Files) (g : Ground) (session : ℕ) (o : Opened) (w : IsWriting c files g session o) where
  pub kept-base : IsKeptOpen c.rows files c.start g.core o
  kept-base = kept-open c files g w.stands session o w.slot

  pub schemas-are : (version_at g.core o.base).state.schemas ≡ o.version.schemas
  schemas-are = sym (ap (λ (s : State). s.schemas) (kept-base.whole w.writes))

  -- a pair is found in the core where the plain lake has it
  pub past-since : (own : List Change) → first_past g.core o.base own ≡ first_since c o.base (kinds o.version.schemas own)
  past-since own =
      let since = kept-base.since w.writes in
      ap (λ (names : List SchemaName). first_from (kinds names own) (o.base + 1) (drop (o.base + 1 - g.core.first) g.core.versions)) schemas-are
      ∙ first-mapped (kinds o.version.schemas own) (o.base + 1) (drop (o.base + 1 - g.core.first) g.core.versions)
      ∙ ap (first_in (kinds o.version.schemas own) (o.base + 1)) (sym (kinds-since c files g w.stands o.base since))

  -- A list that fits what is open, and conflicts with nothing since, is free at the head.
  module _ (own : List Change) (grows : AllByRecursion IsGrowth own) (fits : FitsOpen g.core own (open_at g.core session))
      (free : first_since c o.base (kinds o.version.schemas own) ≡ None) where
    base-tells : Tells (told_past g.core o.base) (version_at g.core o.base).state w.stands.sound.head.state
    base-tells =
        subst (λ (v : Version). Tells (told_past g.core o.base) (version_at g.core o.base).state v.state) (version-at-head c files g w.stands)
        (w.stands.told o.base (kept-base.since w.writes) kept-base.kept)

    pub is-free : IsFree (told_past g.core o.base) (version_at g.core o.base).state w.stands.sound.head.state own
    is-free =
        let tidy = sound-tidy c.rows files g.core.first g.core.versions w.stands.sound in
        let Ids : Version → Type 0 = λ v. HasIds v.state in
        let Tidy : Version → Type 0 = λ v. IsTidy v.state in
        let counts = base-tells.counts in
        let next = w.stands.sound.counters.next_catalog in
        let small = catalog-small c files g w.stands in
        record {
          grows = grows;
          fits_base = subst (FitsOpen g.core own) (open-is c files g w.stands session o w.slot) fits;
          small = omega (arith, counts, next, small);
          base_ids = (each-kept c files g w.stands Ids w.stands.sound.ids o.base kept-base.kept).catalog;
          head_ids = (head-kept c files g w.stands Ids w.stands.sound.ids).catalog;
          base_tidy = each-kept c files g w.stands Tidy tidy o.base kept-base.kept;
          head_tidy = head-kept c files g w.stands Tidy tidy;
          tells = base-tells;
          apart = none-found (kinds (version_at g.core o.base).state.schemas own) (o.base + 1) (drop (o.base + 1 - g.core.first) g.core.versions) (past-since own ∙ free);
        }
