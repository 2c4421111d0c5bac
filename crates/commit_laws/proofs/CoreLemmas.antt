-- Snapshots, texts and versions after a commit.
use Rattle.std.proofs.Common.{◌≡◌, inl, inr, ℕ, zero, suc, ◌+◌, ◌≤◌, true, not, List, [], ◌∷◌, ◌++◌, length, map, sym, ap, ap₂, ◌∙◌, subst, arith, add-zero, is_lt}
use Rattle.std.specs.List.{AllByRecursion, AllZip, range_with_len}
use Rattle.std.proofs.lemmas.List.{length-append, map-append}
use Rattle.lake_model.proofs.TableLemmas.{all-joined}
use Rattle.lake_model.specs.Core.{HaveKinds, Version, next_version}
use Rattle.cat_tables.proofs.RowLemmas.{key-row_of}
use Rattle.cat_tables.proofs.SightLemmas.{put-last}
use Rattle.cat_tables.specs.Table.{key_cmp, row_of}
use Rattle.cat_rows.proofs.PartLemmas.{applied-parts}
use Rattle.cat_rows.proofs.PastLemmas.{past-parts}
use Rattle.cat_rows.specs.Batches.{holds}
use Rattle.cat_rows.specs.Keys.{snapshot_changes_key, snapshot_key}
use Rattle.cat_rows.specs.Parts.{batch_of}
use Rattle.cat_rows.specs.Seen.{IsPast, seen_at}
use Rattle.cat_rows.specs.Tables.{Tables}
use Rattle.cat_rows.specs.declared.history.SnapshotChangesRow.{SnapshotChangesRow}
use Rattle.cat_rows.specs.declared.history.SnapshotRow.{SnapshotRow}
use Rattle.cat_rules.proofs.DatedLemmas.{all_fine, row_of_all}
use Rattle.cat_rules.proofs.FirstLemmas.{all_like}
use Rattle.cat_rules.specs.HistoryRule.{snapshot_of}
use Rattle.commit_rules.proofs.CoreLemmas.{lower_key}
use Rattle.commit_rules.proofs.HistoryLemmas.{first_number, is_true, some_of}
use Rattle.cat_stands.proofs.EarlierLemmas.{kept-stay}
use Rattle.cat_stands.proofs.FileLemmas.{more_files-stand}
use Rattle.cat_stands.specs.LakeFacts.{HasIds}
use Rattle.cat_stands.specs.Stands.{IsPlain}
use Rattle.commit_laws.specs.Commits.{endings_of}
use Rattle.commit_laws.specs.StandLaws.{VersionsGoOn}
use Rattle.commit_laws.proofs.StandCaseLemmas.{Case, after, head, head-ids, n, p}
use Rattle.commit_laws.proofs.IdLemmas.{ids-after}
use Rattle.commit_laws.proofs.KindLemmas.{kinds-push, says-at_head}
use Rattle.commit_laws.proofs.StandListLemmas.{zip-append}
use Rattle.commit_laws.proofs.PlainLemmas.{plain-after}

-- ---- numbers

range-push : (a k : ℕ) → range_with_len a (suc k) ≡ range_with_len a k ++ (a + k) ∷ []
range-push a zero = ap (λ j. j ∷ []) (sym (add-zero a))
range-push a (suc k) = let e : a + 1 + k ≡ a + suc k = omega arith in ap (λ l. a ∷ l) (range-push (a + 1) k ∙ ap (λ j. range_with_len (a + 1) k ++ j ∷ []) e)

head_in : (a b : ℕ) (xs ys : List ℕ) → a ∷ xs ≡ b ∷ ys → (a ≡ b) × (xs ≡ ys)
head_in a b xs ys e = (cc, cc)

abbrev id_of : SnapshotRow → ℕ
id_of r = r.snapshot_id

pub record IsLastOf (a k : ℕ) (rows : List SnapshotRow) (newest : SnapshotRow) : Type 0 where
  pub next : newest.snapshot_id + 1 ≡ a + k
  pub low : AllByRecursion (λ (r : SnapshotRow). r.snapshot_id ≤ newest.snapshot_id) rows
  pub first : a ≤ newest.snapshot_id

-- the last of consecutive numbers, and all are at most it
last_number : (a k : ℕ) (before : List SnapshotRow) (newest : SnapshotRow) → map id_of (before ++ newest ∷ []) ≡ range_with_len a k → IsLastOf a k (before ++ newest ∷ []) newest
last_number a zero [] newest e = absurd cc
last_number a (suc zero) [] newest e = let here = head_in newest.snapshot_id a [] [] e in record { next = omega (arith, here.0); low = (omega arith, tt); first = omega (arith, here.0) }
last_number a (suc (suc k)) [] newest e = absurd cc
last_number a zero (r ∷ before) newest e = absurd cc
last_number a (suc k) (r ∷ before) newest e =
    let here = head_in r.snapshot_id a (map id_of (before ++ newest ∷ [])) (range_with_len (a + 1) k) e in
    let rest = last_number (a + 1) k before newest here.1 in
    record { next = omega (arith, rest.next); low = (omega (arith, here.0, rest.first), rest.low); first = omega (arith, rest.first) }

module _ (x : Case) where
  is-last : IsLastOf x.first (length x.versions) x.t.snapshot x.sound.newest
  is-last = subst (λ rows. IsLastOf x.first (length x.versions) rows x.sound.newest) (sym x.sound.snapshots)
      (last_number x.first (length x.versions) x.sound.before x.sound.newest (ap (map id_of) (sym x.sound.snapshots) ∙ x.sound.numbers))

  pub low : AllByRecursion (λ (r : SnapshotRow). r.snapshot_id ≤ n x) x.t.snapshot
  low = is-last.low

  pub snapshots : (after x).snapshot ≡ x.t.snapshot ++ (p x).snapshot ∷ []
  snapshots =
      ap (λ (u : Tables). u.snapshot) (applied-parts (p x) x.t)
      ∙ put-last snapshot_key (p x).snapshot x.t.snapshot
      (all_like (λ (r : SnapshotRow). r.snapshot_id ≤ n x) (λ (r : SnapshotRow). is_lt (key_cmp (snapshot_key r) (snapshot_key (p x).snapshot)) ≡ true) (λ r h. lower_key r.snapshot_id (n x + 1) (omega (arith, h))) x.t.snapshot low)

  changes-low : AllByRecursion (λ (r : SnapshotChangesRow). r.snapshot_id ≤ n x) x.t.snapshot_changes
  changes-low =
      all_like (λ (r : SnapshotChangesRow). not (holds x.t (snapshot_of r)) ≡ true → ⊥) (λ (r : SnapshotChangesRow). r.snapshot_id ≤ n x) one x.t.snapshot_changes
      (all_fine snapshot_of (λ (r : SnapshotChangesRow). not (holds x.t (snapshot_of r)) ≡ true) x.t.snapshot_changes (λ k h. x.sound.rules.1.0 k (inl (inr (inr h)))))
    where
      one : (r : SnapshotChangesRow) → (not (holds x.t (snapshot_of r)) ≡ true → ⊥) → r.snapshot_id ≤ n x
      one r fine =
          let q = some_of (row_of snapshot_key (r.snapshot_id ∷ []) x.t.snapshot) (is_true (holds x.t (snapshot_of r)) fine) in
          let same : q.0.snapshot_id ≡ r.snapshot_id = first_number (key-row_of snapshot_key (r.snapshot_id ∷ []) x.t.snapshot q.0 q.1) in
          subst (λ k. k ≤ n x) same (row_of_all snapshot_key (r.snapshot_id ∷ []) (λ (s : SnapshotRow). s.snapshot_id ≤ n x) x.t.snapshot low q.0 q.1)

  changes : (after x).snapshot_changes ≡ x.t.snapshot_changes ++ (p x).changes ∷ []
  changes =
      ap (λ (u : Tables). u.snapshot_changes) (applied-parts (p x) x.t)
      ∙ put-last snapshot_changes_key (p x).changes x.t.snapshot_changes
      (all_like (λ (r : SnapshotChangesRow). r.snapshot_id ≤ n x) (λ (r : SnapshotChangesRow). is_lt (key_cmp (snapshot_changes_key r) (snapshot_changes_key (p x).changes)) ≡ true) (λ r h. lower_key r.snapshot_id (n x + 1) (omega (arith, h))) x.t.snapshot_changes changes-low)

  pub past : (s : ℕ) → s ≤ n x → IsPast s x.t (batch_of (p x))
  past s old = past-parts x.t (n x) (p x) (endings_of x.own) x.is.parts s old

  abbrev pub new : Version
  new = next_version x.sound.head x.own

  abbrev Plain : Tables → SnapshotRow → Version → Type 0
  Plain t r v = IsPlain x.more (seen_at r.snapshot_id t) v.state

  numbers : map (λ (r : SnapshotRow). r.snapshot_id) (after x).snapshot ≡ range_with_len x.first (length (x.versions ++ next_version x.sound.head x.own ∷ []))
  numbers =
      ap (map id_of) snapshots ∙ map-append id_of x.t.snapshot ((p x).snapshot ∷ [])
      ∙ ap₂ (λ l k. l ++ k ∷ []) x.sound.numbers is-last.next
      ∙ sym (range-push x.first (length x.versions))
      ∙ ap (range_with_len x.first) (let e : suc (length x.versions) ≡ length x.versions + 1 = omega arith in e ∙ sym (length-append x.versions (next_version x.sound.head x.own ∷ [])))

  texts : map (λ (r : SnapshotChangesRow). r.changes_made) (after x).snapshot_changes ≡ map (λ (v : Version). v.text) (x.versions ++ next_version x.sound.head x.own ∷ [])
  texts =
      ap (map (λ (r : SnapshotChangesRow). r.changes_made)) changes
      ∙ map-append (λ (r : SnapshotChangesRow). r.changes_made) x.t.snapshot_changes ((p x).changes ∷ [])
      ∙ ap (λ l. l ++ (p x).changes.changes_made ∷ []) x.sound.texts
      ∙ sym (map-append (λ (v : Version). v.text) x.versions (next_version x.sound.head x.own ∷ []))

  plain : AllZip (λ (r : SnapshotRow) (v : Version). IsPlain x.more (seen_at r.snapshot_id (after x)) v.state) (after x).snapshot (x.versions ++ next_version x.sound.head x.own ∷ [])
  plain =
      subst (λ rows. AllZip (Plain (after x)) rows (x.versions ++ next_version x.sound.head x.own ∷ [])) (sym snapshots)
      (zip-append (Plain (after x)) x.t.snapshot ((p x).snapshot ∷ []) x.versions (next_version x.sound.head x.own ∷ [])
      (kept-stay x.more (batch_of (p x)) x.t x.t.snapshot x.versions (all_like (λ (r : SnapshotRow). r.snapshot_id ≤ n x) (λ (r : SnapshotRow). IsPast r.snapshot_id x.t (batch_of (p x))) (λ r h. past r.snapshot_id h) x.t.snapshot low)
      (more_files-stand x.t x.files x.more x.first x.versions x.is.extends x.sound).plain)
      (plain-after x, tt))

  ids : AllByRecursion (λ (v : Version). HasIds v.state) (x.versions ++ next_version x.sound.head x.own ∷ [])
  ids = all-joined (λ (v : Version). HasIds v.state) x.versions (next_version x.sound.head x.own ∷ []) x.sound.ids (ids-after (head x) x.own x.is.free.grows (head-ids x), tt)

  kinds : HaveKinds (x.versions ++ next_version x.sound.head x.own ∷ [])
  kinds =
      subst (λ vs. HaveKinds (vs ++ next_version x.sound.head x.own ∷ [])) (sym x.sound.versions_are)
      (kinds-push x.sound.older x.sound.head (next_version x.sound.head x.own) (subst HaveKinds x.sound.versions_are x.sound.kinds) (says-at_head x.is.told x.is.base (head x) x.own x.is.free))

pub versions-go_on : VersionsGoOn
versions-go_on t files more first versions sound time own staged is =
    let x : Case = record { t = t; files = files; more = more; first = first; versions = versions; sound = sound; time = time; own = own; staged = staged; is = is } in
    record { numbers = numbers x; texts = texts x; plain = plain x; ids = ids x; kinds = kinds x }
