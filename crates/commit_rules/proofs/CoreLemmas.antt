-- A commit's snapshot is the newest after it, and what older snapshots see stays.
use Rattle.std.proofs.Common.{◌≡◌, ℕ, ◌+◌, ◌<◌, ◌≤◌, inl, inr, ⊎_elim, true, List, [], ◌∷◌, ◌++◌, map, refl, sym, ap, ◌∙◌, subst, arith, Some, None, is_lt}
use Rattle.std.specs.List.{AllByRecursion}
use Rattle.cat_tables.specs.Table.{RisesByKey, key_cmp}
use Rattle.cat_tables.specs.Validity.{IsNew}
use Rattle.cat_tables.proofs.SightLemmas.{put-last}
use Rattle.cat_rows.specs.Keys.{snapshot_key}
use Rattle.cat_rows.specs.Parts.{ArePartsOf, Endings, Parts, batch_of, with_parts}
use Rattle.cat_rows.specs.Seen.{BeginsPast, HidesKey, IsPast, Seen, seen_at}
use Rattle.cat_rows.specs.Tables.{Tables}
use Rattle.cat_rows.specs.Validities.{schema_validity, table_validity, column_validity, data_file_validity, delete_file_validity, inlined_row_validity}
use Rattle.cat_rows.specs.declared.batch.CatRow.TheVariants as row
use Rattle.cat_rows.specs.declared.batch.Key.{Key}
use Rattle.cat_rows.specs.declared.batch.Key.TheVariants as key
use Rattle.cat_rows.specs.declared.history.SnapshotRow.{SnapshotRow}
use Rattle.cat_rows.specs.declared.schemas.SchemaRow.{SchemaRow}
use Rattle.cat_rows.specs.declared.schemas.TableRow.{TableRow}
use Rattle.cat_rows.specs.declared.schemas.ColumnRow.{ColumnRow}
use Rattle.cat_rows.specs.declared.files.DataFileRow.{DataFileRow}
use Rattle.cat_rows.specs.declared.files.DeleteFileRow.{DeleteFileRow}
use Rattle.cat_rows.specs.declared.files.FileColumnStatsRow.{FileColumnStatsRow}
use Rattle.cat_rows.specs.declared.files.TableStatsRow.{TableStatsRow}
use Rattle.cat_rows.specs.declared.inlined.InlinedRow.{InlinedRow}
use Rattle.cat_rows.proofs.EarlierLemmas.{seen_before}
use Rattle.cat_rows.proofs.PartLemmas.{applied-parts, sees-parts}
use Rattle.cat_rules.specs.EachKept.{AtKept}
use Rattle.cat_rules.specs.First.{Holds}
use Rattle.cat_rules.specs.Kept.{IsKept, kept_of, newest}
use Rattle.cat_rules.specs.Sane.{IsFirstBadRow}
use Rattle.cat_rules.proofs.FirstLemmas.{all_like}
use Rattle.cat_rules.proofs.SnapshotLemmas.{above}
use Rattle.commit_rules.specs.Lawful.{IsHead, IsLawful, seen_then}
use Rattle.commit_rules.specs.Laws.{AfterCommit}
use Rattle.commit_rules.proofs.TableLemmas.{In, all_in, found, in_some, some-put}

-- ---- the newest snapshot

pub newest-append : (rs : List SnapshotRow) (x : SnapshotRow) → newest (rs ++ x ∷ []) ≡ Some x
newest-append [] x = refl
newest-append (r ∷ []) x = refl
newest-append (r ∷ q ∷ rs) x = newest-append (q ∷ rs) x

pub same_row : {r h : SnapshotRow} → Some r ≡ Some h → r ≡ h
same_row e = cc

pub newest_there : (rs : List SnapshotRow) (h : SnapshotRow) → newest rs ≡ Some h → In h rs
newest_there [] h e = absurd cc
newest_there (r ∷ []) h e = inl (same_row e)
newest_there (r ∷ q ∷ rs) h e = inr (newest_there (q ∷ rs) h e)

pub newest_low : (rs : List SnapshotRow) (h : SnapshotRow) → RisesByKey snapshot_key rs → newest rs ≡ Some h → AllByRecursion (λ (q : SnapshotRow). q.snapshot_id ≤ h.snapshot_id) rs
newest_low [] h up e = tt
newest_low (r ∷ []) h up e = let same : r.snapshot_id ≡ h.snapshot_id = ap (λ (q : SnapshotRow). q.snapshot_id) (same_row e) in (omega (arith, same), tt)
newest_low (r ∷ q ∷ rs) h up e =
    let rest = newest_low (q ∷ rs) h up.1 e in
    let lt : r.snapshot_id < q.snapshot_id = (above r (q ∷ rs) up.0).0 in
    (omega (arith, lt, rest.0), rest)

-- the first kept one stays
pub first_stays : (rs : List SnapshotRow) (h x : SnapshotRow) → newest rs ≡ Some h → (kept_of (rs ++ x ∷ [])).first ≡ (kept_of rs).first
first_stays [] h x e = absurd cc
first_stays (r ∷ rs) h x e = refl

pub first_low : (rs : List SnapshotRow) (h : SnapshotRow) → RisesByKey snapshot_key rs → newest rs ≡ Some h → (kept_of rs).first ≤ h.snapshot_id
first_low [] h up e = absurd cc
first_low (r ∷ rs) h up e = (newest_low (r ∷ rs) h up e).0

pub lower_key : (a b : ℕ) → a < b → is_lt (key_cmp (a ∷ []) (b ∷ [])) ≡ true
lower_key a b lt = grind (arith, key_cmp)

-- ---- the premises together

pub record IsCommit (t : Tables) (head : SnapshotRow) (p : Parts) (endings : Endings) : Type 0 where
  pub sane : IsFirstBadRow t None
  pub is_head : IsHead t head
  pub parts : ArePartsOf t head.snapshot_id p endings
  pub lawful : IsLawful t head p endings

pub after-commit : (P : Tables → Type 0) → ((t : Tables) (head : SnapshotRow) (p : Parts) (endings : Endings) → IsCommit t head p endings → P (with_parts p t)) → AfterCommit P
after-commit P f t head p endings sane is_head parts lawful =
    subst P (sym (applied-parts p t)) (f t head p endings (record { sane = sane; is_head = is_head; parts = parts; lawful = lawful }))

all_mapped : {X Y : Type 0} (P : Y → Type 0) (f : X → Y) (xs : List X) → AllByRecursion (λ x. P (f x)) xs → AllByRecursion P (map f xs)
all_mapped P f [] h = tt
all_mapped P f (x ∷ xs) h = (h.0, all_mapped P f xs h.1)

all_append : {X : Type 0} (P : X → Type 0) (xs ys : List X) → AllByRecursion P xs → AllByRecursion P ys → AllByRecursion P (xs ++ ys)
all_append P [] ys a b = b
all_append P (x ∷ xs) ys a b = (a.0, all_append P xs ys a.1 b)

all_of : {X : Type 0} (P : X → Type 0) → ((x : X) → P x) → (xs : List X) → AllByRecursion P xs
all_of P f [] = tt
all_of P f (x ∷ xs) = (f x, all_of P f xs)

module _ (t : Tables) (head : SnapshotRow) (p : Parts) (endings : Endings) (c : IsCommit t head p endings) where
  abbrev pub after : Tables
  after = with_parts p t

  pub low : AllByRecursion (λ (q : SnapshotRow). q.snapshot_id ≤ head.snapshot_id) t.snapshot
  low = newest_low t.snapshot head c.is_head.rises c.is_head.last

  pub snapshots : after.snapshot ≡ t.snapshot ++ p.snapshot ∷ []
  snapshots =
      put-last snapshot_key p.snapshot t.snapshot
      (all_like (λ (q : SnapshotRow). q.snapshot_id ≤ head.snapshot_id) (λ (q : SnapshotRow). is_lt (key_cmp (snapshot_key q) (snapshot_key p.snapshot)) ≡ true) (λ q h. lower_key q.snapshot_id p.snapshot.snapshot_id (omega (arith, h, c.parts.number))) t.snapshot low)

  pub newest_after : newest after.snapshot ≡ Some p.snapshot
  newest_after = ap newest snapshots ∙ newest-append t.snapshot p.snapshot

  pub first_after : (kept_of after.snapshot).first ≡ (kept_of t.snapshot).first
  first_after = ap (λ l. (kept_of l).first) snapshots ∙ first_stays t.snapshot head p.snapshot c.is_head.last

  -- ---- the batch is past the kept snapshots

  ends_past : {R : Type 0} (s : ℕ) → s ≤ head.snapshot_id → (name : R → Key) (rs : List R) → AllByRecursion (λ (e : Key × ℕ). s < e.1) (map (λ r. (name r, p.snapshot.snapshot_id)) rs)
  ends_past s old name rs = all_mapped (λ (e : Key × ℕ). s < e.1) (λ r. (name r, p.snapshot.snapshot_id)) rs (all_of (λ r. s < p.snapshot.snapshot_id) (λ r. omega (arith, old, c.parts.number)) rs)

  abbrev Late : ℕ → Key × ℕ → Type 0
  Late s e = s < e.1

  past : (s : ℕ) → s ≤ head.snapshot_id → IsPast s t (batch_of p)
  past s old = record {
    begins = (
      tt,
      (
        tt,
        all_append (BeginsPast s) (map (λ r. row.Schema r) p.schema) _ (all_mapped (BeginsPast s) (λ r. row.Schema r) p.schema (all_like (IsNew schema_validity (head.snapshot_id + 1)) (λ (r : SchemaRow). s < r.begin_snapshot) (λ r h. omega (arith, h.0, old)) p.schema c.parts.schema.begins))
            (all_append (BeginsPast s) (map (λ r. row.Table r) p.table) _ (all_mapped (BeginsPast s) (λ r. row.Table r) p.table (all_like (IsNew table_validity (head.snapshot_id + 1)) (λ (r : TableRow). s < r.begin_snapshot) (λ r h. omega (arith, h.0, old)) p.table c.parts.table.begins))
            (all_append (BeginsPast s) (map (λ r. row.Column r) p.column) _ (all_mapped (BeginsPast s) (λ r. row.Column r) p.column (all_like (IsNew column_validity (head.snapshot_id + 1)) (λ (r : ColumnRow). s < r.begin_snapshot) (λ r h. omega (arith, h.0, old)) p.column c.parts.column.begins))
            (all_append (BeginsPast s) (map (λ r. row.DataFile r) p.data_file) _ (all_mapped (BeginsPast s) (λ r. row.DataFile r) p.data_file (all_like (IsNew data_file_validity (head.snapshot_id + 1)) (λ (r : DataFileRow). s < r.begin_snapshot) (λ r h. omega (arith, h.0, old)) p.data_file c.parts.data_file.begins))
            (all_append (BeginsPast s) (map (λ r. row.DeleteFile r) p.delete_file) _ (all_mapped (BeginsPast s) (λ r. row.DeleteFile r) p.delete_file (all_like (IsNew delete_file_validity (head.snapshot_id + 1)) (λ (r : DeleteFileRow). s < r.begin_snapshot) (λ r h. omega (arith, h.0, old)) p.delete_file c.parts.delete_file.begins))
            (all_append (BeginsPast s) (map (λ r. row.FileColumnStats r) p.file_column_stats) _ (all_mapped (BeginsPast s) (λ r. row.FileColumnStats r) p.file_column_stats (all_of (λ (r : FileColumnStatsRow). Unit {0}) (λ r. tt) p.file_column_stats))
            (all_append (BeginsPast s) (map (λ r. row.TableStats r) p.table_stats) _ (all_mapped (BeginsPast s) (λ r. row.TableStats r) p.table_stats (all_of (λ (r : TableStatsRow). Unit {0}) (λ r. tt) p.table_stats))
            (all_append (BeginsPast s) (map (λ r. row.Inlined r) p.inlined_row) [] (all_mapped (BeginsPast s) (λ r. row.Inlined r) p.inlined_row (all_like (IsNew inlined_row_validity (head.snapshot_id + 1)) (λ (r : InlinedRow). s < r.begin_snapshot) (λ r h. omega (arith, h.0, old)) p.inlined_row c.parts.inlined_row.begins)) tt))))))),
      ),
    );
    ends =
        all_append (Late s) _ _ (ends_past s old (λ (r : SchemaRow). key.Schema r.schema_id) p.ended_schema)
        (all_append (Late s) _ _ (ends_past s old (λ (r : TableRow). key.Table r.table_id) p.ended_table)
        (all_append (Late s) _ _ (ends_past s old (λ (r : ColumnRow). key.Column r.table_id r.column_id r.begin_snapshot) p.ended_column)
        (all_append (Late s) _ _ (ends_past s old (λ (r : DataFileRow). key.DataFile r.data_file_id) p.ended_data_file)
        (all_append (Late s) _ _ (ends_past s old (λ (r : DeleteFileRow). key.DeleteFile r.delete_file_id) p.ended_delete_file)
        (all_append (Late s) _ [] (ends_past s old (λ (r : InlinedRow). key.Inlined r.table_id r.row_id r.begin_snapshot) p.ended_inlined_row) tt)))));
    removes = all_mapped (HidesKey s t) (λ (r : TableStatsRow). key.TableStats r.table_id) p.old_stats (all_of (λ (r : TableStatsRow). Unit {0}) (λ r. tt) p.old_stats);
  }

  pub seen_still : (s : ℕ) → s ≤ head.snapshot_id → seen_at s after ≡ seen_at s t
  seen_still s old = ap (seen_at s) (sym (applied-parts p t)) ∙ seen_before (batch_of p) t s (past s old)

  pub seen_new : seen_at p.snapshot.snapshot_id after ≡ seen_then t head p endings
  seen_new = ap (λ k. seen_at k after) c.parts.number ∙ ap (seen_at (head.snapshot_id + 1)) (sym (applied-parts p t)) ∙ sees-parts t head.snapshot_id p endings c.parts

  -- A rule over what each kept snapshot sees: where it stays of what the old ones see, it is owed at the new one alone.
  pub rule_stays : (Bad : Tables → Seen → Key → Type 0) → ((s : ℕ) → IsKept t s → Holds (Bad t (seen_at s t)) → Holds (Bad after (seen_at s t)))
      → Holds (AtKept (Bad t) t) → Holds (Bad after (seen_then t head p endings)) → Holds (AtKept (Bad after) after)
  rule_stays Bad stays old now k bad =
      ⊎_elim
      (λ new. now k (subst (λ seen. Bad after seen k) seen_new new))
      (λ some.
      let m = found (λ (q : SnapshotRow). Bad after (seen_at q.snapshot_id after) k) t.snapshot some in
      let s = m.item.snapshot_id in
      stays s (in_some (λ (q : SnapshotRow). q.snapshot_id ≡ s) m.item t.snapshot m.there refl) (λ j h. old j (in_some (λ (q : SnapshotRow). Bad t (seen_at q.snapshot_id t) j) m.item t.snapshot m.there h)) k
      (subst (λ seen. Bad after seen k) (seen_still s (low_of m.item m.there)) m.is))
      (some-put snapshot_key (λ (q : SnapshotRow). Bad after (seen_at q.snapshot_id after) k) p.snapshot t.snapshot bad)
    where
      low_of : (q : SnapshotRow) → In q t.snapshot → q.snapshot_id ≤ head.snapshot_id
      low_of q there = all_in (λ (x : SnapshotRow). x.snapshot_id ≤ head.snapshot_id) q t.snapshot low there
