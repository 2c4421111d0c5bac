-- Record counts and sizes after a commit.
use Rattle.std.proofs.Common.{◌≡◌, inl, inr, ℕ, ◌+◌, ◌<◌, ◌≤◌, ◌==◌, min, Bool, true, false, true≢false, cond, List, [], ◌∷◌, ◌++◌, filter, find, length, map, Option, Some, None, IfSome, option_map, refl, sym, ap, ap₂, ◌∙◌, subst, arith, add-zero}
use Rattle.std.specs.List.{AllByRecursion, AllZip, sum_by}
use Rattle.std.proofs.lemmas.Bool.{eq-eqb, eqb-true}
use Rattle.std.proofs.lemmas.List.{length-append, length-map}
use Rattle.std.proofs.lemmas.List.Sums.{sum_by-append}
use Rattle.lake_types.specs.Cells.{laid_cells}
use Rattle.lake_types.specs.declared.limits.TheConstants.{MAX_COUNTER}
use Rattle.lake_types.specs.declared.value.Row.{Row}
use Rattle.lake_model.specs.Apply.{Draft, apply, left, numbered, settled_table, table_id}
use Rattle.lake_model.specs.Core.{Version, next_version}
use Rattle.lake_model.specs.Creations.{creations}
use Rattle.lake_model.specs.Growth.{grown, left_tables, made_tables, rows_for}
use Rattle.lake_model.specs.Kinds.{drops_table}
use Rattle.lake_model.specs.Laws.{RiseBelow}
use Rattle.lake_model.specs.State.{State, Table}
use Rattle.lake_model.specs.declared.change.Ref.{Ref}
use Rattle.lake_model.specs.declared.change.Ref.TheVariants as ref
use Rattle.lake_rebase.proofs.HeadLemmas.{old-new, old-old, table-left}
use Rattle.lake_rebase.proofs.MakeLemmas.{table-new}
use Rattle.lake_rebase.proofs.MemberLemmas.{In, all_by, all_in, found_in, in_right, map_in, none_in, one_of_id}
use Rattle.lake_model.proofs.IdLemmas.{length-numbered}
use Rattle.lake_model.proofs.TableLemmas.{all-mapped}
use Rattle.cat_rows.proofs.EarlierLemmas.{seen_before}
use Rattle.cat_rows.proofs.PartLemmas.{applied-parts}
use Rattle.cat_rows.specs.Keys.{table_key}
use Rattle.cat_rows.specs.Tables.{Tables}
use Rattle.commit_rules.proofs.TableLemmas.{all-ended, all-put_all, over_end}
use Rattle.cat_rows.specs.Parts.{batch_of}
use Rattle.cat_rows.specs.Seen.{Seen, seen_at}
use Rattle.cat_rows.specs.Validities.{data_file_validity, delete_file_validity, table_validity}
use Rattle.cat_rows.specs.declared.files.DataFileRow.{DataFileRow}
use Rattle.cat_rows.specs.declared.files.DeleteFileRow.{DeleteFileRow}
use Rattle.cat_rows.specs.declared.files.TableStatsRow.{TableStatsRow}
use Rattle.cat_rows.specs.declared.history.SnapshotRow.{SnapshotRow}
use Rattle.cat_rows.specs.declared.schemas.TableRow.{TableRow}
use Rattle.cat_rules.proofs.FirstLemmas.{all_like}
use Rattle.cat_view.specs.Sight.{IsTableAt, data_rows, stats_row}
use Rattle.cat_view.specs.Staged.{NamedStagedFile, staged_for}
use Rattle.cat_stands.proofs.FileLemmas.{all-seen}
use Rattle.cat_stands.specs.Stands.{IsCounted, IsCountedLast, IsPlain, last_with, later_or, seen_size, states_at}
use Rattle.rebase.specs.Parts.{bytes_in, file_row, made_stats, table_row}
use Rattle.commit_laws.specs.StandLaws.{CountsGoOn}
use Rattle.commit_laws.proofs.StandCaseLemmas.{Case, after, deletes-low, files-low, head, n, next, now, p, same-next, seen_then, sees, tables-low}
use Rattle.commit_laws.proofs.CoreLemmas.{low, past, snapshots}
use Rattle.commit_laws.proofs.StandCounterLemmas.{all-applied, applied-is, count-of, gained-rows, head-low, made-blank, named-of}
use Rattle.commit_laws.proofs.HeldLemmas.{made-count}
use Rattle.commit_laws.proofs.StandListLemmas.{all_both, its_own, new_own, old_own}
use Rattle.commit_laws.proofs.PlainLemmas.{v, v-sees, zip_left}
use Rattle.commit_laws.proofs.RefLemmas.{IsPlaced, made-past}
use Rattle.commit_laws.proofs.StagedLemmas.{listed}
use Rattle.commit_laws.proofs.StatsLemmas.{gained, none-gained, stats-made, stats-old}
use Rattle.commit_laws.proofs.TargetLemmas.{IsTarget}
use Rattle.commit_laws.proofs.VersionLemmas.{file-rows, target}

-- ---- sums

capped : (m a b : ℕ) → min m (min m a + b) ≡ min m (a + b)
capped m a b = omega arith

abbrev size_of : DataFileRow → ℕ
size_of f = f.file_size_bytes

pub gained-size : (o : Option NamedStagedFile) (r : TableStatsRow) (total : ℕ) → r.file_size_bytes ≡ min MAX_COUNTER total → (gained o r).file_size_bytes ≡ min MAX_COUNTER (total + bytes_in o)
gained-size None r total h = h ∙ ap (min MAX_COUNTER) (sym (add-zero total))
gained-size (Some f) r total h = ap (λ k. min MAX_COUNTER (k + f.size)) h ∙ capped MAX_COUNTER total f.size

module _ (x : Case) where
  abbrev file_at : Ref → Option NamedStagedFile
  file_at at = (staged_for x.staged at).fresh

  sum-listed : (k : ℕ) (at : Ref) (o : Option NamedStagedFile) → sum_by size_of (map (file_row x.t (n x + 1) (next x) (creations 0 0 x.own) k) (listed at o)) ≡ bytes_in o
  sum-listed k at None = refl
  sum-listed k at (Some f) = omega arith

  sum-new : (at : Ref) → IsPlaced (next x) x.own at → sum_by size_of (data_rows (table_id (next x) (creations 0 0 x.own) at) (p x).data_file) ≡ bytes_in (file_at at)
  sum-new at placed = ap (sum_by size_of) (file-rows x at placed) ∙ sum-listed _ at (file_at at)

  -- the sizes of a table that stays, with its new file
  size-old : (id : ℕ) → drops_table x.own (ref.Old id) ≡ false → id < next x → seen_size id (seen_then x) ≡ seen_size id (now x) + bytes_in (file_at (ref.Old id))
  size-old id stays low =
      let files : sum_by size_of (data_rows id (seen_then x).data_file) ≡ sum_by size_of (data_rows id (now x).data_file) + bytes_in (file_at (ref.Old id)) =
      ap (sum_by size_of) (its_own (λ (f : DataFileRow). f.table_id) (λ k. drops_table x.own (ref.Old k)) id (now x).data_file (p x).data_file stays)
      ∙ sum_by-append size_of (data_rows id (now x).data_file) (data_rows id (p x).data_file)
      ∙ ap (λ k. sum_by size_of (data_rows id (now x).data_file) + k) (sum-new (ref.Old id) (inl (record { id = id; is = refl; low = low }))) in
      let deletes : sum_by (λ (d : DeleteFileRow). d.file_size_bytes) (filter (λ (d : DeleteFileRow). d.table_id == id) (seen_then x).delete_file) ≡ sum_by (λ (d : DeleteFileRow). d.file_size_bytes) (filter (λ (d : DeleteFileRow). d.table_id == id) (now x).delete_file) =
      ap (sum_by (λ (d : DeleteFileRow). d.file_size_bytes)) (old_own (λ (d : DeleteFileRow). d.table_id) (next x) id (λ k. drops_table x.own (ref.Old k)) (now x).delete_file [] stays low tt) in
      ap₂ (λ a b. a + b) files deletes ∙ omega arith

  size-made : (d : Draft) → In d (made_tables 0 x.own) → seen_size (table_id (next x) (creations 0 0 x.own) d.at) (seen_then x) ≡ bytes_in (file_at d.at)
  size-made d there =
      let id = table_id (next x) (creations 0 0 x.own) d.at in
      let past = all_in (λ (e : Draft). next x ≤ table_id (next x) (creations 0 0 x.own) e.at) d (made_tables 0 x.own) (made-past (next x) x.own) there in
      let files : sum_by size_of (data_rows id (seen_then x).data_file) ≡ bytes_in (file_at d.at) =
      ap (sum_by size_of) (new_own (λ (f : DataFileRow). f.table_id) (next x) id _ (now x).data_file (p x).data_file past
      (all-seen data_file_validity (λ (f : DataFileRow). f.table_id < next x) (n x) x.t.data_file (λ f h. h) (all_like _ (λ (f : DataFileRow). f.table_id < next x) (λ f h. h.1) x.t.data_file (files-low x))))
      ∙ sum-new d.at (inr (record { draft = d; there = there; is = refl })) in
      let deletes : sum_by (λ (e : DeleteFileRow). e.file_size_bytes) (filter (λ (e : DeleteFileRow). e.table_id == id) (seen_then x).delete_file) ≡ 0 =
      ap (sum_by (λ (e : DeleteFileRow). e.file_size_bytes)) (new_own (λ (e : DeleteFileRow). e.table_id) (next x) id _ (now x).delete_file [] past
      (all-seen delete_file_validity (λ (e : DeleteFileRow). e.table_id < next x) (n x) x.t.delete_file (λ e h. h) (all_like _ (λ (e : DeleteFileRow). e.table_id < next x) (λ e h. h.1) x.t.delete_file (deletes-low x)))) in
      ap₂ (λ a b. a + b) files deletes ∙ add-zero (bytes_in (file_at d.at))

  -- ---- tables that the new snapshot sees

  counted-old : (tb : Table) → In tb (head x).tables → drops_table x.own (ref.Old tb.id) ≡ false → IsCounted x.t (n x, tb) → IsCounted (after x) (n x + 1, grown x.own tb)
  counted-old tb there stays is =
      let o = file_at (ref.Old tb.id) in
      let more = rows_for (ref.Old tb.id) x.own in
      let rows : length (grown x.own tb).rows ≡ length tb.rows + length more =
      length-append tb.rows (numbered tb.next_row (map (laid_cells tb.columns) more)) ∙ ap (λ k. length tb.rows + k) (length-numbered tb.next_row (map (laid_cells tb.columns) more) ∙ length-map more (laid_cells tb.columns)) in
      record {
        row = gained o is.row;
        there = stats-old x tb.id (head-low x tb there) ∙ ap (option_map (gained o)) is.there;
        records = gained-rows o is.row ∙ ap₂ (λ a b. a + b) is.records (sym (count-of x tb there stays)) ∙ sym rows;
        size = gained-size o is.row (seen_size tb.id (now x)) is.size
            ∙ ap (min MAX_COUNTER) (sym (size-old tb.id stays (head-low x tb there)) ∙ ap (seen_size tb.id) (sym (sees x)));
      }

  pub counted-made : (d : Draft) → In d (made_tables 0 x.own) → IsCounted (after x) (n x + 1, settled_table (next x) (creations 0 0 x.own) d)
  counted-made d there = record {
    row = made_stats (next x) (creations 0 0 x.own) x.staged d;
    there = stats-made x d there;
    records = sym (ap (λ (l : List Row). length (l ++ numbered d.next_row (left d.fresh))) (made-blank x d there).0 ∙ length-numbered d.next_row (left d.fresh) ∙ made-count x d there);
    size = ap (min MAX_COUNTER) (sym (size-made d there) ∙ ap (seen_size (table_id (next x) (creations 0 0 x.own) d.at)) (sym (sees x)));
  }

-- ---- the last version that has a table

abbrev in_version : ℕ → ℕ × State → Option (ℕ × Table)
in_version id v = option_map (λ (table : Table). (v.0, table)) (find (λ (table : Table). table.id == id) v.1.tables)

or_none : {A : Type 0} (o : Option A) → later_or o None ≡ o
or_none None = refl
or_none (Some x) = refl

or_or : {A : Type 0} (a b c : Option A) → later_or (later_or a b) c ≡ later_or a (later_or b c)
or_or None b c = refl
or_or (Some x) b c = refl

last_with-push : (id : ℕ) (vs : List (ℕ × State)) (v : ℕ × State) → last_with id (vs ++ v ∷ []) ≡ later_or (in_version id v) (last_with id vs)
last_with-push id [] v = sym (or_none (in_version id v))
last_with-push id (w ∷ vs) v = ap (λ o. later_or o (in_version id w)) (last_with-push id vs v) ∙ or_or (in_version id v) (last_with id vs) (in_version id w)

states-push : (P : SnapshotRow → Version → Type 0) (r : SnapshotRow) (v : Version) (rs : List SnapshotRow) (vs : List Version) → AllZip P rs vs
    → states_at (rs ++ r ∷ []) (vs ++ v ∷ []) ≡ states_at rs vs ++ (r.snapshot_id, v.state) ∷ []
states-push P r v [] [] zip = refl
states-push P r v [] (w ∷ vs) zip = absurd zip
states-push P r v (q ∷ rs) [] zip = absurd zip
states-push P r v (q ∷ rs) (w ∷ vs) zip = ap (λ l. (q.snapshot_id, w.state) ∷ l) (states-push P r v rs vs zip.1)

zip_front : {X Y : Type 0} (P : X → Y → Type 0) (xs : List X) (x : X) (ys : List Y) (y : Y) → AllZip P (xs ++ x ∷ []) (ys ++ y ∷ []) → AllZip P xs ys
zip_front P [] x [] y h = tt
zip_front P [] x (z ∷ []) y h = absurd h.1
zip_front P [] x (z ∷ w ∷ ys) y h = absurd h.1
zip_front P (z ∷ []) x [] y h = absurd h.1
zip_front P (z ∷ w ∷ xs) x [] y h = absurd h.1
zip_front P (z ∷ xs) x (w ∷ ys) y h = (h.0, zip_front P xs x ys y h.1)

states-low : (k : ℕ) (rs : List SnapshotRow) (vs : List Version) → AllByRecursion (λ (r : SnapshotRow). r.snapshot_id ≤ k) rs → AllByRecursion (λ (v : ℕ × State). v.0 ≤ k) (states_at rs vs)
states-low k [] vs under = tt
states-low k (r ∷ rs) [] under = tt
states-low k (r ∷ rs) (v ∷ vs) under = (under.0, states-low k rs vs under.1)

-- it has the id, and its number is one of those
abbrev IsLast : ℕ → ℕ → ℕ × Table → Type 0
IsLast k id last = (last.0 ≤ k) × (last.1.id ≡ id)

version_is : (k id s : ℕ) (xs : List Table) → s ≤ k → IfSome (option_map (λ (table : Table). (s, table)) (find (λ (table : Table). table.id == id) xs)) (IsLast k id)
version_is k id s [] under = tt
version_is k id s (x ∷ xs) under = go (x.id == id) refl (version_is k id s xs under)
  where
    go : (b : Bool) → (x.id == id) ≡ b → IfSome (option_map (λ (table : Table). (s, table)) (find (λ (table : Table). table.id == id) xs)) (IsLast k id) → IfSome (option_map (λ (table : Table). (s, table)) (cond b (Some x) (find (λ (table : Table). table.id == id) xs))) (IsLast k id)
    go true e more = (under, eqb-true x.id id e)
    go false e more = more

last_is : (k id : ℕ) (vs : List (ℕ × State)) → AllByRecursion (λ (v : ℕ × State). v.0 ≤ k) vs → IfSome (last_with id vs) (IsLast k id)
last_is k id [] under = tt
last_is k id (v ∷ vs) under = either (last_with id vs) (in_version id v) (last_is k id vs under.1) (version_is k id v.0 v.1.tables under.0)
  where
    either : (a b : Option (ℕ × Table)) → IfSome a (IsLast k id) → IfSome b (IsLast k id) → IfSome (later_or a b) (IsLast k id)
    either None b x y = y
    either (Some w) b x y = x

find-all : (P : Table → Type 0) (q : Table → Bool) (xs : List Table) → AllByRecursion P xs → IfSome (find q xs) P
find-all P q [] h = tt
find-all P q (x ∷ xs) h = elim (q x) as (λ b. IfSome (cond b (Some x) (find q xs)) P) [ true ↦ h.0 | false ↦ find-all P q xs h.1 ]

-- the table of an id, where ids rise
find-one : (limit : ℕ) (tb : Table) (xs : List Table) → RiseBelow limit (map (λ (u : Table). u.id) xs) → In tb xs → find (λ (u : Table). u.id == tb.id) xs ≡ Some tb
find-one limit tb xs rise there = go (find (λ (u : Table). u.id == tb.id) xs) refl
  where
    go : (o : Option Table) → find (λ (u : Table). u.id == tb.id) xs ≡ o → find (λ (u : Table). u.id == tb.id) xs ≡ Some tb
    go None e = absurd (true≢false (sym (eq-eqb tb.id tb.id refl) ∙ none_in (λ (u : Table). u.id == tb.id) tb xs e there))
    go (Some u) e =
        let m = found_in (λ (w : Table). w.id == tb.id) u xs e in
        e ∙ ap Some (one_of_id (λ (w : Table). w.id) limit u tb xs rise m.0 there (eqb-true u.id tb.id m.1))

module _ (x : Case) where
  abbrev Plain : SnapshotRow → Version → Type 0
  Plain r v = IsPlain x.files (seen_at r.snapshot_id x.t) v.state

  abbrev olds : List (ℕ × State)
  olds = states_at x.t.snapshot x.versions

  states-head : olds ≡ states_at x.sound.before x.sound.older ++ (n x, head x) ∷ []
  states-head =
      ap₂ (λ rs vs. states_at rs vs) x.sound.snapshots x.sound.versions_are
      ∙ states-push Plain x.sound.newest x.sound.head x.sound.before x.sound.older
      (zip_front Plain x.sound.before x.sound.newest x.sound.older x.sound.head
      (subst (λ (vs : List Version). AllZip Plain (x.sound.before ++ x.sound.newest ∷ []) vs) x.sound.versions_are
      (subst (λ (rs : List SnapshotRow). AllZip Plain rs x.versions) x.sound.snapshots x.sound.plain)))

  states-after : states_at (after x).snapshot (x.versions ++ next_version x.sound.head x.own ∷ []) ≡ olds ++ (n x + 1, apply (head x) x.own) ∷ []
  states-after = ap (λ rs. states_at rs (x.versions ++ next_version x.sound.head x.own ∷ [])) (snapshots x) ∙ states-push Plain (p x).snapshot (next_version x.sound.head x.own) x.t.snapshot x.versions x.sound.plain

  -- each table of the head is counted there
  counted-head : (tb : Table) → In tb (head x).tables → IsCounted x.t (n x, tb)
  counted-head tb there =
      let y = named-of x tb there in
      let r = zip_left (IsTableAt (now x)) (now x).table (v x).tables y.named (v-sees x).tables y.there in
      let same : r.0.table_id ≡ tb.id = sym r.2.id ∙ ap (λ (u : Table). u.id) y.is in
      let all = all-seen table_validity (λ (q : TableRow). IfSome (last_with q.table_id olds) (IsCounted x.t)) (n x) x.t.table (λ q h. h) x.sound.counted in
      let here = all_in (λ (q : TableRow). IfSome (last_with q.table_id olds) (IsCounted x.t)) r.0 (now x).table all r.1 in
      let last : last_with tb.id olds ≡ Some (n x, tb) =
      ap (last_with tb.id) states-head ∙ last_with-push tb.id (states_at x.sound.before x.sound.older) (n x, head x)
      ∙ ap (λ o. later_or (option_map (λ (table : Table). (n x, table)) o) (last_with tb.id (states_at x.sound.before x.sound.older))) (find-one (head x).next_catalog tb (head x).tables x.is.free.head_ids.tables there) in
      subst (λ o. IfSome o (IsCounted x.t)) last (subst (λ k. IfSome (last_with k olds) (IsCounted x.t)) same here)

  counted-now : AllByRecursion (λ (tb : Table). IsCounted (after x) (n x + 1, tb)) (apply (head x) x.own).tables
  counted-now = all-applied x (λ (tb : Table). IsCounted (after x) (n x + 1, tb)) (λ tb there stays. counted-old x tb there stays (counted-head tb there)) (counted-made x)

  -- by the id alone
  counted-id : (id : ℕ) → (find (λ (tb : Table). tb.id == id) (apply (head x) x.own).tables ≡ None → IfSome (last_with id olds) (IsCounted (after x)))
      → IfSome (last_with id (states_at (after x).snapshot (x.versions ++ next_version x.sound.head x.own ∷ []))) (IsCounted (after x))
  counted-id id gone =
      subst (λ o. IfSome o (IsCounted (after x))) (sym (ap (last_with id) states-after ∙ last_with-push id olds (n x + 1, apply (head x) x.own)))
      (go (find (λ (tb : Table). tb.id == id) (apply (head x) x.own).tables) refl (find-all (λ (tb : Table). IsCounted (after x) (n x + 1, tb)) (λ (tb : Table). tb.id == id) (apply (head x) x.own).tables counted-now))
    where
      go : (o : Option Table) → find (λ (tb : Table). tb.id == id) (apply (head x) x.own).tables ≡ o → IfSome o (λ (tb : Table). IsCounted (after x) (n x + 1, tb))
          → IfSome (later_or (option_map (λ (table : Table). (n x + 1, table)) (find (λ (tb : Table). tb.id == id) (apply (head x) x.own).tables)) (last_with id olds)) (IsCounted (after x))
      go (Some tb) e c = subst (λ o. IfSome (later_or (option_map (λ (table : Table). (n x + 1, table)) o) (last_with id olds)) (IsCounted (after x))) (sym e) c
      go None e c = subst (λ o. IfSome (later_or (option_map (λ (table : Table). (n x + 1, table)) o) (last_with id olds)) (IsCounted (after x))) (sym e) (gone e)

  -- a table that the new snapshot doesn't see has no new file
  none-for : (id : ℕ) → find (λ (tb : Table). tb.id == id) (apply (head x) x.own).tables ≡ None → (staged_for x.staged (ref.Old id)).fresh ≡ None
  none-for id gone = go (staged_for x.staged (ref.Old id)).fresh refl
    where
      from_target : IsTarget x.is.told x.is.base (head x) x.own x.is.free x.is.version x.is.at_staging x.staged x.is.are_staged (ref.Old id) → ⊥
      from_target (inl old) =
          let named : old.table.id ≡ id = old-old old.table.id id old.at_is in
          let left = subst (λ (s : State). In (grown x.own old.table) s.tables) (sym (applied-is x)) (table-left (head x) x.own old.table old.there old.stays) in
          true≢false (sym (eq-eqb old.table.id id named) ∙ none_in (λ (tb : Table). tb.id == id) (grown x.own old.table) (apply (head x) x.own).tables gone left)
      from_target (inr made) = let new = table-new 0 x.own made.draft made.there in old-new id new.place (sym made.at_is ∙ new.is)

      go : (o : Option NamedStagedFile) → (staged_for x.staged (ref.Old id)).fresh ≡ o → (staged_for x.staged (ref.Old id)).fresh ≡ None
      go None e = e
      go (Some f) e = absurd (from_target (target x (ref.Old id) f e))

  -- an older snapshot is the last that sees it
  counted-older : (id : ℕ) → id < next x → IfSome (last_with id olds) (IsCounted x.t) → find (λ (tb : Table). tb.id == id) (apply (head x) x.own).tables ≡ None → IfSome (last_with id olds) (IsCounted (after x))
  counted-older id under is gone = go (last_with id olds) (last_is (n x) id olds (states-low (n x) x.t.snapshot x.versions (low x))) is
    where
      go : (o : Option (ℕ × Table)) → IfSome o (IsLast (n x) id) → IfSome o (IsCounted x.t) → IfSome o (IsCounted (after x))
      go None last c = tt
      go (Some w) last c =
          let kept : stats_row (after x) w.1.id ≡ stats_row x.t w.1.id =
          stats-old x w.1.id (subst (λ k. k < next x) (sym last.1) under) ∙ ap (λ o. option_map (gained o) (stats_row x.t w.1.id)) (ap (λ k. (staged_for x.staged (ref.Old k)).fresh) last.1 ∙ none-for id gone) ∙ none-gained (stats_row x.t w.1.id) in
          record {
            row = c.row;
            there = kept ∙ c.there;
            records = c.records;
            size = c.size ∙ ap (λ (seen : Seen). min MAX_COUNTER (seen_size w.1.id seen)) (sym (seen_before (batch_of (p x)) x.t w.0 (past x w.0 last.0)));
          }

  -- ---- all rows of tables

  abbrev Right : TableRow → Type 0
  Right r = IfSome (last_with r.table_id (states_at (after x).snapshot (x.versions ++ next_version x.sound.head x.own ∷ []))) (IsCounted (after x))

  right-old : (r : TableRow) → (r.table_id < next x) × IsCountedLast x.t x.versions r → Right r
  right-old r h = counted-id r.table_id (counted-older r.table_id h.0 h.1)

  right-new : (d : Draft) → In d (made_tables 0 x.own) → Right (table_row (n x + 1) (next x) (creations 0 0 x.own) d)
  right-new d there = counted-id (table_id (next x) (creations 0 0 x.own) d.at) (λ gone. absurd (true≢false (sym (eq-eqb _ _ refl) ∙ none_in (λ (tb : Table). tb.id == table_id (next x) (creations 0 0 x.own) d.at) (settled_table (next x) (creations 0 0 x.own) d) (apply (head x) x.own).tables gone made)))
    where
      made : In (settled_table (next x) (creations 0 0 x.own) d) (apply (head x) x.own).tables
      made =
          subst (λ (s : State). In (settled_table (next x) (creations 0 0 x.own) d) s.tables) (sym (applied-is x))
          (in_right _ (map (grown x.own) (left_tables (head x) x.own)) _
          (subst (λ k. In (settled_table (next x) (creations 0 0 x.own) d) (map (settled_table k (creations 0 0 x.own)) (made_tables 0 x.own))) (sym (same-next x)) (map_in (settled_table (next x) (creations 0 0 x.own)) d (made_tables 0 x.own) there)))

  pub counted-last : AllByRecursion (IsCountedLast (after x) (x.versions ++ next_version x.sound.head x.own ∷ [])) (after x).table
  counted-last =
      subst (λ rs. AllByRecursion Right rs) (sym (ap (λ (u : Tables). u.table) (applied-parts (p x) x.t)))
      (all-put_all table_key Right (p x).table _
      (all-mapped (λ (d : Draft). Right (table_row (n x + 1) (next x) (creations 0 0 x.own) d)) Right (table_row (n x + 1) (next x) (creations 0 0 x.own)) (λ d h. h) (made_tables 0 x.own) (all_by _ (made_tables 0 x.own) right-new))
      (all-ended table_key table_validity Right (p x).snapshot.snapshot_id (over_end table_key table_validity Right (p x).snapshot.snapshot_id (λ e r h. h)) (p x).ended_table x.t.table
      (all_like (λ (r : TableRow). (r.table_id < next x) × IsCountedLast x.t x.versions r) Right right-old x.t.table (all_both (λ (r : TableRow). r.table_id < next x) (IsCountedLast x.t x.versions) x.t.table (tables-low x) x.sound.counted))))

pub counts-go_on : CountsGoOn
counts-go_on t files more first versions sound time own staged is =
    counted-last (record { t = t; files = files; more = more; first = first; versions = versions; sound = sound; time = time; own = own; staged = staged; is = is })
