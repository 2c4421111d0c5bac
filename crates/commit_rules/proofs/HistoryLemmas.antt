-- The rules about the layout and about snapshots and their texts, after a commit.
use Rattle.std.proofs.Common.{◌≡◌, ℕ, ◌+◌, ◌<◌, ◌≤◌, ◌⊎◌, inl, inr, ⊎_elim, Bool, true, false, not, List, [], ◌∷◌, ◌++◌, map, filter, refl, sym, ap, ◌∙◌, subst, arith, Option, Some, None, is_some, true≢false}
use Rattle.std.specs.List.{AllByRecursion}
use Rattle.cat_tables.specs.Table.{RisesByKey, has_key, put, row_of}
use Rattle.cat_tables.specs.Validity.{IsNew, all_ended, ends_at, visible_at}
use Rattle.cat_tables.proofs.RowLemmas.{key-row_of}
use Rattle.cat_tables.proofs.SightLemmas.{same_key}
use Rattle.cat_rows.specs.Batches.{holds}
use Rattle.cat_rows.specs.Keys.{schema_key, snapshot_changes_key, snapshot_key}
use Rattle.cat_rows.specs.Parts.{Endings, Parts}
use Rattle.cat_rows.specs.Tables.{Tables}
use Rattle.cat_rows.specs.Validities.{schema_laws, schema_validity}
use Rattle.cat_rows.specs.declared.batch.Key.{Key}
use Rattle.cat_rows.specs.declared.batch.Key.TheVariants as key
use Rattle.cat_rows.specs.declared.history.SnapshotRow.{SnapshotRow}
use Rattle.cat_rows.specs.declared.history.SnapshotChangesRow.{SnapshotChangesRow}
use Rattle.cat_rows.specs.declared.schemas.SchemaRow.{SchemaRow}
use Rattle.lake_types.specs.declared.kind.SchemaName.{SchemaName}
use Rattle.cat_rules.specs.First.{Holds}
use Rattle.cat_rules.specs.HistoryRule.{IsAmong, IsHistoryBad, IsMissing, IsRead, IsUnread, changes_of, is_end, name_of_schema, names_ending, snapshot_of}
use Rattle.cat_rules.specs.Kept.{newest}
use Rattle.cat_rules.specs.LayoutRule.{IsLayoutBad}
use Rattle.cat_rules.specs.Places.{of_changes}
use Rattle.cat_rules.specs.Rows.{SomeOf}
use Rattle.cat_rules.proofs.DatedLemmas.{all_fine, row_of_all}
use Rattle.cat_rules.proofs.FirstLemmas.{SomeOf_like, all_like, none_of}
use Rattle.commit_rules.specs.Laws.{RuleStays}
use Rattle.commit_rules.proofs.CoreLemmas.{IsCommit, after, after-commit, first_after, low, newest_low, newest_there, snapshots}
use Rattle.commit_rules.proofs.EndedLemmas.{ended_other, ended_those, other_number}
use Rattle.commit_rules.proofs.TableLemmas.{FindsNew, FindsOld, In, all-put_all, all_by, all_in, filter-put_all, in_some, row_of-put_all}

pub layout-stays : RuleStays IsLayoutBad
layout-stays = after-commit (λ (u : Tables). Holds (IsLayoutBad u)) (λ t head p endings c. c.sane.0)

-- ---- rows that are fine one by one

pub holds-all : {R : Type 0} (name : R → Key) (Bad : R → Type 0) (rows : List R) → AllByRecursion (λ r. Bad r → ⊥) rows → (k : Key) → SomeOf (λ r. Bad r × (name r ≡ k)) rows → ⊥
holds-all name Bad rows all k h = none_of Bad rows all (SomeOf_like (λ r. Bad r × (name r ≡ k)) Bad (λ r x. x.0) rows h)

-- ---- snapshots

pub either_append : {X : Type 0} (P : X → Type 0) (xs ys : List X) → SomeOf P (xs ++ ys) → SomeOf P xs ⊎ SomeOf P ys
either_append P [] ys h = inr h
either_append P (x ∷ xs) ys (inl h) = inl (inl h)
either_append P (x ∷ xs) ys (inr h) = ⊎_elim (λ a. inl (inr a)) (λ b. inr b) (either_append P xs ys h)

some_append : {X : Type 0} (P : X → Type 0) (xs ys : List X) → SomeOf P xs → SomeOf P (xs ++ ys)
some_append P [] ys h = absurd h
some_append P (x ∷ xs) ys (inl h) = inl h
some_append P (x ∷ xs) ys (inr h) = inr (some_append P xs ys h)

-- none is past the newest
none_past : (rs : List SnapshotRow) (n : ℕ) → AllByRecursion (λ (q : SnapshotRow). q.snapshot_id ≤ n) rs → SomeOf (λ (q : SnapshotRow). n < q.snapshot_id) rs → ⊥
none_past [] n all h = h
none_past (r ∷ rs) n all (inl lt) = absurd (omega (arith, all.0))
none_past (r ∷ rs) n all (inr h) = none_past rs n all.1 h

none-missing : (rs : List SnapshotRow) (h x : SnapshotRow) → RisesByKey snapshot_key rs → newest rs ≡ Some h → x.snapshot_id ≡ h.snapshot_id + 1 → Holds (IsMissing rs) → Holds (IsMissing (rs ++ x ∷ []))
none-missing [] h x up last next whole k bad = absurd cc
none-missing (r ∷ rs) h x up last next whole k bad =
    let n = bad.0 in
    let all = newest_low (r ∷ rs) h up last in
    let apart : IsAmong (r ∷ rs) n → ⊥ = λ some. bad.4 (some_append (λ (q : SnapshotRow). q.snapshot_id ≡ n) (r ∷ rs) (x ∷ []) some) in
    let head_apart : h.snapshot_id ≡ n → ⊥ = λ e. apart (in_some (λ (q : SnapshotRow). q.snapshot_id ≡ n) h (r ∷ rs) (newest_there (r ∷ rs) h last) e) in
    let up_to : n < x.snapshot_id → SomeOf (λ (q : SnapshotRow). n < q.snapshot_id) (r ∷ rs) = λ lt. in_some (λ (q : SnapshotRow). n < q.snapshot_id) h (r ∷ rs) (newest_there (r ∷ rs) h last) (past_head n lt head_apart) in
    let later : SomeOf (λ (q : SnapshotRow). n < q.snapshot_id) (r ∷ rs) =
    ⊎_elim (λ a. a) (λ b. ⊎_elim (λ lt. up_to lt) (λ no. absurd no) b) (either_append (λ (q : SnapshotRow). n < q.snapshot_id) (r ∷ rs) (x ∷ []) bad.3) in
    ⊎_elim
    (λ sooner. whole k (n, bad.1, sooner, later, apart))
    (λ new. ⊎_elim (λ lt. none_past (r ∷ rs) n (all_like (λ (q : SnapshotRow). q.snapshot_id ≤ h.snapshot_id) (λ (q : SnapshotRow). q.snapshot_id ≤ n) (λ q le. omega (arith, le, lt, next)) (r ∷ rs) all) later) (λ no. no) new)
    (either_append (λ (q : SnapshotRow). q.snapshot_id < n) (r ∷ rs) (x ∷ []) bad.2)
  where
    past_head : (n : ℕ) → n < x.snapshot_id → (h.snapshot_id ≡ n → ⊥) → n < h.snapshot_id
    past_head n lt apart = ⊎_elim (λ a. a) (λ e. absurd (apart e)) (decide n (omega (arith, lt, next)))
      where
        decide : (n : ℕ) → n ≤ h.snapshot_id → (n < h.snapshot_id) ⊎ (h.snapshot_id ≡ n)
        decide n le = search arith

-- ---- rows that are found

pub is_true : (b : Bool) → (not b ≡ true → ⊥) → b ≡ true
is_true true f = refl
is_true false f = absurd (f refl)

pub no_not : (b : Bool) → b ≡ true → not b ≡ true → ⊥
no_not true e bad = true≢false (sym bad)
no_not false e bad = true≢false (sym e)

pub some_of : {X : Type 0} (o : Option X) → is_some o ≡ true → (x : X) × (o ≡ Some x)
some_of None e = absurd (true≢false (sym e))
some_of (Some x) e = (x, refl)

-- what was there is there, and so is a new row
still_there : {R : Type 0} (key : R → List ℕ) (k : List ℕ) (new : R) (rs : List R) → is_some (row_of key k rs) ≡ true → is_some (row_of key k (put key new rs)) ≡ true
still_there key k new rs h = ⊎_elim (λ (m : FindsNew key k (new ∷ []) (row_of key k (put key new rs))). ap is_some m.is) (λ (m : FindsOld key k (new ∷ []) rs (row_of key k (put key new rs))). ap is_some m.is ∙ h) (row_of-put_all key k (new ∷ []) rs)

new_there : {R : Type 0} (key : R → List ℕ) (k : List ℕ) (new : R) (rs : List R) → key new ≡ k → is_some (row_of key k (put key new rs)) ≡ true
new_there key k new rs e =
    ⊎_elim (λ (m : FindsNew key k (new ∷ []) (row_of key k (put key new rs))). ap is_some m.is)
    (λ (m : FindsOld key k (new ∷ []) rs (row_of key k (put key new rs))). absurd (true≢false (sym (subst (λ l. has_key key l new ≡ true) e (same_key key new)) ∙ m.none.0))) (row_of-put_all key k (new ∷ []) rs)

pub first_number : {a b : ℕ} → a ∷ [] ≡ b ∷ [] → a ≡ b
first_number e = cc

module _ (t : Tables) (head : SnapshotRow) (p : Parts) (endings : Endings) (c : IsCommit t head p endings) where
  abbrev u : Tables
  u = after t head p endings c

  old : Holds (IsHistoryBad t)
  old = c.sane.1.0

  texts_there : AllByRecursion (λ (r : SnapshotRow). not (holds t (changes_of r)) ≡ true → ⊥) t.snapshot
  texts_there = all_fine changes_of (λ (r : SnapshotRow). not (holds t (changes_of r)) ≡ true) t.snapshot (λ k h. old k (inl (inr (inl h))))

  snapshots_there : AllByRecursion (λ (r : SnapshotChangesRow). not (holds t (snapshot_of r)) ≡ true → ⊥) t.snapshot_changes
  snapshots_there = all_fine snapshot_of (λ (r : SnapshotChangesRow). not (holds t (snapshot_of r)) ≡ true) t.snapshot_changes (λ k h. old k (inl (inr (inr h))))

  texts_after : AllByRecursion (λ (r : SnapshotRow). not (holds u (changes_of r)) ≡ true → ⊥) u.snapshot
  texts_after =
      all-put_all snapshot_key (λ (r : SnapshotRow). not (holds u (changes_of r)) ≡ true → ⊥) (p.snapshot ∷ []) t.snapshot
      (no_not (holds u (changes_of p.snapshot)) (new_there snapshot_changes_key (p.snapshot.snapshot_id ∷ []) p.changes t.snapshot_changes (ap (λ n. n ∷ []) c.lawful.history.number)), tt)
      (all_like (λ (r : SnapshotRow). not (holds t (changes_of r)) ≡ true → ⊥) (λ (r : SnapshotRow). not (holds u (changes_of r)) ≡ true → ⊥)
      (λ r fine. no_not (holds u (changes_of r)) (still_there snapshot_changes_key (r.snapshot_id ∷ []) p.changes t.snapshot_changes (is_true (holds t (changes_of r)) fine))) t.snapshot texts_there)

  snapshots_after : AllByRecursion (λ (r : SnapshotChangesRow). not (holds u (snapshot_of r)) ≡ true → ⊥) u.snapshot_changes
  snapshots_after =
      all-put_all snapshot_changes_key (λ (r : SnapshotChangesRow). not (holds u (snapshot_of r)) ≡ true → ⊥) (p.changes ∷ []) t.snapshot_changes
      (no_not (holds u (snapshot_of p.changes)) (new_there snapshot_key (p.changes.snapshot_id ∷ []) p.snapshot t.snapshot (ap (λ n. n ∷ []) (sym c.lawful.history.number))), tt)
      (all_like (λ (r : SnapshotChangesRow). not (holds t (snapshot_of r)) ≡ true → ⊥) (λ (r : SnapshotChangesRow). not (holds u (snapshot_of r)) ≡ true → ⊥)
      (λ r fine. no_not (holds u (snapshot_of r)) (still_there snapshot_key (r.snapshot_id ∷ []) p.snapshot t.snapshot (is_true (holds t (snapshot_of r)) fine))) t.snapshot_changes snapshots_there)

  -- ---- texts

  named_by : (s : ℕ) → holds t (key.Snapshot s) ≡ true → s ≤ head.snapshot_id
  named_by s h =
      let q = some_of (row_of snapshot_key (s ∷ []) t.snapshot) h in
      let same : q.0.snapshot_id ≡ s = first_number (key-row_of snapshot_key (s ∷ []) t.snapshot q.0 q.1) in
      let le = row_of_all snapshot_key (s ∷ []) (λ (r : SnapshotRow). r.snapshot_id ≤ head.snapshot_id) t.snapshot (low t head p endings c) q.0 q.1 in
      omega (arith, same, le)

  no_new_ends : (s : ℕ) → AllByRecursion (λ (r : SchemaRow). is_end s r.end_snapshot ≡ false) p.schema
  no_new_ends s = all_like (IsNew schema_validity (head.snapshot_id + 1)) (λ (r : SchemaRow). is_end s r.end_snapshot ≡ false) (λ r h. ap (is_end s) h.1) p.schema c.parts.schema.begins

  names_still : (s : ℕ) → s ≤ head.snapshot_id → names_ending u.schema s ≡ names_ending t.schema s
  names_still s le =
      ap (map name_of_schema) (filter-put_all schema_key (λ (r : SchemaRow). is_end s r.end_snapshot) p.schema _ (no_new_ends s))
      ∙ ended_other schema_key schema_validity schema_laws name_of_schema (λ e r. refl) s p.snapshot.snapshot_id (other_number p.snapshot.snapshot_id s (λ e. absurd (omega (arith, c.parts.number)))) p.ended_schema t.schema

  names_new : names_ending u.schema p.snapshot.snapshot_id ≡ map name_of_schema p.ended_schema
  names_new =
      ap (names_ending u.schema) c.parts.number
      ∙ ap (map name_of_schema) (filter-put_all schema_key (λ (r : SchemaRow). is_end (head.snapshot_id + 1) r.end_snapshot) p.schema _ (no_new_ends (head.snapshot_id + 1)))
      ∙ moved c.parts.number c.parts.schema.ends
    where
      ends_of : ℕ → List SchemaRow → List SchemaName
      ends_of m ended = names_ending (all_ended schema_validity schema_key (ends_at schema_key m ended) t.schema) (head.snapshot_id + 1)

      moved : p.snapshot.snapshot_id ≡ head.snapshot_id + 1 → p.ended_schema ≡ filter endings.schema (visible_at schema_validity head.snapshot_id t.schema) → ends_of p.snapshot.snapshot_id p.ended_schema ≡ map name_of_schema p.ended_schema
      moved same ends =
          ap (λ m. ends_of m p.ended_schema) same ∙ ap (ends_of (head.snapshot_id + 1)) ends
          ∙ ended_those schema_key schema_validity schema_laws name_of_schema (λ e r. refl) head.snapshot_id endings.schema t.schema c.parts.settled.schema.rises c.parts.settled.schema.by ∙ ap (map name_of_schema) (sym ends)

  read_before : AllByRecursion (λ (r : SnapshotChangesRow). IsUnread t (names_ending t.schema) r → ⊥) t.snapshot_changes
  read_before = all_fine of_changes (IsUnread t (names_ending t.schema)) t.snapshot_changes (λ k h. old k (inr h))

  read_after : AllByRecursion (λ (r : SnapshotChangesRow). IsUnread u (names_ending u.schema) r → ⊥) u.snapshot_changes
  read_after =
      all-put_all snapshot_changes_key (λ (r : SnapshotChangesRow). IsUnread u (names_ending u.schema) r → ⊥) (p.changes ∷ []) t.snapshot_changes
      (λ bad. bad.2 (subst (λ names. IsRead names p.changes.changes_made) (sym names_new ∙ ap (names_ending u.schema) (sym c.lawful.history.number)) c.lawful.history.text), tt)
      (all_by (λ (r : SnapshotChangesRow). IsUnread u (names_ending u.schema) r → ⊥) t.snapshot_changes one)
    where
      one : (r : SnapshotChangesRow) → In r t.snapshot_changes → IsUnread u (names_ending u.schema) r → ⊥
      one r there bad =
          let is_kept : holds t (key.Snapshot r.snapshot_id) ≡ true = is_true (holds t (snapshot_of r)) (all_in (λ (q : SnapshotChangesRow). not (holds t (snapshot_of q)) ≡ true → ⊥) r t.snapshot_changes snapshots_there there) in
          all_in (λ (q : SnapshotChangesRow). IsUnread t (names_ending t.schema) q → ⊥) r t.snapshot_changes read_before there
          (subst (λ first. first < r.snapshot_id) (first_after t head p endings c) bad.0, is_kept, λ read. bad.2 (subst (λ names. IsRead names r.changes_made) (sym (names_still r.snapshot_id (named_by r.snapshot_id is_kept))) read))

  history_after : Holds (IsHistoryBad u)
  history_after k (inl (inl h)) =
      subst (λ l. Holds (IsMissing l)) (sym (snapshots t head p endings c)) (none-missing t.snapshot head p.snapshot c.is_head.rises c.is_head.last c.parts.number (λ j x. old j (inl (inl x)))) k h
  history_after k (inl (inr (inl h))) = holds-all changes_of (λ (r : SnapshotRow). not (holds u (changes_of r)) ≡ true) u.snapshot texts_after k h
  history_after k (inl (inr (inr h))) = holds-all snapshot_of (λ (r : SnapshotChangesRow). not (holds u (snapshot_of r)) ≡ true) u.snapshot_changes snapshots_after k h
  history_after k (inr h) = holds-all of_changes (IsUnread u (names_ending u.schema)) u.snapshot_changes read_after k h

pub history-stays : RuleStays IsHistoryBad
history-stays = after-commit (λ (u : Tables). Holds (IsHistoryBad u)) history_after
