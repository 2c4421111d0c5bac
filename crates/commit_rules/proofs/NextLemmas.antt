-- What the new snapshot sees: rows that the head saw, and new ones.
use Rattle.std.proofs.Common.{◌≡◌, ℕ, ◌<◌, ◌≤◌, ◌⊎◌, inl, inr, ⊎_elim, Bool, true, false, cond, not, List, [], ◌∷◌, ◌++◌, map, filter, refl, sym, ap, ◌∙◌, arith, Some, None, is_eq, true≢false}
use Rattle.std.specs.List.{AllByRecursion}
use Rattle.cat_tables.specs.Table.{IsBelow, RisesByKey, has_key, key_cmp, row_of}
use Rattle.cat_tables.specs.Validity.{IsValidity, Validity, is_visible, visible_at}
use Rattle.cat_tables.proofs.KeyLemmas.{key_eq}
use Rattle.cat_rows.specs.Keys.{table_key}
use Rattle.cat_rows.specs.Parts.{Endings, Parts}
use Rattle.cat_rows.specs.Seen.{Seen, seen_at}
use Rattle.cat_rows.specs.Tables.{Tables}
use Rattle.cat_rows.specs.declared.batch.Key.{Key}
use Rattle.cat_rows.specs.declared.history.SnapshotRow.{SnapshotRow}
use Rattle.cat_rows.specs.declared.schemas.TableRow.{TableRow}
use Rattle.cat_rules.specs.EachKept.{AtKept, SeesTable}
use Rattle.cat_rules.specs.First.{Holds}
use Rattle.cat_rules.specs.Lookups.{HasRow}
use Rattle.cat_rules.specs.Rows.{SomeOf}
use Rattle.cat_rules.proofs.SeenLemmas.{row_of-visible, seen_row, visible_some}
use Rattle.commit_rules.specs.Lawful.{seen_then}
use Rattle.commit_rules.proofs.CoreLemmas.{IsCommit, newest_there}
use Rattle.commit_rules.proofs.HistoryLemmas.{either_append, first_number}
use Rattle.commit_rules.proofs.TableLemmas.{In, all_in, found, in_some}

-- ---- rows that stay, and new ones behind them

some_filter : {X : Type 0} (q : X → Bool) (P : X → Type 0) (xs : List X) → SomeOf P (filter q xs) → SomeOf P xs
some_filter q P [] h = h
some_filter q P (x ∷ xs) h = go (q x) (some_filter q P xs) h
  where
    go : (b : Bool) → (SomeOf P (filter q xs) → SomeOf P xs) → SomeOf P (cond b (x ∷ filter q xs) (filter q xs)) → P x ⊎ SomeOf P xs
    go true more (inl p) = inl p
    go true more (inr p) = inr (more p)
    go false more p = inr (more p)

pub next_some : {X : Type 0} (q : X → Bool) (P : X → Type 0) (xs news : List X) → SomeOf P (filter q xs ++ news) → SomeOf P xs ⊎ SomeOf P news
next_some q P xs news h = ⊎_elim (λ kept. inl (some_filter q P xs kept)) (λ new. inr new) (either_append P (filter q xs) news h)

pub next_member : {X : Type 0} (q : X → Bool) (xs news : List X) (x : X) → In x (filter q xs ++ news) → In x xs ⊎ In x news
next_member q xs news x h = next_some q (λ y. y ≡ x) xs news h

pub all_next : {X : Type 0} (P : X → Type 0) (q : X → Bool) (xs news : List X) → AllByRecursion P xs → AllByRecursion P news → AllByRecursion P (filter q xs ++ news)
all_next P q [] news a b = b
all_next P q (x ∷ xs) news a b = elim (q x) as (λ k. AllByRecursion P (cond k (x ∷ filter q xs) (filter q xs) ++ news)) [ true ↦ (a.0, all_next P q xs news a.1 b) | false ↦ all_next P q xs news a.1 b ]

-- what doesn't speak of ends is so of what is seen
pub all_visible : {R : Type 0} (v : Validity R) (P : R → Type 0) → ((r : R) → P r → P (v.with_end None r)) → (s : ℕ) (rs : List R) → AllByRecursion P rs → AllByRecursion P (visible_at v s rs)
all_visible v P opens s [] h = tt
all_visible v P opens s (r ∷ rs) h =
    elim (is_visible v s r) as (λ b. AllByRecursion P (map (v.with_end None) (cond b (r ∷ filter (is_visible v s) rs) (filter (is_visible v s) rs))))
    [ true ↦ (opens r h.0, all_visible v P opens s rs h.1) | false ↦ all_visible v P opens s rs h.1 ]

-- ---- rows of a key

module _ {R : Type 0} (key : R → List ℕ) where
  pub row_some : (k : List ℕ) (rs : List R) → HasRow (row_of key k rs) (λ r. Unit {0}) → SomeOf (λ r. has_key key k r ≡ true) rs
  row_some k [] h = h
  row_some k (r ∷ rs) h = go (has_key key k r) refl (row_some k rs) h
    where
      go : (b : Bool) → has_key key k r ≡ b → (HasRow (row_of key k rs) (λ r. Unit {0}) → SomeOf (λ q. has_key key k q ≡ true) rs) → HasRow (cond b (Some r) (row_of key k rs)) (λ r. Unit {0})
          → (has_key key k r ≡ true) ⊎ SomeOf (λ q. has_key key k q ≡ true) rs
      go true e more x = inl e
      go false e more x = inr (more x)

  pub some_row : (k : List ℕ) (rs : List R) → SomeOf (λ r. has_key key k r ≡ true) rs → HasRow (row_of key k rs) (λ r. Unit {0})
  some_row k [] h = h
  some_row k (r ∷ rs) h = go (has_key key k r) refl (some_row k rs) h
    where
      go : (b : Bool) → has_key key k r ≡ b → (SomeOf (λ q. has_key key k q ≡ true) rs → HasRow (row_of key k rs) (λ r. Unit {0})) → (has_key key k r ≡ true) ⊎ SomeOf (λ q. has_key key k q ≡ true) rs
          → HasRow (cond b (Some r) (row_of key k rs)) (λ r. Unit {0})
      go true e more x = tt
      go false e more (inl x) = absurd (true≢false (sym x ∙ e))
      go false e more (inr x) = more x

  -- the row that is found is among them
  pub row_member : (k : List ℕ) (rs : List R) (x : R) → row_of key k rs ≡ Some x → In x rs × (has_key key k x ≡ true)
  row_member k [] x e = absurd cc
  row_member k (r ∷ rs) x e = go (has_key key k r) refl (row_member k rs x) e
    where
      go : (b : Bool) → has_key key k r ≡ b → (row_of key k rs ≡ Some x → In x rs × (has_key key k x ≡ true)) → cond b (Some r) (row_of key k rs) ≡ Some x → In x (r ∷ rs) × (has_key key k x ≡ true)
      go true is more e = let same : r ≡ x = cc in (inl same, ap (has_key key k) (sym same) ∙ is)
      go false is more e = let rest = more e in (inr rest.0, rest.1)

  -- and the only one of its key, where keys rise
  only_row : (k : List ℕ) (rs : List R) → RisesByKey key rs → (x : R) → In x rs → has_key key k x ≡ true → row_of key k rs ≡ Some x
  only_row k [] up x there has = absurd there
  only_row k (r ∷ rs) up x (inl e) has = ap (λ b. cond b (Some r) (row_of key k rs)) (ap (has_key key k) e ∙ has) ∙ ap Some e
  only_row k (r ∷ rs) up x (inr there) has = ap (λ b. cond b (Some r) (row_of key k rs)) apart ∙ only_row k rs up.1 x there has
    where
      apart : has_key key k r ≡ false
      apart = ap (λ l. is_eq (key_cmp (key r) l)) (sym (key_eq (key x) k has)) ∙ ap is_eq (all_in (IsBelow key r) x rs up.0 there)

-- one that is seen is found by its key
pub member_row : {R : Type 0} (key : R → List ℕ) (v : Validity R) (laws : IsValidity v key) (s : ℕ) (rs : List R) → RisesByKey key rs → (k : List ℕ) (x : R) → In x (visible_at v s rs) → has_key key k x ≡ true
    → row_of key k (visible_at v s rs) ≡ Some x
member_row key v laws s rs up k x there has =
    let m = found (λ r. (is_visible v s r ≡ true) × (v.with_end None r ≡ x)) rs (visible_some v s (λ y. y ≡ x) rs there) in
    let same_key : key m.item ≡ key x = sym (laws.key_stays None m.item) ∙ ap key m.is.1 in
    row_of-visible v key laws k s rs up
    ∙ ap (seen_row v key laws s) (only_row key k rs up m.item m.there (ap (λ l. is_eq (key_cmp l k)) same_key ∙ has))
    ∙ ap (λ b. cond b (Some (v.with_end None m.item)) None) m.is.0 ∙ ap Some m.is.1

module _ (t : Tables) (head : SnapshotRow) (p : Parts) (endings : Endings) (c : IsCommit t head p endings) where
  -- a rule at the head
  pub at_head : (Bad : Tables → Seen → Key → Type 0) → Holds (AtKept (Bad t) t) → Holds (Bad t (seen_at head.snapshot_id t))
  at_head Bad old k bad = old k (in_some (λ (q : SnapshotRow). Bad t (seen_at q.snapshot_id t) k) head t.snapshot (newest_there t.snapshot head c.is_head.last) bad)

  -- a table of an old id that is seen was seen
  pub sees_still : (id : ℕ) → id < head.next_catalog_id → SeesTable (seen_then t head p endings) id → SeesTable (seen_at head.snapshot_id t) id
  sees_still id low sees =
      ⊎_elim (λ kept. some_row table_key (id ∷ []) (seen_at head.snapshot_id t).table kept)
      (λ new.
      let m = found (λ (r : TableRow). has_key table_key (id ∷ []) r ≡ true) p.table new in
      let same : m.item.table_id ≡ id = first_number (key_eq (table_key m.item) (id ∷ []) m.is) in
      let past = all_in (λ (r : TableRow). head.next_catalog_id ≤ r.table_id) m.item p.table c.lawful.counters.tables m.there in
      absurd (omega (arith, same, past, low)))
      (next_some (λ r. not (endings.table r)) (λ (r : TableRow). has_key table_key (id ∷ []) r ≡ true) (seen_at head.snapshot_id t).table p.table (row_some table_key (id ∷ []) (seen_then t head p endings).table sees))
