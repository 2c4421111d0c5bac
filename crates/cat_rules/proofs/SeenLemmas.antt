-- Rules over what each kept snapshot sees, and the same told of whole tables.
use Rattle.std.proofs.Common.{◌≡◌, ◌⊎◌, inl, inr, ⊎_elim, ℕ, Bool, true, false, cond, List, [], ◌∷◌, ◌++◌, filter, map, Option, Some, None, is_none, refl, sym, ap, ◌∙◌, subst, true≢false, is_eq, Less}
use Rattle.std.specs.List.{AllByRecursion}
use Rattle.std.specs.Ordering.{ordering_reverse}
use Rattle.std.proofs.lemmas.Cmp.{nat_list_cmp_total}
use Rattle.cat_tables.specs.Table.{IsBelow, RisesByKey, has_key, key_cmp, row_of}
use Rattle.cat_tables.specs.Validity.{Validity, IsValidity, is_visible, visible_at}
use Rattle.cat_tables.proofs.KeyLemmas.{key_eq}
use Rattle.cat_rows.specs.Batches.{applied}
use Rattle.cat_rows.specs.Seen.{Seen, seen_at, IsPast}
use Rattle.cat_rows.specs.Tables.{Tables}
use Rattle.cat_rows.specs.declared.batch.Batch.{Batch}
use Rattle.cat_rows.specs.declared.batch.Key.{Key}
use Rattle.cat_rows.specs.declared.history.SnapshotRow.{SnapshotRow}
use Rattle.cat_rows.proofs.EarlierLemmas.{seen_before}
use Rattle.cat_rules.specs.EachKept.{AtKept, EachKept, HasAlike, NamesAlike, NamesWithout, SeesTable, missing_or_own}
use Rattle.cat_rules.specs.Lookups.{HasRow, table_of}
use Rattle.cat_rows.specs.Keys.{table_key}
use Rattle.cat_rows.specs.Validities.{table_laws, table_validity}
use Rattle.cat_rows.specs.declared.schemas.TableRow.{TableRow}
use Rattle.cat_rules.specs.First.{FirstBad, Holds}
use Rattle.cat_rules.specs.Kept.{AtSome}
use Rattle.cat_rules.specs.Rows.{Names, NamesIf, SomeOf}
use Rattle.cat_rules.specs.Sight.{AreSeen, HasEarlier, IsSeen, IsUnmatched, LacksOther, MissesOther, SeesWith}
use Rattle.cat_rules.proofs.FirstLemmas.{SomeOf_like, first_like}

-- ---- one of some

pub from_some : {X : Type 0} (P : X → Type 0) (Q : Type 0) → ((x : X) → P x → Q) → (xs : List X) → SomeOf P xs → Q
from_some P Q f [] h = absurd h
from_some P Q f (x ∷ xs) (inl p) = f x p
from_some P Q f (x ∷ xs) (inr h) = from_some P Q f xs h

pub some_swap : {X Y : Type 0} (P : X → Y → Type 0) (xs : List X) (ys : List Y) → SomeOf (λ x. SomeOf (P x) ys) xs → SomeOf (λ y. SomeOf (λ x. P x y) xs) ys
some_swap P [] ys h = absurd h
some_swap P (x ∷ xs) ys (inl h) = SomeOf_like (P x) (λ y. P x y ⊎ SomeOf (λ z. P z y) xs) (λ y p. inl p) ys h
some_swap P (x ∷ xs) ys (inr h) = SomeOf_like (λ y. SomeOf (λ z. P z y) xs) (λ y. P x y ⊎ SomeOf (λ z. P z y) xs) (λ y p. inr p) ys (some_swap P xs ys h)

pub some_or : {X : Type 0} (P Q : X → Type 0) (xs : List X) → SomeOf P xs ⊎ SomeOf Q xs → SomeOf (λ x. P x ⊎ Q x) xs
some_or P Q xs (inl h) = SomeOf_like P (λ x. P x ⊎ Q x) (λ x p. inl p) xs h
some_or P Q xs (inr h) = SomeOf_like Q (λ x. P x ⊎ Q x) (λ x p. inr p) xs h

pub or_some : {X : Type 0} (P Q : X → Type 0) (xs : List X) → SomeOf (λ x. P x ⊎ Q x) xs → SomeOf P xs ⊎ SomeOf Q xs
or_some P Q [] h = absurd h
or_some P Q (x ∷ xs) (inl (inl p)) = inl (inl p)
or_some P Q (x ∷ xs) (inl (inr q)) = inr (inl q)
or_some P Q (x ∷ xs) (inr h) = ⊎_elim (λ p. inl (inr p)) (λ q. inr (inr q)) (or_some P Q xs h)

-- ---- each kept snapshot

pub each-holds : (Bad : Seen → Key → Type 0) (t : Tables) → EachKept (λ seen. Holds (Bad seen)) t → Holds (AtKept Bad t)
each-holds Bad t = go t.snapshot
  where
    go : (qs : List SnapshotRow) → AllByRecursion (λ (q : SnapshotRow). Holds (Bad (seen_at q.snapshot_id t))) qs → (k : Key) → SomeOf (λ (q : SnapshotRow). Bad (seen_at q.snapshot_id t) k) qs → ⊥
    go [] all k h = h
    go (q ∷ qs) all k (inl bad) = all.0 k bad
    go (q ∷ qs) all k (inr h) = go qs all.1 k h

pub holds-each : (Bad : Seen → Key → Type 0) (t : Tables) → Holds (AtKept Bad t) → EachKept (λ seen. Holds (Bad seen)) t
holds-each Bad t = go t.snapshot
  where
    go : (qs : List SnapshotRow) → ((k : Key) → SomeOf (λ (q : SnapshotRow). Bad (seen_at q.snapshot_id t) k) qs → ⊥) → AllByRecursion (λ (q : SnapshotRow). Holds (Bad (seen_at q.snapshot_id t))) qs
    go [] h = tt
    go (q ∷ qs) h = (λ k bad. h k (inl bad), go qs (λ k more. h k (inr more)))

pub each-weaker : (P Q : Seen → Type 0) (t : Tables) → ((seen : Seen) → P seen → Q seen) → EachKept P t → EachKept Q t
each-weaker P Q t f = go t.snapshot
  where
    go : (qs : List SnapshotRow) → AllByRecursion (λ (q : SnapshotRow). P (seen_at q.snapshot_id t)) qs → AllByRecursion (λ (q : SnapshotRow). Q (seen_at q.snapshot_id t)) qs
    go [] h = tt
    go (q ∷ qs) h = (f (seen_at q.snapshot_id t) h.0, go qs h.1)

-- What is so of each kept snapshot stays so after a batch past them, where it is so of the new one.
pub each-after : (P : Seen → Type 0) (t : Tables) (b : Batch) (new : SnapshotRow) → (applied b t).snapshot ≡ t.snapshot ++ new ∷ [] → AllByRecursion (λ (q : SnapshotRow). IsPast q.snapshot_id t b) t.snapshot
    → EachKept P t → P (seen_at new.snapshot_id (applied b t)) → EachKept P (applied b t)
each-after P t b new snapshots past old now =
    subst (AllByRecursion (λ (q : SnapshotRow). P (seen_at q.snapshot_id (applied b t)))) (sym snapshots) (go t.snapshot past old)
  where
    go : (qs : List SnapshotRow) → AllByRecursion (λ (q : SnapshotRow). IsPast q.snapshot_id t b) qs → AllByRecursion (λ (q : SnapshotRow). P (seen_at q.snapshot_id t)) qs
        → AllByRecursion (λ (q : SnapshotRow). P (seen_at q.snapshot_id (applied b t))) (qs ++ new ∷ [])
    go [] h k = (now, tt)
    go (q ∷ qs) h k = (subst P (sym (seen_before b t q.snapshot_id h.0)) k.0, go qs h.1 k.1)

-- ---- rows that a snapshot sees

module _ {R : Type 0} (v : Validity R) (s : ℕ) where
  pub some_visible : (P : R → Type 0) (rs : List R) → SomeOf (λ r. (is_visible v s r ≡ true) × P (v.with_end None r)) rs → SomeOf P (visible_at v s rs)
  some_visible P [] h = h
  some_visible P (r ∷ rs) h = go (is_visible v s r) refl (some_visible P rs) h
    where
      go : (b : Bool) → is_visible v s r ≡ b → (SomeOf (λ q. (is_visible v s q ≡ true) × P (v.with_end None q)) rs → SomeOf P (visible_at v s rs))
          → ((is_visible v s r ≡ true) × P (v.with_end None r)) ⊎ SomeOf (λ q. (is_visible v s q ≡ true) × P (v.with_end None q)) rs
          → SomeOf P (map (v.with_end None) (cond b (r ∷ filter (is_visible v s) rs) (filter (is_visible v s) rs)))
      go true e more (inl p) = inl p.1
      go true e more (inr p) = inr (more p)
      go false e more (inl p) = absurd (true≢false (sym p.0 ∙ e))
      go false e more (inr p) = more p

  pub visible_some : (P : R → Type 0) (rs : List R) → SomeOf P (visible_at v s rs) → SomeOf (λ r. (is_visible v s r ≡ true) × P (v.with_end None r)) rs
  visible_some P [] h = h
  visible_some P (r ∷ rs) h = go (is_visible v s r) refl (visible_some P rs) h
    where
      go : (b : Bool) → is_visible v s r ≡ b → (SomeOf P (visible_at v s rs) → SomeOf (λ q. (is_visible v s q ≡ true) × P (v.with_end None q)) rs)
          → SomeOf P (map (v.with_end None) (cond b (r ∷ filter (is_visible v s) rs) (filter (is_visible v s) rs)))
          → ((is_visible v s r ≡ true) × P (v.with_end None r)) ⊎ SomeOf (λ q. (is_visible v s q ≡ true) × P (v.with_end None q)) rs
      go true e more (inl p) = inl (e, p)
      go true e more (inr p) = inr (more p)
      go false e more p = inr (more p)

-- ---- rows of a table, and what is so of them where kept snapshots see them

module _ {R : Type 0} (t : Tables) (v : Validity R) (One : R → Type 0) (P : ℕ → R → Type 0) where
  abbrev SeenAt : R → ℕ → Type 0
  SeenAt r s = (is_visible v s r ≡ true) × P s (v.with_end None r)

  pub rows_to_seen : ((r : R) → One r → AtSome t (λ s. (is_visible v s r ≡ true) × P s (v.with_end None r))) → (rows : List R) → SomeOf One rows → AtSome t (λ s. SomeOf (P s) (visible_at v s rows))
  rows_to_seen f rows h =
      SomeOf_like (λ (z : SnapshotRow). SomeOf (λ r. SeenAt r z.snapshot_id) rows) (λ (z : SnapshotRow). SomeOf (P z.snapshot_id) (visible_at v z.snapshot_id rows))
      (λ z some. some_visible v z.snapshot_id (P z.snapshot_id) rows some) t.snapshot
      (some_swap (λ r (z : SnapshotRow). SeenAt r z.snapshot_id) rows t.snapshot (SomeOf_like One (λ r. SomeOf (λ (z : SnapshotRow). SeenAt r z.snapshot_id) t.snapshot) f rows h))

  pub rows_from_seen : ((r : R) → AtSome t (λ s. (is_visible v s r ≡ true) × P s (v.with_end None r)) → One r) → (rows : List R) → AtSome t (λ s. SomeOf (P s) (visible_at v s rows)) → SomeOf One rows
  rows_from_seen f rows h =
      SomeOf_like (λ r. SomeOf (λ (z : SnapshotRow). SeenAt r z.snapshot_id) t.snapshot) One f rows
      (some_swap (λ (z : SnapshotRow) r. SeenAt r z.snapshot_id) t.snapshot rows
      (SomeOf_like (λ (z : SnapshotRow). SomeOf (P z.snapshot_id) (visible_at v z.snapshot_id rows)) (λ (z : SnapshotRow). SomeOf (λ r. SeenAt r z.snapshot_id) rows)
      (λ z some. visible_some v z.snapshot_id (P z.snapshot_id) rows some) t.snapshot h))

-- what is so at some kept snapshot
pub at_like : (t : Tables) (P Q : ℕ → Type 0) → ((s : ℕ) → P s → Q s) → AtSome t P → AtSome t Q
at_like t P Q f h = SomeOf_like (λ (z : SnapshotRow). P z.snapshot_id) (λ (z : SnapshotRow). Q z.snapshot_id) (λ z p. f z.snapshot_id p) t.snapshot h

pub from_at : (t : Tables) (P : ℕ → Type 0) (Q : Type 0) → ((s : ℕ) → P s → Q) → AtSome t P → Q
from_at t P Q f h = from_some (λ (z : SnapshotRow). P z.snapshot_id) Q (λ z p. f z.snapshot_id p) t.snapshot h

-- ---- an earlier row that is alike

module _ {R : Type 0} (t : Tables) (v : Validity R) (name : R → Key) (key : R → List ℕ) (Alike : R → R → Type 0)
    (opens : (q r : R) → IsBelow key q r × Alike q r → IsBelow key (v.with_end None q) (v.with_end None r) × Alike (v.with_end None q) (v.with_end None r))
    (closes : (q r : R) → IsBelow key (v.with_end None q) (v.with_end None r) × Alike (v.with_end None q) (v.with_end None r) → IsBelow key q r × Alike q r)
    (same_name : (r : R) → name (v.with_end None r) ≡ name r) (rows : List R) where
  abbrev NamedAt : Key → ℕ → R → Type 0
  NamedAt k s r = HasAlike Alike key (visible_at v s rows) r × (name r ≡ k)

  -- at s, both are seen
  abbrev Pair : R → ℕ → R → Type 0
  Pair r s q = ((is_visible v s q ≡ true) × (is_visible v s r ≡ true)) × (IsBelow key q r × Alike q r)

  to_one : (k : Key) (r : R) → HasEarlier Alike t v key rows r × (name r ≡ k) → AtSome t (λ s. (is_visible v s r ≡ true) × NamedAt k s (v.with_end None r))
  to_one k r h =
      at_like t (λ s. SomeOf (Pair r s) rows) (λ s. (is_visible v s r ≡ true) × NamedAt k s (v.with_end None r)) one
      (some_swap (λ q (z : SnapshotRow). Pair r z.snapshot_id q) rows t.snapshot
      (SomeOf_like (λ q. IsBelow key q r × Alike q r × AreSeen t v q r) (λ q. SomeOf (λ (z : SnapshotRow). Pair r z.snapshot_id q) t.snapshot)
      (λ q x. SomeOf_like (λ (z : SnapshotRow). (is_visible v z.snapshot_id q ≡ true) × (is_visible v z.snapshot_id r ≡ true)) (λ (z : SnapshotRow). Pair r z.snapshot_id q) (λ z seen. (seen, (x.0, x.1))) t.snapshot x.2) rows h.0))
    where
      one : (s : ℕ) → SomeOf (Pair r s) rows → (is_visible v s r ≡ true) × NamedAt k s (v.with_end None r)
      one s some = (
        from_some (Pair r s) (is_visible v s r ≡ true) (λ q x. x.0.1) rows some,
        (
          some_visible v s (λ q. IsBelow key q (v.with_end None r) × Alike q (v.with_end None r)) rows
              (SomeOf_like (Pair r s) (λ q. (is_visible v s q ≡ true) × (IsBelow key (v.with_end None q) (v.with_end None r) × Alike (v.with_end None q) (v.with_end None r))) (λ q x. (x.0.0, opens q r x.1)) rows some),
          same_name r ∙ h.1,
        ),
      )

  from_one : (k : Key) (r : R) → AtSome t (λ s. (is_visible v s r ≡ true) × NamedAt k s (v.with_end None r)) → HasEarlier Alike t v key rows r × (name r ≡ k)
  from_one k r h = (
    SomeOf_like (λ q. SomeOf (λ (z : SnapshotRow). Pair r z.snapshot_id q) t.snapshot) (λ q. IsBelow key q r × Alike q r × AreSeen t v q r)
        (λ q some.
        let both = from_some (λ (z : SnapshotRow). Pair r z.snapshot_id q) (IsBelow key q r × Alike q r) (λ z x. x.1) t.snapshot some in
        (both.0, both.1, SomeOf_like (λ (z : SnapshotRow). Pair r z.snapshot_id q) (λ (z : SnapshotRow). (is_visible v z.snapshot_id q ≡ true) × (is_visible v z.snapshot_id r ≡ true)) (λ z x. x.0) t.snapshot some)) rows
        (some_swap (λ (z : SnapshotRow) q. Pair r z.snapshot_id q) t.snapshot rows (at_like t (λ s. (is_visible v s r ≡ true) × NamedAt k s (v.with_end None r)) (λ s. SomeOf (Pair r s) rows) one h)),
    from_at t (λ s. (is_visible v s r ≡ true) × NamedAt k s (v.with_end None r)) (name r ≡ k) (λ s x. sym (same_name r) ∙ x.1.1) h,
  )
    where
      one : (s : ℕ) → (is_visible v s r ≡ true) × NamedAt k s (v.with_end None r) → SomeOf (Pair r s) rows
      one s x =
          SomeOf_like (λ q. (is_visible v s q ≡ true) × (IsBelow key (v.with_end None q) (v.with_end None r) × Alike (v.with_end None q) (v.with_end None r))) (Pair r s) (λ q y. ((y.0, x.0), closes q r y.1)) rows
          (visible_some v s (λ q. IsBelow key q (v.with_end None r) × Alike q (v.with_end None r)) rows x.1.0)

  pub alike-to_seen : (k : Key) → Names name (HasEarlier Alike t v key rows) rows k → AtSome t (λ s. NamesAlike name Alike key (visible_at v s rows) k)
  alike-to_seen k h = rows_to_seen t v (λ r. HasEarlier Alike t v key rows r × (name r ≡ k)) (NamedAt k) (to_one k) rows h

  pub alike-from_seen : (k : Key) → AtSome t (λ s. NamesAlike name Alike key (visible_at v s rows) k) → Names name (HasEarlier Alike t v key rows) rows k
  alike-from_seen k h = rows_from_seen t v (λ r. HasEarlier Alike t v key rows r × (name r ≡ k)) (NamedAt k) (from_one k) rows h

  pub first_alike : (o : Option Key) → FirstBad (Names name (HasEarlier Alike t v key rows) rows) o → FirstBad (λ k. AtSome t (λ s. NamesAlike name Alike key (visible_at v s rows) k)) o
  first_alike o h = first_like (Names name (HasEarlier Alike t v key rows) rows) (λ k. AtSome t (λ s. NamesAlike name Alike key (visible_at v s rows) k)) alike-to_seen alike-from_seen o h

-- ---- a row that isn't seen with the one that it refers to

module _ {S : Type 0} (w : Validity S) (key : S → List ℕ) (laws : IsValidity w key) where
  -- the row as the snapshot sees it
  abbrev pub seen_row : ℕ → Option S → Option S
  seen_row s None = None
  seen_row s (Some q) = cond (is_visible w s q) (Some (w.with_end None q)) None

  open_has_key : (k : List ℕ) (q : S) → has_key key k (w.with_end None q) ≡ has_key key k q
  open_has_key k q = ap (λ a. is_eq (key_cmp a k)) (laws.key_stays None q)

  above_lacks : (k : List ℕ) (q p : S) → has_key key k q ≡ true → IsBelow key q p → has_key key k p ≡ false
  above_lacks k q p has below =
      let same : key q ≡ k = key_eq (key q) k has in
      let less : key_cmp k (key p) ≡ Less = subst (λ a. key_cmp a (key p) ≡ Less) same below in
      ap is_eq (nat_list_cmp_total.antisymm (key p) k ∙ ap ordering_reverse less)

  none_above : (k : List ℕ) (s : ℕ) (q : S) (rs : List S) → has_key key k q ≡ true → AllByRecursion (IsBelow key q) rs → row_of key k (visible_at w s rs) ≡ None
  none_above k s q [] has below = refl
  none_above k s q (p ∷ rs) has below = go (is_visible w s p) (none_above k s q rs has below.1)
    where
      go : (b : Bool) → row_of key k (visible_at w s rs) ≡ None → row_of key k (map (w.with_end None) (cond b (p ∷ filter (is_visible w s) rs) (filter (is_visible w s) rs))) ≡ None
      go true more = ap (λ c. cond c (Some (w.with_end None p)) (row_of key k (visible_at w s rs))) (open_has_key k p ∙ above_lacks k q p has below.0) ∙ more
      go false more = more

  -- the row of a key, among those that a snapshot sees
  pub row_of-visible : (k : List ℕ) (s : ℕ) (rs : List S) → RisesByKey key rs → row_of key k (visible_at w s rs) ≡ seen_row s (row_of key k rs)
  row_of-visible k s [] up = refl
  row_of-visible k s (q ∷ rs) up = go (has_key key k q) refl (row_of-visible k s rs up.1)
    where
      here : (b : Bool) → has_key key k q ≡ true → row_of key k (map (w.with_end None) (cond b (q ∷ filter (is_visible w s) rs) (filter (is_visible w s) rs))) ≡ cond b (Some (w.with_end None q)) None
      here true has = ap (λ c. cond c (Some (w.with_end None q)) (row_of key k (visible_at w s rs))) (open_has_key k q ∙ has)
      here false has = none_above k s q rs has up.0

      past : (b : Bool) → has_key key k q ≡ false → row_of key k (map (w.with_end None) (cond b (q ∷ filter (is_visible w s) rs) (filter (is_visible w s) rs))) ≡ row_of key k (visible_at w s rs)
      past true lacks = ap (λ c. cond c (Some (w.with_end None q)) (row_of key k (visible_at w s rs))) (open_has_key k q ∙ lacks)
      past false lacks = refl

      go : (c : Bool) → has_key key k q ≡ c → row_of key k (visible_at w s rs) ≡ seen_row s (row_of key k rs)
          → row_of key k (visible_at w s (q ∷ rs)) ≡ seen_row s (cond c (Some q) (row_of key k rs))
      go true has more = here (is_visible w s q) has
      go false lacks more = past (is_visible w s q) lacks ∙ more

module _ {R S : Type 0} (t : Tables) (v : Validity R) (w : Validity S) (key : S → List ℕ) (laws : IsValidity w key) (others : List S) (up : RisesByKey key others)
    (other_key : R → List ℕ) (same_other : (r : R) → other_key (v.with_end None r) ≡ other_key r)
    (other_name name named : R → Key) (same_named : (r : R) → named (v.with_end None r) ≡ missing_or_own (λ r. row_of key (other_key r) others) other_name name r) where
  abbrev other : R → Option S
  other r = row_of key (other_key r) others

  abbrev WithoutAt : Key → ℕ → R → Type 0
  WithoutAt k s r = (row_of key (other_key r) (visible_at w s others) ≡ None) × (named r ≡ k)

  abbrev One : Key → R → Type 0
  One k r = (LacksOther t v w other r × (other_name r ≡ k)) ⊎ (MissesOther t v w other r × (name r ≡ k))

  other_at : (s : ℕ) (r : R) → row_of key (other_key (v.with_end None r)) (visible_at w s others) ≡ seen_row w key laws s (other r)
  other_at s r = ap (λ k. row_of key k (visible_at w s others)) (same_other r) ∙ row_of-visible w key laws (other_key r) s others up

  to_without : (k : Key) (r : R) → One k r → AtSome t (λ s. (is_visible v s r ≡ true) × WithoutAt k s (v.with_end None r))
  to_without k r (inl h) =
      at_like t (λ s. is_visible v s r ≡ true) (λ s. (is_visible v s r ≡ true) × WithoutAt k s (v.with_end None r))
      (λ s sees. (sees, (other_at s r ∙ ap (seen_row w key laws s) h.0.1, same_named r ∙ ap (λ o. cond (is_none o) (other_name r) (name r)) h.0.1 ∙ h.1))) h.0.0
  to_without k r (inr h) =
      at_like t (λ s. (is_visible v s r ≡ true) × (is_visible w s h.0.0 ≡ false)) (λ s. (is_visible v s r ≡ true) × WithoutAt k s (v.with_end None r))
      (λ s sees. (
        sees.0,
        (
          other_at s r ∙ ap (seen_row w key laws s) h.0.1 ∙ ap (λ b. cond b (Some (w.with_end None h.0.0)) None) sees.1,
          same_named r ∙ ap (λ o. cond (is_none o) (other_name r) (name r)) h.0.1 ∙ h.1,
        ),
      ))
      h.0.2

  from_without : (k : Key) (r : R) → AtSome t (λ s. (is_visible v s r ≡ true) × WithoutAt k s (v.with_end None r)) → One k r
  from_without k r h = go (other r) refl
    where
      is_named : named (v.with_end None r) ≡ k
      is_named = from_at t (λ s. (is_visible v s r ≡ true) × WithoutAt k s (v.with_end None r)) (named (v.with_end None r) ≡ k) (λ s x. x.1.1) h

      hidden : (s : ℕ) (q : S) (b : Bool) → is_visible w s q ≡ b → cond b (Some (w.with_end None q)) None ≡ None → b ≡ false
      hidden s q true e f = absurd cc
      hidden s q false e f = refl

      go : (o : Option S) → other r ≡ o → One k r
      go None e = inl (
        (at_like t (λ s. (is_visible v s r ≡ true) × WithoutAt k s (v.with_end None r)) (λ s. is_visible v s r ≡ true) (λ s x. x.0) h, e),
        sym (ap (λ o. cond (is_none o) (other_name r) (name r)) e) ∙ sym (same_named r) ∙ is_named,
      )
      go (Some q) e =
          inr (
            (
              q,
              e,
              at_like t (λ s. (is_visible v s r ≡ true) × WithoutAt k s (v.with_end None r)) (λ s. (is_visible v s r ≡ true) × (is_visible w s q ≡ false))
                  (λ s x. (x.0, hidden s q (is_visible w s q) refl (sym (ap (seen_row w key laws s) e) ∙ sym (other_at s r) ∙ x.1.0))) h,
            ),
            sym (ap (λ o. cond (is_none o) (other_name r) (name r)) e) ∙ sym (same_named r) ∙ is_named,
          )

  pub unmatched-to_seen : (rows : List R) (k : Key) → IsUnmatched t v w other other_name name rows k → AtSome t (λ s. NamesWithout named other_key key (visible_at v s rows) (visible_at w s others) k)
  unmatched-to_seen rows k h =
      rows_to_seen t v (One k) (WithoutAt k) (to_without k) rows (some_or (λ r. LacksOther t v w other r × (other_name r ≡ k)) (λ r. MissesOther t v w other r × (name r ≡ k)) rows h)

  pub unmatched-from_seen : (rows : List R) (k : Key) → AtSome t (λ s. NamesWithout named other_key key (visible_at v s rows) (visible_at w s others) k) → IsUnmatched t v w other other_name name rows k
  unmatched-from_seen rows k h =
      or_some (λ r. LacksOther t v w other r × (other_name r ≡ k)) (λ r. MissesOther t v w other r × (name r ≡ k)) rows (rows_from_seen t v (One k) (WithoutAt k) (from_without k) rows h)

  pub first_without : (rows : List R) (o : Option Key) → FirstBad (IsUnmatched t v w other other_name name rows) o → FirstBad (λ k. AtSome t (λ s. NamesWithout named other_key key (visible_at v s rows) (visible_at w s others) k)) o
  first_without rows o h =
      first_like (IsUnmatched t v w other other_name name rows) (λ k. AtSome t (λ s. NamesWithout named other_key key (visible_at v s rows) (visible_at w s others) k)) (unmatched-to_seen rows) (unmatched-from_seen rows) o h

-- ---- answers

pub first_at_or : (A B : Seen → Key → Type 0) (t : Tables) (o : Option Key) → FirstBad (λ k. AtKept A t k ⊎ AtKept B t k) o → FirstBad (AtKept (λ seen k. A seen k ⊎ B seen k) t) o
first_at_or A B t o h =
    first_like (λ k. AtKept A t k ⊎ AtKept B t k) (AtKept (λ seen k. A seen k ⊎ B seen k) t)
    (λ k p. some_or (λ (z : SnapshotRow). A (seen_at z.snapshot_id t) k) (λ (z : SnapshotRow). B (seen_at z.snapshot_id t) k) t.snapshot p)
    (λ k p. or_some (λ (z : SnapshotRow). A (seen_at z.snapshot_id t) k) (λ (z : SnapshotRow). B (seen_at z.snapshot_id t) k) t.snapshot p)
    o h

-- a test of rows that are seen
module _ {R : Type 0} (t : Tables) (v : Validity R) (name : R → Key) (is_bad : R → Bool) (same_bad : (r : R) → is_bad (v.with_end None r) ≡ is_bad r) (same_name : (r : R) → name (v.with_end None r) ≡ name r) (rows : List R) where
  abbrev IfAt : Key → ℕ → R → Type 0
  IfAt k s r = (is_bad r ≡ true) × (name r ≡ k)

  pub first_if : (o : Option Key) → FirstBad (Names name (λ r. IsSeen t v r × (is_bad r ≡ true)) rows) o → FirstBad (λ k. AtSome t (λ s. NamesIf name is_bad (visible_at v s rows) k)) o
  first_if o h =
      first_like (Names name (λ r. IsSeen t v r × (is_bad r ≡ true)) rows) (λ k. AtSome t (λ s. NamesIf name is_bad (visible_at v s rows) k))
      (λ k. rows_to_seen t v (λ r. (IsSeen t v r × (is_bad r ≡ true)) × (name r ≡ k)) (IfAt k)
      (λ r x. at_like t (λ s. is_visible v s r ≡ true) (λ s. (is_visible v s r ≡ true) × IfAt k s (v.with_end None r)) (λ s sees. (sees, (same_bad r ∙ x.0.1, same_name r ∙ x.1))) x.0.0) rows)
      (λ k. rows_from_seen t v (λ r. (IsSeen t v r × (is_bad r ≡ true)) × (name r ≡ k)) (IfAt k)
      (λ r x. (
        (
          at_like t (λ s. (is_visible v s r ≡ true) × IfAt k s (v.with_end None r)) (λ s. is_visible v s r ≡ true) (λ s y. y.0) x,
          from_at t (λ s. (is_visible v s r ≡ true) × IfAt k s (v.with_end None r)) (is_bad r ≡ true) (λ s y. sym (same_bad r) ∙ y.1.0) x,
        ),
        from_at t (λ s. (is_visible v s r ≡ true) × IfAt k s (v.with_end None r)) (name r ≡ k) (λ s y. sym (same_name r) ∙ y.1.1) x,
      )) rows)
      o h

-- ---- a row that is seen with its table

has_to : (s : ℕ) (o : Option TableRow) → HasRow o (λ q. is_visible table_validity s q ≡ true) → HasRow (seen_row table_validity table_key table_laws s o) (λ q. Unit {0})
has_to s None h = h
has_to s (Some q) h = let T : Bool → Type 0 = λ b. HasRow (cond b (Some (table_validity.with_end None q)) None) (λ q. Unit {0}) in subst T (sym h) tt

has_from : (s : ℕ) (o : Option TableRow) → HasRow (seen_row table_validity table_key table_laws s o) (λ q. Unit {0}) → HasRow o (λ q. is_visible table_validity s q ≡ true)
has_from s None h = h
has_from s (Some q) h = go (is_visible table_validity s q) refl h
  where
    go : (b : Bool) → is_visible table_validity s q ≡ b → HasRow (cond b (Some (table_validity.with_end None q)) None) (λ q. Unit {0}) → is_visible table_validity s q ≡ true
    go true e h = e
    go false e h = absurd h

module _ (t : Tables) (up : RisesByKey table_key t.table) where
  seen_table : (s id : ℕ) → row_of table_key (id ∷ []) (visible_at table_validity s t.table) ≡ seen_row table_validity table_key table_laws s (table_of t id)
  seen_table s id = row_of-visible table_validity table_key table_laws (id ∷ []) s t.table up

  pub sees_table : (s id : ℕ) → HasRow (table_of t id) (λ q. is_visible table_validity s q ≡ true) → SeesTable (seen_at s t) id
  sees_table s id h = let T : Option TableRow → Type 0 = λ o. HasRow o (λ q. Unit {0}) in subst T (sym (seen_table s id)) (has_to s (table_of t id) h)

  pub table_seen : (s id : ℕ) → SeesTable (seen_at s t) id → HasRow (table_of t id) (λ q. is_visible table_validity s q ≡ true)
  table_seen s id h = let T : Option TableRow → Type 0 = λ o. HasRow o (λ q. Unit {0}) in has_from s (table_of t id) (subst T (seen_table s id) h)

  -- rows of which something is so where a kept snapshot sees them with their table
  module _ {R : Type 0} (v : Validity R) (name : R → Key) (table : R → ℕ) (F : ℕ → R → Type 0) (opens : (s : ℕ) (r : R) → F s r → F s (v.with_end None r)) (closes : (s : ℕ) (r : R) → F s (v.with_end None r) → F s r)
      (same_table : (r : R) → table (v.with_end None r) ≡ table r) (same_name : (r : R) → name (v.with_end None r) ≡ name r) (rows : List R) where
    abbrev WithAt : Key → ℕ → R → Type 0
    WithAt k s r = (SeesTable (seen_at s t) (table r) × F s r) × (name r ≡ k)

    abbrev FoundWith : Key → R → Type 0
    FoundWith k r = AtSome t (λ s. SeesWith v (table_of t (table r)) r s × F s r) × (name r ≡ k)

    to_with : (k : Key) (r : R) → FoundWith k r → AtSome t (λ s. (is_visible v s r ≡ true) × WithAt k s (v.with_end None r))
    to_with k r h =
        at_like t (λ s. SeesWith v (table_of t (table r)) r s × F s r) (λ s. (is_visible v s r ≡ true) × WithAt k s (v.with_end None r))
        (λ s x. (x.0.0, ((subst (SeesTable (seen_at s t)) (sym (same_table r)) (sees_table s (table r) x.0.1), opens s r x.1), same_name r ∙ h.1))) h.0

    from_with : (k : Key) (r : R) → AtSome t (λ s. (is_visible v s r ≡ true) × WithAt k s (v.with_end None r)) → FoundWith k r
    from_with k r h = (
      at_like t (λ s. (is_visible v s r ≡ true) × WithAt k s (v.with_end None r)) (λ s. SeesWith v (table_of t (table r)) r s × F s r)
          (λ s x. ((x.0, table_seen s (table r) (subst (SeesTable (seen_at s t)) (same_table r) x.1.0.0)), closes s r x.1.0.1)) h,
      from_at t (λ s. (is_visible v s r ≡ true) × WithAt k s (v.with_end None r)) (name r ≡ k) (λ s x. sym (same_name r) ∙ x.1.1) h,
    )

    pub first_with : (o : Option Key) → FirstBad (Names name (λ r. AtSome t (λ s. SeesWith v (table_of t (table r)) r s × F s r)) rows) o
        → FirstBad (λ k. AtSome t (λ s. Names name (λ r. SeesTable (seen_at s t) (table r) × F s r) (visible_at v s rows) k)) o
    first_with o h =
        first_like (Names name (λ r. AtSome t (λ s. SeesWith v (table_of t (table r)) r s × F s r)) rows) (λ k. AtSome t (λ s. Names name (λ r. SeesTable (seen_at s t) (table r) × F s r) (visible_at v s rows) k))
        (λ k. rows_to_seen t v (FoundWith k) (WithAt k) (to_with k) rows) (λ k. rows_from_seen t v (FoundWith k) (WithAt k) (from_with k) rows) o h
