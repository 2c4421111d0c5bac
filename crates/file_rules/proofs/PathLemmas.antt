-- The first file of a path has a smaller id than a row exactly where an earlier file has this path.
use Rattle.std.proofs.Common.{◌≡◌, ◌⊎◌, ◌<◌, inl, inr, ℕ, Bool, true, false, cond, List, [], ◌∷◌, Option, Some, None, is_eq, is_some, refl, sym, ap, subst, ◌∙◌, true≢false, Less, arith}
use Rattle.std.specs.List.{AllByRecursion}
use Rattle.std.specs.Cmp.{nat_cmp_is}
use Rattle.std.specs.Prelude.{IsSome}
use Rattle.std.specs.Option.{option_map, option_or}
use Rattle.std.proofs.lemmas.Cmp.{nat_list_cmp_total, tied_itself}
use Rattle.cat_tables.specs.Table.{IsBelow, RisesByKey, has_key, key_cmp, row_of}
use Rattle.cat_tables.proofs.KeyLemmas.{key_eq}
use Rattle.cat_rows.specs.Keys.{data_file_key, delete_file_key}
use Rattle.cat_rows.specs.Tables.{Tables}
use Rattle.cat_rows.specs.declared.batch.Key.{Key}
use Rattle.cat_rows.specs.declared.files.DataFileRow.{DataFileRow}
use Rattle.cat_rows.specs.declared.files.DeleteFileRow.{DeleteFileRow}
use Rattle.cat_rows.specs.declared.files.ScheduledFileRow.{ScheduledFileRow}
use Rattle.cat_rules.specs.First.{FirstBad}
use Rattle.cat_rules.specs.Lookups.{HasRow}
use Rattle.cat_rules.specs.Places.{of_data_file, of_delete_file, of_scheduled}
use Rattle.cat_rules.specs.Rows.{SomeOf, Names}
use Rattle.cat_rules.proofs.FirstLemmas.{SomeOf_like, first_like}
use Rattle.cat_rules.proofs.SnapshotLemmas.{below_lt}
use Rattle.file_rules.specs.Ids.{first_id, HasBadDataPath, HasBadDeletePath, HasBadScheduledPath}
use Rattle.cat_rules.specs.DataFileRule.{IsLong, IsDataPath, IsDeletePath, IsDataPathBefore, IsDeletePathBefore}

lt_below : (a b : ℕ) → a < b → key_cmp (a ∷ []) (b ∷ []) ≡ Less
lt_below a b lt = rw (sym (nat_cmp_is a b Less lt)) refl

module _ {R : Type 0} (path : R → List ℕ) (id : R → ℕ) where
  -- rows rise by their ids
  abbrev key : R → List ℕ
  key r = id r ∷ []

  has_own : (x : R) (p : List ℕ) → path x ≡ p → has_key path p x ≡ true
  has_own x p e = let T : List ℕ → Type 0 = λ q. is_eq (key_cmp (path x) q) ≡ true in subst T e (ap is_eq (tied_itself nat_list_cmp_total (path x)))

  -- ---- a row of this path

  pub taken_from : (p : List ℕ) (rows : List R) → IsSome (first_id path id rows p) → SomeOf (λ q. path q ≡ p) rows
  taken_from p [] h = absurd (true≢false (sym h))
  taken_from p (x ∷ xs) h = go (has_key path p x) refl h (λ k. taken_from p xs k)
    where
      go : (b : Bool) → has_key path p x ≡ b → IsSome (option_map id (cond b (Some x) (row_of path p xs))) → (IsSome (first_id path id xs p) → SomeOf (λ q. path q ≡ p) xs) → SomeOf (λ q. path q ≡ p) (x ∷ xs)
      go true e h more = inl (key_eq (path x) p e)
      go false e h more = inr (more h)

  pub taken_to : (p : List ℕ) (rows : List R) → SomeOf (λ q. path q ≡ p) rows → IsSome (first_id path id rows p)
  taken_to p [] h = absurd h
  taken_to p (x ∷ xs) h = go (has_key path p x) refl h (λ k. taken_to p xs k)
    where
      go : (b : Bool) → has_key path p x ≡ b → SomeOf (λ q. path q ≡ p) (x ∷ xs) → (SomeOf (λ q. path q ≡ p) xs → IsSome (first_id path id xs p)) → IsSome (option_map id (cond b (Some x) (row_of path p xs)))
      go true e h more = refl
      go false e (inl same) more = absurd (true≢false (sym (has_own x p same) ∙ e))
      go false e (inr h) more = more h

  -- ---- an earlier row of this path

  abbrev IsEarlier : R → List ℕ → R → Type 0
  IsEarlier r p q = IsBelow key q r × (path q ≡ p)

  pub before_from : (r : R) (p : List ℕ) (rows : List R) → HasRow (first_id path id rows p) (λ first. first < id r) → SomeOf (IsEarlier r p) rows
  before_from r p [] h = absurd h
  before_from r p (x ∷ xs) h = go (has_key path p x) refl h (λ k. before_from r p xs k)
    where
      go : (b : Bool) → has_key path p x ≡ b → HasRow (option_map id (cond b (Some x) (row_of path p xs))) (λ first. first < id r) → (HasRow (first_id path id xs p) (λ first. first < id r) → SomeOf (IsEarlier r p) xs) → SomeOf (IsEarlier r p) (x ∷ xs)
      go true e h more = inl (lt_below (id x) (id r) h, key_eq (path x) p e)
      go false e h more = inr (more h)

  -- what stands before one that is below this is below it
  below_some : (x r : R) (p : List ℕ) (xs : List R) → AllByRecursion (IsBelow key x) xs → SomeOf (IsEarlier r p) xs → id x < id r
  below_some x r p [] up h = absurd h
  below_some x r p (y ∷ ys) up (inl at) =
      let one : id x < id y = below_lt (id x) (id y) up.0 in
      let two : id y < id r = below_lt (id y) (id r) at.0 in
      omega arith
  below_some x r p (y ∷ ys) up (inr more) = below_some x r p ys up.1 more

  pub before_to : (r : R) (p : List ℕ) (rows : List R) → RisesByKey key rows → SomeOf (IsEarlier r p) rows → HasRow (first_id path id rows p) (λ first. first < id r)
  before_to r p [] up h = absurd h
  before_to r p (x ∷ xs) up h = go (has_key path p x) refl h (λ k. before_to r p xs up.1 k)
    where
      go : (b : Bool) → has_key path p x ≡ b → SomeOf (IsEarlier r p) (x ∷ xs) → (SomeOf (IsEarlier r p) xs → HasRow (first_id path id xs p) (λ first. first < id r)) → HasRow (option_map id (cond b (Some x) (row_of path p xs))) (λ first. first < id r)
      go true e (inl at) more = below_lt (id x) (id r) at.0
      go true e (inr h) more = below_some x r p xs up.0 h
      go false e (inl at) more = absurd (true≢false (sym (has_own x p at.1) ∙ e))
      go false e (inr h) more = more h

  -- ---- one row more

  none_is : (o : Option ℕ) → is_some o ≡ false → o ≡ None
  none_is None e = refl
  none_is (Some n) e = absurd (true≢false e)

  some_or : (o a b : Option ℕ) → is_some o ≡ true → option_or o a ≡ option_or o b
  some_or None a b e = absurd (true≢false (sym e))
  some_or (Some n) a b e = refl

  -- a row whose path has no id yet, and whose id is put in
  pub put_in : (old new : List ℕ → Option ℕ) (x : R) (xs : List R) (p : List ℕ) → is_some (old (path x)) ≡ false → new p ≡ cond (has_key path p x) (Some (id x)) (old p)
      → option_or (new p) (first_id path id xs p) ≡ option_or (old p) (first_id path id (x ∷ xs) p)
  put_in old new x xs p lacks is = ap (λ o. option_or o (first_id path id xs p)) is ∙ go (has_key path p x) refl
    where
      go : (b : Bool) → has_key path p x ≡ b → option_or (cond b (Some (id x)) (old p)) (first_id path id xs p) ≡ option_or (old p) (option_map id (cond b (Some x) (row_of path p xs)))
      go true e =
          let Lacks : List ℕ → Type 0 = λ q. is_some (old q) ≡ false in
          sym (ap (λ o. option_or o (Some (id x))) (none_is (old p) (subst Lacks (key_eq (path x) p e) lacks)))
      go false e = refl

  -- a row whose path has an id
  pub left_out : (old : List ℕ → Option ℕ) (x : R) (xs : List R) (p : List ℕ) → is_some (old (path x)) ≡ true
      → option_or (old p) (first_id path id xs p) ≡ option_or (old p) (first_id path id (x ∷ xs) p)
  left_out old x xs p has = go (has_key path p x) refl
    where
      go : (b : Bool) → has_key path p x ≡ b → option_or (old p) (first_id path id xs p) ≡ option_or (old p) (option_map id (cond b (Some x) (row_of path p xs)))
      go true e =
          let Has : List ℕ → Type 0 = λ q. is_some (old q) ≡ true in
          some_or (old p) (first_id path id xs p) (Some (id x)) (subst Has (key_eq (path x) p e) has)
      go false e = refl

-- ---- the rows that are bad

first_names_like : {R : Type 0} (name : R → Key) (P Q : R → Type 0) → ((r : R) → P r → Q r) → ((r : R) → Q r → P r) → (given rows : List R) → given ≡ rows → (o : Option Key)
    → FirstBad (Names name P given) o → FirstBad (Names name Q rows) o
first_names_like {R} name P Q f g given rows same o h =
    let First : List R → Type 0 = λ l. FirstBad (Names name Q l) o in
    subst First same
    (first_like (Names name P given) (Names name Q given) (λ k p. SomeOf_like _ _ (λ r x. (f r x.0, x.1)) given p) (λ k p. SomeOf_like _ _ (λ r x. (g r x.0, x.1)) given p) o h)

module _ (t : Tables) (data_ids delete_ids : List ℕ → Option ℕ)
    (data_is : (p : List ℕ) → data_ids p ≡ first_id (λ (r : DataFileRow). r.path) (λ r. r.data_file_id) t.data_file p)
    (delete_is : (p : List ℕ) → delete_ids p ≡ first_id (λ (r : DeleteFileRow). r.path) (λ r. r.delete_file_id) t.delete_file p)
    (data_up : RisesByKey data_file_key t.data_file) (delete_up : RisesByKey delete_file_key t.delete_file) where
  abbrev Taken : Option ℕ → Type 0
  Taken o = IsSome o

  abbrev Under : ℕ → Option ℕ → Type 0
  Under n o = HasRow o (λ first. first < n)

  data_taken_from : (p : List ℕ) → IsSome (data_ids p) → IsDataPath t p
  data_taken_from p h = taken_from (λ r. r.path) (λ r. r.data_file_id) p t.data_file (subst Taken (data_is p) h)

  data_taken_to : (p : List ℕ) → IsDataPath t p → IsSome (data_ids p)
  data_taken_to p h = subst Taken (sym (data_is p)) (taken_to (λ r. r.path) (λ r. r.data_file_id) p t.data_file h)

  delete_taken_from : (p : List ℕ) → IsSome (delete_ids p) → IsDeletePath t p
  delete_taken_from p h = taken_from (λ r. r.path) (λ r. r.delete_file_id) p t.delete_file (subst Taken (delete_is p) h)

  delete_taken_to : (p : List ℕ) → IsDeletePath t p → IsSome (delete_ids p)
  delete_taken_to p h = subst Taken (sym (delete_is p)) (taken_to (λ r. r.path) (λ r. r.delete_file_id) p t.delete_file h)

  data_from : (r : DataFileRow) → HasBadDataPath data_ids r → IsLong r.path ⊎ IsDataPathBefore t r
  data_from r (inl long) = inl long
  data_from r (inr h) = inr (before_from (λ q. q.path) (λ q. q.data_file_id) r r.path t.data_file (subst (Under r.data_file_id) (data_is r.path) h))

  data_to : (r : DataFileRow) → IsLong r.path ⊎ IsDataPathBefore t r → HasBadDataPath data_ids r
  data_to r (inl long) = inl long
  data_to r (inr h) = inr (subst (Under r.data_file_id) (sym (data_is r.path)) (before_to (λ q. q.path) (λ q. q.data_file_id) r r.path t.data_file data_up h))

  delete_from : (r : DeleteFileRow) → HasBadDeletePath data_ids delete_ids r → IsLong r.path ⊎ (IsDataPath t r.path ⊎ IsDeletePathBefore t r)
  delete_from r (inl long) = inl long
  delete_from r (inr (inl h)) = inr (inl (data_taken_from r.path h))
  delete_from r (inr (inr h)) = inr (inr (before_from (λ q. q.path) (λ q. q.delete_file_id) r r.path t.delete_file (subst (Under r.delete_file_id) (delete_is r.path) h)))

  delete_to : (r : DeleteFileRow) → IsLong r.path ⊎ (IsDataPath t r.path ⊎ IsDeletePathBefore t r) → HasBadDeletePath data_ids delete_ids r
  delete_to r (inl long) = inl long
  delete_to r (inr (inl h)) = inr (inl (data_taken_to r.path h))
  delete_to r (inr (inr h)) = inr (inr (subst (Under r.delete_file_id) (sym (delete_is r.path)) (before_to (λ q. q.path) (λ q. q.delete_file_id) r r.path t.delete_file delete_up h)))

  scheduled_from : (r : ScheduledFileRow) → HasBadScheduledPath data_ids delete_ids r → IsLong r.path ⊎ (IsDataPath t r.path ⊎ IsDeletePath t r.path)
  scheduled_from r (inl long) = inl long
  scheduled_from r (inr (inl h)) = inr (inl (data_taken_from r.path h))
  scheduled_from r (inr (inr h)) = inr (inr (delete_taken_from r.path h))

  scheduled_to : (r : ScheduledFileRow) → IsLong r.path ⊎ (IsDataPath t r.path ⊎ IsDeletePath t r.path) → HasBadScheduledPath data_ids delete_ids r
  scheduled_to r (inl long) = inl long
  scheduled_to r (inr (inl h)) = inr (inl (data_taken_to r.path h))
  scheduled_to r (inr (inr h)) = inr (inr (delete_taken_to r.path h))

  pub first_data : (given : List DataFileRow) → given ≡ t.data_file → (o : Option Key) → FirstBad (Names of_data_file (HasBadDataPath data_ids) given) o
      → FirstBad (Names of_data_file (λ r. IsLong r.path ⊎ IsDataPathBefore t r) t.data_file) o
  first_data given same o h = first_names_like of_data_file (HasBadDataPath data_ids) (λ r. IsLong r.path ⊎ IsDataPathBefore t r) data_from data_to given t.data_file same o h

  pub first_delete : (given : List DeleteFileRow) → given ≡ t.delete_file → (o : Option Key) → FirstBad (Names of_delete_file (HasBadDeletePath data_ids delete_ids) given) o
      → FirstBad (Names of_delete_file (λ r. IsLong r.path ⊎ (IsDataPath t r.path ⊎ IsDeletePathBefore t r)) t.delete_file) o
  first_delete given same o h = first_names_like of_delete_file (HasBadDeletePath data_ids delete_ids) (λ r. IsLong r.path ⊎ (IsDataPath t r.path ⊎ IsDeletePathBefore t r)) delete_from delete_to given t.delete_file same o h

  pub first_scheduled : (given : List ScheduledFileRow) → given ≡ t.scheduled_file → (o : Option Key) → FirstBad (Names of_scheduled (HasBadScheduledPath data_ids delete_ids) given) o
      → FirstBad (Names of_scheduled (λ r. IsLong r.path ⊎ (IsDataPath t r.path ⊎ IsDeletePath t r.path)) t.scheduled_file) o
  first_scheduled given same o h = first_names_like of_scheduled (HasBadScheduledPath data_ids delete_ids) (λ r. IsLong r.path ⊎ (IsDataPath t r.path ⊎ IsDeletePath t r.path)) scheduled_from scheduled_to given t.scheduled_file same o h
