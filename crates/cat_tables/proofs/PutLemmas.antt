-- A row put at its place.
use Rattle.std.proofs.Common.{◌≡◌, ℕ, suc, ◌+◌, Bool, true, false, cond, List, [], ◌∷◌, map, filter, refl, sym, ap, ap₂, subst, ◌∙◌, Ordering, Less, Equal, Greater, is_lt, is_eq, true≢false, arith}
use Rattle.std.specs.List.{AllByRecursion, insert, items_where_true, prefix_len}
use Rattle.std.specs.List.Retain.{IsFiltered}
use Rattle.std.specs.Ordering.{ordering_reverse}
use Rattle.std.proofs.lemmas.Cmp.{nat_list_cmp_total}
use Rattle.cat_tables.proofs.PlaceLemmas.{less_is}
use Rattle.cat_tables.specs.Table.{key_cmp, IsAscending, IsBelow, RisesByKey, has_key, put, edited}

module _ {R : Type 0} (key : R → List ℕ) where
  further : (n : ℕ) (r : R) (rs : List R) (new : R) → r ∷ insert rs n new ≡ insert (r ∷ rs) (1 + n) new
  further n r rs new = let e : 1 + n ≡ suc n = omega arith in rw e refl

  -- its place is past all rows below it
  pub put-insert : (new : R) (rs : List R) → put key new rs ≡ insert rs (prefix_len (λ r. is_lt (key_cmp (key r) (key new))) rs) new
  put-insert new [] = refl
  put-insert new (r ∷ rs) =
      elim (is_lt (key_cmp (key r) (key new))) as (λ b. cond b (r ∷ put key new rs) (new ∷ r ∷ rs) ≡ insert (r ∷ rs) (cond b (1 + prefix_len (λ q. is_lt (key_cmp (key q) (key new))) rs) 0) new)
      [ true ↦ ap (λ l. r ∷ l) (put-insert new rs) ∙ further _ r rs new | false ↦ refl ]

  pub put_placed : (new : R) (rs items : List R) (at : ℕ) (ok : Bool) → ok ≡ true → at ≡ prefix_len (λ r. is_lt (key_cmp (key r) (key new))) rs → items ≡ cond ok (insert rs at new) rs → items ≡ put key new rs
  put_placed new rs items at ok p q e = e ∙ rw (p, q) (sym (put-insert new rs))

  pub all-put : (P : R → Type 0) (new : R) (rs : List R) → P new → AllByRecursion P rs → AllByRecursion P (put key new rs)
  all-put P new [] h all = (h, tt)
  all-put P new (r ∷ rs) h all =
      elim (is_lt (key_cmp (key r) (key new))) as (λ b. AllByRecursion P (cond b (r ∷ put key new rs) (new ∷ r ∷ rs)))
      [ true ↦ (all.0, all-put P new rs h all.1) | false ↦ (h, all) ]

  turned : (a b : List ℕ) → is_lt (key_cmp a b) ≡ false → is_eq (key_cmp a b) ≡ false → key_cmp b a ≡ Less
  turned a b p q = nat_list_cmp_total.antisymm b a ∙ go (key_cmp a b) p q
    where
      go : (o : Ordering) → is_lt o ≡ false → is_eq o ≡ false → ordering_reverse o ≡ Less
      go Less p q = absurd (true≢false p)
      go Equal p q = absurd (true≢false q)
      go Greater p q = refl

  pub all_weaker : (P Q : R → Type 0) → ((r : R) → P r → Q r) → (rs : List R) → AllByRecursion P rs → AllByRecursion Q rs
  all_weaker P Q f [] h = tt
  all_weaker P Q f (r ∷ rs) h = (f r h.0, all_weaker P Q f rs h.1)

  -- the keys still rise
  pub RisesByKey-put : (new : R) (rs : List R) → AllByRecursion (λ r. has_key key (key new) r ≡ false) rs → RisesByKey key rs → RisesByKey key (put key new rs)
  RisesByKey-put new [] apart up = (tt, tt)
  RisesByKey-put new (r ∷ rs) apart up = go (is_lt (key_cmp (key r) (key new))) refl (RisesByKey-put new rs apart.1 up.1)
    where
      go : (b : Bool) → is_lt (key_cmp (key r) (key new)) ≡ b → RisesByKey key (put key new rs) → RisesByKey key (cond b (r ∷ put key new rs) (new ∷ r ∷ rs))
      go true e more = (all-put (IsBelow key r) new rs (less_is _ e) up.0, more)
      go false e more =
          let first : IsBelow key new r = turned (key r) (key new) e apart.0 in
          ((first, all_weaker (IsBelow key r) (IsBelow key new) (λ q. nat_list_cmp_total.trans (key new) (key r) (key q) first) rs up.0), up)

  all-filter : (P : R → Type 0) (p : R → Bool) (rs : List R) → AllByRecursion P rs → AllByRecursion P (filter p rs)
  all-filter P p [] h = tt
  all-filter P p (r ∷ rs) h = elim (p r) as (λ b. AllByRecursion P (cond b (r ∷ filter p rs) (filter p rs))) [ true ↦ (h.0, all-filter P p rs h.1) | false ↦ all-filter P p rs h.1 ]

  all_keys : (k : List ℕ) (rs : List R) → AllByRecursion (λ r. key_cmp k (key r) ≡ Less) rs → AllByRecursion (λ a. key_cmp k a ≡ Less) (map key rs)
  all_keys k [] h = tt
  all_keys k (r ∷ rs) h = (h.0, all_keys k rs h.1)

  all_of_keys : (k : List ℕ) (rs : List R) → AllByRecursion (λ a. key_cmp k a ≡ Less) (map key rs) → AllByRecursion (λ r. key_cmp k (key r) ≡ Less) rs
  all_of_keys k [] h = tt
  all_of_keys k (r ∷ rs) h = (h.0, all_of_keys k rs h.1)

  keys_of_table : (rs : List R) → RisesByKey key rs → IsAscending (λ a b. key_cmp a b ≡ Less) (map key rs)
  keys_of_table [] up = tt
  keys_of_table (r ∷ rs) up = (all_keys (key r) rs up.0, keys_of_table rs up.1)

  table_of_keys : (rs : List R) → IsAscending (λ a b. key_cmp a b ≡ Less) (map key rs) → RisesByKey key rs
  table_of_keys [] up = tt
  table_of_keys (r ∷ rs) up = (all_of_keys (key r) rs up.0, table_of_keys rs up.1)

  same_keys : (rs qs : List R) → map key qs ≡ map key rs → RisesByKey key rs → RisesByKey key qs
  same_keys rs qs e up = table_of_keys qs (subst (IsAscending (λ a b. key_cmp a b ≡ Less)) (sym e) (keys_of_table rs up))

  -- a filter keeps the order
  pub RisesByKey-filter : (p : R → Bool) (rs : List R) → RisesByKey key rs → RisesByKey key (filter p rs)
  RisesByKey-filter p [] up = tt
  RisesByKey-filter p (r ∷ rs) up =
      elim (p r) as (λ b. RisesByKey key (cond b (r ∷ filter p rs) (filter p rs)))
      [ true ↦ (all-filter (IsBelow key r) p rs up.0, RisesByKey-filter p rs up.1) | false ↦ RisesByKey-filter p rs up.1 ]

  all-where_true : (P : R → Type 0) (bs : List Bool) (rs : List R) → AllByRecursion P rs → AllByRecursion P (items_where_true bs rs)
  all-where_true P [] rs h = tt
  all-where_true P (b ∷ bs) [] h = tt
  all-where_true P (true ∷ bs) (r ∷ rs) h = (h.0, all-where_true P bs rs h.1)
  all-where_true P (false ∷ bs) (r ∷ rs) h = all-where_true P bs rs h.1

  RisesByKey-where_true : (bs : List Bool) (rs : List R) → RisesByKey key rs → RisesByKey key (items_where_true bs rs)
  RisesByKey-where_true [] rs up = tt
  RisesByKey-where_true (b ∷ bs) [] up = tt
  RisesByKey-where_true (true ∷ bs) (r ∷ rs) up = (all-where_true (IsBelow key r) bs rs up.0, RisesByKey-where_true bs rs up.1)
  RisesByKey-where_true (false ∷ bs) (r ∷ rs) up = RisesByKey-where_true bs rs up.1

  -- so does what a test leaves
  pub RisesByKey-filtered : {F : Type 0} (step : F → R → Bool → F → Type 0) (f : F) (rs qs : List R) → IsFiltered step f rs qs → RisesByKey key rs → RisesByKey key qs
  RisesByKey-filtered step f rs qs h up = subst (RisesByKey key) (sym h.4) (RisesByKey-where_true h.0 rs up)

  -- an edit that keeps the keys keeps the order
  pub RisesByKey-edited : (f : R → R) (k : List ℕ) → ((r : R) → key (f r) ≡ key r) → (rs : List R) → RisesByKey key rs → RisesByKey key (edited key f k rs)
  RisesByKey-edited f k same rs up = same_keys rs (edited key f k rs) (keys rs) up
    where
      keys : (qs : List R) → map key (edited key f k qs) ≡ map key qs
      keys [] = refl
      keys (q ∷ qs) = ap₂ ◌∷◌ (elim (has_key key k q) as (λ b. key (cond b (f q) q) ≡ key q) [ true ↦ same q | false ↦ refl ]) (keys qs)
