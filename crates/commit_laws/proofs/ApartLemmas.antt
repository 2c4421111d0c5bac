-- Keys of one batch that differ: of different tables, or apart by what they are compared by.
use Rattle.std.proofs.Common.{◌≡◌, ◌≢◌, inl, inr, ℕ, ◌<◌, ◌≤◌, true, false, List, [], ◌∷◌, ◌++◌, map, refl, sym, ap, ◌∙◌, subst, arith, Option, Some, None, true≢false, is_eq, is_lt}
use Rattle.std.specs.List.{AllByRecursion, cons_option, filter_map, slice_index}
use Rattle.lake_rebase.proofs.MemberLemmas.{In, all_by, all_in}
use Rattle.cat_tables.specs.Table.{ArePast, IsAscending, IsBelow, RisesByKey, has_key, key_cmp, row_of}
use Rattle.cat_tables.proofs.PlaceLemmas.{less_is, row_of-lacking}
use Rattle.cat_tables.proofs.SightLemmas.{apart_above, same_key}
use Rattle.cat_rows.specs.Places.{place}
use Rattle.cat_rows.specs.declared.batch.Key.{Key}
use Rattle.cat_rules.proofs.FirstLemmas.{all_like, ascends_like}
use Rattle.commit_laws.proofs.ListLemmas.{all_append, all_mapped, all_of, asc_append, asc_mapped, in_picked}

-- which table a key is of
abbrev pub rank : Key → ℕ
rank k = slice_index (place k) 0

module _ {X : Type 0} (key_in : X → Key) where
  abbrev Other : X → X → Type 0
  Other a b = key_in a ≢ key_in b

  -- keys that differ, of tables from one on
  pub record AreApart (low : ℕ) (xs : List X) : Type 0 where
    pub from : AllByRecursion (λ x. low ≤ rank (key_in x)) xs
    pub differ : IsAscending (λ a b. key_in a ≢ key_in b) xs

  pub none_apart : (low : ℕ) → AreApart low []
  none_apart low = record { from = tt; differ = tt }

  -- the rows of one table before those of later ones
  pub more_apart : {R : Type 0} (key : R → List ℕ) (n m : ℕ) (f : R → X) → ((r : R) → place (key_in (f r)) ≡ n ∷ key r) → n < m
      → (rs : List R) → IsAscending (λ a b. key a ≢ key b) rs → (more : List X) → AreApart m more → AreApart n (map f rs ++ more)
  more_apart {R} key n m f same lt rs up more rest = record {
    from = all_append (λ x. n ≤ rank (key_in x)) (map f rs) more
        (all_mapped (λ x. n ≤ rank (key_in x)) f rs (all_of _ (λ r. let e = rank_is r in omega (arith, e)) rs))
        (all_like (λ x. m ≤ rank (key_in x)) (λ x. n ≤ rank (key_in x)) (λ x le. omega (arith, le, lt)) more rest.from);
    differ = asc_append Other (map f rs) more
        (asc_mapped Other f rs (ascends_like (λ a b. key a ≢ key b) (λ a b. Other (f a) (f b)) (λ a b apart e. apart (same_rest a b e)) rs up)) rest.differ
        (all_mapped (λ x. AllByRecursion (Other x) more) f rs (all_of _ (λ r. all_like (λ x. m ≤ rank (key_in x)) (Other (f r)) (λ x le e. past r x le e) more rest.from) rs));
  }
    where
      rank_is : (r : R) → rank (key_in (f r)) ≡ n
      rank_is r = ap (λ l. slice_index l 0) (same r)

      same_rest : (a b : R) → key_in (f a) ≡ key_in (f b) → key a ≡ key b
      same_rest a b e = let is : n ∷ key a ≡ n ∷ key b = sym (same a) ∙ ap place e ∙ same b in cc

      past : (r : R) (x : X) → m ≤ rank (key_in x) → key_in (f r) ≡ key_in x → ⊥
      past r x le e = let one = rank_is r in let two : rank (key_in (f r)) ≡ rank (key_in x) = ap rank e in omega (arith, le, lt, one, two)

-- ---- rows that rise

module _ {R : Type 0} (key : R → List ℕ) where
  pub rises_apart : (rs : List R) → RisesByKey key rs → IsAscending (λ a b. key a ≢ key b) rs
  rises_apart rs up = ascends_like (IsBelow key) (λ a b. key a ≢ key b)
      (λ a b below e. true≢false (sym (subst (λ l. has_key key l b ≡ true) (sym e) (same_key key b)) ∙ apart_above key (key a) b below)) rs up

  -- each stands where its key is looked for
  pub row_there : (r : R) (rs : List R) → RisesByKey key rs → In r rs → row_of key (key r) rs ≡ Some r
  row_there r [] up there = absurd there
  row_there r (q ∷ rs) up (inl e) = let here : has_key key (key r) q ≡ true = subst (λ x. has_key key (key x) q ≡ true) e (same_key key q) in rw here (ap Some e)
  row_there r (q ∷ rs) up (inr there) =
      let other : has_key key (key r) q ≡ false = ap is_eq (all_in (IsBelow key q) r rs up.0 there) in
      rw other (row_there r rs up.1 there)

  -- a new row has no key that is there
  pub none_below : (new : R) (rows : List R) → AllByRecursion (λ r. is_lt (key_cmp (key r) (key new)) ≡ true) rows → row_of key (key new) rows ≡ None
  none_below new rows low =
      row_of-lacking key (key new) rows (all_like (λ r. is_lt (key_cmp (key r) (key new)) ≡ true) (λ r. has_key key (key new) r ≡ false) (λ r lt. ap is_eq (less_is (key_cmp (key r) (key new)) lt)) rows low)

  pub news_lack : (news rows : List R) → ArePast key news rows → AllByRecursion (λ new. row_of key (key new) rows ≡ None) news
  news_lack [] rows past = tt
  news_lack (new ∷ news) rows past = (none_below new rows past.0, news_lack news rows past.2)

-- ---- picked ones

-- what is picked of some that stand so stands so too
pub asc_picked : {X Y : Type 0} (S : X → X → Type 0) (R : Y → Y → Type 0) (f : X → Option Y)
    → ((x z : X) (a b : Y) → S x z → f x ≡ Some a → f z ≡ Some b → R a b) → (xs : List X) → IsAscending S xs → IsAscending R (filter_map f xs)
asc_picked S R f fit [] up = tt
asc_picked {X} {Y} S R f fit (x ∷ xs) up = go (f x) refl (asc_picked S R f fit xs up.1)
  where
    go : (o : Option Y) → f x ≡ o → IsAscending R (filter_map f xs) → IsAscending R (cons_option o (filter_map f xs))
    go None e more = more
    go (Some a) e more = (all_by (R a) (filter_map f xs) (λ b there. let m = in_picked f b xs there in fit x m.item a b (all_in (S x) m.item xs up.0 m.there) e m.is), more)
