-- Which kinds of mine conflict with one of theirs, and the order in which they stand.
use Rattle.std.proofs.Common.{◌≡◌, ℕ, ◌<◌, ◌≤◌, ◌==◌, Bool, true, false, cond, List, [], ◌∷◌, filter, refl, sym, ap, ◌∙◌, arith, Some, None, Ordering, Less, Equal, Greater, is_eq, true≢false, lit<}
use Rattle.std.specs.Cmp.{unsigned_ties}
use Rattle.std.specs.Cmp.Lexicographic.{lists_ties, slice_cmp}
use Rattle.std.specs.List.{AllByRecursion, list_any}
use Rattle.std.specs.Option.{option_or}
use Rattle.std.specs.Ordering.{MatchOrdering, is_gt, nat_cmp, ordering_then}
use Rattle.std.specs.Prelude.{find, ◌||◌, ◌&&◌}
use Rattle.std.proofs.Math.Bool.{or-false}
use Rattle.std.proofs.lemmas.Cmp.{ranked}
use Rattle.lake_types.specs.Kinds.{AreInOrder, kind_cmp, rank, subject, then_by}
use Rattle.lake_types.specs.declared.kind.Kind.{Kind}
use Rattle.lake_types.specs.declared.kind.Kind.TheVariants.{CreatedSchema, CreatedTable, InsertedInto, DeletedFrom, Compacted, DroppedSchema, DroppedTable, Altered}
use Rattle.lake_model.specs.Clashes.{conflicts, same_name}
use Rattle.conflicts.specs.Search.{first_same, is_drop_of, is_dropped_schema, is_same, is_table_in, rewriters, users, writers}
use Rattle.conflicts.proofs.OrderLemmas.{in_order-tail, less_first}

-- ---- names and ids

eq_first : (a b : Ordering) → is_eq (then_by a b) ≡ (is_eq a && is_eq b)
eq_first Less b = refl
eq_first Equal b = refl
eq_first Greater b = refl

eq_only : (a : Ordering) → is_eq (then_by a Equal) ≡ is_eq a
eq_only Less = refl
eq_only Equal = refl
eq_only Greater = refl

names : (a b : List ℕ) → same_name a b ≡ is_eq (slice_cmp nat_cmp a b)
names a b = lists_ties nat_cmp unsigned_ties a b

one_name : (a b : List ℕ) → same_name a b ≡ is_eq (then_by (slice_cmp nat_cmp a b) Equal)
one_name a b = names a b ∙ sym (eq_only (slice_cmp nat_cmp a b))

two_names : (s t a b : List ℕ) → (same_name s t && same_name a b) ≡ is_eq (then_by (slice_cmp nat_cmp s t) (slice_cmp nat_cmp a b))
two_names s t a b = ap (λ x. x && same_name a b) (names s t) ∙ ap (λ x. is_eq (slice_cmp nat_cmp s t) && x) (names a b) ∙ sym (eq_first (slice_cmp nat_cmp s t) (slice_cmp nat_cmp a b))

ids : (a b : ℕ) → (a == b) ≡ is_eq (then_by (ordering_then (nat_cmp a b) Equal) Equal)
ids a b = unsigned_ties a b ∙ go (nat_cmp a b)
  where
    go : (o : Ordering) → is_eq o ≡ is_eq (then_by (ordering_then o Equal) Equal)
    go Less = refl
    go Equal = refl
    go Greater = refl

id_alone : (a b : ℕ) → (a == b) ≡ (is_eq (then_by (ordering_then (nat_cmp a b) Equal) Equal) || false)
id_alone a b = ids a b ∙ sym (or-false (is_eq (then_by (ordering_then (nat_cmp a b) Equal) Equal)))

-- ---- the order of sorts

rank_along : (k l : Kind) → kind_cmp k l ≡ Less → rank k ≤ rank l
rank_along k l h = go (nat_cmp (rank k) (rank l)) (ranked (rank k) (rank l) (nat_cmp (rank k) (rank l)) refl) (less_first (nat_cmp (rank k) (rank l)) _ h)
  where
    go : (o : Ordering) → MatchOrdering o (rank k < rank l) (rank k ≡ rank l) (rank l < rank k) → is_gt o ≡ false → rank k ≤ rank l
    go Less m up = omega (arith, m)
    go Equal m up = omega (arith, m)
    go Greater m up = absurd (true≢false up)

same_rank : (k m : Kind) → is_same k m ≡ true → rank m ≡ rank k
same_rank k m h = go (nat_cmp (rank m) (rank k)) (then_by (slice_cmp nat_cmp (subject m).0 (subject k).0) (slice_cmp nat_cmp (subject m).1 (subject k).1)) (ranked (rank m) (rank k) (nat_cmp (rank m) (rank k)) refl) h
  where
    go : (o more : Ordering) → MatchOrdering o (rank m < rank k) (rank m ≡ rank k) (rank k < rank m) → is_eq (then_by o more) ≡ true → rank m ≡ rank k
    go Less more m up = absurd (true≢false (sym up))
    go Equal more m up = m
    go Greater more m up = absurd (true≢false (sym up))

find-same : (p q : Kind → Bool) → ((k : Kind) → p k ≡ q k) → (ks : List Kind) → find p ks ≡ find q ks
find-same p q same [] = refl
find-same p q same (k ∷ ks) = rw (same k) (ap (λ o. cond (q k) (Some k) o) (find-same p q same ks))

-- the first test holds of earlier sorts than the second
abbrev IsBelow : (Kind → Bool) → (Kind → Bool) → Type 0
IsBelow p q = (k l : Kind) → p k ≡ true → q l ≡ true → rank k < rank l

none_low : (p : Kind → Bool) (n : ℕ) → ((k : Kind) → p k ≡ true → rank k < n) → (k : Kind) (ks : List Kind) → AreInOrder (k ∷ ks) → n ≤ rank k → find p ks ≡ None
none_low p n low k [] h le = refl
none_low p n low k (l ∷ ks) h le =
    let up = rank_along k l h.0 in
    go (p l) refl up (none_low p n low l ks h.1 (omega (arith, up)))
  where
    go : (b : Bool) → p l ≡ b → rank k ≤ rank l → find p ks ≡ None → find p (l ∷ ks) ≡ None
    go true e up more = absurd (omega (arith, low l e, up))
    go false e up more = rw e more

either : (p q : Kind → Bool) → IsBelow p q → (ks : List Kind) → AreInOrder ks → find (λ k. p k || q k) ks ≡ option_or (find p ks) (find q ks)
either p q below [] h = refl
either p q below (k ∷ ks) h = go (p k) refl (q k) refl (either p q below ks (in_order-tail k ks h))
  where
    go : (a : Bool) → p k ≡ a → (b : Bool) → q k ≡ b → find (λ l. p l || q l) ks ≡ option_or (find p ks) (find q ks)
        → find (λ l. p l || q l) (k ∷ ks) ≡ option_or (find p (k ∷ ks)) (find q (k ∷ ks))
    go true e b f more = rw e refl
    go false e true f more = rw (e, f) (ap (λ o. option_or o (Some k)) (sym (none_low p (rank k) (λ l yes. below l k yes f) k ks h (omega arith))))
    go false e false f more = rw (e, f) more

-- kinds whose sorts rise
abbrev Rise : List Kind → Type 0
Rise [] = Unit {0}
Rise (k ∷ ks) = AllByRecursion (λ l. rank k < rank l) ks × Rise ks

find-never : (ks : List Kind) → find (λ k. false) ks ≡ None
find-never [] = refl
find-never (k ∷ ks) = find-never ks

any_above : (k : Kind) (sought : List Kind) → AllByRecursion (λ l. rank k < rank l) sought → (l : Kind) → list_any (λ s. is_same s l) sought ≡ true → rank k < rank l
any_above k [] h l e = absurd (true≢false (sym e))
any_above k (s ∷ sought) h l e = go (is_same s l) refl (λ any. any_above k sought h.1 l any)
  where
    go : (b : Bool) → is_same s l ≡ b → (list_any (λ t. is_same t l) sought ≡ true → rank k < rank l) → rank k < rank l
    go true is more = omega (arith, h.0, same_rank s l is)
    go false is more = more (rw is at e)

-- what is sought in turn is found first in the list
pub in_turn : (ks sought : List Kind) → AreInOrder ks → Rise sought → first_same ks sought ≡ find (λ k. list_any (λ s. is_same s k) sought) ks
in_turn ks [] h up = sym (find-never ks)
in_turn ks (s ∷ sought) h up =
    ap (option_or (find (is_same s) ks)) (in_turn ks sought h up.1)
    ∙ sym (either (is_same s) (λ k. list_any (λ t. is_same t k) sought) (λ k l yes later. omega (arith, same_rank s k yes, any_above s sought up.0 l later)) ks h)

-- ---- what conflicts with each kind of theirs

pub by_created_schema : (t : List ℕ) (ks : List Kind) → find (is_same (CreatedSchema t)) ks ≡ find (λ m. conflicts m (CreatedSchema t)) ks
by_created_schema t = find-same _ _ same
  where
    same : (m : Kind) → is_same (CreatedSchema t) m ≡ conflicts m (CreatedSchema t)
    same (CreatedSchema s) = sym (one_name s t)
    same (CreatedTable s a) = refl
    same (InsertedInto a) = refl
    same (DeletedFrom a) = refl
    same (Compacted a) = refl
    same (DroppedSchema i s) = refl
    same (DroppedTable a) = refl
    same (Altered a) = refl

drop_rank : (t : List ℕ) (m : Kind) → is_drop_of t m ≡ true → rank m ≡ 5
drop_rank t (DroppedSchema i s) h = refl
drop_rank t (CreatedSchema s) h = cc
drop_rank t (CreatedTable s a) h = cc
drop_rank t (InsertedInto a) h = cc
drop_rank t (DeletedFrom a) h = cc
drop_rank t (Compacted a) h = cc
drop_rank t (DroppedTable a) h = cc
drop_rank t (Altered a) h = cc

table_rank : (t : List ℕ) (m : Kind) → is_table_in t m ≡ true → rank m ≡ 1
table_rank t (CreatedTable s a) h = refl
table_rank t (DroppedSchema i s) h = cc
table_rank t (CreatedSchema s) h = cc
table_rank t (InsertedInto a) h = cc
table_rank t (DeletedFrom a) h = cc
table_rank t (Compacted a) h = cc
table_rank t (DroppedTable a) h = cc
table_rank t (Altered a) h = cc

pub by_created_table : (t b : List ℕ) (ks : List Kind) → AreInOrder ks
    → option_or (find (is_same (CreatedTable t b)) ks) (find (is_drop_of t) ks) ≡ find (λ m. conflicts m (CreatedTable t b)) ks
by_created_table t b ks h =
    sym (either (is_same (CreatedTable t b)) (is_drop_of t) (λ k l yes later. omega (arith, same_rank (CreatedTable t b) k yes, drop_rank t l later)) ks h)
    ∙ find-same _ _ same ks
  where
    same : (m : Kind) → (is_same (CreatedTable t b) m || is_drop_of t m) ≡ conflicts m (CreatedTable t b)
    same (CreatedTable s a) = or-false _ ∙ sym (two_names s t a b)
    same (DroppedSchema i s) = refl
    same (CreatedSchema s) = refl
    same (InsertedInto a) = refl
    same (DeletedFrom a) = refl
    same (Compacted a) = refl
    same (DroppedTable a) = refl
    same (Altered a) = refl

pub by_dropped_schema : (j : ℕ) (t : List ℕ) (ks : List Kind) → AreInOrder ks
    → option_or (find (is_table_in t) ks) (find (is_drop_of t) ks) ≡ find (λ m. conflicts m (DroppedSchema j t)) ks
by_dropped_schema j t ks h =
    sym (either (is_table_in t) (is_drop_of t) (λ k l yes later. omega (arith, table_rank t k yes, drop_rank t l later)) ks h)
    ∙ find-same _ _ same ks
  where
    same : (m : Kind) → (is_table_in t m || is_drop_of t m) ≡ conflicts m (DroppedSchema j t)
    same (CreatedTable s a) = or-false _ ∙ sym (names s t)
    same (DroppedSchema i s) = refl
    same (CreatedSchema s) = refl
    same (InsertedInto a) = refl
    same (DeletedFrom a) = refl
    same (Compacted a) = refl
    same (DroppedTable a) = refl
    same (Altered a) = refl

pub by_inserted : (b : ℕ) (ks : List Kind) → find (λ m. conflicts m (InsertedInto b)) ks ≡ None
by_inserted b ks = find-same _ (λ k. false) same ks ∙ find-never ks
  where
    same : (m : Kind) → conflicts m (InsertedInto b) ≡ false
    same (CreatedTable s a) = refl
    same (DroppedSchema i s) = refl
    same (CreatedSchema s) = refl
    same (InsertedInto a) = refl
    same (DeletedFrom a) = refl
    same (Compacted a) = refl
    same (DroppedTable a) = refl
    same (Altered a) = refl

pub by_deleted : (b : ℕ) (ks : List Kind) → AreInOrder ks → first_same ks (rewriters b) ≡ find (λ m. conflicts m (DeletedFrom b)) ks
by_deleted b ks h = in_turn ks (rewriters b) h ((lit< tt, tt), (tt, tt)) ∙ find-same _ _ same ks
  where
    same : (m : Kind) → list_any (λ s. is_same s m) (rewriters b) ≡ conflicts m (DeletedFrom b)
    same (CreatedTable s a) = refl
    same (DroppedSchema i s) = refl
    same (CreatedSchema s) = refl
    same (InsertedInto a) = refl
    same (DeletedFrom a) = sym (id_alone a b)
    same (Compacted a) = sym (id_alone a b)
    same (DroppedTable a) = refl
    same (Altered a) = refl

pub by_compacted : (b : ℕ) (ks : List Kind) → AreInOrder ks → first_same ks (rewriters b) ≡ find (λ m. conflicts m (Compacted b)) ks
by_compacted b ks h = by_deleted b ks h ∙ find-same _ _ same ks
  where
    same : (m : Kind) → conflicts m (DeletedFrom b) ≡ conflicts m (Compacted b)
    same (CreatedTable s a) = refl
    same (DroppedSchema i s) = refl
    same (CreatedSchema s) = refl
    same (InsertedInto a) = refl
    same (DeletedFrom a) = refl
    same (Compacted a) = refl
    same (DroppedTable a) = refl
    same (Altered a) = refl

pub by_dropped_table : (b : ℕ) (ks : List Kind) → AreInOrder ks
    → first_same ks (users b) ≡ find (λ m. conflicts m (DroppedTable b)) ks
by_dropped_table b ks h =
    in_turn ks (users b) h ((lit< tt, (lit< tt, (lit< tt, (lit< tt, tt)))), ((lit< tt, (lit< tt, (lit< tt, tt))), ((lit< tt, (lit< tt, tt)), ((lit< tt, tt), (tt, tt)))))
    ∙ find-same _ _ same ks
  where
    same : (m : Kind) → list_any (λ s. is_same s m) (users b) ≡ conflicts m (DroppedTable b)
    same (CreatedTable s a) = refl
    same (DroppedSchema i s) = refl
    same (CreatedSchema s) = refl
    same (InsertedInto a) = sym (id_alone a b)
    same (DeletedFrom a) = sym (id_alone a b)
    same (Compacted a) = sym (id_alone a b)
    same (DroppedTable a) = sym (id_alone a b)
    same (Altered a) = sym (id_alone a b)

pub by_altered : (b : ℕ) (ks : List Kind) → AreInOrder ks
    → first_same ks (writers b) ≡ find (λ m. conflicts m (Altered b)) ks
by_altered b ks h =
    in_turn ks (writers b) h ((lit< tt, (lit< tt, tt)), ((lit< tt, tt), (tt, tt)))
    ∙ find-same _ _ same ks
  where
    same : (m : Kind) → list_any (λ s. is_same s m) (writers b) ≡ conflicts m (Altered b)
    same (CreatedTable s a) = refl
    same (DroppedSchema i s) = refl
    same (CreatedSchema s) = refl
    same (InsertedInto a) = sym (id_alone a b)
    same (DeletedFrom a) = sym (id_alone a b)
    same (Compacted a) = refl
    same (DroppedTable a) = refl
    same (Altered a) = sym (id_alone a b)

-- ---- dropped schemas by name

pub among_dropped : (t : List ℕ) (ks : List Kind) → find (is_drop_of t) (filter is_dropped_schema ks) ≡ find (is_drop_of t) ks
among_dropped t [] = refl
among_dropped t (DroppedSchema i s ∷ ks) = ap (λ o. cond (same_name s t) (Some (DroppedSchema i s)) o) (among_dropped t ks)
among_dropped t (CreatedTable s a ∷ ks) = among_dropped t ks
among_dropped t (CreatedSchema s ∷ ks) = among_dropped t ks
among_dropped t (InsertedInto a ∷ ks) = among_dropped t ks
among_dropped t (DeletedFrom a ∷ ks) = among_dropped t ks
among_dropped t (Compacted a ∷ ks) = among_dropped t ks
among_dropped t (DroppedTable a ∷ ks) = among_dropped t ks
among_dropped t (Altered a ∷ ks) = among_dropped t ks
