-- What a list that a transaction may have makes, and the kinds that tell it.
use Rattle.std.proofs.Common.{◌≡◌, ◌≤◌, ◌<◌, ◌+◌, ◌⊎◌, ◌==◌, ℕ, suc, zero, Bool, true, false, not, List, [], ◌∷◌, ◌++◌, map, filter, filter_map, Some, None, Option, refl, sym, ap, ap₂, subst, ◌∙◌, inl, inr, arith, Ordering, Less, Equal, Greater, is_eq, get_or, if◌then◌else◌}
use Rattle.std.specs.Prelude.{unwrap_or}
use Rattle.std.specs.List.{AllByRecursion}
use Rattle.std.proofs.lemmas.List.Folds.{list_any-append}
use Rattle.std.specs.Cmp.{unsigned_ties}
use Rattle.std.specs.Cmp.Lexicographic.{lists_ties, slice_cmp}
use Rattle.std.specs.Ordering.{nat_cmp}
use Rattle.std.proofs.lemmas.Bool.{eq-eqb, eqb-true, not-true}
use Rattle.lake_types.specs.Kinds.{AreNamed, IsNamed, kind_cmp, name_of, rank, subject, then_by}
use Rattle.lake_types.specs.declared.kind.Kind.{Kind}
use Rattle.lake_types.specs.declared.kind.Kind.TheVariants as kind
use Rattle.lake_types.specs.declared.kind.SchemaName.{SchemaName}
use Rattle.lake_model.specs.Apply.{Draft, SchemaDraft, Work, altered, begun, changed, created, drafted, drafted_schema, is_ref, worked}
use Rattle.lake_model.specs.ByTable.{draft_after}
use Rattle.lake_model.specs.Creations.{made_schemas}
use Rattle.lake_model.specs.Growth.{IsGrowth, made_tables, with_own_rows}
use Rattle.lake_model.specs.Kinds.{created_name, drops_schema, drops_table, is_drop_of_schema, is_drop_of_table, kinds, kinds_at, kinds_from, put, put_all, schemas_after, tables_after}
use Rattle.lake_model.specs.State.{State, Table}
use Rattle.lake_model.specs.declared.change.Change.{Change}
use Rattle.lake_model.specs.declared.change.Change.TheVariants as change
use Rattle.lake_model.specs.declared.change.Ref.{Ref}
use Rattle.lake_model.specs.declared.change.Ref.TheVariants as ref
use Rattle.lake_model.proofs.ApplyLemmas.{by_table}
use Rattle.lake_model.proofs.CreationLemmas.{altered-at, schemas-after}
use Rattle.lake_model.proofs.GrowthLemmas.{grows, made-tables}
use Rattle.lake_rebase.proofs.MemberLemmas.{In, all_in, in_cases, in_kept, in_left, in_map, in_right, kept_in, map_in, same_is}
use Rattle.lake_model.proofs.RefLemmas.{ref-same}
use Rattle.lake_rebase.proofs.WorkLemmas.{Allowed}

-- ---- references

eqb-turned : (a b : ℕ) → (b == a) ≡ (a == b)
eqb-turned a b = go (a == b) refl
  where
    go : (t : Bool) → (a == b) ≡ t → (b == a) ≡ (a == b)
    go true e = let same = eqb-true a b e in rw e (eq-eqb b a (sym same))
    go false e = rw e (grind (arith, e))

pub ref-turned : (a b : Ref) → is_ref b a ≡ is_ref a b
ref-turned (ref.Old a) (ref.Old b) = eqb-turned a b
ref-turned (ref.New a) (ref.New b) = eqb-turned a b
ref-turned (ref.Old a) (ref.New b) = refl
ref-turned (ref.New a) (ref.Old b) = refl

pub new-place : (p q : ℕ) → ref.New p ≡ ref.New q → p ≡ q
new-place p q e = cc

-- ---- what is made

-- a reference to a creation from this place on
pub record IsNew (from : ℕ) (at : Ref) : Type 0 where
  pub place : ℕ
  pub is : at ≡ ref.New place
  pub past : from ≤ place

newer : (m : ℕ) (at : Ref) → IsNew (m + 1) at → IsNew m at
newer m at h = record { place = h.place; is = h.is; past = let le = h.past in omega (arith, le) }

pub schema-new : (m : ℕ) (own : List Change) (x : SchemaDraft) → In x (made_schemas m own) → IsNew m x.at
schema-new m [] x there = absurd there
schema-new m (change.CreateSchema name ∷ own) x there = go (drops_schema own (ref.New m)) refl (schema-new (m + 1) own x)
  where
    go : (b : Bool) → drops_schema own (ref.New m) ≡ b → (In x (made_schemas (m + 1) own) → IsNew (m + 1) x.at) → IsNew m x.at
    go true e more = newer _ _ (more (rw e at there))
    go false e more = front (rw e at there) more
      where
        front : In x (record { at = ref.New m; name = name } ∷ made_schemas (m + 1) own) → (In x (made_schemas (m + 1) own) → IsNew (m + 1) x.at) → IsNew m x.at
        front (inl is) more = record { place = m; is = sym (ap (λ (s : SchemaDraft). s.at) is); past = omega arith }
        front (inr later) more = newer _ _ (more later)
schema-new m (c ∷ own) x there = schema-new m own x there

pub table-new : (n : ℕ) (own : List Change) (d : Draft) → In d (made_tables n own) → IsNew n d.at
table-new n [] d there = absurd there
table-new n (change.CreateTable schema name columns ∷ own) d there = go (drops_table own (ref.New n)) refl (table-new (n + 1) own d)
  where
    go : (b : Bool) → drops_table own (ref.New n) ≡ b → (In d (made_tables (n + 1) own) → IsNew (n + 1) d.at) → IsNew n d.at
    go true e more = newer _ _ (more (rw e at there))
    go false e more = front (rw e at there) more
      where
        front : In d (with_own_rows own (created n schema name columns) ∷ made_tables (n + 1) own) → (In d (made_tables (n + 1) own) → IsNew (n + 1) d.at) → IsNew n d.at
        front (inl is) more = record { place = n; is = sym (ap (λ (e : Draft). e.at) is); past = omega arith }
        front (inr later) more = newer _ _ (more later)
table-new n (c ∷ own) d there = table-new n own d there

-- the schemas of the work: old ones that aren't dropped, and made ones
pub record IsOldSchema (base : State) (own : List Change) (x : SchemaDraft) : Type 0 where
  pub schema : SchemaName
  pub there : In schema base.schemas
  pub is : drafted_schema schema ≡ x
  pub stays : drops_schema own (ref.Old schema.id) ≡ false

pub schemas-of : (base : State) (own : List Change) (x : SchemaDraft) → In x (worked base own).schemas → IsOldSchema base own x ⊎ In x (made_schemas 0 own)
schemas-of base own x there =
    go (in_cases x (filter stays (map drafted_schema base.schemas)) (made_schemas 0 own) (subst (λ l. In x l) (schemas-after own (begun base)) there))
  where
    stays : SchemaDraft → Bool
    stays s = not (drops_schema own s.at)

    go : In x (filter stays (map drafted_schema base.schemas)) ⊎ In x (made_schemas 0 own) → IsOldSchema base own x ⊎ In x (made_schemas 0 own)
    go (inl old) =
        let k = in_kept stays x (map drafted_schema base.schemas) old in
        let m = in_map drafted_schema x base.schemas k.0 in
        inl (record { schema = m.of; there = m.there; is = m.is; stays = ap (λ (s : SchemaDraft). drops_schema own s.at) m.is ∙ not-true _ k.1 })
    go (inr made) = inr made

pub schemas-of-old : (base : State) (own : List Change) (x : SchemaName) → In x base.schemas → drops_schema own (ref.Old x.id) ≡ false → In (drafted_schema x) (worked base own).schemas
schemas-of-old base own x there stays =
    subst (λ l. In (drafted_schema x) l) (sym (schemas-after own (begun base)))
    (in_left (drafted_schema x) (filter (λ (s : SchemaDraft). not (drops_schema own s.at)) (map drafted_schema base.schemas)) (made_schemas 0 own)
    (kept_in (λ (s : SchemaDraft). not (drops_schema own s.at)) (drafted_schema x) (map drafted_schema base.schemas) (map_in drafted_schema x base.schemas there) (ap not stays)))

pub schemas-of-made : (base : State) (own : List Change) (x : SchemaDraft) → In x (made_schemas 0 own) → In x (worked base own).schemas
schemas-of-made base own x there =
    subst (λ l. In x l) (sym (schemas-after own (begun base)))
    (in_right x (filter (λ (s : SchemaDraft). not (drops_schema own s.at)) (map drafted_schema base.schemas)) (made_schemas 0 own) there)

-- a made schema has the name that stands at its place
pub name-at : (m k : ℕ) (own : List Change) (x : SchemaDraft) → In x (made_schemas m own) → x.at ≡ ref.New (m + k) → created_name k own ≡ Some x.name
name-at m k [] x there is = absurd there
name-at m k (change.CreateSchema name ∷ own) x there is = go (drops_schema own (ref.New m)) refl (λ j later at. name-at (m + 1) j own x later at)
  where
    later-name : (k : ℕ) → ((j : ℕ) → In x (made_schemas (m + 1) own) → x.at ≡ ref.New (m + 1 + j) → created_name j own ≡ Some x.name) → In x (made_schemas (m + 1) own)
        → x.at ≡ ref.New (m + k) → created_name k (change.CreateSchema name ∷ own) ≡ Some x.name
    later-name zero more later is =
        let new = schema-new (m + 1) own x later in
        let same : new.place ≡ m + 0 = new-place new.place (m + 0) (sym new.is ∙ is) in
        absurd (let le = new.past in omega (arith, same, le))
    later-name (suc j) more later is = more j later (is ∙ ap ref.New (omega arith))

    go : (b : Bool) → drops_schema own (ref.New m) ≡ b → ((j : ℕ) → In x (made_schemas (m + 1) own) → x.at ≡ ref.New (m + 1 + j) → created_name j own ≡ Some x.name)
        → created_name k (change.CreateSchema name ∷ own) ≡ Some x.name
    go true e more = later-name k more (rw e at there) is
    go false e more = front (rw e at there)
      where
        front : In x (record { at = ref.New m; name = name } ∷ made_schemas (m + 1) own) → created_name k (change.CreateSchema name ∷ own) ≡ Some x.name
        front (inl here) =
            let same : m ≡ m + k = new-place m (m + k) (ap (λ (s : SchemaDraft). s.at) here ∙ is) in
            let first : k ≡ 0 = omega (arith, same) in
            rw first (ap (λ (s : SchemaDraft). Some s.name) here)
        front (inr later) = later-name k more later is
name-at m zero (c ∷ own) x there is = name-at m zero own x there is
name-at m (suc k) (c ∷ own) x there is = name-at m (suc k) own x there is

pub tables-of-made : (base : State) (own : List Change) → AllByRecursion IsGrowth own → (d : Draft) → In d (made_tables 0 own) → In d (worked base own).tables
tables-of-made base own growth d there =
    subst (λ l. In d l) (sym (by_table base own)) (in_right d (filter_map (draft_after own) (map drafted base.tables)) _ (subst (λ l. In d l) (sym (made-tables 0 own growth)) there))

pub picked : {X Y : Type 0} (f : X → Option Y) (x : X) (y : Y) (xs : List X) → f x ≡ Some y → In x xs → In y (filter_map f xs)
picked f x y [] e there = absurd there
picked f x y (z ∷ xs) e (inl is) = let at : f z ≡ Some y = ap f is ∙ e in rw at (inl refl)
picked f x y (z ∷ xs) e (inr later) = go (f z) refl (picked f x y xs e later)
  where
    go : (o : Option _) → f z ≡ o → In y (filter_map f xs) → In y (filter_map f (z ∷ xs))
    go None is more = rw is more
    go (Some w) is more = rw is (inr more)

pub tables-of-old : (base : State) (own : List Change) → AllByRecursion IsGrowth own → (t : Table) → In t base.tables → drops_table own (ref.Old t.id) ≡ false
    → In (with_own_rows own (drafted t)) (worked base own).tables
tables-of-old base own growth t there stays =
    let left : draft_after own (drafted t) ≡ Some (with_own_rows own (drafted t)) = grows own (drafted t) growth ∙ rw stays refl in
    subst (λ l. In (with_own_rows own (drafted t)) l) (sym (by_table base own)) (in_left _ (filter_map (draft_after own) (map drafted base.tables)) _
    (picked (draft_after own) (drafted t) (with_own_rows own (drafted t)) (map drafted base.tables) left (map_in drafted t base.tables there)))

-- ---- kinds in order

-- A kind is known by its sort and its subject; a dropped schema has the name of the base.
abbrev rebuilt : List SchemaName → ℕ → List ℕ → List ℕ → Kind
rebuilt names sort a b =
    if sort == 0 then kind.CreatedSchema a
    else if sort == 1 then kind.CreatedTable a b
    else if sort == 2 then kind.InsertedInto (get_or a 0 0)
    else if sort == 3 then kind.DeletedFrom (get_or a 0 0)
    else if sort == 4 then kind.Compacted (get_or a 0 0)
    else if sort == 5 then kind.DroppedSchema (get_or a 0 0) (unwrap_or (name_of names (get_or a 0 0)) [])
    else if sort == 6 then kind.DroppedTable (get_or a 0 0)
    else kind.Altered (get_or a 0 0)

abbrev again : List SchemaName → Kind → Kind
again names k = rebuilt names (rank k) (subject k).0 (subject k).1

named-again : (names : List SchemaName) (k : Kind) → IsNamed (name_of names) k → again names k ≡ k
named-again names (kind.CreatedSchema name) h = refl
named-again names (kind.CreatedTable schema name) h = refl
named-again names (kind.InsertedInto table) h = refl
named-again names (kind.DeletedFrom table) h = refl
named-again names (kind.Compacted table) h = refl
named-again names (kind.DroppedSchema id name) h = ap (λ o. kind.DroppedSchema id (unwrap_or o [])) h
named-again names (kind.DroppedTable table) h = refl
named-again names (kind.Altered table) h = refl

first_equal : (a b : Ordering) → then_by a b ≡ Equal → (a ≡ Equal) × (b ≡ Equal)
first_equal Less b e = absurd cc
first_equal Equal b e = (refl, e)
first_equal Greater b e = absurd cc

equal-numbers : (a b : ℕ) → nat_cmp a b ≡ Equal → a ≡ b
equal-numbers a b e = eqb-true a b (unsigned_ties a b ∙ ap is_eq e)

equal-texts : (a b : List ℕ) → slice_cmp nat_cmp a b ≡ Equal → a ≡ b
equal-texts a b e = same_is a b (lists_ties nat_cmp unsigned_ties a b ∙ ap is_eq e)

same-again : (names : List SchemaName) (k l : Kind) → kind_cmp k l ≡ Equal → again names l ≡ again names k
same-again names k l e =
    let one = first_equal (nat_cmp (rank k) (rank l)) _ e in
    let two = first_equal (slice_cmp nat_cmp (subject k).0 (subject l).0) _ one.1 in
    let sorts : rank l ≡ rank k = sym (equal-numbers (rank k) (rank l) one.0) in
    let firsts : (subject l).0 ≡ (subject k).0 = sym (equal-texts (subject k).0 (subject l).0 two.0) in
    let seconds : (subject l).1 ≡ (subject k).1 = sym (equal-texts (subject k).1 (subject l).1 two.1) in
    ap (λ r. rebuilt names r (subject l).0 (subject l).1) sorts ∙ ap₂ (λ a b. rebuilt names (rank k) a b) firsts seconds

pub record HasLike (names : List SchemaName) (k : Kind) (ks : List Kind) : Type 0 where
  pub like : Kind
  pub there : In like ks
  pub is : again names like ≡ again names k

module _ (names : List SchemaName) where
  put-new : (k : Kind) (ks : List Kind) → HasLike names k (put k ks)
  put-new k [] = record { like = k; there = inl refl; is = refl }
  put-new k (l ∷ ks) = go (kind_cmp k l) refl (put-new k ks)
    where
      go : (o : Ordering) → kind_cmp k l ≡ o → HasLike names k (put k ks) → HasLike names k (put k (l ∷ ks))
      go Less e more = rw e record { like = k; there = inl refl; is = refl }
      go Equal e more = rw e record { like = l; there = inl refl; is = same-again names k l e }
      go Greater e more = rw e record { like = more.like; there = inr more.there; is = more.is }

  put-old : (k j : Kind) (ks : List Kind) → In j ks → In j (put k ks)
  put-old k j [] there = absurd there
  put-old k j (l ∷ ks) there = go (kind_cmp k l) refl there (put-old k j ks)
    where
      go : (o : Ordering) → kind_cmp k l ≡ o → In j (l ∷ ks) → (In j ks → In j (put k ks)) → In j (put k (l ∷ ks))
      go Less e there more = rw e (inr there)
      go Equal e there more = rw e there
      go Greater e (inl is) more = rw e (inl is)
      go Greater e (inr later) more = rw e (inr (more later))

  put_all-old : (j : Kind) (ks sorted : List Kind) → In j sorted → In j (put_all sorted ks)
  put_all-old j [] sorted there = there
  put_all-old j (k ∷ ks) sorted there = put_all-old j ks (put k sorted) (put-old k j sorted there)

  put_all-new : (j : Kind) (ks sorted : List Kind) → In j ks → HasLike names j (put_all sorted ks)
  put_all-new j [] sorted there = absurd there
  put_all-new j (k ∷ ks) sorted (inl is) =
      let h = put-new k sorted in
      record { like = h.like; there = put_all-old h.like ks (put k sorted) h.there; is = h.is ∙ ap (again names) is }
  put_all-new j (k ∷ ks) sorted (inr later) = put_all-new j ks (put k sorted) later

-- a kind of the list, with the names of the base, is among its kinds
pub in-kinds : (names : List SchemaName) (own : List Change) (k : Kind) → AreNamed names (kinds names own) → again names k ≡ k → In k (kinds_from names own 0 0 own)
    → In k (kinds names own)
in-kinds names own k named own_name there =
    let h = put_all-new names k (kinds_from names own 0 0 own) [] there in
    let like_is : again names h.like ≡ h.like = named-again names h.like (all_in (IsNamed (name_of names)) h.like (kinds names own) named h.there) in
    subst (λ (l : Kind). In l (kinds names own)) (sym like_is ∙ h.is ∙ own_name) h.there

-- ---- kinds of what is dropped

drop-schema-told : (names : List SchemaName) (own : List Change) (id m n : ℕ) (rest : List Change) → drops_schema rest (ref.Old id) ≡ true
    → In (kind.DroppedSchema id (unwrap_or (name_of names id) [])) (kinds_from names own m n rest)
drop-schema-told names own id m n [] e = absurd cc
drop-schema-told names own id m n (change.DropSchema at ∷ rest) e = go (is_ref (ref.Old id) at) refl (drop-schema-told names own id m n rest)
  where
    K : Kind
    K = kind.DroppedSchema id (unwrap_or (name_of names id) [])

    go : (b : Bool) → is_ref (ref.Old id) at ≡ b → (drops_schema rest (ref.Old id) ≡ true → In K (kinds_from names own m n rest)) → In K (kinds_from names own m n (change.DropSchema at ∷ rest))
    go true is more = subst (λ r. In K (kinds_at names own m n (change.DropSchema r) ++ kinds_from names own m n rest)) (ref-same (ref.Old id) at is) (inl refl)
    go false is more = in_right K (kinds_at names own m n (change.DropSchema at)) (kinds_from names own m n rest) (more (rw is at e))
drop-schema-told names own id m n (c ∷ rest) e =
    in_right _ (kinds_at names own m n c) (kinds_from names own (schemas_after m c) (tables_after n c) rest) (drop-schema-told names own id (schemas_after m c) (tables_after n c) rest e)

drop-table-told : (names : List SchemaName) (own : List Change) (id m n : ℕ) (rest : List Change) → drops_table rest (ref.Old id) ≡ true
    → In (kind.DroppedTable id) (kinds_from names own m n rest)
drop-table-told names own id m n [] e = absurd cc
drop-table-told names own id m n (change.DropTable at ∷ rest) e = go (is_ref (ref.Old id) at) refl (drop-table-told names own id m n rest)
  where
    K : Kind
    K = kind.DroppedTable id

    go : (b : Bool) → is_ref (ref.Old id) at ≡ b → (drops_table rest (ref.Old id) ≡ true → In K (kinds_from names own m n rest)) → In K (kinds_from names own m n (change.DropTable at ∷ rest))
    go true is more = subst (λ r. In K (kinds_at names own m n (change.DropTable r) ++ kinds_from names own m n rest)) (ref-same (ref.Old id) at is) (inl refl)
    go false is more = in_right K (kinds_at names own m n (change.DropTable at)) (kinds_from names own m n rest) (more (rw is at e))
drop-table-told names own id m n (c ∷ rest) e =
    in_right _ (kinds_at names own m n c) (kinds_from names own (schemas_after m c) (tables_after n c) rest) (drop-table-told names own id (schemas_after m c) (tables_after n c) rest e)

pub dropped-schema : (names : List SchemaName) (own : List Change) (id : ℕ) → AreNamed names (kinds names own) → drops_schema own (ref.Old id) ≡ true → In (kind.DroppedSchema id (unwrap_or (name_of names id) [])) (kinds names own)
dropped-schema names own id named e = in-kinds names own (kind.DroppedSchema id (unwrap_or (name_of names id) [])) named refl (drop-schema-told names own id 0 0 own e)

pub dropped-table : (names : List SchemaName) (own : List Change) (id : ℕ) → AreNamed names (kinds names own) → drops_table own (ref.Old id) ≡ true → In (kind.DroppedTable id) (kinds names own)
dropped-table names own id named e = in-kinds names own (kind.DroppedTable id) named refl (drop-table-told names own id 0 0 own e)

-- ---- kinds of what is made

-- a list names among its creations only what was created
pub record IsEarly (before : List Change) (w : Work) : Type 0 where
  pub schemas : (p : ℕ) → w.created_schemas ≤ p → drops_schema before (ref.New p) ≡ false
  pub tables : (p : ℕ) → w.created_tables ≤ p → drops_table before (ref.New p) ≡ false
  pub schema_refs : (x : SchemaDraft) → In x w.schemas → (p : ℕ) → x.at ≡ ref.New p → p < w.created_schemas
  pub table_refs : (d : Draft) → In d w.tables → (p : ℕ) → d.at ≡ ref.New p → p < w.created_tables

drops-more : (before : List Change) (c : Change) (at : Ref) → drops_schema before at ≡ false → is_drop_of_schema at c ≡ false → drops_schema (before ++ c ∷ []) at ≡ false
drops-more before c at e f = list_any-append (is_drop_of_schema at) before (c ∷ []) ∙ rw (e, f) refl

drops-table-more : (before : List Change) (c : Change) (at : Ref) → drops_table before at ≡ false → is_drop_of_table at c ≡ false → drops_table (before ++ c ∷ []) at ≡ false
drops-table-more before c at e f = list_any-append (is_drop_of_table at) before (c ∷ []) ∙ rw (e, f) refl

not-ref : (p : ℕ) (at : Ref) (n : ℕ) → ((q : ℕ) → at ≡ ref.New q → q < n) → n ≤ p → is_ref (ref.New p) at ≡ false
not-ref p (ref.Old id) n h le = refl
not-ref p (ref.New q) n h le = let lt = h q refl in grind (arith, lt, le)

one-of : {X : Type 0} (x y : X) → In x (y ∷ []) → y ≡ x
one-of x y (inl is) = is
one-of x y (inr later) = absurd later

pub early-changed : (before : List Change) (w : Work) (c : Change) → IsGrowth c → Allowed w c → IsEarly before w → IsEarly (before ++ c ∷ []) (changed w c)
early-changed before w (change.CreateSchema name) g h e = record {
  schemas = λ p le. drops-more before (change.CreateSchema name) (ref.New p) (e.schemas p (omega (arith, le))) refl;
  tables = λ p le. drops-table-more before (change.CreateSchema name) (ref.New p) (e.tables p le) refl;
  schema_refs = λ x there p is. go x p is (in_cases x w.schemas (made ∷ []) there);
  table_refs = e.table_refs;
}
  where
    made : SchemaDraft
    made = record { at = ref.New w.created_schemas; name = name }

    go : (x : SchemaDraft) (p : ℕ) → x.at ≡ ref.New p → In x w.schemas ⊎ In x (made ∷ []) → p < w.created_schemas + 1
    go x p is (inl old) = let lt = e.schema_refs x old p is in omega (arith, lt)
    go x p is (inr new) =
        let same : w.created_schemas ≡ p = new-place w.created_schemas p (ap (λ (s : SchemaDraft). s.at) (one-of x made new) ∙ is) in omega (arith, same)
early-changed before w (change.DropSchema at) g h e = record {
  schemas = λ p le.
      drops-more before (change.DropSchema at) (ref.New p) (e.schemas p le)
      (not-ref p at w.created_schemas (λ q is. e.schema_refs h.0.draft h.0.there q (h.0.at_is ∙ is)) le);
  tables = λ p le. drops-table-more before (change.DropSchema at) (ref.New p) (e.tables p le) refl;
  schema_refs = λ x there. e.schema_refs x (in_kept (λ (s : SchemaDraft). not (is_ref s.at at)) x w.schemas there).0;
  table_refs = e.table_refs;
}
early-changed before w (change.CreateTable schema name columns) g h e = record {
  schemas = λ p le. drops-more before (change.CreateTable schema name columns) (ref.New p) (e.schemas p le) refl;
  tables = λ p le. drops-table-more before (change.CreateTable schema name columns) (ref.New p) (e.tables p (omega (arith, le))) refl;
  schema_refs = e.schema_refs;
  table_refs = λ d there p is. go d p is (in_cases d w.tables (made ∷ []) there);
}
  where
    made : Draft
    made = created w.created_tables schema name columns

    go : (d : Draft) (p : ℕ) → d.at ≡ ref.New p → In d w.tables ⊎ In d (made ∷ []) → p < w.created_tables + 1
    go d p is (inl old) = let lt = e.table_refs d old p is in omega (arith, lt)
    go d p is (inr new) =
        let same : w.created_tables ≡ p = new-place w.created_tables p (ap (λ (f : Draft). f.at) (one-of d made new) ∙ is) in omega (arith, same)
early-changed before w (change.DropTable at) g h e = record {
  schemas = λ p le. drops-more before (change.DropTable at) (ref.New p) (e.schemas p le) refl;
  tables = λ p le.
      drops-table-more before (change.DropTable at) (ref.New p) (e.tables p le)
      (not-ref p at w.created_tables (λ q is. e.table_refs h.draft h.there q (h.at_is ∙ is)) le);
  schema_refs = e.schema_refs;
  table_refs = λ d there. e.table_refs d (in_kept (λ (f : Draft). not (is_ref f.at at)) d w.tables there).0;
}
early-changed before w (change.Insert table rows) g h e = record {
  schemas = λ p le. drops-more before (change.Insert table rows) (ref.New p) (e.schemas p le) refl;
  tables = λ p le. drops-table-more before (change.Insert table rows) (ref.New p) (e.tables p le) refl;
  schema_refs = e.schema_refs;
  table_refs = λ d there p is.
      let m = in_map (altered (change.Insert table rows)) d w.tables there in
      e.table_refs m.of m.there p (sym (altered-at (change.Insert table rows) m.of) ∙ ap (λ (f : Draft). f.at) m.is ∙ is);
}
early-changed before w (change.AddColumn table column) g h e = absurd g
early-changed before w (change.DropColumn table field) g h e = absurd g
early-changed before w (change.RenameColumn table field name) g h e = absurd g
early-changed before w (change.PromoteColumn table field ty) g h e = absurd g
early-changed before w (change.SetDefault table field v) g h e = absurd g
early-changed before w (change.Delete table rows) g h e = absurd g
early-changed before w (change.Update table rows set) g h e = absurd g
early-changed before w (change.Compact table) g h e = absurd g
early-changed before w (change.Flush table) g h e = absurd g

pub early-begun : (base : State) → IsEarly [] (begun base)
early-begun base = record {
  schemas = λ p le. refl;
  tables = λ p le. refl;
  schema_refs = λ x there p is.
      let m = in_map drafted_schema x base.schemas there in
      absurd (let no : ref.Old m.of.id ≡ ref.New p = ap (λ (s : SchemaDraft). s.at) m.is ∙ is in cc);
  table_refs = λ d there p is.
      let m = in_map drafted d base.tables there in
      absurd (let no : ref.Old m.of.id ≡ ref.New p = ap (λ (e : Draft). e.at) m.is ∙ is in cc);
}
