-- The ids of schemas and tables.
use Rattle.std.proofs.Common.{◌≡◌, ℕ, ◌+◌, ◌<◌, ◌≤◌, List, [], ◌∷◌, ◌++◌, map, filter, length, cond, refl, sym, ap, ap₂, subst, ◌∙◌, arith, Bool, true, false}
use Rattle.std.specs.Prelude.{Option, Some, None, not, option_map}
use Rattle.std.specs.List.{AllByRecursion, cons_option, filter_map}
use Rattle.std.proofs.lemmas.Bool.{ne_eqb, eq-eqb}
use Rattle.std.proofs.lemmas.List.{map-append}
use Rattle.lake_types.specs.declared.kind.SchemaName.{SchemaName}
use Rattle.lake_model.specs.Apply.{Creation, Draft, NewSchema, NewTable, SchemaDraft, apply, begun, created, drafted, drafted_schema, is_created_schema, is_created_table, place_of, schema_id, settled_schema, settled_table, table_id, worked}
use Rattle.lake_model.specs.ByTable.{draft_after, made_from}
use Rattle.lake_model.specs.Creations.{creations, made_schemas}
use Rattle.lake_model.specs.Growth as growth
use Rattle.lake_model.specs.Kinds.{drops_schema, drops_table}
use Rattle.lake_model.specs.Laws.{AreApart, CatalogIdsRise, RiseBelow, schema_ids, table_ids}
use Rattle.lake_model.specs.State.{State, Table}
use Rattle.lake_model.specs.declared.change.Change.{Change}
use Rattle.lake_model.specs.declared.change.Change.TheVariants as change
use Rattle.lake_model.specs.declared.change.Ref.TheVariants as ref
use Rattle.lake_model.proofs.ApplyLemmas.{by_table}
use Rattle.lake_model.proofs.CreationLemmas.{after-at, created-worked, left_schemas, schemas-after}
use Rattle.lake_model.proofs.RiseLemmas.{all-below, apart-beyond, apart-filters, apart-joined, apart-turned, parts-apart, rise-filter, rise-join, rise-shifted}

-- ---- places of creations

abbrev is_same : Creation → Creation → Bool
is_same (NewSchema p) = is_created_schema (ref.New p)
is_same (NewTable p) = is_created_table (ref.New p)

same_creation : (c : Creation) → is_same c c ≡ true
same_creation (NewSchema p) = eq-eqb p p refl
same_creation (NewTable p) = eq-eqb p p refl

-- each creation stands once
abbrev Differ : List Creation → Type 0
Differ [] = Unit {0}
Differ (c ∷ cs) = AllByRecursion (λ d. is_same d c ≡ false) cs × Differ cs

abbrev place : List Creation → Creation → ℕ
place cs c = place_of (is_same c) cs

places-rise : (cs : List Creation) → Differ cs → RiseBelow (length cs) (map (place cs) cs)
places-rise [] h = tt
places-rise (c ∷ cs) h = (low, past cs h.0, subst (λ n. RiseBelow n (map (place (c ∷ cs)) cs)) size (rise-shifted (place cs) (place (c ∷ cs)) 1 (length cs) cs (more cs h.0) (places-rise cs h.1)))
  where
    first : place (c ∷ cs) c ≡ 0
    first = ap (λ b. cond b 0 (place cs c + 1)) (same_creation c)

    low : place (c ∷ cs) c < length (c ∷ cs)
    low = omega (arith, first)

    size : length cs + 1 ≡ length (c ∷ cs)
    size = omega arith

    more : (ds : List Creation) → AllByRecursion (λ d. is_same d c ≡ false) ds → AllByRecursion (λ d. place (c ∷ cs) d ≡ place cs d + 1) ds
    more [] k = tt
    more (d ∷ ds) k = (ap (λ b. cond b 0 (place cs d + 1)) k.0, more ds k.1)

    past : (ds : List Creation) → AllByRecursion (λ d. is_same d c ≡ false) ds → AllByRecursion (λ y. place (c ∷ cs) c < y) (map (place (c ∷ cs)) ds)
    past [] k = tt
    past (d ∷ ds) k =
        let next : place (c ∷ cs) d ≡ place cs d + 1 = ap (λ b. cond b 0 (place cs d + 1)) k.0 in
        (omega (arith, first, next), past ds k.1)

-- the creations from these places on
abbrev IsFrom : ℕ → ℕ → Creation → Type 0
IsFrom m n (NewSchema p) = m ≤ p
IsFrom m n (NewTable p) = n ≤ p

all_from : (m n : ℕ) (own : List Change) (k l : ℕ) → k ≤ m → l ≤ n → AllByRecursion (IsFrom k l) (creations m n own)
all_from m n [] k l a b = tt
all_from m n (change.CreateSchema name ∷ own) k l a b = go (drops_schema own (ref.New m)) refl (all_from (m + 1) n own k l (omega arith) b)
  where
    go : (t : Bool) → drops_schema own (ref.New m) ≡ t → AllByRecursion (IsFrom k l) (creations (m + 1) n own) → AllByRecursion (IsFrom k l) (creations m n (change.CreateSchema name ∷ own))
    go true e rest = rw e rest
    go false e rest = rw e (a, rest)
all_from m n (change.CreateTable schema name columns ∷ own) k l a b = go (drops_table own (ref.New n)) refl (all_from m (n + 1) own k l a (omega arith))
  where
    go : (t : Bool) → drops_table own (ref.New n) ≡ t → AllByRecursion (IsFrom k l) (creations m (n + 1) own) → AllByRecursion (IsFrom k l) (creations m n (change.CreateTable schema name columns ∷ own))
    go true e rest = rw e rest
    go false e rest = rw e (b, rest)
all_from m n (c ∷ own) k l a b = all_from m n own k l a b

other_schema : (m n : ℕ) (cs : List Creation) → AllByRecursion (IsFrom (m + 1) n) cs → AllByRecursion (λ d. is_same d (NewSchema m) ≡ false) cs
other_schema m n [] h = tt
other_schema m n (NewSchema p ∷ cs) h = (ne_eqb p m (λ same. absurd (omega (arith, same, h.0))), other_schema m n cs h.1)
other_schema m n (NewTable p ∷ cs) h = (refl, other_schema m n cs h.1)

other_table : (m n : ℕ) (cs : List Creation) → AllByRecursion (IsFrom m (n + 1)) cs → AllByRecursion (λ d. is_same d (NewTable n) ≡ false) cs
other_table m n [] h = tt
other_table m n (NewTable p ∷ cs) h = (ne_eqb p n (λ same. absurd (omega (arith, same, h.0))), other_table m n cs h.1)
other_table m n (NewSchema p ∷ cs) h = (refl, other_table m n cs h.1)

≤-same : (n : ℕ) → n ≤ n
≤-same n = omega arith

differ : (m n : ℕ) (own : List Change) → Differ (creations m n own)
differ m n [] = tt
differ m n (change.CreateSchema name ∷ own) = go (drops_schema own (ref.New m)) refl (differ (m + 1) n own)
  where
    go : (t : Bool) → drops_schema own (ref.New m) ≡ t → Differ (creations (m + 1) n own) → Differ (creations m n (change.CreateSchema name ∷ own))
    go true e rest = rw e rest
    go false e rest = rw e (other_schema m n (creations (m + 1) n own) (all_from (m + 1) n own (m + 1) n (≤-same (m + 1)) (≤-same n)), rest)
differ m n (change.CreateTable schema name columns ∷ own) = go (drops_table own (ref.New n)) refl (differ m (n + 1) own)
  where
    go : (t : Bool) → drops_table own (ref.New n) ≡ t → Differ (creations m (n + 1) own) → Differ (creations m n (change.CreateTable schema name columns ∷ own))
    go true e rest = rw e rest
    go false e rest = rw e (other_table m n (creations m (n + 1) own) (all_from m (n + 1) own m (n + 1) (≤-same m) (≤-same (n + 1))), rest)
differ m n (c ∷ own) = differ m n own

-- ---- ids of creations

abbrev pub number : ℕ → List Creation → Creation → ℕ
number next new (NewSchema p) = schema_id next new (ref.New p)
number next new (NewTable p) = table_id next new (ref.New p)

abbrev pub is_schema : Creation → Bool
is_schema (NewSchema p) = true
is_schema (NewTable p) = false

number-is : (next : ℕ) (new cs : List Creation) → AllByRecursion (λ c. number next new c ≡ place new c + next) cs
number-is next new [] = tt
number-is next new (NewSchema p ∷ cs) = (omega arith, number-is next new cs)
number-is next new (NewTable p ∷ cs) = (omega arith, number-is next new cs)

pub numbers-rise : (next : ℕ) (own : List Change) → RiseBelow (next + length (creations 0 0 own)) (map (number next (creations 0 0 own)) (creations 0 0 own))
numbers-rise next own =
    let new = creations 0 0 own in
    let limit : length new + next ≡ next + length new = omega arith in
    subst (λ n. RiseBelow n (map (number next new) new)) limit
    (rise-shifted (place new) (number next new) next (length new) new (number-is next new new) (places-rise new (differ 0 0 own)))

pub numbers-beyond : (next : ℕ) (new cs : List Creation) → AllByRecursion (λ y. next ≤ y) (map (number next new) cs)
numbers-beyond next new [] = tt
numbers-beyond next new (NewSchema p ∷ cs) = (omega arith, numbers-beyond next new cs)
numbers-beyond next new (NewTable p ∷ cs) = (omega arith, numbers-beyond next new cs)

-- ---- the ids after a list

pub made-schema_ids : (next : ℕ) (new : List Creation) (m n : ℕ) (own : List Change)
    → map (λ (s : SchemaDraft). schema_id next new s.at) (made_schemas m own) ≡ map (number next new) (filter is_schema (creations m n own))
made-schema_ids next new m n [] = refl
made-schema_ids next new m n (change.CreateSchema name ∷ own) = go (drops_schema own (ref.New m)) refl (made-schema_ids next new (m + 1) n own)
  where
    go : (t : Bool) → drops_schema own (ref.New m) ≡ t
        → map (λ (s : SchemaDraft). schema_id next new s.at) (made_schemas (m + 1) own) ≡ map (number next new) (filter is_schema (creations (m + 1) n own))
        → map (λ (s : SchemaDraft). schema_id next new s.at) (made_schemas m (change.CreateSchema name ∷ own)) ≡ map (number next new) (filter is_schema (creations m n (change.CreateSchema name ∷ own)))
    go true e rest = rw e rest
    go false e rest = rw e (ap (λ l. schema_id next new (ref.New m) ∷ l) rest)
made-schema_ids next new m n (change.CreateTable schema name columns ∷ own) = go (drops_table own (ref.New n)) refl (made-schema_ids next new m (n + 1) own)
  where
    go : (t : Bool) → drops_table own (ref.New n) ≡ t
        → map (λ (s : SchemaDraft). schema_id next new s.at) (made_schemas m own) ≡ map (number next new) (filter is_schema (creations m (n + 1) own))
        → map (λ (s : SchemaDraft). schema_id next new s.at) (made_schemas m own) ≡ map (number next new) (filter is_schema (creations m n (change.CreateTable schema name columns ∷ own)))
    go true e rest = rw e rest
    go false e rest = rw e rest
made-schema_ids next new m n (c ∷ own) = made-schema_ids next new m n own

table_ids-onto : (next : ℕ) (new : List Creation) (o : Option Draft) (ds : List Draft)
    → map (λ (d : Draft). table_id next new d.at) (cons_option o ds) ≡ cons_option (option_map (table_id next new) (option_map (λ (d : Draft). d.at) o)) (map (λ (d : Draft). table_id next new d.at) ds)
table_ids-onto next new None ds = refl
table_ids-onto next new (Some d) ds = refl

made-table_ids : (next : ℕ) (new : List Creation) (m n : ℕ) (own : List Change)
    → map (λ (d : Draft). table_id next new d.at) (made_from n own) ≡ map (number next new) (filter (λ c. not (is_schema c)) (creations m n own))
made-table_ids next new m n [] = refl
made-table_ids next new m n (change.CreateTable schema name columns ∷ own) =
    table_ids-onto next new (draft_after own d) (made_from (n + 1) own)
    ∙ ap (λ o. cons_option (option_map (table_id next new) o) (map (λ (x : Draft). table_id next new x.at) (made_from (n + 1) own))) (after-at own d)
    ∙ go (drops_table own (ref.New n)) refl (made-table_ids next new m (n + 1) own)
  where
    d : Draft
    d = created n schema name columns

    go : (t : Bool) → drops_table own (ref.New n) ≡ t
        → map (λ (x : Draft). table_id next new x.at) (made_from (n + 1) own) ≡ map (number next new) (filter (λ c. not (is_schema c)) (creations m (n + 1) own))
        → cons_option (option_map (table_id next new) (cond (drops_table own (ref.New n)) None (Some (ref.New n)))) (map (λ (x : Draft). table_id next new x.at) (made_from (n + 1) own))
        ≡ map (number next new) (filter (λ c. not (is_schema c)) (creations m n (change.CreateTable schema name columns ∷ own)))
    go true e rest = rw e rest
    go false e rest = rw e (ap (λ l. table_id next new (ref.New n) ∷ l) rest)
made-table_ids next new m n (change.CreateSchema name ∷ own) = go (drops_schema own (ref.New m)) refl (made-table_ids next new (m + 1) n own)
  where
    go : (t : Bool) → drops_schema own (ref.New m) ≡ t
        → map (λ (x : Draft). table_id next new x.at) (made_from n own) ≡ map (number next new) (filter (λ c. not (is_schema c)) (creations (m + 1) n own))
        → map (λ (x : Draft). table_id next new x.at) (made_from n own) ≡ map (number next new) (filter (λ c. not (is_schema c)) (creations m n (change.CreateSchema name ∷ own)))
    go true e rest = rw e rest
    go false e rest = rw e rest
made-table_ids next new m n (c ∷ own) = made-table_ids next new m n own

old-schema_ids : (next : ℕ) (new : List Creation) (own : List Change) (ss : List SchemaName)
    → map (λ (s : SchemaDraft). schema_id next new s.at) (left_schemas own (map drafted_schema ss)) ≡ map (λ (x : SchemaName). x.id) (filter (λ (x : SchemaName). not (drops_schema own (ref.Old x.id))) ss)
old-schema_ids next new own [] = refl
old-schema_ids next new own (s ∷ ss) = go (drops_schema own (ref.Old s.id)) refl (old-schema_ids next new own ss)
  where
    go : (t : Bool) → drops_schema own (ref.Old s.id) ≡ t
        → map (λ (s : SchemaDraft). schema_id next new s.at) (left_schemas own (map drafted_schema ss)) ≡ map (λ (x : SchemaName). x.id) (filter (λ (x : SchemaName). not (drops_schema own (ref.Old x.id))) ss)
        → map (λ (s : SchemaDraft). schema_id next new s.at) (left_schemas own (map drafted_schema (s ∷ ss))) ≡ map (λ (x : SchemaName). x.id) (filter (λ (x : SchemaName). not (drops_schema own (ref.Old x.id))) (s ∷ ss))
    go true e rest = rw e rest
    go false e rest = rw e (ap (λ l. s.id ∷ l) rest)

old-table_ids : (next : ℕ) (new : List Creation) (own : List Change) (ts : List Table)
    → map (λ (d : Draft). table_id next new d.at) (filter_map (draft_after own) (map drafted ts)) ≡ map (λ (t : Table). t.id) (filter (λ (t : Table). not (drops_table own (ref.Old t.id))) ts)
old-table_ids next new own [] = refl
old-table_ids next new own (t ∷ ts) =
    table_ids-onto next new (draft_after own (drafted t)) (filter_map (draft_after own) (map drafted ts))
    ∙ ap (λ o. cons_option (option_map (table_id next new) o) (map (λ (d : Draft). table_id next new d.at) (filter_map (draft_after own) (map drafted ts)))) (after-at own (drafted t))
    ∙ go (drops_table own (ref.Old t.id)) refl (old-table_ids next new own ts)
  where
    go : (b : Bool) → drops_table own (ref.Old t.id) ≡ b
        → map (λ (d : Draft). table_id next new d.at) (filter_map (draft_after own) (map drafted ts)) ≡ map (λ (x : Table). x.id) (filter (λ (x : Table). not (drops_table own (ref.Old x.id))) ts)
        → cons_option (option_map (table_id next new) (cond (drops_table own (ref.Old t.id)) None (Some (ref.Old t.id)))) (map (λ (d : Draft). table_id next new d.at) (filter_map (draft_after own) (map drafted ts)))
        ≡ map (λ (x : Table). x.id) (filter (λ (x : Table). not (drops_table own (ref.Old x.id))) (t ∷ ts))
    go true e rest = rw e rest
    go false e rest = rw e (ap (λ l. t.id ∷ l) rest)

pub settled-schema_ids : (next : ℕ) (new : List Creation) (ss : List SchemaDraft) → map (λ (x : SchemaName). x.id) (map (settled_schema next new) ss) ≡ map (λ (s : SchemaDraft). schema_id next new s.at) ss
settled-schema_ids next new [] = refl
settled-schema_ids next new (s ∷ ss) = ap (λ l. schema_id next new s.at ∷ l) (settled-schema_ids next new ss)

pub settled-table_ids : (next : ℕ) (new : List Creation) (ds : List Draft) → map (λ (t : Table). t.id) (map (settled_table next new) ds) ≡ map (λ (d : Draft). table_id next new d.at) ds
settled-table_ids next new [] = refl
settled-table_ids next new (d ∷ ds) = ap (λ l. table_id next new d.at ∷ l) (settled-table_ids next new ds)

schema_ids-after : (s : State) (own : List Change) → schema_ids (apply s own)
    ≡ map (λ (x : SchemaName). x.id) (growth.left_schemas s own) ++ map (number s.next_catalog (creations 0 0 own)) (filter is_schema (creations 0 0 own))
schema_ids-after s own =
    let next = s.next_catalog in
    let new = creations 0 0 own in
    settled-schema_ids next (worked s own).created (worked s own).schemas
    ∙ ap₂ (λ cs ss. map (λ (x : SchemaDraft). schema_id next cs x.at) ss) (created-worked s own) (schemas-after own (begun s))
    ∙ map-append (λ (x : SchemaDraft). schema_id next new x.at) (left_schemas own (map drafted_schema s.schemas)) (made_schemas 0 own)
    ∙ ap₂ ◌++◌ (old-schema_ids next new own s.schemas) (made-schema_ids next new 0 0 own)

table_ids-after : (s : State) (own : List Change) → table_ids (apply s own)
    ≡ map (λ (t : Table). t.id) (growth.left_tables s own) ++ map (number s.next_catalog (creations 0 0 own)) (filter (λ c. not (is_schema c)) (creations 0 0 own))
table_ids-after s own =
    let next = s.next_catalog in
    let new = creations 0 0 own in
    settled-table_ids next (worked s own).created (worked s own).tables
    ∙ ap₂ (λ cs ds. map (λ (d : Draft). table_id next cs d.at) ds) (created-worked s own) (by_table s own)
    ∙ map-append (λ (d : Draft). table_id next new d.at) (filter_map (draft_after own) (map drafted s.tables)) (made_from 0 own)
    ∙ ap₂ ◌++◌ (old-table_ids next new own s.tables) (made-table_ids next new 0 0 own)

pub catalog_ids_rise : CatalogIdsRise
catalog_ids_rise s own h =
    let next = s.next_catalog in
    let new = creations 0 0 own in
    let limit = next + length new in
    let size : limit ≡ (apply s own).next_catalog = ap (λ cs. next + length cs) (sym (created-worked s own)) in
    let schemas = rise-filter (λ (x : SchemaName). x.id) next (λ x. not (drops_schema own (ref.Old x.id))) s.schemas h.schemas in
    let tables = rise-filter (λ (t : Table). t.id) next (λ t. not (drops_table own (ref.Old t.id))) s.tables h.tables in
    let all = numbers-rise next own in
    let new_schemas = map (number next new) (filter is_schema new) in
    let new_tables = map (number next new) (filter (λ c. not (is_schema c)) new) in
    let old_schemas = map (λ (x : SchemaName). x.id) (growth.left_schemas s own) in
    let old_tables = map (λ (t : Table). t.id) (growth.left_tables s own) in
    let beyond_schemas = numbers-beyond next new (filter is_schema new) in
    let beyond_tables = numbers-beyond next new (filter (λ c. not (is_schema c)) new) in
    let more : next ≤ limit = omega arith in
    record {
      schemas = subst (λ n. RiseBelow n (schema_ids (apply s own))) size (subst (RiseBelow limit) (sym (schema_ids-after s own))
          (rise-join next limit old_schemas new_schemas more schemas beyond_schemas (rise-filter (number next new) limit is_schema new all)));
      tables = subst (λ n. RiseBelow n (table_ids (apply s own))) size (subst (RiseBelow limit) (sym (table_ids-after s own))
          (rise-join next limit old_tables new_tables more tables beyond_tables (rise-filter (number next new) limit (λ c. not (is_schema c)) new all)));
      apart = subst (λ xs. AreApart xs (table_ids (apply s own))) (sym (schema_ids-after s own)) (subst (AreApart (old_schemas ++ new_schemas)) (sym (table_ids-after s own))
          (apart-joined old_schemas new_schemas old_tables new_tables
          (apart-filters (λ (x : SchemaName). x.id) (λ (t : Table). t.id) (λ x. not (drops_schema own (ref.Old x.id))) (λ t. not (drops_table own (ref.Old t.id))) s.schemas s.tables h.apart)
          (apart-beyond next old_schemas new_tables (all-below next old_schemas schemas) beyond_tables)
          (apart-turned old_tables new_schemas (apart-beyond next old_tables new_schemas (all-below next old_tables tables) beyond_schemas))
          (parts-apart (number next new) limit is_schema new all)));
    }
