-- A list that conflicts with nothing told between its base and a head, at that head.
use Rattle.std.proofs.Common.{◌≡◌, ◌≢◌, ◌≤◌, ◌<◌, ◌+◌, ◌⊎◌, ℕ, Bool, true, false, not, List, [], ◌∷◌, length, map, Contains, refl, sym, ap, subst, ◌∙◌, inl, inr, arith}
use Rattle.std.specs.Prelude.{Option, Some, None, IsSome, unwrap_or}
use Rattle.std.specs.List.{AllByRecursion}
use Rattle.std.proofs.lemmas.Bool.{eq-eqb, not-true}
use Rattle.lake_types.specs.Kinds.{AreNamed, name_of}
use Rattle.lake_types.specs.declared.kind.Kind.{Kind}
use Rattle.lake_types.specs.declared.kind.Kind.TheVariants as kind
use Rattle.lake_types.specs.declared.kind.SchemaName.{SchemaName}
use Rattle.lake_model.specs.Apply.{Creation, Draft, SchemaDraft, apply, drafted, drafted_schema, is_ref, schema_id, settled_schema, settled_table, table_id, worked}
use Rattle.lake_model.specs.Clashes.{conflicts, same_name}
use Rattle.lake_model.specs.Creations.{creations, made_schemas}
use Rattle.lake_model.specs.Growth as growth
use Rattle.lake_model.specs.Growth.{IsGrowth, grown, grown_state, made_tables, new_schemas, new_tables, rows_for, with_own_rows}
use Rattle.lake_model.specs.Kinds.{drops_schema, drops_table, kinds, schema_name}
use Rattle.lake_model.specs.Laws.{IsKnown, KnownSchema, RiseBelow}
use Rattle.lake_model.specs.State.{State, Table}
use Rattle.lake_model.specs.declared.change.Change.{Change}
use Rattle.lake_model.specs.declared.change.Change.TheVariants as change
use Rattle.lake_model.specs.declared.change.Ref.{Ref}
use Rattle.lake_model.specs.declared.change.Ref.TheVariants as ref
use Rattle.lake_model.proofs.CatalogLemmas.{settled-schema_ids}
use Rattle.lake_model.proofs.GrowthLemmas.{grows_by_table, new_ids_rise}
use Rattle.lake_model.proofs.SpellLemmas.{fits_known, kinds_spelled}
use Rattle.conflicts.specs.Laws.{IsApart}
use Rattle.lake_rebase.specs.Laws.{IsFree}
use Rattle.lake_rebase.specs.Since.{IsCreated, IsSame}
use Rattle.lake_rebase.specs.Tidy.{AreTidyColumns, HasSchema, IsTidy}
use Rattle.lake_rebase.proofs.MemberLemmas.{In, all_by, all_in, below, in_cases, in_kept, in_left, in_map, in_of, in_right, is_same, kept_in, map_in, name-is, named-there, of_in, one_of_id}
use Rattle.lake_rebase.proofs.MakeLemmas.{IsOldSchema, dropped-schema, schema-new, schemas-of, schemas-of-made, schemas-of-old, table-new, tables-of-made, tables-of-old}
use Rattle.lake_rebase.proofs.ToldLemmas.{inserts-told, kinds-alike, schema-told, table-told}
use Rattle.lake_model.proofs.RefLemmas.{ref-same}
use Rattle.lake_rebase.proofs.WorkLemmas.{HasHome, TidyWork, tidy-worked}

-- ---- what a list drops is known

dropped-known : (names : List SchemaName) (own : List Change) (id : ℕ) → AllByRecursion (IsKnown names) own → drops_schema own (ref.Old id) ≡ true → IsSome (name_of names id)
dropped-known names [] id known e = absurd cc
dropped-known names (change.DropSchema at ∷ own) id known e = go (is_ref (ref.Old id) at) refl (dropped-known names own id known.1)
  where
    go : (b : Bool) → is_ref (ref.Old id) at ≡ b → (drops_schema own (ref.Old id) ≡ true → IsSome (name_of names id)) → IsSome (name_of names id)
    go true is more = (subst (KnownSchema names) (sym (ref-same (ref.Old id) at is)) known.0).1
    go false is more = more (rw is at e)
dropped-known names (c ∷ own) id known e = dropped-known names own id known.1 e

record HasName (o : Option (List ℕ)) : Type 0 where
  name : List ℕ
  is : o ≡ Some name

has-name : (o : Option (List ℕ)) → IsSome o → HasName o
has-name (Some name) h = record { name = name; is = refl }
has-name None h = absurd cc

abbrev ids : SchemaName → ℕ
ids x = x.id

abbrev table_ids : Table → ℕ
table_ids t = t.id

-- ---- members of the state after a list

module _ (s : State) (own : List Change) where
  abbrev new : List Creation
  new = creations 0 0 own

  pub record IsLeftSchema (x : SchemaName) : Type 0 where
    pub there : In x s.schemas
    pub stays : drops_schema own (ref.Old x.id) ≡ false

  pub record IsMadeSchema (x : SchemaName) : Type 0 where
    pub draft : SchemaDraft
    pub there : In draft (made_schemas 0 own)
    pub is : settled_schema s.next_catalog (creations 0 0 own) draft ≡ x

  pub record IsLeftTable (t : Table) : Type 0 where
    pub before : Table
    pub there : In before s.tables
    pub stays : drops_table own (ref.Old before.id) ≡ false
    pub is : grown own before ≡ t

  pub record IsMadeTable (t : Table) : Type 0 where
    pub draft : Draft
    pub there : In draft (made_tables 0 own)
    pub is : settled_table s.next_catalog (creations 0 0 own) draft ≡ t

  pub schema-cases : (x : SchemaName) → In x (grown_state s own).schemas → IsLeftSchema x ⊎ IsMadeSchema x
  schema-cases x there = go (in_cases x (growth.left_schemas s own) (new_schemas s.next_catalog own) there)
    where
      go : In x (growth.left_schemas s own) ⊎ In x (new_schemas s.next_catalog own) → IsLeftSchema x ⊎ IsMadeSchema x
      go (inl old) = let k = in_kept (λ (y : SchemaName). not (drops_schema own (ref.Old y.id))) x s.schemas old in inl (record { there = k.0; stays = not-true _ k.1 })
      go (inr made) = let m = in_map (settled_schema s.next_catalog (creations 0 0 own)) x (made_schemas 0 own) made in inr (record { draft = m.of; there = m.there; is = m.is })

  pub table-cases : (t : Table) → In t (grown_state s own).tables → IsLeftTable t ⊎ IsMadeTable t
  table-cases t there = go (in_cases t (map (grown own) (growth.left_tables s own)) (new_tables s.next_catalog own) there)
    where
      go : In t (map (grown own) (growth.left_tables s own)) ⊎ In t (new_tables s.next_catalog own) → IsLeftTable t ⊎ IsMadeTable t
      go (inl old) =
          let m = in_map (grown own) t (growth.left_tables s own) old in
          let k = in_kept (λ (u : Table). not (drops_table own (ref.Old u.id))) m.of s.tables m.there in
          inl (record { before = m.of; there = k.0; stays = not-true _ k.1; is = m.is })
      go (inr made) = let m = in_map (settled_table s.next_catalog (creations 0 0 own)) t (made_tables 0 own) made in inr (record { draft = m.of; there = m.there; is = m.is })

  pub schema-left : (x : SchemaName) → In x s.schemas → drops_schema own (ref.Old x.id) ≡ false → In x (grown_state s own).schemas
  schema-left x there stays = in_left x (growth.left_schemas s own) (new_schemas s.next_catalog own) (kept_in (λ (y : SchemaName). not (drops_schema own (ref.Old y.id))) x s.schemas there (ap not stays))

  pub schema-made : (d : SchemaDraft) → In d (made_schemas 0 own) → In (settled_schema s.next_catalog (creations 0 0 own) d) (grown_state s own).schemas
  schema-made d there = in_right _ (growth.left_schemas s own) (new_schemas s.next_catalog own) (map_in (settled_schema s.next_catalog (creations 0 0 own)) d (made_schemas 0 own) there)

  pub table-left : (t : Table) → In t s.tables → drops_table own (ref.Old t.id) ≡ false → In (grown own t) (grown_state s own).tables
  table-left t there stays =
      in_left (grown own t) (map (grown own) (growth.left_tables s own)) (new_tables s.next_catalog own)
      (map_in (grown own) t (growth.left_tables s own) (kept_in (λ (u : Table). not (drops_table own (ref.Old u.id))) t s.tables there (ap not stays)))

  -- made schemas of one id are one
  pub made-once : (d e : SchemaDraft) → In d (made_schemas 0 own) → In e (made_schemas 0 own)
      → schema_id s.next_catalog (creations 0 0 own) d.at ≡ schema_id s.next_catalog (creations 0 0 own) e.at → d ≡ e
  made-once d e one other same =
      let limit = s.next_catalog + length (creations 0 0 own) in
      let rise : RiseBelow limit (map (λ (x : SchemaDraft). schema_id s.next_catalog (creations 0 0 own) x.at) (made_schemas 0 own)) =
      subst (RiseBelow limit) (settled-schema_ids s.next_catalog (creations 0 0 own) (made_schemas 0 own)) (new_ids_rise s.next_catalog own).schemas in
      one_of_id (λ (x : SchemaDraft). schema_id s.next_catalog (creations 0 0 own) x.at) limit d e (made_schemas 0 own) rise one other same

  pub new-schema-past : (at : Ref) (p : ℕ) → at ≡ ref.New p → s.next_catalog ≤ schema_id s.next_catalog (creations 0 0 own) at
  new-schema-past at p is = subst (λ (r : Ref). s.next_catalog ≤ schema_id s.next_catalog (creations 0 0 own) r) (sym is) (omega arith)

  pub new-table-past : (at : Ref) (p : ℕ) → at ≡ ref.New p → s.next_catalog ≤ table_id s.next_catalog (creations 0 0 own) at
  new-table-past at p is = subst (λ (r : Ref). s.next_catalog ≤ table_id s.next_catalog (creations 0 0 own) r) (sym is) (omega arith)

-- ---- at the head

pub old-new : (a p : ℕ) → ref.Old a ≡ ref.New p → ⊥
old-new a p e = cc

pub old-old : (a b : ℕ) → ref.Old a ≡ ref.Old b → a ≡ b
old-old a b e = cc

true-false : (b : Bool) → b ≡ true → b ≡ false → ⊥
true-false b one other = let both : true ≡ false = sym one ∙ other in cc

module _ (told : List Kind) (base head : State) (own : List Change) (h : IsFree told base head own) where
  abbrev mine : List Kind
  mine = kinds base.schemas own

  known : AllByRecursion (IsKnown base.schemas) own
  known = fits_known base own h.base_ids h.small h.fits_base

  pub named : AreNamed base.schemas (kinds base.schemas own)
  named = (kinds_spelled base.schemas own known).named

  tidy : TidyWork (worked base own)
  tidy = tidy-worked base own h.grows h.fits_base h.base_tidy

  clash : (m t : Kind) → In m (kinds base.schemas own) → In t told → conflicts m t ≡ true → ⊥
  clash m t one other e =
      true-false (conflicts m t) e (all_in (λ m. conflicts m t ≡ false) m (kinds base.schemas own) (all_in (IsApart (kinds base.schemas own)) t told h.apart other) one)

  below_base : (x : SchemaName) → In x base.schemas → x.id < base.next_catalog
  below_base x there = below ids base.next_catalog x base.schemas h.base_ids.schemas there

  below_head : (x : SchemaName) → In x head.schemas → x.id < head.next_catalog
  below_head x there = below ids head.next_catalog x head.schemas h.head_ids.schemas there

  -- one schema of an id in both states
  pub both : (x y : SchemaName) → In x base.schemas → In y head.schemas → x.id ≡ y.id → x ≡ y
  both x y one other same = go (h.tells.new_schemas y (of_in y head.schemas other))
    where
      go : Contains base.schemas y ⊎ ((base.next_catalog ≤ y.id) × Contains told (kind.CreatedSchema y.name)) → x ≡ y
      go (inl there) = one_of_id ids base.next_catalog x y base.schemas h.base_ids.schemas one (in_of y base.schemas there) same
      go (inr fresh) = absurd (let lt = below_base x one in let le = fresh.0 in omega (arith, lt, same, le))

  base_name : (x : SchemaName) → In x base.schemas → unwrap_or (name_of base.schemas x.id) [] ≡ x.name
  base_name x there = ap (λ o. unwrap_or o []) (name-is base.next_catalog x base.schemas h.base_ids.schemas there)

  -- a schema that the list drops is there at the base, with its name
  pub record IsDropped (id : ℕ) : Type 0 where
    pub schema : SchemaName
    pub there : In schema base.schemas
    pub id_is : schema.id ≡ id
    pub told_so : In (kind.DroppedSchema id schema.name) (kinds base.schemas own)

  pub is-dropped : (id : ℕ) → drops_schema own (ref.Old id) ≡ true → IsDropped id
  is-dropped id e =
      let n = has-name (name_of base.schemas id) (dropped-known base.schemas own id known e) in
      let x = named-there base.schemas id n.name n.is in
      let name : unwrap_or (name_of base.schemas id) [] ≡ x.schema.name = ap (λ o. unwrap_or o []) n.is ∙ sym x.name_is in
      record {
        schema = x.schema;
        there = x.there;
        id_is = x.id_is;
        told_so = subst (λ l. In (kind.DroppedSchema id l) (kinds base.schemas own)) name (dropped-schema base.schemas own id named e);
      }

  -- the schema of a made table stands at the head
  pub record StaysHome (id : ℕ) : Type 0 where
    pub schema : SchemaName
    pub of_base : In schema base.schemas
    pub of_head : In schema head.schemas
    pub id_is : schema.id ≡ id
    pub stays : drops_schema own (ref.Old schema.id) ≡ false

  pub table-kind : (d : Draft) (s : ℕ) (x : SchemaName) → In d (made_tables 0 own) → d.schema ≡ ref.Old s → In x base.schemas → x.id ≡ s → In (kind.CreatedTable x.name d.name) (kinds base.schemas own)
  table-kind d s x there is of_base id_is =
      subst (λ l. In (kind.CreatedTable l d.name) (kinds base.schemas own))
      (ap (schema_name base.schemas own) (is ∙ ap ref.Old (sym id_is)) ∙ base_name x of_base) (table-told base.schemas base own h.grows h.fits_base named d there)

  pub home-old : (d : Draft) (s : ℕ) → In d (made_tables 0 own) → d.schema ≡ ref.Old s → StaysHome s
  home-old d s there is = go (tidy.homes d (tables-of-made base own h.grows d there))
    where
      go : HasHome (worked base own) d.schema → StaysHome s
      go home = cases (schemas-of base own home.draft home.there)
        where
          cases : IsOldSchema base own home.draft ⊎ In home.draft (made_schemas 0 own) → StaysHome s
          cases (inr made) = let p = schema-new 0 own home.draft made in absurd (old-new s p.place (sym is ∙ sym home.at_is ∙ p.is))
          cases (inl old) = at_head (h.tells.old_schemas old.schema (of_in old.schema base.schemas old.there))
            where
              id_is : old.schema.id ≡ s
              id_is = old-old old.schema.id s (ap (λ (x : SchemaDraft). x.at) old.is ∙ home.at_is ∙ is)

              at_head : Contains head.schemas old.schema ⊎ Contains told (kind.DroppedSchema old.schema.id old.schema.name) → StaysHome s
              at_head (inl there) = record { schema = old.schema; of_base = old.there; of_head = in_of old.schema head.schemas there; id_is = id_is; stays = old.stays }
              at_head (inr gone) =
                  absurd (clash (kind.CreatedTable old.schema.name d.name) (kind.DroppedSchema old.schema.id old.schema.name)
                  (table-kind d s old.schema there is old.there id_is) (in_of _ told gone) (is_same old.schema.name old.schema.name refl))

  pub record IsMadeHome (at : Ref) : Type 0 where
    pub draft : SchemaDraft
    pub there : In draft (made_schemas 0 own)
    pub at_is : draft.at ≡ at

  pub home-new : (d : Draft) (p : ℕ) → In d (made_tables 0 own) → d.schema ≡ ref.New p → IsMadeHome d.schema
  home-new d p there is = go (tidy.homes d (tables-of-made base own h.grows d there))
    where
      go : HasHome (worked base own) d.schema → IsMadeHome d.schema
      go home = cases (schemas-of base own home.draft home.there)
        where
          cases : IsOldSchema base own home.draft ⊎ In home.draft (made_schemas 0 own) → IsMadeHome d.schema
          cases (inr made) = record { draft = home.draft; there = made; at_is = home.at_is }
          cases (inl old) = absurd (old-new old.schema.id p (ap (λ (x : SchemaDraft). x.at) old.is ∙ home.at_is ∙ is))

  -- ---- kinds

  pub kinds-at-head : kinds head.schemas own ≡ kinds base.schemas own
  kinds-at-head = kinds-alike base.schemas head.schemas own tables dropped
    where
      tables : (d : Draft) → In d (made_tables 0 own) → schema_name head.schemas own d.schema ≡ schema_name base.schemas own d.schema
      tables d there = go d.schema refl
        where
          go : (r : Ref) → d.schema ≡ r → schema_name head.schemas own d.schema ≡ schema_name base.schemas own d.schema
          go (ref.New p) is = rw is refl
          go (ref.Old s) is =
              let x = home-old d s there is in
              let at_head : name_of head.schemas x.schema.id ≡ Some x.schema.name = name-is head.next_catalog x.schema head.schemas h.head_ids.schemas x.of_head in
              let at_base : name_of base.schemas x.schema.id ≡ Some x.schema.name = name-is base.next_catalog x.schema base.schemas h.base_ids.schemas x.of_base in
              let same : name_of head.schemas s ≡ name_of base.schemas s = subst (λ n. name_of head.schemas n ≡ name_of base.schemas n) x.id_is (at_head ∙ sym at_base) in
              rw is (ap (λ o. unwrap_or o []) same)

      dropped : (id : ℕ) → drops_schema own (ref.Old id) ≡ true → name_of head.schemas id ≡ name_of base.schemas id
      dropped id e = go (is-dropped id e)
        where
          go : IsDropped id → name_of head.schemas id ≡ name_of base.schemas id
          go x = at_head (h.tells.old_schemas x.schema (of_in x.schema base.schemas x.there))
            where
              at_head : Contains head.schemas x.schema ⊎ Contains told (kind.DroppedSchema x.schema.id x.schema.name) → name_of head.schemas id ≡ name_of base.schemas id
              at_head (inl there) =
                  let at_head : name_of head.schemas x.schema.id ≡ Some x.schema.name = name-is head.next_catalog x.schema head.schemas h.head_ids.schemas (in_of x.schema head.schemas there) in
                  let at_base : name_of base.schemas x.schema.id ≡ Some x.schema.name = name-is base.next_catalog x.schema base.schemas h.base_ids.schemas x.there in
                  subst (λ n. name_of head.schemas n ≡ name_of base.schemas n) x.id_is (at_head ∙ sym at_base)
              at_head (inr gone) =
                  absurd (clash (kind.DroppedSchema id x.schema.name) (kind.DroppedSchema x.schema.id x.schema.name) x.told_so (in_of _ told gone) (is_same x.schema.name x.schema.name refl))

  -- ---- tables of the head

  -- a table that was created since doesn't stand in a schema that the list drops
  pub kept-home : (t : Table) (x : IsCreated told base head t) → drops_schema own (ref.Old x.schema.id) ≡ false
  kept-home t x = go (drops_schema own (ref.Old x.schema.id)) refl
    where
      go : (b : Bool) → drops_schema own (ref.Old x.schema.id) ≡ b → drops_schema own (ref.Old x.schema.id) ≡ false
      go false e = e
      go true e =
          let gone = is-dropped x.schema.id e in
          let same : gone.schema ≡ x.schema = both gone.schema x.schema gone.there (in_of x.schema head.schemas x.there) gone.id_is in
          absurd (clash (kind.DroppedSchema x.schema.id gone.schema.name) (kind.CreatedTable x.schema.name t.name) gone.told_so (in_of _ told x.told_so)
          (is_same gone.schema.name x.schema.name (ap (λ (y : SchemaName). y.name) same)))

  pub record LeftHome (t : Table) : Type 0 where
    pub schema : SchemaName
    pub there : In schema head.schemas
    pub id_is : schema.id ≡ t.schema
    pub stays : drops_schema own (ref.Old schema.id) ≡ false

  -- the schema of a table that the list leaves is left too
  pub left-home : (t : Table) → In t head.tables → drops_table own (ref.Old t.id) ≡ false → LeftHome t
  left-home t there stays = go (h.tells.new_tables t (of_in t head.tables there))
    where
      go : ((u : Table) × Contains base.tables u × IsSame told u t) ⊎ IsCreated told base head t → LeftHome t
      go (inr x) = record { schema = x.schema; there = in_of x.schema head.schemas x.there; id_is = x.home; stays = kept-home t x }
      go (inl u) = by_home (tidy.homes (with_own_rows own (drafted u.0)) (tables-of-old base own h.grows u.0 (in_of u.0 base.tables u.1) stays_there))
        where
          stays_there : drops_table own (ref.Old u.0.id) ≡ false
          stays_there = ap (λ n. drops_table own (ref.Old n)) u.2.id ∙ stays

          by_home : HasHome (worked base own) (ref.Old u.0.schema) → LeftHome t
          by_home home = cases (schemas-of base own home.draft home.there)
            where
              cases : IsOldSchema base own home.draft ⊎ In home.draft (made_schemas 0 own) → LeftHome t
              cases (inr made) = let p = schema-new 0 own home.draft made in absurd (old-new u.0.schema p.place (sym home.at_is ∙ p.is))
              cases (inl old) =
                  let z = h.head_tidy.homes t (of_in t head.tables there) in
                  let id_is : old.schema.id ≡ u.0.schema = old-old old.schema.id u.0.schema (ap (λ (x : SchemaDraft). x.at) old.is ∙ home.at_is) in
                  let same : z.0.id ≡ old.schema.id = z.2 ∙ sym u.2.schema ∙ sym id_is in
                  record { schema = z.0; there = in_of z.0 head.schemas z.1; id_is = z.2; stays = ap (λ n. drops_schema own (ref.Old n)) same ∙ old.stays }

  home-below : (t : Table) → In t head.tables → t.schema < head.next_catalog
  home-below t there =
      let z = h.head_tidy.homes t (of_in t head.tables there) in
      let lt = below_head z.0 (in_of z.0 head.schemas z.1) in
      omega (arith, lt, z.2)

  -- ---- it stays tidy

  -- a schema of the head isn't one that the list makes
  apart-schemas : (x y : SchemaName) → IsLeftSchema head own x → IsMadeSchema head own y → x.name ≡ y.name → ⊥
  apart-schemas x y a b same = go (h.tells.new_schemas x (of_in x head.schemas a.there))
    where
      names : x.name ≡ b.draft.name
      names = same ∙ sym (ap (λ (z : SchemaName). z.name) b.is)

      go : Contains base.schemas x ⊎ ((base.next_catalog ≤ x.id) × Contains told (kind.CreatedSchema x.name)) → ⊥
      go (inl there) =
          let p = schema-new 0 own b.draft b.there in
          let refs : ref.Old x.id ≡ b.draft.at =
          tidy.schema_names (drafted_schema x) b.draft (schemas-of-old base own x (in_of x base.schemas there) a.stays) (schemas-of-made base own b.draft b.there) names in
          old-new x.id p.place (refs ∙ p.is)
      go (inr fresh) =
          clash (kind.CreatedSchema b.draft.name) (kind.CreatedSchema x.name) (schema-told base.schemas base own h.grows h.fits_base named b.draft b.there) (in_of _ told fresh.1)
          (is_same b.draft.name x.name (sym names))

  one-schema : (x y : SchemaName) → IsLeftSchema head own x ⊎ IsMadeSchema head own x → IsLeftSchema head own y ⊎ IsMadeSchema head own y → x.name ≡ y.name → x.id ≡ y.id
  one-schema x y (inl a) (inl b) same = h.head_tidy.schema_names x y (of_in x head.schemas a.there) (of_in y head.schemas b.there) same
  one-schema x y (inl a) (inr b) same = absurd (apart-schemas x y a b same)
  one-schema x y (inr a) (inl b) same = absurd (apart-schemas y x b a (sym same))
  one-schema x y (inr a) (inr b) same =
      let names : a.draft.name ≡ b.draft.name = ap (λ (z : SchemaName). z.name) a.is ∙ same ∙ sym (ap (λ (z : SchemaName). z.name) b.is) in
      let refs : a.draft.at ≡ b.draft.at = tidy.schema_names a.draft b.draft (schemas-of-made base own a.draft a.there) (schemas-of-made base own b.draft b.there) names in
      sym (ap (λ (z : SchemaName). z.id) a.is) ∙ ap (schema_id head.next_catalog (creations 0 0 own)) refs ∙ ap (λ (z : SchemaName). z.id) b.is

  home-of : (t : Table) → IsLeftTable head own t ⊎ IsMadeTable head own t → HasSchema (grown_state head own).schemas t.schema
  home-of t (inl a) =
      let z = left-home a.before a.there a.stays in
      (z.schema, of_in z.schema (grown_state head own).schemas (schema-left head own z.schema z.there z.stays), z.id_is ∙ ap (λ (u : Table). u.schema) a.is)
  home-of t (inr a) = go a.draft.schema refl
    where
      go : (r : Ref) → a.draft.schema ≡ r → HasSchema (grown_state head own).schemas t.schema
      go (ref.Old s) is =
          let z = home-old a.draft s a.there is in
          let id_is : z.schema.id ≡ t.schema = z.id_is ∙ sym (ap (schema_id head.next_catalog (creations 0 0 own)) is) ∙ ap (λ (u : Table). u.schema) a.is in
          (z.schema, of_in z.schema (grown_state head own).schemas (schema-left head own z.schema z.of_head z.stays), id_is)
      go (ref.New p) is =
          let z = home-new a.draft p a.there is in
          let x = settled_schema head.next_catalog (creations 0 0 own) z.draft in
          (x, of_in x (grown_state head own).schemas (schema-made head own z.draft z.there), ap (schema_id head.next_catalog (creations 0 0 own)) z.at_is ∙ ap (λ (u : Table). u.schema) a.is)

  -- a table of the head isn't one that the list makes
  apart-tables : (t u : Table) → IsLeftTable head own t → IsMadeTable head own u → t.schema ≡ u.schema → t.name ≡ u.name → ⊥
  apart-tables t u a b same named_so = go b.draft.schema refl
    where
      schemas : a.before.schema ≡ schema_id head.next_catalog (creations 0 0 own) b.draft.schema
      schemas = ap (λ (v : Table). v.schema) a.is ∙ same ∙ sym (ap (λ (v : Table). v.schema) b.is)

      names : a.before.name ≡ b.draft.name
      names = ap (λ (v : Table). v.name) a.is ∙ named_so ∙ sym (ap (λ (v : Table). v.name) b.is)

      go : (r : Ref) → b.draft.schema ≡ r → ⊥
      go (ref.New p) is =
          let lt = home-below a.before a.there in
          let le = new-schema-past head own b.draft.schema p is in
          omega (arith, lt, le, schemas)
      go (ref.Old s) is = cases (h.tells.new_tables a.before (of_in a.before head.tables a.there))
        where
          at_s : a.before.schema ≡ s
          at_s = schemas ∙ ap (schema_id head.next_catalog (creations 0 0 own)) is

          cases : ((v : Table) × Contains base.tables v × IsSame told v a.before) ⊎ IsCreated told base head a.before → ⊥
          cases (inl v) =
              let stays_there : drops_table own (ref.Old v.0.id) ≡ false = ap (λ n. drops_table own (ref.Old n)) v.2.id ∙ a.stays in
              let p = table-new 0 own b.draft b.there in
              let refs : ref.Old v.0.id ≡ b.draft.at =
              tidy.table_names (with_own_rows own (drafted v.0)) b.draft (tables-of-old base own h.grows v.0 (in_of v.0 base.tables v.1) stays_there) (tables-of-made base own h.grows b.draft b.there)
              (ap ref.Old (v.2.schema ∙ at_s) ∙ sym is) (v.2.name ∙ names) in
              old-new v.0.id p.place (refs ∙ p.is)
          cases (inr x) =
              let z = home-old b.draft s b.there is in
              let one : z.schema ≡ x.schema = both z.schema x.schema z.of_base (in_of x.schema head.schemas x.there) (z.id_is ∙ sym at_s ∙ sym x.home) in
              let schema_same : same_name z.schema.name x.schema.name ≡ true = is_same z.schema.name x.schema.name (ap (λ (y : SchemaName). y.name) one) in
              let table_same : same_name b.draft.name a.before.name ≡ true = is_same b.draft.name a.before.name (sym names) in
              clash (kind.CreatedTable z.schema.name b.draft.name) (kind.CreatedTable x.schema.name a.before.name) (table-kind b.draft s z.schema b.there is z.of_base z.id_is) (in_of _ told x.told_so)
              (rw (schema_same, table_same) refl)

  -- made tables in one schema are created in one
  made-schemas : (d e : Draft) → In d (made_tables 0 own) → In e (made_tables 0 own)
      → schema_id head.next_catalog (creations 0 0 own) d.schema ≡ schema_id head.next_catalog (creations 0 0 own) e.schema → d.schema ≡ e.schema
  made-schemas d e one other same = go d.schema e.schema refl refl
    where
      olds-apart : (d e : Draft) → In d (made_tables 0 own) → (s p : ℕ) → d.schema ≡ ref.Old s → e.schema ≡ ref.New p
          → schema_id head.next_catalog (creations 0 0 own) d.schema ≡ schema_id head.next_catalog (creations 0 0 own) e.schema → ⊥
      olds-apart d e one s p is_old is_new same =
          let z = home-old d s one is_old in
          let lt = below_head z.schema z.of_head in
          let le = new-schema-past head own e.schema p is_new in
          let at : schema_id head.next_catalog (creations 0 0 own) d.schema ≡ s = ap (schema_id head.next_catalog (creations 0 0 own)) is_old in
          omega (arith, lt, le, at, same, z.id_is)

      go : (a b : Ref) → d.schema ≡ a → e.schema ≡ b → d.schema ≡ e.schema
      go (ref.Old a) (ref.Old b) is_a is_b =
          let ids_same : a ≡ b = sym (ap (schema_id head.next_catalog (creations 0 0 own)) is_a) ∙ same ∙ ap (schema_id head.next_catalog (creations 0 0 own)) is_b in
          is_a ∙ ap ref.Old ids_same ∙ sym is_b
      go (ref.New p) (ref.New q) is_p is_q =
          let x = home-new d p one is_p in
          let y = home-new e q other is_q in
          let drafts : x.draft ≡ y.draft =
          made-once head own x.draft y.draft x.there y.there
          (ap (schema_id head.next_catalog (creations 0 0 own)) x.at_is ∙ same ∙ sym (ap (schema_id head.next_catalog (creations 0 0 own)) y.at_is)) in
          sym x.at_is ∙ ap (λ (s : SchemaDraft). s.at) drafts ∙ y.at_is
      go (ref.Old s) (ref.New p) is_old is_new = absurd (olds-apart d e one s p is_old is_new same)
      go (ref.New p) (ref.Old s) is_new is_old = absurd (olds-apart e d other s p is_old is_new (sym same))

  one-table : (t u : Table) → IsLeftTable head own t ⊎ IsMadeTable head own t → IsLeftTable head own u ⊎ IsMadeTable head own u → t.schema ≡ u.schema → t.name ≡ u.name → t.id ≡ u.id
  one-table t u (inl a) (inl b) same named_so =
      sym (ap table_ids a.is)
      ∙ h.head_tidy.table_names a.before b.before (of_in a.before head.tables a.there) (of_in b.before head.tables b.there)
      (ap (λ (v : Table). v.schema) a.is ∙ same ∙ sym (ap (λ (v : Table). v.schema) b.is)) (ap (λ (v : Table). v.name) a.is ∙ named_so ∙ sym (ap (λ (v : Table). v.name) b.is))
      ∙ ap table_ids b.is
  one-table t u (inl a) (inr b) same named_so = absurd (apart-tables t u a b same named_so)
  one-table t u (inr a) (inl b) same named_so = absurd (apart-tables u t b a (sym same) (sym named_so))
  one-table t u (inr a) (inr b) same named_so =
      let schemas = made-schemas a.draft b.draft a.there b.there (ap (λ (v : Table). v.schema) a.is ∙ same ∙ sym (ap (λ (v : Table). v.schema) b.is)) in
      let names : a.draft.name ≡ b.draft.name = ap (λ (v : Table). v.name) a.is ∙ named_so ∙ sym (ap (λ (v : Table). v.name) b.is) in
      let refs : a.draft.at ≡ b.draft.at =
      tidy.table_names a.draft b.draft (tables-of-made base own h.grows a.draft a.there) (tables-of-made base own h.grows b.draft b.there) schemas names in
      sym (ap table_ids a.is) ∙ ap (table_id head.next_catalog (creations 0 0 own)) refs ∙ ap table_ids b.is

  columns-of : (t : Table) → IsLeftTable head own t ⊎ IsMadeTable head own t → AreTidyColumns t.columns
  columns-of t (inl a) = subst (λ (v : Table). AreTidyColumns v.columns) a.is (all_in (λ (v : Table). AreTidyColumns v.columns) a.before head.tables h.head_tidy.columns a.there)
  columns-of t (inr a) =
      subst (λ (v : Table). AreTidyColumns v.columns) a.is
      (all_in (λ (d : Draft). AreTidyColumns d.columns) a.draft (worked base own).tables tidy.columns (tables-of-made base own h.grows a.draft a.there))

  pub tidy-at-head : IsTidy (apply head own)
  tidy-at-head = subst IsTidy (sym (grows_by_table head own h.grows)) record {
    schema_names = λ x y one other same.
        one-schema x y (schema-cases head own x (in_of x (grown_state head own).schemas one)) (schema-cases head own y (in_of y (grown_state head own).schemas other)) same;
    homes = λ t there. home-of t (table-cases head own t (in_of t (grown_state head own).tables there));
    table_names = λ t u one other same named_so.
        one-table t u (table-cases head own t (in_of t (grown_state head own).tables one)) (table-cases head own u (in_of u (grown_state head own).tables other)) same named_so;
    columns = all_by (λ (t : Table). AreTidyColumns t.columns) (grown_state head own).tables (λ t there. columns-of t (table-cases head own t there));
  }

  -- ---- tables that are inserted into

  pub record KeepsColumns (u : Table) : Type 0 where
    pub table : Table
    pub there : In table head.tables
    pub id_is : table.id ≡ u.id
    pub columns_are : table.columns ≡ u.columns

  pub columns-at-head : (u : Table) → In u base.tables → rows_for (ref.Old u.id) own ≢ [] → drops_table own (ref.Old u.id) ≡ false → KeepsColumns u
  columns-at-head u there some stays = go (h.tells.old_tables u (of_in u base.tables there))
    where
      inserts : In (kind.InsertedInto u.id) (kinds base.schemas own)
      inserts = inserts-told base.schemas own u.id h.grows named stays some

      go : ((t : Table) × Contains head.tables t × IsSame told u t) ⊎ Contains told (kind.DroppedTable u.id) → KeepsColumns u
      go (inr gone) = absurd (clash (kind.InsertedInto u.id) (kind.DroppedTable u.id) inserts (in_of _ told gone) (eq-eqb u.id u.id refl))
      go (inl t) = kept t.2.columns
        where
          kept : (u.columns ≡ t.0.columns) ⊎ Contains told (kind.Altered u.id) → KeepsColumns u
          kept (inl same) = record { table = t.0; there = in_of t.0 head.tables t.1; id_is = sym t.2.id; columns_are = sym same }
          kept (inr changed) = absurd (clash (kind.InsertedInto u.id) (kind.Altered u.id) inserts (in_of _ told changed) (eq-eqb u.id u.id refl))
