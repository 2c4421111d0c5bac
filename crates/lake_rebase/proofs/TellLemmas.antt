-- What was told of a head, and the kinds of a list that is applied to it, tell what became of an older state.
use Rattle.std.proofs.Common.{◌≡◌, ◌≤◌, ◌+◌, ◌⊎◌, Bool, true, false, List, [], ◌++◌, length, Contains, refl, sym, ap, subst, ◌∙◌, inl, inr, arith}
use Rattle.std.specs.Prelude.{unwrap_or}
use Rattle.std.proofs.lemmas.List.Elements.{Contains-append_left, Contains-append_right}
use Rattle.lake_types.specs.declared.kind.Kind.{Kind}
use Rattle.lake_types.specs.declared.kind.Kind.TheVariants as kind
use Rattle.lake_types.specs.declared.kind.SchemaName.{SchemaName}
use Rattle.lake_model.specs.Apply.{apply, left, numbered, schema_id, settled_schema, table_id}
use Rattle.lake_model.specs.Creations.{creations}
use Rattle.lake_model.specs.Growth.{grown, grown_state}
use Rattle.lake_model.specs.Kinds.{drops_schema, drops_table, kinds, schema_name}
use Rattle.lake_model.specs.State.{State, Table}
use Rattle.lake_model.specs.declared.change.Change.{Change}
use Rattle.lake_model.specs.declared.change.Ref.{Ref}
use Rattle.lake_model.specs.declared.change.Ref.TheVariants as ref
use Rattle.lake_model.proofs.GrowthLemmas.{grows_by_table}
use Rattle.lake_rebase.specs.Laws.{IsFree, TellsAtOnce}
use Rattle.lake_rebase.specs.Since.{IsCreated, IsSame, Tells}
use Rattle.lake_rebase.proofs.MemberLemmas.{In, in_of, of_in, one_of_id}
use Rattle.lake_rebase.proofs.MakeLemmas.{dropped-table, name-at, schema-new, table-new}
use Rattle.lake_rebase.proofs.ToldLemmas.{schema-told, table-told}
use Rattle.lake_rebase.proofs.HeadLemmas.{IsLeftSchema, IsLeftTable, IsMadeSchema, IsMadeTable, both, home-new, home-old, is-dropped, kinds-at-head, left-home, named, new-schema-past, new-table-past, schema-cases, schema-left, schema-made, table-cases, table-kind, table-left}

pub tells-at-once : TellsAtOnce
tells-at-once s = record {
  counts = omega arith;
  new_schemas = λ x there. inl there;
  old_schemas = λ x there. inl there;
  new_tables = λ t there. inl (t, there, record { id = refl; schema = refl; name = refl; columns = inl refl });
  old_tables = λ u there. inl (u, there, record { id = refl; schema = refl; name = refl; columns = inl refl });
}

module _ (told others : List Kind) (older base head : State) (own : List Change) (h : IsFree others base head own) (t : Tells told older head) where
  early : (k : Kind) → Contains told k → Contains (told ++ kinds head.schemas own) k
  early k there = Contains-append_left told (kinds head.schemas own) k there

  late : (k : Kind) → In k (kinds base.schemas own) → Contains (told ++ kinds head.schemas own) k
  late k there =
      Contains-append_right told (kinds head.schemas own) k
      (of_in k (kinds head.schemas own) (subst (λ l. In k l) (sym (kinds-at-head others base head own h)) there))

  -- ---- schemas

  new-schema : (x : SchemaName) → IsLeftSchema head own x ⊎ IsMadeSchema head own x
      → Contains older.schemas x ⊎ ((older.next_catalog ≤ x.id) × Contains (told ++ kinds head.schemas own) (kind.CreatedSchema x.name))
  new-schema x (inl a) = go (t.new_schemas x (of_in x head.schemas a.there))
    where
      go : Contains older.schemas x ⊎ ((older.next_catalog ≤ x.id) × Contains told (kind.CreatedSchema x.name))
          → Contains older.schemas x ⊎ ((older.next_catalog ≤ x.id) × Contains (told ++ kinds head.schemas own) (kind.CreatedSchema x.name))
      go (inl there) = inl there
      go (inr fresh) = inr (fresh.0, early (kind.CreatedSchema x.name) fresh.1)
  new-schema x (inr a) =
      let p = schema-new 0 own a.draft a.there in
      let past = new-schema-past head own a.draft.at p.place p.is in
      let le = t.counts in
      inr (
        omega (arith, past, le, ap (λ (y : SchemaName). y.id) a.is),
        subst (λ (y : SchemaName). Contains (told ++ kinds head.schemas own) (kind.CreatedSchema y.name)) a.is
            (late (kind.CreatedSchema a.draft.name) (schema-told base.schemas base own h.grows h.fits_base (named others base head own h) a.draft a.there)),
      )

  old-schema : (x : SchemaName) → Contains older.schemas x → Contains (grown_state head own).schemas x ⊎ Contains (told ++ kinds head.schemas own) (kind.DroppedSchema x.id x.name)
  old-schema x there = go (t.old_schemas x there)
    where
      left : In x head.schemas → (b : Bool) → drops_schema own (ref.Old x.id) ≡ b → Contains (grown_state head own).schemas x ⊎ Contains (told ++ kinds head.schemas own) (kind.DroppedSchema x.id x.name)
      left at_head false e = inl (of_in x (grown_state head own).schemas (schema-left head own x at_head e))
      left at_head true e =
          let gone = is-dropped others base head own h x.id e in
          let same : gone.schema ≡ x = both others base head own h gone.schema x gone.there at_head gone.id_is in
          inr (late (kind.DroppedSchema x.id x.name) (subst (λ (y : SchemaName). In (kind.DroppedSchema x.id y.name) (kinds base.schemas own)) same gone.told_so))

      go : Contains head.schemas x ⊎ Contains told (kind.DroppedSchema x.id x.name) → Contains (grown_state head own).schemas x ⊎ Contains (told ++ kinds head.schemas own) (kind.DroppedSchema x.id x.name)
      go (inl at_head) = left (in_of x head.schemas at_head) (drops_schema own (ref.Old x.id)) refl
      go (inr gone) = inr (early (kind.DroppedSchema x.id x.name) gone)

  -- ---- tables

  still-same : (u v : Table) → IsSame told u v → IsSame (told ++ kinds head.schemas own) u (grown own v)
  still-same u v same = record { id = same.id; schema = same.schema; name = same.name; columns = go same.columns }
    where
      go : (u.columns ≡ v.columns) ⊎ Contains told (kind.Altered u.id) → (u.columns ≡ v.columns) ⊎ Contains (told ++ kinds head.schemas own) (kind.Altered u.id)
      go (inl e) = inl e
      go (inr altered) = inr (early (kind.Altered u.id) altered)

  abbrev FromOlder : Table → Type 0
  FromOlder v = ((u : Table) × Contains older.tables u × IsSame (told ++ kinds head.schemas own) u v) ⊎ IsCreated (told ++ kinds head.schemas own) older (grown_state head own) v

  new-table : (v : Table) → IsLeftTable head own v ⊎ IsMadeTable head own v → FromOlder v
  new-table v (inl a) = subst FromOlder a.is (go (t.new_tables a.before (of_in a.before head.tables a.there)))
    where
      go : ((u : Table) × Contains older.tables u × IsSame told u a.before) ⊎ IsCreated told older head a.before → FromOlder (grown own a.before)
      go (inl u) = inl (u.0, u.1, still-same u.0 a.before u.2)
      go (inr x) =
          let z = left-home others base head own h a.before a.there a.stays in
          let same : z.schema ≡ x.schema =
          one_of_id (λ (y : SchemaName). y.id) head.next_catalog z.schema x.schema head.schemas h.head_ids.schemas z.there (in_of x.schema head.schemas x.there) (z.id_is ∙ sym x.home) in
          inr (record {
            new = x.new;
            schema = x.schema;
            there = of_in x.schema (grown_state head own).schemas (subst (λ (y : SchemaName). In y (grown_state head own).schemas) same (schema-left head own z.schema z.there z.stays));
            home = x.home;
            told_so = early (kind.CreatedTable x.schema.name a.before.name) x.told_so;
          })
  new-table v (inr a) = subst FromOlder a.is (inr (go a.draft.schema refl))
    where
      made : Table
      made = record {
        id = table_id head.next_catalog (creations 0 0 own) a.draft.at;
        schema = schema_id head.next_catalog (creations 0 0 own) a.draft.schema;
        name = a.draft.name;
        columns = a.draft.columns;
        rows = a.draft.rows ++ numbered a.draft.next_row (left a.draft.fresh);
        next_row = a.draft.next_row + length (left a.draft.fresh);
        next_field = a.draft.next_field;
      }

      past : older.next_catalog ≤ made.id
      past =
          let p = table-new 0 own a.draft a.there in
          let le = t.counts in
          let new = new-table-past head own a.draft.at p.place p.is in
          omega (arith, new, le)

      go : (r : Ref) → a.draft.schema ≡ r → IsCreated (told ++ kinds head.schemas own) older (grown_state head own) made
      go (ref.Old s) is =
          let z = home-old others base head own h a.draft s a.there is in
          record {
            new = past;
            schema = z.schema;
            there = of_in z.schema (grown_state head own).schemas (schema-left head own z.schema z.of_head z.stays);
            home = z.id_is ∙ sym (ap (schema_id head.next_catalog (creations 0 0 own)) is);
            told_so = late (kind.CreatedTable z.schema.name a.draft.name) (table-kind others base head own h a.draft s z.schema a.there is z.of_base z.id_is);
          }
      go (ref.New p) is =
          let z = home-new others base head own h a.draft p a.there is in
          let name_is : schema_name base.schemas own a.draft.schema ≡ z.draft.name =
          ap (schema_name base.schemas own) is ∙ ap (λ o. unwrap_or o []) (name-at 0 p own z.draft z.there (z.at_is ∙ is ∙ ap ref.New (omega arith))) in
          record {
            new = past;
            schema = settled_schema head.next_catalog (creations 0 0 own) z.draft;
            there = of_in _ (grown_state head own).schemas (schema-made head own z.draft z.there);
            home = ap (schema_id head.next_catalog (creations 0 0 own)) z.at_is;
            told_so = late (kind.CreatedTable z.draft.name a.draft.name)
                (subst (λ l. In (kind.CreatedTable l a.draft.name) (kinds base.schemas own)) name_is
                (table-told base.schemas base own h.grows h.fits_base (named others base head own h) a.draft a.there));
          }

  abbrev ToNewer : Table → Type 0
  ToNewer u = ((v : Table) × Contains (grown_state head own).tables v × IsSame (told ++ kinds head.schemas own) u v) ⊎ Contains (told ++ kinds head.schemas own) (kind.DroppedTable u.id)

  old-table : (u : Table) → Contains older.tables u → ToNewer u
  old-table u there = go (t.old_tables u there)
    where
      stays-or-goes : (v : Table) → In v head.tables → IsSame told u v → (b : Bool) → drops_table own (ref.Old v.id) ≡ b → ToNewer u
      stays-or-goes v at_head same false e = inl (grown own v, of_in (grown own v) (grown_state head own).tables (table-left head own v at_head e), still-same u v same)
      stays-or-goes v at_head same true e =
          inr (subst (λ n. Contains (told ++ kinds head.schemas own) (kind.DroppedTable n)) (sym same.id)
          (late (kind.DroppedTable v.id) (dropped-table base.schemas own v.id (named others base head own h) e)))

      go : ((v : Table) × Contains head.tables v × IsSame told u v) ⊎ Contains told (kind.DroppedTable u.id) → ToNewer u
      go (inl v) = stays-or-goes v.0 (in_of v.0 head.tables v.1) v.2 (drops_table own (ref.Old v.0.id)) refl
      go (inr gone) = inr (early (kind.DroppedTable u.id) gone)

  pub tells-more : Tells (told ++ kinds head.schemas own) older (apply head own)
  tells-more = subst (λ s. Tells (told ++ kinds head.schemas own) older s) (sym (grows_by_table head own h.grows)) record {
    counts = let le = t.counts in omega (arith, le);
    new_schemas = λ x there. new-schema x (schema-cases head own x (in_of x (grown_state head own).schemas there));
    old_schemas = old-schema;
    new_tables = λ v there. new-table v (table-cases head own v (in_of v (grown_state head own).tables there));
    old_tables = old-table;
  }
