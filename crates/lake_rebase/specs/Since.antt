-- What became of a state since an older one, as kinds of change tell it.
use Rattle.std.specs.Prelude.{◌≡◌, ◌≤◌, ◌⊎◌, List, Contains}
use Rattle.lake_types.specs.declared.kind.Kind.{Kind}
use Rattle.lake_types.specs.declared.kind.Kind.TheVariants.{Altered, CreatedSchema, CreatedTable, DroppedSchema, DroppedTable}
use Rattle.lake_types.specs.declared.kind.SchemaName.{SchemaName}
use Rattle.lake_model.specs.State.{State, Table}

-- The table is the older one, with any rows. Its columns are the older ones, or it is told that they were altered.
pub record IsSame (told : List Kind) (older newer : Table) : Type 0 where
  pub id : older.id ≡ newer.id
  pub schema : older.schema ≡ newer.schema
  pub name : older.name ≡ newer.name
  pub columns : (older.columns ≡ newer.columns) ⊎ Contains told (Altered older.id)

-- it was created since, with an id that the base never had, and that is told under the name of its schema
pub record IsCreated (told : List Kind) (base head : State) (t : Table) : Type 0 where
  pub new : base.next_catalog ≤ t.id
  pub schema : SchemaName
  pub there : Contains head.schemas schema
  pub home : schema.id ≡ t.schema
  pub told_so : Contains told (CreatedTable schema.name t.name)

-- Each schema and table that only one of the two states has is told, created or dropped; and so is each table whose columns
-- differ. Ids of the head that the base lacks are from its next one on.
pub record Tells (told : List Kind) (base head : State) : Type 0 where
  pub counts : base.next_catalog ≤ head.next_catalog
  pub new_schemas : (x : SchemaName) → Contains head.schemas x
      → Contains base.schemas x ⊎ ((base.next_catalog ≤ x.id) × Contains told (CreatedSchema x.name))
  pub old_schemas : (x : SchemaName) → Contains base.schemas x → Contains head.schemas x ⊎ Contains told (DroppedSchema x.id x.name)
  pub new_tables : (t : Table) → Contains head.tables t
      → ((u : Table) × Contains base.tables u × IsSame told u t) ⊎ IsCreated told base head t
  pub old_tables : (u : Table) → Contains base.tables u
      → ((t : Table) × Contains head.tables t × IsSame told u t) ⊎ Contains told (DroppedTable u.id)
