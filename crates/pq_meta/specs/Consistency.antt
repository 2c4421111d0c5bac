-- What holds of every footer that is read.
use Rattle.std.specs.Prelude.{◌≡◌, ◌≢◌, ◌≤◌, ℕ, ◌⊎◌, length, All, AllPairs, IfSome, Option, None}
use Rattle.std.specs.Str.{IsUtf8}
use Rattle.lake_types.specs.declared.limits.TheConstants.{MAX_FIELD}
use Rattle.pq_meta.specs.declared.meta.FileMeta.{FileMeta}
use Rattle.pq_meta.specs.declared.meta.MetaColumn.{MetaColumn}
use Rattle.pq_meta.specs.declared.meta.MetaGroup.{MetaGroup}
use Rattle.pq_meta.specs.declared.meta.MetaChunk.{MetaChunk}
use Rattle.pq_meta.specs.Groups.{rows_of}

-- two columns are not known by the same field id
abbrev pub OtherField : MetaColumn → MetaColumn → Type 0
OtherField a b = (a.field ≡ None) ⊎ (a.field ≢ b.field)

-- a name is a text
abbrev pub IsNamed : MetaColumn → Type 0
IsNamed column = IsUtf8 column.name

-- a field id, where there is one, that a file can state
abbrev pub IsFieldId : Option ℕ → Type 0
IsFieldId field = IfSome field (λ id. id ≤ MAX_FIELD)

abbrev pub HasFieldId : MetaColumn → Type 0
HasFieldId column = IsFieldId column.field

-- a chunk has as many values as its group has rows
abbrev pub HasValues : ℕ → MetaChunk → Type 0
HasValues rows chunk = chunk.num_values ≡ rows

-- a group has a chunk for each of so many columns
pub record FitsColumns (columns : ℕ) (group : MetaGroup) : Type 0 where
  pub count : length group.chunks ≡ columns
  pub values : All (HasValues group.rows) group.chunks

-- the parts of a footer fit together
pub record IsConsistent (meta : FileMeta) : Type 0 where
  pub names : All IsNamed meta.columns
  pub ids : All HasFieldId meta.columns
  pub fields : AllPairs OtherField meta.columns
  pub groups : All (FitsColumns (length meta.columns)) meta.groups
  pub rows : rows_of meta.groups ≡ meta.num_rows
