-- Which kinds of change conflict, and the first pair that does.
use Rattle.std.specs.Prelude.{ℕ, ◌==◌, ◌&&◌, nat_eq, Bool, false, List, [], ◌∷◌, find, Option, Some, None}
use Rattle.std.specs.Cmp.Lexicographic.{pointwise}
use Rattle.lake_types.specs.declared.kind.Clash.{Clash}
use Rattle.lake_types.specs.declared.kind.Kind.{Kind}
use Rattle.lake_types.specs.declared.kind.Kind.TheVariants.{CreatedSchema, CreatedTable, InsertedInto, DeletedFrom, Compacted, DroppedSchema, DroppedTable, Altered}

abbrev pub same_name : List ℕ → List ℕ → Bool
same_name a b = pointwise nat_eq a b

-- The table of pairs: mine is of the list that commits, theirs of a version past its base. They are of the same schema's
-- name, or of the same table.
abbrev pub conflicts : Kind → Kind → Bool
conflicts (CreatedSchema s) (CreatedSchema t) = same_name s t
conflicts (CreatedTable s a) (CreatedTable t b) = same_name s t && same_name a b
conflicts (CreatedTable s a) (DroppedSchema j t) = same_name s t
conflicts (DroppedSchema i s) (DroppedSchema j t) = same_name s t
conflicts (DroppedSchema i s) (CreatedTable t b) = same_name s t
conflicts (DroppedTable a) (DroppedTable b) = a == b
conflicts (InsertedInto a) (DroppedTable b) = a == b
conflicts (InsertedInto a) (Altered b) = a == b
conflicts (DeletedFrom a) (DroppedTable b) = a == b
conflicts (DeletedFrom a) (Altered b) = a == b
conflicts (DeletedFrom a) (DeletedFrom b) = a == b
conflicts (DeletedFrom a) (Compacted b) = a == b
conflicts (Altered a) (DroppedTable b) = a == b
conflicts (Altered a) (Altered b) = a == b
conflicts (Compacted a) (DroppedTable b) = a == b
conflicts (Compacted a) (DeletedFrom b) = a == b
conflicts (Compacted a) (Compacted b) = a == b
conflicts mine theirs = false

-- ---- the first pair: by version, then by theirs in order, then by mine

abbrev pub or_later : Option Clash → Option Clash → Option Clash
or_later None later = later
or_later (Some c) later = Some c

abbrev pub clash_of : ℕ → Option Kind → Kind → Option Clash
clash_of n None theirs = None
clash_of n (Some mine) theirs = Some (record { snapshot = n; mine = mine; theirs = theirs })

-- with the kinds of one version
abbrev pub first_clash : List Kind → ℕ → List Kind → Option Clash
first_clash mine n [] = None
first_clash mine n (t ∷ theirs) = or_later (clash_of n (find (λ m. conflicts m t) mine) t) (first_clash mine n theirs)
