-- What is asked of each table of a version that a transaction can work on.
use Rattle.std.specs.Prelude.{◌<◌, ℕ, List, [], ◌∷◌, map, Option, Some, IfSome}
use Rattle.std.specs.Arc.{arc_value}
use Rattle.std.specs.List.{AllByRecursion}
use Rattle.std.specs.declared.sync.Arc.{Arc}
use Rattle.lake_types.specs.declared.limits.TheConstants.{MAX_FIELD}
use Rattle.lake_types.specs.declared.value.Column.{Column}
use Rattle.lake_model.specs.Fits.{IsColumn}
use Rattle.cat_view.specs.Named.{NamedTable}
use Rattle.cat_view.specs.Views.{named_file}
use Rattle.cat_view.specs.Workable.{AreColumns, HasIds}
use Rattle.cat_view.specs.declared.live.LiveFile.{LiveFile}

abbrev pub AreFilesWorkable : {F A : Type 0} → (F → List ℕ) → List (Arc (LiveFile F) A) → Type 0
AreFilesWorkable name files = AllByRecursion HasIds (map (λ f. named_file name (arc_value f)) files)

-- a column's name and defaults are small, and its field id is below the largest
abbrev pub IsSizedColumn : Column → Type 0
IsSizedColumn c = IsColumn c × (c.field < MAX_FIELD)

abbrev pub AreSizedColumns : List Column → Type 0
AreSizedColumns columns = AreColumns columns × AllByRecursion IsColumn columns

abbrev pub IsTableWorkable : NamedTable → Type 0
IsTableWorkable x = AreSizedColumns x.columns × AllByRecursion HasIds x.files

abbrev pub HasLowerId : NamedTable → NamedTable → Type 0
HasLowerId a b = a.id < b.id

-- ids rise, the first one past the last one before
abbrev pub RisesPast : Option ℕ → List NamedTable → Type 0
RisesPast last [] = Unit {0}
RisesPast last (x ∷ xs) = IfSome last (λ (n : ℕ). n < x.id) × RisesPast (Some x.id) xs
