-- What holds of a list of changes at a state that came after its base.
use Rattle.std.specs.Prelude.{◌≡◌, ◌≢◌, ◌≤◌, ◌^◌, false, List, [], ◌++◌, Contains}
use Rattle.std.specs.List.{AllByRecursion}
use Rattle.lake_types.specs.declared.kind.Kind.{Kind}
use Rattle.lake_model.specs.Apply.{apply}
use Rattle.lake_model.specs.Fits.{Fits}
use Rattle.lake_model.specs.Growth.{IsGrowth, rows_for}
use Rattle.lake_model.specs.Kinds.{drops_table, kinds}
use Rattle.lake_model.specs.Laws.{HasCatalogIds}
use Rattle.lake_model.specs.State.{State, Table}
use Rattle.lake_model.specs.declared.change.Change.{Change}
use Rattle.lake_model.specs.declared.change.Ref.TheVariants as ref
use Rattle.conflicts.specs.Laws.{AreApart}
use Rattle.lake_rebase.specs.Since.{Tells}
use Rattle.lake_rebase.specs.Tidy.{IsTidy}

-- ---- tidy states

-- a list that a transaction may have leaves its base tidy
abbrev pub TidyStays : Type 0
TidyStays = (s : State) (own : List Change) → HasCatalogIds s → s.next_catalog ≤ 2 ^ 64 → AllByRecursion IsGrowth own → Fits s own → IsTidy s → IsTidy (apply s own)

-- ---- what is told

abbrev pub TellsAtOnce : Type 0
TellsAtOnce = (s : State) → Tells [] s s

-- ---- at a head past the base

-- A list that fits a base, a head of which all is told, and no pair of kinds that conflict.
pub record IsFree (told : List Kind) (base head : State) (own : List Change) : Type 0 where
  pub grows : AllByRecursion IsGrowth own
  pub fits_base : Fits base own
  pub small : base.next_catalog ≤ 2 ^ 64
  pub base_ids : HasCatalogIds base
  pub head_ids : HasCatalogIds head
  pub base_tidy : IsTidy base
  pub head_tidy : IsTidy head
  pub tells : Tells told base head
  pub apart : AreApart (kinds base.schemas own) told

-- it leaves the head tidy too
abbrev pub TidyAtHead : Type 0
TidyAtHead = (told : List Kind) (base head : State) (own : List Change) → IsFree told base head own → IsTidy (apply head own)

-- it has the same kinds there
abbrev pub KindsAtHead : Type 0
KindsAtHead = (told : List Kind) (base head : State) (own : List Change) → IsFree told base head own → kinds head.schemas own ≡ kinds base.schemas own

-- What was told since some older state, and then the kinds of the list, tell together what became of that one.
abbrev pub TellsMore : Type 0
TellsMore =
    (told others : List Kind) (older base head : State) (own : List Change) → IsFree others base head own → Tells told older head
    → Tells (told ++ kinds head.schemas own) older (apply head own)

-- a table of the base that it inserts into, and doesn't drop, stands there with the same columns
abbrev pub ColumnsAtHead : Type 0
ColumnsAtHead =
    (told : List Kind) (base head : State) (own : List Change) → IsFree told base head own
    → (u : Table) → Contains base.tables u → rows_for (ref.Old u.id) own ≢ [] → drops_table own (ref.Old u.id) ≡ false
    → (t : Table) × Contains head.tables t × (t.id ≡ u.id) × (t.columns ≡ u.columns)
