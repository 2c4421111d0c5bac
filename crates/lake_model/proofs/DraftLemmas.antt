-- What a list that only creates, drops and inserts leaves of the tables, as drafts.
use Rattle.std.proofs.Common.{◌≡◌, false, cond, List, [], ◌∷◌, map, ap, subst, ◌∙◌}
use Rattle.std.specs.Prelude.{Option, Some, None}
use Rattle.std.specs.List.{AllByRecursion, cons_option, filter_map}
use Rattle.lake_model.proofs.ApplyLemmas.{by_table}
use Rattle.lake_model.proofs.GrowthLemmas.{grows, made-tables}
use Rattle.lake_model.proofs.TableLemmas.{all-parts}
use Rattle.lake_model.specs.Apply.{Draft, drafted, worked}
use Rattle.lake_model.specs.ByTable.{draft_after, made_from}
use Rattle.lake_model.specs.Growth.{IsGrowth, made_tables, with_own_rows}
use Rattle.lake_model.specs.Kinds.{drops_table}
use Rattle.lake_model.specs.State.{State, Table}
use Rattle.lake_model.specs.declared.change.Change.{Change}
use Rattle.lake_model.specs.declared.change.Ref.TheVariants as ref

-- one that the list leaves has its rows
keeps : (own : List Change) (d : Draft) → AllByRecursion IsGrowth own → drops_table own d.at ≡ false → draft_after own d ≡ Some (with_own_rows own d)
keeps own d grow stays = grows own d grow ∙ ap (λ b. cond b None (Some (with_own_rows own d))) stays

module _ (P : Draft → Type 0) (own : List Change) where
  rest : (o : Option Draft) (ds : List Draft) → AllByRecursion P (cons_option o ds) → AllByRecursion P ds
  rest None ds h = h
  rest (Some d) ds h = h.1

  first : (d : Draft) (ds : List Draft) → AllByRecursion IsGrowth own → drops_table own d.at ≡ false → AllByRecursion P (cons_option (draft_after own d) ds) → P (with_own_rows own d)
  first d ds grow stays h = (subst (λ o. AllByRecursion P (cons_option o ds)) (keeps own d grow stays) h).0

  old-hold : (ts : List Table) → AllByRecursion IsGrowth own → AllByRecursion P (filter_map (draft_after own) (map drafted ts))
      → AllByRecursion (λ (t : Table). drops_table own (ref.Old t.id) ≡ false → P (with_own_rows own (drafted t))) ts
  old-hold [] grow h = tt
  old-hold (t ∷ ts) grow h =
      let others = filter_map (draft_after own) (map drafted ts) in
      ((λ stays. first (drafted t) others grow stays h), old-hold ts grow (rest (draft_after own (drafted t)) others h))

-- what holds of all drafts after the list holds of the old tables that it leaves and of those that it makes
pub worked-hold : (P : Draft → Type 0) (base : State) (own : List Change) → AllByRecursion IsGrowth own → AllByRecursion P (worked base own).tables
    → AllByRecursion (λ (t : Table). drops_table own (ref.Old t.id) ≡ false → P (with_own_rows own (drafted t))) base.tables × AllByRecursion P (made_tables 0 own)
worked-hold P base own grow h =
    let parts = all-parts P (filter_map (draft_after own) (map drafted base.tables)) (made_from 0 own) (subst (AllByRecursion P) (by_table base own) h) in
    (old-hold P own base.tables grow parts.0, subst (AllByRecursion P) (made-tables 0 own grow) parts.1)
