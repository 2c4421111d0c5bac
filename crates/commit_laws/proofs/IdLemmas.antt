-- Ids in the state that a list of creations, drops and inserts makes.
use Rattle.std.proofs.Common.{ℕ, ◌+◌, List, length, map, sym, subst, arith}
use Rattle.std.specs.List.{AllByRecursion}
use Rattle.lake_model.proofs.CatalogLemmas.{catalog_ids_rise}
use Rattle.lake_model.proofs.FieldLemmas.{from-positive, from-rise}
use Rattle.lake_model.proofs.GrowthLemmas.{grows_by_table}
use Rattle.lake_model.proofs.IdLemmas.{row_ids_rise}
use Rattle.lake_model.proofs.TableLemmas.{all-joined, all-left, all-mapped}
use Rattle.lake_model.specs.Apply.{Draft, apply, settled_table}
use Rattle.lake_model.specs.Creations.{creations}
use Rattle.lake_model.specs.Growth.{IsGrowth, grown, made_tables}
use Rattle.lake_model.specs.Laws.{HasFieldIds}
use Rattle.lake_model.specs.State.{State, Table}
use Rattle.lake_model.specs.declared.change.Change.{Change}
use Rattle.cat_growth.proofs.VersionLemmas.{made-have}
use Rattle.cat_stands.specs.LakeFacts.{HasIds}

module _ (next : ℕ) (own : List Change) where
  pub made-fields : AllByRecursion HasFieldIds (map (settled_table next (creations 0 0 own)) (made_tables 0 own))
  made-fields = all-mapped (λ (d : Draft). HasFieldIds (settled_table next (creations 0 0 own) d)) HasFieldIds (settled_table next (creations 0 0 own)) (λ d h. h) (made_tables 0 own)
      (made-have (λ (d : Draft). HasFieldIds (settled_table next (creations 0 0 own) d))
      (λ n schema name columns rest. record { rise = from-rise 1 (length columns + 1) columns (omega arith); positive = from-positive 1 columns (omega arith); next_positive = omega arith }) 0 own)

pub ids-after : (s : State) (own : List Change) → AllByRecursion IsGrowth own → HasIds s → HasIds (apply s own)
ids-after s own grows h = record {
  catalog = catalog_ids_rise s own h.catalog;
  rows = row_ids_rise s own h.rows;
  fields = subst (λ (u : State). AllByRecursion HasFieldIds u.tables) (sym (grows_by_table s own grows))
      (all-joined HasFieldIds _ _ (all-mapped HasFieldIds HasFieldIds (grown own) (λ t k. record { rise = k.rise; positive = k.positive; next_positive = k.next_positive }) _ (all-left HasFieldIds (λ (t : Table). _) s.tables h.fields)) (made-fields s.next_catalog own));
}
