-- A selection without changes doesn't depend on the counters of its state.
use Rattle.std.proofs.Common.{◌≡◌, Bool, true, false, List, [], ◌∷◌, map, find, refl, sym, ◌∙◌, ap}
use Rattle.std.specs.Prelude.{◌&&◌, Option, Some, None}
use Rattle.lake_types.specs.declared.pred.Pred.{Pred}
use Rattle.lake_types.specs.declared.stmt.Item.{Item}
use Rattle.lake_types.specs.declared.stmt.TableName.{TableName}
use Rattle.lake_model.specs.Apply.{Draft, drafted, is_ref, worked}
use Rattle.lake_model.specs.Clashes.{same_name}
use Rattle.lake_model.specs.Plans.{schema_named}
use Rattle.lake_model.specs.State.{State, Table}
use Rattle.lake_model.specs.Step.{select_at, selection}
use Rattle.lake_model.specs.declared.change.Ref.{Ref}
use Rattle.cat_stands.specs.Stands.{uncounted, uncounted_table}

module _ (table : TableName) (items : List Item) (test : Option Pred) where
  found_counted : (p : Draft → Bool) → ((t : Table) → p (drafted (uncounted_table t)) ≡ p (drafted t)) → (ts : List Table)
      → select_at table items test (find p (map drafted (map uncounted_table ts))) ≡ select_at table items test (find p (map drafted ts))
  found_counted p same [] = refl
  found_counted p same (t ∷ ts) = go (p (drafted t)) refl (found_counted p same ts)
    where
      go : (b : Bool) → p (drafted t) ≡ b → select_at table items test (find p (map drafted (map uncounted_table ts))) ≡ select_at table items test (find p (map drafted ts))
          → select_at table items test (find p (map drafted (map uncounted_table (t ∷ ts)))) ≡ select_at table items test (find p (map drafted (t ∷ ts)))
      go true e more = rw (same t ∙ e, e) refl
      go false e more = rw (same t ∙ e, e) more

  in_counted : (s : State) (o : Option Ref) → schema_named (worked s []) table.schema ≡ o → selection (worked (uncounted s) []) table items test ≡ selection (worked s []) table items test
  in_counted s None e = rw e refl
  in_counted s (Some schema) e = rw e (found_counted (λ (d : Draft). is_ref d.schema schema && same_name d.name table.table) (λ t. refl) s.tables)

  pub counted_selection : (s s' : State) → uncounted s ≡ uncounted s' → selection (worked s []) table items test ≡ selection (worked s' []) table items test
  counted_selection s s' h =
      sym (in_counted s (schema_named (worked s []) table.schema) refl) ∙ ap (λ (x : State). selection (worked x []) table items test) h
      ∙ in_counted s' (schema_named (worked s' []) table.schema) refl
