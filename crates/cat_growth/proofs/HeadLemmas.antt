-- A head at which a list conflicts with nothing has the base's columns where the list inserts.
use Rattle.std.proofs.Common.{◌≡◌, ◌≢◌, ℕ, false, List, [], map, sym, ap, subst, ◌∙◌}
use Rattle.lake_types.specs.declared.kind.Kind.{Kind}
use Rattle.lake_model.specs.Growth.{rows_for}
use Rattle.lake_model.specs.Kinds.{drops_table}
use Rattle.lake_model.specs.State.{State, Table}
use Rattle.lake_model.specs.declared.change.Change.{Change}
use Rattle.lake_model.specs.declared.change.Ref.TheVariants as ref
use Rattle.lake_rebase.proofs.HeadLemmas.{columns-at-head}
use Rattle.lake_rebase.proofs.MemberLemmas.{In, all_by, map_in, one_of_id}
use Rattle.lake_rebase.specs.Laws.{IsFree}
use Rattle.cat_view.specs.Files.{Files}
use Rattle.cat_view.specs.Named.{NamedTable, NamedVersion, state_of, table_of}
use Rattle.cat_growth.specs.Fresh.{IsUnaltered}
use Rattle.cat_growth.specs.Laws.{FreeTablesStay}

module _ (told : List Kind) (base : State) (files : Files) (next : ℕ) (head : NamedVersion) (own : List Change) (free : IsFree told base (state_of files next head) own) where
  same_columns : (x : NamedTable) (t : Table) → In x head.tables → In t base.tables → t.id ≡ x.id → rows_for (ref.Old x.id) own ≢ [] → drops_table own (ref.Old x.id) ≡ false
      → t.columns ≡ x.columns
  same_columns x t of_head of_base same some stays =
      let kept = columns-at-head told base (state_of files next head) own free t of_base (subst (λ n. rows_for (ref.Old n) own ≢ []) (sym same) some) (ap (λ n. drops_table own (ref.Old n)) same ∙ stays) in
      let here : kept.table ≡ table_of files x =
      one_of_id (λ (u : Table). u.id) next kept.table (table_of files x) (map (table_of files) head.tables) free.head_ids.tables kept.there (map_in (table_of files) x head.tables of_head)
      (kept.id_is ∙ same) in
      sym kept.columns_are ∙ ap (λ (u : Table). u.columns) here

  unaltered : (x : NamedTable) → In x head.tables → drops_table own (ref.Old x.id) ≡ false → IsUnaltered base own x
  unaltered x of_head stays some = all_by (λ (t : Table). t.id ≡ x.id → t.columns ≡ x.columns) base.tables (λ t of_base same. same_columns x t of_head of_base same some stays)

pub free-tables_stay : FreeTablesStay
free-tables_stay told base files next head own free =
    all_by (λ (x : NamedTable). drops_table own (ref.Old x.id) ≡ false → IsUnaltered base own x) head.tables (λ x of_head stays. unaltered told base files next head own free x of_head stays)
