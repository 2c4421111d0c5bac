-- A table that the base lacks: no list makes it, and one that a transaction may have inserts nothing into it.
use Rattle.std.proofs.Common.{◌≡◌, ℕ, ◌==◌, false, List, [], ◌∷◌, ◌++◌, map, refl, sym, ap₂, subst, ◌∙◌}
use Rattle.std.specs.List.{AllByRecursion}
use Rattle.lake_types.specs.Cells.{column_named}
use Rattle.lake_types.specs.declared.stmt.Alter.{Alter}
use Rattle.lake_types.specs.declared.stmt.Alter.TheVariants as alter
use Rattle.lake_types.specs.declared.stmt.Cell.{Cell}
use Rattle.lake_types.specs.declared.stmt.Stmt.{Stmt}
use Rattle.lake_types.specs.declared.stmt.Stmt.TheVariants as stmt
use Rattle.lake_types.specs.declared.stmt.TableName.{TableName}
use Rattle.lake_types.specs.declared.value.Column.{Column}
use Rattle.lake_model.proofs.CreationLemmas.{altered-at, turned}
use Rattle.lake_model.proofs.PlanLemmas as plan
use Rattle.lake_model.proofs.PlanLemmas.{found-has}
use Rattle.lake_model.proofs.TableLemmas.{drafts-hold}
use Rattle.lake_model.specs.Apply.{Cells, Draft, Work, drafted, is_ref, worked}
use Rattle.lake_model.specs.Fits.{FitsFrom, IsAllowed}
use Rattle.lake_model.specs.Growth.{inserted_into, rows_for}
use Rattle.lake_model.specs.Plans as p
use Rattle.lake_model.specs.Plans.{Plan}
use Rattle.lake_model.specs.Rows as r
use Rattle.lake_model.specs.State.{State, Table}
use Rattle.lake_model.specs.Step as s
use Rattle.lake_model.specs.declared.change.Change.{Change}
use Rattle.lake_model.specs.declared.change.Change.TheVariants as change
use Rattle.lake_model.specs.declared.change.Ref.{Ref}
use Rattle.lake_model.specs.declared.change.Ref.TheVariants as ref
use Rattle.lake_model.specs.declared.change.RowRef.{RowRef}

module _ (base : State) (id : ℕ) where
  abbrev pub IsOther : Ref → Type 0
  IsOther at = (is_ref at (ref.Old id) ≡ false) × (is_ref (ref.Old id) at ≡ false)

  abbrev pub Lacks : Type 0
  Lacks = AllByRecursion (λ (t : Table). (t.id == id) ≡ false) base.tables

  begun-other : (ts : List Table) → AllByRecursion (λ (t : Table). (t.id == id) ≡ false) ts → AllByRecursion (λ (d : Draft). IsOther d.at) (map drafted ts)
  begun-other [] h = tt
  begun-other (t ∷ ts) h = ((h.0, turned id t.id ∙ h.0), begun-other ts h.1)

  -- no list makes it
  pub worked-other : (own : List Change) → Lacks → AllByRecursion (λ (d : Draft). IsOther d.at) (worked base own).tables
  worked-other own h =
      drafts-hold (λ (d : Draft). IsOther d.at) (λ c d k. subst IsOther (sym (altered-at c d)) k) (λ n schema name columns. (refl, refl)) base own (begun-other base.tables h)

  -- ---- what a statement appends

  abbrev Spares : Change → Type 0
  Spares c = inserted_into (ref.Old id) c ≡ []

  abbrev AreOther : Work → Type 0
  AreOther w = AllByRecursion (λ (d : Draft). IsOther d.at) w.tables

  insertion-spares : (d : Draft) (rows : List (List Cell)) → IsOther d.at → plan.Holds Spares (r.insertion d rows)
  insertion-spares d [] h = plan.leaves Spares _
  insertion-spares d (row ∷ rows) h = plan.appends Spares _ _ (rw (h.1) refl)

  deletion-spares : (d : Draft) (rows : List RowRef) → plan.Holds Spares (r.deletion d rows)
  deletion-spares d [] = plan.leaves Spares _
  deletion-spares d (row ∷ rows) = plan.appends Spares _ _ refl

  updating-spares : (d : Draft) (set : Cells) (rows : List RowRef) → plan.Holds Spares (r.updating d set rows)
  updating-spares d set [] = plan.leaves Spares _
  updating-spares d set (row ∷ rows) = plan.appends Spares _ _ refl

  -- a change of a column
  column-spares : (w : Work) (table : TableName) (name : List ℕ) (change_of : Draft → Column → Plan) → ((d : Draft) (c : Column) → plan.Holds Spares (change_of d c))
      → plan.Holds Spares (p.on_table w table (λ d. p.on_column d name (change_of d)))
  column-spares w table name change_of h = plan.on_table-holds Spares w table _ (λ at d found. plan.of_column-holds Spares name _ (column_named d.columns name) (h d))

  alters-spare : (next : ℕ) (w : Work) (x : Alter) (table : TableName) → plan.Holds Spares (p.alter_table next w table x)
  alters-spare next w (alter.Add def) table = plan.on_table-holds Spares w table _ (λ at d found. plan.unless-holds Spares _ _ (plan.appends Spares _ _ refl))
  alters-spare next w (alter.Remove name) table = column-spares w table name _ (λ d c. plan.unless-holds Spares _ _ (plan.appends Spares _ _ refl))
  alters-spare next w (alter.Rename name to) table = column-spares w table name _ (λ d c. plan.unless-holds Spares _ _ (plan.appends Spares _ _ refl))
  alters-spare next w (alter.Promote name ty) table = column-spares w table name _ (λ d c. plan.unless-holds Spares _ _ (plan.appends Spares _ _ refl))
  alters-spare next w (alter.SetDefault name v) table = column-spares w table name _ (λ d c. plan.unless-holds Spares _ _ (plan.appends Spares _ _ refl))

  plans-spare : (next : ℕ) (w : Work) (x : Stmt) → AreOther w → plan.Holds Spares (s.plan_in next w x)
  plans-spare next w (stmt.CreateSchema name) h = plan.unless-holds Spares _ _ (plan.appends Spares _ _ refl)
  plans-spare next w (stmt.DropSchema name) h = plan.in_schema-holds Spares name _ (p.schema_named w name) (λ at named. plan.unless-holds Spares _ _ (plan.appends Spares _ _ refl))
  plans-spare next w (stmt.CreateTable table columns) h =
      plan.in_schema-holds Spares table.schema _ (p.schema_named w table.schema) (λ at named. plan.unless-holds Spares _ _ (plan.appends Spares _ _ refl))
  plans-spare next w (stmt.DropTable table) h = plan.on_table-holds Spares w table _ (λ at d found. plan.appends Spares _ _ refl)
  plans-spare next w (stmt.Change table x) h = alters-spare next w x table
  plans-spare next w (stmt.Insert table rows) h =
      plan.on_table-holds Spares w table _
      (λ at d found. plan.unless-holds Spares _ _ (insertion-spares d rows (found-has (λ (x : Draft). IsOther x.at) _ w.tables d found h)))
  plans-spare next w (stmt.Delete table test) h = plan.on_table-holds Spares w table _ (λ at d found. plan.unless-holds Spares _ _ (deletion-spares d _))
  plans-spare next w (stmt.Update table set test) h = plan.on_table-holds Spares w table _ (λ at d found. plan.unless-holds Spares _ _ (updating-spares d _ _))
  plans-spare next w (stmt.Compact table) h = plan.on_table-holds Spares w table _ (λ at d found. plan.appends Spares _ _ refl)
  plans-spare next w (stmt.Flush table) h = plan.on_table-holds Spares w table _ (λ at d found. plan.appends Spares _ _ refl)
  plans-spare next w x h = plan.leaves Spares _

  allowed-spares : (before : List Change) (c : Change) → AreOther (worked base before) → IsAllowed base before c → Spares c
  allowed-spares before (change.Delete table rows) h k = refl
  allowed-spares before (change.Update table rows set) h k = refl
  allowed-spares before c h k =
      plan.appended-holds Spares _ c k.answer k.plan_is (plan.plan_of-holds Spares base before k.stmt (plans-spare base.next_catalog (worked base before) k.stmt h))

  pub inserts-none : (before own : List Change) → Lacks → FitsFrom base before own → rows_for (ref.Old id) own ≡ []
  inserts-none before [] lacks fits = refl
  inserts-none before (c ∷ own) lacks fits =
      ap₂ (λ (a b : List Cells). a ++ b) (allowed-spares before c (worked-other before lacks) fits.0) (inserts-none (before ++ c ∷ []) own lacks fits.2)
