-- What holds of each change that a statement appends.
use Rattle.std.proofs.Common.{◌≡◌, ◌+◌, suc, length, List, [], ◌∷◌, ◌++◌, refl, sym, ap, subst, ◌∙◌, Bool, true, false}
use Rattle.std.specs.Prelude.{ℕ, Option, Some, None, find}
use Rattle.std.specs.List.{AllByRecursion}
use Rattle.lake_types.specs.declared.stmt.ColumnDef.{ColumnDef}
use Rattle.lake_types.specs.declared.stmt.Stmt.{Stmt}
use Rattle.lake_types.specs.declared.stmt.TableName.{TableName}
use Rattle.lake_types.specs.declared.value.Column.{Column}
use Rattle.lake_model.specs.Apply.{Draft, Work, fields_from, worked}
use Rattle.lake_model.specs.Plans as p
use Rattle.lake_model.specs.Plans.{Plan, Append, Leave, Refuse, or_else, refused_if, unless}
use Rattle.lake_model.specs.State.{State}
use Rattle.lake_model.specs.Step as s
use Rattle.lake_model.specs.declared.answer.Answer.{Answer}
use Rattle.lake_model.specs.declared.answer.Answer.TheVariants as answer
use Rattle.lake_model.specs.declared.change.Change.{Change}
use Rattle.lake_model.specs.declared.change.Ref.{Ref}

-- ---- what is found

pub found-has : {X : Type 0} (P : X → Type 0) (q : X → Bool) (xs : List X) (x : X) → find q xs ≡ Some x → AllByRecursion P xs → P x
found-has P q [] x e h = absurd cc
found-has {X} P q (y ∷ xs) x e h = go (q y) refl (λ more. found-has P q xs x more h.1)
  where
    go : (b : Bool) → q y ≡ b → (find q xs ≡ Some x → P x) → P x
    go true is more =
        let some : Some y ≡ Some x = rw is at e in
        let same : y ≡ x = cc in
        subst P same h.0
    go false is more = more (rw is at e)

pub found-passes : {X : Type 0} (q : X → Bool) (xs : List X) (x : X) → find q xs ≡ Some x → q x ≡ true
found-passes q [] x e = absurd cc
found-passes {X} q (y ∷ xs) x e = go (q y) refl (λ more. found-passes q xs x more)
  where
    go : (b : Bool) → q y ≡ b → (find q xs ≡ Some x → q x ≡ true) → q x ≡ true
    go true is more =
        let some : Some y ≡ Some x = rw is at e in
        let same : y ≡ x = cc in
        ap q (sym same) ∙ is
    go false is more = more (rw is at e)

-- ---- faults that don't stand

pub not_refused : (b : Bool) (a : Answer) → refused_if b a ≡ None → b ≡ false
not_refused true a e = absurd cc
not_refused false a e = refl

pub first_none : (f g : Option Answer) → or_else f g ≡ None → (f ≡ None) × (g ≡ None)
first_none None g e = (refl, e)
first_none (Some a) g e = absurd cc

-- ---- plans

module _ (K : Change → Type 0) where
  unfoldable pub Holds : Plan → Type 0
  Holds (Refuse a) = Unit {0}
  Holds (Append c a) = K c
  Holds (Leave a) = Unit {0}

  pub refuses : (a : Answer) → Holds (Refuse a)
  unfolding Holds
  refuses a = tt

  pub appends : (c : Change) (a : Answer) → K c → Holds (Append c a)
  unfolding Holds
  appends c a h = h

  pub leaves : (a : Answer) → Holds (Leave a)
  unfolding Holds
  leaves a = tt

  pub unless-holds : (f : Option Answer) (plan : Plan) → Holds plan → Holds (unless f plan)
  unless-holds None plan h = h
  unless-holds (Some a) plan h = refuses a

  -- the plan may rest on that the fault doesn't stand
  pub unless-none : (f : Option Answer) (plan : Plan) → (f ≡ None → Holds plan) → Holds (unless f plan)
  unless-none None plan h = h refl
  unless-none (Some a) plan h = refuses a

  pub in_schema-holds : (name : List ℕ) (plan : Ref → Plan) (o : Option Ref) → ((at : Ref) → o ≡ Some at → Holds (plan at)) → Holds (p.in_schema name plan o)
  in_schema-holds name plan None h = refuses _
  in_schema-holds name plan (Some at) h = h at refl

  of_draft-holds : (table : TableName) (plan : Draft → Plan) (o : Option Draft) → ((d : Draft) → o ≡ Some d → Holds (plan d)) → Holds (p.of_draft table plan o)
  of_draft-holds table plan None h = refuses _
  of_draft-holds table plan (Some d) h = h d refl

  -- the table that is found
  pub on_table-holds : (w : Work) (table : TableName) (plan : Draft → Plan) → ((at : Ref) (d : Draft) → p.table_named w at table.table ≡ Some d → Holds (plan d)) → Holds (p.on_table w table plan)
  on_table-holds w table plan h =
      in_schema-holds table.schema _ (p.schema_named w table.schema) (λ at named. of_draft-holds table plan (p.table_named w at table.table) (h at))

  pub of_column-holds : (name : List ℕ) (plan : Column → Plan) (o : Option Column) → ((c : Column) → Holds (plan c)) → Holds (p.of_column name plan o)
  of_column-holds name plan None h = refuses _
  of_column-holds name plan (Some c) h = h c

  within-holds : (base : State) (own : List Change) (plan : Plan) → Holds plan → Holds (s.within base own plan)
  within-holds base own (Refuse a) h = h
  within-holds base own (Leave a) h = h
  within-holds base own (Append c a) h = go (s.has_room base (own ++ c ∷ [])) refl
    where
      go : (b : Bool) → s.has_room base (own ++ c ∷ []) ≡ b → Holds (s.within base own (Append c a))
      go true e = rw e h
      go false e = rw e (refuses answer.TooLarge)

  -- a change that a statement appends comes from its plan
  pub plan_of-holds : (base : State) (own : List Change) (x : Stmt) → Holds (s.plan_in base.next_catalog (worked base own) x) → Holds (s.plan_of base own x)
  plan_of-holds base own x h = go (s.is_mixed own x) refl
    where
      go : (b : Bool) → s.is_mixed own x ≡ b → Holds (s.plan_of base own x)
      go true e = rw e (refuses answer.Mixed)
      go false e = rw e (within-holds base own (s.plan_in base.next_catalog (worked base own) x) h)

  pub appended-holds : (plan : Plan) (c : Change) (a : Answer) → plan ≡ Append c a → Holds plan → K c
  unfolding Holds
  appended-holds plan c a e h = subst Holds e h

-- ---- the columns of a new table

pub fields-are : (field : ℕ) (defs : List ColumnDef) → fields_from field (p.columns_from field defs) ≡ p.columns_from field defs
fields-are field [] = refl
fields-are field (def ∷ defs) = ap (λ cs. p.column_of field def ∷ cs) (fields-are (field + 1) defs)

pub columns-length : (field : ℕ) (defs : List ColumnDef) → length (p.columns_from field defs) ≡ length defs
columns-length field [] = refl
columns-length field (def ∷ defs) = ap suc (columns-length (field + 1) defs)
