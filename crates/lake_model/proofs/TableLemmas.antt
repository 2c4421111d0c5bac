-- What holds of each table after a list, where each change of a table keeps it and a new table has it.
use Rattle.std.proofs.Common.{◌≡◌, ℕ, ◌+◌, List, [], ◌∷◌, ◌++◌, map, filter, refl, sym, subst, Bool, true, false}
use Rattle.std.specs.Prelude.{Option, Some, None}
use Rattle.std.specs.List.{AllByRecursion, cons_option, filter_map}
use Rattle.lake_types.specs.declared.value.Column.{Column}
use Rattle.lake_model.specs.Apply.{Draft, altered, at_table, created, drafted, is_ref, worked}
use Rattle.lake_model.specs.ByTable.{draft_after, made_from}
use Rattle.lake_model.specs.Kinds.{is_drop_of_table}
use Rattle.lake_model.specs.State.{State}
use Rattle.lake_model.specs.declared.change.Change.{Change}
use Rattle.lake_model.specs.declared.change.Change.TheVariants as change
use Rattle.lake_model.specs.declared.change.Ref.{Ref}
use Rattle.lake_model.proofs.ApplyLemmas.{by_table}

-- a change of one table
pub at-holds : (P : Draft → Type 0) (table : Ref) (f : Draft → Draft) (d : Draft) → P d → P (f d) → P (at_table table f d)
at-holds P table f d h k = go (is_ref d.at table) refl
  where
    go : (b : Bool) → is_ref d.at table ≡ b → P (at_table table f d)
    go true e = rw e k
    go false e = rw e h

pub all-joined : {X : Type 0} (P : X → Type 0) (xs ys : List X) → AllByRecursion P xs → AllByRecursion P ys → AllByRecursion P (xs ++ ys)
all-joined P [] ys h k = k
all-joined P (x ∷ xs) ys h k = (h.0, all-joined P xs ys h.1 k)

pub all-parts : {X : Type 0} (P : X → Type 0) (xs ys : List X) → AllByRecursion P (xs ++ ys) → AllByRecursion P xs × AllByRecursion P ys
all-parts P [] ys h = (tt, h)
all-parts P (x ∷ xs) ys h = let parts = all-parts P xs ys h.1 in ((h.0, parts.0), parts.1)

-- what holds of each element holds of those that pass a test
pub all-left : {X : Type 0} (P : X → Type 0) (q : X → Bool) (xs : List X) → AllByRecursion P xs → AllByRecursion P (filter q xs)
all-left P q [] h = tt
all-left P q (x ∷ xs) h = go (q x) refl (all-left P q xs h.1)
  where
    go : (b : Bool) → q x ≡ b → AllByRecursion P (filter q xs) → AllByRecursion P (filter q (x ∷ xs))
    go true e rest = rw e (h.0, rest)
    go false e rest = rw e rest

-- what holds of each element holds of what a function makes of them
pub all-mapped : {X Y : Type 0} (P : X → Type 0) (Q : Y → Type 0) (f : X → Y) → ((x : X) → P x → Q (f x)) → (xs : List X) → AllByRecursion P xs → AllByRecursion Q (map f xs)
all-mapped P Q f step [] h = tt
all-mapped P Q f step (x ∷ xs) h = (step x h.0, all-mapped P Q f step xs h.1)

module _ (P : Draft → Type 0) (step : (c : Change) (d : Draft) → P d → P (altered c d)) (new : (n : ℕ) (schema : Ref) (name : List ℕ) (columns : List Column) → P (created n schema name columns)) where
  abbrev HoldsIf : Option Draft → Type 0
  HoldsIf None = Unit {0}
  HoldsIf (Some d) = P d

  after-holds : (own : List Change) (d : Draft) → P d → HoldsIf (draft_after own d)
  after-holds [] d h = h
  after-holds (c ∷ own) d h = go (is_drop_of_table d.at c) refl (after-holds own (altered c d) (step c d h))
    where
      go : (b : Bool) → is_drop_of_table d.at c ≡ b → HoldsIf (draft_after own (altered c d)) → HoldsIf (draft_after (c ∷ own) d)
      go true e rest = rw e tt
      go false e rest = rw e rest

  onto-holds : (o : Option Draft) (ds : List Draft) → HoldsIf o → AllByRecursion P ds → AllByRecursion P (cons_option o ds)
  onto-holds None ds h k = k
  onto-holds (Some d) ds h k = (h, k)

  old-hold : (own : List Change) (ds : List Draft) → AllByRecursion P ds → AllByRecursion P (filter_map (draft_after own) ds)
  old-hold own [] h = tt
  old-hold own (d ∷ ds) h = onto-holds (draft_after own d) (filter_map (draft_after own) ds) (after-holds own d h.0) (old-hold own ds h.1)

  made-hold : (n : ℕ) (own : List Change) → AllByRecursion P (made_from n own)
  made-hold n [] = tt
  made-hold n (change.CreateTable schema name columns ∷ own) =
      onto-holds (draft_after own (created n schema name columns)) (made_from (n + 1) own) (after-holds own (created n schema name columns) (new n schema name columns)) (made-hold (n + 1) own)
  made-hold n (c ∷ own) = made-hold n own

  pub drafts-hold : (s : State) (own : List Change) → AllByRecursion P (map drafted s.tables) → AllByRecursion P (worked s own).tables
  drafts-hold s own h =
      let old = old-hold own (map drafted s.tables) h in
      subst (AllByRecursion P) (sym (by_table s own)) (all-joined P (filter_map (draft_after own) (map drafted s.tables)) (made_from 0 own) old (made-hold 0 own))
