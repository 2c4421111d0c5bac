-- What one more change makes of a transaction.
use Rattle.std.proofs.Common.{◌≡◌, ◌+◌, List, [], ◌∷◌, ◌++◌, map, filter, refl, sym, ap, ◌∙◌, Bool, true, false, fold, append_assoc, append-nil, arith}
use Rattle.std.specs.Prelude.{not}
use Rattle.lake_model.specs.Apply.{Draft, Work, altered, at_table, begun, created, changed, drafted, is_ref, promoted, renamed, with_column, with_default, with_rows, with_updates, without_column, worked}
use Rattle.lake_model.specs.Apply as Apply
use Rattle.lake_model.specs.Rows.{change_weight, own_weight, weight_from}
use Rattle.lake_model.specs.State.{State, Table}
use Rattle.lake_model.specs.declared.change.Change.{Change}
use Rattle.lake_model.specs.declared.change.Change.TheVariants as change
use Rattle.lake_model.specs.declared.change.Ref.{Ref}
use Rattle.lake_model.proofs.FieldLemmas.{worked-more}
use Rattle.cat_view.specs.Named.{NamedTable, NamedVersion}
use Rattle.txn_buf.specs.Base.{IsBase, head_of}
use Rattle.txn_buf.specs.Base as base
use Rattle.txn_buf.specs.Drafts.{bare, bare_draft, begun_in, begun_table}

-- ---- without rows

at-bare : (table : Ref) (f : Draft → Draft) (d : Draft) → bare_draft (f (bare_draft d)) ≡ bare_draft (f d)
    → bare_draft (at_table table f (bare_draft d)) ≡ bare_draft (at_table table f d)
at-bare table f d h = go (is_ref d.at table) refl
  where
    go : (b : Bool) → is_ref d.at table ≡ b → bare_draft (at_table table f (bare_draft d)) ≡ bare_draft (at_table table f d)
    go true e = rw e h
    go false e = rw e refl

altered-bare : (c : Change) (d : Draft) → bare_draft (altered c (bare_draft d)) ≡ bare_draft (altered c d)
altered-bare (change.AddColumn table column) d = at-bare table (with_column column) d refl
altered-bare (change.DropColumn table field) d = at-bare table (without_column field) d refl
altered-bare (change.RenameColumn table field name) d = at-bare table (renamed field name) d refl
altered-bare (change.PromoteColumn table field ty) d = at-bare table (promoted field ty) d refl
altered-bare (change.SetDefault table field value) d = at-bare table (with_default field value) d refl
altered-bare (change.Insert table rows) d = at-bare table (with_rows rows) d refl
altered-bare (change.Delete table rows) d = at-bare table (Apply.without_rows rows) d refl
altered-bare (change.Update table rows set) d = at-bare table (with_updates rows set) d refl
altered-bare c d = refl

all-bare : (c : Change) (ds : List Draft) → map bare_draft (map (altered c) (map bare_draft ds)) ≡ map bare_draft (map (altered c) ds)
all-bare c [] = refl
all-bare c (d ∷ ds) = rw (altered-bare c d, all-bare c ds) refl

once-bare : (ds : List Draft) → map bare_draft (map bare_draft ds) ≡ map bare_draft ds
once-bare [] = refl
once-bare (d ∷ ds) = rw (once-bare ds) refl

left-bare : (at : Ref) (ds : List Draft) → map bare_draft (filter (λ d. not (is_ref d.at at)) (map bare_draft ds)) ≡ map bare_draft (filter (λ d. not (is_ref d.at at)) ds)
left-bare at [] = refl
left-bare at (d ∷ ds) = go (is_ref d.at at) refl (left-bare at ds)
  where
    go : (b : Bool) → is_ref d.at at ≡ b → map bare_draft (filter (λ d. not (is_ref d.at at)) (map bare_draft ds)) ≡ map bare_draft (filter (λ d. not (is_ref d.at at)) ds)
        → map bare_draft (filter (λ d. not (is_ref d.at at)) (map bare_draft (d ∷ ds))) ≡ map bare_draft (filter (λ d. not (is_ref d.at at)) (d ∷ ds))
    go true e more = rw e more
    go false e more = rw e (ap (λ (more : List Draft). bare_draft d ∷ more) more)

more-bare : (ds : List Draft) (new : Draft) → map bare_draft (map bare_draft ds ++ new ∷ []) ≡ map bare_draft (ds ++ new ∷ [])
more-bare [] new = refl
more-bare (d ∷ ds) new = ap (λ (more : List Draft). bare_draft d ∷ more) (more-bare ds new)

-- what a change makes of schemas and tables doesn't depend on rows
pub changed-bare : (w : Work) (c : Change) → bare (changed (bare w) c) ≡ bare (changed w c)
changed-bare w (change.CreateSchema name) = rw (once-bare w.tables) refl
changed-bare w (change.DropSchema schema) = rw (once-bare w.tables) refl
changed-bare w (change.CreateTable schema name columns) = rw (more-bare w.tables (created w.created_tables schema name columns)) refl
changed-bare w (change.DropTable table) = rw (left-bare table w.tables) refl
changed-bare w c = rw (all-bare c w.tables) refl

-- what is seen after one more change
pub seen-more : (base : State) (own : List Change) (c : Change) (old new : Work) → old ≡ bare (worked base own) → new ≡ bare (changed old c) → new ≡ bare (worked base (own ++ c ∷ []))
seen-more base own c old new seen more =
    more ∙ ap (λ (w : Work). bare (changed w c)) seen ∙ changed-bare (worked base own) c ∙ ap bare (sym (worked-more base own c))

-- ---- before the first change

begun-bare : (ts : List Table) → map bare_draft (map drafted ts) ≡ map drafted (map base.without_rows ts)
begun-bare [] = refl
begun-bare (t ∷ ts) = ap (λ (more : List Draft). drafted (base.without_rows t) ∷ more) (begun-bare ts)

headed : (xs : List NamedTable) → map drafted (map head_of xs) ≡ map begun_table xs
headed [] = refl
headed (x ∷ xs) = ap (λ (more : List Draft). begun_table x ∷ more) (headed xs)

pub begun-is : (v : NamedVersion) (s : State) → IsBase v s → begun_in v ≡ bare (begun s)
begun-is v s is =
    let tables : map begun_table v.tables ≡ map bare_draft (map drafted s.tables) = sym (headed v.tables) ∙ ap (map drafted) (sym is.tables) ∙ sym (begun-bare s.tables) in
    rw (tables, is.schemas) refl

-- ---- weights

weight-from : (w : Work) (before own : List Change) (c : Change)
    → weight_from w before (own ++ c ∷ []) ≡ weight_from w before own + change_weight (fold changed w own) (before ++ own) c
weight-from w before [] c = rw (append-nil before) omega arith
weight-from w before (x ∷ own) c =
    let rest = weight-from (changed w x) (before ++ x ∷ []) own c in
    rw (rest, append_assoc before (x ∷ []) own) omega arith

pub weight-more : (base : State) (own : List Change) (c : Change) → own_weight base (own ++ c ∷ []) ≡ own_weight base own + change_weight (worked base own) own c
weight-more base own c = weight-from (begun base) [] own c
