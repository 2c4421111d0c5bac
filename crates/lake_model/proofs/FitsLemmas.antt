-- A list that fits a state: one more change of it, and the columns that it leaves.
use Rattle.std.proofs.Common.{◌≡◌, ℕ, ◌+◌, ◌==◌, Bool, true, false, List, [], ◌∷◌, ◌++◌, map, refl, sym, subst, append_assoc, append-nil}
use Rattle.std.specs.Prelude.{not, fold}
use Rattle.std.specs.List.{AllByRecursion}
use Rattle.lake_types.specs.declared.value.Column.{Column}
use Rattle.lake_model.specs.Apply.{Draft, Work, altered, at_field, begun, changed, created, drafted, fields_from, is_ref, promoted, renamed, with_column, with_default, with_rows, with_updates, without_column, without_rows, worked}
use Rattle.lake_model.specs.Fits.{Fits, FitsFrom, IsAllowed, IsAppended, IsColumn, IsSized}
use Rattle.lake_model.specs.Growth.{IsGrowth}
use Rattle.lake_model.specs.State.{State, Table}
use Rattle.lake_model.specs.declared.change.Change.{Change}
use Rattle.lake_model.specs.declared.change.Change.TheVariants as change
use Rattle.lake_model.proofs.TableLemmas.{all-joined, all-left, all-mapped, at-holds}

-- ---- one more change

-- of a change that creates, drops or inserts, that a statement appends it is all that is asked
pub growth_allowed : (base : State) (before : List Change) (c : Change) → IsGrowth c → IsAppended base before c → IsAllowed base before c
growth_allowed base before (change.Delete table rows) grows appended = absurd grows
growth_allowed base before (change.Update table rows set) grows appended = absurd grows
growth_allowed base before c grows appended = appended

more-from : (base : State) (before own : List Change) (c : Change) → FitsFrom base before own → IsAllowed base (before ++ own) c → IsSized c → FitsFrom base before (own ++ c ∷ [])
more-from base before [] c fits allowed sized = (subst (λ l. IsAllowed base l c) (append-nil before) allowed, sized, tt)
more-from base before (x ∷ own) c fits allowed sized =
    let next = subst (λ l. IsAllowed base l c) (sym (append_assoc before (x ∷ []) own)) allowed in
    (fits.0, fits.1, more-from base (before ++ x ∷ []) own c fits.2 next sized)

pub fits_more : (base : State) (own : List Change) (c : Change) → Fits base own → IsAllowed base own c → IsSized c → Fits base (own ++ c ∷ [])
fits_more base own c fits allowed sized = more-from base [] own c fits allowed sized

-- ---- names and defaults of columns stay small

abbrev pub HasSmall : Draft → Type 0
HasSmall d = AllByRecursion IsColumn d.columns

at_field-small : (field : ℕ) (f : Column → Column) → ((c : Column) → IsColumn c → IsColumn (f c)) → (c : Column) → IsColumn c → IsColumn (at_field field f c)
at_field-small field f keeps c h = go (c.field == field) refl
  where
    go : (b : Bool) → (c.field == field) ≡ b → IsColumn (at_field field f c)
    go true e = rw e (keeps c h)
    go false e = rw e h

with-small : (field : ℕ) (f : Column → Column) → ((c : Column) → IsColumn c → IsColumn (f c)) → (columns : List Column) → AllByRecursion IsColumn columns
    → AllByRecursion IsColumn (map (at_field field f) columns)
with-small field f keeps columns h = all-mapped IsColumn IsColumn (at_field field f) (at_field-small field f keeps) columns h

fields-small : (field : ℕ) (columns : List Column) → AllByRecursion IsColumn columns → AllByRecursion IsColumn (fields_from field columns)
fields-small field [] h = tt
fields-small field (c ∷ columns) h = (h.0, fields-small (field + 1) columns h.1)

altered-small : (c : Change) (d : Draft) → IsSized c → HasSmall d → HasSmall (altered c d)
altered-small (change.AddColumn table column) d sized h = at-holds HasSmall table (with_column column) d h (all-joined IsColumn d.columns (column ∷ []) h (sized, tt))
altered-small (change.DropColumn table field) d sized h = at-holds HasSmall table (without_column field) d h (all-left IsColumn (λ c. not (c.field == field)) d.columns h)
altered-small (change.RenameColumn table field name) d sized h =
    at-holds HasSmall table (renamed field name) d h (with-small field (λ c. record c { name = name }) (λ c k. (sized, k.1, k.2)) d.columns h)
altered-small (change.PromoteColumn table field ty) d sized h =
    at-holds HasSmall table (promoted field ty) d h (with-small field (λ c. record c { ty = ty }) (λ c k. k) d.columns h)
altered-small (change.SetDefault table field v) d sized h =
    at-holds HasSmall table (with_default field v) d h (with-small field (λ c. record c { default_value = v }) (λ c k. (k.0, k.1, sized)) d.columns h)
altered-small (change.Insert table rows) d sized h = at-holds HasSmall table (with_rows rows) d h h
altered-small (change.Delete table rows) d sized h = at-holds HasSmall table (without_rows rows) d h h
altered-small (change.Update table rows set) d sized h = at-holds HasSmall table (with_updates rows set) d h h
altered-small c d sized h = h

changed-small : (w : Work) (c : Change) → IsSized c → AllByRecursion HasSmall w.tables → AllByRecursion HasSmall (changed w c).tables
changed-small w (change.CreateSchema name) sized h = h
changed-small w (change.DropSchema schema) sized h = h
changed-small w (change.CreateTable schema name columns) sized h =
    all-joined HasSmall w.tables (created w.created_tables schema name columns ∷ []) h (fields-small 1 columns sized.2, tt)
changed-small w (change.DropTable table) sized h = all-left HasSmall (λ d. not (is_ref d.at table)) w.tables h
changed-small w c sized h = all-mapped HasSmall HasSmall (altered c) (λ d k. altered-small c d sized k) w.tables h

small-from : (base : State) (before own : List Change) → FitsFrom base before own → (w : Work) → AllByRecursion HasSmall w.tables → AllByRecursion HasSmall (fold changed w own).tables
small-from base before [] fits w h = h
small-from base before (c ∷ own) fits w h = small-from base (before ++ c ∷ []) own fits.2 (changed w c) (changed-small w c fits.1 h)

-- in each table after the list, where they are so in the state
pub fits_small : (base : State) (own : List Change) → AllByRecursion (λ (t : Table). AllByRecursion IsColumn t.columns) base.tables → Fits base own → AllByRecursion HasSmall (worked base own).tables
fits_small base own small fits = small-from base [] own fits (begun base) (all-mapped (λ (t : Table). AllByRecursion IsColumn t.columns) HasSmall drafted (λ t h. h) base.tables small)
