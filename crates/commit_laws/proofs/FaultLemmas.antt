-- A staged file's sheet can be laid into the columns that it was written for.
use Rattle.std.proofs.Common.{◌≡◌, inl, inr, ℕ, ◌==◌, Bool, true, false, not, List, [], ◌∷◌, filter, None, refl, ap, ◌∙◌, true≢false}
use Rattle.std.specs.List.{AllByRecursion, AllZip, list_any}
use Rattle.std.proofs.lemmas.Bool.{eqb-true}
use Rattle.lake_types.specs.declared.sheet.SheetColumn.{SheetColumn}
use Rattle.lake_types.specs.declared.value.ColType.{ColType}
use Rattle.lake_types.specs.declared.value.ColType.TheVariants as ty
use Rattle.lake_types.specs.declared.value.Column.{Column}
use Rattle.lake_model.specs.Laws.{RiseBelow, fields_of}
use Rattle.lake_rebase.proofs.MemberLemmas.{In, one_of_id}
use Rattle.field_map.specs.Laid.{agrees, fault_of, first_fault, is_of, is_same}
use Rattle.sheet_rows.specs.Sheets.{is_data}
use Rattle.cat_view.specs.Staged.{IsColumnOf}
use Rattle.commit_laws.proofs.StandListLemmas.{filter-all}

same-type : (t : ColType) → is_same t t ≡ true
same-type ty.Bool = refl
same-type ty.Int8 = refl
same-type ty.Int16 = refl
same-type ty.Int32 = refl
same-type ty.Int64 = refl
same-type ty.Varchar = refl
same-type ty.Blob = refl
same-type ty.Date = refl

-- where no column is of row ids, all are data
pub all-data : (cs : List SheetColumn) → list_any (λ (c : SheetColumn). not (is_data c)) cs ≡ false → filter is_data cs ≡ cs
all-data cs none = filter-all is_data cs (go cs none)
  where
    go : (ds : List SheetColumn) → list_any (λ (c : SheetColumn). not (is_data c)) ds ≡ false → AllByRecursion (λ c. is_data c ≡ true) ds
    go [] h = tt
    go (d ∷ ds) h = front (is_data d) refl (go ds)
      where
        front : (b : Bool) → is_data d ≡ b → (list_any (λ (c : SheetColumn). not (is_data c)) ds ≡ false → AllByRecursion (λ c. is_data c ≡ true) ds) → AllByRecursion (λ c. is_data c ≡ true) (d ∷ ds)
        front true e more = (e, more (rw e at h))
        front false e more = absurd (true≢false (rw e at h))

module _ (limit : ℕ) (columns : List Column) (rise : RiseBelow limit (fields_of columns)) (c : Column) (there : In c columns) where
  no-fault : (ds : List Column) (sheet : List SheetColumn) → ((d : Column) → In d ds → In d columns) → AllZip IsColumnOf ds sheet → fault_of sheet c ≡ None
  no-fault [] [] within h = refl
  no-fault [] (s ∷ sheet) within h = absurd h
  no-fault (d ∷ ds) [] within h = absurd h
  no-fault (d ∷ ds) (s ∷ sheet) within h = go (d.field == c.field) refl (no-fault ds sheet (λ e k. within e (inr k)) h.1)
    where
      test : is_of s.field c.field ≡ (d.field == c.field)
      test = ap (λ o. is_of o c.field) h.0.field

      go : (b : Bool) → (d.field == c.field) ≡ b → fault_of sheet c ≡ None → fault_of (s ∷ sheet) c ≡ None
      go true e more =
          let same : d ≡ c = one_of_id (λ (k : Column). k.field) limit d c columns rise (within d (inl refl)) there (eqb-true d.field c.field e) in
          let type : s.ty ≡ c.ty = h.0.type ∙ ap (λ (k : Column). k.ty) same in
          let fine : agrees s.ty c.ty ≡ true = rw (type, same-type c.ty) refl in
          let here : is_of s.field c.field ≡ true = test ∙ e in
          rw (here, fine) refl
      go false e more = let other : is_of s.field c.field ≡ false = test ∙ e in rw other more

pub no-faults : (limit : ℕ) (columns : List Column) (sheet : List SheetColumn) → RiseBelow limit (fields_of columns) → AllZip IsColumnOf columns sheet → first_fault sheet columns ≡ None
no-faults limit columns sheet rise h = go columns (λ c there. there)
  where
    go : (cs : List Column) → ((c : Column) → In c cs → In c columns) → first_fault sheet cs ≡ None
    go [] within = refl
    go (c ∷ cs) within =
        let first : fault_of sheet c ≡ None = no-fault limit columns rise c (within c (inl refl)) columns sheet (λ d k. k) h in
        rw first (go cs (λ d k. within d (inr k)))
