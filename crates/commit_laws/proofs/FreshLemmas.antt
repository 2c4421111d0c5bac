-- The staged files of new rows: one of each table, with the table's columns.
use Rattle.std.proofs.Common.{◌≡◌, ◌≢◌, ⊎_elim, Bool, true, false, ◌||◌, List, [], ◌∷◌, refl, sym, ap, ◌∙◌, Option, Some, None, true≢false}
use Rattle.std.specs.Prelude.{find, option_map, unwrap_or}
use Rattle.std.proofs.lemmas.Option.{same_Some}
use Rattle.std.specs.List.{AllByRecursion, list_any}
use Rattle.std.proofs.lemmas.Bool.{and_parts, not-true}
use Rattle.lake_model.specs.Apply.{is_ref}
use Rattle.lake_model.specs.declared.change.Ref.{Ref}
use Rattle.lake_rebase.proofs.MemberLemmas.{In, found_in, none_in}
use Rattle.lake_model.proofs.RefLemmas.{ref-is, ref-same}
use Rattle.cat_tables.specs.Table.{IsAscending}
use Rattle.cat_view.specs.Staged.{NamedStagedFile, NamedStagedTable, are_apart, nothing_for, staged_for}
use Rattle.rebase.specs.Parts.{FreshFile, fresh_file, fresh_files}
use Rattle.commit_laws.proofs.ListLemmas.{asc_two, in_picked}

abbrev pub OtherTable : NamedStagedTable → NamedStagedTable → Type 0
OtherTable s u = s.table ≢ u.table

apart_all : (s : NamedStagedTable) (us : List NamedStagedTable) → list_any (λ (u : NamedStagedTable). is_ref u.table s.table) us ≡ false → AllByRecursion (OtherTable s) us
apart_all s [] e = tt
apart_all s (u ∷ us) e = go (is_ref u.table s.table) refl e (apart_all s us)
  where
    go : (b : Bool) → is_ref u.table s.table ≡ b → (b || list_any (λ (x : NamedStagedTable). is_ref x.table s.table) us) ≡ false → (list_any (λ (x : NamedStagedTable). is_ref x.table s.table) us ≡ false → AllByRecursion (OtherTable s) us) → AllByRecursion (OtherTable s) (u ∷ us)
    go true is e more = absurd (true≢false e)
    go false is e more = ((λ same. true≢false (sym (ref-is u.table s.table (sym same)) ∙ is)), more e)

pub apart_each : (staged : List NamedStagedTable) → are_apart staged ≡ true → IsAscending OtherTable staged
apart_each [] e = tt
apart_each (s ∷ staged) e = let both = and_parts _ _ e in (apart_all s staged (not-true _ both.0), apart_each staged both.1)

pub one_staged : (staged : List NamedStagedTable) (s u : NamedStagedTable) → are_apart staged ≡ true → In s staged → In u staged → s.table ≡ u.table → s ≡ u
one_staged staged s u apart h i same =
    ⊎_elim (λ one. one) (λ other. ⊎_elim (λ differs. absurd (differs same)) (λ differs. absurd (differs (sym same))) other) (asc_two OtherTable s u staged (apart_each staged apart) h i)

-- what is staged for its table
pub staged_is : (staged : List NamedStagedTable) (s : NamedStagedTable) (at : Ref) → are_apart staged ≡ true → In s staged → at ≡ s.table → staged_for staged at ≡ s
staged_is staged s at apart there same = go (find (λ (x : NamedStagedTable). is_ref x.table at) staged) refl
  where
    go : (o : Option NamedStagedTable) → find (λ (x : NamedStagedTable). is_ref x.table at) staged ≡ o → unwrap_or o (nothing_for at) ≡ s
    go None e = absurd (true≢false (sym (ref-is s.table at (sym same)) ∙ none_in (λ (x : NamedStagedTable). is_ref x.table at) s staged e there))
    go (Some u) e = let m = found_in (λ (x : NamedStagedTable). is_ref x.table at) u staged e in one_staged staged u s apart m.0 there (ref-same u.table at m.1 ∙ same)

-- ---- files

pub record IsStagedAs (staged : List NamedStagedTable) (x : FreshFile) : Type 0 where
  pub stage : NamedStagedTable
  pub there : In stage staged
  pub table : x.table ≡ stage.table
  pub file : stage.fresh ≡ Some x.file

file-of : (s : NamedStagedTable) (o : Option NamedStagedFile) (x : FreshFile) → option_map (λ (f : NamedStagedFile). record { table = s.table; file = f }) o ≡ Some x → (x.table ≡ s.table) × (o ≡ Some x.file)
file-of s None x e = absurd cc
file-of s (Some f) x e = let same : record { table = s.table; file = f } ≡ x = cc in (sym (ap (λ (y : FreshFile). y.table) same), ap (λ (y : FreshFile). Some y.file) same)

pub staged-as : (staged : List NamedStagedTable) (x : FreshFile) → In x (fresh_files staged) → IsStagedAs staged x
staged-as staged x there =
    let m = in_picked fresh_file x staged there in
    let is = file-of m.item m.item.fresh x m.is in
    record { stage = m.item; there = m.there; table = is.0; file = is.1 }

pub one_file : (staged : List NamedStagedTable) (x y : FreshFile) → are_apart staged ≡ true → In x (fresh_files staged) → In y (fresh_files staged) → x.table ≡ y.table → x ≡ y
one_file staged x y apart h i same =
    let a = in_picked fresh_file x staged h in
    let b = in_picked fresh_file y staged i in
    let c = file-of a.item a.item.fresh x a.is in let d = file-of b.item b.item.fresh y b.is in
    let one = one_staged staged a.item b.item apart a.there b.there (sym c.0 ∙ same ∙ d.0) in
    same_Some x y (sym a.is ∙ ap fresh_file one ∙ b.is)
