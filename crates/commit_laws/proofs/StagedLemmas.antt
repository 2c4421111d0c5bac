-- What is staged for the tables of the head, and for those that the list creates.
use Rattle.std.proofs.Common.{◌≡◌, Bool, true, false, cond, not, List, [], ◌∷◌, filter, find, Option, Some, None, refl, sym, ap, ap₂, ◌∙◌, true≢false}
use Rattle.std.specs.Prelude.{unwrap_or}
use Rattle.std.specs.List.{list_any}
use Rattle.std.proofs.lemmas.Bool.{and_parts, not-true}
use Rattle.lake_model.specs.Apply.{is_ref}
use Rattle.lake_model.specs.declared.change.Ref.{Ref}
use Rattle.lake_model.proofs.RefLemmas.{ref-same}
use Rattle.cat_view.specs.Staged.{NamedStagedFile, NamedStagedTable, are_apart, nothing_for, staged_for}
use Rattle.rebase.specs.Parts.{FreshFile, fresh_files}

-- ---- the files of one table

abbrev pub files_of : Ref → List FreshFile → List FreshFile
files_of at xs = filter (λ (x : FreshFile). is_ref x.table at) xs

abbrev pub listed : Ref → Option NamedStagedFile → List FreshFile
listed at None = []
listed at (Some f) = record { table = at; file = f } ∷ []

abbrev file_at : Ref → NamedStagedTable → Bool
file_at at s = is_ref s.table at

none_of : (at : Ref) (staged : List NamedStagedTable) → list_any (file_at at) staged ≡ false → files_of at (fresh_files staged) ≡ []
none_of at [] h = refl
none_of at (s ∷ staged) h = go s.fresh refl (is_ref s.table at) refl (none_of at staged)
  where
    go : (o : Option NamedStagedFile) → s.fresh ≡ o → (b : Bool) → is_ref s.table at ≡ b → (list_any (file_at at) staged ≡ false → files_of at (fresh_files staged) ≡ [])
        → files_of at (fresh_files (s ∷ staged)) ≡ []
    go o e true is more = absurd (true≢false (sym (rw is refl) ∙ h))
    go None e false is more = rw e (more (rw is at h))
    go (Some f) e false is more = rw (e, is) (more (rw is at h))

-- at most one, which is what is staged for it
pub files-of : (at : Ref) (staged : List NamedStagedTable) → are_apart staged ≡ true → files_of at (fresh_files staged) ≡ listed at (staged_for staged at).fresh
files-of at [] apart = refl
files-of at (s ∷ staged) apart = go (is_ref s.table at) refl (files-of at staged parts.1)
  where
    parts : (not (list_any (λ (x : NamedStagedTable). is_ref x.table s.table) staged) ≡ true) × (are_apart staged ≡ true)
    parts = and_parts (not (list_any (λ (x : NamedStagedTable). is_ref x.table s.table) staged)) (are_apart staged) apart

    here : (o : Option NamedStagedFile) → s.fresh ≡ o → s.table ≡ at → is_ref s.table at ≡ true → files_of at (fresh_files staged) ≡ [] → files_of at (fresh_files (s ∷ staged)) ≡ listed at s.fresh
    here None e same is none = rw e none
    here (Some f) e same is none = rw (e, is) (ap₂ (λ (a : Ref) l. record { table = a; file = f } ∷ l) same none)

    go : (b : Bool) → is_ref s.table at ≡ b → files_of at (fresh_files staged) ≡ listed at (staged_for staged at).fresh → files_of at (fresh_files (s ∷ staged)) ≡ listed at (staged_for (s ∷ staged) at).fresh
    go true is more =
        let same = ref-same s.table at is in
        let others : list_any (file_at at) staged ≡ false = ap (λ a. list_any (file_at a) staged) (sym same) ∙ not-true (list_any (file_at s.table) staged) parts.0 in
        here s.fresh refl same is (none_of at staged others) ∙ sym (ap (λ b. listed at (unwrap_or (cond b (Some s) (find (file_at at) staged)) (nothing_for at)).fresh) is)
    go false is more = other s.fresh refl ∙ more ∙ sym (ap (λ b. listed at (unwrap_or (cond b (Some s) (find (file_at at) staged)) (nothing_for at)).fresh) is)
      where
        other : (o : Option NamedStagedFile) → s.fresh ≡ o → files_of at (fresh_files (s ∷ staged)) ≡ files_of at (fresh_files staged)
        other None e = rw e refl
        other (Some f) e = rw (e, is) refl
