-- The catalogue's texts of types.
use Rattle.std.proofs.Common.{◌≡◌, ℕ, Bool, true, false, cond, List, [], ◌∷◌, Some, refl, sym, ap, ◌∙◌}
use Rattle.std.specs.Prelude.{find}
use Rattle.std.specs.Str.{bytes_eq}
use Rattle.std.proofs.lemmas.Slice.Eq.{bytes_eq-Decides}
use Rattle.lake_types.specs.declared.value.ColType.{ColType}
use Rattle.lake_types.specs.declared.value.ColType.TheVariants as ty
use Rattle.cat_texts.specs.Laws.{HasTypeText, HaveOwnTexts, ReadsType}
use Rattle.cat_texts.specs.Types.{type_of, type_text, types}

pub reads_type : ReadsType
reads_type ty.Bool = refl
reads_type ty.Int8 = refl
reads_type ty.Int16 = refl
reads_type ty.Int32 = refl
reads_type ty.Int64 = refl
reads_type ty.Varchar = refl
reads_type ty.Blob = refl
reads_type ty.Date = refl

found : (text : List ℕ) (ts : List ColType) (t : ColType) → find (λ u. bytes_eq (type_text u) text) ts ≡ Some t → type_text t ≡ text
found text [] t e = absurd (cc e)
found text (u ∷ ts) t e = go (bytes_eq (type_text u) text) refl e (found text ts t)
  where
    go : (b : Bool) → bytes_eq (type_text u) text ≡ b → cond b (Some u) (find (λ v. bytes_eq (type_text v) text) ts) ≡ Some t
        → (find (λ v. bytes_eq (type_text v) text) ts ≡ Some t → type_text t ≡ text) → type_text t ≡ text
    go true is e more = let same : t ≡ u = cc in ap type_text same ∙ (bytes_eq-Decides (type_text u) text).0 is
    go false is e more = more e

pub has_type_text : HasTypeText
has_type_text t text e = found text types t e

pub own_texts : HaveOwnTexts
own_texts a b e = let same : Some a ≡ Some b = sym (reads_type a) ∙ ap type_of e ∙ reads_type b in cc

-- the type that is found has the text
pub types_of : (text : List ℕ) (t : ColType) → Some t ≡ type_of text → type_text t ≡ text
types_of text t e = found text types t (sym e)
