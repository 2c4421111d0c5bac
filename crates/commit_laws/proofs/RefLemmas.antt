-- Tables by the ids that they get.
use Rattle.std.proofs.Common.{◌≡◌, ◌⊎◌, inl, inr, ℕ, ◌+◌, ◌<◌, ◌≤◌, ◌==◌, Bool, true, false, List, length, map, refl, sym, ap, ◌∙◌, subst, arith, true≢false}
use Rattle.std.specs.List.{AllByRecursion}
use Rattle.std.proofs.lemmas.Bool.{eq-eqb, eqb-true}
use Rattle.lake_model.proofs.CatalogLemmas.{settled-table_ids}
use Rattle.lake_model.proofs.GrowthLemmas.{new_ids_rise}
use Rattle.lake_model.specs.Apply.{Creation, Draft, is_ref, table_id}
use Rattle.lake_model.specs.Creations.{creations}
use Rattle.lake_model.specs.Growth.{made_tables}
use Rattle.lake_model.specs.Laws.{RiseBelow}
use Rattle.lake_model.specs.declared.change.Change.{Change}
use Rattle.lake_model.specs.declared.change.Ref.{Ref}
use Rattle.lake_model.specs.declared.change.Ref.TheVariants as ref
use Rattle.lake_rebase.proofs.MemberLemmas.{In, all_in, one_of_id}
use Rattle.lake_model.proofs.RefLemmas.{ref-is, ref-same}
use Rattle.commit_laws.proofs.StandListLemmas.{all_unmapped}

module _ (next : ℕ) (own : List Change) where
  abbrev pub new : List Creation
  new = creations 0 0 own

  abbrev pub id_at : Ref → ℕ
  id_at at = table_id next new at

  abbrev id_of : Draft → ℕ
  id_of d = table_id next new d.at

  -- the ids of created tables rise, from the next one on
  pub made-rise : RiseBelow (next + length new) (map (λ (d : Draft). table_id next new d.at) (made_tables 0 own))
  made-rise = subst (RiseBelow (next + length new)) (settled-table_ids next new (made_tables 0 own)) (new_ids_rise next own).tables

  pub made-past : AllByRecursion (λ (d : Draft). next ≤ table_id next new d.at) (made_tables 0 own)
  made-past = all_unmapped (λ n. next ≤ n) (λ (d : Draft). table_id next new d.at) (made_tables 0 own) (subst (AllByRecursion (λ n. next ≤ n)) (settled-table_ids next new (made_tables 0 own)) (new_ids_rise next own).tables_new)

  -- a table of the head, or one that the list makes
  pub record IsOld (at : Ref) : Type 0 where
    pub id : ℕ
    pub is : ref.Old id ≡ at
    pub low : id < next

  pub record IsMade (at : Ref) : Type 0 where
    pub draft : Draft
    pub there : In draft (made_tables 0 own)
    pub is : draft.at ≡ at

  abbrev pub IsPlaced : Ref → Type 0
  IsPlaced at = IsOld at ⊎ IsMade at

  high : (at : Ref) → IsMade at → next ≤ id_at at
  high at h = subst (λ r. next ≤ id_at r) h.is (all_in (λ (d : Draft). next ≤ table_id next new d.at) h.draft (made_tables 0 own) made-past h.there)

  low : (at : Ref) → IsOld at → id_at at < next
  low at h = subst (λ r. id_at r < next) h.is h.low

  one-ref : (a b : Ref) → IsPlaced a → IsPlaced b → id_at a ≡ id_at b → a ≡ b
  one-ref a b (inl x) (inl y) e =
      let same : x.id ≡ y.id = ap id_at x.is ∙ e ∙ ap id_at (sym y.is) in
      sym x.is ∙ ap ref.Old same ∙ y.is
  one-ref a b (inl x) (inr y) e = absurd (let l = low a x in let h = high b y in omega (arith, l, h, e))
  one-ref a b (inr x) (inl y) e = absurd (let h = high a x in let l = low b y in omega (arith, l, h, e))
  one-ref a b (inr x) (inr y) e =
      let same = one_of_id (λ (d : Draft). table_id next new d.at) (next + length new) x.draft y.draft (made_tables 0 own) made-rise x.there y.there (ap id_at x.is ∙ e ∙ ap id_at (sym y.is)) in
      sym x.is ∙ ap (λ (d : Draft). d.at) same ∙ y.is

  -- by its id it is known
  pub test-same : (a b : Ref) → IsPlaced a → IsPlaced b → (id_at a == id_at b) ≡ is_ref a b
  test-same a b x y = go (id_at a == id_at b) refl (is_ref a b) refl
    where
      go : (s : Bool) → (id_at a == id_at b) ≡ s → (r : Bool) → is_ref a b ≡ r → (id_at a == id_at b) ≡ is_ref a b
      go true e true f = e ∙ sym f
      go false e false f = e ∙ sym f
      go true e false f = absurd (true≢false (sym (ref-is a b (one-ref a b x y (eqb-true (id_at a) (id_at b) e))) ∙ f))
      go false e true f = absurd (true≢false (sym (eq-eqb (id_at a) (id_at b) (ap id_at (ref-same a b f))) ∙ e))
