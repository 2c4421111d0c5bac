-- The text of a list's kinds spells them at the head.
use Rattle.std.proofs.Common.{◌≡◌, ◌⊎◌, inl, inr, ℕ, true, false, true≢false, List, [], ◌∷◌, ◌++◌, Some, Contains, sym, ap, ◌∙◌, subst}
use Rattle.lake_types.specs.Kinds.{AreNamed, IsNamed, SaysWith, changes_text, name_of}
use Rattle.lake_types.specs.declared.kind.Kind.{Kind}
use Rattle.lake_types.specs.declared.kind.Kind.TheVariants as kind
use Rattle.lake_types.specs.declared.kind.SchemaName.{SchemaName}
use Rattle.lake_model.proofs.SpellLemmas.{fits_known, kinds_spelled}
use Rattle.lake_model.specs.Clashes.{conflicts}
use Rattle.lake_model.specs.Core.{AreSpelled, HaveKinds, Version}
use Rattle.lake_model.specs.Kinds.{kinds}
use Rattle.lake_model.specs.State.{State}
use Rattle.lake_model.specs.declared.change.Change.{Change}
use Rattle.conflicts.specs.Laws.{IsApart}
use Rattle.lake_rebase.proofs.HeadLemmas.{kinds-at-head}
use Rattle.lake_rebase.proofs.MemberLemmas.{In, IsNamedSchema, all_by, all_in, in_of, is_same, name-is, named-there, of_in}
use Rattle.lake_rebase.specs.Laws.{IsFree}

module _ (told : List Kind) (base head : State) (own : List Change) (free : IsFree told base head own) where
  at-base : SaysWith base.schemas (changes_text (kinds base.schemas own)) (kinds base.schemas own)
  at-base = kinds_spelled base.schemas own (fits_known base own free.base_ids free.small free.fits_base)

  -- a schema that the list drops is there at the head
  dropped-there : (id : ℕ) (name : List ℕ) → In (kind.DroppedSchema id name) (kinds base.schemas own) → name_of base.schemas id ≡ Some name → name_of head.schemas id ≡ Some name
  dropped-there id name there e = go (free.tells.old_schemas x.schema (of_in x.schema base.schemas x.there))
    where
      x : IsNamedSchema base.schemas id name
      x = named-there base.schemas id name e

      go : Contains head.schemas x.schema ⊎ Contains told (kind.DroppedSchema x.schema.id x.schema.name) → name_of head.schemas id ≡ Some name
      go (inl here) =
          ap (name_of head.schemas) (sym x.id_is) ∙ name-is head.next_catalog x.schema head.schemas free.head_ids.schemas (in_of x.schema head.schemas here) ∙ ap Some x.name_is
      go (inr gone) =
          let t = kind.DroppedSchema x.schema.id x.schema.name in
          let apart : conflicts (kind.DroppedSchema id name) t ≡ false =
          all_in (λ m. conflicts m t ≡ false) (kind.DroppedSchema id name) (kinds base.schemas own) (all_in (IsApart (kinds base.schemas own)) t told free.apart (in_of t told gone)) there in
          let clash : conflicts (kind.DroppedSchema id name) t ≡ true = is_same name x.schema.name (sym x.name_is) in
          absurd (true≢false (sym clash ∙ apart))

  named-one : (k : Kind) → In k (kinds base.schemas own) → IsNamed (name_of base.schemas) k → IsNamed (name_of head.schemas) k
  named-one (kind.DroppedSchema id name) there e = dropped-there id name there e
  named-one (kind.CreatedSchema name) there e = tt
  named-one (kind.CreatedTable schema name) there e = tt
  named-one (kind.DroppedTable id) there e = tt
  named-one (kind.Altered id) there e = tt
  named-one (kind.InsertedInto id) there e = tt
  named-one (kind.DeletedFrom id) there e = tt
  named-one (kind.Compacted id) there e = tt

  pub says-at_head : SaysWith head.schemas (changes_text (kinds head.schemas own)) (kinds head.schemas own)
  says-at_head =
      let named : AreNamed head.schemas (kinds base.schemas own) =
      all_by (IsNamed (name_of head.schemas)) (kinds base.schemas own) (λ k there. named-one k there (all_in (IsNamed (name_of base.schemas)) k (kinds base.schemas own) at-base.named there)) in
      subst (λ ks. SaysWith head.schemas (changes_text ks) ks) (sym (kinds-at-head told base head own free)) (record { says = at-base.says; named = named })

-- one more version behind the last one
spelled-push : (names : List SchemaName) (vs : List Version) (v w : Version) → AreSpelled names (vs ++ v ∷ []) → SaysWith v.state.schemas w.text w.kinds → AreSpelled names ((vs ++ v ∷ []) ++ w ∷ [])
spelled-push names [] v w h says = (h.0, (says, tt))
spelled-push names (u ∷ vs) v w h says = (h.0, spelled-push u.state.schemas vs v w h.1 says)

pub kinds-push : (vs : List Version) (v w : Version) → HaveKinds (vs ++ v ∷ []) → SaysWith v.state.schemas w.text w.kinds → HaveKinds ((vs ++ v ∷ []) ++ w ∷ [])
kinds-push [] v w h says = (h.0, (says, tt))
kinds-push (u ∷ vs) v w h says = (h.0, spelled-push u.state.schemas vs v w h.1 says)
