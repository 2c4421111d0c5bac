-- What the cells of an inlined row decide of its bytes.
use Rattle.std.proofs.Common.{◌≡◌, ℕ, ◌^◌, ◌<◌, Bool, true, false, not, List, length, Option, refl, sym, subst, ◌∙◌, true≢false, Decides}
use Rattle.std.specs.List.{list_any}
use Rattle.lake_types.specs.declared.value.Value.{Value}
use Rattle.inline_rows.specs.Allowed.{AreAllowed, SpellsAllowed}
use Rattle.inline_rows.specs.Laws.{Spells, SpellsNone}
use Rattle.inline_rows.proofs.AllowedLemmas.{spelled_decides}
use Rattle.inline_rows.proofs.OneLemmas.{few, spells_one}
use Rattle.cat_rows.specs.Tables.{Tables}
use Rattle.cat_rows.specs.declared.inlined.InlinedRow.{InlinedRow}
use Rattle.inlined_rules.specs.Misfits.{HasMisfitBy, is_misfit, stay_in}
use Rattle.inlined_rules.specs.declared.term_index.TypedTerms.{TypedTerms}

-- What decides of the cells that the bytes spell decides of the bytes.
pub unreadable_decides : (next : Option ℕ) (bytes : List ℕ) (cells : List (ℕ × Value)) (b : Bool) → Spells bytes cells → Decides b (AreAllowed next cells) → Decides (not b) (SpellsAllowed next bytes → ⊥)
unreadable_decides next bytes cells true spells d = (λ e. absurd (true≢false (sym e)), λ h. absurd (h ((spelled_decides next bytes cells true spells d).0 refl)))
unreadable_decides next bytes cells false spells d = (λ e h. absurd (true≢false (sym ((spelled_decides next bytes cells false spells d).1 h))), λ h. refl)

pub none_allowed : (next : Option ℕ) (bytes : List ℕ) → SpellsNone bytes → Decides true (SpellsAllowed next bytes → ⊥)
none_allowed next bytes none = (λ e h. none h.0 (few h.0 h.1.1.1 h.1.1.0) h.1, λ h. refl)

module _ (t : Tables) (index : List TypedTerms) (r : InlinedRow) where
  abbrev is_wrong : ℕ × Value → Bool
  is_wrong = is_misfit index r.table_id (stay_in t r)

  pub misfit_decides : (cells : List (ℕ × Value)) (b : Bool) → Spells r.cells cells → b ≡ list_any is_wrong cells → Decides b (HasMisfitBy t index r)
  misfit_decides cells b spells is = (
    λ e. (cells, spells, sym is ∙ e),
    λ h.
        let same : h.0 ≡ cells = spells_one r.cells h.0 cells h.1 spells in
        let T : List (ℕ × Value) → Type 0 = λ xs. list_any is_wrong xs ≡ true in
        is ∙ subst T same h.2,
  )

  pub no_misfit : ((cells : List (ℕ × Value)) → length cells < 2 ^ 64 → Spells r.cells cells → ⊥) → Decides false (HasMisfitBy t index r)
  no_misfit none = (λ e. absurd (true≢false (sym e)), λ h. absurd (none h.0 (few h.0 h.1.1.1 h.1.1.0) h.1))
