-- A default is judged by the one value that it is the text of.
use Rattle.std.proofs.Common.{◌≡◌, ℕ, Bool, true, List, Option, Some, sym, subst, Decides}
use Rattle.lake_types.specs.Texts.{HasText}
use Rattle.lake_types.specs.declared.value.ColType.{ColType}
use Rattle.lake_types.specs.declared.value.Value.{Value}
use Rattle.lake_types.proofs.ValueLemmas.{one_value}
use Rattle.cat_texts.specs.Types.{type_of}
use Rattle.cat_rules.specs.ColumnRule.{IsDefault, IsShort}

pub default_decides : (type text : List ℕ) (d : Option (List ℕ)) (t : ColType) (v : Value) (b : Bool) → d ≡ Some text → type_of type ≡ Some t → HasText t v text → Decides b (IsShort v)
    → Decides b (IsDefault type d)
default_decides type text d t v b is known has short =
    let D : Option (List ℕ) → Type 0 = IsDefault type in
    (λ e. subst D (sym is) (t, known, (v, has, short.0 e)), λ h. back (subst D is h))
  where
    back : IsDefault type (Some text) → b ≡ true
    back (u, e, (w, h, s)) =
        let same : u ≡ t = cc (e, known) in
        let H : ColType → Type 0 = λ x. HasText x w text in
        let value : w ≡ v = one_value t w v text (subst H same h) has in
        short.1 (subst IsShort value s)
