-- A name in quotes is read exactly where it stands.
use Rattle.std.proofs.Common.{◌≡◌, ◌≢◌, ℕ, ◌==◌, Bool, List, [], ◌∷◌, ◌++◌, Option, Some, None, true, false, inl, inr, refl, sym, ap, ◌∙◌, append_assoc}
use Rattle.std.proofs.lemmas.List.{append-nil}
use Rattle.std.proofs.lemmas.Bool.{cases_Bool, eqb-true}
use Rattle.lake_types.specs.Texts.{all_doubled, quoted}
use Rattle.cat_changes.specs.Reading.{lacks, inside, quoted_in, with_front}

with_front_nil : (r : Option (List ℕ × List ℕ)) → with_front [] r ≡ r
with_front_nil None = refl
with_front_nil (Some x) = refl

pub with_front_front : (a b : List ℕ) (r : Option (List ℕ × List ℕ)) → with_front a (with_front b r) ≡ with_front (a ++ b) r
with_front_front a b None = refl
with_front_front a b (Some x) = ap (λ (y : List ℕ). Some (y, x.1)) (sym (append_assoc a b x.0))

-- ---- the steps of the loop that reads

pub inside_first : (before after : List ℕ) → lacks 34 before ≡ true → inside false (before ++ 34 ∷ after) ≡ with_front before (inside true after)
inside_first [] after h = sym (with_front_nil (inside true after))
inside_first (b ∷ before) after h =
    elim (cases_Bool (b == 34)) [
      | inl is ↦ let bad : false ≡ true = rw is at h in cc
      | inr other ↦
          let rest : lacks 34 before ≡ true = rw other at h in
          rw other (ap (with_front (b ∷ [])) (inside_first before after rest) ∙ with_front_front (b ∷ []) before (inside true after))
    ]

pub inside_none : (bytes : List ℕ) → lacks 34 bytes ≡ true → inside false bytes ≡ None
inside_none [] h = refl
inside_none (b ∷ bytes) h =
    elim (cases_Bool (b == 34)) [
      | inl is ↦ let bad : false ≡ true = rw is at h in cc
      | inr other ↦
          let rest : lacks 34 bytes ≡ true = rw other at h in
          rw other (ap (with_front (b ∷ [])) (inside_none bytes rest))
    ]

pub inside_ends : (after : List ℕ) → ((rest : List ℕ) → after ≢ 34 ∷ rest) → inside true after ≡ Some ([], after)
inside_ends [] h = refl
inside_ends (b ∷ after) h =
    elim (cases_Bool (b == 34)) [
      | inl is ↦ absurd (h after (ap (λ (x : ℕ). x ∷ after) (eqb-true b 34 is)))
      | inr other ↦ rw other refl
    ]

-- ---- what is written reads back

-- no second quote follows
abbrev pub starts_quote : List ℕ → Bool
starts_quote [] = false
starts_quote (b ∷ rest) = b == 34

inside_behind : (behind : List ℕ) → starts_quote behind ≡ false → inside true behind ≡ Some ([], behind)
inside_behind [] h = refl
inside_behind (b ∷ rest) h = rw h refl

inside_back : (name behind : List ℕ) → starts_quote behind ≡ false → inside false (all_doubled 34 name ++ 34 ∷ behind) ≡ Some (name, behind)
inside_back [] behind h = inside_behind behind h
inside_back (b ∷ name) behind h =
    elim (cases_Bool (b == 34)) [
      | inl is ↦
          rw is (ap (with_front (34 ∷ [])) (inside_back name behind h) ∙ ap (λ (x : ℕ). Some (x ∷ name, behind)) (sym (eqb-true b 34 is)))
      | inr other ↦ rw other (rw other (ap (with_front (b ∷ [])) (inside_back name behind h)))
    ]

pub quoted_back : (name behind : List ℕ) → starts_quote behind ≡ false → quoted_in (quoted name ++ behind) ≡ Some (name, behind)
quoted_back name behind h = rw (append_assoc (all_doubled 34 name) (34 ∷ []) behind) (inside_back name behind h)

-- ---- what is read stands there

with_front_some : (front : List ℕ) (r : Option (List ℕ × List ℕ)) (x : List ℕ × List ℕ) → with_front front r ≡ Some x
    → (y : List ℕ × List ℕ) × (r ≡ Some y) × (x ≡ (front ++ y.0, y.1))
with_front_some front None x e = cc
with_front_some front (Some y) x e = (y, refl, (cc))

abbrev pub before_inside : Bool → List ℕ
before_inside false = []
before_inside true = 34 ∷ []

inside_sound : (second : Bool) (text : List ℕ) (x : List ℕ × List ℕ) → inside second text ≡ Some x
    → all_doubled 34 x.0 ++ 34 ∷ x.1 ≡ before_inside second ++ text
inside_sound false [] x e = cc
inside_sound true [] x e =
    let is : ([], []) ≡ x = cc in
    rw (sym is) refl
inside_sound false (b ∷ text) x e =
    elim (cases_Bool (b == 34)) [
      | inl is ↦
          let read : inside true text ≡ Some x = rw is at e in
          inside_sound true text x read ∙ ap (λ (c : ℕ). c ∷ text) (sym (eqb-true b 34 is))
      | inr other ↦
          let read : with_front (b ∷ []) (inside false text) ≡ Some x = rw other at e in
          let found = with_front_some (b ∷ []) (inside false text) x read in
          rw found.2 (rw other (ap (λ (r : List ℕ). b ∷ r) (inside_sound false text found.0 found.1)))
    ]
inside_sound true (b ∷ text) x e =
    elim (cases_Bool (b == 34)) [
      | inl is ↦
          let read : with_front (34 ∷ []) (inside false text) ≡ Some x = rw is at e in
          let found = with_front_some (34 ∷ []) (inside false text) x read in
          rw found.2 (ap (λ (r : List ℕ). 34 ∷ 34 ∷ r) (inside_sound false text found.0 found.1) ∙ ap (λ (c : ℕ). 34 ∷ c ∷ text) (sym (eqb-true b 34 is)))
      | inr other ↦
          let read : Some ([], b ∷ text) ≡ Some x = rw other at e in
          let is : ([], b ∷ text) ≡ x = cc in
          rw (sym is) refl
    ]

pub quoted_sound : (text : List ℕ) (x : List ℕ × List ℕ) → quoted_in text ≡ Some x → quoted x.0 ++ x.1 ≡ text
quoted_sound [] x e = cc
quoted_sound (b ∷ text) x e =
    elim (cases_Bool (b == 34)) [
      | inl is ↦
          let read : inside false text ≡ Some x = rw is at e in
          ap (λ (r : List ℕ). 34 ∷ r) (append_assoc (all_doubled 34 x.0) (34 ∷ []) x.1 ∙ inside_sound false text x read)
          ∙ ap (λ (c : ℕ). c ∷ text) (sym (eqb-true b 34 is))
      | inr other ↦ let bad : None ≡ Some x = rw other at e in cc
    ]

some_pair : (x y : List ℕ × List ℕ) → Some x ≡ Some y → (x.0 ≡ y.0) × (x.1 ≡ y.1)
some_pair x y e =
    let same : x ≡ y = cc in
    (ap (λ (z : List ℕ × List ℕ). z.0) same, ap (λ (z : List ℕ × List ℕ). z.1) same)

pub quoted_unique : (a b x y : List ℕ) → starts_quote x ≡ false → starts_quote y ≡ false → quoted a ++ x ≡ quoted b ++ y → (a ≡ b) × (x ≡ y)
quoted_unique a b x y hx hy e =
    let same : Some (a, x) ≡ Some (b, y) = sym (quoted_back a x hx) ∙ ap quoted_in e ∙ quoted_back b y hy in
    some_pair (a, x) (b, y) same

-- ---- the loops, as far as they have come

pub read_more : (name rest before after more : List ℕ) (all : Option (List ℕ × List ℕ)) → with_front name (inside false rest) ≡ all
    → rest ≡ before ++ 34 ∷ after → lacks 34 before ≡ true → after ≡ 34 ∷ more → with_front ((name ++ before) ++ 34 ∷ []) (inside false more) ≡ all
read_more name rest before after more all h e lack second =
    let first : inside false rest ≡ with_front before (inside true after) = ap (inside false) e ∙ inside_first before after lack in
    let then : inside true after ≡ with_front (34 ∷ []) (inside false more) = ap (inside true) second in
    sym (with_front_front (name ++ before) (34 ∷ []) (inside false more))
    ∙ ap (with_front (name ++ before)) (sym then)
    ∙ sym (with_front_front name before (inside true after))
    ∙ ap (with_front name) (sym first) ∙ h

pub read_end : (name rest before after : List ℕ) (all : Option (List ℕ × List ℕ)) → with_front name (inside false rest) ≡ all
    → rest ≡ before ++ 34 ∷ after → lacks 34 before ≡ true → ((more : List ℕ) → after ≢ 34 ∷ more) → all ≡ Some (name ++ before, after)
read_end name rest before after all h e lack ends =
    let first : inside false rest ≡ with_front before (inside true after) = ap (inside false) e ∙ inside_first before after lack in
    let then : inside true after ≡ Some ([], after) = inside_ends after ends in
    sym h ∙ ap (with_front name) (first ∙ ap (with_front before) then) ∙ ap (λ (x : List ℕ). Some (name ++ x, after)) (append-nil before)

pub read_none : (name rest : List ℕ) (all : Option (List ℕ × List ℕ)) → with_front name (inside false rest) ≡ all → lacks 34 rest ≡ true → all ≡ None
read_none name rest all h lack = sym h ∙ ap (with_front name) (inside_none rest lack)

pub quoted_none : (text : List ℕ) → ((rest : List ℕ) → text ≢ 34 ∷ rest) → quoted_in text ≡ None
quoted_none [] h = refl
quoted_none (b ∷ text) h =
    elim (cases_Bool (b == 34)) [
      | inl is ↦ absurd (h text (ap (λ (x : ℕ). x ∷ text) (eqb-true b 34 is)))
      | inr other ↦ rw other refl
    ]

doubled_none : (text : List ℕ) → lacks 34 text ≡ true → all_doubled 34 text ≡ text
doubled_none [] h = refl
doubled_none (b ∷ text) h =
    elim (cases_Bool (b == 34)) [
      | inl is ↦ let bad : false ≡ true = rw is at h in cc
      | inr other ↦
          let rest : lacks 34 text ≡ true = rw other at h in
          rw other (ap (λ (x : List ℕ). b ∷ x) (doubled_none text rest))
    ]

doubled_first : (before after : List ℕ) → lacks 34 before ≡ true → all_doubled 34 (before ++ 34 ∷ after) ≡ before ++ 34 ∷ 34 ∷ all_doubled 34 after
doubled_first [] after h = refl
doubled_first (b ∷ before) after h =
    elim (cases_Bool (b == 34)) [
      | inl is ↦ let bad : false ≡ true = rw is at h in cc
      | inr other ↦
          let rest : lacks 34 before ≡ true = rw other at h in
          rw other (ap (λ (x : List ℕ). b ∷ x) (doubled_first before after rest))
    ]

pub write_more : (out rest before after all : List ℕ) → out ++ all_doubled 34 rest ≡ all → rest ≡ before ++ 34 ∷ after → lacks 34 before ≡ true
    → ((out ++ before) ++ 34 ∷ 34 ∷ []) ++ all_doubled 34 after ≡ all
write_more out rest before after all h e lack =
    append_assoc (out ++ before) (34 ∷ 34 ∷ []) (all_doubled 34 after)
    ∙ append_assoc out before (34 ∷ 34 ∷ all_doubled 34 after)
    ∙ ap (λ (x : List ℕ). out ++ x) (sym (ap (all_doubled 34) e ∙ doubled_first before after lack)) ∙ h

pub write_last : (out rest text name : List ℕ) → out ++ all_doubled 34 rest ≡ text ++ 34 ∷ all_doubled 34 name → lacks 34 rest ≡ true
    → (out ++ rest) ++ 34 ∷ [] ≡ text ++ quoted name
write_last out rest text name h lack =
    ap (λ (x : List ℕ). (out ++ x) ++ 34 ∷ []) (sym (doubled_none rest lack))
    ∙ ap (λ (x : List ℕ). x ++ 34 ∷ []) h ∙ append_assoc text (34 ∷ all_doubled 34 name) (34 ∷ [])
