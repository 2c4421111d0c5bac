-- A kind's text is cut off in one way.
use Rattle.std.proofs.Common.{◌≡◌, ℕ, ◌<◌, ◌^◌, List, [], ◌∷◌, ◌++◌, codes, decimal, sum, Option, Some, None, true, false, inl, inr, refl, sym, ap, ◌∙◌, append_assoc, arith, ◌==◌}
use Rattle.std.proofs.lemmas.List.{append-nil}
use Rattle.std.specs.Str.Parse.{AllDigits}
use Rattle.std.specs.Char.{digit_value}
use Rattle.std.proofs.lemmas.Bool.{cases_Bool, eqb-true}
use Rattle.std.proofs.lemmas.Fmt.{decimal_is_IsNumeral, decimal_injective}
use Rattle.lake_types.specs.declared.kind.Kind.{Kind}
use Rattle.lake_types.specs.declared.kind.Kind.TheVariants as kind
use Rattle.lake_types.specs.Kinds.{kind_text, HasId}
use Rattle.lake_types.specs.Texts.{quoted}
use Rattle.cat_changes.specs.Changes.{tail_text}
use Rattle.cat_changes.specs.Reading.{lacks, unnamed}
use Rattle.cat_changes.proofs.SignLemmas.{comma_tail, first_cut}
use Rattle.cat_changes.proofs.QuoteLemmas.{starts_quote, quoted_unique}

-- the word before the colon, and what stands behind it
abbrev pub word_of : Kind → List ℕ
word_of (kind.CreatedSchema name) = codes "created_schema"
word_of (kind.CreatedTable schema name) = codes "created_table"
word_of (kind.InsertedInto table) = codes "inserted_into_table"
word_of (kind.DeletedFrom table) = codes "deleted_from_table"
word_of (kind.Compacted table) = codes "compacted_table"
word_of (kind.DroppedSchema id name) = codes "dropped_schema"
word_of (kind.DroppedTable table) = codes "dropped_table"
word_of (kind.Altered table) = codes "altered_table"

abbrev pub body : Kind → List ℕ
body (kind.CreatedSchema name) = quoted name
body (kind.CreatedTable schema name) = quoted schema ++ 46 ∷ quoted name
body (kind.InsertedInto table) = decimal table
body (kind.DeletedFrom table) = decimal table
body (kind.Compacted table) = decimal table
body (kind.DroppedSchema id name) = decimal id
body (kind.DroppedTable table) = decimal table
body (kind.Altered table) = decimal table

pub in_parts : (k : Kind) (x : List ℕ) → kind_text k ++ x ≡ word_of k ++ 58 ∷ (body k ++ x)
in_parts (kind.CreatedSchema name) x = refl
in_parts (kind.CreatedTable schema name) x = refl
in_parts (kind.InsertedInto table) x = refl
in_parts (kind.DeletedFrom table) x = refl
in_parts (kind.Compacted table) x = refl
in_parts (kind.DroppedSchema id name) x = refl
in_parts (kind.DroppedTable table) x = refl
in_parts (kind.Altered table) x = refl

lacks_word : (k : Kind) → lacks 58 (word_of k) ≡ true
lacks_word (kind.CreatedSchema name) = refl
lacks_word (kind.CreatedTable schema name) = refl
lacks_word (kind.InsertedInto table) = refl
lacks_word (kind.DeletedFrom table) = refl
lacks_word (kind.Compacted table) = refl
lacks_word (kind.DroppedSchema id name) = refl
lacks_word (kind.DroppedTable table) = refl
lacks_word (kind.Altered table) = refl

-- the word before the first colon is the kind's
pub in_word : (word rest : List ℕ) (k : Kind) (x : List ℕ) → lacks 58 word ≡ true → kind_text k ++ x ≡ word ++ 58 ∷ rest
    → (word_of k ≡ word) × (body k ++ x ≡ rest)
in_word word rest k x h e =
    let cut = first_cut 58 (word_of k) word (Some (body k ++ x)) (Some rest) (lacks_word k) h (sym (in_parts k x) ∙ e) in
    let tails : Some (body k ++ x) ≡ Some rest = cut.1 in
    (cut.0, (cc))

pub no_word : (text : List ℕ) (k : Kind) (x : List ℕ) → lacks 58 text ≡ true → kind_text k ++ x ≡ text → ⊥
no_word text k x h e =
    let cut = first_cut 58 (word_of k) text (Some (body k ++ x)) None (lacks_word k) h (sym (in_parts k x) ∙ e ∙ rw append-nil refl) in
    let tails : Some (body k ++ x) ≡ None = cut.1 in
    cc

-- ---- ids

digits_lack : (digits : List ℕ) → AllDigits 10 digits → lacks 44 digits ≡ true
digits_lack [] h = refl
digits_lack (b ∷ digits) h =
    elim (cases_Bool (b == 44)) [
      | inl is ↦
          let small : digit_value 44 < 10 = rw (eqb-true b 44 is) at h.0 in
          absurd (omega (arith, small))
      | inr other ↦ rw other (digits_lack digits h.1)
    ]

lacks_decimal : (n : ℕ) → n < 2 ^ 64 → lacks 44 (decimal n) ≡ true
lacks_decimal n h = digits_lack (decimal n) (decimal_is_IsNumeral n h).0.1

pub id_unique : (i j : ℕ) (t u : Option (List ℕ)) → i < 2 ^ 64 → j < 2 ^ 64 → decimal i ++ tail_text t ≡ decimal j ++ tail_text u → (i ≡ j) × (t ≡ u)
id_unique i j t u hi hj e =
    let cut = first_cut 44 (decimal i) (decimal j) t u (lacks_decimal i hi) (lacks_decimal j hj)
    (ap (λ (x : List ℕ). decimal i ++ x) (sym (comma_tail t)) ∙ e ∙ ap (λ (x : List ℕ). decimal j ++ x) (comma_tail u)) in
    (decimal_injective i j hi hj cut.0, cut.1)

-- the digits before the first comma, or all of them, are the id's
pub id_in : (digits : List ℕ) (id : ℕ) (t u : Option (List ℕ)) → id < 2 ^ 64 → lacks 44 digits ≡ true → decimal id ++ tail_text t ≡ digits ++ tail_text u → (decimal id ≡ digits) × (t ≡ u)
id_in digits id t u h lack e =
    first_cut 44 (decimal id) digits t u (lacks_decimal id h) lack
    (ap (λ (x : List ℕ). decimal id ++ x) (sym (comma_tail t)) ∙ e ∙ ap (λ (x : List ℕ). digits ++ x) (comma_tail u))

-- ---- kinds

pub no_quote : (t : Option (List ℕ)) → starts_quote (tail_text t) ≡ false
no_quote None = refl
no_quote (Some rest) = refl

tails_same : (t u : Option (List ℕ)) → tail_text t ≡ tail_text u → t ≡ u
tails_same None None e = refl
tails_same None (Some u) e = cc
tails_same (Some t) None e = cc
tails_same (Some t) (Some u) e = cc

bodies_same : (k l : Kind) (t u : Option (List ℕ)) → HasId k → HasId l → word_of k ≡ word_of l → body k ++ tail_text t ≡ body l ++ tail_text u
    → (unnamed k ≡ unnamed l) × (t ≡ u)
bodies_same (kind.CreatedSchema a) (kind.CreatedSchema b) t u hk hl w e =
    let same = quoted_unique a b (tail_text t) (tail_text u) (no_quote t) (no_quote u) e in
    (ap kind.CreatedSchema same.0, tails_same t u same.1)
bodies_same (kind.CreatedTable a c) (kind.CreatedTable b d) t u hk hl w e =
    let outer = quoted_unique a b (46 ∷ (quoted c ++ tail_text t)) (46 ∷ (quoted d ++ tail_text u)) refl refl
    (sym (append_assoc (quoted a) (46 ∷ quoted c) (tail_text t)) ∙ e ∙ append_assoc (quoted b) (46 ∷ quoted d) (tail_text u)) in
    let behind : 46 ∷ (quoted c ++ tail_text t) ≡ 46 ∷ (quoted d ++ tail_text u) = outer.1 in
    let inner = quoted_unique c d (tail_text t) (tail_text u) (no_quote t) (no_quote u) (cc) in
    let schemas : a ≡ b = outer.0 in
    let names : c ≡ d = inner.0 in
    ((cc), tails_same t u inner.1)
bodies_same (kind.InsertedInto a) (kind.InsertedInto b) t u hk hl w e =
    let same = id_unique a b t u hk hl e in (ap kind.InsertedInto same.0, same.1)
bodies_same (kind.DeletedFrom a) (kind.DeletedFrom b) t u hk hl w e =
    let same = id_unique a b t u hk hl e in (ap kind.DeletedFrom same.0, same.1)
bodies_same (kind.Compacted a) (kind.Compacted b) t u hk hl w e =
    let same = id_unique a b t u hk hl e in (ap kind.Compacted same.0, same.1)
bodies_same (kind.DroppedSchema a c) (kind.DroppedSchema b d) t u hk hl w e =
    let same = id_unique a b t u hk hl e in (ap (λ (x : ℕ). kind.DroppedSchema x []) same.0, same.1)
bodies_same (kind.DroppedTable a) (kind.DroppedTable b) t u hk hl w e =
    let same = id_unique a b t u hk hl e in (ap kind.DroppedTable same.0, same.1)
bodies_same (kind.Altered a) (kind.Altered b) t u hk hl w e =
    let same = id_unique a b t u hk hl e in (ap kind.Altered same.0, same.1)
bodies_same k l t u hk hl w e = absurd (omega (arith, ap sum w))

pub kind_cut : (k l : Kind) (t u : Option (List ℕ)) → HasId k → HasId l → kind_text k ++ tail_text t ≡ kind_text l ++ tail_text u
    → (unnamed k ≡ unnamed l) × (t ≡ u)
kind_cut k l t u hk hl e =
    let cut = in_word (word_of l) (body l ++ tail_text u) k (tail_text t) (lacks_word l) (e ∙ in_parts l (tail_text u)) in
    bodies_same k l t u hk hl cut.0 cut.1
