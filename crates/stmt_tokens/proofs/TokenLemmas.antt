-- One token.
use Rattle.std.proofs.Common.{◌≡◌, ℕ, ◌-◌, List, [], ◌∷◌, ◌++◌, length, drop, refl, ap, sym, ◌∙◌, append_assoc, Bool, true, false, suc, Some, None, append-nil, zero}
use Rattle.std.specs.Str.{IsUtf8, is_utf8}
use Rattle.std.proofs.lemmas.Str.{is_utf8-from_IsUtf8, IsUtf8-from_is_utf8}
use Rattle.stmt_tokens.specs.Tokens.{cut_in, token_at, is_blank, ◌then◌, tokens_in, places_in, made}
use Rattle.stmt_tokens.specs.declared.token.Kind.{Kind}
use Rattle.stmt_tokens.specs.declared.token.Token.{Token}
use Rattle.stmt_tokens.specs.declared.cut.Cut.{Cut}

pub made_text : (a : Kind) (text : List ℕ) → IsUtf8 text → made a text ≡ Some (record { kind = a; text = text })
made_text a text h = rw (is_utf8-from_IsUtf8 text h) refl

not_text : (text : List ℕ) (b : Bool) → is_utf8 text ≡ b → (IsUtf8 text → ⊥) → is_utf8 text ≡ false
not_text text true e h = absurd (h (IsUtf8-from_is_utf8 text e))
not_text text false e h = e

pub made_none : (a : Kind) (text : List ℕ) → (IsUtf8 text → ⊥) → made a text ≡ None
made_none a text h = rw (not_text text (is_utf8 text) refl h) refl

pub ruleset text_tests = (made_text, made_none)

cut_with : List Token → List ℕ → Cut
cut_with a c = record { tokens = a; places = c }

cut_eq : (a b : List Token) (c d : List ℕ) → a ≡ b → c ≡ d → ◌≡◌ {A = Cut} (record { tokens = a; places = c }) (record { tokens = b; places = d })
unfolding cut_with
cut_eq a b c d h k = ap (λ x. cut_with x c) h ∙ ap (λ y. cut_with b y) k

pub step-blank : (len : ℕ) (old : Cut) (b : ℕ) (rest : List ℕ) (most : ℕ) → is_blank b ≡ true → (old then cut_in len (suc most) (b ∷ rest)) ≡ (old then cut_in len most rest)
step-blank len old b rest most h = rw h refl

pub step-token : (len : ℕ) (old : Cut) (b : ℕ) (rest : List ℕ) (most : ℕ) → is_blank b ≡ false →
    (old then cut_in len (suc most) (b ∷ rest)) ≡ (record { tokens = old.tokens ++ (token_at b rest).0 ∷ []; places = old.places ++ (len - length (b ∷ rest)) ∷ [] } then cut_in len most (drop (token_at b rest).1 rest))
step-token len old b rest most h = rw h (cut_eq _ _ _ _ (sym (append_assoc old.tokens ((token_at b rest).0 ∷ []) (tokens_in most (drop (token_at b rest).1 rest)))) (sym (append_assoc old.places ((len - length (b ∷ rest)) ∷ []) (places_in len most (drop (token_at b rest).1 rest)))))

pub ruleset steps = (step-blank, step-token)

-- nothing is to come of no bytes
pub step-end : (len most : ℕ) (old : Cut) → (old then cut_in len most []) ≡ old
step-end len zero old = cut_eq _ _ _ _ (append-nil old.tokens) (append-nil old.places)
step-end len (suc most) old = cut_eq _ _ _ _ (append-nil old.tokens) (append-nil old.places)

pub ruleset ends = (step-end)
