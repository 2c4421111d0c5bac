-- Grammars that one token of lookahead decides, and what their reader answers.
use Rattle.std.proofs.Common.{◌≡◌, Bool, true, false, not, ◌&&◌, ◌||◌, List, length, ◌⊎◌, refl, sym, subst, arith, Some}
use Rattle.stmt_tokens.specs.declared.token.Kind.{Kind}
use Rattle.stmt_tokens.specs.declared.token.Token.{Token}
use Rattle.stmt_grammar.specs.Grammar.{Grammar, token, sign, both, either, maybe, many, made, Spells, empty, first, read}
use Rattle.stmt_grammar.specs.Written.{IsWritten}
use Rattle.stmt_grammar.proofs.Known.{Known, Apart, Outcome, known_token, outcome_token, known_both, outcome_both, known_made, outcome_made}
use Rattle.stmt_grammar.proofs.Choices.{known_sign, outcome_sign, known_either, outcome_either, known_maybe, outcome_maybe}
use Rattle.stmt_grammar.proofs.Repeats.{known_many, outcome_many}

-- the kinds of the tokens with which a whole phrase can go on
abbrev pub after : {A : Type 0} → Grammar A → Kind → Bool
after (token kinds value) k = false
after (sign kinds) k = false
after (both g h) k = after h k || (empty h && after g k)
after (either g h) k = after g k || after h k
after (maybe g) k = first g k || after g k
after (many g) k = first g k || after g k
after (made f g) k = after g k

-- each token of its first kinds begins a phrase, whatever the token's text is
abbrev pub sure : {A : Type 0} → Grammar A → Bool
sure (token kinds value) = false
sure (sign kinds) = true
sure (both g h) = sure g && not (empty g)
sure (either g h) = sure g && sure h
sure (maybe g) = false
sure (many g) = false
sure (made f g) = sure g

-- the kind of the next token decides each choice, and something is spelled
abbrev pub Sound : {A : Type 0} → Grammar A → Type 0
Sound (token {A} kinds value) = (t : Token) × IsWritten t × (x : A) × (kinds t.kind ≡ true) × (value t ≡ Some x)
Sound (sign kinds) = (t : Token) × IsWritten t × (kinds t.kind ≡ true)
Sound (both g h) = Sound g × Sound h × Apart (after g) (first h)
Sound (either g h) = Sound g × Sound h × Apart (first g) (first h) × (empty g ≡ false) × (empty h ≡ false)
Sound (maybe g) = Sound g × (empty g ≡ false) × (sure g ≡ true)
Sound (many g) = Sound g × (empty g ≡ false) × (sure g ≡ true) × Apart (after g) (first g)
Sound (made f g) = Sound g

module _ {A : Type 0} (P : List Token → A → Type 0) (p q : Kind → Bool) where
  at_tests : (e e' s s' : Bool) → e ≡ e' → s ≡ s' → Known P e s p q → Known P e' s' p q
  at_tests e e' s s' g h k = subst (λ (i : Bool). Known P i s' p q) g (subst (λ (i : Bool). Known P e i p q) h k)

or_false : (a b : Bool) → a ≡ false → b ≡ false → false ≡ (a || b)
or_false false b h k = sym k
or_false true b h k = cc

pub known : {A : Type 0} (g : Grammar A) → Sound g → Known (Spells g) (empty g) (sure g) (first g) (after g)
known (token kinds value) s = known_token kinds value s.0 s.1 s.2 s.3 s.4
known (sign kinds) s = known_sign kinds s.0 s.1 s.2
known (both g h) s = known_both (Spells g) (Spells h) (empty g) (empty h) (sure g) (sure h) (first g) (after g) (first h) (after h) (known g s.0) (known h s.1) s.2
known (either g h) s =
    at_tests (λ ts x. Spells g ts x ⊎ Spells h ts x) (λ k. first g k || first h k) (λ k. after g k || after h k) false (empty g || empty h) (sure g && sure h) (sure g && sure h) (or_false (empty g) (empty h) s.3 s.4) refl
    (known_either (Spells g) (Spells h) (sure g) (sure h) (first g) (after g) (first h) (after h)
    (at_tests (Spells g) (first g) (after g) (empty g) false (sure g) (sure g) s.3 refl (known g s.0))
    (at_tests (Spells h) (first h) (after h) (empty h) false (sure h) (sure h) s.4 refl (known h s.1)) s.2)
known (maybe g) s = known_maybe (Spells g) (first g) (after g) (at_tests (Spells g) (first g) (after g) (empty g) false (sure g) true s.1 s.2 (known g s.0))
known (many g) s = known_many (Spells g) (first g) (after g) (at_tests (Spells g) (first g) (after g) (empty g) false (sure g) true s.1 s.2 (known g s.0)) s.3
known (made f g) s = known_made f (Spells g) (empty g) (sure g) (first g) (after g) (known g s)

pub reads : {A : Type 0} (g : Grammar A) → Sound g → (ts : List Token) → Outcome (Spells g) ts (read g ts)
reads (token kinds value) s ts = outcome_token kinds value ts s
reads (sign kinds) s ts = outcome_sign kinds ts s
reads (both g h) s ts = outcome_both (Spells g) (Spells h) (empty g) (empty h) (sure g) (sure h) (first g) (after g) (first h) (after h) (known g s.0) (known h s.1) s.2 ts (read g ts) (read h) (reads g s.0 ts) (λ x rest e. reads h s.1 rest)
reads (either g h) s ts =
    outcome_either (Spells g) (Spells h) (sure g) (sure h) (first g) (after g) (first h) (after h)
    (at_tests (Spells g) (first g) (after g) (empty g) false (sure g) (sure g) s.3 refl (known g s.0))
    (at_tests (Spells h) (first h) (after h) (empty h) false (sure h) (sure h) s.4 refl (known h s.1)) s.2
    ts (read g ts) (read h ts) (reads g s.0 ts) (reads h s.1 ts)
reads (maybe g) s ts = outcome_maybe (Spells g) (first g) (after g) (at_tests (Spells g) (first g) (after g) (empty g) false (sure g) true s.1 s.2 (known g s.0)) ts (read g ts) (reads g s.0 ts)
reads (many g) s ts = outcome_many (Spells g) (first g) (after g) (at_tests (Spells g) (first g) (after g) (empty g) false (sure g) true s.1 s.2 (known g s.0)) s.3 (read g) (reads g s.0) (length ts) ts (omega arith)
reads (made f g) s ts = outcome_made f (Spells g) ts (read g ts) (reads g s ts)
