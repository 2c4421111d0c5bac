-- What is said has no fault, and there is one fault at most.
use Rattle.std.proofs.Common.{◌≡◌, ℕ, ◌+◌, ◌≤◌, ◌<◌, List, ◌++◌, length, take, drop, inl, inr, ap, sym, ◌∙◌, subst, arith, append_assoc, take-take}
use Rattle.std.proofs.lemmas.Bool.{cases_lt}
use Rattle.std.proofs.lemmas.List.{take-append-drop}
use Rattle.stmt_tokens.specs.Tokens.{tokens_of}
use Rattle.stmt_tokens.specs.declared.token.Token.{Token}
use Rattle.stmt_grammar.specs.Grammar.{Grammar, Spells}
use Rattle.stmt_grammar.specs.Places.{Begins, IsWrongAt}
use Rattle.stmt_grammar.proofs.Lines.{one_value}
use Rattle.stmt_reader.proofs.LineAnswer.{sound_line}
use Rattle.stmt_reader.specs.Laws.{SaysOneThing, SaysOrFails, HasOnePlace}
use Rattle.stmt_reader.specs.Lines.{place}
use Rattle.stmt_reader.specs.Rules as rules

module _ {A : Type 0} (g : Grammar A) (ts : List Token) where
  no_fault : (x : A) (n : ℕ) → Spells g ts x → IsWrongAt g ts n → ⊥
  no_fault x n h k =
      let nowhere : n < length ts → ⊥ = λ l. k.wrong l (drop (n + 1) ts) x (subst (λ (i : List Token). Spells g i x) (sym (take-append-drop (n + 1) ts)) h) in
      let not_short : n ≡ length ts → ⊥ = λ e. k.short e x h in
      let i = k.within in
      absurd (omega (arith, nowhere, not_short, i))

  -- tokens that begin something have no fault before their end
  not_before : (n m : ℕ) → n < m → m ≤ length ts → IsWrongAt g ts n → Begins g (take m ts) → ⊥
  not_before n m l e k b =
      let one : take (n + 1) (take m ts) ++ drop (n + 1) (take m ts) ≡ take m ts = take-append-drop (n + 1) (take m ts) in
      let front : take (n + 1) (take m ts) ≡ take (n + 1) ts = take-take (n + 1) m ts (omega arith) in
      let all : take (n + 1) ts ++ (drop (n + 1) (take m ts) ++ b.0) ≡ take m ts ++ b.0 =
      sym (append_assoc (take (n + 1) ts) (drop (n + 1) (take m ts)) b.0)
      ∙ ap (λ (i : List Token). (i ++ drop (n + 1) (take m ts)) ++ b.0) (sym front)
      ∙ ap (λ (i : List Token). i ++ b.0) one in
      k.wrong (omega arith) (drop (n + 1) (take m ts) ++ b.0) b.2 (subst (λ (i : List Token). Spells g i b.2) (sym all) b.3)

  one_place : (n m : ℕ) → IsWrongAt g ts n → IsWrongAt g ts m → n ≡ m
  one_place n m h k =
      elim (cases_lt n m) [
        | inl below ↦ absurd (not_before n m below k.within h k.before)
        | inr above ↦ elim (cases_lt m n) [
          | inl below ↦ absurd (not_before m n below h.within k h.before)
          | inr same ↦ omega arith
        ]
      ]

pub one_thing : SaysOneThing
one_thing line a b h k = one_value rules.line sound_line (tokens_of line) a b h k

pub says_or_fails : SaysOrFails
says_or_fails line said at h k = no_fault rules.line (tokens_of line) said k.0 h k.1

pub has_one_place : HasOnePlace
has_one_place line a b h k = h.2 ∙ ap (place line) (one_place rules.line (tokens_of line) h.0 k.0 h.1 k.1) ∙ sym k.2
