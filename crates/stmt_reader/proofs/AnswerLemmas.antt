-- Each line has one answer, and its session.
use Rattle.std.proofs.Common.{◌≡◌, ◌≢◌, ℕ, ◌≤◌, Bool, true, false, cond, List, ◌∷◌, ◌++◌, length, refl, ap, sym, ◌∙◌, arith, Some}
use Rattle.std.specs.Prelude.{Result, Ok, Err, nat_lt}
use Rattle.std.proofs.lemmas.Bool.{ltb-true, ltb-false}
use Rattle.lake_types.specs.declared.stmt.Stmt.{Stmt}
use Rattle.stmt_tokens.specs.Tokens.{tokens_of, first_of, number_in, number_text}
use Rattle.stmt_tokens.specs.declared.token.Kind.{Kind}
use Rattle.stmt_tokens.specs.declared.token.Kind.TheVariants as k
use Rattle.stmt_tokens.specs.declared.token.Token.{Token}
use Rattle.stmt_grammar.specs.Grammar.{Spells, read}
use Rattle.stmt_grammar.specs.Phrases.{is}
use Rattle.stmt_grammar.specs.Places.{ended, IsOutcome}
use Rattle.stmt_grammar.proofs.Lines.{exact}
use Rattle.stmt_reader.proofs.LineAnswer.{sound_line}
use Rattle.stmt_reader.proofs.PlaceLemmas.{has_one_place, one_thing, says_or_fails}
use Rattle.stmt_reader.specs.declared.line.LineNo.{LineNo}
use Rattle.stmt_reader.specs.declared.line.LineNo.TheVariants.{TooLong, Syntax, Memory}
use Rattle.stmt_reader.specs.Laws.{HasAnAnswer, HasOneAnswer, SaysItsSession}
use Rattle.lake_types.specs.declared.limits.TheConstants.{MAX_LINE_BYTES}
use Rattle.stmt_reader.specs.Lines.{IsAnswer, LineAnswers, answer_in, answer_of, or_zero, session_at, session_named}
use Rattle.stmt_reader.specs.Rules as rules
use Rattle.stmt_reader.specs.Values.{session_of}

-- ---- the answer

in_line : (line : List ℕ) (found : Result (ℕ × Stmt) ℕ) → length line ≤ MAX_LINE_BYTES → IsOutcome rules.line (tokens_of line) found
    → LineAnswers line (answer_in line found) × (answer_in line found ≢ Err Memory)
in_line line (Ok said) l h = ((l, h), λ e. cc)
in_line line (Err n) l h = ((l, refl, (n, h, refl)), λ e. cc)

pub has_an_answer : HasAnAnswer
unfolding answer_of
has_an_answer line = by_length (nat_lt MAX_LINE_BYTES (length line)) refl
  where
    by_length : (t : Bool) → nat_lt MAX_LINE_BYTES (length line) ≡ t
        → LineAnswers line (cond t (Err (TooLong (session_at line))) (answer_in line (ended (tokens_of line) (read rules.line (tokens_of line)))))
        × (cond t (Err (TooLong (session_at line))) (answer_in line (ended (tokens_of line) (read rules.line (tokens_of line)))) ≢ Err Memory)
    by_length true e = ((ltb-true MAX_LINE_BYTES (length line) e, refl), λ i. cc)
    by_length false e = in_line line (ended (tokens_of line) (read rules.line (tokens_of line))) (ltb-false MAX_LINE_BYTES (length line) e) (exact rules.line sound_line (tokens_of line))

same_answer : (line : List ℕ) (a b : Result (ℕ × Stmt) LineNo) → LineAnswers line a → LineAnswers line b → a ≢ Err Memory → b ≢ Err Memory → a ≡ b
same_answer line (Err Memory) b h k f g = absurd (f refl)
same_answer line (Ok x) (Err Memory) h k f g = absurd (g refl)
same_answer line (Err (TooLong s)) (Err Memory) h k f g = absurd (g refl)
same_answer line (Err (Syntax s at)) (Err Memory) h k f g = absurd (g refl)
same_answer line (Ok x) (Ok y) h k f g = ap Ok (one_thing line x y h.1 k.1)
same_answer line (Ok x) (Err (TooLong s)) h k f g = let p = h.0 in let q = k.0 in absurd (omega (arith, p, q))
same_answer line (Ok x) (Err (Syntax s at)) h k f g = absurd (says_or_fails line x at h.1 k.2)
same_answer line (Err (TooLong s)) (Ok y) h k f g = let p = h.0 in let q = k.0 in absurd (omega (arith, p, q))
same_answer line (Err (TooLong s)) (Err (TooLong t)) h k f g = ap (λ i. Err (TooLong i)) (h.1 ∙ sym k.1)
same_answer line (Err (TooLong s)) (Err (Syntax t at)) h k f g = let p = h.0 in let q = k.0 in absurd (omega (arith, p, q))
same_answer line (Err (Syntax s at)) (Ok y) h k f g = absurd (says_or_fails line y at k.1 h.2)
same_answer line (Err (Syntax s at)) (Err (TooLong t)) h k f g = let p = h.0 in let q = k.0 in absurd (omega (arith, p, q))
same_answer line (Err (Syntax s at)) (Err (Syntax t to)) h k f g =
    ap (λ i. Err (Syntax i at)) (h.1 ∙ sym k.1) ∙ ap (λ i. Err (Syntax t i)) (has_one_place line at to h.2 k.2)

pub has_one_answer : HasOneAnswer
has_one_answer line answer h f = let o = has_an_answer line in same_answer line answer (answer_of line) h o.0 f o.1

pub is_answer : (line : List ℕ) (answer : Result (ℕ × Stmt) LineNo) → LineAnswers line answer → IsAnswer line answer
is_answer line (Err Memory) h = tt
is_answer line (Ok x) h = has_one_answer line (Ok x) h (λ e. cc)
is_answer line (Err (TooLong s)) h = has_one_answer line (Err (TooLong s)) h (λ e. cc)
is_answer line (Err (Syntax s at)) h = has_one_answer line (Err (Syntax s at)) h (λ e. cc)

pub ruleset answers = (is_answer)

-- ---- the session

number_of : (t : Token) (s : ℕ) → is k.Number t.kind ≡ true → session_of t.text ≡ Some s → s ≡ session_named (number_in (Some t))
unfolding is
number_of t s h e = by_kind t.kind h
  where
    by_kind : (a : Kind) → is k.Number a ≡ true → s ≡ session_named (number_text a t.text)
    by_kind k.Number h = sym (ap or_zero e)
    by_kind (k.Keyword a) h = cc
    by_kind (k.Sign a) h = cc
    by_kind k.Word h = cc
    by_kind k.Quoted h = cc
    by_kind k.Text h = cc
    by_kind k.Bytes h = cc
    by_kind k.Bad h = cc

session_first : (ts : List Token) (said : ℕ × Stmt) → Spells rules.line ts said → said.0 ≡ session_named (number_in (first_of ts))
unfolding rules.line
session_first ts said h =
    let z = h.0 in
    let both = h.1 in
    let token = both.3 in
    let cut : ts ≡ token.0 ∷ both.1 = both.2 ∙ ap (λ i. i ++ both.1) token.1 in
    ap (λ (i : ℕ × Stmt). i.0) h.2 ∙ number_of token.0 z.0 token.2 token.3 ∙ ap (λ i. session_named (number_in (first_of i))) (sym cut)

pub says_its_session : SaysItsSession
says_its_session line said h = session_first (tokens_of line) said h
