-- The line's answer.
use Rattle.std.proofs.Common.{◌≡◌, ◌≤◌, ℕ, false, refl, subst, List, ◌&&◌, length}
use Rattle.std.specs.Prelude.{Result, Ok, Err, codes}
use Rattle.std.proofs.lemmas.Bool.{and_left, and_right}
use Rattle.lake_types.specs.declared.stmt.Stmt.{Stmt}
use Rattle.stmt_tokens.proofs.AsciiLemmas.{ascii_text}
use Rattle.stmt_tokens.specs.Tokens.{tokens_of, places_of}
use Rattle.stmt_tokens.specs.declared.token.Kind.{Kind}
use Rattle.stmt_tokens.specs.declared.token.Kind.TheVariants as k
use Rattle.stmt_tokens.specs.declared.token.Sign.TheVariants as signs
use Rattle.stmt_tokens.specs.declared.token.Token.{Token}
use Rattle.stmt_grammar.specs.Grammar.{read}
use Rattle.stmt_grammar.specs.Phrases.{is}
use Rattle.stmt_grammar.specs.Places.{ended, IsOutcome}
use Rattle.stmt_grammar.proofs.Lines.{exact}
use Rattle.stmt_grammar.proofs.Samples.{sound_mark}
use Rattle.stmt_grammar.proofs.Sound.{Sound, after}
use Rattle.stmt_reader.specs.declared.line.Fault.{Fault}
use Rattle.stmt_reader.specs.declared.line.Fault.TheVariants.{WrongAt, NoMemory}
use Rattle.lake_types.specs.declared.limits.TheConstants.{MAX_LINE_BYTES}
use Rattle.stmt_reader.specs.Lines.{Gives, TokensAnswer, LineAnswers, located}
use Rattle.stmt_reader.specs.Rules.{line, session, stmt, transaction, begin, begin_at, definition, create, remove, alter, change, rename, set_column, setting, columns, column, nulls, default_value, rows, insert, delete, update, select, assignment, row, cell, literal, table, name, column_type, shown, item, upkeep, where_}
use Rattle.stmt_reader.proofs.RulesSound.{sound_stmt, after_condition, empty_condition}

after_semicolon : after stmt (k.Sign signs.Semicolon) ≡ false
unfolding stmt transaction begin begin_at definition create remove alter change rename set_column setting columns column nulls default_value rows insert delete update select assignment row cell literal table name column_type shown item upkeep where_ is
after_semicolon = rw (after_condition (k.Sign signs.Semicolon)) (rw empty_condition refl)

after_stmt : (a : Kind) → (after stmt a && is (k.Sign signs.Semicolon) a) ≡ false
unfolding is
after_stmt = elim [ k.Sign signs.Semicolon ↦ and_left (after stmt (k.Sign signs.Semicolon)) (is (k.Sign signs.Semicolon) (k.Sign signs.Semicolon)) after_semicolon | b ↦ and_right (after stmt b) (is (k.Sign signs.Semicolon) b) refl ]

sound_session : Sound session
unfolding is
sound_session = (record { kind = k.Number; text = codes "1" }, (codes "1", rw (ascii_text (codes "1") refl) refl), 1, refl, refl)

pub sound_line : Sound line
unfolding line is
sound_line = (sound_session, (sound_stmt, (sound_mark signs.Semicolon, refl, refl), after_stmt), λ a. refl)

answer_of : (ts : List Token) (found : Result (ℕ × Stmt) ℕ) (r : Result (ℕ × Stmt) Fault) → IsOutcome line ts found → Gives found r → TokensAnswer ts r
answer_of ts found (Ok x) k h = subst (λ i. IsOutcome line ts i) h k
answer_of ts found (Err (WrongAt n)) k h = subst (λ i. IsOutcome line ts i) h k
answer_of ts found (Err NoMemory) k h = tt

pub answered : (ts : List Token) (r : Result (ℕ × Stmt) Fault) → Gives (ended ts (read line ts)) r → TokensAnswer ts r
answered ts r h = answer_of ts (ended ts (read line ts)) r (exact line sound_line ts) h

pub located_fault : (bytes : List ℕ) (fault : Fault) → length bytes ≤ MAX_LINE_BYTES → TokensAnswer (tokens_of bytes) (Err fault) →
    LineAnswers bytes (Err (located bytes (places_of bytes) fault))
located_fault bytes (WrongAt n) l h = (l, refl, (n, h, refl))
located_fault bytes NoMemory l h = tt
