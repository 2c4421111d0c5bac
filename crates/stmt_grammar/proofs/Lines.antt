-- What the reader answers for a whole line.
use Rattle.std.proofs.Common.{◌≡◌, ◌+◌, ◌-◌, ◌<◌, arith, suc, List, [], ◌∷◌, ◌++◌, length, take, refl, ap, sym, ◌∙◌, subst, append_assoc, append-nil, length-append}
use Rattle.std.specs.Prelude.{Ok, Err}
use Rattle.std.proofs.Math.Seq.{take-append_seam, take-append-add}
use Rattle.stmt_tokens.specs.declared.token.Token.{Token}
use Rattle.stmt_grammar.specs.Grammar.{Grammar, Spells, Read, read}
use Rattle.stmt_grammar.specs.Places.{IsWrongAt, IsOutcome, ended, at_end}
use Rattle.stmt_grammar.specs.Written.{AllWritten}
use Rattle.stmt_grammar.proofs.Known.{Ends, Whole, Outcome}
use Rattle.stmt_grammar.proofs.Sound.{Sound, known, reads}

take_front : (a b : List Token) → take (length (a ++ b) - length b) (a ++ b) ≡ a
take_front a b =
    let e : length (a ++ b) - length b ≡ length a = omega (arith, length-append a b) in
    rw e (take-append_seam a b)

take_one_more : (a : List Token) (t : Token) (b : List Token) → take (length (a ++ t ∷ b) - length (t ∷ b) + 1) (a ++ t ∷ b) ≡ a ++ t ∷ []
take_one_more a t b =
    let e : length (a ++ t ∷ b) - length (t ∷ b) ≡ length a = omega (arith, length-append a (t ∷ b)) in
    rw e (take-append-add a (t ∷ b) 1)

module _ {A : Type 0} (g : Grammar A) where
  -- a front that begins a line and is none, and that ends
  wrong_at : (a rest more : List Token) → AllWritten more → (v : A) → Spells g (a ++ more) v → (rest ≡ [] → (x : A) → Spells g a x → ⊥) → Ends (Spells g) a rest → IsWrongAt g (a ++ rest) (length (a ++ rest) - length rest)
  wrong_at a rest more written v h none ends = record {
    within = omega arith;
    before = (more, written, v, subst (λ (i : List Token). Spells g (i ++ more) v) (sym (take_front a rest)) h);
    wrong = λ l m x k. wrong rest ends l m x k;
    short = λ e x k. short rest none e x k;
  }
    where
      wrong : (rest : List Token) → Ends (Spells g) a rest → length (a ++ rest) - length rest < length (a ++ rest) → (m : List Token) (x : A) → Spells g (take (length (a ++ rest) - length rest + 1) (a ++ rest) ++ m) x → ⊥
      wrong [] ends l m x k = absurd (omega arith)
      wrong (t ∷ rest) ends l m x k =
          ends t rest m x refl (subst (λ (i : List Token). Spells g i x) (ap (λ (i : List Token). i ++ m) (take_one_more a t rest) ∙ append_assoc a (t ∷ []) m) k)

      short : (rest : List Token) → (rest ≡ [] → (x : A) → Spells g a x → ⊥) → length (a ++ rest) - length rest ≡ length (a ++ rest) → (x : A) → Spells g (a ++ rest) x → ⊥
      short [] none e x k = none refl x (subst (λ (i : List Token). Spells g i x) (append-nil a) k)
      short (t ∷ rest) none e x k = let i : length (a ++ t ∷ rest) ≡ length a + suc (length rest) = length-append a (t ∷ rest) in absurd (omega arith)

  line_whole : (ts : List Token) (x : A) (rest : List Token) → Whole (Spells g) ts x rest → IsOutcome g ts (at_end ts x rest)
  line_whole ts x [] k = subst (λ (i : List Token). Spells g i x) (sym (k.cut ∙ append-nil k.front)) k.spells
  line_whole ts x (t ∷ rest) k =
      subst (λ (i : List Token). IsWrongAt g i (length i - length (t ∷ rest))) (sym k.cut)
      (wrong_at k.front (t ∷ rest) [] tt x (subst (λ (i : List Token). Spells g i x) (sym (append-nil k.front)) k.spells) (λ e. cc) k.ends)

  line_outcome : (ts : List Token) (r : Read A) → Outcome (Spells g) ts r → IsOutcome g ts (ended ts r)
  line_outcome ts (Ok o) k = line_whole ts o.0 o.1 k
  line_outcome ts (Err rest) k =
      subst (λ (i : List Token). IsWrongAt g i (length i - length rest)) (sym k.cut)
      (wrong_at k.front rest k.more k.written k.value k.begins (λ e. k.none) k.ends)

  -- the reader gives the value that is spelled, or the place of the fault
  pub exact : Sound g → (ts : List Token) → IsOutcome g ts (ended ts (read g ts))
  exact s ts = line_outcome ts (read g ts) (reads g s ts)

  -- tokens have one value
  pub one_value : Sound g → (ts : List Token) (x y : A) → Spells g ts x → Spells g ts y → x ≡ y
  one_value s ts x y h k = (known g s).one ts x y h k
