-- A token that is spelled before a blank is cut off again.
use Rattle.std.proofs.Common.{◌≡◌, ℕ, suc, zero, ◌+◌, ◌-◌, ◌≤◌, ◌==◌, ◌%◌, Bool, true, false, cond, ◌&&◌, ◌||◌, List, [], ◌∷◌, ◌++◌, length, take, drop, take_while, Some, refl, ap, sym, ◌∙◌, arith, append_assoc, length-append, length-drop}
use Rattle.std.specs.Prelude.{nat_le, if◌then◌else◌}
use Rattle.std.specs.List.{list_all, prefix_len}
use Rattle.std.specs.Str.{is_utf8}
use Rattle.std.proofs.lemmas.Bool.{eqb-true, eq-eqb}
use Rattle.std.proofs.Math.Seq.{take-append_seam}
use Rattle.stmt_tokens.specs.declared.token.Kind.TheVariants as k
use Rattle.stmt_tokens.specs.declared.token.Token.{Token}
use Rattle.stmt_tokens.specs.Tokens.{closing, undouble, is_blank, is_digit, is_hex, is_letter, is_bytes, token_at, tokens_in, tokens_of}
use Rattle.lake_types.specs.Texts.{all_doubled}
use Rattle.stmt_tokens.specs.Spelled.{spelling, spelled, IsCut, IsCutAt, AllCut}

-- ---- quotes

unfoldable pub double : ℕ → List ℕ → List ℕ
double quote [] = []
double quote (b ∷ z) = if b == quote then b ∷ b ∷ double quote z else b ∷ double quote z

double_one : (quote b : ℕ) (y z : List ℕ) (t : Bool) → b == quote ≡ t → y ≡ z → cond t (quote ∷ quote ∷ []) (b ∷ []) ++ y ≡ cond t (b ∷ b ∷ z) (b ∷ z)
double_one quote b y z true e h = let i : b ≡ quote = eqb-true b quote e in ap (λ x. quote ∷ quote ∷ x) h ∙ ap (λ x. x ∷ x ∷ z) (sym i)
double_one quote b y z false e h = ap (λ x. b ∷ x) h

pub double_is : (quote : ℕ) (z : List ℕ) → all_doubled quote z ≡ double quote z
unfolding double
double_is quote [] = refl
double_is quote (b ∷ z) = double_one quote b (all_doubled quote z) (double quote z) (b == quote) refl (double_is quote z)

undouble_one : (quote b : ℕ) (z : List ℕ) (t : Bool) → b == quote ≡ t → undouble quote false (double quote z) ≡ z → undouble quote false (cond t (b ∷ b ∷ double quote z) (b ∷ double quote z)) ≡ b ∷ z
undouble_one quote b z true e h = rw e (ap (λ x. b ∷ x) h)
undouble_one quote b z false e h = rw e (ap (λ x. b ∷ x) h)

pub undouble_double : (quote : ℕ) (z : List ℕ) → undouble quote false (double quote z) ≡ z
unfolding double
undouble_double quote [] = refl
undouble_double quote (b ∷ z) = undouble_one quote b z (b == quote) refl (undouble_double quote z)

closing_pair : (quote b n : ℕ) (rest : List ℕ) (t : Bool) → t ≡ true → b == quote ≡ true → closing quote t n (b ∷ rest) ≡ closing quote false (n + 1) rest
closing_pair quote b n rest true e h = ap (λ s. cond s (closing quote false (n + 1) rest) (Some n)) h
closing_pair quote b n rest false e h = cc

closing_one : (quote b c n : ℕ) (z rest : List ℕ) (t : Bool) → b == quote ≡ t → ((m : ℕ) → closing quote false m (double quote z ++ quote ∷ c ∷ rest) ≡ Some (m + length (double quote z) + 1)) →
    closing quote false n (cond t (b ∷ b ∷ double quote z) (b ∷ double quote z) ++ quote ∷ c ∷ rest) ≡ Some (n + length (cond t (b ∷ b ∷ double quote z) (b ∷ double quote z)) + 1)
closing_one quote b c n z rest true e h =
    let f : b == quote ≡ true = e in
    let u : closing quote (b == quote) (n + 1) (b ∷ (double quote z ++ quote ∷ c ∷ rest)) ≡ closing quote false (n + 1 + 1) (double quote z ++ quote ∷ c ∷ rest) = closing_pair quote b (n + 1) (double quote z ++ quote ∷ c ∷ rest) (b == quote) e e in
    u ∙ h (n + 1 + 1) ∙ ap Some (omega arith)
closing_one quote b c n z rest false e h = ap (λ s. closing quote s (n + 1) (double quote z ++ quote ∷ c ∷ rest)) e ∙ h (n + 1) ∙ ap Some (omega arith)

closing_end : (quote c n : ℕ) (rest : List ℕ) → c == quote ≡ false → closing quote false n (quote ∷ c ∷ rest) ≡ Some (n + 1)
closing_end quote c n rest h = ap (λ s. closing quote s (n + 1) (c ∷ rest)) (eq-eqb quote quote refl) ∙ ap (λ s. cond s (closing quote false (n + 1 + 1) rest) (Some (n + 1))) h

closing_double : (quote c : ℕ) (rest : List ℕ) → c == quote ≡ false → (z : List ℕ) (n : ℕ) → closing quote false n (double quote z ++ quote ∷ c ∷ rest) ≡ Some (n + length (double quote z) + 1)
unfolding double
closing_double quote c rest h [] n = closing_end quote c n rest h ∙ ap Some (omega arith)
closing_double quote c rest h (b ∷ z) n = closing_one quote b c n z rest (b == quote) refl (closing_double quote c rest h z)

pub take_all : {A : Type 0} (a b : List A) → take (length a) (a ++ b) ≡ a
take_all a b = take-append_seam a b

drop_all : {A : Type 0} (a b : List A) → drop (length a) (a ++ b) ≡ b
drop_all [] b = refl
drop_all (x ∷ a) b = drop_all a b

-- what stands between quotes, before a blank
module _ (quote : ℕ) (z more : List ℕ) (other : 32 == quote ≡ false) where
  behind : List ℕ
  behind = all_doubled quote z ++ (quote ∷ 32 ∷ more)

  pub closed : closing quote false 0 ((all_doubled quote z ++ quote ∷ []) ++ 32 ∷ more) ≡ Some (length (all_doubled quote z ++ quote ∷ []))
  closed =
      ap (closing quote false 0) (append_assoc (all_doubled quote z) (quote ∷ []) (32 ∷ more) ∙ ap (λ x. x ++ quote ∷ 32 ∷ more) (double_is quote z))
      ∙ closing_double quote 32 more other z 0
      ∙ ap Some (len (double quote z) ∙ ap (λ x. length (x ++ quote ∷ [])) (sym (double_is quote z)))
    where
      len : (a : List ℕ) → 0 + length a + 1 ≡ length (a ++ quote ∷ [])
      len a = let i = length-append a (quote ∷ []) in omega (arith, i)

  pub inside : undouble quote false (take (length (all_doubled quote z ++ quote ∷ []) - 1) ((all_doubled quote z ++ quote ∷ []) ++ 32 ∷ more)) ≡ z
  inside =
      ap (λ n. undouble quote false (take n ((all_doubled quote z ++ quote ∷ []) ++ 32 ∷ more))) one
      ∙ ap (λ x. undouble quote false (take (length (all_doubled quote z)) x)) (append_assoc (all_doubled quote z) (quote ∷ []) (32 ∷ more))
      ∙ ap (undouble quote false) (take_all (all_doubled quote z) (quote ∷ 32 ∷ more) ∙ double_is quote z)
      ∙ undouble_double quote z
    where
      one : length (all_doubled quote z ++ quote ∷ []) - 1 ≡ length (all_doubled quote z)
      one = let i = length-append (all_doubled quote z) (quote ∷ []) in omega (arith, i)

no_bytes : (b : ℕ) (rest : List ℕ) → (b == 120 || b == 88) ≡ false → is_bytes b rest ≡ false
no_bytes b [] h = refl
no_bytes b (quote ∷ rest) h = rw h refl

pub cut_text : (z : List ℕ) → is_utf8 z ≡ true → IsCut (record { kind = k.Text; text = z })
cut_text z u = (refl, λ more. goes more (closed 39 z more refl) (inside 39 z more refl))
  where
    goes : (more : List ℕ)
        → closing 39 false 0 ((all_doubled 39 z ++ 39 ∷ []) ++ 32 ∷ more) ≡ Some (length (all_doubled 39 z ++ 39 ∷ []))
        → undouble 39 false (take (length (all_doubled 39 z ++ 39 ∷ []) - 1) ((all_doubled 39 z ++ 39 ∷ []) ++ 32 ∷ more)) ≡ z
        → token_at 39 ((all_doubled 39 z ++ 39 ∷ []) ++ 32 ∷ more) ≡ (record { kind = k.Text; text = z }, length (all_doubled 39 z ++ 39 ∷ []))
    goes more h i = rw (no_bytes 39 ((all_doubled 39 z ++ 39 ∷ []) ++ 32 ∷ more) refl) (rw h (rw i (rw u refl)))

pub cut_name : (z : List ℕ) → is_utf8 z ≡ true → (nat_le 1 (length z) && nat_le (length z) 255) ≡ true → IsCut (record { kind = k.Quoted; text = z })
cut_name z u l = (refl, λ more. goes more (closed 34 z more refl) (inside 34 z more refl))
  where
    goes : (more : List ℕ)
        → closing 34 false 0 ((all_doubled 34 z ++ 34 ∷ []) ++ 32 ∷ more) ≡ Some (length (all_doubled 34 z ++ 34 ∷ []))
        → undouble 34 false (take (length (all_doubled 34 z ++ 34 ∷ []) - 1) ((all_doubled 34 z ++ 34 ∷ []) ++ 32 ∷ more)) ≡ z
        → token_at 34 ((all_doubled 34 z ++ 34 ∷ []) ++ 32 ∷ more) ≡ (record { kind = k.Quoted; text = z }, length (all_doubled 34 z ++ 34 ∷ []))
    goes more h i = rw (no_bytes 34 ((all_doubled 34 z ++ 34 ∷ []) ++ 32 ∷ more) refl) (rw h (rw i (rw l (rw u refl))))

-- ---- runs of bytes

stops : (p : ℕ → Bool) (z : List ℕ) (c : ℕ) (more : List ℕ) → list_all p z ≡ true → p c ≡ false → take_while p (z ++ c ∷ more) ≡ z
stops p [] c more h k = rw k refl
stops p (b ∷ z) c more h k =
    let u : (p b ≡ true) × (list_all p z ≡ true) = both (p b) (list_all p z) h in
    let one : 1 + prefix_len p (z ++ c ∷ more) ≡ suc (prefix_len p (z ++ c ∷ more)) = omega arith in
    rw u.0 (ap (λ n. take n (b ∷ (z ++ c ∷ more))) one ∙ ap (λ x. b ∷ x) (stops p z c more u.1 k))
  where
    both : (a e : Bool) → (a && e) ≡ true → (a ≡ true) × (e ≡ true)
    both true e h = (refl, h)
    both false e h = cc

digit_no_x : (b : ℕ) → is_digit b ≡ true → (b == 120 || b == 88) ≡ false
digit_no_x b h = grind arith

digit_no_letter : (b : ℕ) → is_digit b ≡ true → is_letter b ≡ false
digit_no_letter b h = grind arith

digit_no_blank : (b : ℕ) → is_digit b ≡ true → is_blank b ≡ false
digit_no_blank b h = grind arith

pub cut_digits : (b : ℕ) (ds : List ℕ) → is_digit b ≡ true → list_all is_digit ds ≡ true → is_utf8 (b ∷ ds) ≡ true → IsCut (record { kind = k.Number; text = b ∷ ds })
cut_digits b ds h g u = (digit_no_blank b h, λ more. goes more (stops is_digit ds 32 more g refl) (take_all ds (32 ∷ more)))
  where
    goes : (more : List ℕ) → take_while is_digit (ds ++ 32 ∷ more) ≡ ds → take (length ds) (ds ++ 32 ∷ more) ≡ ds
        → token_at b (ds ++ 32 ∷ more) ≡ (record { kind = k.Number; text = b ∷ ds }, length ds)
    goes more e f = rw (no_bytes b (ds ++ 32 ∷ more) (digit_no_x b h)) (rw (digit_no_letter b h) (rw h (rw e (rw f (rw u refl)))))

pub cut_minus : (d : ℕ) (ds : List ℕ) → is_digit d ≡ true → list_all is_digit ds ≡ true → is_utf8 (45 ∷ d ∷ ds) ≡ true → IsCut (record { kind = k.Number; text = 45 ∷ d ∷ ds })
cut_minus d ds h g u = (refl, λ more. goes more (stops is_digit (d ∷ ds) 32 more (rw h g) refl) (take_all (d ∷ ds) (32 ∷ more)))
  where
    goes : (more : List ℕ) → take_while is_digit ((d ∷ ds) ++ 32 ∷ more) ≡ d ∷ ds → take (length (d ∷ ds)) ((d ∷ ds) ++ 32 ∷ more) ≡ d ∷ ds
        → token_at 45 ((d ∷ ds) ++ 32 ∷ more) ≡ (record { kind = k.Number; text = 45 ∷ d ∷ ds }, length (d ∷ ds))
    goes more e f = rw e (rw f (rw u (rw h refl)))

-- bytes, whose digits are of an even number
pub cut_bytes : (z : List ℕ) → list_all is_hex z ≡ true → (length z % 2 == 0) ≡ true → is_utf8 z ≡ true → IsCut (record { kind = k.Bytes; text = z })
cut_bytes z h g u = (refl, λ more. goes more (append_assoc z (39 ∷ []) (32 ∷ more)) (stops is_hex z 39 (32 ∷ more) h refl) (take_all z (39 ∷ 32 ∷ more)) (drop_all z (39 ∷ 32 ∷ more)))
  where
    len : (a : List ℕ) → length a + 2 ≡ suc (length (a ++ 39 ∷ []))
    len a = let i = length-append a (39 ∷ []) in omega (arith, i)

    goes : (more : List ℕ) → (z ++ 39 ∷ []) ++ 32 ∷ more ≡ z ++ 39 ∷ 32 ∷ more → take_while is_hex (z ++ 39 ∷ 32 ∷ more) ≡ z
        → take (length z) (z ++ 39 ∷ 32 ∷ more) ≡ z → drop (length z) (z ++ 39 ∷ 32 ∷ more) ≡ 39 ∷ 32 ∷ more
        → token_at 120 (39 ∷ (z ++ 39 ∷ []) ++ 32 ∷ more) ≡ (record { kind = k.Bytes; text = z }, length (39 ∷ (z ++ 39 ∷ [])))
    goes more a e f d = rw a (rw e (rw g (rw d (rw f (rw u (ap (λ (n : ℕ). (record { kind = k.Bytes; text = z }, n)) (len z)))))))

-- ---- lines

-- tokens don't depend on how many bytes there may be at most
enough : (n m : ℕ) (bytes : List ℕ) → length bytes ≤ n → length bytes ≤ m → tokens_in n bytes ≡ tokens_in m bytes
enough zero zero bytes h g = refl
enough zero (suc m) [] h g = refl
enough zero (suc m) (b ∷ rest) h g = absurd (omega arith)
enough (suc n) zero [] h g = refl
enough (suc n) zero (b ∷ rest) h g = absurd (omega arith)
enough (suc n) (suc m) [] h g = refl
enough (suc n) (suc m) (b ∷ rest) h g =
    enough_one n m b rest (is_blank b) (enough n m rest (omega arith) (omega arith))
    (enough n m (drop (token_at b rest).1 rest) (fewer (token_at b rest).1 rest n (omega arith)) (fewer (token_at b rest).1 rest m (omega arith)))
  where
    fewer : (i : ℕ) (rest : List ℕ) (n : ℕ) → length rest ≤ n → length (drop i rest) ≤ n
    fewer i rest n h = let e = length-drop i rest in omega (arith, e)

    enough_one : (n m b : ℕ) (rest : List ℕ) (t : Bool) → tokens_in n rest ≡ tokens_in m rest → tokens_in n (drop (token_at b rest).1 rest) ≡ tokens_in m (drop (token_at b rest).1 rest)
        → cond t (tokens_in n rest) ((token_at b rest).0 ∷ tokens_in n (drop (token_at b rest).1 rest)) ≡ cond t (tokens_in m rest) ((token_at b rest).0 ∷ tokens_in m (drop (token_at b rest).1 rest))
    enough_one n m b rest true h g = h
    enough_one n m b rest false h g = ap (λ x. (token_at b rest).0 ∷ x) g

-- ---- one token behind the other

cut_next : (t : Token) (b : ℕ) (s more : List ℕ) (n : ℕ) → is_blank b ≡ false → token_at b (s ++ 32 ∷ more) ≡ (t, length s)
    → tokens_in (suc n) (b ∷ (s ++ 32 ∷ more)) ≡ t ∷ tokens_in n (32 ∷ more)
cut_next t b s more n h g = rw h (rw g (ap (λ x. t ∷ tokens_in n x) (drop_all s (32 ∷ more))))

cut_first : (t : Token) (s more : List ℕ) → IsCutAt t s → tokens_of (s ++ 32 ∷ more) ≡ t ∷ tokens_of more
cut_first t [] more h = absurd h
cut_first t (b ∷ s) more h =
    cut_next t b s more (length (s ++ 32 ∷ more)) h.0 (h.1 more)
    ∙ ap (λ x. t ∷ x) (enough (length (s ++ 32 ∷ more)) (suc (length more)) (32 ∷ more) (let e = length-append s (32 ∷ more) in omega (arith, e)) (omega arith))

-- tokens that are spelled are cut off again
pub cut_spelled : (ts : List Token) → AllCut ts → tokens_of (spelled ts) ≡ ts
cut_spelled [] h = refl
cut_spelled (t ∷ ts) h = cut_first t (spelling t) (spelled ts) h.0 ∙ ap (λ x. t ∷ x) (cut_spelled ts h.1)

pub append_cut : (a b : List Token) → AllCut a → AllCut b → AllCut (a ++ b)
append_cut [] b h g = g
append_cut (t ∷ a) b h g = (h.0, append_cut a b h.1 g)
