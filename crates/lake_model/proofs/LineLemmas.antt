-- The lines of a reply, and what stands behind their heads.
use Rattle.std.proofs.Common.{◌≡◌, ◌≢◌, ℕ, ◌/◌, ◌%◌, List, [], ◌∷◌, ◌++◌, refl, ap, sym, ◌∙◌, arith, append_assoc, Bool, true, false, cond, suc, zero}
use Rattle.std.specs.Prelude.{nat_eq, codes, flat_map, decimal, Some}
use Rattle.std.specs.Fmt.{digits, digits_onto, digit_glyph}
use Rattle.std.specs.List.{cons_option}
use Rattle.lake_model.specs.Replay.{answer_in, answers_in, behind_head, ended_lines, onto_first_line, NoFeed}
use Rattle.lake_model.specs.Texts.{head_text, printed, printed_row, shown, shown_byte}

-- a choice has what both sides have
pub either : {A : Type 0} (P : A → Type 0) (b : Bool) (x y : A) → P x → P y → P (cond b x y)
either P true x y p q = p
either P false x y p q = q

-- ---- where a line ends

not_feed : (b : ℕ) → b ≢ 10 → nat_eq b 10 ≡ false
not_feed b h = search (arith)

pub NoFeed-append : (a b : List ℕ) → NoFeed a → NoFeed b → NoFeed (a ++ b)
NoFeed-append [] b p q = q
NoFeed-append (c ∷ a) b p q = (p.0, NoFeed-append a b p.1 q)

-- a line feed ends the line
pub ended-line : (line rest : List ℕ) → NoFeed line → ended_lines (line ++ 10 ∷ rest) ≡ line ∷ ended_lines rest
ended-line [] rest h = refl
ended-line (b ∷ line) rest h = rw (not_feed b h.0) (ap (onto_first_line b) (ended-line line rest h.1))

byte-feed : (b : ℕ) (t : Bool) → nat_eq b 10 ≡ t → NoFeed (cond t (92 ∷ 110 ∷ []) (b ∷ []))
byte-feed b true e = (search arith, (search arith, tt))
byte-feed b false e = (search arith, tt)

pub shown-feed : (text : List ℕ) → NoFeed (shown text)
shown-feed [] = tt
shown-feed (b ∷ text) = NoFeed-append (shown_byte b) (shown text) (byte-feed b (nat_eq b 10) refl) (shown-feed text)

-- ---- heads

-- neither a line feed nor a space stands among the bytes
abbrev IsSolid : List ℕ → Type 0
IsSolid [] = Unit {0}
IsSolid (b ∷ bytes) = (b ≢ 10) × (b ≢ 32) × IsSolid bytes

glyph-feed : (d : ℕ) → digit_glyph false d ≢ 10
glyph-feed d = grind arith

glyph-space : (d : ℕ) → digit_glyph false d ≢ 32
glyph-space d = grind arith

digits_onto-solid : (k n : ℕ) (acc : List ℕ) → IsSolid acc → IsSolid (digits_onto k 10 false n acc)
digits_onto-solid zero n acc h = h
digits_onto-solid (suc k) n acc h =
    let solid : IsSolid (digit_glyph false (n % 10) ∷ acc) = (glyph-feed (n % 10), glyph-space (n % 10), h) in
    either IsSolid (nat_eq (n / 10) 0) _ _ solid (digits_onto-solid k (n / 10) _ solid)

decimal-solid : (n : ℕ) → IsSolid (decimal n)
unfolding digits
decimal-solid n = digits_onto-solid 64 n [] tt

solid-feed : (bytes : List ℕ) → IsSolid bytes → NoFeed bytes
solid-feed [] h = tt
solid-feed (b ∷ bytes) h = (h.0, solid-feed bytes h.2)

not_space : (b : ℕ) → b ≢ 32 → nat_eq b 32 ≡ false
not_space b h = search arith

behind-solid : (bytes rest : List ℕ) → IsSolid bytes → behind_head (bytes ++ 32 ∷ rest) ≡ rest
behind-solid [] rest h = refl
behind-solid (b ∷ bytes) rest h = rw (not_space b h.1) (behind-solid bytes rest h.2)

-- a head ends with its only space
pub record IsHead (head : List ℕ) : Type 0 where
  before : List ℕ
  solid : IsSolid before
  is : head ≡ before ++ 32 ∷ []

solid-append : (a b : List ℕ) → IsSolid a → IsSolid b → IsSolid (a ++ b)
solid-append [] b p q = q
solid-append (x ∷ a) b p q = (p.0, p.1, solid-append a b p.2 q)

pub head-is : (s n : ℕ) → IsHead (head_text s n)
head-is s n = record {
  before = decimal s ++ (46 ∷ decimal n);
  solid = solid-append (decimal s) (46 ∷ decimal n) (decimal-solid s) (search arith, search arith, decimal-solid n);
  is = sym (append_assoc (decimal s) (46 ∷ decimal n) (32 ∷ []));
}

head-feed : (head : List ℕ) → IsHead head → NoFeed head
head-feed head h = rw h.is (NoFeed-append h.before (32 ∷ []) (solid-feed h.before h.solid) (search arith, tt))

behind-head : (head text : List ℕ) → IsHead head → behind_head (head ++ text) ≡ text
behind-head head text h = rw (h.is, append_assoc h.before (32 ∷ []) text) (behind-solid h.before text h.solid)

-- ---- the lines of a reply

printed-ended : (head text rest : List ℕ) → IsHead head → NoFeed text → ended_lines (printed head text ++ rest) ≡ (head ++ text) ∷ ended_lines rest
printed-ended head text rest h f =
    ap ended_lines (append_assoc head (text ++ 10 ∷ []) rest ∙ ap (λ l. head ++ l) (append_assoc text (10 ∷ []) rest) ∙ sym (append_assoc head text (10 ∷ rest))) ∙ ended-line (head ++ text) rest (NoFeed-append head text (head-feed head h) f)

answers-printed : (head text rest : List ℕ) → IsHead head → NoFeed text → answers_in (printed head text ++ rest) ≡ cons_option (answer_in text) (answers_in rest)
answers-printed head text rest h f = rw (printed-ended head text rest h f, behind-head head text h) refl

answers-row : (head row rest : List ℕ) → IsHead head → answers_in (printed_row head row ++ rest) ≡ answers_in rest
answers-row head row rest h =
    answers-printed head (codes "row " ++ shown row) rest h (NoFeed-append (codes "row ") (shown row) (search arith) (shown-feed row))

-- a reply has one answer, its last line
pub answers-told : (head : List ℕ) (rows : List (List ℕ)) (last rest : List ℕ) → IsHead head → NoFeed last → answer_in last ≡ Some last →
    answers_in ((flat_map (printed_row head) rows ++ printed head last) ++ rest) ≡ last ∷ answers_in rest
answers-told head [] last rest h f a = answers-printed head last rest h f ∙ ap (λ o. cons_option o (answers_in rest)) a
answers-told head (row ∷ rows) last rest h f a =
    ap answers_in (ap (λ l. l ++ rest) (append_assoc (printed_row head row) (flat_map (printed_row head) rows) (printed head last)) ∙ append_assoc (printed_row head row) (flat_map (printed_row head) rows ++ printed head last) rest) ∙ answers-row head row _ h ∙ answers-told head rows last rest h f a
