-- Tokens that spell a value of a grammar and are cut off again.
use Rattle.std.proofs.Common.{◌≡◌, true, List, [], ◌∷◌, ◌++◌, map, refl, ap, sym}
use Rattle.std.proofs.lemmas.Bool.{and_parts}
use Rattle.std.specs.List.{list_all}
use Rattle.stmt_tokens.specs.declared.token.Kind.{Kind}
use Rattle.stmt_tokens.specs.declared.token.Keyword.TheVariants as words
use Rattle.stmt_tokens.specs.declared.token.Kind.TheVariants as k
use Rattle.stmt_tokens.specs.declared.token.Sign.TheVariants as signs
use Rattle.stmt_tokens.specs.declared.token.Token.{Token}
use Rattle.stmt_grammar.specs.Grammar.{Grammar, Spells, SpellsAll}
use Rattle.stmt_grammar.specs.Phrases.{is, mark, only, ◌then◌, chain, parenthesized}
use Rattle.stmt_tokens.proofs.CutLemmas.{append_cut}
use Rattle.stmt_tokens.proofs.FixedLemmas.{cut_fixed, is_fixed}
use Rattle.stmt_tokens.specs.Spelled.{AllCut, fixed}
use Rattle.stmt_text.specs.Printed.{enclosed, is_typed, joined, others}

abbrev pub Put : {A : Type 0} → Grammar A → List Token → A → Type 0
Put g ts x = Spells g ts x × AllCut ts

-- ---- what is known of the tokens by their types

abbrev pub AllTyped : List Token → Type 0
AllTyped [] = Unit {0}
AllTyped (t ∷ ts) = (is_typed t ≡ true) × AllTyped ts

pub all_typed : (ts : List Token) → list_all is_typed ts ≡ true → AllTyped ts
all_typed [] h = tt
all_typed (t ∷ ts) h = let p = and_parts (is_typed t) (list_all is_typed ts) h in (p.0, all_typed ts p.1)

pub typed_parts : (a b : List Token) → AllTyped (a ++ b) → AllTyped a × AllTyped b
typed_parts [] b h = (tt, h)
typed_parts (t ∷ a) b h = let p = typed_parts a b h.1 in ((h.0, p.0), p.1)

-- ---- forms

same : (a : Kind) → is a a ≡ true
unfolding is
same = elim [ k.Keyword words.And ↦ refl | k.Sign signs.Comma ↦ refl | _ ↦ refl ]

pub put_word : (a : Kind) → is_fixed a ≡ true → Put (only a) (fixed a ∷ []) tt
put_word a h = ((fixed a, refl, same a), (cut_fixed a h, tt))

-- a keyword or a sign, and what follows
pub put_next : {B : Type 0} (a : Kind) (h : Grammar B) (ts : List Token) (y : B) → is_fixed a ≡ true → Put h ts y → Put (only a then h) (fixed a ∷ ts) (tt, y)
put_next a h ts y f p = ((fixed a ∷ [], ts, refl, (fixed a, refl, same a), p.0), (cut_fixed a f, p.1))

pub put_then : {A B : Type 0} (g : Grammar A) (h : Grammar B) (a b : List Token) (x : A) (y : B) → Put g a x → Put h b y → Put (g then h) (a ++ b) (x, y)
put_then g h a b x y p q = ((a, b, refl, p.0, q.0), append_cut a b p.1 q.1)

pub put_enclosed : {A : Type 0} (g : Grammar A) (ts : List Token) (x : A) → Put g ts x → Put (parenthesized g) (enclosed ts) x
put_enclosed g ts x p =
    let q = put_next (k.Sign signs.LeftParen) (g then mark signs.RightParen) (ts ++ fixed (k.Sign signs.RightParen) ∷ []) (x, tt) refl
    (put_then g (mark signs.RightParen) ts (fixed (k.Sign signs.RightParen) ∷ []) x tt p (put_word (k.Sign signs.RightParen) refl)) in
    (((tt, (x, tt)), q.0, refl), q.1)

-- ---- lists

-- what is printed and its value, one by one
abbrev pub Pairs : {A B : Type 0} → (B → A → Type 0) → List B → List A → Type 0
Pairs R [] [] = Unit {0}
Pairs R [] (x ∷ xs) = ⊥
Pairs R (b ∷ bs) [] = ⊥
Pairs R (b ∷ bs) (x ∷ xs) = R b x × Pairs R bs xs

module _ {A B : Type 0} (sep : Kind) (h : is_fixed sep ≡ true) (g : Grammar A) (item : B → List Token) where
  abbrev pub Items : List B → List A → Type 0
  Items = Pairs (λ b x. Put g (item b) x)

  -- each value and its separator
  abbrev tagged : List A → List (Unit {0} × A)
  tagged [] = []
  tagged (x ∷ xs) = (tt, x) ∷ tagged xs

  untagged : (xs : List A) → map (λ y. y.1) (tagged xs) ≡ xs
  untagged [] = refl
  untagged (x ∷ xs) = ap (λ ys. x ∷ ys) (untagged xs)

  others_put : (bs : List B) (xs : List A) → Items bs xs → SpellsAll (Spells (only sep then g)) (others sep item bs) (tagged xs) × AllCut (others sep item bs)
  others_put [] [] p = (refl, tt)
  others_put [] (x ∷ xs) p = absurd p
  others_put (b ∷ bs) [] p = absurd p
  others_put (b ∷ bs) (x ∷ xs) p =
      let q = put_next sep g (item b) x h p.0 in
      let r = others_put bs xs p.1 in
      ((fixed sep ∷ item b, others sep item bs, refl, q.0, r.0), append_cut (fixed sep ∷ item b) (others sep item bs) q.1 r.1)

  pub put_chain : (b : B) (bs : List B) (x : A) (xs : List A) → Items (b ∷ bs) (x ∷ xs) → Put (chain sep g) (joined sep item (b ∷ bs)) (x ∷ xs)
  put_chain b bs x xs p =
      let r = others_put bs xs p.1 in
      (((x, tagged xs), (item b, others sep item bs, refl, p.0.0, r.0), ap (λ ys. x ∷ ys) (sym (untagged xs))), append_cut (item b) (others sep item bs) p.0.1 r.1)
