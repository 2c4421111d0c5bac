-- What holds of the values that grammars give to tokens of a line.
use Rattle.std.proofs.Common.{◌≡◌, Bool, true, ◌&&◌, List, [], ◌∷◌, map, refl, ap, ◌∙◌, subst, inl, inr, Option, Some, None}
use Rattle.std.proofs.lemmas.Bool.{and_from, and_parts}
use Rattle.std.specs.List.{list_all}
use Rattle.stmt_tokens.specs.declared.token.Kind.{Kind}
use Rattle.stmt_tokens.specs.declared.token.Kind.TheVariants as k
use Rattle.stmt_tokens.specs.declared.token.Sign.TheVariants as signs
use Rattle.stmt_tokens.specs.declared.token.Token.{Token}
use Rattle.stmt_grammar.specs.Grammar.{Grammar, token, maybe, many, made, Spells}
use Rattle.stmt_grammar.specs.Phrases.{mark, only, ◌then◌, ◌or◌, chain, parenthesized}
use Rattle.stmt_text.proofs.TokenFits.{Fits, AllFit, fit_parts}
use Rattle.stmt_text.specs.Printable.{is_some_of}

-- each value passes the test
abbrev pub Gives : {A : Type 0} → Grammar A → (A → Bool) → Type 0
Gives {A} g test = (ts : List Token) (x : A) → AllFit ts → Spells g ts x → test x ≡ true

abbrev pub or_none : {A : Type 0} → (A → Bool) → Option A → Bool
or_none test None = true
or_none test (Some x) = test x

pub token_gives : {A : Type 0} (kinds : Kind → Bool) (value : Token → Option A) (test : A → Bool)
    → ((t : Token) (x : A) → Fits t → kinds t.kind ≡ true → value t ≡ Some x → test x ≡ true) → Gives (token kinds value) test
token_gives kinds value test h ts x f s = h s.0 x (subst AllFit s.1 f).0 s.2 s.3

pub word_gives : (a : Kind) → Gives (only a) (λ u. true)
word_gives a ts x f s = refl

module _ {A B : Type 0} (g : Grammar A) (h : Grammar B) (p : A → Bool) (q : B → Bool) where
  pub both_gives : Gives g p → Gives h q → Gives (g then h) (λ z. p z.0 && q z.1)
  both_gives first second ts z f s =
      let fits = fit_parts s.0 s.1 (subst AllFit s.2 f) in
      and_from (p z.0) (q z.1) (first s.0 z.0 fits.0 s.3) (second s.1 z.1 fits.1 s.4)

-- a keyword or a sign first
pub next_gives : {B : Type 0} (a : Kind) (h : Grammar B) (q : B → Bool) → Gives h q → Gives (only a then h) (λ z. q z.1)
next_gives a h q second ts z f s = second s.1 z.1 (fit_parts s.0 s.1 (subst AllFit s.2 f)).1 s.4

-- a keyword or a sign behind
pub before_gives : {A : Type 0} (g : Grammar A) (a : Kind) (p : A → Bool) → Gives g p → Gives (g then only a) (λ z. p z.0)
before_gives g a p first ts z f s = first s.0 z.0 (fit_parts s.0 s.1 (subst AllFit s.2 f)).0 s.3

pub either_gives : {A : Type 0} (g h : Grammar A) (p : A → Bool) → Gives g p → Gives h p → Gives (g or h) p
either_gives g h p first second ts x f (inl s) = first ts x f s
either_gives g h p first second ts x f (inr s) = second ts x f s

pub made_gives : {A B : Type 0} (f : A → B) (g : Grammar A) (p : A → Bool) (q : B → Bool) → Gives g p → ((x : A) → p x ≡ true → q (f x) ≡ true) → Gives (made f g) q
made_gives f g p q inner h ts y fits s = ap q s.2 ∙ h s.0 (inner ts s.0 fits s.1)

pub maybe_gives : {A : Type 0} (g : Grammar A) (p : A → Bool) → Gives g p → Gives (maybe g) (or_none p)
maybe_gives g p inner ts None f s = refl
maybe_gives g p inner ts (Some x) f s = inner ts x f s

pub many_gives : {A : Type 0} (g : Grammar A) (p : A → Bool) → Gives g p → Gives (many g) (list_all p)
many_gives g p inner ts [] f s = refl
many_gives g p inner ts (x ∷ xs) f s =
    let fits = fit_parts s.0 s.1 (subst AllFit s.2 f) in
    and_from (p x) (list_all p xs) (inner s.0 x fits.0 s.3) (many_gives g p inner s.1 xs fits.1 s.4)

all_second : {A : Type 0} (p : A → Bool) (xs : List (Unit {0} × A)) → list_all (λ z. p z.1) xs ≡ true → list_all p (map (λ y. y.1) xs) ≡ true
all_second p [] h = refl
all_second p (x ∷ xs) h = let parts = and_parts (p x.1) (list_all (λ z. p z.1) xs) h in and_from (p x.1) (list_all p (map (λ y. y.1) xs)) parts.0 (all_second p xs parts.1)

-- a list has one member or more
pub chain_gives : {A : Type 0} (sep : Kind) (g : Grammar A) (p : A → Bool) → Gives g p → Gives (chain sep g) (is_some_of p)
chain_gives sep g p inner =
    made_gives (λ z. z.0 ∷ map (λ y. y.1) z.1) (g then many (only sep then g)) (λ z. p z.0 && list_all (λ y. p y.1) z.1) (is_some_of p)
    (both_gives g (many (only sep then g)) p (list_all (λ y. p y.1)) inner (many_gives (only sep then g) (λ y. p y.1) (next_gives sep g p inner)))
    (λ z h. let parts = and_parts (p z.0) (list_all (λ y. p y.1) z.1) h in and_from (p z.0) (list_all p (map (λ y. y.1) z.1)) parts.0 (all_second p z.1 parts.1))

pub enclosed_gives : {A : Type 0} (g : Grammar A) (p : A → Bool) → Gives g p → Gives (parenthesized g) p
enclosed_gives g p inner =
    made_gives (λ z. z.1.0) (mark signs.LeftParen then g then mark signs.RightParen) (λ z. p z.1.0) p
    (next_gives (k.Sign signs.LeftParen) (g then mark signs.RightParen) (λ z. p z.0) (before_gives g (k.Sign signs.RightParen) p inner)) (λ z h. h)
