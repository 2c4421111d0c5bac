-- Forms of which grammars are put together.
use Rattle.std.specs.Prelude.{Bool, true, false, List, ◌∷◌, map}
use denote.Enum.Bare.{sameb}
use Rattle.stmt_tokens.specs.contracts.token.Keyword as keyword
use Rattle.stmt_tokens.specs.contracts.token.Sign as sign_
use Rattle.stmt_tokens.specs.declared.token.Keyword.{Keyword}
use Rattle.stmt_tokens.specs.declared.token.Kind.{Kind}
use Rattle.stmt_tokens.specs.declared.token.Kind.TheVariants as k
use Rattle.stmt_tokens.specs.declared.token.Sign.{Sign}
use Rattle.stmt_tokens.specs.declared.token.Sign.TheVariants as signs
use Rattle.stmt_grammar.specs.Grammar.{Grammar, sign, both, either, many, made}

abbrev pub is_keyword : Keyword → Keyword → Bool
is_keyword a b = sameb keyword.the_type a b

abbrev pub is_sign : Sign → Sign → Bool
is_sign a b = sameb sign_.the_type a b

unfoldable pub is : Kind → Kind → Bool
is (k.Keyword a) (k.Keyword b) = is_keyword a b
is (k.Sign a) (k.Sign b) = is_sign a b
is k.Word k.Word = true
is k.Quoted k.Quoted = true
is k.Number k.Number = true
is k.Text k.Text = true
is k.Bytes k.Bytes = true
is k.Bad k.Bad = true
is _ _ = false

-- a token of this kind, which has no value
abbrev pub only : Kind → Grammar (Unit {0})
only a = sign (is a)

abbrev pub word : Keyword → Grammar (Unit {0})
word a = only (k.Keyword a)

abbrev pub mark : Sign → Grammar (Unit {0})
mark a = only (k.Sign a)

-- g h
infixr 6 ◌then◌
abbrev pub ◌then◌ : {A B : Type 0} → Grammar A → Grammar B → Grammar (A × B)
g then h = both g h

-- g | h
infixr 5 ◌or◌
abbrev pub ◌or◌ : {A : Type 0} → Grammar A → Grammar A → Grammar A
g or h = either g h

-- g {sep g}
abbrev pub chain : {A : Type 0} → Kind → Grammar A → Grammar (List A)
chain sep g = made (λ z. z.0 ∷ map (λ y. y.1) z.1) (g then many (only sep then g))

-- g {, g}
abbrev pub list : {A : Type 0} → Grammar A → Grammar (List A)
list g = chain (k.Sign signs.Comma) g

-- ( g )
abbrev pub parenthesized : {A : Type 0} → Grammar A → Grammar A
parenthesized g = made (λ z. z.1.0) (mark signs.LeftParen then g then mark signs.RightParen)
