-- What a reading function answers, and where it leaves the tokens.
use Rattle.std.specs.Prelude.{◌≡◌, List, ℕ, ◌++◌, map, Result, Ok, Err}
use Rattle.stmt_tokens.specs.declared.token.Kind.{Kind}
use Rattle.stmt_tokens.specs.declared.token.Token.{Token}
use Rattle.stmt_grammar.specs.declared.cursor.Stop.{Stop}
use Rattle.stmt_grammar.specs.declared.cursor.Stop.TheVariants.{Wrong, Memory}
use Rattle.stmt_grammar.specs.Grammar.{Grammar, Read, read, read_many, first}
use Rattle.stmt_grammar.specs.Phrases.{only, ◌then◌}

-- the answer of the reader, but for want of memory
abbrev pub Reads : {A : Type 0} → Read A → Result A Stop → List Token → Type 0
Reads read (Ok x) rest = read ≡ Ok (x, rest)
Reads read (Err Wrong) rest = read ≡ Err rest
Reads read (Err Memory) rest = Unit {0}

-- the items of a list so far, with those that are still read
abbrev pub with_front : {A : Type 0} → List A → Read (List (Unit {0} × A)) → Read (List A)
with_front xs (Ok r) = Ok (xs ++ map (λ y. y.1) r.0, r.1)
with_front xs (Err rest) = Err rest

-- at most so many more of {sep x}
abbrev pub others : {A : Type 0} → Kind → Grammar A → ℕ → List Token → Read (List (Unit {0} × A))
others sep g most ts = read_many (first (only sep then g)) (read (only sep then g)) most ts
