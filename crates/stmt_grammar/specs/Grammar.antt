-- Grammars over tokens: what each form spells, and a reader with one token of lookahead.
use Rattle.std.specs.Prelude.{ℕ, zero, suc, Bool, true, false, ◌&&◌, ◌||◌, ◌≡◌, ◌⊎◌, List, [], ◌∷◌, ◌++◌, length, Option, Some, None, Result, Ok, Err, if◌then◌else◌}
use Rattle.stmt_tokens.specs.declared.token.Kind.{Kind}
use Rattle.stmt_tokens.specs.declared.token.Token.{Token}

pub data Grammar : Type 0 → Type 1 where
  -- one token of these kinds, with the value that it has
  token : {A : Type 0} → (Kind → Bool) → (Token → Option A) → Grammar A
  -- one token of these kinds
  sign : (Kind → Bool) → Grammar (Unit {0})
  -- one after the other
  both : {A B : Type 0} → Grammar A → Grammar B → Grammar (A × B)
  -- one or the other
  either : {A : Type 0} → Grammar A → Grammar A → Grammar A
  -- [x]
  maybe : {A : Type 0} → Grammar A → Grammar (Option A)
  -- {x}
  many : {A : Type 0} → Grammar A → Grammar (List A)
  -- what is made of the value
  made : {A B : Type 0} → (A → B) → Grammar A → Grammar B

-- ---- what is spelled

abbrev pub SpellsAll : {A : Type 0} → (List Token → A → Type 0) → List Token → List A → Type 0
SpellsAll P ts [] = ts ≡ []
SpellsAll P ts (x ∷ xs) = (a : List Token) × (b : List Token) × (ts ≡ a ++ b) × P a x × SpellsAll P b xs

abbrev pub SpellsMaybe : {A : Type 0} → (List Token → A → Type 0) → List Token → Option A → Type 0
SpellsMaybe P ts None = ts ≡ []
SpellsMaybe P ts (Some x) = P ts x

abbrev pub SpellsToken : {A : Type 0} → (Kind → Bool) → (Token → Option A) → List Token → A → Type 0
SpellsToken kinds value ts x = (t : Token) × (ts ≡ t ∷ []) × (kinds t.kind ≡ true) × (value t ≡ Some x)

abbrev pub SpellsMade : {A B : Type 0} → (A → B) → (List Token → A → Type 0) → List Token → B → Type 0
SpellsMade {A} f P ts y = (x : A) × P ts x × (y ≡ f x)

abbrev pub SpellsSign : (Kind → Bool) → List Token → Unit {0} → Type 0
SpellsSign kinds ts x = (t : Token) × (ts ≡ t ∷ []) × (kinds t.kind ≡ true)

abbrev pub SpellsBoth : {A B : Type 0} → (List Token → A → Type 0) → (List Token → B → Type 0) → List Token → A × B → Type 0
SpellsBoth P Q ts z = (a : List Token) × (b : List Token) × (ts ≡ a ++ b) × P a z.0 × Q b z.1

abbrev pub Spells : {A : Type 0} → Grammar A → List Token → A → Type 0
Spells (token kinds value) ts x = SpellsToken kinds value ts x
Spells (sign kinds) ts x = SpellsSign kinds ts x
Spells (both g h) ts z = SpellsBoth (Spells g) (Spells h) ts z
Spells (either g h) ts x = Spells g ts x ⊎ Spells h ts x
Spells (maybe g) ts o = SpellsMaybe (Spells g) ts o
Spells (many g) ts xs = SpellsAll (Spells g) ts xs
Spells (made f g) ts y = SpellsMade f (Spells g) ts y

-- ---- the first token

abbrev pub empty : {A : Type 0} → Grammar A → Bool
empty (token kinds value) = false
empty (sign kinds) = false
empty (both g h) = empty g && empty h
empty (either g h) = empty g || empty h
empty (maybe g) = true
empty (many g) = true
empty (made f g) = empty g

abbrev pub first : {A : Type 0} → Grammar A → Kind → Bool
first (token kinds value) k = kinds k
first (sign kinds) k = kinds k
first (both g h) k = if empty g then first g k || first h k else first g k
first (either g h) k = first g k || first h k
first (maybe g) k = first g k
first (many g) k = first g k
first (made f g) k = first g k

-- ---- the reader

-- Ok: the value, and the tokens behind it. Err: the tokens from the wrong one on, or none where more must follow.
abbrev pub Read : Type 0 → Type 0
Read A = Result (A × List Token) (List Token)

abbrev pub and_then : {A B : Type 0} → Read A → (A → List Token → Read B) → Read B
and_then (Ok p) f = f p.0 p.1
and_then (Err rest) f = Err rest

abbrev pub found : {A : Type 0} → Option A → Token → List Token → Read A
found None t rest = Err (t ∷ rest)
found (Some x) t rest = Ok (x, rest)

abbrev pub read_one : {A : Type 0} → (Kind → Bool) → (Token → Option A) → List Token → Read A
read_one kinds value [] = Err []
read_one kinds value (t ∷ rest) = if kinds t.kind then found (value t) t rest else Err (t ∷ rest)

abbrev pub starts : (Kind → Bool) → List Token → Bool
starts kinds [] = false
starts kinds (t ∷ rest) = kinds t.kind

-- as many as begin; each takes a token or more, so the number of tokens bounds them
abbrev pub read_many : {A : Type 0} → (Kind → Bool) → (List Token → Read A) → ℕ → List Token → Read (List A)
read_many begins item zero ts = Ok ([], ts)
read_many begins item (suc most) ts =
    if starts begins ts
    then and_then (item ts) (λ x rest. and_then (read_many begins item most rest) (λ xs more. Ok (x ∷ xs, more)))
    else Ok ([], ts)

abbrev pub read : {A : Type 0} → Grammar A → List Token → Read A
read (token kinds value) ts = read_one kinds value ts
read (sign kinds) ts = read_one kinds (λ t. Some tt) ts
read (both g h) ts = and_then (read g ts) (λ x rest. and_then (read h rest) (λ y more. Ok ((x, y), more)))
read (either g h) ts = if starts (first g) ts then read g ts else read h ts
read (maybe g) ts = if starts (first g) ts then and_then (read g ts) (λ x rest. Ok (Some x, rest)) else Ok (None, ts)
read (many g) ts = read_many (first g) (read g) (length ts) ts
read (made f g) ts = and_then (read g ts) (λ x rest. Ok (f x, rest))
