-- How reading and spellings fit together: what is read is a spelling, and each spelling is read.
use Rattle.std.proofs.Common.{◌≡◌, ℕ, ◌⊎◌, Bool, true, false, cond, List, ◌++◌, Result, Ok, Err, refl, sym, ap, ◌∙◌, append_assoc, inl, inr}
use Rattle.thrift_compact.specs.declared.fault.ThriftFault.{ThriftFault}
use Rattle.answers.specs.Answers.{◌>>=◌}
use Rattle.thrift_compact.specs.Reading.{Read}
use Rattle.thrift_compact.specs.Spelling.{Then}

-- what a chain read, its first part read too
pub bind_ok : {A B : Type 0} (r : Result A ThriftFault) (f : A → Result B ThriftFault) (y : B) → (r >>= f) ≡ Ok y → (x : A) × (r ≡ Ok x) × (f x ≡ Ok y)
bind_ok (Ok x) f y e = (x, refl, e)
bind_ok (Err d) f y e = absurd cc

pub chosen : {A : Type 0} (b : Bool) (x y z : A) → cond b x y ≡ z → ((b ≡ true) × (x ≡ z)) ⊎ ((b ≡ false) × (y ≡ z))
chosen true x y z e = inl (refl, e)
chosen false x y z e = inr (refl, e)

abbrev pub done : {A : Type 0} → A → Result A ThriftFault
done x = Ok x

pub ok_is : {A : Type 0} (x y : A) → done x ≡ done y → x ≡ y
ok_is x y e = cc

pub failed : {A B : Type 0} (e : ThriftFault) (x : A) → Err e ≡ done x → B
failed e x h = absurd cc

-- the bytes begin with a spelling of x, and rest follows it
pub record Takes {A : Type 0} (S : List ℕ → A → Type 0) (bytes : List ℕ) (x : A) (rest : List ℕ) : Type 0 where
  pub front : List ℕ
  pub parts : bytes ≡ front ++ rest
  pub spells : S front x

-- what is read is a spelling, and each spelling is read, whatever follows it
pub record Matches {A : Type 0} (R : List ℕ → Read A) (S : List ℕ → A → Type 0) : Type 0 where
  pub sound : (bytes : List ℕ) (x : A) (rest : List ℕ) → R bytes ≡ Ok (x, rest) → Takes S bytes x rest
  pub complete : (front rest : List ℕ) (x : A) → S front x → R (front ++ rest) ≡ Ok (x, rest)

-- one item and then another
pub then_sound : {A B : Type 0} (R : List ℕ → Read A) (F : A → List ℕ → Read B) (S : List ℕ → A → Type 0) (T : A → List ℕ → B → Type 0)
    → Matches R S → ((x : A) → Matches (F x) (T x)) → (bytes : List ℕ) (y : B) (rest : List ℕ)
    → (R bytes >>= λ x. F x.0 x.1) ≡ Ok (y, rest) → Takes (Then S T) bytes y rest
then_sound R F S T m k bytes y rest e =
    let s = bind_ok (R bytes) (λ x. F x.0 x.1) (y, rest) e in
    let i = m.sound bytes s.0.0 s.0.1 s.1 in
    let j = (k s.0.0).sound s.0.1 y rest s.2 in
    record {
      front = i.front ++ j.front;
      parts = i.parts ∙ ap (λ (t : List ℕ). i.front ++ t) j.parts ∙ sym (append_assoc i.front j.front rest);
      spells = (s.0.0, i.front, j.front, refl, i.spells, j.spells);
    }

pub then_complete : {A B : Type 0} (R : List ℕ → Read A) (F : A → List ℕ → Read B) (S : List ℕ → A → Type 0) (T : A → List ℕ → B → Type 0)
    → Matches R S → ((x : A) → Matches (F x) (T x)) → (front rest : List ℕ) (y : B)
    → Then S T front y → (R (front ++ rest) >>= λ x. F x.0 x.1) ≡ Ok (y, rest)
then_complete R F S T m k front rest y (x, a, b, parts, s, t) =
    let regrouped : front ++ rest ≡ a ++ (b ++ rest) = ap (λ (p : List ℕ). p ++ rest) parts ∙ append_assoc a b rest in
    let one : R (front ++ rest) ≡ Ok (x, b ++ rest) = ap R regrouped ∙ m.complete a (b ++ rest) x s in
    rw one ((k x).complete b rest y t)

pub then_matches : {A B : Type 0} (R : List ℕ → Read A) (F : A → List ℕ → Read B) (S : List ℕ → A → Type 0) (T : A → List ℕ → B → Type 0)
    → Matches R S → ((x : A) → Matches (F x) (T x)) → Matches (λ bytes. R bytes >>= λ x. F x.0 x.1) (Then S T)
then_matches R F S T m k = record { sound = then_sound R F S T m k; complete = then_complete R F S T m k }

-- an item with a test that it passes
guard_sound : {A : Type 0} (R : List ℕ → Read A) (S : List ℕ → A → Type 0) (p : A → Bool) (f : ThriftFault)
    → Matches R S → (bytes : List ℕ) (y : A) (rest : List ℕ)
    → (R bytes >>= λ x. cond (p x.0) (Ok x) (Err f)) ≡ Ok (y, rest) → Takes (λ front x. S front x × (p x ≡ true)) bytes y rest
guard_sound {A = A} R S p f m bytes y rest e =
    let s = bind_ok (R bytes) (λ x. cond (p x.0) (Ok x) (Err f)) (y, rest) e in
    elim (chosen (p s.0.0) (Ok s.0) (Err f) (Ok (y, rest)) s.2) [
      | inl h ↦
          let q : s.0 ≡ (y, rest) = ok_is s.0 (y, rest) h.1 in
          let read : R bytes ≡ Ok (y, rest) = s.1 ∙ h.1 in
          let i = m.sound bytes y rest read in
          record { front = i.front; parts = i.parts; spells = (i.spells, ap (λ (t : A × List ℕ). p t.0) (sym q) ∙ h.0) }
      | inr h ↦ failed f (y, rest) h.1
    ]

guard_complete : {A : Type 0} (R : List ℕ → Read A) (S : List ℕ → A → Type 0) (p : A → Bool) (f : ThriftFault)
    → Matches R S → (front rest : List ℕ) (y : A) → S front y × (p y ≡ true)
    → (R (front ++ rest) >>= λ x. cond (p x.0) (Ok x) (Err f)) ≡ Ok (y, rest)
guard_complete R S p f m front rest y h = rw (m.complete front rest y h.0, h.1) refl

pub guard_matches : {A : Type 0} (R : List ℕ → Read A) (S : List ℕ → A → Type 0) (p : A → Bool) (f : ThriftFault)
    → Matches R S → Matches (λ bytes. R bytes >>= λ x. cond (p x.0) (Ok x) (Err f)) (λ front x. S front x × (p x ≡ true))
guard_matches R S p f m = record { sound = guard_sound R S p f m; complete = guard_complete R S p f m }

-- the same items, said otherwise
pub as_matches : {A : Type 0} (R : List ℕ → Read A) (S T : List ℕ → A → Type 0)
    → Matches R S → ((front : List ℕ) (x : A) → S front x → T front x) → ((front : List ℕ) (x : A) → T front x → S front x) → Matches R T
as_matches R S T m to from = record {
  sound = λ bytes x rest e. let i = m.sound bytes x rest e in record { front = i.front; parts = i.parts; spells = to i.front x i.spells };
  complete = λ front rest x h. m.complete front rest x (from front x h);
}

-- a function of an item
abbrev pub mapped : {A B : Type 0} → (A → B) → A × List ℕ → Read B
mapped f x = Ok (f x.0, x.1)

map_sound : {A B : Type 0} (R : List ℕ → Read A) (S : List ℕ → A → Type 0) (f : A → B) → Matches R S → (bytes : List ℕ) (y : B) (rest : List ℕ)
    → (R bytes >>= mapped f) ≡ Ok (y, rest) → Takes (λ front y. (x : A) × (f x ≡ y) × S front x) bytes y rest
map_sound {B = B} R S f m bytes y rest e =
    let s = bind_ok (R bytes) (mapped f) (y, rest) e in
    let q : (f s.0.0, s.0.1) ≡ (y, rest) = ok_is (f s.0.0, s.0.1) (y, rest) s.2 in
    let i = m.sound bytes s.0.0 s.0.1 s.1 in
    record { front = i.front; parts = i.parts ∙ ap (λ (t : B × List ℕ). i.front ++ t.1) q; spells = (s.0.0, ap (λ (t : B × List ℕ). t.0) q, i.spells) }

map_complete : {A B : Type 0} (R : List ℕ → Read A) (S : List ℕ → A → Type 0) (f : A → B) → Matches R S → (front rest : List ℕ) (y : B)
    → (x : A) × (f x ≡ y) × S front x → (R (front ++ rest) >>= mapped f) ≡ Ok (y, rest)
map_complete R S f m front rest y (x, e, s) = rw (m.complete front rest x s, e) refl

pub map_matches : {A B : Type 0} (R : List ℕ → Read A) (S : List ℕ → A → Type 0) (f : A → B)
    → Matches R S → Matches (λ bytes. R bytes >>= mapped f) (λ front y. (x : A) × (f x ≡ y) × S front x)
map_matches R S f m = record { sound = map_sound R S f m; complete = map_complete R S f m }
