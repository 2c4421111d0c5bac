-- How a changes text is read: what each function gives. Nothing outside of this crate speaks of it.
use Rattle.std.specs.Prelude.{◌≡◌, ℕ, ◌<◌, ◌^◌, ◌==◌, ◌||◌, not, Bool, true, false, List, [], ◌∷◌, ◌++◌, map, decimal, Option, Some, None, Result, Ok, Err, if◌then◌else◌}
use Rattle.std.specs.List.{list_all, AllByRecursion}
use Rattle.std.specs.Option.{option_map}
use Rattle.std.specs.Borrow.{Bor}
use Rattle.lake_types.specs.declared.kind.Kind.{Kind}
use Rattle.lake_types.specs.declared.kind.Kind.TheVariants as kind
use Rattle.lake_types.specs.Kinds.{kind_text, HasId, IsNamed, Says}
use Rattle.cat_changes.specs.declared.fault.BadChanges.{BadChanges}
use Rattle.cat_changes.specs.declared.fault.BadChanges.TheVariants.{Text, NoSchema, Memory}
use Rattle.cat_changes.specs.Changes.{IsWrongAt, tail_text}

-- no byte is this one
abbrev pub lacks : ℕ → List ℕ → Bool
lacks c bytes = list_all (λ b. not (b == c)) bytes

-- ---- a name in quotes, and what stands behind it

abbrev pub with_front : List ℕ → Option (List ℕ × List ℕ) → Option (List ℕ × List ℕ)
with_front front None = None
with_front front (Some x) = Some (front ++ x.0, x.1)

-- inside the quotes, or directly behind a quote, which ends the name unless a second one follows
abbrev pub inside : Bool → List ℕ → Option (List ℕ × List ℕ)
inside false [] = None
inside true [] = Some ([], [])
inside false (b ∷ rest) = if b == 34 then inside true rest else with_front (b ∷ []) (inside false rest)
inside true (b ∷ rest) = if b == 34 then with_front (34 ∷ []) (inside false rest) else Some ([], b ∷ rest)

abbrev pub quoted_in : List ℕ → Option (List ℕ × List ℕ)
quoted_in [] = None
quoted_in (b ∷ rest) = if b == 34 then inside false rest else None

abbrev pub Finds : Option (List ℕ × Bor (List ℕ)) → Option (List ℕ × List ℕ) → Type 0
Finds None read = read ≡ None
Finds (Some x) read = read ≡ Some (x.0, x.1.now)

-- ---- one kind, up to its comma or the end

-- a text that was passed
abbrev pub tail_of : Option (Bor (List ℕ)) → Option (List ℕ)
tail_of tail = option_map (λ x. x.now) tail

abbrev pub IsTail : List ℕ → Option (Option (Bor (List ℕ))) → Type 0
IsTail text None = (tail : Option (List ℕ)) → tail_text tail ≡ text → ⊥
IsTail text (Some tail) = tail_text (tail_of tail) ≡ text

abbrev pub IsIdAt : List ℕ → Option (ℕ × Option (Bor (List ℕ))) → Type 0
IsIdAt text None = (id : ℕ) (tail : Option (List ℕ)) → id < 2 ^ 64 → decimal id ++ tail_text tail ≡ text → ⊥
IsIdAt text (Some x) = (x.0 < 2 ^ 64) × (decimal x.0 ++ tail_text (tail_of x.1) ≡ text)

-- a kind whose text doesn't tell all has an empty name
abbrev pub unnamed : Kind → Kind
unnamed (kind.DroppedSchema id name) = kind.DroppedSchema id []
unnamed k = k

-- one of these kinds stands at the front of the text, up to a comma or the end
abbrev pub IsKindAmong : (Kind → Bool) → List ℕ → Option (Kind × Option (Bor (List ℕ))) → Type 0
IsKindAmong among text None =
    (k : Kind) (tail : Option (List ℕ)) → among k ≡ true → HasId k → kind_text k ++ tail_text tail ≡ text → ⊥
IsKindAmong among text (Some x) =
    HasId x.0 × (unnamed x.0 ≡ x.0) × (kind_text x.0 ++ tail_text (tail_of x.1) ≡ text)

abbrev pub is_created_schema : Kind → Bool
is_created_schema (kind.CreatedSchema name) = true
is_created_schema k = false

abbrev pub is_created_table : Kind → Bool
is_created_table (kind.CreatedTable schema name) = true
is_created_table k = false

abbrev pub has_id : Kind → Bool
has_id k = not (is_created_schema k || is_created_table k)

abbrev pub IsKindAt : List ℕ → Option (Kind × Option (Bor (List ℕ))) → Type 0
IsKindAt text found = IsKindAmong (λ k. true) text found

-- ---- all kinds

abbrev pub AreUnnamed : List Kind → List Kind → Type 0
AreUnnamed kinds others = map unnamed kinds ≡ map unnamed others

-- what is read before the names are looked up
abbrev pub ReadsText : List ℕ → Result (List Kind) BadChanges → Type 0
ReadsText text (Ok kinds) = Says text kinds
ReadsText text (Err (Text at)) = IsWrongAt text at
ReadsText text (Err (NoSchema id)) = ⊥
ReadsText text (Err Memory) = Unit {0}

-- ---- names for dropped schemas

-- the name that is looked up
abbrev pub shown : Option (Bor (List ℕ)) → Option (List ℕ)
shown found = option_map (λ name. name.now) found

abbrev pub is_dropped_schema : Kind → Bool
is_dropped_schema (kind.DroppedSchema id name) = true
is_dropped_schema k = false

-- kinds that are equal to these but for names, up to a dropped schema that has none
pub record IsNameless (found : ℕ → Option (List ℕ)) (kinds : List Kind) (id : ℕ) : Type 0 where
  pub before : List Kind
  pub behind : List Kind
  pub split : AreUnnamed (before ++ kind.DroppedSchema id [] ∷ behind) kinds
  pub named : AllByRecursion (IsNamed found) before
  pub lacks : found id ≡ None

abbrev pub NamesAll : (ℕ → Option (List ℕ)) → List Kind → Result (List Kind) BadChanges → Type 0
NamesAll found kinds (Ok named) = AreUnnamed named kinds × AllByRecursion (IsNamed found) named
NamesAll found kinds (Err (Text at)) = ⊥
NamesAll found kinds (Err (NoSchema id)) = IsNameless found kinds id
NamesAll found kinds (Err Memory) = Unit {0}

-- the same for one kind
abbrev pub NamesKind : (ℕ → Option (List ℕ)) → Kind → Result Kind BadChanges → Type 0
NamesKind found k (Ok named) = (unnamed named ≡ unnamed k) × IsNamed found named
NamesKind found k (Err (Text at)) = ⊥
NamesKind found k (Err (NoSchema id)) = (unnamed k ≡ kind.DroppedSchema id []) × (found id ≡ None)
NamesKind found k (Err Memory) = Unit {0}
