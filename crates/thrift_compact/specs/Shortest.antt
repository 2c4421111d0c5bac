-- The shortest spelling of each item that is written.
use Rattle.std.specs.Prelude.{◌≡◌, ℕ, ℤ, pos, negsuc, zero, suc, ◌+◌, ◌*◌, ◌/◌, ◌%◌, ◌≤◌, ◌+ℤ◌, ◌-ℤ◌, int_le, unsigned_abs, List, [], ◌∷◌, ◌++◌, length, nat_lt, if◌then◌else◌}

-- seven bits a byte, the low ones first, in no more bytes than are needed
unfoldable pub number_spelling : ℕ → ℕ → List ℕ
number_spelling zero n = []
number_spelling (suc most) n = if nat_lt n 128 then n ∷ [] else (128 + n % 128) ∷ number_spelling most (n / 128)

-- a number below 2 ^ 64
abbrev pub unsigned_spelling : ℕ → List ℕ
unsigned_spelling n = number_spelling 10 n

-- zigzag: 0, -1, 1, -2 become 0, 1, 2, 3
abbrev pub to_zigzag : ℤ → ℕ
to_zigzag (pos n) = 2 * n
to_zigzag (negsuc n) = 2 * n + 1

abbrev pub signed_spelling : ℤ → List ℕ
signed_spelling z = unsigned_spelling (to_zigzag z)

-- the length, and then the bytes
abbrev pub binary_spelling : List ℕ → List ℕ
binary_spelling text = unsigned_spelling (length text) ++ text

-- a field's header: the step from the field `last` where it is at most 15, else the id
unfoldable pub field_spelling : ℤ → ℤ → ℕ → List ℕ
field_spelling last id ty =
    if int_le id (last +ℤ pos 15) then (16 * unsigned_abs (id -ℤ last) + ty) ∷ [] else ty ∷ signed_spelling id

-- a list's header: the size with the type where it is below 15, else behind it
unfoldable pub list_spelling : ℕ → ℕ → List ℕ
list_spelling ty size = if nat_lt size 15 then (16 * size + ty) ∷ [] else (240 + ty) ∷ unsigned_spelling size

-- These bytes spell x, and nothing that spells it is shorter.
pub record IsShortest {A : Type 0} (S : List ℕ → A → Type 0) (bytes : List ℕ) (x : A) : Type 0 where
  pub spells : S bytes x
  pub least : (other : List ℕ) → S other x → length bytes ≤ length other

-- The bytes have gained the shortest spelling of x at their end.
unfoldable pub Appends : {A : Type 0} → (List ℕ → A → Type 0) → List ℕ → List ℕ → A → Type 0
Appends S old new x = (back : List ℕ) × (new ≡ old ++ back) × IsShortest S back x
