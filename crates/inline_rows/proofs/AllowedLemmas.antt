-- What a row may hold, tested cell by cell.
use Rattle.std.proofs.Common.{◌≡◌, ℕ, ◌+◌, ◌-◌, ◌^◌, ◌≤◌, Bool, List, [], ◌∷◌, length, min, Option, Some, None, refl, subst, arith, Decides}
use Rattle.std.specs.List.{AllByRecursion, list_all}
use Rattle.std.specs.Prelude.{nat_le}
use Rattle.std.proofs.lemmas.Bool.Decides.{Decides-and, Decides-like, Decides-ltb, nat_tests}
use Rattle.lake_types.specs.declared.value.Value.{Value}
use Rattle.lake_types.specs.declared.value.Value.TheVariants as value
use Rattle.inline_rows.specs.Allowed.{IsSmall, IsKnown, IsAllowed, AreAllowed, SpellsAllowed}
use Rattle.inline_rows.specs.Laws.{Spells}
use Rattle.inline_rows.specs.Tests.{are_allowed, are_light, is_allowed, is_known, is_small}
use Rattle.inline_rows.proofs.OneLemmas.{spells_one}

le_decides : (a b : ℕ) → Decides (nat_le a b) (a ≤ b)
le_decides a b = (λ e. grind (arith, nat_tests), λ le. grind (arith, nat_tests))

small_decides : (v : Value) → Decides (is_small v) (IsSmall v)
small_decides (value.Text text) = le_decides (length text) 16777216
small_decides (value.Bytes bytes) = le_decides (length bytes) 16777216
small_decides value.Null = (λ _. tt, λ _. refl)
small_decides (value.Bool b) = (λ _. tt, λ _. refl)
small_decides (value.Int n) = (λ _. tt, λ _. refl)
small_decides (value.Date day) = (λ _. tt, λ _. refl)

known_decides : (next : Option ℕ) (field : ℕ) → Decides (is_known next field) (IsKnown next field)
known_decides None field = (λ _. tt, λ _. refl)
known_decides (Some next) field = Decides-ltb field next

cell_decides : (next : Option ℕ) (cell : ℕ × Value) → Decides (is_allowed next cell) (IsAllowed next cell)
cell_decides next cell = Decides-and (is_small cell.1) (is_known next cell.0) (small_decides cell.1) (known_decides next cell.0)

each_decides : (next : Option ℕ) (cells : List (ℕ × Value)) → Decides (list_all (is_allowed next) cells) (AllByRecursion (IsAllowed next) cells)
each_decides next [] = (λ _. tt, λ _. refl)
each_decides next (cell ∷ cells) = Decides-and (is_allowed next cell) (list_all (is_allowed next) cells) (cell_decides next cell) (each_decides next cells)

pub cells_decide : (next : Option ℕ) (cells : List (ℕ × Value)) → Decides (are_allowed next cells) (AreAllowed next cells)
cells_decide next cells = Decides-and (list_all (is_allowed next) cells) (are_light cells) (each_decides next cells) (le_decides _ 67108864)

-- What decides of cells that the bytes spell decides of the bytes: they spell no other cells.
pub spelled_decides : (next : Option ℕ) (bytes : List ℕ) (cells : List (ℕ × Value)) (b : Bool) → Spells bytes cells → Decides b (AreAllowed next cells) → Decides b (SpellsAllowed next bytes)
spelled_decides next bytes cells b spells d =
    Decides-like b (λ are. (cells, spells, are)) (λ h. subst (AreAllowed next) (spells_one bytes h.0 cells h.1 spells) h.2) d

-- a row weighs 16 more than its cells
pub weighed : (weight : ℕ) → nat_le (min (16 + weight) (2 ^ 64 - 1)) 67108880 ≡ nat_le weight 67108864
weighed weight = grind (arith, nat_tests)

pub ruleset weighing = (weighed)
