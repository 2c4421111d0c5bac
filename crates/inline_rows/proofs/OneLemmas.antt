-- Bytes spell one list of cells at most.
use Rattle.std.proofs.Common.{◌≡◌, ℕ, suc, ◌+◌, ◌^◌, ◌<◌, ◌≤◌, true, List, [], ◌∷◌, length, Some, None, Ok, arith}
use Rattle.std.specs.List.{AllByRecursion}
use Rattle.std.specs.Prelude.{nat_lt}
use Rattle.std.proofs.lemmas.Bool.Decides.{nat_tests}
use Rattle.lake_types.specs.declared.value.Value.{Value}
use Rattle.inline_rows.specs.Laws.{SpellsOne}
use Rattle.inline_rows.specs.Reading.{decoded}
use Rattle.inline_rows.specs.Spelling.{IsCell, RisesFrom}
use Rattle.inline_rows.proofs.BackLemmas.{reads_back}

-- field ids rise and are below 2 to the 32, so there are no more cells than that
few_behind : (f : ℕ) (cells : List (ℕ × Value)) → RisesFrom (Some f) cells → AllByRecursion IsCell cells → f < 2 ^ 32 → length cells + suc f ≤ 2 ^ 32
few_behind f [] rises are lt = omega arith
few_behind f (cell ∷ cells) rises are lt =
    let past : nat_lt f cell.0 ≡ true = rises.0 in
    let next : f < cell.0 = grind (arith, nat_tests, past) in
    let small : cell.0 < 2 ^ 32 = are.0.0 in
    let rest = few_behind cell.0 cells rises.1 are.1 small in
    omega arith

pub few : (cells : List (ℕ × Value)) → RisesFrom None cells → AllByRecursion IsCell cells → length cells < 2 ^ 64
few [] rises are = omega arith
few (cell ∷ cells) rises are =
    let small : cell.0 < 2 ^ 32 = are.0.0 in
    let rest = few_behind cell.0 cells rises.1 are.1 small in
    omega arith

pub spells_one : SpellsOne
spells_one bytes a b p q =
    let first : decoded bytes ≡ Ok a = reads_back a bytes (few a p.1.1 p.1.0) p in
    let second : decoded bytes ≡ Ok b = reads_back b bytes (few b q.1.1 q.1.0) q in
    cc
