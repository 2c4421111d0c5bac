-- Levels and booleans are read exactly where the bytes hold them.
use Rattle.std.proofs.Common.{◌≡◌, ◌≢◌, ℕ, zero, suc, ◌≤◌, nat_eq, nat_lt, List, [], ◌++◌, length, take, drop, map, replicate, inl, inr, Bool, true, false, cond, Result, Ok, Err, refl, sym, subst, arith}
use Rattle.std.proofs.Math.Seq.{drop-append_seam, take-append_seam}
use Rattle.std.proofs.lemmas.Bool.{eqb-true, le-ltb, ltb-false, ne_eqb}
use Rattle.std.proofs.lemmas.List.{length-append, length-take, take-append-drop}
use Rattle.byteorder.specs.Endian.{little_number}
use Rattle.answers.specs.Answers.{◌>>=◌}
use Rattle.answers.proofs.AnswerLemmas.{steps, err_ok, ok_same}
use Rattle.pq_encodings.specs.Runs.{levels_in}
use Rattle.pq_encodings.specs.Values.{Values, bools}
use Rattle.pq_encodings.proofs.GrammarLemmas.{levels_in-held, levels_in-of_held}
use Rattle.thrift_compact.proofs.Matching.{chosen}
use Rattle.pq_pages.specs.declared.fault.PageFault.{PageFault}
use Rattle.pq_pages.specs.Answers.{of_values}
use Rattle.pq_pages.specs.Holding.{AreRuns, HasLevels, HasLevelsV2, HoldsFlags, HoldsFramedFlags, IsFramed}
use Rattle.pq_pages.specs.Pages.{cut_off, data_levels, data_v2_levels, flags_in, framed, is_one, run_values}
use Rattle.pq_pages.proofs.FitLemmas.{ok_enc}

pub not_zero : (count : ℕ) → nat_eq count 0 ≡ false → count ≢ 0
not_zero zero h = cc
not_zero (suc count) h = λ e. cc

-- ---- A part behind its length

framed_held : (bytes : List ℕ) (x : List ℕ × List ℕ) → framed bytes ≡ Ok x → IsFramed bytes x.0 x.1
unfolding framed
framed_held bytes x h =
    let d : List ℕ = drop 4 bytes in
    let n : ℕ = little_number 4 bytes in
    let inner : Result (List ℕ × List ℕ) PageFault = cond (nat_lt (length d) n) (Err cut_off) (Ok (take n d, drop n d)) in
    elim (chosen (nat_lt (length bytes) 4) (Err cut_off) inner (Ok x) h) [
      | inl a ↦ absurd (err_ok cut_off x a.1)
      | inr a ↦ elim (chosen (nat_lt (length d) n) (Err cut_off) (Ok (take n d, drop n d)) (Ok x) a.1) [
        | inl b ↦ absurd (err_ok cut_off x b.1)
        | inr b ↦
            let same : (take n d, drop n d) ≡ x = ok_same (take n d, drop n d) x b.1 in
            let room : 4 ≤ length bytes = ltb-false (length bytes) 4 a.0 in
            let inside : n ≤ length d = ltb-false (length d) n b.0 in
            let size : length (take n d) ≡ n = omega (arith, length-take n d, inside) in
            subst (λ (y : List ℕ × List ℕ). IsFramed bytes y.0 y.1) same (record { room = room; size = size; parts = sym (take-append-drop n d) })
      ]
    ]

framed_found : (bytes part behind : List ℕ) → IsFramed bytes part behind → framed bytes ≡ Ok (part, behind)
unfolding framed
framed_found bytes part behind is =
    let enough : nat_lt (length bytes) 4 ≡ false = le-ltb _ _ is.room in
    let held : nat_lt (length (part ++ behind)) (length part) ≡ false = le-ltb _ _ (omega (arith, length-append part behind)) in
    rw (enough, is.parts, ← is.size, held, take-append_seam part behind, drop-append_seam part behind) refl

-- ---- Flags

flags_held : (count : ℕ) (bytes : List ℕ) (flags : List Bool) → flags_in count bytes ≡ Ok flags → HoldsFlags count bytes flags
unfolding flags_in
flags_held count bytes flags h =
    let b = steps (of_values (levels_in 1 bytes count)) (λ xs. Ok (map is_one xs)) flags h in
    let read : levels_in 1 bytes count ≡ Ok b.value = ok_enc (levels_in 1 bytes count) b.value b.gives in
    record { levels = b.value; runs = levels_in-held 1 bytes count b.value read; ones = sym (ok_same (map is_one b.value) flags b.later) }

flags_found : (count : ℕ) (bytes : List ℕ) (flags : List Bool) → HoldsFlags count bytes flags → flags_in count bytes ≡ Ok flags
unfolding flags_in
flags_found count bytes flags is = rw (levels_in-of_held 1 bytes count is.levels is.runs, is.ones) refl

-- ---- The levels of a data page

pub levels_held : (optional : Bool) (count : ℕ) (body : List ℕ) (x : List Bool × List ℕ) → data_levels optional count body ≡ Ok x → HasLevels optional count body x.0 x.1
unfolding data_levels
levels_held false count body x h =
    subst (λ (y : List Bool × List ℕ). HasLevels false count body y.0 y.1) (ok_same (replicate count true, body) x h) (refl, refl)
levels_held true count body x h =
    let more : Result (List Bool × List ℕ) PageFault = framed body >>= λ parts. flags_in count parts.0 >>= λ flags. Ok (flags, parts.1) in
    elim (chosen (nat_eq count 0) (Ok ([], body)) more (Ok x) h) [
      | inl a ↦ subst (λ (y : List Bool × List ℕ). HasLevels true count body y.0 y.1) (ok_same ([], body) x a.1) (inl (eqb-true count 0 a.0, refl, refl))
      | inr a ↦
          let b = steps (framed body) (λ parts. flags_in count parts.0 >>= λ flags. Ok (flags, parts.1)) x a.1 in
          let c = steps (flags_in count b.value.0) (λ flags. Ok (flags, b.value.1)) x b.later in
          let is : HoldsFramedFlags count body c.value b.value.1 =
          record { part = b.value.0; framed = framed_held body b.value b.gives; holds = flags_held count b.value.0 c.value c.gives } in
          subst (λ (y : List Bool × List ℕ). HasLevels true count body y.0 y.1) (ok_same (c.value, b.value.1) x c.later) (inr (not_zero count a.0, is))
    ]

pub levels_found : (optional : Bool) (count : ℕ) (body : List ℕ) (flags : List Bool) (behind : List ℕ) → HasLevels optional count body flags behind → data_levels optional count body ≡ Ok (flags, behind)
unfolding data_levels
levels_found false count body flags behind is = rw (is.0, is.1) refl
levels_found true count body flags behind (inl a) = rw (a.0, a.1, a.2) refl
levels_found true count body flags behind (inr a) =
    let is = a.1 in
    let some : nat_eq count 0 ≡ false = ne_eqb count 0 a.0 in
    rw (some, framed_found body is.part behind is.framed, flags_found count is.part flags is.holds) refl

pub levels_v2_held : (optional : Bool) (count size : ℕ) (body : List ℕ) (x : List Bool × List ℕ) → data_v2_levels optional count size body ≡ Ok x → HasLevelsV2 optional count size body x.0 x.1
unfolding data_v2_levels
levels_v2_held false count size body x h =
    subst (λ (y : List Bool × List ℕ). HasLevelsV2 false count size body y.0 y.1) (ok_same (replicate count true, drop size body) x h) (refl, refl)
levels_v2_held true count size body x h =
    let b = steps (flags_in count (take size body)) (λ flags. Ok (flags, drop size body)) x h in
    subst (λ (y : List Bool × List ℕ). HasLevelsV2 true count size body y.0 y.1) (ok_same (b.value, drop size body) x b.later)
    (flags_held count (take size body) b.value b.gives, refl)

pub levels_v2_found : (optional : Bool) (count size : ℕ) (body : List ℕ) (flags : List Bool) (behind : List ℕ) → HasLevelsV2 optional count size body flags behind
    → data_v2_levels optional count size body ≡ Ok (flags, behind)
unfolding data_v2_levels
levels_v2_found false count size body flags behind is = rw (is.0, is.1) refl
levels_v2_found true count size body flags behind is = rw (flags_found count (take size body) flags is.0, is.1) refl

-- ---- Booleans as runs

pub runs_held : (count : ℕ) (bytes : List ℕ) (vs : Values) → run_values count bytes ≡ Ok vs → AreRuns count bytes vs
unfolding run_values
runs_held count bytes vs h =
    let more : Result Values PageFault = framed bytes >>= λ parts. flags_in count parts.0 >>= λ flags. Ok (bools flags) in
    elim (chosen (nat_eq count 0) (Ok (bools [])) more (Ok vs) h) [
      | inl a ↦ inl (eqb-true count 0 a.0, sym (ok_same (bools []) vs a.1))
      | inr a ↦
          let b = steps (framed bytes) (λ parts. flags_in count parts.0 >>= λ flags. Ok (bools flags)) vs a.1 in
          let c = steps (flags_in count b.value.0) (λ flags. Ok (bools flags)) vs b.later in
          let is : HoldsFramedFlags count bytes c.value b.value.1 =
          record { part = b.value.0; framed = framed_held bytes b.value b.gives; holds = flags_held count b.value.0 c.value c.gives } in
          inr (not_zero count a.0, record { flags = c.value; behind = b.value.1; holds = is; same = sym (ok_same (bools c.value) vs c.later) })
    ]

pub runs_found : (count : ℕ) (bytes : List ℕ) (vs : Values) → AreRuns count bytes vs → run_values count bytes ≡ Ok vs
unfolding run_values
runs_found count bytes vs (inl a) = rw (a.0, a.1) refl
runs_found count bytes vs (inr a) =
    let is = a.1 in
    let some : nat_eq count 0 ≡ false = ne_eqb count 0 a.0 in
    rw (some, framed_found bytes is.holds.part is.behind is.holds.framed, flags_found count is.holds.part is.flags is.holds.holds, is.same) refl
