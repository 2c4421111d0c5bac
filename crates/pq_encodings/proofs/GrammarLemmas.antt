-- The reading gives exactly the values that the bytes hold.
use Rattle.std.proofs.Common.{◌≡◌, ℕ, zero, suc, ◌+◌, ◌-◌, ◌*◌, ◌/◌, ◌%◌, ◌^◌, ◌<◌, ◌≤◌, inl, inr, min, List, [], ◌∷◌, ◌++◌, length, take, drop, Result, Ok, Err, Option, Some, None, true, false, cond, refl, sym, ap, subst, ◌∙◌, arith, nat_eq, nat_lt}
use Rattle.std.specs.Prelude.{replicate}
use Rattle.std.proofs.Math.Seq.{drop-append-add, drop-append_seam}
use Rattle.std.proofs.lemmas.Bool.{cases_lt, eq-eqb, le-ltb, lt-ltb}
use Rattle.std.proofs.lemmas.List.{drop-drop, length-append, length-replicate, length-take, take-append-drop}
use Rattle.std.proofs.lemmas.List.FromFn.{length-map-range_with_len}
use Rattle.byteorder.specs.Endian.{little_number}
use Rattle.pq_encodings.specs.declared.fault.EncFault.{EncFault}
use Rattle.pq_encodings.specs.declared.fault.EncFault.TheVariants as fault
use Rattle.pq_encodings.specs.declared.varint.Varint.{Varint}
use Rattle.pq_encodings.specs.declared.varint.Varint.TheVariants as varint
use Rattle.pq_encodings.specs.Bits.{packed_number, packed_numbers}
use Rattle.pq_encodings.specs.Grammar.{HoldsRuns, IsHeader, none, packed, repeated}
use Rattle.pq_encodings.specs.Runs.{Reading, all_of, behind_header, body_of, in_front, levels_in, packed_run, repeated_run, run_at, run_of, runs_in, whole_bytes}
use Rattle.pq_encodings.specs.Varint.{IsVarint, onto_seven, varint_in}
use Rattle.pq_encodings.proofs.RunLemmas.{none_wanted, one_fault, one_run}

-- ---- Variable-length numbers

-- a number that was found is spelled by the bytes that it takes
pub record Found (most : ℕ) (bytes : List ℕ) (n len : ℕ) : Type 0 where
  pub spelled : IsVarint (take len bytes) n
  pub few : len ≤ most
  pub within : len ≤ length bytes
  pub fits : n < 2 ^ 64

longer : (b high n : ℕ) (rest : List ℕ) → 128 ≤ b → n ≡ b - 128 + 128 * high → IsVarint rest high → IsVarint (b ∷ rest) n
longer b high n [] h e spelled = absurd spelled
longer b high n (c ∷ cs) h e spelled = (h, high, e, spelled)

onto_seven-is : (low : ℕ) (r : Varint) (n len : ℕ) → onto_seven low r ≡ varint.Is n len →
    (high : ℕ) × (below : ℕ) × (r ≡ varint.Is high below) × (n ≡ low + 128 * high) × (len ≡ below + 1) × (n < 2 ^ 64)
onto_seven-is low varint.Short n len h = cc
onto_seven-is low varint.Wide n len h = cc
onto_seven-is low (varint.Is high below) n len h =
    elim (cases_lt (low + 128 * high) (2 ^ 64)) [
      | inl p ↦
          let test : nat_lt (low + 128 * high) (2 ^ 64) ≡ true = grind arith in
          let same : varint.Is (low + 128 * high) (below + 1) ≡ varint.Is n len = rw test at h in
          let number : low + 128 * high ≡ n = cc in
          let size : below + 1 ≡ len = cc in
          (high, below, refl, sym number, sym size, omega arith)
      | inr p ↦
          let test : nat_lt (low + 128 * high) (2 ^ 64) ≡ false = grind arith in
          let other : varint.Wide ≡ varint.Is n len = rw test at h in
          cc
    ]

pub varint-found : (most : ℕ) (bytes : List ℕ) (n len : ℕ) → varint_in most bytes ≡ varint.Is n len → Found most bytes n len
varint-found most [] n len h =
    elim (nat_eq most 0) as (λ t. cond t varint.Wide varint.Short ≡ varint.Is n len → Found most [] n len) [ true ↦ λ e. cc | false ↦ λ e. cc ] h
varint-found most (b ∷ bytes) n len h =
    elim (cases_lt 0 most) [
      | inr nothing ↦
          let test : nat_eq most 0 ≡ true = grind arith in
          let other : varint.Wide ≡ varint.Is n len = rw test at h in
          cc
      | inl some ↦
          let test : nat_eq most 0 ≡ false = grind arith in
          elim (cases_lt b 128) [
            | inl last ↦
                let low : nat_lt b 128 ≡ true = grind arith in
                let same : varint.Is b 1 ≡ varint.Is n len = rw (test, low) at h in
                let number : b ≡ n = cc in
                let size : 1 ≡ len = cc in
                rw (← number, ← size) (record { spelled = (last, refl); few = omega arith; within = omega arith; fits = omega arith })
            | inr more ↦
                let high : nat_lt b 128 ≡ false = grind arith in
                let same : onto_seven (b - 128) (varint_in (most - 1) bytes) ≡ varint.Is n len = rw (test, high) at h in
                let parts = onto_seven-is (b - 128) (varint_in (most - 1) bytes) n len same in
                let rest = varint-found (most - 1) bytes parts.0 parts.1 parts.2 in
                let size : len ≡ suc parts.1 = omega (arith, parts.4) in
                rw size (record {
                  spelled = longer b parts.0 n (take parts.1 bytes) more parts.3 rest.spelled;
                  few = omega (arith, rest.few);
                  within = omega (arith, rest.within);
                  fits = parts.5;
                })
          ]
    ]

-- a number that is spelled is found, whatever follows
pub varint-again : (most : ℕ) (bytes more : List ℕ) (n : ℕ) → IsVarint bytes n → length bytes ≤ most → n < 2 ^ 64 →
    varint_in most (bytes ++ more) ≡ varint.Is n (length bytes)
varint-again most [] more n spelled few fits = absurd spelled
varint-again most (b ∷ []) more n spelled few fits =
    let some : nat_eq most 0 ≡ false = grind arith in
    let low : nat_lt b 128 ≡ true = grind (arith, spelled.0) in
    rw (some, low, spelled.1) refl
varint-again most (b ∷ c ∷ bytes) more n spelled few fits =
    let some : nat_eq most 0 ≡ false = grind arith in
    let high : nat_lt b 128 ≡ false = grind (arith, spelled.0) in
    let rest : varint_in (most - 1) ((c ∷ bytes) ++ more) ≡ varint.Is spelled.1 (length (c ∷ bytes)) =
    varint-again (most - 1) (c ∷ bytes) more spelled.1 spelled.3 (omega arith) (omega (arith, spelled.2)) in
    let small : nat_lt (b - 128 + 128 * spelled.1) (2 ^ 64) ≡ true = lt-ltb (b - 128 + 128 * spelled.1) (2 ^ 64) (omega (arith, spelled.2)) in
    rw (some, high, rest, small) (ap (λ m. varint.Is m (length (c ∷ bytes) + 1)) (sym spelled.2) ∙ ap (λ m. varint.Is n m) (omega arith))

-- ---- Runs

err-ok : (e : EncFault) (x : List ℕ × ℕ) → ◌≡◌ {A = Result (List ℕ × ℕ) EncFault} (Err e) (Ok x) → ⊥
err-ok e x h = cc

-- the parts of an answer
values_of_ok : (p q : List ℕ × ℕ) → ◌≡◌ {A = Result (List ℕ × ℕ) EncFault} (Ok p) (Ok q) → (p.0 ≡ q.0) × (p.1 ≡ q.1)
values_of_ok p q h =
    let pair : p ≡ q = cc in
    (ap (λ x. x.0) pair, ap (λ x. x.1) pair)

behind_header-is : (len : ℕ) (read : Result (List ℕ × ℕ) EncFault) (xs : List ℕ) (used : ℕ) → behind_header len read ≡ Ok (xs, used) →
    (inner : ℕ) × (read ≡ Ok (xs, inner)) × (used ≡ len + inner)
behind_header-is len (Err e) xs used h = cc
behind_header-is len (Ok run) xs used h =
    let parts = values_of_ok (run.0, len + run.1) (xs, used) h in
    (run.1, ap (λ (ys : List ℕ). Ok (ys, run.1)) parts.0, sym parts.1)

-- a run of equal values that was read
pub record Repeats (width : ℕ) (body : List ℕ) (need count : ℕ) (xs : List ℕ) (used : ℕ) : Type 0 where
  pub most : count ≤ need
  pub whole : whole_bytes width ≤ length body
  pub values : xs ≡ replicate count (little_number (whole_bytes width) body)
  pub size : used ≡ whole_bytes width

repeated_run-is : (width : ℕ) (body : List ℕ) (need at count : ℕ) (xs : List ℕ) (used : ℕ) →
    repeated_run width body need at count ≡ Ok (xs, used) → Repeats width body need count xs used
repeated_run-is width body need at count xs used h =
    elim (cases_lt need count) [
      | inl p ↦
          let test : nat_lt need count ≡ true = grind arith in
          absurd (err-ok (fault.BadRun at) (xs, used) (rw test at h))
      | inr p ↦
          let test : nat_lt need count ≡ false = grind arith in
          elim (cases_lt (length body) (whole_bytes width)) [
            | inl q ↦
                let cut : nat_lt (length body) (whole_bytes width) ≡ true = grind arith in
                absurd (err-ok (fault.Short at) (xs, used) (rw (test, cut) at h))
            | inr q ↦
                let held : nat_lt (length body) (whole_bytes width) ≡ false = grind arith in
                let parts = values_of_ok (replicate count (little_number (whole_bytes width) body), whole_bytes width) (xs, used) (rw (test, held) at h) in
                record { most = p; whole = q; values = sym parts.0; size = sym parts.1 }
          ]
    ]

-- a packed run that was read
pub record Packs (width : ℕ) (body : List ℕ) (need groups : ℕ) (xs : List ℕ) (used : ℕ) : Type 0 where
  pub whole : groups * width ≤ length body
  pub values : xs ≡ packed_numbers width body (min need (8 * groups))
  pub size : used ≡ groups * width

packed_run-is : (width : ℕ) (body : List ℕ) (need at groups : ℕ) (xs : List ℕ) (used : ℕ) →
    packed_run width body need at groups ≡ Ok (xs, used) → Packs width body need groups xs used
packed_run-is width body need at groups xs used h =
    elim (cases_lt (length body) (groups * width)) [
      | inl q ↦
          let cut : nat_lt (length body) (groups * width) ≡ true = grind arith in
          absurd (err-ok (fault.Short at) (xs, used) (rw cut at h))
      | inr q ↦
          let held : nat_lt (length body) (groups * width) ≡ false = grind arith in
          let parts = values_of_ok (packed_numbers width body (min need (8 * groups)), groups * width) (xs, used) (rw held at h) in
          record { whole = q; values = sym parts.0; size = sym parts.1 }
    ]

-- what a run that was read says of the runs from it on
pub record Leads (width : ℕ) (bytes : List ℕ) (need : ℕ) (xs : List ℕ) (used : ℕ) : Type 0 where
  pub some : 0 < length xs
  pub onward : (values : List ℕ) → HoldsRuns width (need - length xs) (drop used bytes) values → HoldsRuns width need bytes (xs ++ values)

is_header : (bytes : List ℕ) (header len same : ℕ) → Found 10 bytes header len → header ≡ same → IsHeader (take len bytes) same
is_header bytes header len same found e =
    rw (← e) (record { spelled = found.spelled; few = omega (arith, length-take len bytes, found.few, found.within); fits = found.fits })

length-packed_numbers : (width : ℕ) (body : List ℕ) (count : ℕ) → length (packed_numbers width body count) ≡ count
length-packed_numbers width body count = length-map-range_with_len (λ k. packed_number width body (k * width)) 0 count

repeats_lead : (width : ℕ) (bytes : List ℕ) (need header len : ℕ) (xs : List ℕ) (inner : ℕ) → Found 10 bytes header len → 0 < header / 2 → header % 2 ≡ 0 →
    Repeats width (drop len bytes) need (header / 2) xs inner → Leads width bytes need xs (len + inner)
repeats_lead width bytes need header len xs inner found some even run =
    let body : List ℕ = drop len bytes in
    let count : ℕ = header / 2 in
    let equal : List ℕ = replicate count (little_number (whole_bytes width) body) in
    let size : length xs ≡ count = ap length run.values ∙ length-replicate count (little_number (whole_bytes width) body) in
    let left : need - length xs ≡ need - count = omega arith in
    let moved : drop (len + inner) bytes ≡ drop (whole_bytes width) body =
    sym (drop-drop inner len bytes) ∙ ap (λ n. drop n body) run.size in
    record {
      some = omega arith;
      onward = λ values rest.
          let here : HoldsRuns width (need - count) (drop (whole_bytes width) body) values = rw (← left, ← moved) rest in
          let all : HoldsRuns width need (take len bytes ++ body) (equal ++ values) =
          repeated count need (take len bytes) body values (is_header bytes header len (2 * count) found (omega arith)) some run.most run.whole here in
          rw run.values (subst (λ (bs : List ℕ). HoldsRuns width need bs (equal ++ values)) (take-append-drop len bytes) all);
    }

packs_lead : (width : ℕ) (bytes : List ℕ) (need header len : ℕ) (xs : List ℕ) (inner : ℕ) → Found 10 bytes header len → 0 < need → 0 < header / 2 → header % 2 ≡ 1 →
    Packs width (drop len bytes) need (header / 2) xs inner → Leads width bytes need xs (len + inner)
packs_lead width bytes need header len xs inner found wanted some odd run =
    let body : List ℕ = drop len bytes in
    let groups : ℕ = header / 2 in
    let numbers : List ℕ = packed_numbers width body (min need (8 * groups)) in
    let size : length xs ≡ min need (8 * groups) = ap length run.values ∙ length-packed_numbers width body (min need (8 * groups)) in
    let left : need - length xs ≡ need - 8 * groups = omega arith in
    let moved : drop (len + inner) bytes ≡ drop (groups * width) body =
    sym (drop-drop inner len bytes) ∙ ap (λ n. drop n body) run.size in
    record {
      some = omega arith;
      onward = λ values rest.
          let here : HoldsRuns width (need - 8 * groups) (drop (groups * width) body) values = rw (← left, ← moved) rest in
          let all : HoldsRuns width need (take len bytes ++ body) (numbers ++ values) =
          packed groups need (take len bytes) body values (is_header bytes header len (2 * groups + 1) found (omega arith)) some wanted run.whole here in
          rw run.values (subst (λ (bs : List ℕ). HoldsRuns width need bs (numbers ++ values)) (take-append-drop len bytes) all);
    }

body_leads : (width : ℕ) (bytes : List ℕ) (need at header len : ℕ) (xs : List ℕ) (inner : ℕ) → Found 10 bytes header len → 0 < need →
    body_of width (drop len bytes) need at header ≡ Ok (xs, inner) → Leads width bytes need xs (len + inner)
body_leads width bytes need at header len xs inner found wanted h =
    elim (cases_lt 0 (header / 2)) [
      | inr p ↦
          let test : nat_eq (header / 2) 0 ≡ true = grind arith in
          absurd (err-ok (fault.BadRun at) (xs, inner) (rw test at h))
      | inl p ↦
          let test : nat_eq (header / 2) 0 ≡ false = grind arith in
          elim (cases_lt 0 (header % 2)) [
            | inr q ↦
                let even : nat_eq (header % 2) 0 ≡ true = grind arith in
                let run : repeated_run width (drop len bytes) need at (header / 2) ≡ Ok (xs, inner) = rw (test, even) at h in
                repeats_lead width bytes need header len xs inner found p (omega arith) (repeated_run-is width (drop len bytes) need at (header / 2) xs inner run)
            | inl q ↦
                let odd : nat_eq (header % 2) 0 ≡ false = grind arith in
                let run : packed_run width (drop len bytes) need at (header / 2) ≡ Ok (xs, inner) = rw (test, odd) at h in
                packs_lead width bytes need header len xs inner found wanted p (omega arith) (packed_run-is width (drop len bytes) need at (header / 2) xs inner run)
          ]
    ]

run_of-leads : (width : ℕ) (bytes : List ℕ) (need at : ℕ) (v : Varint) (xs : List ℕ) (used : ℕ) → 0 < need → varint_in 10 bytes ≡ v →
    run_of width bytes need at v ≡ Ok (xs, used) → Leads width bytes need xs used
run_of-leads width bytes need at varint.Short xs used wanted e h = cc
run_of-leads width bytes need at varint.Wide xs used wanted e h = cc
run_of-leads width bytes need at (varint.Is header len) xs used wanted e h =
    let parts = behind_header-is len (body_of width (drop len bytes) need at header) xs used h in
    rw parts.2 (body_leads width bytes need at header len xs parts.0 (varint-found 10 bytes header len e) wanted parts.1)

run_at-leads : (width : ℕ) (bytes : List ℕ) (need at : ℕ) (xs : List ℕ) (used : ℕ) → 0 < need →
    run_at width bytes need at ≡ Ok (xs, used) → Leads width bytes need xs used
unfolding run_at
run_at-leads width bytes need at xs used wanted h = run_of-leads width bytes need at (varint_in 10 bytes) xs used wanted refl h

pub holds_nothing : (width : ℕ) (bytes : List ℕ) → HoldsRuns width 0 bytes []
holds_nothing width bytes = none bytes

-- the values of a reading without a fault are held
abbrev IsHeld : ℕ → ℕ → List ℕ → ℕ → ℕ → Type 0
IsHeld most width bytes need at = (runs_in most width bytes need at).ended ≡ None → HoldsRuns width need bytes (runs_in most width bytes need at).values

held_after : (most width : ℕ) (bytes : List ℕ) (need at : ℕ) (read : Result (List ℕ × ℕ) EncFault) → 0 < need → need ≤ suc most → run_at width bytes need at ≡ read →
    ((rest : List ℕ) (left place : ℕ) → left ≤ most → IsHeld most width rest left place) → IsHeld (suc most) width bytes need at
held_after most width bytes need at (Err e) wanted few h onward whole =
    let ended : (runs_in (suc most) width bytes need at).ended ≡ Some e = ap (λ r. r.ended) (one_fault most width need at bytes e wanted h) in
    let other : Some e ≡ None = sym ended ∙ whole in
    cc
held_after most width bytes need at (Ok run) wanted few h onward whole =
    let leads = run_at-leads width bytes need at run.0 run.1 wanted h in
    let step = one_run most width need at run.1 bytes run.0 wanted h in
    let rest = onward (drop run.1 bytes) (need - length run.0) (at + run.1) (omega (arith, leads.some)) (sym (ap (λ r. r.ended) step) ∙ whole) in
    subst (λ (xs : List ℕ). HoldsRuns width need bytes xs) (sym (ap (λ r. r.values) step)) (leads.onward (runs_in most width (drop run.1 bytes) (need - length run.0) (at + run.1)).values rest)

held_none : (most width : ℕ) (bytes : List ℕ) (need at : ℕ) → need ≡ 0 → HoldsRuns width need bytes (runs_in most width bytes need at).values
held_none most width bytes need at nothing = rw (nothing, none_wanted most width at bytes) (none bytes)

pub runs_in-held : (most width : ℕ) (bytes : List ℕ) (need at : ℕ) → need ≤ most → IsHeld most width bytes need at
runs_in-held zero width bytes need at few whole = held_none zero width bytes need at (omega arith)
runs_in-held (suc most) width bytes need at few whole =
    elim (cases_lt 0 need) [
      | inr p ↦ held_none (suc most) width bytes need at (omega arith)
      | inl p ↦ held_after most width bytes need at (run_at width bytes need at) p few refl (λ rest left place h. runs_in-held most width rest left place h) whole
    ]

-- ---- What is held is read

run_at-repeated : (width count need at : ℕ) (header body : List ℕ) → IsHeader header (2 * count) → 0 < count → count ≤ need → whole_bytes width ≤ length body →
    run_at width (header ++ body) need at ≡ Ok (replicate count (little_number (whole_bytes width) body), length header + whole_bytes width)
unfolding run_at
run_at-repeated width count need at header body is_number some few held =
    let number : varint_in 10 (header ++ body) ≡ varint.Is (2 * count) (length header) = varint-again 10 header body (2 * count) is_number.spelled is_number.few is_number.fits in
    let half : 2 * count / 2 ≡ count = omega arith in
    let even : nat_eq (2 * count % 2) 0 ≡ true = eq-eqb (2 * count % 2) 0 (omega arith) in
    let filled : nat_eq count 0 ≡ false = grind arith in
    let within : nat_lt need count ≡ false = le-ltb need count few in
    let whole : nat_lt (length body) (whole_bytes width) ≡ false = le-ltb (length body) (whole_bytes width) held in
    rw (number, drop-append_seam header body, half, filled, even, within, whole) refl

run_at-packed : (width groups need at : ℕ) (header body : List ℕ) → IsHeader header (2 * groups + 1) → 0 < groups → groups * width ≤ length body →
    run_at width (header ++ body) need at ≡ Ok (packed_numbers width body (min need (8 * groups)), length header + groups * width)
unfolding run_at
run_at-packed width groups need at header body is_number some held =
    let number : varint_in 10 (header ++ body) ≡ varint.Is (2 * groups + 1) (length header) = varint-again 10 header body (2 * groups + 1) is_number.spelled is_number.few is_number.fits in
    let half : (2 * groups + 1) / 2 ≡ groups = omega arith in
    let odd : nat_eq ((2 * groups + 1) % 2) 0 ≡ false = grind arith in
    let filled : nat_eq groups 0 ≡ false = grind arith in
    let whole : nat_lt (length body) (groups * width) ≡ false = le-ltb (length body) (groups * width) held in
    rw (number, drop-append_seam header body, half, filled, odd, whole) refl

-- the reading goes on behind a run that is held
read_onward : (most width need at used : ℕ) (header body xs values : List ℕ) → 0 < need → need ≤ most → length xs ≤ need → 0 < length xs →
    run_at width (header ++ body) need at ≡ Ok (xs, length header + used) →
    ((m place : ℕ) → need - length xs ≤ m → runs_in m width (drop used body) (need - length xs) place ≡ record { values = values; ended = None }) →
    runs_in most width (header ++ body) need at ≡ record { values = xs ++ values; ended = None }
read_onward most width need at used header body xs values wanted few within some h onward =
    let fuel : most ≡ suc (most - 1) = omega arith in
    ap (λ m. runs_in m width (header ++ body) need at) fuel
    ∙ one_run (most - 1) width need at (length header + used) (header ++ body) xs wanted h
    ∙ ap (λ rest. in_front xs (runs_in (most - 1) width rest (need - length xs) (at + (length header + used)))) (drop-append-add header body used)
    ∙ ap (λ r. in_front xs r) (onward (most - 1) (at + (length header + used)) (omega arith))

pub runs_in-of_held : {width need : ℕ} {bytes values : List ℕ} → HoldsRuns width need bytes values → (most at : ℕ) → need ≤ most →
    runs_in most width bytes need at ≡ record { values = values; ended = None }
runs_in-of_held {width = width} (none bytes) most at few = none_wanted most width at bytes
runs_in-of_held {width = width} (repeated count need header body values is_number some within held rest) most at few =
    let equal : List ℕ = replicate count (little_number (whole_bytes width) body) in
    let size : length equal ≡ count = length-replicate count (little_number (whole_bytes width) body) in
    read_onward most width need at (whole_bytes width) header body equal values (omega arith) few (omega arith) (omega arith)
    (run_at-repeated width count need at header body is_number some within held)
    (λ m place h. rw size (runs_in-of_held rest m place (omega arith)))
runs_in-of_held {width = width} (packed groups need header body values is_number some wanted held rest) most at few =
    let numbers : List ℕ = packed_numbers width body (min need (8 * groups)) in
    let size : length numbers ≡ min need (8 * groups) = length-packed_numbers width body (min need (8 * groups)) in
    let left : need - length numbers ≡ need - 8 * groups = omega arith in
    read_onward most width need at (groups * width) header body numbers values wanted few (omega arith) (omega arith)
    (run_at-packed width groups need at header body is_number some held)
    (λ m place h. rw left (runs_in-of_held rest m place (omega arith)))

-- ---- Levels

pub all_of-is : (xs : List ℕ) (o : Option EncFault) (ys : List ℕ) → all_of xs o ≡ Ok ys → (xs ≡ ys) × (o ≡ None)
all_of-is xs None ys h =
    let same : xs ≡ ys = cc in (same, refl)
all_of-is xs (Some e) ys h = cc

-- what is answered is held
pub levels_in-held : (width : ℕ) (bytes : List ℕ) (count : ℕ) (xs : List ℕ) → levels_in width bytes count ≡ Ok xs → HoldsRuns width count bytes xs
levels_in-held width bytes count xs h =
    let r : Reading = runs_in count width bytes count 0 in
    let parts = all_of-is r.values r.ended xs h in
    subst (λ (ys : List ℕ). HoldsRuns width count bytes ys) parts.0 (runs_in-held count width bytes count 0 (omega arith) parts.1)

-- what is held is answered
pub levels_in-of_held : (width : ℕ) (bytes : List ℕ) (count : ℕ) (xs : List ℕ) → HoldsRuns width count bytes xs → levels_in width bytes count ≡ Ok xs
levels_in-of_held width bytes count xs held =
    let read = runs_in-of_held held count 0 (omega arith) in
    rw read refl

-- ---- As many values as are wanted

pub held_count : {width need : ℕ} {bytes values : List ℕ} → HoldsRuns width need bytes values → length values ≡ need
held_count (none bytes) = refl
held_count {width = width} (repeated count need header body values is_number some within held rest) =
    let number : ℕ = little_number (whole_bytes width) body in
    omega (arith, length-append (replicate count number) values, length-replicate count number, held_count rest, within)
held_count {width = width} (packed groups need header body values is_number some wanted held rest) =
    let numbers : List ℕ = packed_numbers width body (min need (8 * groups)) in
    omega (arith, length-append numbers values, length-packed_numbers width body (min need (8 * groups)), held_count rest)

pub levels_in-count : (width count : ℕ) (bytes xs : List ℕ) → levels_in width bytes count ≡ Ok xs → length xs ≡ count
levels_in-count width count bytes xs h = held_count (levels_in-held width bytes count xs h)
