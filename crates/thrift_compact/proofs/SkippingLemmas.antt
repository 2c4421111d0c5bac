-- One turn of the loops that pass over elements and fields, and the cases of a value.
use Rattle.std.proofs.Common.{◌≡◌, ℕ, ℤ, zero, suc, ◌+◌, ◌-◌, ◌<◌, ◌≤◌, List, Ok, Err, Option, Some, None, refl, arith, true, false}
use Rattle.thrift_compact.specs.declared.fault.ThriftFault.TheVariants.{Short, TooDeep}
use Rattle.answers.specs.Answers.{◌>>=◌}
use Rattle.thrift_compact.specs.Reading.{Rest, start_of, after_each, after_fields, after_value, field_header_in, after_plain, is_nested, after_nested}

pub each_step : (step : List ℕ → Rest) (count i : ℕ) (bytes : List ℕ) → i < count → after_each step (count - i) bytes ≡ (step bytes >>= after_each step (count - (i + 1)))
unfolding after_each
each_step step count i bytes lt =
    let k : count - i ≡ suc (count - (i + 1)) = omega arith in
    rw k refl

pub each_done : (step : List ℕ → Rest) (count i : ℕ) (bytes : List ℕ) → count ≤ i → after_each step (count - i) bytes ≡ Ok bytes
unfolding after_each
each_done step count i bytes le =
    let k : count - i ≡ 0 = omega arith in
    rw k refl

abbrev pub after_field : ℕ → (ℕ → List ℕ → Rest) → ℕ → Option (ℤ × ℕ) × List ℕ → Rest
after_field end value most header = elim header.0 [ None ↦ Ok header.1 | Some field ↦ value field.1 header.1 >>= after_fields end value most field.0 ]

pub fields_step : (end : ℕ) (value : ℕ → List ℕ → Rest) (count i : ℕ) (last : ℤ) (bytes : List ℕ) → i < count
    → after_fields end value (count - i) last bytes ≡ (field_header_in (start_of end bytes) last bytes >>= after_field end value (count - (i + 1)))
unfolding after_fields
fields_step end value count i last bytes lt =
    let k : count - i ≡ suc (count - (i + 1)) = omega arith in
    rw k refl

pub fields_done : (end : ℕ) (value : ℕ → List ℕ → Rest) (count i : ℕ) (last : ℤ) (bytes : List ℕ) → count ≤ i
    → after_fields end value (count - i) last bytes ≡ Err (Short (start_of end bytes))
unfolding after_fields
fields_done end value count i last bytes le =
    let k : count - i ≡ 0 = omega arith in
    rw k refl

pub value_plain : (end depth ty : ℕ) (bytes : List ℕ) → is_nested ty ≡ false → after_value end depth ty bytes ≡ after_plain (start_of end bytes) ty bytes
unfolding after_value
value_plain end zero ty bytes h = rw h refl
value_plain end (suc depth) ty bytes h = rw h refl

pub value_nested : (end depth ty : ℕ) (bytes : List ℕ) → 0 < depth → is_nested ty ≡ true → after_value end depth ty bytes ≡ after_nested end (after_value end (depth - 1)) ty bytes
unfolding after_value
value_nested end zero ty bytes lt h = absurd (omega arith)
value_nested end (suc depth) ty bytes lt h =
    let k : suc depth - 1 ≡ depth = omega arith in
    rw (k, h) refl

pub value_deep : (end ty : ℕ) (bytes : List ℕ) → is_nested ty ≡ true → after_value end 0 ty bytes ≡ Err (TooDeep (start_of end bytes))
unfolding after_value
value_deep end ty bytes h = rw h refl

pub ruleset each_turn = (each_step, each_done)

pub ruleset fields_turn = (fields_step, fields_done)

pub ruleset value_cases = (value_nested, value_plain, value_deep)
