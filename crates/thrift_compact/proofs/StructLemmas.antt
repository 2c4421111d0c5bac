-- The fields of a struct and the items of a list, one turn of a loop at a time.
use Rattle.std.proofs.Common.{◌≡◌, ℕ, ℤ, ◌+◌, ◌-◌, ◌<◌, ◌≤◌, suc, List, [], ◌∷◌, ◌++◌, Option, Some, None, Ok, Err, refl, sym, ap, ◌∙◌, append_assoc, arith}
use Rattle.std.proofs.lemmas.List.{append-nil}
use Rattle.thrift_compact.specs.declared.fault.ThriftFault.{ThriftFault}
use Rattle.thrift_compact.specs.declared.fault.ThriftFault.TheVariants as thrift
use Rattle.answers.specs.Answers.{◌>>=◌, Fails, raised}
use Rattle.answers.proofs.AnswerLemmas.{raised_handed_on}
use Rattle.thrift_compact.specs.Reading.{Read, start_of, field_header_in}
use Rattle.thrift_compact.specs.declared.struct_fault.StructFault.{StructFault}
use Rattle.thrift_compact.specs.declared.struct_fault.StructFault.TheVariants as fault
use Rattle.thrift_compact.specs.Structs.{is_memory, struct_in, row_in}

-- what follows a header, with at most so many fields behind it
abbrev pub behind_header : {D : Type 0} → ℕ → (D → ℤ → ℕ → List ℕ → Read D) → ℕ → D → Option (ℤ × ℕ) × List ℕ → Read D
behind_header end part most draft header = elim header.0 [ None ↦ Ok (draft, header.1) | Some f ↦ part draft f.0 f.1 header.1 >>= λ x. struct_in end part most f.0 x.0 x.1 ]

pub struct_step : {D : Type 0} (end : ℕ) (part : D → ℤ → ℕ → List ℕ → Read D) (count i : ℕ) (last : ℤ) (draft : D) (bytes : List ℕ) → i < count
    → struct_in end part (count - i) last draft bytes ≡ (field_header_in (start_of end bytes) last bytes >>= behind_header end part (count - (i + 1)) draft)
unfolding struct_in
struct_step end part count i last draft bytes lt =
    let k : count - i ≡ suc (count - (i + 1)) = omega arith in
    rw k refl

-- a field that is not read
pub struct_fails : {D : Type 0} (end : ℕ) (part : D → ℤ → ℕ → List ℕ → Read D) (draft : D) (id : ℤ) (ty : ℕ) (most : ℕ) (bytes : List ℕ) (e : StructFault)
    → Fails is_memory e (raised fault.Thrift (part draft id ty bytes)) → Fails is_memory e (raised fault.Thrift (part draft id ty bytes >>= λ x. struct_in end part most id x.0 x.1))
struct_fails end part draft id ty most bytes e h = raised_handed_on is_memory fault.Thrift e (part draft id ty bytes) _ h

pub struct_done : {D : Type 0} (end : ℕ) (part : D → ℤ → ℕ → List ℕ → Read D) (count i : ℕ) (last : ℤ) (draft : D) (bytes : List ℕ) → count ≤ i
    → struct_in end part (count - i) last draft bytes ≡ Err (thrift.Short (start_of end bytes))
unfolding struct_in
struct_done end part count i last draft bytes le =
    let k : count - i ≡ 0 = omega arith in
    rw k refl

-- the items that were read, before those that are still read
abbrev pub with_front : {A : Type 0} → List A → Read (List A) → Read (List A)
with_front front read = read >>= λ x. Ok (front ++ x.0, x.1)

regroup : {A : Type 0} (front : List A) (n : A) (read : Read (List A)) → with_front front (read >>= λ x. Ok (n ∷ x.0, x.1)) ≡ with_front (front ++ n ∷ []) read
regroup {A = A} front n (Ok x) = ap (λ (ns : List A). Ok (ns, x.1)) (simp append_assoc)
regroup front n (Err f) = refl

pub row_goes_on : {A : Type 0} (item : List ℕ → Read A) (front : List A) (count i : ℕ) (bytes : List ℕ) (n : A) (after : List ℕ) (total : Read (List A)) → i < count → item bytes ≡ Ok (n, after)
    → with_front front (row_in item (count - i) bytes) ≡ total → with_front (front ++ n ∷ []) (row_in item (count - (i + 1)) after) ≡ total
unfolding row_in
row_goes_on item front count i bytes n after total lt h so_far =
    let k : count - i ≡ suc (count - (i + 1)) = omega arith in
    let one : with_front front (row_in item (count - i) bytes) ≡ with_front (front ++ n ∷ []) (row_in item (count - (i + 1)) after) = rw (k, h) (regroup front n (row_in item (count - (i + 1)) after)) in
    sym one ∙ so_far

pub row_fails : {A : Type 0} (item : List ℕ → Read A) (front : List A) (count i : ℕ) (bytes : List ℕ) (e : StructFault) (total : Read (List A)) → i < count
    → Fails is_memory e (raised fault.Thrift (item bytes)) → with_front front (row_in item (count - i) bytes) ≡ total → Fails is_memory e (raised fault.Thrift total)
unfolding row_in
row_fails item front count i bytes e total lt h so_far =
    let k : count - i ≡ suc (count - (i + 1)) = omega arith in
    rw (← so_far) (rw k
    (raised_handed_on is_memory fault.Thrift e _ _ (raised_handed_on is_memory fault.Thrift e (item bytes) _ h)))

pub row_ends : {A : Type 0} (item : List ℕ → Read A) (front : List A) (count i : ℕ) (bytes : List ℕ) (total : Read (List A)) → count ≤ i → with_front front (row_in item (count - i) bytes) ≡ total → total ≡ Ok (front, bytes)
unfolding row_in
row_ends {A = A} item front count i bytes total le so_far =
    let k : count - i ≡ 0 = omega arith in
    let one : with_front front (row_in item (count - i) bytes) ≡ Ok (front, bytes) = rw k (ap (λ (ns : List A). Ok (ns, bytes)) (append-nil front)) in
    sym so_far ∙ one

-- a fault of the bytes that a struct has is the fault of reading
pub not_read : {A : Type 0} (read : Read A) (f : ThriftFault) → raised fault.Thrift read ≡ Err (fault.Thrift f) → read ≡ Err f
not_read (Ok x) f h = cc
not_read (Err g) f h = cc
