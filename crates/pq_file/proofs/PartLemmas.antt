-- The parts of a group, one turn of a loop at a time.
use Rattle.std.proofs.Common.{◌≡◌, ℕ, pos, ◌+◌, ◌<◌, List, [], ◌∷◌, ◌++◌, true, false, length, drop, get_or, Option, Result, Ok, Err, refl, sym, ap, ◌∙◌, append_assoc, add-one, drop-cons}
use Rattle.std.proofs.lemmas.List.{append-nil}
use Rattle.std.proofs.Math.Seq.{drop-length}
use Rattle.pq_meta.specs.declared.meta.MetaColumn.{MetaColumn}
use Rattle.pq_meta.specs.declared.meta.MetaChunk.{MetaChunk}
use Rattle.pq_file.specs.declared.fault.FileFault.{FileFault}
use Rattle.pq_file.specs.declared.parts.Part.{Part}
use Rattle.answers.specs.Answers.{◌>>=◌, Fails}
use Rattle.pq_file.specs.Answers.{is_memory}
use Rattle.pq_file.specs.Reading.{is_wanted, part_of, parts_in}
use Rattle.answers.proofs.AnswerLemmas.{handed_on}

-- what is there already, before what is still read
abbrev pub with_front : {B : Type 0} → List B → Result (List B) FileFault → Result (List B) FileFault
with_front front read = read >>= λ bs. Ok (front ++ bs)

regroup : {B : Type 0} (front : List B) (b : B) (read : Result (List B) FileFault) → with_front front (read >>= λ bs. Ok (b ∷ bs)) ≡ with_front (front ++ b ∷ []) read
regroup front b (Ok bs) = ap (λ x. Ok x) (simp append_assoc)
regroup front b (Err e) = refl

nothing_more : {B : Type 0} (front : List B) → with_front front (Ok []) ≡ Ok front
nothing_more front = ap (λ x. Ok x) (append-nil front)

pub next_of : {A : Type 0} (xs : List A) (i : ℕ) (x : A) → i < length xs → x ≡ get_or xs i x → drop i xs ≡ x ∷ drop (i + 1) xs
next_of xs i x lt is = rw add-one (rw (drop-cons xs i x) (rw (← is) refl))

abbrev pub parts_from : List ℕ → Option (List ℕ) → ℕ → ℕ → List MetaColumn → List MetaChunk → Result (List Part) FileFault
parts_from bytes fields group i columns chunks = parts_in bytes fields group i (drop i columns) (drop i chunks)

pub parts_go_on : (bytes : List ℕ) (fields : Option (List ℕ)) (group i : ℕ) (columns : List MetaColumn) (chunks : List MetaChunk) (column : MetaColumn) (chunk : MetaChunk)
    (front : List Part) (part : Part) (total : Result (List Part) FileFault)
    → i < length columns → i < length chunks → column ≡ get_or columns i column → chunk ≡ get_or chunks i chunk
    → is_wanted fields column ≡ true → part_of bytes group i column chunk ≡ Ok part
    → with_front front (parts_from bytes fields group i columns chunks) ≡ total
    → with_front (front ++ part ∷ []) (parts_from bytes fields group (i + 1) columns chunks) ≡ total
parts_go_on bytes fields group i columns chunks column chunk front part total lt lt' is is' wanted read so_far =
    let one : with_front front (parts_from bytes fields group i columns chunks) ≡ with_front (front ++ part ∷ []) (parts_from bytes fields group (i + 1) columns chunks) =
    rw (next_of columns i column lt is, next_of chunks i chunk lt' is', wanted, read) (regroup front part (parts_from bytes fields group (i + 1) columns chunks)) in
    sym one ∙ so_far

some_of : {A : Type 0} (xs : List A) (i : ℕ) (d : A) → i < length xs → drop i xs ≡ get_or xs i d ∷ drop (i + 1) xs
some_of xs i d lt = rw (add-one, drop-cons xs i d) refl

some_chunk : MetaChunk
some_chunk = record { codec = pos 0; num_values = 0; first = 0; length = 0 }

pub parts_pass : (bytes : List ℕ) (fields : Option (List ℕ)) (group i : ℕ) (columns : List MetaColumn) (chunks : List MetaChunk) (column : MetaColumn)
    (front : List Part) (total : Result (List Part) FileFault)
    → i < length columns → i < length chunks → column ≡ get_or columns i column
    → is_wanted fields column ≡ false
    → with_front front (parts_from bytes fields group i columns chunks) ≡ total
    → with_front front (parts_from bytes fields group (i + 1) columns chunks) ≡ total
parts_pass bytes fields group i columns chunks column front total lt lt' is wanted so_far =
    let one : with_front front (parts_from bytes fields group i columns chunks) ≡ with_front front (parts_from bytes fields group (i + 1) columns chunks) =
    rw (next_of columns i column lt is, some_of chunks i some_chunk lt', wanted) refl in
    sym one ∙ so_far

pub parts_fail : (bytes : List ℕ) (fields : Option (List ℕ)) (group i : ℕ) (columns : List MetaColumn) (chunks : List MetaChunk) (column : MetaColumn) (chunk : MetaChunk)
    (front : List Part) (e : FileFault) (total : Result (List Part) FileFault)
    → i < length columns → i < length chunks → column ≡ get_or columns i column → chunk ≡ get_or chunks i chunk
    → is_wanted fields column ≡ true → Fails is_memory e (part_of bytes group i column chunk)
    → with_front front (parts_from bytes fields group i columns chunks) ≡ total → Fails is_memory e total
parts_fail bytes fields group i columns chunks column chunk front e total lt lt' is is' wanted read so_far =
    rw (← so_far) (rw (next_of columns i column lt is, next_of chunks i chunk lt' is', wanted)
    (handed_on is_memory e _ _ (handed_on is_memory e (part_of bytes group i column chunk) (λ part. parts_from bytes fields group (i + 1) columns chunks >>= λ parts. Ok (part ∷ parts)) read)))

pub parts_end : (bytes : List ℕ) (fields : Option (List ℕ)) (group : ℕ) (columns : List MetaColumn) (chunks : List MetaChunk) (front : List Part) (total : Result (List Part) FileFault)
    → with_front front (parts_from bytes fields group (length columns) columns chunks) ≡ total → total ≡ Ok front
parts_end bytes fields group columns chunks front total so_far =
    let one : with_front front (parts_from bytes fields group (length columns) columns chunks) ≡ Ok front = rw drop-length (nothing_more front) in
    sym so_far ∙ one

pub ruleset parts_turn = (parts_go_on, parts_pass, parts_fail, parts_end)
