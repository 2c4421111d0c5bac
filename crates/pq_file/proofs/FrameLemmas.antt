-- The frame of a canonical file, read again.
use Rattle.std.proofs.Common.{◌≡◌, ℕ, ◌+◌, ◌-◌, ◌<◌, ◌^◌, List, ◌++◌, length, take, drop, true, false, nat_lt, Ok, refl, sym, ap, ◌∙◌, append_assoc, arith}
use Rattle.std.proofs.lemmas.Bool.{le-ltb, lt-ltb}
use Rattle.std.proofs.lemmas.List.{drop_at, length-append, take_at}
use Rattle.byteorder.specs.Endian.{little_bytes, little_number}
use Rattle.byteorder.specs.Numbers.{length-bytes_low_first, little_number-reads_back}
use Rattle.pq_file.specs.Canonical.{footer_part}
use Rattle.pq_file.specs.Frame.{footer_in, is_framed, mark, stated_length}

-- a file of these chunks and this footer
abbrev pub file_with : List ℕ → List ℕ → List ℕ
file_with chunks footer = mark ++ chunks ++ footer_part footer

-- the same, cut before the footer, before its length and before the last mark
at_footer : (chunks footer : List ℕ) → file_with chunks footer ≡ (mark ++ chunks) ++ (footer ++ (little_bytes 4 (length footer) ++ mark))
at_footer chunks footer = ap (λ (xs : List ℕ). (mark ++ chunks) ++ xs) (append_assoc footer (little_bytes 4 (length footer)) mark)

at_length : (chunks footer : List ℕ) → file_with chunks footer ≡ ((mark ++ chunks) ++ footer) ++ (little_bytes 4 (length footer) ++ mark)
at_length chunks footer = at_footer chunks footer ∙ sym (append_assoc (mark ++ chunks) footer (little_bytes 4 (length footer) ++ mark))

at_mark : (chunks footer : List ℕ) → file_with chunks footer ≡ (((mark ++ chunks) ++ footer) ++ little_bytes 4 (length footer)) ++ mark
at_mark chunks footer = at_length chunks footer ∙ sym (append_assoc ((mark ++ chunks) ++ footer) (little_bytes 4 (length footer)) mark)

size_of : (chunks footer : List ℕ) → length (file_with chunks footer) ≡ length chunks + length footer + 12
size_of chunks footer =
    let four : length (little_bytes 4 (length footer)) ≡ 4 = length-bytes_low_first 0 4 (length footer) in
    ap (λ (xs : List ℕ). length xs) (at_footer chunks footer)
    ∙ omega (
      arith,
      four,
      length-append (mark ++ chunks) (footer ++ (little_bytes 4 (length footer) ++ mark)),
      length-append mark chunks,
      length-append footer (little_bytes 4 (length footer) ++ mark),
      length-append (little_bytes 4 (length footer)) mark,
    )

front_size : (chunks footer : List ℕ) → length ((mark ++ chunks) ++ footer) ≡ length chunks + length footer + 4
front_size chunks footer = omega (arith, length-append (mark ++ chunks) footer, length-append mark chunks)

last_mark : (chunks footer : List ℕ) → drop (length (file_with chunks footer) - 4) (file_with chunks footer) ≡ mark
last_mark chunks footer =
    let front : List ℕ = ((mark ++ chunks) ++ footer) ++ little_bytes 4 (length footer) in
    let four : length (little_bytes 4 (length footer)) ≡ 4 = length-bytes_low_first 0 4 (length footer) in
    let size : length front ≡ length (file_with chunks footer) - 4 =
    omega (arith, four, size_of chunks footer, front_size chunks footer, length-append ((mark ++ chunks) ++ footer) (little_bytes 4 (length footer))) in
    ap (λ (xs : List ℕ). drop (length (file_with chunks footer) - 4) xs) (at_mark chunks footer) ∙ drop_at front mark (length (file_with chunks footer) - 4) size

framed : (chunks footer : List ℕ) → is_framed (file_with chunks footer) ≡ true
unfolding is_framed
framed chunks footer =
    let long : nat_lt 11 (length (file_with chunks footer)) ≡ true = lt-ltb _ _ (omega (arith, size_of chunks footer)) in
    rw (long, last_mark chunks footer) refl

behind_footer : (chunks footer : List ℕ) → drop (length (file_with chunks footer) - 8) (file_with chunks footer) ≡ little_bytes 4 (length footer) ++ mark
behind_footer chunks footer =
    let size : length ((mark ++ chunks) ++ footer) ≡ length (file_with chunks footer) - 8 = omega (arith, size_of chunks footer, front_size chunks footer) in
    ap (λ (xs : List ℕ). drop (length (file_with chunks footer) - 8) xs) (at_length chunks footer)
    ∙ drop_at ((mark ++ chunks) ++ footer) (little_bytes 4 (length footer) ++ mark) (length (file_with chunks footer) - 8) size

stated : (chunks footer : List ℕ) → length footer < 2 ^ 32 → stated_length (file_with chunks footer) ≡ length footer
stated chunks footer small =
    ap (λ (xs : List ℕ). little_number 4 xs) (behind_footer chunks footer) ∙ little_number-reads_back 4 (length footer) mark (omega (arith, small))

footer_at : (chunks footer : List ℕ) → take (length footer) (drop (length (file_with chunks footer) - 8 - length footer) (file_with chunks footer)) ≡ footer
footer_at chunks footer =
    let at : ℕ = length (file_with chunks footer) - 8 - length footer in
    let size : length (mark ++ chunks) ≡ at = omega (arith, size_of chunks footer, length-append mark chunks) in
    let rest : List ℕ = little_bytes 4 (length footer) ++ mark in
    let here : drop at (file_with chunks footer) ≡ footer ++ rest =
    ap (λ (xs : List ℕ). drop at xs) (at_footer chunks footer) ∙ drop_at (mark ++ chunks) (footer ++ rest) at size in
    ap (λ (xs : List ℕ). take (length footer) xs) here ∙ take_at footer rest (length footer) refl

pub footer_back : (chunks footer : List ℕ) → length footer < 2 ^ 32 → footer_in (file_with chunks footer) ≡ Ok footer
unfolding footer_in
footer_back chunks footer small =
    let fits : nat_lt (length (file_with chunks footer) - 12) (length footer) ≡ false = le-ltb _ _ (omega (arith, size_of chunks footer)) in
    rw (framed chunks footer, stated chunks footer small, fits, footer_at chunks footer) refl
