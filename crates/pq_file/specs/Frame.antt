-- The frame of a file: `PAR1`, the chunks, the footer, its length in four bytes, `PAR1` (Apache Parquet format, "File Format").
use Rattle.std.specs.Prelude.{ℕ, ◌-◌, ◌&&◌, nat_lt, nat_eq, codes, if◌then◌else◌, List, length, take, drop, Result, Ok, Err, Bool}
use Rattle.std.specs.Cmp.Lexicographic.{pointwise}
use Rattle.byteorder.specs.Endian.{little_number}
use Rattle.pq_file.specs.declared.fault.FileFault.{FileFault}
use Rattle.pq_file.specs.declared.fault.FileFault.TheVariants as fault

-- what a file begins with and ends with
abbrev pub mark : List ℕ
mark = codes "PAR1"

abbrev pub is_mark : List ℕ → Bool
is_mark bytes = pointwise nat_eq bytes mark

-- the mark twice, and the footer's length, take 12 bytes
unfoldable pub is_framed : List ℕ → Bool
is_framed bytes = nat_lt 11 (length bytes) && is_mark (take 4 bytes) && is_mark (drop (length bytes - 4) bytes)

abbrev pub stated_length : List ℕ → ℕ
stated_length bytes = little_number 4 (drop (length bytes - 8) bytes)

-- the bytes of the footer, which ends where its length stands
unfoldable pub footer_in : List ℕ → Result (List ℕ) FileFault
footer_in bytes =
    if is_framed bytes
    then (if nat_lt (length bytes - 12) (stated_length bytes) then Err (fault.Footer (stated_length bytes)) else Ok (take (stated_length bytes) (drop (length bytes - 8 - stated_length bytes) bytes)))
    else Err fault.Magic
