-- Numbers among bits, the low bit first.
use Rattle.std.specs.Prelude.{ℕ, zero, suc, ◌+◌, ◌*◌, ◌/◌, ◌%◌, ◌^◌, List, map, slice_index}
use Rattle.std.specs.Int.{bit_at}
use Rattle.std.specs.List.{range_with_len}

-- bit n of some bytes: byte n / 8 holds it, at place n % 8 from its low end
abbrev pub bit_of : List ℕ → ℕ → ℕ
bit_of bytes n = bit_at (slice_index bytes (n / 8)) (n % 8)

-- the number of n bits, of which f gives bit j
unfoldable pub number_of_bits : ℕ → (ℕ → ℕ) → ℕ
number_of_bits zero f = 0
number_of_bits (suc n) f = f n * 2 ^ n + number_of_bits n f

-- the number of width bits that begins with bit first
abbrev pub packed_number : ℕ → List ℕ → ℕ → ℕ
packed_number width bytes first = number_of_bits width (λ j. bit_of bytes (first + j))

-- the first count numbers of some bytes, packed without a gap, width bits each
abbrev pub packed_numbers : ℕ → List ℕ → ℕ → List ℕ
packed_numbers width bytes count = map (λ k. packed_number width bytes (k * width)) (range_with_len 0 count)
