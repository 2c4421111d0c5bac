-- Pages, one turn of the loop at a time.
use Rattle.std.proofs.Common.{◌≡◌, ℕ, ◌+◌, ◌-◌, ◌<◌, ◌≤◌, zero, suc, List, length, nat_eq, ◌||◌, true, false, refl, arith}
use Rattle.pq_pages.specs.declared.chunk.ChunkSpec.{ChunkSpec}
use Rattle.answers.specs.Answers.{◌>>=◌}
use Rattle.pq_pages.specs.Pages.{Chunk, is_whole, page_in, pages_in, whole}

pub pages_step : (spec : ChunkSpec) (end count i : ℕ) (had : Chunk) (bytes : List ℕ) → i < count → (is_whole spec had || nat_eq (length bytes) 0) ≡ false
    → pages_in spec end (count - i) had bytes ≡ (page_in spec end had bytes >>= λ x. pages_in spec end (count - (i + 1)) x.0 x.1)
unfolding pages_in
pages_step spec end count i had bytes lt go =
    let k : count - i ≡ suc (count - (i + 1)) = omega arith in
    rw (k, go) refl

pub pages_end : (spec : ChunkSpec) (end most : ℕ) (had : Chunk) (bytes : List ℕ) → (is_whole spec had || nat_eq (length bytes) 0) ≡ true → pages_in spec end most had bytes ≡ whole spec had
unfolding pages_in
pages_end spec end zero had bytes stop = refl
pages_end spec end (suc most) had bytes stop = rw stop refl

pub pages_done : (spec : ChunkSpec) (end count i : ℕ) (had : Chunk) (bytes : List ℕ) → count ≤ i → pages_in spec end (count - i) had bytes ≡ whole spec had
unfolding pages_in
pages_done spec end count i had bytes le =
    let k : count - i ≡ 0 = omega arith in
    rw k refl
