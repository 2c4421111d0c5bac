-- Bytes below 128 are text.
use Rattle.std.proofs.Common.{◌≡◌, ◌<◌, ℕ, List, Bool, true, All, arith}
use Rattle.std.specs.Prelude.{nat_lt}
use Rattle.std.specs.List.{list_all}
use Rattle.std.specs.Str.{is_utf8}
use Rattle.std.proofs.lemmas.Str.{is_utf8-from_IsUtf8, IsUtf8-from_ascii}
use Rattle.std.proofs.lemmas.List.Sums.{AllPass-from_list_all}
use Rattle.std.proofs.lemmas.Str.Ascii.{IsAscii-from_all}

abbrev pub is_low : ℕ → Bool
is_low b = nat_lt b 128

low : (b : ℕ) → is_low b ≡ true → b < 128
low b h = grind arith

all_low : (bs : List ℕ) → list_all is_low bs ≡ true → All (λ b. b < 128) bs
all_low bs h = λ k d l. low _ (AllPass-from_list_all is_low bs h k d l)

pub ascii_text : (bs : List ℕ) → list_all is_low bs ≡ true → is_utf8 bs ≡ true
ascii_text bs h = is_utf8-from_IsUtf8 bs (IsUtf8-from_ascii bs (IsAscii-from_all bs (all_low bs h)))
