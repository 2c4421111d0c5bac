-- Keys that the order doesn't tell apart are the same.
use Rattle.std.proofs.Common.{◌≡◌, ◌≢◌, ℕ, Bool, true, false, List, refl, ◌∙◌, is_eq}
use Rattle.std.specs.Cmp.{unsigned_ties}
use Rattle.std.specs.Cmp.Lexicographic.{bytes_decides, lists_ties}
use Rattle.std.specs.Ordering.{nat_cmp}
use Rattle.cat_tables.specs.Table.{key_cmp}

pub key_eq : (a b : List ℕ) → is_eq (key_cmp a b) ≡ true → a ≡ b
key_eq a b h = (bytes_decides a b).0 (lists_ties nat_cmp unsigned_ties a b ∙ h)

pub key_apart : (a b : List ℕ) → a ≢ b → is_eq (key_cmp a b) ≡ false
key_apart a b apart = go (is_eq (key_cmp a b)) refl
  where
    go : (t : Bool) → is_eq (key_cmp a b) ≡ t → t ≡ false
    go true e = absurd (apart (key_eq a b e))
    go false e = refl
