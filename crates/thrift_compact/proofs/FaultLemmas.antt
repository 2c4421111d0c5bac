-- A fault of an item names the item's first byte.
use Rattle.std.proofs.Common.{◌≡◌, ℕ, ℤ, pos, zero, suc, ◌+ℤ◌, ◌%◌, ◌^◌, ◌*◌, ◌+◌, Bool, true, false, cond, ltb, eqb, List, [], ◌∷◌, length, take, drop, Some, None, Result, Ok, Err, refl, sym, ap, ◌∙◌}
use Rattle.std.specs.Prelude.{int_lt}
use Rattle.thrift_compact.specs.declared.fault.ThriftFault.{ThriftFault}
use Rattle.thrift_compact.specs.declared.fault.ThriftFault.TheVariants.{Short, BadType, TooWide}
use Rattle.thrift_compact.specs.Spelling.{from_zigzag, signed_byte, high_bits, low_bits}
use Rattle.answers.specs.Answers.{◌>>=◌}
use Rattle.thrift_compact.specs.Reading.{is_type, number_in, unsigned_in, signed_in, byte_in, bytes_in, binary_in, list_header_in, field_header_in}
use Rattle.thrift_compact.specs.Cursor.{place_of}
use Rattle.thrift_compact.proofs.Matching.{done}

-- where r is a fault, it names this offset
abbrev pub Names : {A : Type 0} → ℕ → Result A ThriftFault → Type 0
Names at r = (fault : ThriftFault) → r ≡ Err fault → place_of fault ≡ at

abbrev refused : {A : Type 0} → ThriftFault → Result A ThriftFault
refused fault = Err fault

ok_names : {A : Type 0} (at : ℕ) (x : A) → Names at (done x)
ok_names at x fault e = absurd cc

err_names : {A : Type 0} (at : ℕ) (d : ThriftFault) → place_of d ≡ at → Names {A = A} at (refused d)
err_names at d place fault e = let same : d ≡ fault = cc in ap place_of (sym same) ∙ place

cond_names : {A : Type 0} (at : ℕ) (b : Bool) (r q : Result A ThriftFault) → Names at r → Names at q → Names at (cond b r q)
cond_names at true r q f g = f
cond_names at false r q f g = g

bind_names : {A B : Type 0} (at : ℕ) (r : Result A ThriftFault) (f : A → Result B ThriftFault) → Names at r → ((x : A) → Names at (f x)) → Names at (r >>= f)
bind_names at (Ok x) f p q fault e = q x fault e
bind_names at (Err d) f p q fault e = p fault (let same : d ≡ fault = cc in ap refused same)

number_names : (at most : ℕ) (bytes : List ℕ) → Names at (number_in at most bytes)
unfolding number_in
number_names at zero bytes = err_names at (TooWide at) refl
number_names at (suc most) [] = err_names at (Short at) refl
number_names at (suc most) (b ∷ rest) =
    cond_names at (ltb b 128) _ _ (ok_names at (b, rest))
    (bind_names at (number_in at most rest) _ (number_names at most rest) (λ x. ok_names at (b % 128 + 128 * x.0, x.1)))

unsigned_names : (at limit : ℕ) (bytes : List ℕ) → Names at (unsigned_in at limit bytes)
unfolding unsigned_in
unsigned_names at limit bytes =
    bind_names at (number_in at 10 bytes) _ (number_names at 10 bytes)
    (λ x. cond_names at (ltb x.0 limit) _ _ (ok_names at x) (err_names at (TooWide at) refl))

pub signed_names : (at limit : ℕ) (bytes : List ℕ) → Names at (signed_in at limit bytes)
unfolding signed_in
signed_names at limit bytes =
    bind_names at (unsigned_in at limit bytes) _ (unsigned_names at limit bytes) (λ x. ok_names at (from_zigzag x.0, x.1))

pub byte_names : (at : ℕ) (bytes : List ℕ) → Names at (byte_in at bytes)
unfolding byte_in
byte_names at [] = err_names at (Short at) refl
byte_names at (b ∷ rest) = ok_names at (signed_byte b, rest)

bytes_names : (at count : ℕ) (bytes : List ℕ) → Names at (bytes_in at count bytes)
unfolding bytes_in
bytes_names at count bytes =
    cond_names at (ltb (length bytes) count) _ _ (err_names at (Short at) refl) (ok_names at (take count bytes, drop count bytes))

pub binary_names : (at : ℕ) (bytes : List ℕ) → Names at (binary_in at bytes)
unfolding binary_in
binary_names at bytes =
    bind_names at (unsigned_in at (2 ^ 32) bytes) _ (unsigned_names at (2 ^ 32) bytes) (λ count. bytes_names at count.0 count.1)

pub list_header_names : (at : ℕ) (bytes : List ℕ) → Names at (list_header_in at bytes)
unfolding list_header_in
list_header_names at [] = err_names at (Short at) refl
list_header_names at (b ∷ rest) =
    cond_names at (is_type (low_bits b)) _ _
    (cond_names at (eqb (high_bits b) 15) _ _
    (bind_names at (unsigned_in at (2 ^ 32) rest) _ (unsigned_names at (2 ^ 32) rest) (λ x. ok_names at ((low_bits b, x.0), x.1)))
    (ok_names at ((low_bits b, high_bits b), rest)))
    (err_names at (BadType at (low_bits b)) refl)

pub field_header_names : (at : ℕ) (last : ℤ) (bytes : List ℕ) → Names at (field_header_in at last bytes)
unfolding field_header_in
field_header_names at last [] = err_names at (Short at) refl
field_header_names at last (b ∷ rest) =
    cond_names at (eqb b 0) _ _ (ok_names at (None, rest))
    (cond_names at (is_type (low_bits b)) _ _
    (cond_names at (eqb (high_bits b) 0) _ _
    (bind_names at (signed_in at (2 ^ 16) rest) _ (signed_names at (2 ^ 16) rest) (λ x. ok_names at (Some (x.0, low_bits b), x.1)))
    (cond_names at (int_lt (last +ℤ pos (high_bits b)) (pos 32768)) _ _
    (ok_names at (Some (last +ℤ pos (high_bits b), low_bits b), rest)) (err_names at (TooWide at) refl)))
    (err_names at (BadType at (low_bits b)) refl))
