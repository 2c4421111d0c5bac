use Rattle.std.proofs.Common.{◌∙◌, ◌-◌, ◌*◌, ℕ, length, drop, ap, arith, rules}
use mir.Val.{SFits}
use Rattle.std.proofs.lemmas.Int.{to_z-of_z}
use Rattle.std.proofs.lemmas.List.{take_all, length-drop}
use Rattle.std.specs.Int.{cast_signed, w32}
use Rattle.byteorder.specs.Endian.{little_number}
use Rattle.pq_encodings.proofs.numbers.i32_at.Goals as goal

pub returns : goal.returns
returns c =
    let whole = take_all (length c.args.bytes.now - 4 * c.args.k) (drop (4 * c.args.k) c.args.bytes.now) (omega (arith, length-drop {A = ℕ})) in
    let fits : SFits w32 c.cast_signed.result = search rules in
    to_z-of_z w32 c.cast_signed.result fits
    ∙ c.cast_signed.ensures
    ∙ ap (λ n. cast_signed w32 n) (c.read_u32.ensures ∙ ap (λ xs. little_number 4 xs) whole)
