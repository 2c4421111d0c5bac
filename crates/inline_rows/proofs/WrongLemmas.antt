-- Where reading stops, the first wrong item stands.
use Rattle.std.proofs.Common.{◌≡◌, ℕ, zero, suc, ◌+◌, ◌-◌, ◌^◌, List, [], ◌∷◌, ◌++◌, length, Option, Some, None, Ok, Err, true, inl, inr, refl, sym, ap, ◌∙◌, append_assoc, arith, length-append}
use Rattle.std.specs.List.{AllByRecursion}
use Rattle.std.specs.Prelude.{flat_map}
use Rattle.thrift_compact.specs.Shortest.{unsigned_spelling}
use Rattle.lake_types.specs.declared.value.Value.{Value}
use Rattle.inline_rows.specs.Faults.{HasCause, HasNoCell, HasNoCount, IsWrongAt, IsWrongItem}
use Rattle.inline_rows.specs.Finding.{Stops}
use Rattle.inline_rows.specs.Reading.{Cells, Item, at_end, cell_in, cells_in, decoded, found_or, place, unsigned_in, with_cell}
use Rattle.inline_rows.specs.Spelling.{IsCell, RisesFrom, cell_spelling, is_past}
use Rattle.inline_rows.specs.declared.fault.CellsFault.{CellsFault}
use Rattle.inline_rows.specs.declared.fault.CellsFault.TheVariants.{BadCells, Memory}
use Rattle.inline_rows.proofs.BackLemmas.{cell_back, reads_back}
use Rattle.inline_rows.proofs.NumberLemmas.{AreBytes, unsigned_back, unsigned_read}
use Rattle.inline_rows.proofs.SpellsLemmas.{cell_read}

-- the place of an answer
abbrev place_or : Cells → ℕ
place_or (Ok cells) = 0
place_or (Err at) = at

no_count : (bytes : List ℕ) → unsigned_in (2 ^ 64) bytes ≡ None → HasNoCount bytes
no_count bytes none count rest small is =
    let read : unsigned_in (2 ^ 64) bytes ≡ Some (count, rest) = rw (sym is) (unsigned_back (2 ^ 64) count rest small (omega arith)) in
    absurd (cc (none, read))

no_cell : (last : Option ℕ) (bytes : List ℕ) → cell_in last bytes ≡ None → HasNoCell last [] bytes
no_cell last bytes none cell tail is rises spelled =
    let read : cell_in last bytes ≡ Some (cell, tail) = rw (sym spelled) (cell_back last cell tail rises.0 is) in
    absurd (cc (none, read))

-- so many cells past a field end at a wrong item
record StopsAt (end count : ℕ) (last : Option ℕ) (bytes : List ℕ) (at : ℕ) : Type 0 where
  before : List (ℕ × Value)
  rest : List ℕ
  are : AllByRecursion IsCell before
  rises : RisesFrom last before
  spelled : flat_map cell_spelling before ++ rest ≡ bytes
  place : at ≡ end - length rest
  wrong : IsWrongItem count last before rest

ended : (end : ℕ) (last : Option ℕ) (bytes : List ℕ) (at : ℕ) → at_end end bytes ≡ Err at → StopsAt end 0 last bytes at
ended end last [] at h = absurd (cc h)
ended end last (b ∷ rest) at h =
    record { before = []; rest = b ∷ rest; are = tt; rises = tt; spelled = refl; place = sym (ap place_or h); wrong = inr (refl, λ e. cc e) }

behind_cell : (cell : ℕ × Value) (read : Cells) (at : ℕ) → with_cell cell read ≡ Err at → read ≡ Err at
behind_cell cell (Ok cells) at h = absurd (cc h)
behind_cell cell (Err b) at h = h

later : (count : ℕ) (last : Option ℕ) (cell : ℕ × Value) (before : List (ℕ × Value)) (rest : List ℕ) → IsWrongItem count (Some cell.0) before rest → IsWrongItem (suc count) last (cell ∷ before) rest
later count last cell before rest (inl h) = inl (omega (arith, h.0), λ next tail is rises spelled. h.1 next tail is rises.1 spelled)
later count last cell before rest (inr h) = inr (ap suc h.0, h.1)

-- what stops the cells behind one stops all
step : (end count : ℕ) (last : Option ℕ) (bytes : List ℕ) (at : ℕ) (cell : ℕ × Value) (behind : List ℕ) → is_past last cell.0 ≡ true → IsCell cell → bytes ≡ cell_spelling cell ++ behind
    → StopsAt end count (Some cell.0) behind at → StopsAt end (suc count) last bytes at
step end count last bytes at cell behind past is spelled more = record {
  before = cell ∷ more.before;
  rest = more.rest;
  are = (is, more.are);
  rises = (past, more.rises);
  spelled = append_assoc (cell_spelling cell) (flat_map cell_spelling more.before) more.rest ∙ ap (λ (s : List ℕ). cell_spelling cell ++ s) more.spelled ∙ sym spelled;
  place = more.place;
  wrong = later count last cell more.before more.rest more.wrong;
}

cells_stop : (end count : ℕ) (last : Option ℕ) (bytes : List ℕ) (at : ℕ) → AreBytes bytes → cells_in end count last bytes ≡ Err at → StopsAt end count last bytes at
unfolding cells_in
cells_stop end zero last bytes at are h = ended end last bytes at h
cells_stop end (suc count) last bytes at are h =
    go (cell_in last bytes) refl h (λ cell rest. cells_stop end count (Some cell.0) rest at)
  where
    next : (ℕ × Value) × List ℕ → Cells
    next x = with_cell x.0 (cells_in end count (Some x.0.0) x.1)

    go : (found : Item (ℕ × Value)) → cell_in last bytes ≡ found → found_or found (place end bytes) next ≡ Err at
        → ((cell : ℕ × Value) (rest : List ℕ) → AreBytes rest → cells_in end count (Some cell.0) rest ≡ Err at → StopsAt end count (Some cell.0) rest at)
        → StopsAt end (suc count) last bytes at
    go None none h more =
        record { before = []; rest = bytes; are = tt; rises = tt; spelled = refl; place = sym (ap place_or h); wrong = inl (omega arith, no_cell last bytes none) }
    go (Some (cell, rest)) found h more =
        let read = cell_read last bytes cell rest are found in
        step end count last bytes at cell rest read.holds.past read.holds.is read.spells
        (more cell rest read.behind (behind_cell cell (cells_in end count (Some cell.0) rest) at h))

-- the place at which reading stops is that of the first wrong item
pub wrong_at : (bytes : List ℕ) (at : ℕ) → AreBytes bytes → decoded bytes ≡ Err at → IsWrongAt bytes at
unfolding decoded
wrong_at bytes at are h = go (unsigned_in (2 ^ 64) bytes) refl h where
  next : ℕ × List ℕ → Cells
  next x = cells_in (length bytes) x.0 None x.1

  go : (found : Item ℕ) → unsigned_in (2 ^ 64) bytes ≡ found → found_or found 0 next ≡ Err at → IsWrongAt bytes at
  go None none h = inl (sym (ap place_or h), no_count bytes none)
  go (Some (count, rest)) found h =
      let read = unsigned_read (2 ^ 64) bytes count rest are found in
      let stop = cells_stop (length bytes) count None rest at read.behind h in
      let front : List ℕ = unsigned_spelling count ++ flat_map cell_spelling stop.before in
      let whole : front ++ stop.rest ≡ bytes =
      append_assoc (unsigned_spelling count) (flat_map cell_spelling stop.before) stop.rest ∙ ap (λ (s : List ℕ). unsigned_spelling count ++ s) stop.spelled ∙ sym read.spells in
      let sizes : length front + length stop.rest ≡ length bytes = sym (length-append front stop.rest) ∙ ap length whole in
      inr (record {
        count = count;
        before = stop.before;
        rest = stop.rest;
        small = read.holds;
        are = (stop.are, stop.rises);
        spelled = whole;
        place = omega (arith, sizes, stop.place);
        wrong = stop.wrong;
      })

-- why there are no cells
pub has_cause : (bytes : List ℕ) (fault : CellsFault) → AreBytes bytes → Stops fault (decoded bytes) → HasCause bytes fault
has_cause bytes Memory are stops = tt
has_cause bytes (BadCells at) are stops = (wrong_at bytes at are stops, λ cells short h. absurd (cc (stops, reads_back cells bytes short h)))
