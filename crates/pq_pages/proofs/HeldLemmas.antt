-- What a page gives is what it holds.
use Rattle.std.proofs.Common.{◌≡◌, ◌≢◌, ℕ, ℤ, pos, ◌≤◌, nat_eq, nat_lt, List, ◌++◌, length, take, drop, inl, inr, Bool, true, false, cond, Option, Some, None, Result, Ok, Err, refl, sym, ap, subst, ◌∙◌, arith}
use Rattle.std.specs.Prelude.{⊤}
use Rattle.std.specs.List.{count_by}
use Rattle.std.proofs.lemmas.Bool.{eqb-true, ltb-false, ne_eqb}
use Rattle.std.proofs.lemmas.List.{length-take, take-append-drop}
use Rattle.thrift_compact.specs.Reading.{Read}
use Rattle.thrift_compact.specs.Structs.{struct_of}
use Rattle.pq_encodings.specs.declared.fault.EncFault.{EncFault}
use Rattle.pq_encodings.specs.declared.plain.Physical.{Physical}
use Rattle.pq_encodings.specs.Indices.{indices_before, indices_in}
use Rattle.pq_encodings.specs.Values.{Values, count_of, made, values_in}
use Rattle.thrift_compact.proofs.Matching.{chosen}
use Rattle.pq_pages.specs.declared.chunk.ChunkSpec.{ChunkSpec}
use Rattle.pq_pages.specs.declared.fault.PageFault.{PageFault}
use Rattle.pq_pages.specs.declared.fault.PageFault.TheVariants as fault
use Rattle.pq_pages.specs.declared.headers.Coding.{Coding}
use Rattle.pq_pages.specs.declared.headers.Coding.TheVariants as coding
use Rattle.pq_pages.specs.declared.headers.Page.{Page}
use Rattle.pq_pages.specs.declared.headers.Page.TheVariants as page
use Rattle.answers.specs.Answers.{◌>>=◌}
use Rattle.pq_pages.specs.Answers.{of_fields, of_values}
use Rattle.pq_pages.specs.Headers.{coding_of, header_of, no_page, page_field, plain_coded, runs_coded}
use Rattle.pq_pages.specs.Holding.{ArePicked, AreValues, BeginsWith, Content, Defines, HasContent, HasLevels, HasLevelsV2, Holds, HoldsCells, StoredPage, Nothing, PicksEntries, beside, latest}
use Rattle.pq_pages.specs.Pages.{Cells, Chunk, behind_header, cells_in, cut_off, data_coding, data_levels, data_page, data_v2_coding, data_v2_levels, data_v2_page, dictionary_page, entries_at, entries_of, fits, in_page, indexed_values, joined, no_values, page_in, page_values, picked, plain_before, plain_values, whole_levels, with_cells}
use Rattle.pq_pages.specs.Writing.{AreTexts}
use Rattle.pq_encodings.proofs.IndexLemmas.{indices_in-held, indices_in-of_held}
use Rattle.pq_pages.proofs.ChunkBackLemmas.{judged_back}
use Rattle.pq_pages.proofs.LevelsHeldLemmas.{levels_held, levels_v2_held, not_zero, runs_found, runs_held}
use Rattle.answers.proofs.AnswerLemmas.{steps, err_ok, ok_same}
use Rattle.pq_pages.proofs.FitLemmas.{judged_ok, none_fit, ok_enc, texts_are}

-- ---- Values

-- what is made of a reading that had a value
record Made {X : Type 0} (f : X → Values) (read : Result X EncFault) (vs : Values) : Type 0 where
  from : X
  gives : read ≡ Ok from
  same : vs ≡ f from

made_of : {X : Type 0} (f : X → Values) (read : Result X EncFault) (vs : Values) → made f read ≡ Ok vs → Made f read vs
made_of f (Ok x) vs h = let same : vs ≡ f x = cc in record { from = x; gives = refl; same = same }
made_of f (Err e) vs h = cc

entries_held : (text : Bool) (place : ℕ) (kind : Physical) (dictionary : Option Values) (count : ℕ) (bytes : List ℕ) (vs : Values) → count ≢ 0
    → entries_of text place dictionary count bytes ≡ Ok vs → ArePicked kind dictionary count bytes vs × (text ≡ true → AreTexts vs)
unfolding entries_at
entries_held text place kind None count bytes vs some h = absurd (err_ok fault.NoDictionary vs h)
entries_held text place kind (Some entries) count bytes vs some h =
    let size : ℕ = count_of entries in
    let j = judged_ok text place (made (picked entries) (indices_in bytes count size)) (picked entries (indices_before bytes count size)) vs h in
    let m = made_of (picked entries) (indices_in bytes count size) vs j.0 in
    let is : PicksEntries (Some entries) count bytes vs = record { entries = entries; stands = refl; numbers = m.from; holds = indices_in-held bytes count size m.from m.gives; same = m.same } in
    (inr (some, is), texts_are text place vs j.1)

picked_held : (text : Bool) (place : ℕ) (kind : Physical) (dictionary : Option Values) (count : ℕ) (bytes : List ℕ) (vs : Values)
    → indexed_values kind text place dictionary count bytes ≡ Ok vs → ArePicked kind dictionary count bytes vs × (text ≡ true → AreTexts vs)
unfolding indexed_values
picked_held text place kind dictionary count bytes vs h =
    elim (chosen (nat_eq count 0) (Ok (no_values kind)) (entries_of text place dictionary count bytes) (Ok vs) h) [
      | inl a ↦
          let none : count ≡ 0 = eqb-true count 0 a.0 in
          let same : no_values kind ≡ vs = ok_same (no_values kind) vs a.1 in
          (inl (none, sym same), λ e. subst AreTexts same ((none_fit kind count text none).texts e))
      | inr a ↦ entries_held text place kind dictionary count bytes vs (not_zero count a.0) a.1
    ]

values_held : (spec : ChunkSpec) (had : Chunk) (way : Coding) (count : ℕ) (bytes : List ℕ) (vs : Values) → page_values spec had way count bytes ≡ Ok vs → AreValues spec had.dictionary way count bytes vs
unfolding plain_values
values_held spec had coding.Plain count bytes vs h =
    let j = judged_ok spec.text (count_of had.values) (values_in spec.kind count bytes) (plain_before spec.kind count bytes) vs h in
    (j.0, texts_are spec.text (count_of had.values) vs j.1)
values_held spec had coding.Indices count bytes vs h = picked_held spec.text (count_of had.values) spec.kind had.dictionary count bytes vs h
values_held spec had coding.Runs count bytes vs h = runs_held count bytes vs h

picked_found : (text : Bool) (place : ℕ) (kind : Physical) (dictionary : Option Values) (count : ℕ) (bytes : List ℕ) (vs : Values) → ArePicked kind dictionary count bytes vs
    → (text ≡ true → AreTexts vs) → indexed_values kind text place dictionary count bytes ≡ Ok vs
unfolding indexed_values entries_at
picked_found text place kind dictionary count bytes vs (inl a) utf8 = rw (a.0, a.1) refl
picked_found text place kind dictionary count bytes vs (inr a) utf8 =
    let is = a.1 in
    let some : nat_eq count 0 ≡ false = ne_eqb count 0 a.0 in
    let here : picked is.entries is.numbers ≡ vs = sym is.same in
    rw (some, is.stands, indices_in-of_held bytes count (count_of is.entries) is.numbers is.holds, here) (judged_back text place vs (picked is.entries (indices_before bytes count (count_of is.entries))) utf8)

pub values_found : (spec : ChunkSpec) (had : Chunk) (way : Coding) (count : ℕ) (bytes : List ℕ) (vs : Values) → AreValues spec had.dictionary way count bytes vs → page_values spec had way count bytes ≡ Ok vs
unfolding plain_values
values_found spec had coding.Plain count bytes vs is = rw is.0 (judged_back spec.text (count_of had.values) vs (plain_before spec.kind count bytes) is.1)
values_found spec had coding.Indices count bytes vs is = picked_found spec.text (count_of had.values) spec.kind had.dictionary count bytes vs is.0 is.1
values_found spec had coding.Runs count bytes vs is = runs_found count bytes vs is

-- ---- Data pages

-- what was had, and a page's content
abbrev pub grown : Chunk → Content → Chunk
grown had content = record { defined = (beside (cells_in had) content).defined; values = (beside (cells_in had) content).values; dictionary = latest had.dictionary content }

-- a page that was read holds what was gained
pub record PageHeld (spec : ChunkSpec) (had : Chunk) (says : Page) (body : List ℕ) (new : Chunk) : Type 0 where
  pub content : Content
  pub has : HasContent spec had.dictionary says body content
  pub same : new ≡ grown had content

record CellsHeld (spec : ChunkSpec) (had : Chunk) (encoding : ℤ) (Has : List Bool → List ℕ → Type 0) (new : Chunk) : Type 0 where
  cells : Cells
  holds : HoldsCells spec had.dictionary encoding Has cells
  same : new ≡ grown had (Holds cells)

cells_held : (spec : ChunkSpec) (had : Chunk) (encoding : ℤ) (way : Coding) (levels : Result (List Bool × List ℕ) PageFault) (Has : List Bool → List ℕ → Type 0) (new : Chunk)
    → ((x : List Bool × List ℕ) → levels ≡ Ok x → Has x.0 x.1) → coding_of spec.kind encoding ≡ Ok way
    → (levels >>= λ found. with_cells spec had way found.0 found.1) ≡ Ok new → CellsHeld spec had encoding Has new
unfolding with_cells
cells_held spec had encoding way levels Has new are coded h =
    let b = steps levels (λ found. with_cells spec had way found.0 found.1) new h in
    let flags : List Bool = b.value.0 in
    let bytes : List ℕ = b.value.1 in
    let count : ℕ = count_by (λ flag. flag) flags in
    let c = steps (page_values spec had way count bytes) (λ vs. Ok (record had { defined = had.defined ++ flags; values = joined had.values vs })) new b.later in
    let cells : Cells = record { defined = flags; values = c.value } in
    record {
      cells = cells;
      holds = record { way = way; coded = coded; behind = bytes; defined = are b.value b.gives; values = values_held spec had way count bytes c.value c.gives };
      same = sym (ok_same (grown had (Holds cells)) new c.later);
    }

data_held : (spec : ChunkSpec) (had : Chunk) (count : ℕ) (encoding : ℤ) (levels_encoding : Option ℤ) (body : List ℕ) (new : Chunk)
    → in_page spec had (page.Data count encoding levels_encoding) body ≡ Ok new → PageHeld spec had (page.Data count encoding levels_encoding) body new
unfolding data_coding data_page
data_held spec had count encoding levels_encoding body new h =
    let b = steps (data_coding spec had count encoding levels_encoding) (λ way. data_page spec had count way body) new h in
    let c = steps (fits spec had count) (λ u. coding_of spec.kind encoding >>= λ w. runs_coded levels_encoding >>= λ v. Ok w) b.value b.gives in
    let d = steps (coding_of spec.kind encoding) (λ w. runs_coded levels_encoding >>= λ v. Ok w) b.value c.later in
    let e = steps (runs_coded levels_encoding) (λ v. Ok d.value) b.value d.later in
    let way : d.value ≡ b.value = ok_same d.value b.value e.later in
    let coded : coding_of spec.kind encoding ≡ Ok b.value = d.gives ∙ ap (λ (w : Coding). Ok w) way in
    let held = cells_held spec had encoding b.value (data_levels spec.optional count body) (HasLevels spec.optional count body) new (levels_held spec.optional count body) coded b.later in
    record { content = Holds held.cells; has = (e.gives, held.holds); same = held.same }

-- the levels of a page of the second form are whole in it, and it has no repetition levels
whole_held : (size repetition : ℕ) (body : List ℕ) (u : ⊤) → whole_levels size repetition body ≡ Ok u → (size ≤ length body) × (repetition ≡ 0)
unfolding whole_levels
whole_held size repetition body u h =
    let later : Result ⊤ PageFault = cond (nat_lt 0 repetition) (Err (fault.Encoding (pos 3))) (Ok tt) in
    elim (chosen (nat_lt (length body) size) (Err cut_off) later (Ok u) h) [
      | inl a ↦ absurd (err_ok cut_off u a.1)
      | inr a ↦ elim (chosen (nat_lt 0 repetition) (Err (fault.Encoding (pos 3))) (Ok tt) (Ok u) a.1) [
        | inl b ↦ absurd (err_ok (fault.Encoding (pos 3)) u b.1)
        | inr b ↦
            let none : repetition ≤ 0 = ltb-false 0 repetition b.0 in
            (ltb-false (length body) size a.0, omega (arith, none))
      ]
    ]

data_v2_held : (spec : ChunkSpec) (had : Chunk) (count : ℕ) (encoding : ℤ) (size repetition : ℕ) (body : List ℕ) (new : Chunk)
    → in_page spec had (page.DataV2 count encoding size repetition) body ≡ Ok new → PageHeld spec had (page.DataV2 count encoding size repetition) body new
unfolding data_v2_coding data_v2_page
data_v2_held spec had count encoding size repetition body new h =
    let b = steps (data_v2_coding spec had count encoding size repetition body) (λ way. data_v2_page spec had count size way body) new h in
    let c = steps (fits spec had count) (λ u. coding_of spec.kind encoding >>= λ w. whole_levels size repetition body >>= λ v. Ok w) b.value b.gives in
    let d = steps (coding_of spec.kind encoding) (λ w. whole_levels size repetition body >>= λ v. Ok w) b.value c.later in
    let e = steps (whole_levels size repetition body) (λ v. Ok d.value) b.value d.later in
    let way : d.value ≡ b.value = ok_same d.value b.value e.later in
    let coded : coding_of spec.kind encoding ≡ Ok b.value = d.gives ∙ ap (λ (w : Coding). Ok w) way in
    let inside = whole_held size repetition body e.value e.gives in
    let held = cells_held spec had encoding b.value (data_v2_levels spec.optional count size body) (HasLevelsV2 spec.optional count size body) new (levels_v2_held spec.optional count size body) coded b.later in
    record { content = Holds held.cells; has = (inside.0, inside.1, held.holds); same = held.same }

dictionary_held : (spec : ChunkSpec) (had : Chunk) (count : ℕ) (encoding : ℤ) (body : List ℕ) (new : Chunk)
    → dictionary_page spec had count encoding body ≡ Ok new → PageHeld spec had (page.Dictionary count encoding) body new
unfolding dictionary_page
dictionary_held spec had count encoding body new h =
    let b = steps (plain_coded encoding) (λ u. of_values (values_in spec.kind count body) >>= λ entries. Ok (record had { dictionary = Some entries })) new h in
    let c = steps (of_values (values_in spec.kind count body)) (λ entries. Ok (record had { dictionary = Some entries })) new b.later in
    record {
      content = Defines c.value;
      has = (b.gives, ok_enc (values_in spec.kind count body) c.value c.gives);
      same = sym (ok_same (grown had (Defines c.value)) new c.later);
    }

page_held : (spec : ChunkSpec) (had : Chunk) (says : Page) (body : List ℕ) (new : Chunk) → in_page spec had says body ≡ Ok new → PageHeld spec had says body new
page_held spec had (page.Data count encoding levels_encoding) body new h = data_held spec had count encoding levels_encoding body new h
page_held spec had (page.DataV2 count encoding size repetition) body new h = data_v2_held spec had count encoding size repetition body new h
page_held spec had (page.Dictionary count encoding) body new h = dictionary_held spec had count encoding body new h
page_held spec had page.Other body new h = record { content = Nothing; has = tt; same = sym (ok_same had new h) }

-- ---- Pages with their headers

-- a page with its header, which holds what was gained
pub record StoredHeld (spec : ChunkSpec) (end : ℕ) (had : Chunk) (bytes : List ℕ) (new : Chunk × List ℕ) : Type 0 where
  pub stored : StoredPage
  pub begins : BeginsWith spec.optional end bytes stored new.1
  pub held : PageHeld spec had stored.says stored.body new.0

fields_ok : {A : Type 0} (read : Read A) (x : A × List ℕ) → of_fields read ≡ Ok x → read ≡ Ok x
fields_ok (Ok y) x h = let same : y ≡ x = ok_same y x h in ap (λ z. Ok z) same
fields_ok (Err e) x h = cc

pub stored_held : (spec : ChunkSpec) (end : ℕ) (had : Chunk) (bytes : List ℕ) (new : Chunk × List ℕ) → page_in spec end had bytes ≡ Ok new → StoredHeld spec end had bytes new
unfolding page_in behind_header
stored_held spec end had bytes new h =
    let b = steps (of_fields (struct_of page_field no_page end bytes)) (λ draft. header_of spec.optional draft.0 >>= λ header. behind_header spec had header draft.1) new h in
    let behind : List ℕ = b.value.1 in
    let c = steps (header_of spec.optional b.value.0) (λ header. behind_header spec had header behind) new b.later in
    let size : ℕ = c.value.size in
    let body : List ℕ = take size behind in
    let rest : List ℕ = drop size behind in
    let more : Result (Chunk × List ℕ) PageFault = in_page spec had c.value.page body >>= λ x. Ok (x, rest) in
    elim (chosen (nat_lt (length behind) size) (Err cut_off) more (Ok new) c.later) [
      | inl a ↦ absurd (err_ok cut_off new a.1)
      | inr a ↦
          let room : size ≤ length behind = ltb-false (length behind) size a.0 in
          let d = steps (in_page spec had c.value.page body) (λ x. Ok (x, rest)) new a.1 in
          let same : (d.value, rest) ≡ new = ok_same (d.value, rest) new d.later in
          let stored : StoredPage = record { says = c.value.page; body = body } in
          let long : length body ≡ size = omega (arith, length-take size behind, room) in
          let says : header_of spec.optional b.value.0 ≡ Ok (record { size = length body; page = c.value.page }) =
          c.gives ∙ ap (λ (n : ℕ). Ok (record { size = n; page = c.value.page })) (sym long) in
          let begins : BeginsWith spec.optional end bytes stored rest = record {
            fields = b.value.0;
            behind = behind;
            header = fields_ok (struct_of page_field no_page end bytes) b.value b.gives;
            says = says;
            parts = sym (take-append-drop size behind);
          } in
          subst (StoredHeld spec end had bytes) same (record { stored = stored; begins = begins; held = page_held spec had c.value.page body d.value d.gives })
    ]
