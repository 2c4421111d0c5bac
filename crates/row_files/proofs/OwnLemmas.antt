-- What is kept of each table while a list's changes are gone over.
use Rattle.std.proofs.Common.{◌≡◌, ◌+◌, ◌<◌, ◌≤◌, ◌||◌, ℕ, Bool, true, false, cond, List, [], ◌∷◌, ◌++◌, append_assoc, append-nil, length, drop, drop-cons, get_or, suc, Option, Some, None, refl, sym, ap, ap₂, subst, ◌∙◌, arith, if◌then◌else◌}
use Rattle.std.proofs.lemmas.List.{drop_all}
use Rattle.lake_model.specs.Apply.{is_ref}
use Rattle.lake_model.specs.Kinds.{drops_table, is_drop_of_table}
use Rattle.lake_model.specs.declared.change.Change.{Change}
use Rattle.lake_model.specs.declared.change.Ref.{Ref}
use Rattle.lake_model.specs.declared.change.Ref.TheVariants as ref
use Rattle.indexmap.specs.IndexMap.{IndexMap, get}
use Rattle.std.specs.Map.{lookup}
use Rattle.lake_model.specs.contracts.change.RefPartialEq.TheImpl.{eq-value}
use Rattle.lake_model.proofs.RefLemmas.{ref-same, ref_turned}
use Rattle.row_files.specs.Own.{ComesTo, Continues, IsEarlier, creates_table, inserts_into, inserts_of, is_dropped, next_table, places_from}
use Rattle.row_files.specs.declared.own.OwnTable.{OwnTable}

-- ---- one table

-- what a map's `==` of references is
meets : (a b : Ref) → eq-value.it a b ≡ is_ref a b
meets (ref.Old a) (ref.Old b) = refl
meets (ref.New a) (ref.New b) = refl
meets (ref.Old a) (ref.New b) = refl
meets (ref.New a) (ref.Old b) = refl

pub alike : {X S : Type 0} (m : IndexMap Ref X S) (q : Ref) → get eq-value.it m q ≡ get is_ref m q
alike m q = ap (λ f. lookup f m.entries) (λ i k. meets q k i)

pub put_at : {X S : Type 0} (old new : IndexMap Ref X S) (at : Ref) (x : Option X) → ((q : Ref) → get eq-value.it new q ≡ cond (eq-value.it at q) x (get eq-value.it old q))
    → (q : Ref) → get is_ref new q ≡ cond (is_ref at q) x (get is_ref old q)
put_at old new at x put q = sym (alike new q) ∙ put q ∙ ap₂ (λ b o. cond b x o) (meets at q) (alike old q)

pub stays_at : {X S : Type 0} (old new : IndexMap Ref X S) (at : Ref) (x : Option X) → ((q : Ref) → get eq-value.it new q ≡ cond (eq-value.it at q) x (get eq-value.it old q))
    → (q : Ref) → is_ref at q ≡ false → get is_ref new q ≡ get is_ref old q
stays_at old new at x put q other = put_at old new at x put q ∙ ap (λ b. cond b x (get is_ref old q)) other

or_true : (b : Bool) → (b || true) ≡ true
or_true true = refl
or_true false = refl

or_false : (b : Bool) → (b || false) ≡ b
or_false true = refl
or_false false = refl

module _ (old mid new : Ref → Option OwnTable) (at : Ref) (table : OwnTable) (put : (q : Ref) → new q ≡ cond (is_ref at q) (Some table) (mid q))
    (rest : (q : Ref) → is_ref at q ≡ false → mid q ≡ old q) where
  pub more_inserts : (more : List ℕ) → table.inserts.items ≡ inserts_of (old at) ++ more → (q : Ref) → inserts_of (new q) ≡ inserts_of (old q) ++ (if is_ref q at then more else [])
  more_inserts more has q = go (is_ref at q) refl
    where
      go : (b : Bool) → is_ref at q ≡ b → inserts_of (new q) ≡ inserts_of (old q) ++ (if is_ref q at then more else [])
      go true e =
          ap inserts_of (put q ∙ ap (λ b. cond b (Some table) (mid q)) e) ∙ has ∙ ap (λ a. inserts_of (old a) ++ more) (ref-same at q e)
          ∙ sym (ap (λ b. inserts_of (old q) ++ cond b more []) (ref_turned q at ∙ e))
      go false e =
          ap inserts_of (put q ∙ ap (λ b. cond b (Some table) (mid q)) e ∙ rest q e)
          ∙ sym (ap (λ b. inserts_of (old q) ++ cond b more []) (ref_turned q at ∙ e) ∙ append-nil (inserts_of (old q)))

  pub same_inserts : table.inserts.items ≡ inserts_of (old at) → (q : Ref) → inserts_of (new q) ≡ inserts_of (old q)
  same_inserts has q = go (is_ref at q) refl
    where
      go : (b : Bool) → is_ref at q ≡ b → inserts_of (new q) ≡ inserts_of (old q)
      go true e = ap inserts_of (put q ∙ ap (λ b. cond b (Some table) (mid q)) e) ∙ has ∙ ap (λ a. inserts_of (old a)) (ref-same at q e)
      go false e = ap inserts_of (put q ∙ ap (λ b. cond b (Some table) (mid q)) e ∙ rest q e)

  pub same_dropped : table.is_dropped ≡ is_dropped (old at) → (q : Ref) → is_dropped (new q) ≡ is_dropped (old q)
  same_dropped has q = go (is_ref at q) refl
    where
      go : (b : Bool) → is_ref at q ≡ b → is_dropped (new q) ≡ is_dropped (old q)
      go true e = ap is_dropped (put q ∙ ap (λ b. cond b (Some table) (mid q)) e) ∙ has ∙ ap (λ a. is_dropped (old a)) (ref-same at q e)
      go false e = ap is_dropped (put q ∙ ap (λ b. cond b (Some table) (mid q)) e ∙ rest q e)

  pub set_dropped : table.is_dropped ≡ true → (q : Ref) → is_dropped (new q) ≡ (is_dropped (old q) || is_ref q at)
  set_dropped has q = go (is_ref at q) refl
    where
      go : (b : Bool) → is_ref at q ≡ b → is_dropped (new q) ≡ (is_dropped (old q) || is_ref q at)
      go true e =
          ap is_dropped (put q ∙ ap (λ b. cond b (Some table) (mid q)) e) ∙ has
          ∙ sym (ap (λ b. is_dropped (old q) || b) (ref_turned q at ∙ e) ∙ or_true (is_dropped (old q)))
      go false e =
          ap is_dropped (put q ∙ ap (λ b. cond b (Some table) (mid q)) e ∙ rest q e)
          ∙ sym (ap (λ b. is_dropped (old q) || b) (ref_turned q at ∙ e) ∙ or_false (is_dropped (old q)))

-- ---- one more change

module _ (place n : ℕ) (c : Change) (own : List Change) (old new last : Ref → Option OwnTable) where
  abbrev pub NotesInserts : Type 0
  NotesInserts = (q : Ref) → IsEarlier n q → inserts_of (new q) ≡ inserts_of (old q) ++ (if inserts_into q c then place ∷ [] else [])

  abbrev pub NotesDropped : Type 0
  NotesDropped = (q : Ref) → IsEarlier n q → is_dropped (new q) ≡ (is_dropped (old q) || is_drop_of_table q c)

  places_step : (b : Bool) (q : Ref) → inserts_into q c ≡ b → (if b then place ∷ [] else []) ++ places_from (place + 1) q own ≡ places_from place q (c ∷ own)
  places_step true q e = sym (ap (λ b. cond b (place ∷ places_from (place + 1) q own) (places_from (place + 1) q own)) e)
  places_step false q e = sym (ap (λ b. cond b (place ∷ places_from (place + 1) q own) (places_from (place + 1) q own)) e)

  or_assoc : (a b d : Bool) → ((a || b) || d) ≡ (a || (b || d))
  or_assoc true b d = refl
  or_assoc false b d = refl

  noted : NotesInserts → NotesDropped → (q : Ref) → IsEarlier n q → Continues (place + 1) q own (new q) (last q) → Continues place q (c ∷ own) (old q) (last q)
  noted inserts dropped q before h = record {
    inserts =
        h.inserts ∙ ap (λ l. l ++ places_from (place + 1) q own) (inserts q before)
        ∙ append_assoc (inserts_of (old q)) (if inserts_into q c then place ∷ [] else []) (places_from (place + 1) q own)
        ∙ ap (λ l. inserts_of (old q) ++ l) (places_step (inserts_into q c) q refl);
    dropped = h.dropped ∙ ap (λ b. b || drops_table own q) (dropped q before) ∙ or_assoc (is_dropped (old q)) (is_drop_of_table q c) (drops_table own q);
  }

  still_earlier : (q : Ref) → IsEarlier n q → IsEarlier (next_table n c) q
  still_earlier (ref.Old id) h = tt
  still_earlier (ref.New k) h = go (creates_table c) refl
    where
      go : (b : Bool) → creates_table c ≡ b → k < next_table n c
      go true e = rw e (omega (arith, h))
      go false e = rw e h

  pub comes_to : NotesInserts → NotesDropped → (creates_table c ≡ true → (inserts_of (new (ref.New n)) ≡ []) × (is_dropped (new (ref.New n)) ≡ false))
      → ComesTo (place + 1) (next_table n c) own new last → ComesTo place n (c ∷ own) old last
  comes_to inserts dropped made h = record {
    earlier = λ q before. noted inserts dropped q before (h.earlier q (still_earlier q before));
    made = (begins, h.made);
  }
    where
      begins : creates_table c ≡ true → Continues (place + 1) (ref.New n) own None (last (ref.New n))
      begins is =
          let there : IsEarlier (next_table n c) (ref.New n) = rw is (omega arith) in
          let one = h.earlier (ref.New n) there in
          let none = made is in
          record {
            inserts = one.inserts ∙ ap (λ l. l ++ places_from (place + 1) (ref.New n) own) none.0;
            dropped = one.dropped ∙ ap (λ b. b || drops_table own (ref.New n)) none.1;
          }

pub at_end : (place n : ℕ) (last : Ref → Option OwnTable) → ComesTo place n [] last last
at_end place n last = record {
  earlier = λ q before. record { inserts = sym (append-nil (inserts_of (last q))); dropped = sym (or_false (is_dropped (last q))) };
  made = tt;
}

-- going over the list

pub next_place : (own : List Change) (place n next : ℕ) (c : Change) (now new first : Ref → Option OwnTable) → place < length own → c ≡ get_or own place c
    → ((rest : List Change) (last : Ref → Option OwnTable) → ComesTo (place + 1) (next_table n c) rest new last → ComesTo place n (c ∷ rest) now last) → next ≡ next_table n c
    → ((last : Ref → Option OwnTable) → ComesTo place n (drop place own) now last → ComesTo 0 0 own first last)
    → (last : Ref → Option OwnTable) → ComesTo (place + 1) next (drop (place + 1) own) new last → ComesTo 0 0 own first last
next_place own place n next c now new first lt is one count before last h =
    let e : place + 1 ≡ suc place = omega arith in
    let left : drop place own ≡ c ∷ drop (suc place) own = drop-cons own place c lt ∙ ap (λ x. x ∷ drop (suc place) own) (sym is) in
    let after : ComesTo (place + 1) (next_table n c) (drop (suc place) own) new last =
    subst (λ m. ComesTo (place + 1) m (drop (suc place) own) new last) count (subst (λ m. ComesTo (place + 1) next (drop m own) new last) e h) in
    before last (subst (λ rest. ComesTo place n rest now last) (sym left) (one (drop (suc place) own) last after))

pub came_to : (own : List Change) (place n : ℕ) (now first : Ref → Option OwnTable) → length own ≤ place
    → ((last : Ref → Option OwnTable) → ComesTo place n (drop place own) now last → ComesTo 0 0 own first last) → ComesTo 0 0 own first now
came_to own place n now first all before = before now (subst (λ rest. ComesTo place n rest now now) (sym (drop_all place own all)) (at_end place n now))

pub next_few : (n place next : ℕ) (c : Change) → n ≤ place → next ≡ next_table n c → next ≤ place + 1
next_few n place next c few is = go (creates_table c) refl
  where
    go : (b : Bool) → creates_table c ≡ b → next ≤ place + 1
    go true e = omega (arith, few, is ∙ ap (λ b. cond b (n + 1) n) e)
    go false e = omega (arith, few, is ∙ ap (λ b. cond b (n + 1) n) e)
