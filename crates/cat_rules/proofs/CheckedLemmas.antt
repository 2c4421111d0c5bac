-- The first bad row of rows that are judged one by one.
use Rattle.std.proofs.Common.{◌≡◌, inl, inr, ⊎_elim, ℕ, ◌+◌, ◌<◌, ◌≤◌, true, false, List, [], ◌∷◌, Option, Some, None, length, drop, get_or, is_some, refl, sym, ap, subst, ◌∙◌, true≢false}
use Rattle.std.specs.List.{AllByRecursion}
use Rattle.std.proofs.lemmas.List.{at_drop_all, at_drop_more}
use Rattle.cat_tables.specs.Table.{IsAscending}
use Rattle.cat_rows.specs.declared.batch.Key.{Key}
use Rattle.cat_rules.specs.First.{FirstBad, Judges}
use Rattle.cat_rules.specs.Places.{is_sooner}
use Rattle.cat_rules.specs.Rows.{Names}
use Rattle.cat_rules.proofs.FirstLemmas.{first_like, not_sooner_itself, sooner_then}

module _ {R : Type 0} (name : R → Key) (Bad : R → Type 0) where
  abbrev Ascends : List R → Type 0
  Ascends = IsAscending (λ a b. is_sooner (name a) (name b) ≡ true)

  -- what the rows that are left give, all rows give
  abbrev pub GoesOn : List R → List R → Type 0
  GoesOn rows left = Ascends left × ((o : Option Key) → FirstBad (Names name Bad left) o → FirstBad (Names name Bad rows) o)

  later : (r : R) (rs : List R) → AllByRecursion (λ q. is_sooner (name r) (name q) ≡ true) rs → (j : Key) → Names name Bad rs j → is_sooner j (name r) ≡ true → ⊥
  later r [] up j h s = h
  later r (q ∷ rs) up j h s =
      ⊎_elim (λ x. let T : Key → Type 0 = λ i. is_sooner i (name r) ≡ true in not_sooner_itself (name r) (sooner_then (name r) (name q) (name r) up.0 (subst T (sym x.1) s)))
      (λ x. later r rs up.1 j x s) h

  here : (r : R) (rs : List R) → Ascends (r ∷ rs) → Bad r → FirstBad (Names name Bad (r ∷ rs)) (Some (name r))
  here r rs up bad =
      (inl (bad, refl), λ j h s. ⊎_elim (λ x. let T : Key → Type 0 = λ i. is_sooner i (name r) ≡ true in not_sooner_itself (name r) (subst T (sym x.1) s)) (λ x. later r rs up.0 j x s) h)

  pub begin : (rows : List R) → Ascends rows → GoesOn rows rows
  begin rows up = (up, λ o h. h)

  pub stop : (rows : List R) (r : R) (rs : List R) (told : Option Key) → GoesOn rows (r ∷ rs) → Judges (Bad r) (name r) told → is_some told ≡ true
      → FirstBad (Names name Bad rows) told
  stop rows r rs None on h e = absurd (true≢false (sym e))
  stop rows r rs (Some j) on h e =
      let T : Key → Type 0 = λ i. FirstBad (Names name Bad rows) (Some i) in
      subst T (sym h.1) (on.1 (Some (name r)) (here r rs on.0 h.0))

  pub step : (rows : List R) (r : R) (rs : List R) (told : Option Key) → GoesOn rows (r ∷ rs) → Judges (Bad r) (name r) told → is_some told ≡ false → GoesOn rows rs
  step rows r rs (Some j) on h e = absurd (true≢false e)
  step rows r rs None on good e =
      (on.0.1, λ o h. on.1 o (first_like (Names name Bad rs) (Names name Bad (r ∷ rs)) (λ k p. inr p) (λ k p. ⊎_elim (λ x. absurd (good x.0)) (λ x. x) p) o h))

  pub end : (rows : List R) → GoesOn rows [] → FirstBad (Names name Bad rows) None
  end rows on = on.1 None (λ k h. h)

  -- the row at a place, and those behind it
  pub at_row : (rows : List R) (i : ℕ) (d r : R) → i < length rows → r ≡ get_or rows i d → GoesOn rows (drop i rows) → GoesOn rows (r ∷ drop (i + 1) rows)
  at_row rows i d r lt e on =
      let parts : drop i rows ≡ r ∷ drop (i + 1) rows = at_drop_more (λ xs. xs) rows i d lt ∙ ap (λ x. x ∷ drop (i + 1) rows) (sym e) in
      subst (GoesOn rows) parts on

  pub past_rows : (rows : List R) (i : ℕ) → length rows ≤ i → GoesOn rows (drop i rows) → GoesOn rows []
  past_rows rows i le on = subst (GoesOn rows) (at_drop_all (λ xs. xs) rows i le) on
