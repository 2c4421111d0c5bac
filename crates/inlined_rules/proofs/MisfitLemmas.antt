-- Inlined rows that are bad, by what each kept snapshot sees.
use Rattle.std.proofs.Common.{◌≡◌, ◌⊎◌, inl, inr, ℕ, true, List, Option, None, refl}
use Rattle.cat_tables.specs.Table.{RisesByKey}
use Rattle.cat_tables.specs.Validity.{is_visible, visible_at}
use Rattle.cat_rows.specs.Keys.{table_key}
use Rattle.cat_rows.specs.Tables.{Tables}
use Rattle.cat_rows.specs.Validities.{column_validity, inlined_row_validity}
use Rattle.cat_rows.specs.declared.batch.Key.{Key}
use Rattle.cat_rows.specs.declared.history.SnapshotRow.{SnapshotRow}
use Rattle.cat_rows.specs.declared.inlined.InlinedRow.{InlinedRow}
use Rattle.cat_rows.specs.declared.schemas.ColumnRow.{ColumnRow}
use Rattle.lake_types.specs.declared.value.Value.{Value}
use Rattle.inline_rows.specs.Laws.{Spells}
use Rattle.cat_rules.specs.EachKept.{AtKept}
use Rattle.cat_rules.specs.First.{FirstBad}
use Rattle.cat_rules.specs.InlinedRule.{HasUnreadableCells, HasWrongRowId, IsInlinedBad, IsMisfitIn}
use Rattle.cat_rules.specs.Kept.{AtSome, IsKept}
use Rattle.cat_rules.specs.Places.{of_inlined}
use Rattle.cat_rules.specs.Rows.{Names, SomeOf}
use Rattle.cat_rules.proofs.FirstLemmas.{SomeOf_like, first_like}
use Rattle.cat_rules.proofs.SeenLemmas.{at_like, first_with, from_some, rows_to_seen, some_swap, visible_some}
use Rattle.cat_rules.proofs.SightLemmas.{at_kept, from_kept}
use Rattle.inlined_rules.proofs.InlinedLemmas.{HasMisfitWith, IsBadWith, MisfitWith, SeesInlined}

module _ (t : Tables) where
  abbrev columns_at : ℕ → List ColumnRow
  columns_at s = visible_at column_validity s t.column

  abbrev MisfitAt : ℕ → InlinedRow → Type 0
  MisfitAt s r = (cells : List (ℕ × Value)) × Spells r.cells cells × SomeOf (λ cell. SomeOf (IsMisfitIn r cell) (columns_at s)) cells

  abbrev WrongAt : ℕ → InlinedRow → Type 0
  WrongAt s r = HasUnreadableCells t r ⊎ (HasWrongRowId t r ⊎ MisfitAt s r)

  -- the snapshot sees the row with its table, and a column that refuses the cell
  abbrev CellAt : InlinedRow → ℕ × Value → ℕ → Type 0
  CellAt r cell s = SeesInlined t r s × SomeOf (IsMisfitIn r cell) (columns_at s)

  abbrev ColumnAt : InlinedRow → ℕ × Value → ℕ → ColumnRow → Type 0
  ColumnAt r cell s c = SeesInlined t r s × IsMisfitIn r cell c

  cell_to : (r : InlinedRow) (cell : ℕ × Value) → SomeOf (MisfitWith t r cell) t.column → AtSome t (CellAt r cell)
  cell_to r cell h =
      at_like t (λ s. SomeOf (ColumnAt r cell s) (columns_at s)) (CellAt r cell)
      (λ s x. (from_some (ColumnAt r cell s) (SeesInlined t r s) (λ c y. y.0) (columns_at s) x, SomeOf_like (ColumnAt r cell s) (IsMisfitIn r cell) (λ c y. y.1) (columns_at s) x))
      (rows_to_seen t column_validity (MisfitWith t r cell) (ColumnAt r cell)
      (λ c x. at_like t (λ s. SeesInlined t r s × (is_visible column_validity s c ≡ true)) (λ s. (is_visible column_validity s c ≡ true) × ColumnAt r cell s (column_validity.with_end None c)) (λ s y. (y.1, (y.0, (x.0, x.1.1)))) x.1.0)
      t.column h)

  misfit_to : (r : InlinedRow) → HasMisfitWith t r → AtSome t (λ s. SeesInlined t r s × MisfitAt s r)
  misfit_to r m =
      at_like t (λ s. SomeOf (λ cell. CellAt r cell s) m.0) (λ s. SeesInlined t r s × MisfitAt s r)
      (λ s x. (
        from_some (λ cell. CellAt r cell s) (SeesInlined t r s) (λ cell y. y.0) m.0 x,
        (m.0, m.1, SomeOf_like (λ cell. CellAt r cell s) (λ cell. SomeOf (IsMisfitIn r cell) (columns_at s)) (λ cell y. y.1) m.0 x),
      ))
      (some_swap (λ cell (z : SnapshotRow). CellAt r cell z.snapshot_id) m.0 t.snapshot
      (SomeOf_like (λ cell. SomeOf (MisfitWith t r cell) t.column) (λ cell. SomeOf (λ (z : SnapshotRow). CellAt r cell z.snapshot_id) t.snapshot) (λ cell x. cell_to r cell x) m.0 m.2))

  misfit_from : (r : InlinedRow) (s : ℕ) → IsKept t s → SeesInlined t r s → MisfitAt s r → HasMisfitWith t r
  misfit_from r s kept sees m = (
    m.0,
    m.1,
    SomeOf_like (λ cell. SomeOf (IsMisfitIn r cell) (columns_at s)) (λ cell. SomeOf (MisfitWith t r cell) t.column)
        (λ cell x. SomeOf_like (λ c. (is_visible column_validity s c ≡ true) × IsMisfitIn r cell (column_validity.with_end None c)) (MisfitWith t r cell)
        (λ c y. (y.1.0, (at_kept t (λ s. SeesInlined t r s × (is_visible column_validity s c ≡ true)) s kept (sees, y.0), y.1.1))) t.column
        (visible_some column_validity s (IsMisfitIn r cell) t.column x)) m.0 m.2,
  )

  abbrev FoundWrong : InlinedRow → Type 0
  FoundWrong r = AtSome t (λ s. SeesInlined t r s × WrongAt s r)

  wrong_to : (r : InlinedRow) → IsBadWith t r → FoundWrong r
  wrong_to r x = go x.1
    where
      go : HasUnreadableCells t r ⊎ (HasWrongRowId t r ⊎ HasMisfitWith t r) → FoundWrong r
      go (inl u) = at_like t (SeesInlined t r) (λ s. SeesInlined t r s × WrongAt s r) (λ s y. (y, inl u)) x.0
      go (inr (inl w)) = at_like t (SeesInlined t r) (λ s. SeesInlined t r s × WrongAt s r) (λ s y. (y, inr (inl w))) x.0
      go (inr (inr m)) = at_like t (λ s. SeesInlined t r s × MisfitAt s r) (λ s. SeesInlined t r s × WrongAt s r) (λ s y. (y.0, inr (inr y.1))) (misfit_to r m)

  wrong_from : (r : InlinedRow) → FoundWrong r → IsBadWith t r
  wrong_from r x = let some = from_kept t (λ s. SeesInlined t r s × WrongAt s r) x in (at_kept t (SeesInlined t r) some.0 some.1 some.2.0, go some.0 some.1 some.2.0 some.2.1)
    where
      go : (s : ℕ) → IsKept t s → SeesInlined t r s → WrongAt s r → HasUnreadableCells t r ⊎ (HasWrongRowId t r ⊎ HasMisfitWith t r)
      go s kept sees (inl u) = inl u
      go s kept sees (inr (inl w)) = inr (inl w)
      go s kept sees (inr (inr m)) = inr (inr (misfit_from r s kept sees m))

  pub first_inlined_seen : RisesByKey table_key t.table → (o : Option Key) → FirstBad (Names of_inlined (IsBadWith t) t.inlined_row) o → FirstBad (AtKept (IsInlinedBad t) t) o
  first_inlined_seen rise o h =
      first_with t rise inlined_row_validity of_inlined (λ r. r.table_id) WrongAt (λ s r y. y) (λ s r y. y) (λ r. refl) (λ r. refl) t.inlined_row o
      (first_like (Names of_inlined (IsBadWith t) t.inlined_row) (Names of_inlined FoundWrong t.inlined_row)
      (λ k p. SomeOf_like (λ r. IsBadWith t r × (of_inlined r ≡ k)) (λ r. FoundWrong r × (of_inlined r ≡ k)) (λ r x. (wrong_to r x.0, x.1)) t.inlined_row p)
      (λ k p. SomeOf_like (λ r. FoundWrong r × (of_inlined r ≡ k)) (λ r. IsBadWith t r × (of_inlined r ≡ k)) (λ r x. (wrong_from r x.0, x.1)) t.inlined_row p)
      o h)
