-- What kept snapshots see: a row, two rows together, a row with its table, or a row without the one that it refers to.
use Rattle.std.specs.Prelude.{◌≡◌, ◌⊎◌, ℕ, Bool, true, false, List, Option, Some, None, is_none}
use Rattle.cat_tables.specs.Validity.{Validity, is_visible}
use Rattle.cat_rows.specs.Tables.{Tables}
use Rattle.cat_rows.specs.declared.batch.Key.{Key}
use Rattle.cat_rules.specs.Kept.{AtSome}
use Rattle.cat_rules.specs.Rows.{Names, NamesIf, SomeOf}
use Rattle.cat_tables.specs.Table.{IsBelow}
use Rattle.cat_rows.specs.Validities.{table_validity}
use Rattle.cat_rows.specs.declared.schemas.TableRow.{TableRow}
use Rattle.cat_rules.specs.Lookups.{HasRow}
use Rattle.cat_tables.specs.Interval.{interval_of, outlasts}

-- some kept snapshot sees it
abbrev pub IsSeen : {R : Type 0} → Tables → Validity R → R → Type 0
IsSeen t v r = AtSome t (λ s. is_visible v s r ≡ true)

-- some kept snapshot sees both
abbrev pub AreSeen : {R : Type 0} → Tables → Validity R → R → R → Type 0
AreSeen t v q r = AtSome t (λ s. (is_visible v s q ≡ true) × (is_visible v s r ≡ true))

module _ {R : Type 0} (v : Validity R) where
  -- the snapshot sees the row and its table
  abbrev pub SeesWith : Option TableRow → R → ℕ → Type 0
  SeesWith table r s = (is_visible v s r ≡ true) × HasRow table (λ q. is_visible table_validity s q ≡ true)

-- a kept snapshot sees an earlier row that is alike too
abbrev pub HasEarlier : {R : Type 0} → (R → R → Type 0) → Tables → Validity R → (R → List ℕ) → List R → R → Type 0
HasEarlier Alike t v key rows r = SomeOf (λ q. IsBelow key q r × Alike q r × AreSeen t v q r) rows

module _ {R S : Type 0} (t : Tables) (v : Validity R) (w : Validity S) where
  -- some kept snapshot sees the row and not the other
  abbrev pub IsSeenWithout : R → S → Type 0
  IsSeenWithout r q = AtSome t (λ s. (is_visible v s r ≡ true) × (is_visible w s q ≡ false))

  -- the row is seen, and the one that it refers to isn't there at all
  abbrev pub LacksOther : (R → Option S) → R → Type 0
  LacksOther other r = IsSeen t v r × (other r ≡ None)

  -- the one that it refers to is there, and some kept snapshot sees the row and not it
  abbrev pub MissesOther : (R → Option S) → R → Type 0
  MissesOther other r = (q : S) × (other r ≡ Some q) × IsSeenWithout r q

-- the same of the one that the row refers to, if it is there
abbrev pub outlasts_other : {R S : Type 0} → ℕ → Validity R → Validity S → R → Option S → Bool
outlasts_other first v w r None = false
outlasts_other first v w r (Some q) = outlasts first (interval_of v r) (interval_of w q)

module _ {R S : Type 0} (t : Tables) (v : Validity R) (w : Validity S) (other : R → Option S) (other_name name : R → Key) (rows : List R) where
  -- what a row refers to isn't there, which names that; or some kept snapshot sees the row and not it, which names the row
  abbrev pub IsUnmatched : Key → Type 0
  IsUnmatched k = Names other_name (LacksOther t v w other) rows k ⊎ Names name (MissesOther t v w other) rows k

  -- the same by the intervals alone
  abbrev pub IsUnmatchedBy : ℕ → Key → Type 0
  IsUnmatchedBy first k = NamesIf other_name (λ r. is_none (other r)) rows k ⊎ NamesIf name (λ r. outlasts_other first v w r (other r)) rows k
