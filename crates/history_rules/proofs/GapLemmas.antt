-- Snapshots that rise by id: the first gap between two that stand side by side is the first one that is missing.
use Rattle.std.proofs.Common.{◌≡◌, ℕ, ◌+◌, ◌-◌, ◌<◌, ◌≤◌, inl, inr, ⊎_elim, Bool, true, false, cond, List, [], ◌∷◌, length, get_or, drop, Option, Some, None, refl, sym, ap, ◌∙◌, subst, true≢false, arith}
use Rattle.std.specs.Prelude.{nat_lt}
use Rattle.std.proofs.lemmas.Bool.{cases_lt, lt-ltb}
use Rattle.std.proofs.lemmas.Bool.Decides.{Decides-ltb}
use Rattle.std.proofs.lemmas.List.{at_drop_all, at_drop_more}
use Rattle.cat_tables.specs.Table.{RisesByKey}
use Rattle.cat_tables.proofs.PlaceLemmas.{less_is}
use Rattle.cat_rows.specs.Keys.{snapshot_key}
use Rattle.cat_rows.specs.declared.batch.Key.{Key}
use Rattle.cat_rows.specs.declared.batch.Key.TheVariants as key
use Rattle.cat_rows.specs.declared.history.SnapshotRow.{SnapshotRow}
use Rattle.cat_rules.specs.First.{FirstBad}
use Rattle.cat_rules.specs.HistoryRule.{IsAmong, IsMissing}
use Rattle.cat_rules.specs.Places.{is_sooner}
use Rattle.cat_rules.specs.Rows.{SomeOf}
use Rattle.cat_rules.proofs.SnapshotLemmas.{above, below_lt}

sooner_lt : (m n : ℕ) → is_sooner (key.Snapshot m) (key.Snapshot n) ≡ true → m < n
sooner_lt m n h = below_lt m n (less_is _ h)

-- each id is past the one before, and the first past n
abbrev pub Climbs : ℕ → List SnapshotRow → Type 0
Climbs n [] = Unit {0}
Climbs n (q ∷ rs) = (n < q.snapshot_id) × Climbs q.snapshot_id rs

pub climbs : (r : SnapshotRow) (rs : List SnapshotRow) → RisesByKey snapshot_key (r ∷ rs) → Climbs r.snapshot_id rs
climbs r [] up = tt
climbs r (q ∷ rs) up = ((above r (q ∷ rs) up.0).0, climbs q rs up.1)

past_all : (n m : ℕ) (rs : List SnapshotRow) → m ≤ n → Climbs n rs → IsAmong rs m → ⊥
past_all n m [] le up h = h
past_all n m (q ∷ rs) le up h = ⊎_elim (λ e. absurd (omega arith)) (λ more. past_all q.snapshot_id m rs (omega arith) up.1 more) h

pub none_below : (n m : ℕ) (rs : List SnapshotRow) → m ≤ n → Climbs n rs → SomeOf (λ q. q.snapshot_id < m) rs → ⊥
none_below n m [] le up h = h
none_below n m (q ∷ rs) le up h = ⊎_elim (λ e. absurd (omega arith)) (λ more. none_below q.snapshot_id m rs (omega arith) up.1 more) h

-- the first gap behind n
abbrev pub gap : ℕ → List SnapshotRow → Option Key
gap n [] = None
gap n (q ∷ rs) = cond (nat_lt 1 (q.snapshot_id - n)) (Some (key.Snapshot (n + 1))) (gap q.snapshot_id rs)

-- it is the first that is missing behind n
abbrev IsFirstGap : ℕ → List SnapshotRow → Option Key → Type 0
IsFirstGap n rs None = (m : ℕ) → n < m → SomeOf (λ q. m < q.snapshot_id) rs → IsAmong rs m
IsFirstGap n rs (Some k) =
    (g : ℕ) × (key.Snapshot g ≡ k) × (n < g) × SomeOf (λ q. g < q.snapshot_id) rs × (IsAmong rs g → ⊥) × ((m : ℕ) → n < m → m < g → IsAmong rs m)

onward : (n : ℕ) (q : SnapshotRow) (rs : List SnapshotRow) (o : Option Key) → q.snapshot_id ≡ n + 1 → IsFirstGap q.snapshot_id rs o → IsFirstGap n (q ∷ rs) o
onward n q rs None e h = λ m lt some. ⊎_elim
    (λ past. ⊎_elim (λ now. absurd (omega arith)) (λ more. inr (h m past more)) some)
    (λ le. let same : q.snapshot_id ≡ m = omega arith in inl same)
    (cases_lt q.snapshot_id m)
onward n q rs (Some k) e h = (
  h.0,
  h.1,
  omega (arith, h.2),
  inr h.3,
  λ among. ⊎_elim (λ now. absurd (omega (arith, h.2))) (λ more. h.4 more) among,
  λ m low high. ⊎_elim (λ past. inr (h.5 m past high)) (λ le. let same : q.snapshot_id ≡ m = omega arith in inl same) (cases_lt q.snapshot_id m),
)

first_gap_is : (n : ℕ) (rs : List SnapshotRow) → Climbs n rs → IsFirstGap n rs (gap n rs)
first_gap_is n [] up = λ m lt h. absurd h
first_gap_is n (q ∷ rs) up = go (nat_lt 1 (q.snapshot_id - n)) (Decides-ltb 1 (q.snapshot_id - n)) (first_gap_is q.snapshot_id rs up.1)
  where
    go : (b : Bool) → (b ≡ true → 1 < q.snapshot_id - n) × (1 < q.snapshot_id - n → b ≡ true) → IsFirstGap q.snapshot_id rs (gap q.snapshot_id rs)
        → IsFirstGap n (q ∷ rs) (cond b (Some (key.Snapshot (n + 1))) (gap q.snapshot_id rs))
    go true d more =
        let wide : 1 < q.snapshot_id - n = d.0 refl in
        (n + 1, refl, omega arith, inl (omega arith), λ among. ⊎_elim (λ e. absurd (omega arith)) (λ h. past_all q.snapshot_id (n + 1) rs (omega arith) up.1 h) among, λ m low high. absurd (omega arith))
    go false d more =
        let narrow : 1 < q.snapshot_id - n → ⊥ = λ w. true≢false (sym (d.1 w)) in
        let lt : n < q.snapshot_id = up.0 in
        onward n q rs (gap q.snapshot_id rs) (⊎_elim (λ w. absurd (narrow w)) (λ le. omega arith) (cases_lt 1 (q.snapshot_id - n))) more

missing_first : (r : SnapshotRow) (rs : List SnapshotRow) (o : Option Key) → Climbs r.snapshot_id rs → IsFirstGap r.snapshot_id rs o → FirstBad (IsMissing (r ∷ rs)) o
missing_first r rs o up h = go o h
  where
    past : (m : ℕ) → SomeOf (λ q. q.snapshot_id < m) (r ∷ rs) → r.snapshot_id < m
    past m some = ⊎_elim (λ lt. lt) (λ le. ⊎_elim (λ lt. lt) (λ more. absurd (none_below r.snapshot_id m rs le up more)) some) (cases_lt r.snapshot_id m)

    behind : (m : ℕ) → r.snapshot_id < m → SomeOf (λ q. m < q.snapshot_id) (r ∷ rs) → SomeOf (λ q. m < q.snapshot_id) rs
    behind m lt some = ⊎_elim (λ now. absurd (omega arith)) (λ more. more) some

    go : (o : Option Key) → IsFirstGap r.snapshot_id rs o → FirstBad (IsMissing (r ∷ rs)) o
    go None h = λ k bad. bad.4 (inr (h bad.0 (past bad.0 bad.2) (behind bad.0 (past bad.0 bad.2) bad.3)))
    go (Some k) h = (
      (h.0, h.1, inl h.2, inr h.3, λ among. ⊎_elim (λ e. absurd (omega (arith, h.2))) (λ more. h.4 more) among),
      λ j bad s.
          let Sooner : Key → Key → Type 0 = λ a b. is_sooner a b ≡ true in
          let lt : bad.0 < h.0 = sooner_lt bad.0 h.0 (subst (λ a. Sooner a (key.Snapshot h.0)) (sym bad.1) (subst (λ b. Sooner j b) (sym h.1) s)) in
          bad.4 (inr (h.5 bad.0 (past bad.0 bad.2) lt)),
    )

pub first_missing : (r : SnapshotRow) (rs : List SnapshotRow) → RisesByKey snapshot_key (r ∷ rs) → FirstBad (IsMissing (r ∷ rs)) (gap r.snapshot_id rs)
first_missing r rs up = missing_first r rs (gap r.snapshot_id rs) (climbs r rs up) (first_gap_is r.snapshot_id rs (climbs r rs up))

pub first_gap_of : (rows : List SnapshotRow) (r : SnapshotRow) (rs : List SnapshotRow) (o : Option Key) → rows ≡ r ∷ rs → RisesByKey snapshot_key rows → gap r.snapshot_id rs ≡ o → FirstBad (IsMissing rows) o
first_gap_of rows r rs o e up found =
    let missing = first_missing r rs (subst (RisesByKey snapshot_key) e up) in
    subst (λ l. FirstBad (IsMissing l) o) (sym e) (subst (FirstBad (IsMissing (r ∷ rs))) found missing)

pub gap_here : (n : ℕ) (rs : List SnapshotRow) (i : ℕ) (d : SnapshotRow) → i < length rs → 1 < (get_or rs i d).snapshot_id - n → gap n (drop i rs) ≡ Some (key.Snapshot (n + 1))
gap_here n rs i d lt wide = at_drop_more (gap n) rs i d lt ∙ ap (λ b. cond b (Some (key.Snapshot (n + 1))) (gap (get_or rs i d).snapshot_id (drop (i + 1) rs))) (lt-ltb _ _ wide)

pub no_gap : (n : ℕ) (rs : List SnapshotRow) (i : ℕ) → length rs ≤ i → gap n (drop i rs) ≡ None
no_gap n rs i le = at_drop_all (gap n) rs i le
