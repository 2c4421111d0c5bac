-- Rules over what kept snapshots see stay after a batch; rules on counters stay where these grow.
use Rattle.std.proofs.Common.{◌≡◌, inl, inr, ⊎_elim, ℕ, ◌≤◌, ◌||◌, Bool, true, List, Option, Some, None, refl, sym, ◌∙◌, true≢false, arith, ◌+◌}
use Rattle.std.proofs.lemmas.Bool.{leb-true, le-leb, or_cases, or_left, or_right, le-ltb, ltb-false}
use Rattle.cat_rows.specs.Batches.{applied}
use Rattle.cat_rows.specs.Seen.{Seen}
use Rattle.cat_rows.specs.Tables.{Tables}
use Rattle.cat_rows.specs.declared.batch.Key.{Key}
use Rattle.cat_rows.specs.declared.files.TableStatsRow.{TableStatsRow}
use Rattle.cat_rules.specs.CounterRule.{IsPastCounters, is_not_past}
use Rattle.cat_rules.specs.First.{Holds}
use Rattle.cat_rules.specs.Laws.{CountersStay, FieldsStay, Grow, StaysAfter, RowIdsStay, InlinedIdsStay}
use Rattle.cat_rules.specs.Lookups.{HasRow, stats_of_table}
use Rattle.cat_rules.specs.Rows.{Names, NamesIf}
use Rattle.cat_rules.proofs.DatedLemmas.{all_fine}
use Rattle.cat_rules.proofs.FirstLemmas.{SomeOf_like, none_of}
use Rattle.cat_rules.proofs.SeenLemmas.{each-after, each-holds, each-weaker, holds-each}

-- what the rule says of the tables besides may change, where it holds or not alike
pub stays-after : (Bad : Tables → Seen → Key → Type 0) → ((t u : Tables) (seen : Seen) → Holds (Bad t seen) → Holds (Bad u seen)) → StaysAfter Bad
stays-after Bad alike t b new makes old now =
    let u = applied b t in
    each-holds (Bad u) u
    (each-after (λ seen. Holds (Bad u seen)) t b new makes.snapshots makes.past
    (each-weaker (λ seen. Holds (Bad t seen)) (λ seen. Holds (Bad u seen)) t (alike t u) (holds-each (Bad t) t old)) now)

-- which key a bad row names makes no difference
pub names-alike : {R : Type 0} (name other_name : R → Key) (Bad : R → Type 0) (rows : List R) → Holds (Names name Bad rows) → Holds (Names other_name Bad rows)
names-alike name other_name Bad rows h k bad =
    none_of Bad rows (all_fine name Bad rows h) (SomeOf_like (λ r. Bad r × (other_name r ≡ k)) Bad (λ r x. x.0) rows bad)

-- ---- counters

pub fields-stay : FieldsStay
fields-stay t u table field = go (stats_of_table t table) (stats_of_table u table)
  where
    go : (old new : Option TableStatsRow) → Grow old new → (HasRow old (λ s. s.next_field_id ≤ field) → ⊥) → HasRow new (λ s. s.next_field_id ≤ field) → ⊥
    go old None grow fine bad = bad
    go None (Some new) grow fine bad = grow
    go (Some old) (Some new) grow fine bad = fine (omega (arith, grow.1))

pub row_ids-stay : RowIdsStay
row_ids-stay old None start count grow fine = refl
row_ids-stay old (Some new) None count grow fine = refl
row_ids-stay None (Some new) (Some start) count grow fine = absurd grow
row_ids-stay (Some old) (Some new) (Some start) count grow fine = le-ltb new.next_row_id (start + count) (let at = ltb-false old.next_row_id (start + count) fine in omega (arith, grow.0))

pub inlined_ids-stay : InlinedIdsStay
inlined_ids-stay t u r = go (stats_of_table t r.table_id) (stats_of_table u r.table_id)
  where
    go : (old new : Option TableStatsRow) → Grow old new → (HasRow old (λ s. s.next_row_id ≤ r.row_id) → ⊥) → HasRow new (λ s. s.next_row_id ≤ r.row_id) → ⊥
    go old None grow fine bad = bad
    go None (Some new) grow fine bad = grow
    go (Some old) (Some new) grow fine bad = fine (omega (arith, grow.0))

lower : (m n id : ℕ) → m ≤ n → is_not_past n id ≡ true → is_not_past m id ≡ true
lower m n id le h = le-leb m id (let at = leb-true n id h in omega arith)

either : (a b c d : Bool) → (a ≡ true → c ≡ true) → (b ≡ true → d ≡ true) → (a || b) ≡ true → (c || d) ≡ true
either a b c d f g h = ⊎_elim (λ x. or_left c d (f x)) (λ x. or_right c d (g x)) (or_cases a b h)

lower_names : {R : Type 0} (name : R → Key) (p q : R → Bool) → ((r : R) → p r ≡ true → q r ≡ true) → (rows : List R) (k : Key) → NamesIf name p rows k → NamesIf name q rows k
lower_names name p q f rows k h = SomeOf_like (λ r. (p r ≡ true) × (name r ≡ k)) (λ r. (q r ≡ true) × (name r ≡ k)) (λ r x. (f r x.0, x.1)) rows h

pub counters-stay : CountersStay
counters-stay t old new catalog file small fine k bad = fine k (go bad)
  where
    c : (id : ℕ) → is_not_past new.next_catalog_id id ≡ true → is_not_past old.next_catalog_id id ≡ true
    c id h = lower old.next_catalog_id new.next_catalog_id id catalog h

    f : (id : ℕ) → is_not_past new.next_file_id id ≡ true → is_not_past old.next_file_id id ≡ true
    f id h = lower old.next_file_id new.next_file_id id file h

    go : IsPastCounters t new k → IsPastCounters t old k
    go (inl h) = absurd (true≢false (sym h.0 ∙ small))
    go (inr (inl h)) = inr (inl (lower_names _ _ _ (λ r. c r.schema_id) t.schema k h))
    go (inr (inr (inl h))) = inr (inr (inl (lower_names _ _ _ (λ r. either _ _ _ _ (c r.table_id) (c r.schema_id)) t.table k h)))
    go (inr (inr (inr (inl h)))) = inr (inr (inr (inl (lower_names _ _ _ (λ r. c r.table_id) t.column k h))))
    go (inr (inr (inr (inr (inl h))))) = inr (inr (inr (inr (inl (lower_names _ _ _ (λ r. either _ _ _ _ (f r.data_file_id) (c r.table_id)) t.data_file k h)))))
    go (inr (inr (inr (inr (inr (inl h)))))) =
        inr (inr (inr (inr (inr (inl (lower_names _ _ _ (λ r. either _ _ _ _ (f r.delete_file_id) (either _ _ _ _ (f r.data_file_id) (c r.table_id))) t.delete_file k h))))))
    go (inr (inr (inr (inr (inr (inr (inl h))))))) = inr (inr (inr (inr (inr (inr (inl (lower_names _ _ _ (λ r. f r.data_file_id) t.file_column_stats k h)))))))
    go (inr (inr (inr (inr (inr (inr (inr (inl h)))))))) = inr (inr (inr (inr (inr (inr (inr (inl (lower_names _ _ _ (λ r. c r.table_id) t.table_stats k h))))))))
    go (inr (inr (inr (inr (inr (inr (inr (inr h)))))))) = inr (inr (inr (inr (inr (inr (inr (inr (lower_names _ _ _ (λ r. c r.table_id) t.inlined_row k h))))))))
