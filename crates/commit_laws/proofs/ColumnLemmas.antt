-- The columns that the new snapshot sees: each is one that stays, or of a table that is made.
use Rattle.std.proofs.Common.{◌≡◌, ◌≢◌, ◌⊎◌, inl, inr, ⊎_elim, ℕ, ◌+◌, ◌<◌, ◌≤◌, Bool, true, false, not, List, [], ◌∷◌, map, filter, length, count_by, refl, sym, ap, ◌∙◌, subst, arith, None}
use Rattle.std.specs.List.{AllByRecursion, AllZip}
use Rattle.std.proofs.lemmas.Bool.{and_parts, eqb-true, false_from_ne_true}
use Rattle.lake_types.specs.declared.value.Column.{Column}
use Rattle.lake_model.specs.Apply.{Draft, fields_from, settled_table}
use Rattle.lake_model.specs.Growth.{grown, left_tables, made_tables, new_tables}
use Rattle.lake_model.specs.Kinds.{drops_table}
use Rattle.lake_model.specs.State.{Table}
use Rattle.lake_model.specs.declared.change.Ref.TheVariants as ref
use Rattle.lake_rebase.specs.Tidy.{AreTidyColumns}
use Rattle.lake_rebase.proofs.MemberLemmas.{In, IsImage, all_by, all_in, in_map, in_right, map_in, of_in}
use Rattle.cat_tables.specs.Table.{IsAscending, IsBelow, key_cmp}
use Rattle.cat_tables.proofs.KeyLemmas.{key_eq}
use Rattle.cat_tables.proofs.PlaceLemmas.{less_is}
use Rattle.cat_rows.specs.Keys.{column_key, table_key}
use Rattle.cat_rows.specs.Seen.{Seen, seen_at}
use Rattle.cat_rows.specs.Validities.{column_validity}
use Rattle.cat_rows.specs.declared.batch.Key.{Key}
use Rattle.cat_rows.specs.declared.history.SnapshotRow.{SnapshotRow}
use Rattle.cat_rows.specs.declared.schemas.ColumnRow.{ColumnRow}
use Rattle.cat_rows.specs.declared.schemas.TableRow.{TableRow}
use Rattle.cat_rules.specs.ColumnRule.{AreColumnsBad, HasNoColumn, HaveOneColumnName, HaveOneOrder, IsAlikeEarlier, IsColumnBad, IsColumnless, IsCrowdedColumn, IsPastHundred, is_earlier}
use Rattle.cat_rules.specs.EachKept.{AtKept, HasAlike, SeesTable}
use Rattle.cat_rules.specs.First.{Holds}
use Rattle.cat_rules.specs.IntervalRule.{IsWronglyDated, Overlaps}
use Rattle.cat_rules.specs.Kept.{kept_of}
use Rattle.cat_rules.specs.Places.{of_column, of_table}
use Rattle.cat_rules.proofs.DatedLemmas.{all_fine}
use Rattle.cat_rules.proofs.FirstLemmas.{all_like}
use Rattle.cat_rules.proofs.SeenLemmas.{visible_some}
use Rattle.cat_spans.proofs.CountLemmas.{count, count_by-is}
use Rattle.cat_texts.specs.Written.{column_row}
use Rattle.commit_rules.specs.Lawful.{AreOneColumn, IsColumnTwice}
use Rattle.commit_rules.proofs.CoreLemmas.{newest_there}
use Rattle.commit_rules.proofs.HistoryLemmas.{first_number}
use Rattle.commit_rules.proofs.NextLemmas.{all_visible, row_some, some_row}
use Rattle.commit_rules.proofs.PathLemmas.{not_below_itself}
use Rattle.commit_rules.proofs.TableLemmas as rules
use Rattle.rebase.specs.Parts.{column_rows_from, table_row}
use Rattle.commit_laws.proofs.CaseLemmas.{Case, columns_low, head, is-head, new, newest, next, number, parts, seen}
use Rattle.commit_laws.proofs.CountLemmas.{count_append, count_filter, count_less, count_none, count_part}
use Rattle.commit_laws.proofs.ListLemmas.{Beside, Found, all_mapped, asc_two, flat_in, found, in_flat, next_cases, next_kept, next_new, some_in, zip_in}
use Rattle.commit_laws.proofs.MadeLemmas.{IsMade, made_are, table_ids_new, table_ids_rise, table_of}
use Rattle.commit_laws.proofs.PartLemmas.{columns_new, own_columns, rows_of}
use Rattle.commit_laws.proofs.SeenLemmas.{grown_head, then, tidy}

-- ---- the rows of one new table

-- a row of a column, with its order
pub record IsRowOf (table begin : ℕ) (r : ColumnRow) (c : Column) : Type 0 where
  pub order : ℕ
  pub is : r ≡ column_row table begin order c

pub rows-zip : (table begin order : ℕ) (cs : List Column) → AllZip (IsRowOf table begin) (column_rows_from table begin order cs) cs
rows-zip table begin order [] = tt
rows-zip table begin order (c ∷ cs) = (record { order = order; is = refl }, rows-zip table begin (order + 1) cs)

rows_length : (table begin order : ℕ) (cs : List Column) → length (column_rows_from table begin order cs) ≡ length cs
rows_length table begin order [] = refl
rows_length table begin order (c ∷ cs) = let more = rows_length table begin (order + 1) cs in omega (arith, more)

orders_from : (table begin low order : ℕ) (cs : List Column) → low < order → AllByRecursion (λ (r : ColumnRow). low < r.column_order) (column_rows_from table begin order cs)
orders_from table begin low order [] lt = tt
orders_from table begin low order (c ∷ cs) lt = (lt, orders_from table begin low (order + 1) cs (omega (arith, lt)))

orders_rise : (table begin order : ℕ) (cs : List Column) → IsAscending (λ (a b : ColumnRow). a.column_order < b.column_order) (column_rows_from table begin order cs)
orders_rise table begin order [] = tt
orders_rise table begin order (c ∷ cs) = (orders_from table begin order (order + 1) cs (omega arith), orders_rise table begin (order + 1) cs)

fields_past : (table begin low order field : ℕ) (cs : List Column) → low < field → AllByRecursion (λ (r : ColumnRow). low < r.column_id) (column_rows_from table begin order (fields_from field cs))
fields_past table begin low order field [] lt = tt
fields_past table begin low order field (c ∷ cs) lt = (lt, fields_past table begin low (order + 1) (field + 1) cs (omega (arith, lt)))

fields_rise : (table begin order field : ℕ) (cs : List Column) → IsAscending (λ (a b : ColumnRow). a.column_id < b.column_id) (column_rows_from table begin order (fields_from field cs))
fields_rise table begin order field [] = tt
fields_rise table begin order field (c ∷ cs) = (fields_past table begin field (order + 1) (field + 1) cs (omega arith), fields_rise table begin (order + 1) (field + 1) cs)

-- numbers of two that aren't one differ
pub one_number : {X : Type 0} (f : X → ℕ) (a b : X) (xs : List X) → IsAscending (λ x y. f x < f y) xs → In a xs → In b xs → f a ≡ f b → a ≡ b
one_number f a b xs up h k same = ⊎_elim (λ one. one) (λ other. ⊎_elim (λ lt. absurd (omega (arith, same, lt))) (λ gt. absurd (omega (arith, same, gt))) other) (asc_two (λ x y. f x < f y) a b xs up h k)

-- ---- at the head

module _ (k : Case) where
  pub at_head : (Bad : Seen → Key → Type 0) → Holds (AtKept Bad k.t) → Holds (Bad (seen k))
  at_head Bad old j bad = old j (rules.in_some (λ (q : SnapshotRow). Bad (seen_at q.snapshot_id k.t) j) (newest k) k.t.snapshot (newest_there k.t.snapshot (newest k) (is-head k).last) bad)

  pub column_rules : Holds (AreColumnsBad k.t)
  column_rules = k.c.sound.rules.1.1.1.1.1.0

  pub seen_columns_low : AllByRecursion (λ (r : ColumnRow). r.table_id < next k) (seen k).column
  seen_columns_low = all_visible column_validity (λ (r : ColumnRow). r.table_id < next k) (λ r low. low) (number k) k.t.column (columns_low k)

  -- the head sees no two rows of one column
  twice_seen : Holds (IsColumnTwice (seen k))
  twice_seen j twice =
      let c = rules.found _ k.t.column (visible_some column_validity (number k) (λ (r : ColumnRow). HasAlike AreOneColumn column_key (seen k).column r × (of_column r ≡ j)) k.t.column twice) in
      let q = rules.found _ k.t.column (visible_some column_validity (number k) (λ (x : ColumnRow). IsBelow column_key x (column_validity.with_end None c.item) × AreOneColumn x (column_validity.with_end None c.item)) k.t.column c.is.1.0) in
      let fine = all_fine of_column (IsWronglyDated (kept_of k.t.snapshot) k.t.column) k.t.column (λ i h. k.c.sound.rules.1.1.0 i (inr (inr (inl h)))) in
      rules.all_in (λ (x : ColumnRow). IsWronglyDated (kept_of k.t.snapshot) k.t.column x → ⊥) c.item k.t.column fine c.there
      (inr (rules.in_some (Overlaps c.item) q.item k.t.column q.there (q.is.1.0, q.is.1.1.0, q.is.1.1.1, (number k, q.is.0, c.is.0))))

  -- ---- new columns

  abbrev pub made : List Draft
  made = made_tables 0 k.own

  abbrev pub id_of : Draft → ℕ
  id_of = table_of (next k) k.own

  abbrev pub IsNewColumn : ColumnRow → Type 0
  IsNewColumn r = Found (λ (d : Draft). In r (rows_of k d)) made

  pub new_column : (r : ColumnRow) → In r (parts k).column → IsNewColumn r
  new_column r there = in_flat (rows_of k) r made there

  pub table_is : (r : ColumnRow) (m : IsNewColumn r) → r.table_id ≡ id_of m.item
  table_is r m = all_in (λ (x : ColumnRow). x.table_id ≡ id_of m.item) r (rows_of k m.item) (own_columns k m.item) m.is

  pub one_draft : (d e : Draft) → In d made → In e made → id_of d ≡ id_of e → d ≡ e
  one_draft d e h i same = one_number id_of d e made (table_ids_rise (next k) k.own) h i same

  -- two rows of one new table
  pub of_one : (q r : ColumnRow) (m : IsNewColumn q) (n : IsNewColumn r) → q.table_id ≡ r.table_id → In q (rows_of k n.item)
  of_one q r m n same = subst (λ d. In q (rows_of k d)) (one_draft m.item n.item m.there n.there (sym (table_is q m) ∙ same ∙ table_is r n)) m.is

  fields-up : (d : Draft) → In d made → IsAscending (λ (a b : ColumnRow). a.column_id < b.column_id) (rows_of k d)
  fields-up d there =
      let h = all_in IsMade d made (made_are 0 k.own) there in
      subst (λ cs. IsAscending (λ (a b : ColumnRow). a.column_id < b.column_id) (column_rows_from (id_of d) (number k + 1) 0 cs)) (sym h.columns_are) (fields_rise (id_of d) (number k + 1) 0 1 h.given)

  pub one_field : (q r : ColumnRow) → IsNewColumn q → IsNewColumn r → q.table_id ≡ r.table_id → q.column_id ≡ r.column_id → q ≡ r
  one_field q r m n table field = one_number (λ (x : ColumnRow). x.column_id) q r (rows_of k n.item) (fields-up n.item n.there) (of_one q r m n table) n.is field

  one_order : (q r : ColumnRow) → IsNewColumn q → IsNewColumn r → q.table_id ≡ r.table_id → q.column_order ≡ r.column_order → q ≡ r
  one_order q r m n table order = one_number (λ (x : ColumnRow). x.column_order) q r (rows_of k n.item) (orders_rise (id_of n.item) (number k + 1) 0 n.item.columns) (of_one q r m n table) n.is order

  -- the columns of a new table
  pub made_tidy : (d : Draft) → In d made → AreTidyColumns d.columns
  made_tidy d there =
      all_in (λ (x : Table). AreTidyColumns x.columns) (settled_table (head k).next_catalog (new k) d) (grown_head k).tables (tidy k).columns
      (in_right _ (map (grown k.own) (left_tables (head k) k.own)) (new_tables (head k).next_catalog k.own) (map_in (settled_table (head k).next_catalog (new k)) d made there))

  pub column_of : (r : ColumnRow) (m : IsNewColumn r) → Beside (IsRowOf (id_of m.item) (number k + 1)) r m.item.columns
  column_of r m = zip_in (IsRowOf (id_of m.item) (number k + 1)) r (rows_of k m.item) m.item.columns (rows-zip (id_of m.item) (number k + 1) 0 m.item.columns) m.is

  one_name : (q r : ColumnRow) → IsNewColumn q → IsNewColumn r → q.table_id ≡ r.table_id → q.column_name ≡ r.column_name → q ≡ r
  one_name q r m n table name =
      let x = column_of r n in
      let y = zip_in (IsRowOf (id_of n.item) (number k + 1)) q (rows_of k n.item) n.item.columns (rows-zip (id_of n.item) (number k + 1) 0 n.item.columns) (of_one q r m n table) in
      let names : y.item.name ≡ x.item.name = sym (ap (λ (z : ColumnRow). z.column_name) y.is.is) ∙ name ∙ ap (λ (z : ColumnRow). z.column_name) x.is.is in
      let fields = (made_tidy n.item n.there).names y.item x.item (of_in y.item n.item.columns y.there) (of_in x.item n.item.columns x.there) names in
      one_field q r m n table (ap (λ (z : ColumnRow). z.column_id) y.is.is ∙ fields ∙ sym (ap (λ (z : ColumnRow). z.column_id) x.is.is))

  -- ---- what is seen then

  abbrev Gone : ColumnRow → Bool
  Gone r = drops_table k.own (ref.Old r.table_id)

  pub column_then : (r : ColumnRow) → In r (then k).column → (In r (seen k).column × (Gone r ≡ false)) ⊎ In r (parts k).column
  column_then r there = next_cases Gone (seen k).column (parts k).column r there

  low_of : (r : ColumnRow) → In r (seen k).column → r.table_id < next k
  low_of r there = all_in (λ (x : ColumnRow). x.table_id < next k) r (seen k).column seen_columns_low there

  pub past_of : (r : ColumnRow) → In r (parts k).column → next k ≤ r.table_id
  past_of r there = all_in (λ (x : ColumnRow). next k ≤ x.table_id) r (parts k).column (columns_new k) there

  -- two columns of one table were both there, or are both new
  pub record AreBothOld (q r : ColumnRow) : Type 0 where
    pub one : In q (seen k).column
    pub other : In r (seen k).column

  pub record AreBothNew (q r : ColumnRow) : Type 0 where
    pub one : IsNewColumn q
    pub other : IsNewColumn r

  pub both_of : (q r : ColumnRow) → In q (then k).column → In r (then k).column → q.table_id ≡ r.table_id → AreBothOld q r ⊎ AreBothNew q r
  both_of q r h i same = go (column_then q h) (column_then r i)
    where
      go : (In q (seen k).column × (Gone q ≡ false)) ⊎ In q (parts k).column → (In r (seen k).column × (Gone r ≡ false)) ⊎ In r (parts k).column → AreBothOld q r ⊎ AreBothNew q r
      go (inl a) (inl b) = inl (record { one = a.0; other = b.0 })
      go (inl a) (inr b) = let low = low_of q a.0 in let past = past_of r b in absurd (omega (arith, low, past, same))
      go (inr a) (inl b) = let low = low_of r b.0 in let past = past_of q a in absurd (omega (arith, low, past, same))
      go (inr a) (inr b) = inr (record { one = new_column q a; other = new_column r b })

  pub tables_new : AllByRecursion (λ (r : TableRow). next k ≤ r.table_id) (parts k).table
  tables_new = all_mapped (λ (r : TableRow). next k ≤ r.table_id) _ made (table_ids_new (next k) k.own)

  -- a table of an old id that is seen then is seen
  pub sees_still : (id : ℕ) → id < next k → SeesTable (then k) id → SeesTable (seen k) id
  sees_still id low sees =
      let m = found (λ (r : TableRow). _ ≡ true) (then k).table (row_some table_key (id ∷ []) (then k).table sees) in
      let same : m.item.table_id ≡ id = first_number (key_eq (table_key m.item) (id ∷ []) m.is) in
      ⊎_elim (λ old. some_row table_key (id ∷ []) (seen k).table (some_in _ m.item (seen k).table old.0 m.is))
      (λ made_row. let past = all_in (λ (r : TableRow). next k ≤ r.table_id) m.item (parts k).table tables_new made_row in absurd (omega (arith, same, low, past)))
      (next_cases (λ (r : TableRow). drops_table k.own (ref.Old r.table_id)) (seen k).table (parts k).table m.item m.there)

  -- ---- none stands twice

  pub none_twice : Holds (IsColumnTwice (then k))
  none_twice j bad =
      let r = found (λ (x : ColumnRow). HasAlike AreOneColumn column_key (then k).column x × (of_column x ≡ j)) (then k).column bad in
      let q = found (λ (x : ColumnRow). IsBelow column_key x r.item × AreOneColumn x r.item) (then k).column r.is.0 in
      ⊎_elim
      (λ old. twice_seen (of_column r.item) (some_in (λ (x : ColumnRow). HasAlike AreOneColumn column_key (seen k).column x × (of_column x ≡ of_column r.item)) r.item (seen k).column old.other (some_in (λ (x : ColumnRow). IsBelow column_key x r.item × AreOneColumn x r.item) q.item (seen k).column old.one q.is, refl)))
      (λ now. not_below_itself column_key q.item r.item (one_field q.item r.item now.one now.other q.is.1.0 q.is.1.1) q.is.0)
      (both_of q.item r.item q.there r.there q.is.1.0)

  -- ---- none is crowded

  earlier_table : (c q : ColumnRow) → is_earlier c q ≡ true → q.table_id ≡ c.table_id
  earlier_table c q e = eqb-true q.table_id c.table_id (and_parts _ _ e).1

  -- a column that is one with it isn't earlier
  not_earlier : (c q : ColumnRow) → q ≡ c → is_earlier c q ≡ true → ⊥
  not_earlier c q same e = not_below_itself column_key q c same (less_is (key_cmp (column_key q) (column_key c)) (and_parts _ _ e).0)

  other_none : (c : ColumnRow) (xs : List ColumnRow) → AllByRecursion (λ (q : ColumnRow). q.table_id ≡ c.table_id → ⊥) xs → count (is_earlier c) xs ≡ 0
  other_none c xs h = count_none (is_earlier c) xs (all_like (λ (q : ColumnRow). q.table_id ≡ c.table_id → ⊥) (λ (q : ColumnRow). is_earlier c q ≡ false) (λ q other. false_from_ne_true (is_earlier c q) (λ e. other (earlier_table c q e))) xs h)

  few_old : (c : ColumnRow) → In c (seen k).column → SeesTable (then k) c.table_id → 100 ≤ count_by (is_earlier c) (then k).column → ⊥
  few_old c there sees many =
      let low = low_of c there in
      let left = filter (λ r. not (Gone r)) (seen k).column in
      let a = count_by-is (is_earlier c) (then k).column in
      let b = count_append (is_earlier c) left (parts k).column in
      let d = count_filter (is_earlier c) (λ r. not (Gone r)) (seen k).column in
      let e = other_none c (parts k).column (all_like (λ (q : ColumnRow). next k ≤ q.table_id) (λ (q : ColumnRow). q.table_id ≡ c.table_id → ⊥) (λ q past same. omega (arith, past, low, same)) (parts k).column (columns_new k)) in
      let f = count_by-is (is_earlier c) (seen k).column in
      let more : 100 ≤ count_by (is_earlier c) (seen k).column = omega (arith, many, a, b, d, e, f) in
      at_head (λ seen j. IsColumnless seen j ⊎ (IsCrowdedColumn seen j ⊎ IsColumnBad k.t seen j)) column_rules (of_column c)
      (inr (inl (inl (some_in (λ (x : ColumnRow). IsPastHundred (seen k) x × (of_column x ≡ of_column c)) c (seen k).column there ((sees_still c.table_id low sees, more), refl)))))

  few_new : (c : ColumnRow) → In c (parts k).column → 100 ≤ count_by (is_earlier c) (then k).column → ⊥
  few_new c there many =
      let m = new_column c there in
      let past = past_of c there in
      let is = table_is c m in
      let left = filter (λ r. not (Gone r)) (seen k).column in
      let a = count_by-is (is_earlier c) (then k).column in
      let b = count_append (is_earlier c) left (parts k).column in
      let d = count_filter (is_earlier c) (λ r. not (Gone r)) (seen k).column in
      let e = other_none c (seen k).column (all_like (λ (q : ColumnRow). q.table_id < next k) (λ (q : ColumnRow). q.table_id ≡ c.table_id → ⊥) (λ q low same. omega (arith, past, low, same)) (seen k).column seen_columns_low) in
      let f = count_part (is_earlier c) id_of (rows_of k) (id_of m.item)
      (λ x other. other_none c (rows_of k x) (all_like (λ (q : ColumnRow). q.table_id ≡ id_of x) (λ (q : ColumnRow). q.table_id ≡ c.table_id → ⊥) (λ q own same. other (sym own ∙ same ∙ is)) (rows_of k x) (own_columns k x)))
      m.item made refl (table_ids_rise (next k) k.own) m.there in
      let g = count_less (is_earlier c) c (rows_of k m.item) m.is (false_from_ne_true (is_earlier c c) (not_earlier c c refl)) in
      let h = rows_length (id_of m.item) (number k + 1) 0 m.item.columns in
      let i = (made_tidy m.item m.there).few in
      omega (arith, many, a, b, d, e, f, g, h, i)

  alike_apart : (Alike : ColumnRow → ColumnRow → Type 0) → ((q r : ColumnRow) → IsNewColumn q → IsNewColumn r → q.table_id ≡ r.table_id → Alike q r → q ≡ r)
      → ((c : ColumnRow) → In c (seen k).column → IsAlikeEarlier Alike (seen k) c → ⊥) → (c : ColumnRow) → In c (then k).column → IsAlikeEarlier Alike (then k) c → ⊥
  alike_apart Alike one old c there bad =
      let q = found (λ (q : ColumnRow). (is_earlier c q ≡ true) × Alike q c) (then k).column bad.1 in
      let table = earlier_table c q.item q.is.0 in
      ⊎_elim (λ both. old c both.other (sees_still c.table_id (low_of c both.other) bad.0, some_in (λ (x : ColumnRow). (is_earlier c x ≡ true) × Alike x c) q.item (seen k).column both.one q.is))
      (λ now. not_earlier c q.item (one q.item c now.one now.other table q.is.1) q.is.0) (both_of q.item c q.there there table)

  at_head_crowded : Holds (IsCrowdedColumn (seen k))
  at_head_crowded j bad = at_head (λ seen i. IsColumnless seen i ⊎ (IsCrowdedColumn seen i ⊎ IsColumnBad k.t seen i)) column_rules j (inr (inl bad))

  pub none_crowded : Holds (IsCrowdedColumn (then k))
  none_crowded j (inl bad) =
      let m = found (λ (c : ColumnRow). IsPastHundred (then k) c × (of_column c ≡ j)) (then k).column bad in
      ⊎_elim (λ old. few_old m.item old.0 m.is.0.0 m.is.0.1) (λ now. few_new m.item now m.is.0.1) (column_then m.item m.there)
  none_crowded j (inr (inl bad)) =
      let m = found (λ (c : ColumnRow). IsAlikeEarlier HaveOneOrder (then k) c × (of_column c ≡ j)) (then k).column bad in
      alike_apart HaveOneOrder one_order
      (λ c there h. at_head_crowded (of_column c) (inr (inl (some_in (λ (x : ColumnRow). IsAlikeEarlier HaveOneOrder (seen k) x × (of_column x ≡ of_column c)) c (seen k).column there (h, refl))))) m.item m.there m.is.0
  none_crowded j (inr (inr bad)) =
      let m = found (λ (c : ColumnRow). IsAlikeEarlier HaveOneColumnName (then k) c × (of_column c ≡ j)) (then k).column bad in
      alike_apart HaveOneColumnName one_name
      (λ c there h. at_head_crowded (of_column c) (inr (inr (some_in (λ (x : ColumnRow). IsAlikeEarlier HaveOneColumnName (seen k) x × (of_column x ≡ of_column c)) c (seen k).column there (h, refl))))) m.item m.there m.is.0

  -- ---- each table has a column

  first_row : (table begin : ℕ) (cs : List Column) → 1 ≤ length cs → Found (λ (r : ColumnRow). r.table_id ≡ table) (column_rows_from table begin 0 cs)
  first_row table begin [] some = absurd (omega (arith, some))
  first_row table begin (c ∷ cs) some = record { item = column_row table begin 0 c; there = inl refl; is = refl }

  pub none_columnless : Holds (IsColumnless (then k))
  none_columnless j bad =
      let r = found (λ (x : TableRow). HasNoColumn (then k).column x × _) (then k).table bad in
      ⊎_elim (λ old. old_table r.item old.0 old.1 r.is.0) (λ now. new_table r.item (in_map (table_row (number k + 1) (next k) (new k)) r.item made now) r.is.0)
      (next_cases (λ (x : TableRow). drops_table k.own (ref.Old x.table_id)) (seen k).table (parts k).table r.item r.there)
    where
      old_table : (r : TableRow) → In r (seen k).table → drops_table k.own (ref.Old r.table_id) ≡ false → HasNoColumn (then k).column r → ⊥
      old_table r there stays none =
          at_head (λ seen i. IsColumnless seen i ⊎ (IsCrowdedColumn seen i ⊎ IsColumnBad k.t seen i)) column_rules (of_table r)
          (inl (some_in (λ (x : TableRow). HasNoColumn (seen k).column x × (of_table x ≡ of_table r)) r (seen k).table there (
            all_by (λ (c : ColumnRow). c.table_id ≢ r.table_id) (seen k).column
                (λ c h same. all_in (λ (x : ColumnRow). x.table_id ≢ r.table_id) c (then k).column none (next_kept Gone (seen k).column (parts k).column c h (ap (λ n. drops_table k.own (ref.Old n)) same ∙ stays)) same),
            refl,
          )))

      new_table : (r : TableRow) → IsImage (table_row (number k + 1) (next k) (new k)) r made → HasNoColumn (then k).column r → ⊥
      new_table r m none =
          let c = first_row (id_of m.of) (number k + 1) m.of.columns (made_tidy m.of m.there).some in
          all_in (λ (x : ColumnRow). x.table_id ≢ r.table_id) c.item (then k).column none
          (next_new Gone (seen k).column (parts k).column c.item (flat_in (rows_of k) c.item m.of made m.there c.there)) (c.is ∙ ap (λ (x : TableRow). x.table_id) m.is)
