-- New columns are right by themselves, and beside rows and statistics that are there.
use Rattle.std.proofs.Common.{◌≡◌, inl, inr, ⊎_elim, ℕ, ◌+◌, ◌<◌, ◌≤◌, true, false, List, [], ◌∷◌, filter, length, refl, sym, ap, ◌∙◌, subst, arith, Option, Some, None}
use Rattle.std.proofs.lemmas.Option.{none-some}
use Rattle.std.specs.List.{AllByRecursion}
use Rattle.std.proofs.lemmas.Bool.{false_from_ne_true}
use Rattle.lake_types.specs.Fits.{fits}
use Rattle.lake_types.specs.Texts.{HoldsBytes}
use Rattle.lake_types.specs.declared.limits.TheConstants.{MAX_DEFAULT_BYTES}
use Rattle.lake_types.specs.declared.value.ColType.{ColType}
use Rattle.lake_types.specs.declared.value.Column.{Column}
use Rattle.lake_types.specs.declared.value.Value.{Value}
use Rattle.lake_types.specs.declared.value.Value.TheVariants as value
use Rattle.lake_model.specs.Apply.{Draft, fields_from}
use Rattle.lake_model.specs.Fits.{IsAtMost}
use Rattle.lake_rebase.specs.Tidy.{IsTidyColumn}
use Rattle.lake_rebase.proofs.MemberLemmas.{In, all_by, all_in}
use Rattle.cat_tables.specs.Table.{has_key, row_of}
use Rattle.cat_tables.proofs.KeyLemmas.{key_eq}
use Rattle.cat_tables.proofs.RowLemmas.{key-row_of}
use Rattle.cat_rows.specs.Keys.{column_key, table_stats_key}
use Rattle.cat_rows.specs.declared.files.TableStatsRow.{TableStatsRow}
use Rattle.cat_rows.specs.declared.inlined.InlinedRow.{InlinedRow}
use Rattle.cat_rows.specs.declared.schemas.ColumnRow.{ColumnRow}
use Rattle.cat_rows.specs.declared.schemas.TableRow.{TableRow}
use Rattle.cat_rules.specs.ColumnRule.{BeginsAt, HasWrongDefault, HasWrongId, IsColumnWrong, IsDefault, LacksInitial}
use Rattle.cat_rules.specs.Kept.{kept_of}
use Rattle.cat_rules.specs.Lookups.{HasRow, column_of, last, newest_row, stats_of_table, table_of}
use Rattle.cat_rules.proofs.DatedLemmas.{row_of_all}
use Rattle.cat_rules.proofs.FirstLemmas.{all_like}
use Rattle.cat_texts.specs.Types.{type_of, type_text}
use Rattle.cat_texts.specs.Written.{default_text}
use Rattle.cat_texts.proofs.TypeLemmas.{reads_type}
use Rattle.commit_rules.specs.Lawful.{Misfits, ReadsOn}
use Rattle.commit_rules.proofs.HistoryLemmas.{first_number}
use Rattle.rebase.specs.Parts.{column_rows_from}
use Rattle.cat_view.specs.Typed.{HasBytes}
use Rattle.commit_laws.proofs.AfterLemmas.{after, made_stats_after, row_of_made, stats_low, stats_of_made, table_after}
use Rattle.commit_laws.proofs.CaseLemmas.{Case, columns_low, next, number, parts}
use Rattle.commit_laws.proofs.ColumnLemmas as columns
use Rattle.commit_laws.proofs.ColumnLemmas.{IsNewColumn, IsRowOf, id_of, made, made_tidy, new_column, one_field, past_of, table_is}
use Rattle.commit_laws.proofs.ListLemmas.{finds_new, found}
use Rattle.commit_laws.proofs.MadeLemmas.{IsMade, made_are}
use Rattle.commit_laws.proofs.PartLemmas.{rows_of}

-- ---- defaults

is_default : (ty : ColType) (v : Value) → fits v ty ≡ true → IsAtMost MAX_DEFAULT_BYTES v → HoldsBytes v → IsDefault (type_text ty) (default_text v)
is_default ty value.Null fit short bytes = tt
is_default ty (value.Bool b) fit short bytes = (ty, reads_type ty, (value.Bool b, ((λ e. cc), fit, bytes, refl), tt))
is_default ty (value.Int n) fit short bytes = (ty, reads_type ty, (value.Int n, ((λ e. cc), fit, bytes, refl), tt))
is_default ty (value.Text text) fit short bytes = (ty, reads_type ty, (value.Text text, ((λ e. cc), fit, bytes, refl), omega (arith, short)))
is_default ty (value.Bytes b) fit short bytes = (ty, reads_type ty, (value.Bytes b, ((λ e. cc), fit, bytes, refl), omega (arith, short)))
is_default ty (value.Date day) fit short bytes = (ty, reads_type ty, (value.Date day, ((λ e. cc), fit, bytes, refl), tt))

-- ---- field ids

fields_within : (table begin order field : ℕ) (cs : List Column) → AllByRecursion (λ (r : ColumnRow). (field ≤ r.column_id) × (r.column_id < field + length cs)) (column_rows_from table begin order (fields_from field cs))
fields_within table begin order field [] = tt
fields_within table begin order field (c ∷ cs) = (
  (omega arith, omega arith),
  all_like (λ (r : ColumnRow). (field + 1 ≤ r.column_id) × (r.column_id < field + 1 + length cs)) (λ (r : ColumnRow). (field ≤ r.column_id) × (r.column_id < field + length (c ∷ cs)))
      (λ r h. (omega (arith, h.0), omega (arith, h.1))) (column_rows_from table begin (order + 1) (fields_from (field + 1) cs)) (fields_within table begin (order + 1) (field + 1) cs),
)

-- numbers of a key
abbrev first : List ℕ → ℕ
first [] = 0
first (a ∷ l) = a

abbrev second : List ℕ → ℕ
second [] = 0
second (a ∷ []) = 0
second (a ∷ b ∷ l) = b

module _ (k : Case) where
  pub field_within : (r : ColumnRow) (m : IsNewColumn k r) → (1 ≤ r.column_id) × (r.column_id < m.item.next_field)
  field_within r m =
      let h = all_in IsMade m.item (made k) (made_are 0 k.own) m.there in
      let all = subst (λ cs. AllByRecursion (λ (x : ColumnRow). (1 ≤ x.column_id) × (x.column_id < 1 + length h.given)) (column_rows_from (id_of k m.item) (number k + 1) 0 cs)) (sym h.columns_are) (fields_within (id_of k m.item) (number k + 1) 0 1 h.given) in
      let one = all_in (λ (x : ColumnRow). (1 ≤ x.column_id) × (x.column_id < 1 + length h.given)) r (rows_of k m.item) all m.is in
      let end = h.next_is in
      (one.0, omega (arith, one.1, end))

  -- ---- a new column by itself

  column_found : (r : ColumnRow) → In r (parts k).column → row_of column_key (r.table_id ∷ r.column_id ∷ r.begin_snapshot ∷ []) (after k).column ≡ Some r
  column_found r there =
      finds_new column_key (r.table_id ∷ r.column_id ∷ r.begin_snapshot ∷ []) r (parts k).column _ there refl
      (λ q h same. one_field k q r (new_column k q h) (new_column k r there) (ap first same) (ap second same))

  module _ (r : ColumnRow) (there : In r (parts k).column) where
    abbrev m : IsNewColumn k r
    m = new_column k r there

    begins : r.begin_snapshot ≡ number k + 1
    begins = ap (λ (x : ColumnRow). x.begin_snapshot) (columns.column_of k r m).is.is

    fits_name : 255 < length r.column_name → ⊥
    fits_name long =
        let x = columns.column_of k r m in
        let tidy = all_in IsTidyColumn x.item m.item.columns (made_tidy k m.item m.there).each x.there in
        let same : length r.column_name ≡ length x.item.name = ap (λ (y : ColumnRow). length y.column_name) x.is.is in
        let short = tidy.sizes.0 in
        omega (arith, long, same, short)

    has_type : type_of r.column_type ≡ None → ⊥
    has_type e =
        let x = columns.column_of k r m in
        none-some x.item.ty (sym e ∙ (ap type_of (ap (λ (y : ColumnRow). y.column_type) x.is.is) ∙ reads_type x.item.ty))

    has_defaults : HasWrongDefault r → ⊥
    has_defaults wrong =
        let x = columns.column_of k r m in
        let tidy = all_in IsTidyColumn x.item m.item.columns (made_tidy k m.item m.there).each x.there in
        let bytes = all_in HasBytes x.item m.item.columns (all_in (λ (d : Draft). AllByRecursion HasBytes d.columns) m.item (made k) k.c.bytes m.there) x.there in
        ⊎_elim
        (λ f. f (subst (λ (y : ColumnRow). IsDefault y.column_type y.initial_default) (sym x.is.is) (is_default x.item.ty x.item.initial tidy.initial tidy.sizes.1 bytes.initial)))
        (λ f. f (subst (λ (y : ColumnRow). IsDefault y.column_type y.default_value) (sym x.is.is) (is_default x.item.ty x.item.default_value tidy.default_value tidy.sizes.2 bytes.default_value))) wrong

    abbrev Later : TableRow → Type 0
    Later q = ((kept_of (after k).snapshot).first ≤ q.begin_snapshot) × (BeginsAt (after k) r q.begin_snapshot → ⊥)

    has_initial : LacksInitial (after k) r → ⊥
    has_initial lacks =
        let table : table_of (after k) r.table_id ≡ Some (row_of_made k m.item) = ap (table_of (after k)) (table_is k r m) ∙ table_after k m.item m.there in
        let later : Later (row_of_made k m.item) = subst (λ o. HasRow o Later) table lacks.1.1 in
        let there_is : BeginsAt (after k) r r.begin_snapshot = subst (λ o. HasRow o (λ (q : ColumnRow). Unit {0})) (sym (column_found r there)) tt in
        later.1 (subst (BeginsAt (after k) r) begins there_is)

    has_id : HasWrongId (after k) r → ⊥
    has_id (inl zero) = let low = (field_within r m).0 in omega (arith, zero, low)
    has_id (inr past) =
        let stats : stats_of_table (after k) r.table_id ≡ Some (stats_of_made k m.item) = ap (stats_of_table (after k)) (table_is k r m) ∙ made_stats_after k m.item m.there in
        let le : m.item.next_field ≤ r.column_id = subst (λ o. HasRow o (λ (s : TableStatsRow). s.next_field_id ≤ r.column_id)) stats past in
        let lt = (field_within r m).1 in
        omega (arith, le, lt)

    right : IsColumnWrong (after k) r → ⊥
    right (inl long) = fits_name long
    right (inr (inl e)) = has_type e
    right (inr (inr (inl wrong))) = has_defaults wrong
    right (inr (inr (inr (inl lacks)))) = has_initial lacks
    right (inr (inr (inr (inr wrong)))) = has_id wrong

  pub new_right : AllByRecursion (λ (c : ColumnRow). IsColumnWrong (after k) c → ⊥) (parts k).column
  new_right = all_by (λ (c : ColumnRow). IsColumnWrong (after k) c → ⊥) (parts k).column right

  -- ---- beside statistics that are there

  none_there : (c : ColumnRow) → next k ≤ c.table_id → filter (has_key column_of (c.table_id ∷ c.column_id ∷ [])) k.t.column ≡ []
  none_there c past = go k.t.column (columns_low k)
    where
      go : (rs : List ColumnRow) → AllByRecursion (λ (r : ColumnRow). r.table_id < next k) rs → filter (has_key column_of (c.table_id ∷ c.column_id ∷ [])) rs ≡ []
      go [] h = refl
      go (r ∷ rs) h =
          let other : has_key column_of (c.table_id ∷ c.column_id ∷ []) r ≡ false =
          false_from_ne_true _ (λ e. let same : r.table_id ≡ c.table_id = ap first (key_eq (column_of r) (c.table_id ∷ c.column_id ∷ []) e) in let low = h.0 in omega (arith, same, low, past)) in
          rw other (go rs h.1)

  pub reads_on : AllByRecursion (λ (c : ColumnRow). ReadsOn k.t (newest_row c.table_id c.column_id k.t.column) c) (parts k).column
  reads_on = all_by _ (parts k).column (λ (c : ColumnRow) there. let past = past_of k c there in subst (λ o. ReadsOn k.t o c) (sym (ap last (none_there c past))) (no_stats c past))
    where
      no_stats : (c : ColumnRow) → next k ≤ c.table_id → HasRow (stats_of_table k.t c.table_id) (λ (s : TableStatsRow). c.column_id < s.next_field_id) → ⊥
      no_stats c past h = go (stats_of_table k.t c.table_id) refl h
        where
          go : (o : Option TableStatsRow) → stats_of_table k.t c.table_id ≡ o → HasRow o (λ (s : TableStatsRow). c.column_id < s.next_field_id) → ⊥
          go None e h = h
          go (Some s) e h =
              let low = row_of_all table_stats_key (c.table_id ∷ []) (λ (r : TableStatsRow). r.table_id < next k) k.t.table_stats (stats_low k) s e in
              let same : s.table_id ≡ c.table_id = first_number (key-row_of table_stats_key (c.table_id ∷ []) k.t.table_stats s e) in
              omega (arith, low, same, past)

  -- ---- beside inlined rows

  pub none_misfit : (r : InlinedRow) → r.table_id < next k → Misfits (parts k).column r → ⊥
  none_misfit r low bad =
      let cell = found _ bad.0 bad.2 in
      let c = found (λ (x : ColumnRow). (has_key column_of (r.table_id ∷ cell.item.0 ∷ []) x ≡ true) × _) (parts k).column cell.is in
      let same : c.item.table_id ≡ r.table_id = ap first (key_eq (column_of c.item) (r.table_id ∷ cell.item.0 ∷ []) c.is.0) in
      let past = past_of k c.item c.there in
      omega (arith, same, past, low)
