-- Rows that neither begin nor end at some snapshots are seen alike by those before and after them.
use Rattle.std.proofs.Common.{◌≡◌, ◌+◌, ℕ, zero, suc, Bool, List, filter, None, ◌∙◌, arith, ap}
use Rattle.cat_tables.specs.Validity.{IsValidity, Validity, visible_at}
use Rattle.cat_tables.proofs.FrameLemmas.{visible_at-rests}
use Rattle.cat_rows.specs.Keys.{column_key, data_file_key, delete_file_key, inlined_row_key, schema_key, table_key}
use Rattle.cat_rows.specs.Validities.{column_laws, column_validity, data_file_laws, data_file_validity, delete_file_laws, delete_file_validity, inlined_row_laws, inlined_row_validity, schema_laws, schema_validity, table_laws, table_validity}
use Rattle.cat_stands.specs.Laws.{RestFor, WhatRestsIsSeenAlike}

module _ {R : Type 0} (key : R → List ℕ) (v : Validity R) (laws : IsValidity v key) where
  sees-rested : (chosen : R → Bool) (b d : ℕ) (rows : List R) → ((r : R) → chosen (v.with_end None r) ≡ chosen r) → RestFor v chosen b d rows
      → filter chosen (visible_at v (b + d) rows) ≡ filter chosen (visible_at v b rows)
  sees-rested chosen b zero rows plain rest =
      let e : b + 0 ≡ b = omega arith in
      ap (λ s. filter chosen (visible_at v s rows)) e
  sees-rested chosen b (suc d) rows plain rest =
      let e : b + suc d ≡ (b + d) + 1 = omega arith in
      ap (λ s. filter chosen (visible_at v s rows)) e
      ∙ (visible_at-rests key v laws chosen (b + d) rows plain (rest d (omega arith))
      ∙ sees-rested chosen b d rows plain (λ n lt. rest n (omega (arith, lt))))

pub what-rests : WhatRestsIsSeenAlike
what-rests = record {
  schemas = sees-rested schema_key schema_validity schema_laws;
  tables = sees-rested table_key table_validity table_laws;
  columns = sees-rested column_key column_validity column_laws;
  data_files = sees-rested data_file_key data_file_validity data_file_laws;
  delete_files = sees-rested delete_file_key delete_file_validity delete_file_laws;
  inlined_rows = sees-rested inlined_row_key inlined_row_validity inlined_row_laws;
}
