-- Statistics that are read one after the other.
use Rattle.std.proofs.Common.{◌≡◌, ℕ, cond, List, [], ◌∷◌, ◌++◌, filter, Some, None, is_some, sym, ap, subst, ◌∙◌}
use Rattle.std.specs.List.{AllZip}
use Rattle.std.proofs.lemmas.List.{append-nil}
use Rattle.std.proofs.lemmas.List.Elements.{filter-append}
use Rattle.lake_types.specs.declared.value.Column.{Column}
use Rattle.col_stats.specs.declared.stats.ColStats.{ColStats}
use Rattle.cat_rows.specs.declared.files.FileColumnStatsRow.{FileColumnStatsRow}
use Rattle.cat_view.specs.Stats.{AreRead, IsRead, IsTold, column_with, is_seen}
use Rattle.cat_view.proofs.InlinedLemmas.{zip-push}

module _ (columns : List Column) (count : ℕ) (stats : List ColStats) (row : FileColumnStatsRow) where
  -- a row of a column that is seen
  pub one_read : (now : List ColStats) (column : Column) (told : ColStats) → Some column ≡ column_with columns row.column_id → IsTold column.ty count row told → now ≡ stats ++ told ∷ []
      → (rows : List FileColumnStatsRow) → AreRead columns count rows stats → AreRead columns count (rows ++ row ∷ []) now
  one_read now column told seen is pushed rows all =
      subst (AllZip (IsRead columns count) (filter (is_seen columns) (rows ++ row ∷ []))) (sym pushed)
      (subst (λ rs. AllZip (IsRead columns count) rs (stats ++ told ∷ [])) (sym (filter-append (is_seen columns) rows (row ∷ []) ∙ ap (λ b. filter (is_seen columns) rows ++ cond b (row ∷ []) []) (ap is_some (sym seen))))
      (zip-push (IsRead columns count) (filter (is_seen columns) rows) stats row told all (record { column = column; seen = sym seen; told = is })))

  -- and one of a column that isn't
  pub none_read : None ≡ column_with columns row.column_id → (rows : List FileColumnStatsRow) → AreRead columns count rows stats → AreRead columns count (rows ++ row ∷ []) stats
  none_read unseen rows all =
      subst (λ rs. AllZip (IsRead columns count) rs stats)
      (sym (filter-append (is_seen columns) rows (row ∷ []) ∙ ap (λ b. filter (is_seen columns) rows ++ cond b (row ∷ []) []) (ap is_some (sym unseen)) ∙ append-nil (filter (is_seen columns) rows))) all

-- nothing more
pub no_row : (columns : List Column) (count : ℕ) (stats : List ColStats) (rows : List FileColumnStatsRow) → AreRead columns count rows stats → AreRead columns count (rows ++ []) stats
no_row columns count stats rows all = subst (λ rs. AreRead columns count rs stats) (sym (append-nil rows)) all

pub ruleset reading = (one_read, none_read, no_row)
