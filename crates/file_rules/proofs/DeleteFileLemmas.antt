-- Delete files and their data files, by what each kept snapshot sees of both.
use Rattle.std.proofs.Common.{◌≡◌, ◌⊎◌, ℕ, inl, inr, Bool, true, false, cond, [], ◌∷◌, Option, Some, None, is_none, refl, sym, ap, ◌∙◌, true≢false}
use Rattle.cat_tables.specs.Table.{RisesByKey, row_of}
use Rattle.cat_tables.specs.Validity.{is_visible, visible_at}
use Rattle.cat_rows.specs.Keys.{data_file_key}
use Rattle.cat_rows.specs.Seen.{seen_at}
use Rattle.cat_rows.specs.Tables.{Tables}
use Rattle.cat_rows.specs.Validities.{data_file_laws, data_file_validity, delete_file_validity}
use Rattle.cat_rows.specs.declared.batch.Key.{Key}
use Rattle.cat_rows.specs.declared.files.DataFileRow.{DataFileRow}
use Rattle.cat_rows.specs.declared.files.DeleteFileRow.{DeleteFileRow}
use Rattle.cat_rows.specs.declared.history.SnapshotRow.{SnapshotRow}
use Rattle.cat_rules.specs.DeleteFileRule.{IsDeleteFileDiffering, IsDeleteFileUnmatched, IsDeleteFileWrong, data_file_of, differs_from, file_id_of}
use Rattle.cat_rules.specs.EachKept.{missing_or_own}
use Rattle.cat_rules.specs.First.{FirstBad}
use Rattle.cat_rules.specs.Kept.{AtSome}
use Rattle.cat_rules.specs.Places.{of_delete_file}
use Rattle.cat_rules.specs.Rows.{Names, SomeOf}
use Rattle.cat_rules.specs.Sight.{IsSeen, IsUnmatched}
use Rattle.cat_rules.proofs.FirstLemmas.{first_like}
use Rattle.cat_rules.proofs.SeenLemmas.{at_like, from_at, or_some, row_of-visible, rows_from_seen, rows_to_seen, seen_row, unmatched-from_seen, unmatched-to_seen}

module _ (t : Tables) (up : RisesByKey data_file_key t.data_file) where
  -- the data file of a delete file, as the snapshot sees it
  abbrev file_at : ℕ → DeleteFileRow → Option DataFileRow
  file_at s r = row_of data_file_key (r.data_file_id ∷ []) (visible_at data_file_validity s t.data_file)

  file_at_is : (s : ℕ) (r : DeleteFileRow) → file_at s r ≡ seen_row data_file_validity data_file_key data_file_laws s (data_file_of t r)
  file_at_is s r = row_of-visible data_file_validity data_file_key data_file_laws (r.data_file_id ∷ []) s t.data_file up

  -- wrong by whole tables
  abbrev Differs : Key → DeleteFileRow → Type 0
  Differs k r = (IsSeen t delete_file_validity r × (differs_from (data_file_of t r) r ≡ true)) × (of_delete_file r ≡ k)

  abbrev named : DeleteFileRow → Key
  named = missing_or_own (data_file_of t) file_id_of of_delete_file

  abbrev LacksAt : Key → ℕ → DeleteFileRow → Type 0
  LacksAt k s r = (file_at s r ≡ None) × (named r ≡ k)

  abbrev DiffersAt : Key → ℕ → DeleteFileRow → Type 0
  DiffersAt k s r = (differs_from (file_at s r) r ≡ true) × (of_delete_file r ≡ k)

  abbrev bare : DeleteFileRow → DeleteFileRow
  bare r = delete_file_validity.with_end None r

  same_differs : (o : Option DataFileRow) (r : DeleteFileRow) → differs_from o (bare r) ≡ differs_from o r
  same_differs None r = refl
  same_differs (Some q) r = refl

  to_seen : (k : Key) (r : DeleteFileRow) → Differs k r → AtSome t (λ s. (is_visible delete_file_validity s r ≡ true) × (LacksAt k s (bare r) ⊎ DiffersAt k s (bare r)))
  to_seen k r h = go (data_file_of t r) refl h.0.1
    where
      go : (o : Option DataFileRow) → data_file_of t r ≡ o → differs_from o r ≡ true → AtSome t (λ s. (is_visible delete_file_validity s r ≡ true) × (LacksAt k s (bare r) ⊎ DiffersAt k s (bare r)))
      go None e d = absurd (true≢false (sym d))
      go (Some q) e d =
          at_like t (λ s. is_visible delete_file_validity s r ≡ true) (λ s. (is_visible delete_file_validity s r ≡ true) × (LacksAt k s (bare r) ⊎ DiffersAt k s (bare r)))
          (λ s sees. (sees, at s (is_visible data_file_validity s q) (file_at_is s r ∙ ap (seen_row data_file_validity data_file_key data_file_laws s) e))) h.0.0
        where
          at : (s : ℕ) (b : Bool) → file_at s r ≡ cond b (Some (data_file_validity.with_end None q)) None → LacksAt k s (bare r) ⊎ DiffersAt k s (bare r)
          at s true is = inr (same_differs (file_at s r) r ∙ ap (λ o. differs_from o r) is ∙ d, h.1)
          at s false is = inl (is, ap (λ o. cond (is_none o) (file_id_of r) (of_delete_file r)) e ∙ h.1)

  from_seen : (k : Key) (r : DeleteFileRow) → AtSome t (λ s. (is_visible delete_file_validity s r ≡ true) × DiffersAt k s (bare r)) → Differs k r
  from_seen k r h = (
    (
      at_like t (λ s. (is_visible delete_file_validity s r ≡ true) × DiffersAt k s (bare r)) (λ s. is_visible delete_file_validity s r ≡ true) (λ s x. x.0) h,
      from_at t (λ s. (is_visible delete_file_validity s r ≡ true) × DiffersAt k s (bare r)) (differs_from (data_file_of t r) r ≡ true) (λ s x. at s (data_file_of t r) (file_at_is s r) (sym (same_differs (file_at s r) r) ∙ x.1.0)) h,
    ),
    from_at t (λ s. (is_visible delete_file_validity s r ≡ true) × DiffersAt k s (bare r)) (of_delete_file r ≡ k) (λ s x. x.1.1) h,
  )
    where
      shown : (q : DataFileRow) (b : Bool) → differs_from (cond b (Some (data_file_validity.with_end None q)) None) r ≡ true → differs_from (Some q) r ≡ true
      shown q true d = d
      shown q false d = absurd (true≢false (sym d))

      at : (s : ℕ) (o : Option DataFileRow) → file_at s r ≡ seen_row data_file_validity data_file_key data_file_laws s o → differs_from (file_at s r) r ≡ true → differs_from o r ≡ true
      at s None is d = absurd (true≢false (sym (sym (ap (λ o. differs_from o r) is) ∙ d)))
      at s (Some q) is d = shown q (is_visible data_file_validity s q) (sym (ap (λ o. differs_from o r) is) ∙ d)

  abbrev Old : Key → Type 0
  Old k = IsUnmatched t delete_file_validity data_file_validity (data_file_of t) file_id_of of_delete_file t.delete_file k ⊎ Names of_delete_file (λ r. IsSeen t delete_file_validity r × (differs_from (data_file_of t r) r ≡ true)) t.delete_file k

  to_both : (k : Key) → Old k → IsDeleteFileWrong t k
  to_both k (inl h) =
      at_like t (λ s. IsDeleteFileUnmatched t (seen_at s t) k) (λ s. IsDeleteFileUnmatched t (seen_at s t) k ⊎ IsDeleteFileDiffering (seen_at s t) k) (λ s x. inl x)
      (unmatched-to_seen t delete_file_validity data_file_validity data_file_key data_file_laws t.data_file up (λ r. r.data_file_id ∷ []) (λ r. refl) file_id_of of_delete_file named (λ r. refl) t.delete_file k h)
  to_both k (inr h) =
      at_like t (λ s. SomeOf (λ r. LacksAt k s r ⊎ DiffersAt k s r) (seen_at s t).delete_file) (λ s. IsDeleteFileUnmatched t (seen_at s t) k ⊎ IsDeleteFileDiffering (seen_at s t) k)
      (λ s x. or_some (LacksAt k s) (DiffersAt k s) (seen_at s t).delete_file x)
      (rows_to_seen t delete_file_validity (Differs k) (λ s r. LacksAt k s r ⊎ DiffersAt k s r) (to_seen k) t.delete_file h)

  from_both : (k : Key) → IsDeleteFileWrong t k → Old k
  from_both k h = go (or_some (λ (z : SnapshotRow). IsDeleteFileUnmatched t (seen_at z.snapshot_id t) k) (λ (z : SnapshotRow). IsDeleteFileDiffering (seen_at z.snapshot_id t) k) t.snapshot h)
    where
      go : AtSome t (λ s. IsDeleteFileUnmatched t (seen_at s t) k) ⊎ AtSome t (λ s. IsDeleteFileDiffering (seen_at s t) k) → Old k
      go (inl x) = inl (unmatched-from_seen t delete_file_validity data_file_validity data_file_key data_file_laws t.data_file up (λ r. r.data_file_id ∷ []) (λ r. refl) file_id_of of_delete_file named (λ r. refl) t.delete_file k x)
      go (inr x) = inr (rows_from_seen t delete_file_validity (Differs k) (DiffersAt k) (from_seen k) t.delete_file x)

  pub first_wrong : (o : Option Key) → FirstBad Old o → FirstBad (IsDeleteFileWrong t) o
  first_wrong o h = first_like Old (IsDeleteFileWrong t) to_both from_both o h
