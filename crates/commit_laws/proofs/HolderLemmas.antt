-- The table of each staged file: one of the head's that stays, or one that the list makes.
use Rattle.std.proofs.Common.{◌≡◌, ◌≢◌, ◌⊎◌, inl, inr, ⊎_elim, ℕ, ◌≤◌, Bool, true, false, cond, ◌||◌, List, [], ◌∷◌, ◌++◌, map, refl, sym, ap, ◌∙◌, subst, arith, Some, None, true≢false}
use Rattle.std.specs.Prelude.{zero, suc}
use Rattle.std.specs.List.{filter_map, list_any, range_with_len}
use Rattle.lake_types.specs.Cells.{laid_cells}
use Rattle.lake_types.specs.declared.sheet.Sheet.{Sheet}
use Rattle.lake_types.specs.declared.value.Column.{Column}
use Rattle.lake_model.specs.Apply.{Cells, Draft, drafted, is_ref, left, worked}
use Rattle.lake_model.specs.ByTable.{draft_after, made_from}
use Rattle.lake_model.specs.Growth.{with_own_rows}
use Rattle.lake_model.specs.Kinds.{drops_table}
use Rattle.lake_model.specs.State.{Table}
use Rattle.lake_model.specs.declared.change.Ref.TheVariants as ref
use Rattle.lake_model.proofs.ApplyLemmas.{by_table}
use Rattle.lake_model.proofs.GrowthLemmas.{grows, made-tables}
use Rattle.lake_rebase.proofs.HeadLemmas.{columns-at-head}
use Rattle.lake_rebase.proofs.MemberLemmas.{In, all_in, in_cases, in_map}
use Rattle.lake_model.proofs.RefLemmas.{ref-same}
use Rattle.sheet_rows.specs.Sheets.{cells_of, row_cells}
use Rattle.cat_view.specs.Staged.{HoldsCells, IsStagedFile, IsStagedTable, MayHoldCells, is_table, staged_for}
use Rattle.rebase.specs.Parts.{FreshFile}
use Rattle.commit_laws.proofs.CaseLemmas.{Case, fresh, head}
use Rattle.commit_laws.proofs.ColumnLemmas.{made}
use Rattle.commit_laws.proofs.FreshLemmas.{staged-as, staged_is}
use Rattle.commit_laws.proofs.ListLemmas.{Found, in_picked}

any_found : {X : Type 0} (p : X → Bool) (xs : List X) → list_any p xs ≡ true → Found (λ x. p x ≡ true) xs
any_found p [] e = absurd (true≢false (sym e))
any_found {X} p (x ∷ xs) e = go (p x) refl e (any_found p xs)
  where
    go : (b : Bool) → p x ≡ b → (b || list_any p xs) ≡ true → (list_any p xs ≡ true → Found (λ y. p y ≡ true) xs) → Found (λ y. p y ≡ true) (x ∷ xs)
    go true is e more = record { item = x; there = inl refl; is = is }
    go false is e more = let m = more e in record { item = m.item; there = inr m.there; is = m.is }

-- a file with a row has cells
some_cells : (sheet : Sheet) (columns : List Column) (rows more all : List Cells) → map (laid_cells columns) (cells_of sheet) ≡ rows → rows ++ more ≡ all → 1 ≤ sheet.rows → all ≢ []
some_cells sheet columns rows more all held are some none = go sheet.rows refl
  where
    go : (n : ℕ) → sheet.rows ≡ n → ⊥
    go zero e = omega (arith, e, some)
    go (suc n) e = let one : map (laid_cells columns) (map (row_cells sheet.columns) (range_with_len 0 (suc n))) ≡ rows = subst (λ m. map (laid_cells columns) (map (row_cells sheet.columns) (range_with_len 0 m)) ≡ rows) e held in absurd cc

module _ (k : Case) where
  pub record OldHolder (x : FreshFile) (columns : List Column) : Type 0 where
    pub table : Table
    pub there : In table (head k).tables
    pub at_is : x.table ≡ ref.Old table.id
    pub stays : drops_table k.own (ref.Old table.id) ≡ false
    pub columns_are : table.columns ≡ columns

  pub record NewHolder (x : FreshFile) (columns : List Column) : Type 0 where
    pub draft : Draft
    pub there : In draft (made k)
    pub at_is : x.table ≡ draft.at
    pub columns_are : draft.columns ≡ columns
    pub file_is : (staged_for k.staged draft.at).fresh ≡ Some x.file

  pub record Holder (x : FreshFile) : Type 0 where
    pub columns : List Column
    pub sheet : Sheet
    pub staged : IsStagedFile k.more columns x.file sheet
    pub of : OldHolder x columns ⊎ NewHolder x columns

  -- a table after the list
  record IsOldDraft (d : Draft) : Type 0 where
    table : Table
    there : In table k.state.tables
    stays : drops_table k.own (ref.Old table.id) ≡ false
    is : with_own_rows k.own (drafted table) ≡ d

  draft_cases : (d : Draft) → In d (worked k.state k.own).tables → IsOldDraft d ⊎ In d (made k)
  draft_cases d there =
      ⊎_elim
      (λ old.
      let m = in_picked (draft_after k.own) d (map drafted k.state.tables) old in
      let u = in_map drafted m.item k.state.tables m.there in
      inl (old-draft u.of u.there (sym (grows k.own (drafted u.of) k.c.free.grows) ∙ ap (draft_after k.own) u.is ∙ m.is)))
      (λ now. inr (subst (In d) (made-tables 0 k.own k.c.free.grows) now))
      (in_cases d (filter_map (draft_after k.own) (map drafted k.state.tables)) (made_from 0 k.own) (subst (In d) (by_table k.state k.own) there))
    where
      old-draft : (u : Table) → In u k.state.tables → cond (drops_table k.own (ref.Old u.id)) None (Some (with_own_rows k.own (drafted u))) ≡ Some d → IsOldDraft d
      old-draft u there e = go (drops_table k.own (ref.Old u.id)) refl e
        where
          go : (b : Bool) → drops_table k.own (ref.Old u.id) ≡ b → cond b None (Some (with_own_rows k.own (drafted u))) ≡ Some d → IsOldDraft d
          go true is e = absurd cc
          go false is e = let same : with_own_rows k.own (drafted u) ≡ d = cc in record { table = u; there = there; stays = is; is = same }

  pub holder : (x : FreshFile) → In x (fresh k) → Holder x
  holder x there =
      let s = staged-as k.staged x there in
      let d = any_found (λ (e : Draft). is_ref e.at s.stage.table) (worked k.state k.own).tables (all_in (λ y. is_table (worked k.state k.own).tables y ≡ true) s.stage k.staged k.c.stage.known s.there) in
      let at : d.item.at ≡ s.stage.table = ref-same d.item.at s.stage.table d.is in
      let same : staged_for k.staged d.item.at ≡ s.stage = staged_is k.staged s.stage d.item.at k.c.stage.once s.there at in
      let h : IsStagedTable k.more k.own k.base d.item s.stage = subst (IsStagedTable k.more k.own k.base d.item) same (all_in (λ (e : Draft). IsStagedTable k.more k.own k.base e (staged_for k.staged e.at)) d.item (worked k.state k.own).tables k.c.stage.tables d.there) in
      let held : HoldsCells k.more d.item.columns x.file h.in_file = subst (λ o. MayHoldCells k.more d.item.columns o h.in_file) s.file h.fresh in
      let rows = held.staged.rows in let one = held.staged.some in
      let some = some_cells held.sheet d.item.columns h.in_file _ (left d.item.fresh) held.cells h.fresh_are (omega (arith, rows, one)) in
      record { columns = d.item.columns; sheet = held.sheet; staged = held.staged; of = ⊎_elim (λ old. inl (old-holder d.item (s.table ∙ sym at) some old)) (λ now. inr (record { draft = d.item; there = now; at_is = s.table ∙ sym at; columns_are = refl; file_is = ap (λ y. y.fresh) same ∙ s.file })) (draft_cases d.item d.there) }
    where
      old-holder : (d : Draft) → x.table ≡ d.at → left d.fresh ≢ [] → IsOldDraft d → OldHolder x d.columns
      old-holder d at some m =
          let kept = columns-at-head k.told k.state (head k) k.own k.c.free m.table m.there
          (λ none. some (ap (λ (e : Draft). left e.fresh) (sym m.is) ∙ ap (λ rows. left ([] ++ map (λ cells. Some (laid_cells m.table.columns cells)) rows)) none)) m.stays in
          let id : kept.table.id ≡ m.table.id = kept.id_is in
          record {
            table = kept.table;
            there = kept.there;
            at_is = at ∙ sym (ap (λ (e : Draft). e.at) m.is) ∙ ap ref.Old (sym id);
            stays = ap (λ n. drops_table k.own (ref.Old n)) id ∙ m.stays;
            columns_are = kept.columns_are ∙ ap (λ (e : Draft). e.columns) m.is;
          }
