-- What is staged for a table of the head, counted.
use Rattle.std.proofs.Common.{◌≡◌, inl, inr, ℕ, false, List, [], ◌∷◌, length, map, Option, Some, None, refl, sym, ap, ◌∙◌, subst}
use Rattle.std.proofs.lemmas.List.{length-map}
use Rattle.lake_types.specs.Cells.{laid_cells}
use Rattle.lake_model.specs.Apply.{Cells, Draft, left, numbered}
use Rattle.lake_model.specs.Growth.{made_tables, rows_for}
use Rattle.lake_model.specs.Kinds.{drops_table}
use Rattle.lake_model.specs.State.{Table}
use Rattle.lake_model.specs.declared.change.Ref.{Ref}
use Rattle.lake_model.specs.declared.change.Ref.TheVariants as ref
use Rattle.lake_rebase.proofs.HeadLemmas.{old-new, old-old}
use Rattle.lake_rebase.proofs.MakeLemmas.{table-new}
use Rattle.lake_rebase.proofs.MemberLemmas.{In, all_in, one_of_id}
use Rattle.cat_view.specs.Named.{NamedTable, table_of}
use Rattle.cat_view.specs.Staged.{MayHoldCells, NamedStagedFile, staged_for}
use Rattle.cat_growth.proofs.StagedLemmas.{staged-files_hold}
use Rattle.cat_growth.specs.Growth.{HoldRows}
use Rattle.cat_growth.specs.Fresh.{new_files}
use Rattle.rebase.specs.Parts.{rows_in}
use Rattle.commit_laws.proofs.StandCaseLemmas.{Case, head}
use Rattle.commit_laws.proofs.PlainLemmas.{table-in, unaltered, v}
use Rattle.commit_laws.proofs.TargetLemmas.{IsTarget, made-held, rows-held}
use Rattle.commit_laws.proofs.VersionLemmas.{target}

none-numbered : (k : ℕ) (cs : List Cells) → [] ≡ numbered k cs → cs ≡ []
none-numbered k [] e = refl
none-numbered k (c ∷ cs) e = absurd cc

-- a staged file has as many rows
pub rows-counted : (files : _) (columns : _) (o : Option NamedStagedFile) (rows : List Cells) → MayHoldCells files columns o rows → length rows ≡ rows_in o
rows-counted files columns None rows h = ap length h
rows-counted files columns (Some f) rows h = rows-held files columns f rows h

module _ (x : Case) where
  abbrev pub file_for : Ref → Option NamedStagedFile
  file_for at = (staged_for x.staged at).fresh

  abbrev Held : NamedTable → Option NamedStagedFile → Type 0
  Held y o = MayHoldCells x.is.at_staging y.columns o (map (laid_cells y.columns) (rows_for (ref.Old y.id) x.own))

  pub head-held : (y : NamedTable) → In y (v x).tables → drops_table x.own (ref.Old y.id) ≡ false → MayHoldCells x.is.at_staging y.columns (file_for (ref.Old y.id)) (map (laid_cells y.columns) (rows_for (ref.Old y.id) x.own))
  head-held y there stays = go (file_for (ref.Old y.id)) refl
    where
      from_target : (f : NamedStagedFile) → IsTarget x.is.told x.is.base (head x) x.own x.is.free x.is.version x.is.at_staging x.staged x.is.are_staged (ref.Old y.id) → Held y (file_for (ref.Old y.id))
      from_target f (inr made) =
          let new = table-new 0 x.own made.draft made.there in
          absurd (old-new y.id new.place (sym made.at_is ∙ new.is))
      from_target f (inl old) =
          let same : old.table.id ≡ y.id = old-old old.table.id y.id old.at_is in
          let again : old.table ≡ table_of x.files y = one_of_id (λ (t : Table). t.id) (head x).next_catalog old.table (table_of x.files y) (head x).tables x.is.free.head_ids.tables old.there (table-in x y there) same in
          subst (λ (t : Table). MayHoldCells x.is.at_staging t.columns (file_for (ref.Old t.id)) (map (laid_cells t.columns) (rows_for (ref.Old t.id) x.own))) again old.held

      none : file_for (ref.Old y.id) ≡ None → map (laid_cells y.columns) (rows_for (ref.Old y.id) x.own) ≡ []
      none e =
          let held = staged-files_hold x.is.at_staging x.more x.is.version x.is.base x.own x.staged x.is.are_staged x.is.still y stays
          (unaltered x y there stays) 0 0 in
          none-numbered 0 (map (laid_cells y.columns) (rows_for (ref.Old y.id) x.own))
          (subst (λ o. HoldRows x.more y.columns 0 (rows_for (ref.Old y.id) x.own) (new_files 0 0 o)) e held)

      go : (o : Option NamedStagedFile) → file_for (ref.Old y.id) ≡ o → Held y (file_for (ref.Old y.id))
      go None e = subst (Held y) (sym e) (none e)
      go (Some f) e = from_target f (target x (ref.Old y.id) f e)

  pub head-count : (y : NamedTable) → In y (v x).tables → drops_table x.own (ref.Old y.id) ≡ false → length (rows_for (ref.Old y.id) x.own) ≡ rows_in (file_for (ref.Old y.id))
  head-count y there stays =
      sym (length-map (rows_for (ref.Old y.id) x.own) (laid_cells y.columns)) ∙ rows-counted x.is.at_staging y.columns (file_for (ref.Old y.id)) _ (head-held y there stays)

  pub made-has : (d : Draft) → In d (made_tables 0 x.own) → MayHoldCells x.is.at_staging d.columns (file_for d.at) (left d.fresh)
  made-has d there = all_in (λ (e : Draft). MayHoldCells x.is.at_staging e.columns (file_for e.at) (left e.fresh)) d (made_tables 0 x.own) (made-held x.is.told x.is.base (head x) x.own x.is.free x.is.version x.is.at_staging x.staged x.is.are_staged) there

  pub made-count : (d : Draft) → In d (made_tables 0 x.own) → length (left d.fresh) ≡ rows_in (file_for d.at)
  made-count d there = rows-counted x.is.at_staging d.columns (file_for d.at) (left d.fresh) (made-has d there)
