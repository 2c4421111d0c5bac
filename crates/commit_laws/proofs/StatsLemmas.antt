-- The statistics of tables after a commit.
use Rattle.std.proofs.Common.{◌≡◌, ◌⊎◌, inl, inr, ⊎_elim, ℕ, ◌<◌, ◌≤◌, true, false, true≢false, List, [], ◌∷◌, map, Option, Some, None, option_map, refl, sym, ap, ◌∙◌, subst, arith}
use Rattle.std.specs.List.{AllByRecursion, filter_map}
use Rattle.lake_model.specs.Apply.{Draft, is_ref, table_id}
use Rattle.lake_model.specs.Creations.{creations}
use Rattle.lake_model.specs.Growth.{made_tables}
use Rattle.lake_model.specs.declared.change.Ref.{Ref}
use Rattle.lake_model.specs.declared.change.Ref.TheVariants as ref
use Rattle.lake_rebase.proofs.MakeLemmas.{picked}
use Rattle.lake_rebase.proofs.MemberLemmas.{In, all_in, in_cases, in_kept, in_left, in_map, in_right, map_in, one_of_id}
use Rattle.cat_tables.proofs.KeyLemmas.{key_eq}
use Rattle.cat_tables.proofs.RowLemmas.{key-row_of}
use Rattle.cat_tables.proofs.SightLemmas.{same_key}
use Rattle.cat_tables.specs.Table.{all_removed, has_key, put_all, row_of}
use Rattle.cat_rows.proofs.PartLemmas.{applied-parts}
use Rattle.cat_rows.specs.Keys.{table_stats_key}
use Rattle.cat_rows.specs.Tables.{Tables}
use Rattle.cat_rows.specs.declared.files.TableStatsRow.{TableStatsRow}
use Rattle.cat_rules.proofs.DatedLemmas.{row_of_all}
use Rattle.cat_rules.specs.Rows.{SomeOf}
use Rattle.commit_rules.proofs.HistoryLemmas.{first_number}
use Rattle.commit_rules.proofs.TableLemmas.{FindsNew, FindsOld, found, row_of-all_removed, row_of-put_all}
use Rattle.cat_view.specs.Sight.{stats_row}
use Rattle.cat_view.specs.Staged.{NamedStagedFile, staged_for}
use Rattle.rebase.specs.Parts.{FreshFile, fresh_files, made_stats, old_stats, restated, restated_of}
use Rattle.commit_laws.proofs.StandCaseLemmas.{Case, after, next, p, stats-low}
use Rattle.commit_laws.proofs.RefLemmas.{made-past, made-rise}
use Rattle.commit_laws.proofs.StagedLemmas.{files-of, files_of, listed}
use Rattle.commit_laws.proofs.VersionLemmas.{fresh-for}

-- ---- what is picked out of a list

record IsPicked {X Y : Type 0} (f : X → Option Y) (xs : List X) (y : Y) : Type 0 where
  of : X
  there : In of xs
  is : f of ≡ Some y

in_picked : {X Y : Type 0} (f : X → Option Y) (xs : List X) (y : Y) → In y (filter_map f xs) → IsPicked f xs y
in_picked f [] y h = absurd h
in_picked f (x ∷ xs) y h = go (f x) refl (in_picked f xs y)
  where
    front : (z : _) → f x ≡ Some z → In y (z ∷ filter_map f xs) → (In y (filter_map f xs) → IsPicked f xs y) → IsPicked f (x ∷ xs) y
    front z e (inl same) more = record { of = x; there = inl refl; is = e ∙ ap Some same }
    front z e (inr later) more = let m = more later in record { of = m.of; there = inr m.there; is = m.is }

    go : (o : Option _) → f x ≡ o → (In y (filter_map f xs) → IsPicked f xs y) → IsPicked f (x ∷ xs) y
    go None e more = let m = more (rw e at h) in record { of = m.of; there = inr m.there; is = m.is }
    go (Some z) e more = front z e (rw e at h) more

-- ---- one more file

abbrev pub gained : Option NamedStagedFile → TableStatsRow → TableStatsRow
gained None r = r
gained (Some f) r = restated f r

pub none-gained : (o : Option TableStatsRow) → option_map (gained None) o ≡ o
none-gained None = refl
none-gained (Some r) = refl

key_is : (id : ℕ) (r : TableStatsRow) → has_key table_stats_key (id ∷ []) r ≡ true → r.table_id ≡ id
key_is id r h = first_number (key_eq (table_stats_key r) (id ∷ []) h)

is_key : (id : ℕ) (r : TableStatsRow) → r.table_id ≡ id → has_key table_stats_key (id ∷ []) r ≡ true
is_key id r e = subst (λ k. has_key table_stats_key (k ∷ []) r ≡ true) e (same_key table_stats_key r)

some_is : (o : Option TableStatsRow) (f : NamedStagedFile) (r : TableStatsRow) → option_map (restated f) o ≡ Some r → (q : TableStatsRow) × (o ≡ Some q) × (restated f q ≡ r)
some_is None f r e = absurd cc
some_is (Some q) f r e = (q, refl, cc)

module _ (x : Case) where
  abbrev file_at : Ref → Option NamedStagedFile
  file_at at = (staged_for x.staged at).fresh

  abbrev rest : List TableStatsRow
  rest = all_removed table_stats_key (map (λ (r : TableStatsRow). r.table_id ∷ []) (p x).old_stats) x.t.table_stats

  stats-are : (after x).table_stats ≡ put_all table_stats_key (p x).table_stats rest
  stats-are = ap (λ (u : Tables). u.table_stats) (applied-parts (p x) x.t)

  -- old statistics are of an old table
  record IsOldStats (at : Ref) (r : TableStatsRow) : Type 0 where
    at_is : at ≡ ref.Old r.table_id
    there : stats_row x.t r.table_id ≡ Some r
    low : r.table_id < next x

  old-stats : (at : Ref) (r : TableStatsRow) → old_stats x.t at ≡ Some r → IsOldStats at r
  old-stats (ref.New place) r e = absurd cc
  old-stats (ref.Old id) r e =
      let same : r.table_id ≡ id = first_number (key-row_of table_stats_key (id ∷ []) x.t.table_stats r e) in
      record {
        at_is = ap ref.Old (sym same);
        there = ap (stats_row x.t) same ∙ e;
        low = row_of_all table_stats_key (id ∷ []) (λ (q : TableStatsRow). q.table_id < next x) x.t.table_stats (stats-low x) r e;
      }

  -- new statistics are of a table with a file, or of a created one
  record IsRestated (r : TableStatsRow) : Type 0 where
    old : TableStatsRow
    file : NamedStagedFile
    there : stats_row x.t old.table_id ≡ Some old
    low : old.table_id < next x
    has : file_at (ref.Old old.table_id) ≡ Some file
    is : restated file old ≡ r

  record IsMadeStats (r : TableStatsRow) : Type 0 where
    draft : Draft
    there : In draft (made_tables 0 x.own)
    is : made_stats (next x) (creations 0 0 x.own) x.staged draft ≡ r

  new-stats : (r : TableStatsRow) → In r (p x).table_stats → IsRestated r ⊎ IsMadeStats r
  new-stats r h = go (in_cases r (restated_of x.t (fresh_files x.staged)) (map (made_stats (next x) (creations 0 0 x.own) x.staged) (made_tables 0 x.own)) h)
    where
      go : In r (restated_of x.t (fresh_files x.staged)) ⊎ In r (map (made_stats (next x) (creations 0 0 x.own) x.staged) (made_tables 0 x.own)) → IsRestated r ⊎ IsMadeStats r
      go (inl k) =
          let m = in_picked (λ (y : FreshFile). option_map (restated y.file) (old_stats x.t y.table)) (fresh_files x.staged) r k in
          let q = some_is (old_stats x.t m.of.table) m.of.file r m.is in
          let o = old-stats m.of.table q.0 q.1 in
          inl (record { old = q.0; file = m.of.file; there = o.there; low = o.low; has = subst (λ at. file_at at ≡ Some m.of.file) o.at_is (fresh-for x m.of m.there); is = q.2 })
      go (inr k) = let m = in_map (made_stats (next x) (creations 0 0 x.own) x.staged) r (made_tables 0 x.own) k in inr (record { draft = m.of; there = m.there; is = m.is })

  -- a table's file states its statistics anew
  stated : (y : FreshFile) (r : TableStatsRow) → In y (fresh_files x.staged) → old_stats x.t y.table ≡ Some r → In (restated y.file r) (p x).table_stats
  stated y r there e =
      in_left (restated y.file r) (restated_of x.t (fresh_files x.staged)) _
      (picked (λ (z : FreshFile). option_map (restated z.file) (old_stats x.t z.table)) y (restated y.file r) (fresh_files x.staged) (ap (option_map (restated y.file)) e) there)

  none-of : (id : ℕ) (r : TableStatsRow) → AllByRecursion (λ (q : TableStatsRow). has_key table_stats_key (id ∷ []) q ≡ false) (p x).table_stats → In r (p x).table_stats → r.table_id ≡ id → ⊥
  none-of id r none there same = true≢false (sym (is_key id r same) ∙ all_in (λ (q : TableStatsRow). has_key table_stats_key (id ∷ []) q ≡ false) r (p x).table_stats none there)

  pub fresh-there : (at : Ref) (f : NamedStagedFile) → (staged_for x.staged at).fresh ≡ Some f → In (record { table = at; file = f }) (fresh_files x.staged)
  fresh-there at f e =
      let y : FreshFile = record { table = at; file = f } in
      let files : files_of at (fresh_files x.staged) ≡ listed at (Some f) = files-of at x.staged x.is.are_staged.is_staged.once ∙ ap (listed at) e in
      (in_kept (λ (z : FreshFile). is_ref z.table at) y (fresh_files x.staged) (subst (λ l. In y l) (sym files) (inl refl))).0

  -- The statistics of an old table have the rows and bytes of its new file, if it has one.
  pub stats-old : (id : ℕ) → id < next x → stats_row (after x) id ≡ option_map (gained (staged_for x.staged (ref.Old id)).fresh) (stats_row x.t id)
  stats-old id low = ap (row_of table_stats_key (id ∷ [])) stats-are ∙ ⊎_elim new old (row_of-put_all table_stats_key (id ∷ []) (p x).table_stats rest)
    where
      Goal : Option TableStatsRow → Type 0
      Goal o = o ≡ option_map (gained (staged_for x.staged (ref.Old id)).fresh) (stats_row x.t id)

      restated-is : (r : TableStatsRow) → IsRestated r → r.table_id ≡ id → Goal (Some r)
      restated-is r m same =
          let named : m.old.table_id ≡ id = ap (λ (q : TableStatsRow). q.table_id) m.is ∙ same in
          let has : file_at (ref.Old id) ≡ Some m.file = ap (λ k. file_at (ref.Old k)) (sym named) ∙ m.has in
          let there : stats_row x.t id ≡ Some m.old = ap (stats_row x.t) (sym named) ∙ m.there in
          rw (has, there) (ap Some (sym m.is))

      new : FindsNew table_stats_key (id ∷ []) (p x).table_stats (row_of table_stats_key (id ∷ []) (put_all table_stats_key (p x).table_stats rest)) → Goal (row_of table_stats_key (id ∷ []) (put_all table_stats_key (p x).table_stats rest))
      new m = m.is ∙ ⊎_elim (λ (r : IsRestated m.row). restated-is m.row r (key_is id m.row m.has))
          (λ (r : IsMadeStats m.row).
          let past = all_in (λ (d : Draft). next x ≤ table_id (next x) (creations 0 0 x.own) d.at) r.draft (made_tables 0 x.own) (made-past (next x) x.own) r.there in
          let same : table_id (next x) (creations 0 0 x.own) r.draft.at ≡ id = ap (λ (q : TableStatsRow). q.table_id) r.is ∙ key_is id m.row m.has in
          absurd (omega (arith, past, same, low)))
          (new-stats m.row m.there)

      kept : AllByRecursion (λ (q : TableStatsRow). has_key table_stats_key (id ∷ []) q ≡ false) (p x).table_stats → (o : Option NamedStagedFile) → file_at (ref.Old id) ≡ o → (s : Option TableStatsRow) → stats_row x.t id ≡ s → Goal (stats_row x.t id)
      kept none None e s is = rw e (sym (none-gained (stats_row x.t id)))
      kept none (Some f) e None is = rw is refl
      kept none (Some f) e (Some r) is =
          absurd (none-of id (restated f r) none (stated (record { table = ref.Old id; file = f }) r (fresh-there (ref.Old id) f e) is) (first_number (key-row_of table_stats_key (id ∷ []) x.t.table_stats r is)))

      gone : AllByRecursion (λ (q : TableStatsRow). has_key table_stats_key (id ∷ []) q ≡ false) (p x).table_stats → SomeOf (λ l. l ≡ id ∷ []) (map (λ (r : TableStatsRow). r.table_id ∷ []) (p x).old_stats) → ⊥
      gone none some =
          let k = found (λ l. l ≡ id ∷ []) (map (λ (r : TableStatsRow). r.table_id ∷ []) (p x).old_stats) some in
          let r = in_map (λ (r : TableStatsRow). r.table_id ∷ []) k.item (p x).old_stats k.there in
          let same : r.of.table_id ≡ id = first_number (r.is ∙ k.is) in
          let y = in_picked (λ (z : FreshFile). old_stats x.t z.table) (fresh_files x.staged) r.of r.there in
          none-of id (restated y.of.file r.of) none (stated y.of r.of y.there y.is) same

      old : FindsOld table_stats_key (id ∷ []) (p x).table_stats rest (row_of table_stats_key (id ∷ []) (put_all table_stats_key (p x).table_stats rest)) → Goal (row_of table_stats_key (id ∷ []) (put_all table_stats_key (p x).table_stats rest))
      old m = m.is ∙ ⊎_elim (λ same. same ∙ kept m.none (file_at (ref.Old id)) refl (stats_row x.t id) refl) (λ some. absurd (gone m.none some)) (row_of-all_removed table_stats_key (id ∷ []) (map (λ (r : TableStatsRow). r.table_id ∷ []) (p x).old_stats) x.t.table_stats)

  -- And a created table has its own.
  pub stats-made : (d : Draft) → In d (made_tables 0 x.own) → stats_row (after x) (table_id (next x) (creations 0 0 x.own) d.at) ≡ Some (made_stats (next x) (creations 0 0 x.own) x.staged d)
  stats-made d there = ap (row_of table_stats_key (id ∷ [])) stats-are ∙ ⊎_elim new old (row_of-put_all table_stats_key (id ∷ []) (p x).table_stats rest)
    where
      id : ℕ
      id = table_id (next x) (creations 0 0 x.own) d.at

      Goal : Option TableStatsRow → Type 0
      Goal o = o ≡ Some (made_stats (next x) (creations 0 0 x.own) x.staged d)

      past : next x ≤ table_id (next x) (creations 0 0 x.own) d.at
      past = all_in (λ (e : Draft). next x ≤ table_id (next x) (creations 0 0 x.own) e.at) d (made_tables 0 x.own) (made-past (next x) x.own) there

      new : FindsNew table_stats_key (table_id (next x) (creations 0 0 x.own) d.at ∷ []) (p x).table_stats (row_of table_stats_key (table_id (next x) (creations 0 0 x.own) d.at ∷ []) (put_all table_stats_key (p x).table_stats rest))
          → Goal (row_of table_stats_key (table_id (next x) (creations 0 0 x.own) d.at ∷ []) (put_all table_stats_key (p x).table_stats rest))
      new m = m.is ∙ ⊎_elim
          (λ (r : IsRestated m.row).
          let low = r.low in
          let same : r.old.table_id ≡ table_id (next x) (creations 0 0 x.own) d.at = ap (λ (q : TableStatsRow). q.table_id) r.is ∙ key_is _ m.row m.has in
          absurd (omega (arith, low, same, past)))
          (λ (r : IsMadeStats m.row).
          let same : table_id (next x) (creations 0 0 x.own) r.draft.at ≡ table_id (next x) (creations 0 0 x.own) d.at = ap (λ (q : TableStatsRow). q.table_id) r.is ∙ key_is _ m.row m.has in
          let again = one_of_id (λ (e : Draft). table_id (next x) (creations 0 0 x.own) e.at) _ r.draft d (made_tables 0 x.own) (made-rise (next x) x.own) r.there there same in
          ap Some (sym r.is ∙ ap (made_stats (next x) (creations 0 0 x.own) x.staged) again))
          (new-stats m.row m.there)

      old : FindsOld table_stats_key (table_id (next x) (creations 0 0 x.own) d.at ∷ []) (p x).table_stats rest (row_of table_stats_key (table_id (next x) (creations 0 0 x.own) d.at ∷ []) (put_all table_stats_key (p x).table_stats rest))
          → Goal (row_of table_stats_key (table_id (next x) (creations 0 0 x.own) d.at ∷ []) (put_all table_stats_key (p x).table_stats rest))
      old m = absurd (none-of _ (made_stats (next x) (creations 0 0 x.own) x.staged d) m.none (in_right _ (restated_of x.t (fresh_files x.staged)) _ (map_in (made_stats (next x) (creations 0 0 x.own) x.staged) d (made_tables 0 x.own) there)) refl)
