-- What an INSERT is planned to be over what is kept, and what is kept afterwards.
use Rattle.std.proofs.Common.{◌≡◌, ◌≢◌, ◌≤◌, ℕ, ◌+◌, List, [], ◌∷◌, ◌++◌, map, refl, sym, ap, subst, ◌∙◌, Bool, true, false, arith, length}
use Rattle.std.proofs.lemmas.List.{length-map}
use Rattle.std.specs.Prelude.{nat_le, Option, Some, None, option_map, Result, Ok, Err, IfErr, IfOk, OnOk, OnErr, if◌then◌else◌}
use Rattle.lake_types.specs.declared.limits.TheConstants.{MAX_TXN_WEIGHT}
use Rattle.lake_types.specs.declared.stmt.Cell.{Cell}
use Rattle.lake_types.specs.declared.stmt.Stmt.TheVariants as stmt
use Rattle.lake_types.specs.declared.stmt.TableName.{TableName}
use Rattle.lake_model.specs.Apply.{Cells, Draft, Work, altered, changed, is_ref, worked}
use Rattle.lake_model.specs.Plans.{Plan, Append, Leave, Refuse, in_schema, of_draft, schema_named, table_named, unless}
use Rattle.lake_model.specs.Rows.{cells_of, change_weight, draft_at, insert, insert_weight, own_weight, rows_fault}
use Rattle.lake_model.specs.Rows as rows
use Rattle.lake_model.specs.State.{State}
use Rattle.lake_model.specs.Step.{within}
use Rattle.lake_model.specs.declared.answer.Answer.{Answer}
use Rattle.lake_model.specs.declared.answer.Answer.TheVariants as answer
use Rattle.lake_model.specs.declared.change.Change.{Change}
use Rattle.lake_model.specs.declared.change.Change.TheVariants as change
use Rattle.lake_model.specs.declared.change.Ref.{Ref}
use Rattle.lake_model.specs.declared.change.Txn.{Txn}
use Rattle.cat_view.specs.Named.{NamedVersion}
use Rattle.cat_view.specs.Views.{named_view}
use Rattle.txn_buf.specs.Base.{IsBase}
use Rattle.txn_buf.specs.Drafts.{bare, bare_draft, table_draft, table_drafts, work_of}
use Rattle.txn_buf.specs.Inserts.{insertion, insertion_weight, plan_of_rows, plan_weight, with_room}
use Rattle.txn_buf.specs.Keeping.{IsReady, Keeps, tally_of, txn_of, view_of}
use Rattle.txn_buf.specs.Turns.{IsDone, IsRefused, Leaves, StandsFor, answer_of, planned}
use Rattle.txn_buf.specs.declared.buffer.TxnBuf.{TxnBuf}
use Rattle.txn_buf.specs.declared.no.TxnNo.{TxnNo}
use Rattle.txn_buf.specs.declared.no.TxnNo.TheVariants.{Memory}
use Rattle.txn_buf.specs.declared.seen.Seen.{Seen}
use Rattle.txn_buf.specs.declared.seen.SeenTable.{SeenTable}
use Rattle.txn_buf.specs.declared.tally.Tally.{Tally}
use Rattle.txn_buf.proofs.KeepLemmas.{keeps-more, keeps-same}
use Rattle.txn_buf.proofs.ListLemmas.{IsListed}
use Rattle.txn_buf.proofs.PlanLemmas.{draft_at-bare, insert-alike}
use Rattle.txn_buf.proofs.TurnLemmas.{weight-more}

-- ---- the plan

pub rows_planned : (d : Draft) (rs : List (List Cell)) → rows.insertion d rs ≡ plan_of_rows d.at (map (cells_of d.columns) rs)
rows_planned d [] = refl
rows_planned d (row ∷ rs) = rw (length-map rs (cells_of d.columns)) refl

-- what is true of each plan that an INSERT may come to is true of its plan
each-plan : (P : Plan → Type 0) → ((a : Answer) → P (Refuse a)) → ((a : Answer) → P (Leave a)) → ((at : Ref) (rs : List Cells) (a : Answer) → P (Append (change.Insert at rs) a))
    → (w : Work) (table : TableName) (rs : List (List Cell)) → P (insert w table rs)
each-plan P refuse leave append w table rs = go (schema_named w table.schema)
  where
    made : (d : Draft) (xs : List (List Cell)) → P (rows.insertion d xs)
    made d [] = leave (answer.Number 0)
    made d (x ∷ xs) = append d.at (map (cells_of d.columns) (x ∷ xs)) (answer.Number (length (x ∷ xs)))

    tested : (d : Draft) (fault : Option Answer) → P (unless fault (rows.insertion d rs))
    tested d None = made d rs
    tested d (Some a) = refuse a

    found : (o : Option Draft) → P (of_draft table (λ d. unless (rows_fault d.columns rs) (rows.insertion d rs)) o)
    found None = refuse (answer.NoTable table)
    found (Some d) = tested d (rows_fault d.columns rs)

    go : (o : Option Ref) → P (in_schema table.schema (λ schema. of_draft table (λ d. unless (rows_fault d.columns rs) (rows.insertion d rs)) (table_named w schema table.table)) o)
    go None = refuse (answer.NoSchema table.schema)
    go (Some schema) = found (table_named w schema table.table)

-- ---- its weight

insert_weight-bare : (rs : List Cells) (o : Option Draft) → insert_weight rs (option_map bare_draft o) ≡ insert_weight rs o
insert_weight-bare rs None = refl
insert_weight-bare rs (Some d) = refl

-- over what is seen as over the whole work
weighs-more : (base : State) (own : List Change) (w : Work) → w ≡ bare (worked base own) → (at : Ref) (rs : List Cells)
    → own_weight base (own ++ change.Insert at rs ∷ []) ≡ own_weight base own + change_weight w [] (change.Insert at rs)
weighs-more base own w seen at rs =
    let here : insert_weight rs (draft_at w at) ≡ insert_weight rs (draft_at (worked base own) at) =
    ap (λ (w : Work). insert_weight rs (draft_at w at)) seen ∙ ap (insert_weight rs) (draft_at-bare (worked base own) at) ∙ insert_weight-bare rs (draft_at (worked base own) at) in
    weight-more base own (change.Insert at rs) ∙ ap (λ (n : ℕ). own_weight base own + n) (sym here)

within-is : (base : State) (own : List Change) (before : ℕ) (w : Work) → before ≡ own_weight base own → w ≡ bare (worked base own) → (table : TableName) (rs : List (List Cell))
    → within base own (insert w table rs) ≡ with_room before w (insert w table rs)
within-is base own before w weighs seen table rs = each-plan (λ p. within base own p ≡ with_room before w p) (λ a. refl) (λ a. refl) append w table rs
  where
    append : (at : Ref) (xs : List Cells) (a : Answer) → within base own (Append (change.Insert at xs) a) ≡ with_room before w (Append (change.Insert at xs) a)
    append at xs a =
        let total : own_weight base (own ++ change.Insert at xs ∷ []) ≡ before + change_weight w [] (change.Insert at xs) =
        weighs-more base own w seen at xs ∙ ap (λ (n : ℕ). n + change_weight w [] (change.Insert at xs)) (sym weighs) in
        rw total refl

-- ---- a call that inserts

module _ (v : NamedVersion) (txn : Txn) (tally : Tally) (seen : Seen) (keeps : Keeps v txn.own tally) (ready : IsReady v txn seen) (table : TableName) (rs : List (List Cell)) where
  insert-planned : (base : State) → IsBase v base → planned txn.read_only base txn.own (stmt.Insert table rs) ≡ insertion tally.weight (work_of seen) table rs
  insert-planned base same =
      let alike : insert (worked base txn.own) table rs ≡ insert (work_of seen) table rs =
      sym (insert-alike (worked base txn.own) table rs) ∙ ap (λ (w : Work). insert w table rs) (sym (ready.seen_is base same)) in
      let roomy = within-is base txn.own tally.weight (work_of seen) (keeps.kept base same).weight (ready.seen_is base same) table rs in
      rw (ready.writes, ready.unmixed, alike) roomy

  pub insert_done : (n : ℕ) (left : List Change) → Leaves (insertion tally.weight (work_of seen) table rs) txn.own left (answer.Number n) → IsDone v txn (stmt.Insert table rs) left (answer.Number n)
  insert_done n left leaves = λ base same. subst (λ (p : Plan). Leaves p txn.own left (answer.Number n)) (sym (insert-planned base same)) leaves

  pub insert_refused : (why : TxnNo) → insertion tally.weight (work_of seen) table rs ≡ Refuse (answer_of why) → IsRefused v txn (stmt.Insert table rs) why
  insert_refused why is = λ base same. insert-planned base same ∙ is

-- ---- what is kept afterwards

inserted-bare : (at : Ref) (rs : List Cells) (ts : List SeenTable) → map bare_draft (map (altered (change.Insert at rs)) (table_drafts ts)) ≡ table_drafts ts
inserted-bare at rs [] = refl
inserted-bare at rs (t ∷ ts) = go (is_ref t.at at) refl (inserted-bare at rs ts)
  where
    go : (b : Bool) → is_ref t.at at ≡ b → map bare_draft (map (altered (change.Insert at rs)) (table_drafts ts)) ≡ table_drafts ts
        → map bare_draft (map (altered (change.Insert at rs)) (table_drafts (t ∷ ts))) ≡ table_drafts (t ∷ ts)
    go true e more = rw e (ap (λ (ds : List Draft). table_draft t ∷ ds) more)
    go false e more = rw e (ap (λ (ds : List Draft). table_draft t ∷ ds) more)

-- rows that are inserted change nothing of what is seen
seen-stays : (seen : Seen) (at : Ref) (rs : List Cells) → work_of seen ≡ bare (changed (work_of seen) (change.Insert at rs))
seen-stays seen at rs = rw (inserted-bare at rs seen.tables.items) refl

pub insert_kept : (v : NamedVersion) (txn : Txn) (tally new : Tally) (seen : Seen) → Keeps v txn.own tally → IsReady v txn seen → (table : TableName) (rs : List (List Cell)) (n : ℕ) (left : List Change)
    → Leaves (insertion tally.weight (work_of seen) table rs) txn.own left (answer.Number n) → new.weight ≡ tally.weight + insertion_weight (work_of seen) table rs → new.weight ≤ MAX_TXN_WEIGHT
    → new.compacts ≡ tally.compacts → new.seen ≡ Some seen → IsListed v left → Keeps v left new
insert_kept v txn tally new seen keeps ready table rs n left leaves weighs small same_sort now list =
    each-plan (λ p. Leaves (with_room tally.weight (work_of seen) p) txn.own left (answer.Number n) → new.weight ≡ tally.weight + plan_weight (work_of seen) p → Keeps v left new)
    (λ a leaves weighs. absurd leaves) left_alone append (work_of seen) table rs leaves weighs
  where
    left_alone : (a : Answer) → Leaves (Leave a) txn.own left (answer.Number n) → new.weight ≡ tally.weight + 0 → Keeps v left new
    left_alone a leaves weighs = keeps-same v txn tally new seen seen left keeps ready leaves.0 same_sort (omega (arith, weighs)) now refl

    append : (at : Ref) (xs : List Cells) (a : Answer) → Leaves (with_room tally.weight (work_of seen) (Append (change.Insert at xs) a)) txn.own left (answer.Number n)
        → new.weight ≡ tally.weight + change_weight (work_of seen) [] (change.Insert at xs) → Keeps v left new
    append at xs a leaves weighs = go (nat_le (tally.weight + change_weight (work_of seen) [] (change.Insert at xs)) MAX_TXN_WEIGHT) leaves
      where
        total : (base : State) → IsBase v base → new.weight ≡ own_weight base (txn.own ++ change.Insert at xs ∷ [])
        total base same =
            weighs ∙ ap (λ (m : ℕ). m + change_weight (work_of seen) [] (change.Insert at xs)) (keeps.kept base same).weight
            ∙ sym (weighs-more base txn.own (work_of seen) (ready.seen_is base same) at xs)

        go : (b : Bool) → Leaves (if b then Append (change.Insert at xs) a else Refuse answer.TooLarge) txn.own left (answer.Number n) → Keeps v left new
        go true leaves = keeps-more v txn tally new seen seen (change.Insert at xs) left keeps ready refl leaves.0 same_sort small total now (seen-stays seen at xs) list
        go false leaves = absurd leaves

-- ---- the call

module _ {F : Type 0} (name : F → List ℕ) (old mid : TxnBuf F) (seen : Seen) (table : TableName) (rs : List (List Cell)) (after : List Change) (r : Result ℕ TxnNo)
    (keeps : StandsFor name old) (ready : IsReady (named_view name (view_of old)) (txn_of old) seen) (same_txn : txn_of mid ≡ txn_of old)
    (taken : tally_of mid ≡ record (tally_of old) { seen = None }) where
  from-old : (n : ℕ) → Leaves (insertion mid.tally.weight (work_of seen) table rs) mid.txn.own after (answer.Number n)
      → Leaves (insertion old.tally.weight (work_of seen) table rs) old.txn.own after (answer.Number n)
  from-old n leaves =
      subst (λ (t : Txn). Leaves (insertion old.tally.weight (work_of seen) table rs) t.own after (answer.Number n)) same_txn
      (subst (λ (t : Tally). Leaves (insertion t.weight (work_of seen) table rs) mid.txn.own after (answer.Number n)) taken leaves)

  same-weight : mid.tally.weight ≡ old.tally.weight
  same-weight = ap (λ (t : Tally). t.weight) taken

  pub insert_stands : (weight : ℕ) → view_of mid ≡ view_of old → IfOk r (λ n. Leaves (insertion mid.tally.weight (work_of seen) table rs) mid.txn.own after (answer.Number n))
      → OnOk r (weight ≡ mid.tally.weight + insertion_weight (work_of seen) table rs) → OnOk r (weight ≤ MAX_TXN_WEIGHT) → OnErr r (after ≡ mid.txn.own) → OnErr r (weight ≡ mid.tally.weight) → IsListed (named_view name (view_of old)) after
      → Keeps (named_view name mid.view) after record { weight = weight; compacts = mid.tally.compacts; seen = Some seen }
  insert_stands weight same_view leaves weighs small left kept list = rw (same_view, taken) (go r leaves weighs small left kept)
    where
      v : NamedVersion
      v = named_view name (view_of old)

      new : Tally
      new = record { weight = weight; compacts = old.tally.compacts; seen = Some seen }

      go : (q : Result ℕ TxnNo) → IfOk q (λ n. Leaves (insertion mid.tally.weight (work_of seen) table rs) mid.txn.own after (answer.Number n))
          → OnOk q (weight ≡ mid.tally.weight + insertion_weight (work_of seen) table rs) → OnOk q (weight ≤ MAX_TXN_WEIGHT) → OnErr q (after ≡ mid.txn.own) → OnErr q (weight ≡ mid.tally.weight) → Keeps v after new
      go (Ok n) leaves weighs small left kept = insert_kept v old.txn old.tally new seen keeps ready table rs n after (from-old n leaves)
          (weighs ∙ ap (λ (m : ℕ). m + insertion_weight (work_of seen) table rs) same-weight) small refl refl list
      go (Err why) leaves weighs small left kept = keeps-same v old.txn old.tally new seen seen after keeps ready (left ∙ ap (λ (t : Txn). t.own) same_txn) refl (kept ∙ same-weight) refl refl

  pub insert_does : IfOk r (λ n. Leaves (insertion mid.tally.weight (work_of seen) table rs) mid.txn.own after (answer.Number n))
      → IfOk r (λ n. IsDone (named_view name (view_of old)) (txn_of old) (stmt.Insert table rs) after (answer.Number n))
  insert_does leaves = go r leaves
    where
      go : (q : Result ℕ TxnNo) → IfOk q (λ n. Leaves (insertion mid.tally.weight (work_of seen) table rs) mid.txn.own after (answer.Number n))
          → IfOk q (λ n. IsDone (named_view name (view_of old)) (txn_of old) (stmt.Insert table rs) after (answer.Number n))
      go (Ok n) leaves = insert_done (named_view name (view_of old)) old.txn old.tally seen keeps ready table rs n after (from-old n leaves)
      go (Err why) leaves = tt

  pub insert_refuses : IfErr r (λ why. why ≢ Memory → insertion mid.tally.weight (work_of seen) table rs ≡ Refuse (answer_of why))
      → IfErr r (λ why. why ≢ Memory → IsRefused (named_view name (view_of old)) (txn_of old) (stmt.Insert table rs) why)
  insert_refuses told = go r told
    where
      go : (q : Result ℕ TxnNo) → IfErr q (λ why. why ≢ Memory → insertion mid.tally.weight (work_of seen) table rs ≡ Refuse (answer_of why))
          → IfErr q (λ why. why ≢ Memory → IsRefused (named_view name (view_of old)) (txn_of old) (stmt.Insert table rs) why)
      go (Ok n) told = tt
      go (Err why) told = λ other. insert_refused (named_view name (view_of old)) old.txn old.tally seen keeps ready table rs why
          (ap (λ (m : ℕ). insertion m (work_of seen) table rs) (sym same-weight) ∙ told other)
