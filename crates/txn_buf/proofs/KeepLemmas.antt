-- What a statement is answered, and what is kept afterwards.
use Rattle.std.proofs.Common.{◌≡◌, ◌≢◌, ◌≤◌, ◌<◌, ℕ, List, [], ◌∷◌, ◌++◌, refl, sym, ap, subst, ◌∙◌, true, false, arith}
use Rattle.std.specs.Prelude.{nat_le, Some, None, Result, Ok, Err, IfErr, IfOk, OnOk, OnErr}
use Rattle.std.specs.List.{AllByRecursion, list_any}
use Rattle.std.proofs.lemmas.List.Folds.{list_any-append}
use Rattle.lake_types.specs.declared.limits.TheConstants.{MAX_TXN_WEIGHT}
use Rattle.lake_types.specs.declared.stmt.Stmt.{Stmt}
use Rattle.lake_model.specs.Apply.{Work, changed, worked}
use Rattle.lake_model.specs.Fits.{Fits}
use Rattle.lake_model.specs.Growth.{IsGrowth}
use Rattle.lake_model.specs.Plans.{Plan, Append, Leave, Refuse}
use Rattle.lake_model.specs.Rows.{change_weight, own_weight}
use Rattle.lake_model.specs.State.{State}
use Rattle.lake_model.specs.Step.{compacts, is_compaction, plan_in, plan_of}
use Rattle.lake_model.specs.declared.answer.Answer.{Answer}
use Rattle.lake_model.specs.declared.answer.Answer.TheVariants as answer
use Rattle.lake_model.specs.declared.change.Change.{Change}
use Rattle.lake_model.specs.declared.change.Txn.{Txn}
use Rattle.cat_view.specs.Named.{NamedVersion}
use Rattle.cat_view.specs.Views.{named_view}
use Rattle.txn_buf.specs.Base.{IsBase}
use Rattle.txn_buf.specs.Drafts.{bare, begun_in, work_of}
use Rattle.txn_buf.specs.Keeping.{IsReady, IsSeen, Keeps, tally_of, txn_of, view_of}
use Rattle.txn_buf.specs.Turns.{IsDone, IsRefused, StandsFor, answer_of}
use Rattle.txn_buf.specs.declared.buffer.TxnBuf.{TxnBuf}
use Rattle.txn_buf.specs.declared.no.TxnNo.{TxnNo}
use Rattle.txn_buf.specs.declared.no.TxnNo.TheVariants.{Memory}
use Rattle.txn_buf.specs.declared.seen.Seen.{Seen}
use Rattle.txn_buf.specs.declared.tally.Tally.{Tally}
use Rattle.txn_buf.specs.Sizes.{IsSizedStmt}
use Rattle.txn_buf.proofs.ListLemmas.{IsGrowing, IsListed, listed}
use Rattle.txn_buf.proofs.TurnLemmas.{begun-is, seen-more, weight-more}

-- ---- what is planned

module _ (base : State) (own : List Change) (x : Stmt) (alone : compacts x ≡ false) (unmixed : list_any is_compaction own ≡ false) where
  pub plans-append : (c : Change) (a : Answer) → plan_in base.next_catalog (worked base own) x ≡ Append c a → own_weight base (own ++ c ∷ []) ≤ MAX_TXN_WEIGHT
      → plan_of base own x ≡ Append c a
  plans-append c a e small =
      let room : nat_le (own_weight base (own ++ c ∷ [])) MAX_TXN_WEIGHT ≡ true = grind (arith, small) in
      rw (alone, unmixed, e, room) refl

  pub plans-large : (c : Change) (a : Answer) → plan_in base.next_catalog (worked base own) x ≡ Append c a → MAX_TXN_WEIGHT < own_weight base (own ++ c ∷ [])
      → plan_of base own x ≡ Refuse answer.TooLarge
  plans-large c a e large =
      let room : nat_le (own_weight base (own ++ c ∷ [])) MAX_TXN_WEIGHT ≡ false = grind (arith, large) in
      rw (alone, unmixed, e, room) refl

  pub plans-leave : (a : Answer) → plan_in base.next_catalog (worked base own) x ≡ Leave a → plan_of base own x ≡ Leave a
  plans-leave a e = rw (alone, unmixed, e) refl

  pub plans-refuse : (a : Answer) → plan_in base.next_catalog (worked base own) x ≡ Refuse a → plan_of base own x ≡ Refuse a
  plans-refuse a e = rw (alone, unmixed, e) refl

-- ---- before the first change, and later

pub ready_kept : (v : NamedVersion) (txn : Txn) (tally : Tally) (seen : Seen) → Keeps v txn.own tally → txn.read_only ≡ false → tally.compacts ≡ false → tally.seen ≡ Some seen → IsReady v txn seen
ready_kept v txn tally seen keeps writes unmixed is = record {
  writes = writes;
  unmixed = sym keeps.compacts ∙ unmixed;
  seen_is = λ base same. subst (IsSeen base txn.own) is (keeps.kept base same).seen;
}

pub ready_begun : (v : NamedVersion) (txn : Txn) (tally : Tally) (seen : Seen) → Keeps v txn.own tally → txn.read_only ≡ false → tally.compacts ≡ false → tally.seen ≡ None → work_of seen ≡ begun_in v
    → IsReady v txn seen
ready_begun v txn tally seen keeps writes unmixed none begun = record {
  writes = writes;
  unmixed = sym keeps.compacts ∙ unmixed;
  seen_is = λ base same.
      let empty : txn.own ≡ [] = subst (IsSeen base txn.own) none (keeps.kept base same).seen in
      begun ∙ begun-is v base same ∙ ap (λ own. bare (worked base own)) (sym empty);
}

-- no statement but a compaction is planned behind a compaction, and none at all where the transaction only reads
pub only_reads : (v : NamedVersion) (txn : Txn) (x : Stmt) (why : TxnNo) → txn.read_only ≡ true → answer_of why ≡ answer.ReadOnly → IsRefused v txn x why
only_reads v txn x why reads is = λ base same. rw (reads, is) refl

pub is_mixed : (v : NamedVersion) (txn : Txn) (tally : Tally) (x : Stmt) (why : TxnNo) → Keeps v txn.own tally → txn.read_only ≡ false → tally.compacts ≡ true → compacts x ≡ false → answer_of why ≡ answer.Mixed
    → IsRefused v txn x why
is_mixed v txn tally x why keeps writes mixed alone is = λ base same.
    let some : list_any is_compaction txn.own ≡ true = sym keeps.compacts ∙ mixed in
    rw (writes, alone, some, is) refl

-- ---- a statement that is planned over what is kept

-- its plan doesn't depend on rows
abbrev pub PlansAlike : Stmt → Type 0
PlansAlike x = (next : ℕ) (w : Work) → plan_in next (bare w) x ≡ plan_in next w x

-- over any counter
abbrev pub IsPlan : Seen → Stmt → Plan → Type 0
IsPlan seen x p = (next : ℕ) → plan_in next (work_of seen) x ≡ p

module _ (v : NamedVersion) (txn : Txn) (seen : Seen) (x : Stmt) (ready : IsReady v txn seen) (alone : compacts x ≡ false) (alike : PlansAlike x) where
  plan-here : (base : State) → IsBase v base → (p : Plan) → IsPlan seen x p → plan_in base.next_catalog (worked base txn.own) x ≡ p
  plan-here base same p is =
      sym (alike base.next_catalog (worked base txn.own)) ∙ ap (λ (w : Work). plan_in base.next_catalog w x) (sym (ready.seen_is base same)) ∙ is base.next_catalog

  pub refused : (why : TxnNo) → IsPlan seen x (Refuse (answer_of why)) → IsRefused v txn x why
  refused why is = λ base same.
      let plan = plans-refuse base txn.own x alone ready.unmixed (answer_of why) (plan-here base same (Refuse (answer_of why)) is) in
      rw ready.writes plan

  pub left : (a : Answer) → IsPlan seen x (Leave a) → IsDone v txn x txn.own a
  left a is = λ base same.
      let plan = plans-leave base txn.own x alone ready.unmixed a (plan-here base same (Leave a) is) in
      rw (ready.writes, plan) (refl, refl)

  pub large : (why : TxnNo) (c : Change) (a : Answer) → answer_of why ≡ answer.TooLarge → IsPlan seen x (Append c a)
      → ((base : State) → IsBase v base → MAX_TXN_WEIGHT < own_weight base (txn.own ++ c ∷ [])) → IsRefused v txn x why
  large why c a too is weighs = λ base same.
      let plan = plans-large base txn.own x alone ready.unmixed c a (plan-here base same (Append c a) is) (weighs base same) in
      rw (ready.writes, plan, too) refl

  pub done : (c : Change) (a : Answer) (after : List Change) → IsPlan seen x (Append c a) → after ≡ txn.own ++ c ∷ []
      → ((base : State) → IsBase v base → own_weight base (txn.own ++ c ∷ []) ≤ MAX_TXN_WEIGHT) → IsDone v txn x after a
  done c a after is more small = λ base same.
      let plan = plans-append base txn.own x alone ready.unmixed c a (plan-here base same (Append c a) is) (small base same) in
      rw (ready.writes, plan) (more, refl)

-- ---- what is kept afterwards

-- a change that makes no rows
abbrev pub IsWeightless : Change → Type 0
IsWeightless c = (w : Work) (before : List Change) → change_weight w before c ≡ 0

pub weighs-same : (v : NamedVersion) (own : List Change) (tally : Tally) (c : Change) → Keeps v own tally → IsWeightless c
    → (base : State) → IsBase v base → tally.weight ≡ own_weight base (own ++ c ∷ [])
weighs-same v own tally c keeps none base same =
    let weight = (keeps.kept base same).weight in
    let more = weight-more base own c in
    omega (arith, weight, more, none (worked base own) own)

pub keeps-more : (v : NamedVersion) (txn : Txn) (old new : Tally) (seen later : Seen) (c : Change) (after : List Change) → Keeps v txn.own old → IsReady v txn seen
    → is_compaction c ≡ false → after ≡ txn.own ++ c ∷ [] → new.compacts ≡ old.compacts → new.weight ≤ MAX_TXN_WEIGHT → ((base : State) → IsBase v base → new.weight ≡ own_weight base (txn.own ++ c ∷ []))
    → new.seen ≡ Some later → work_of later ≡ bare (changed (work_of seen) c) → IsListed v after → Keeps v after new
keeps-more v txn old new seen later c after keeps ready plain is same_sort small weighs now work list =
    let compacts_is : list_any is_compaction (txn.own ++ c ∷ []) ≡ false = list_any-append is_compaction txn.own (c ∷ []) ∙ rw (ready.unmixed, plain) refl in
    rw is record {
      small = small;
      compacts = same_sort ∙ keeps.compacts ∙ ready.unmixed ∙ sym compacts_is;
      kept = λ base same. record {
        weight = weighs base same;
        seen = rw now (seen-more base txn.own c (work_of seen) (work_of later) (ready.seen_is base same) work);
      };
      sized = keeps.sized;
      growth = subst (AllByRecursion IsGrowth) is list.growth;
      fits = λ base same. subst (Fits base) is (list.fits base same);
    }

pub keeps-same : (v : NamedVersion) (txn : Txn) (old new : Tally) (seen later : Seen) (after : List Change) → Keeps v txn.own old → IsReady v txn seen → after ≡ txn.own
    → new.compacts ≡ old.compacts → new.weight ≡ old.weight → new.seen ≡ Some later → work_of later ≡ work_of seen → Keeps v after new
keeps-same v txn old new seen later after keeps ready is same_sort weighs now work =
    rw is record {
      small = subst (λ (n : ℕ). n ≤ MAX_TXN_WEIGHT) (sym weighs) keeps.small;
      compacts = same_sort ∙ keeps.compacts;
      kept = λ base same. record {
        weight = weighs ∙ (keeps.kept base same).weight;
        seen = rw now (work ∙ ready.seen_is base same);
      };
      sized = keeps.sized;
      growth = keeps.growth;
      fits = keeps.fits;
    }

-- ---- a call that adds a change which makes no rows, or refuses

module _ {F : Type 0} (name : F → List ℕ) (old mid : TxnBuf F) (seen : Seen) (c : Change) (after : List Change) (r : Result (Unit {0}) TxnNo)
    (keeps : StandsFor name old) (ready : IsReady (named_view name (view_of old)) (txn_of old) seen) (same_txn : txn_of mid ≡ txn_of old) (none : IsWeightless c) where
  pub stands : (later : Seen) → view_of mid ≡ view_of old → tally_of mid ≡ record (tally_of old) { seen = None } → is_compaction c ≡ false
      → OnOk r (after ≡ mid.txn.own ++ c ∷ []) → OnErr r (after ≡ mid.txn.own)
      → OnOk r (work_of later ≡ bare (changed (work_of seen) c)) → OnErr r (work_of later ≡ work_of seen) → IsListed (named_view name (view_of old)) after
      → Keeps (named_view name mid.view) after record { weight = mid.tally.weight; compacts = mid.tally.compacts; seen = Some later }
  stands later same_view taken plain added left work kept list = rw (same_view, taken) (go r added left work kept)
    where
      v : NamedVersion
      v = named_view name (view_of old)

      new : Tally
      new = record { weight = old.tally.weight; compacts = old.tally.compacts; seen = Some later }

      go : (q : Result (Unit {0}) TxnNo) → OnOk q (after ≡ mid.txn.own ++ c ∷ []) → OnErr q (after ≡ mid.txn.own)
          → OnOk q (work_of later ≡ bare (changed (work_of seen) c)) → OnErr q (work_of later ≡ work_of seen) → Keeps v after new
      go (Ok u) added left work kept = keeps-more v old.txn old.tally new seen later c after keeps ready plain (added ∙ ap (λ (t : Txn). t.own ++ c ∷ []) same_txn) refl keeps.small
          (weighs-same v old.txn.own old.tally c keeps none) refl work list
      go (Err why) added left work kept = keeps-same v old.txn old.tally new seen later after keeps ready (left ∙ ap (λ (t : Txn). t.own) same_txn) refl refl refl kept

  pub does : (x : Stmt) (p : Plan) (a : Answer) → compacts x ≡ false → PlansAlike x → IsPlan seen x p → OnOk r (p ≡ Append c a) → OnOk r (after ≡ mid.txn.own ++ c ∷ [])
      → OnOk r (IsDone (named_view name (view_of old)) (txn_of old) x after a)
  does x p a alone alike is plan added = go r plan added
    where
      v : NamedVersion
      v = named_view name (view_of old)

      small : (base : State) → IsBase v base → own_weight base (old.txn.own ++ c ∷ []) ≤ MAX_TXN_WEIGHT
      small base same = subst (λ (n : ℕ). n ≤ MAX_TXN_WEIGHT) (weighs-same v old.txn.own old.tally c keeps none base same) keeps.small

      go : (q : Result (Unit {0}) TxnNo) → OnOk q (p ≡ Append c a) → OnOk q (after ≡ mid.txn.own ++ c ∷ []) → OnOk q (IsDone v (txn_of old) x after a)
      go (Ok u) plan added = done v old.txn seen x ready alone alike c a after (λ next. is next ∙ plan) (added ∙ ap (λ (t : Txn). t.own ++ c ∷ []) same_txn) small
      go (Err why) plan added = tt

-- a call that is done, or refused with the list as it was, leaves a list that may be staged and committed
module _ {F T : Type 0} (name : F → List ℕ) (old mid : TxnBuf F) (after : List Change) (r : Result T TxnNo) (keeps : StandsFor name old) (same_txn : txn_of mid ≡ txn_of old)
    (x : Stmt) (grows : IsGrowing x) (sized : IsSizedStmt x) (left : OnErr r (after ≡ mid.txn.own)) where
  pub lists : (a : T → Answer) → IfOk r (λ n. IsDone (named_view name (view_of old)) (txn_of old) x after (a n)) → IsListed (named_view name (view_of old)) after
  lists a done = listed (named_view name (view_of old)) old.txn old.tally keeps x grows sized r after a done (go r left)
    where
      go : (q : Result T TxnNo) → OnErr q (after ≡ mid.txn.own) → OnErr q (after ≡ old.txn.own)
      go (Ok n) left = tt
      go (Err why) left = left ∙ ap (λ (t : Txn). t.own) same_txn

pub refuses : {F : Type 0} (name : F → List ℕ) (old : TxnBuf F) (seen : Seen) (r : Result (Unit {0}) TxnNo) → IsReady (named_view name (view_of old)) (txn_of old) seen
    → (x : Stmt) (p : Plan) → compacts x ≡ false → PlansAlike x → IsPlan seen x p → IfErr r (λ why. why ≢ Memory → p ≡ Refuse (answer_of why))
    → IfErr r (λ why. why ≢ Memory → IsRefused (named_view name (view_of old)) (txn_of old) x why)
refuses {F} name old seen r ready x p alone alike is told = go r told
  where
    go : (q : Result (Unit {0}) TxnNo) → IfErr q (λ why. why ≢ Memory → p ≡ Refuse (answer_of why)) → IfErr q (λ why. why ≢ Memory → IsRefused (named_view name (view_of old)) (txn_of old) x why)
    go (Ok u) told = tt
    go (Err why) told = λ other. refused (named_view name (view_of old)) old.txn seen x ready alone alike why (λ next. is next ∙ told other)
