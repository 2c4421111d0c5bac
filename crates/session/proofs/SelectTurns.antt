-- The turn of a SELECT, by what it reads over what is open.
use Rattle.std.proofs.Common.{◌≡◌, ℕ, Bool, true, false, List, refl, sym, ◌∙◌, ap, subst, subst₂, rules}
use Rattle.std.specs.Prelude.{IfSome, Option, Some, None}
use Rattle.lake_types.specs.declared.pred.Pred.{Pred}
use Rattle.lake_types.specs.declared.stmt.Item.{Item}
use Rattle.lake_types.specs.declared.stmt.Stmt.{Stmt}
use Rattle.lake_types.specs.declared.stmt.Stmt.TheVariants as stmt
use Rattle.lake_types.specs.declared.stmt.TableName.{TableName}
use Rattle.lake_model.specs.Apply.{Work, worked}
use Rattle.lake_model.specs.Core.{Core, open_at, version_at}
use Rattle.lake_model.specs.Losses.{IsLost}
use Rattle.lake_model.specs.State.{State}
use Rattle.lake_model.specs.Step.{Step, only, refused, select, selection, step}
use Rattle.lake_model.specs.declared.answer.Answer.{Answer}
use Rattle.lake_model.specs.declared.answer.Answer.TheVariants as answer
use Rattle.lake_model.specs.declared.answer.Reply.{Reply}
use Rattle.lake_model.specs.declared.call.Open.{Open}
use Rattle.lake_model.specs.declared.change.Change.{Change}
use Rattle.lake_model.specs.declared.change.Txn.{Txn}
use Rattle.file_disk.specs.Folder.{Folder}
use Rattle.cat_view.specs.Files.{Files}
use Rattle.cat_view.specs.Named.{state_of}
use Rattle.cat_view.specs.Views.{named_view}
use Rattle.cat_view.specs.declared.version.View.{View}
use Rattle.row_files.specs.Folders.{files_of}
use Rattle.scan_exec.specs.Telling.{TellsView}
use Rattle.txn_buf.specs.Keeping.{tally_of, txn_of, view_of}
use Rattle.txn_buf.specs.declared.buffer.TxnBuf.{TxnBuf}
use Rattle.txn_buf.specs.declared.tally.Tally.{Tally}
use Rattle.door.specs.Opened.{Agrees, IsOpen, opened_of}
use Rattle.session.specs.Held.{AreGood, IsGood, opened_in}
use Rattle.session.specs.Line.{IsTurn}
use Rattle.session.specs.Select.{Failed, IsSelected, Told, Wanted, is_reading_fault}
use Rattle.session.specs.Turns.{IsTurnOver}
use Rattle.session.proofs.CountLemmas.{counted_selection}
use Rattle.session.proofs.LineLemmas.{none_open, step_turn, wants_memory}
use Rattle.session.proofs.TellLemmas.{tells_view}

-- ---- a SELECT whose selection is this one

module _ (core : Core) (own : List Change) (session : ℕ) (table : TableName) (items : List Item) (test : Option Pred) where
  abbrev asked : Stmt
  asked = stmt.Select table items test

  -- where rows would be told, a fault in reading may come
  late : (a : Answer) (n : ℕ) → is_reading_fault a ≡ true → (step core own session asked).reply.last ≡ answer.Number n → IsLost core own session asked (Some a)
  late answer.Disk n f h = rw h refl
  late (answer.Damaged name) n f h = rw h refl
  late answer.Done n f h = absurd (search (rules, f))
  late (answer.Number m) n f h = absurd (search (rules, f))
  late answer.TooLong n f h = absurd (search (rules, f))
  late answer.NotBuilt n f h = absurd (search (rules, f))
  late (answer.Syntax at) n f h = absurd (search (rules, f))
  late answer.InTransaction n f h = absurd (search (rules, f))
  late answer.NoTransaction n f h = absurd (search (rules, f))
  late answer.ReadOnly n f h = absurd (search (rules, f))
  late answer.Mixed n f h = absurd (search (rules, f))
  late (answer.NoSchema name) n f h = absurd (search (rules, f))
  late (answer.NoTable t) n f h = absurd (search (rules, f))
  late (answer.NoColumn name) n f h = absurd (search (rules, f))
  late (answer.NameUsed name) n f h = absurd (search (rules, f))
  late (answer.NotEmpty name) n f h = absurd (search (rules, f))
  late (answer.NotNull name) n f h = absurd (search (rules, f))
  late (answer.WrongType name) n f h = absurd (search (rules, f))
  late (answer.NoPromotion name) n f h = absurd (search (rules, f))
  late answer.LastColumn n f h = absurd (search (rules, f))
  late (answer.Arity want got) n f h = absurd (search (rules, f))
  late answer.ManyColumns n f h = absurd (search (rules, f))
  late answer.TooLarge n f h = absurd (search (rules, f))
  late (answer.Spent c) n f h = absurd (search (rules, f))
  late (answer.Conflict c) n f h = absurd (search (rules, f))
  late (answer.Pinned base) n f h = absurd (search (rules, f))
  late (answer.NotKept first head) n f h = absurd (search (rules, f))
  late answer.Keeper n f h = absurd (search (rules, f))
  late (answer.NameTaken name) n f h = absurd (search (rules, f))
  late answer.Memory n f h = absurd (search (rules, f))

  selected_turn : (w : Work) (r : Reply) → step core own session asked ≡ record { core = core; own = own; reply = selection w table items test } → IsSelected w table items test r
      → IsTurn core own session asked r own core
  selected_turn w r is (Told h) =
      subst (λ q. IsTurn core own session asked q own core) (sym h)
      (step_turn core own session asked record { core = core; own = own; reply = selection w table items test } is)
  selected_turn w r is (Wanted h) = wants_memory core own session asked r own h refl
  selected_turn w r is (Failed a n f some h) = record {
    lost = Some a;
    may = late a n f (ap (λ (s : Step). s.reply.last) is ∙ some);
    reply_is = h;
    own_is = refl;
    core_is = refl;
  }

  -- nothing is open
  pub unopened_turn : (files : Files) (r : Reply) → Agrees files core (open_at core session) None → r ≡ only answer.NoTransaction → IsTurn core own session asked r own core
  unopened_turn files r agrees h =
      subst (λ q. IsTurn core own session asked q own core) (sym h)
      (step_turn core own session asked (refused core own answer.NoTransaction)
      (ap (select core own table items test) (none_open files core (open_at core session) agrees)))

-- ---- the selection of the core's state is that over the files

module _ {F : Type 0} (name : F → List ℕ) (size : F → ℕ) (bytes : F → Option (List ℕ)) (table : TableName) (items : List Item) (test : Option Pred) where
  same_selection : (view : View F) (txn : Txn) (tally : Tally) (files : Files) (core : Core) (o : Open) → AreGood name view txn tally → IsOpen files core o (opened_of name size bytes view)
      → (next : ℕ) × (selection (worked (version_at core o.base).state txn.own) table items test ≡ selection (worked (state_of files next (named_view name view)) txn.own) table items test)
  same_selection view txn tally files core o good is = go txn.read_only refl
    where
      go : (b : Bool) → txn.read_only ≡ b
          → (next : ℕ) × (selection (worked (version_at core o.base).state txn.own) table items test ≡ selection (worked (state_of files next (named_view name view)) txn.own) table items test)
      go true e = (
        0,
        subst (λ list. selection (worked (version_at core o.base).state list) table items test ≡ selection (worked (state_of files 0 (named_view name view)) list) table items test)
            (sym (good.unwritten e)) (counted_selection table items test (version_at core o.base).state (state_of files 0 (named_view name view)) (sym is.same)),
      )
      go false e = (
        (version_at core o.base).state.next_catalog,
        ap (λ (s : State). selection (worked s txn.own) table items test) (sym (is.whole (sym good.read_only ∙ e))),
      )

  -- what is open has its files in the folder
  open_turn : (view : View F) (txn : Txn) (tally : Tally) (folder : Folder) (session : ℕ) (r : Reply) → AreGood name view txn tally
      → ((next : ℕ) → TellsView name bytes folder view → IsSelected (worked (state_of (files_of folder) next (named_view name view)) txn.own) table items test r)
      → IsTurnOver (files_of folder) (Some (opened_of name size bytes view)) txn.own session (stmt.Select table items test) r txn.own
  open_turn view txn tally folder session r good selected core agrees = go (open_at core session) refl agrees
    where
      go : (o : Option Open) → open_at core session ≡ o → Agrees (files_of folder) core o (Some (opened_of name size bytes view))
          → IsTurn core txn.own session (stmt.Select table items test) r txn.own core
      go None e h = absurd h
      go (Some o) e h =
          let same = same_selection view txn tally (files_of folder) core o good h in
          let w = worked (state_of (files_of folder) same.0 (named_view name view)) txn.own in
          let steps : step core txn.own session (stmt.Select table items test) ≡ record { core = core; own = txn.own; reply = selection w table items test } =
          ap (select core txn.own table items test) e ∙ ap (λ (q : Reply). record { core = core; own = txn.own; reply = q }) same.1 in
          selected_turn core txn.own session table items test w r steps (selected same.0 (tells_view name size bytes folder view h.there))

  pub turn_selected : (buf : TxnBuf F) (view : View F) (txn : Txn) (folder : Option Folder) (session : ℕ) (r : Reply) → view ≡ view_of buf → txn ≡ txn_of buf → IsGood name buf
      → ((folder : Folder) (next : ℕ) → TellsView name bytes folder view → IsSelected (worked (state_of (files_of folder) next (named_view name view)) txn.own) table items test r)
      → IfSome folder (λ folder. IsTurnOver (files_of folder) (opened_in name size bytes (Some buf)) (txn_of buf).own session (stmt.Select table items test) r (txn_of buf).own)
  turn_selected buf view txn None session r of_view of_txn good selected = tt
  turn_selected buf view txn (Some folder) session r of_view of_txn good selected =
      open_turn (view_of buf) (txn_of buf) (tally_of buf) folder session r good
      (subst₂ (λ (v : View F) (t : Txn). (next : ℕ) → TellsView name bytes folder v → IsSelected (worked (state_of (files_of folder) next (named_view name v)) t.own) table items test r) of_view of_txn (selected folder))

  pub turn_unselected : (folder : Option Folder) (own : List Change) (session : ℕ) (r : Reply) → r ≡ only answer.NoTransaction
      → IfSome folder (λ folder. IsTurnOver (files_of folder) None own session (stmt.Select table items test) r own)
  turn_unselected None own session r h = tt
  turn_unselected (Some folder) own session r h = λ core agrees. unopened_turn core own session table items test (files_of folder) r agrees h
