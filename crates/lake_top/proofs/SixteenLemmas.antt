-- Lines of a door and its sessions.
use Rattle.std.proofs.Common.{◌≡◌, ◌<◌, ◌+◌, ◌-◌, ℕ, List, [], ◌∷◌, Bool, true, false, true≢false, Option, Some, None, refl, sym, ◌∙◌, ap, subst, length, arith}
use Rattle.std.proofs.lemmas.List.{get_or-map, map-set, set-get_or}
use Rattle.std.specs.Prelude.{slice_index_or, slice_set}
use Rattle.lake_types.specs.declared.stmt.Stmt.{Stmt}
use Rattle.lake_model.proofs.ReplayLemmas.{answer-loss, sort-answer}
use Rattle.lake_model.specs.Calls.{Ground}
use Rattle.lake_model.specs.Core.{Core, is_session}
use Rattle.lake_model.specs.History.{AreOthers, CarriedEntry, Legal, after}
use Rattle.lake_model.specs.Losses.{IsLost, LossSort, MayLose, loss_sort, turn}
use Rattle.lake_model.specs.Replay.{IsLossText, IsStmt, IsUnbuilt, Lake, Line, own_at, with_own}
use Rattle.lake_model.specs.Texts.{answer_text, shown}
use Rattle.lake_model.specs.declared.answer.Answer.{Answer}
use Rattle.lake_model.specs.declared.answer.Reply.{Reply}
use Rattle.lake_model.specs.declared.change.Change.{Change}
use Rattle.session.specs.Line.{Answers, IsAnswered, IsTurn, is_built}
use Rattle.session.specs.Line as line
use Rattle.file_disk.specs.Folder.{Changes, Folder}
use Rattle.session.proofs.StagingLemmas.{changes_as}
use Rattle.session.specs.Held.{own_of}
use Rattle.session.specs.declared.session.Session.{Session}
use Rattle.lake_top.specs.Sixteen.{IsSaid, StandsFor, line_of, owns_of, reply_text, saying_of}

-- where a door serves every session, nobody else enters
nobody : (serves : ℕ → Bool) → ((s : ℕ) → is_session s ≡ true → serves s ≡ true) → (g : Ground) (es : List CarriedEntry) → AreOthers serves es → Legal g es → es ≡ []
nobody serves all g [] others legal = refl
nobody serves all g (e ∷ es) others legal = absurd (true≢false (sym (all e.entry.session legal.0.named) ∙ others.0))

pub place-of : (session : ℕ) → is_session session ≡ true → (session - 1 + 1 ≡ session) × (session - 1 < 16)
place-of session h = (search arith, search arith)

-- a sort that may be lost has the text of its answer
lost-text : (core : Core) (own : List Change) (session : ℕ) (x : Stmt) (a : Answer) (s : Option LossSort) → loss_sort a ≡ s → MayLose core own session x s → IsLossText (Some (shown (answer_text a)))
lost-text core own session x a None e may = absurd may
lost-text core own session x a (Some s) e may = answer-loss a s e

module _ (serves : ℕ → Bool) (all : (s : ℕ) → is_session s ≡ true → serves s ≡ true) (session number : ℕ) (x : Stmt) (reply : Reply) (own own' : List Change) (owns owns' : List (List Change))
    (stands stands' : Ground → Type 0) (lake : Lake) (st : StandsFor stands owns lake) (mine : own ≡ own_at owns session) (theirs : owns' ≡ with_own owns session own')
    (a : Answers serves session x reply own own' stands' st.ground) where
  abbrev here : Line
  here = line_of session number x

  abbrev told-as : Line
  told-as = record { session = session; number = number; saying = IsStmt x }

  core : (after st.ground a.others).core ≡ lake.core
  core = ap (λ es. (after st.ground es).core) (nobody serves all st.ground a.others a.are_others a.legal) ∙ st.core_is

  own-is : own ≡ own_at lake.owns session
  own-is = mine ∙ ap (λ l. own_at l session) st.owns_are

  -- own lists afterwards, where the session's is this
  owns-are : (left : List Change) → own' ≡ left → owns' ≡ with_own lake.owns session left
  owns-are left e = theirs ∙ ap (λ l. with_own l session own') st.owns_are ∙ ap (with_own lake.owns session) e

  same-owns : own' ≡ own → owns' ≡ lake.owns
  same-owns e = owns-are (own_at lake.owns session) (e ∙ own-is) ∙ set-get_or lake.owns (session - 1) []

  stands-at : (core' : Core) (owns'' : List (List Change)) → a.ground.core ≡ core' → owns' ≡ owns'' → StandsFor stands' owns' (record { core = core'; owns = owns'' })
  stands-at core' owns'' c o = record { ground = a.ground; core_is = c; owns_are = o; stood = a.stood }

  abbrev Says : Type 0
  Says = IsSaid here reply (StandsFor stands' owns') lake

  said-turn : is_built x ≡ true → IsTurn lake.core own session x reply own' a.ground.core → Says
  said-turn built t = go t.lost t.may t.reply_is t.own_is t.core_is
    where
      saying : saying_of x ≡ IsStmt x
      saying = rw built refl

      is-here : told-as ≡ here
      is-here = ap (λ s. record { session = session; number = number; saying = s }) (sym saying)

      go : (lost : Option Answer) → IsLost lake.core own session x lost → reply ≡ (turn lake.core own session x lost).reply → own' ≡ (turn lake.core own session x lost).own
          → a.ground.core ≡ (turn lake.core own session x lost).core → Says
      go None may r w c = subst (λ (l : Line). IsSaid l reply (StandsFor stands' owns') lake) is-here (record {
        lost = None;
        is_text = tt;
        may = tt;
        text_is = ap (reply_text told-as) (r ∙ ap (λ o. (turn lake.core o session x None).reply) own-is);
        now = stands-at _ _ (c ∙ ap (λ o. (turn lake.core o session x None).core) own-is) (owns-are _ (w ∙ ap (λ o. (turn lake.core o session x None).own) own-is));
      })
      go (Some lost) may r w c = subst (λ (l : Line). IsSaid l reply (StandsFor stands' owns') lake) is-here (record {
        lost = Some (shown (answer_text lost));
        is_text = lost-text lake.core own session x lost (loss_sort lost) refl may;
        may = subst (MayLose lake.core (own_at lake.owns session) session x) (sym (sort-answer lost)) (subst (λ o. MayLose lake.core o session x (loss_sort lost)) own-is may);
        text_is = ap (reply_text told-as) r;
        now = stands-at _ _ c (same-owns w);
      })

  said-unbuilt : is_built x ≡ false → line.IsUnbuilt lake.core own reply own' a.ground.core → Says
  said-unbuilt unbuilt t =
      let saying : saying_of x ≡ IsUnbuilt = rw unbuilt refl in
      subst (λ (l : Line). IsSaid l reply (StandsFor stands' owns') lake) (ap (λ s. record { session = session; number = number; saying = s }) (sym saying)) (record {
        lost = None;
        is_text = tt;
        may = tt;
        text_is = ap (reply_text (record { session = session; number = number; saying = IsUnbuilt })) t.reply_is;
        now = stands-at _ _ t.core_is (same-owns t.own_is);
      })

  answered : IsAnswered (is_built x) lake.core own session x reply own' a.ground.core
  answered = subst (λ c. IsAnswered (is_built x) c own session x reply own' a.ground.core) core a.answered

  either : (b : Bool) → is_built x ≡ b → IsAnswered b lake.core own session x reply own' a.ground.core → Says
  either true e t = said-turn e t
  either false e t = said-unbuilt e t

  pub line_said : Says
  line_said = either (is_built x) refl answered

-- ---- a session's answer among sixteen

module _ {F : Type 0} where
  own_mine : (sessions : List (Session F)) (i : ℕ) (d : Session F) → i < length sessions → own_of (slice_index_or sessions i d) ≡ slice_index_or (owns_of sessions) i []
  own_mine sessions i d lt = sym (get_or-map own_of sessions i d [] lt)

  pub said_among : (serves : ℕ → Bool) → ((s : ℕ) → is_session s ≡ true → serves s ≡ true) → (session number n : ℕ) (x : Stmt) (reply : Reply) (sessions : List (Session F)) (d s' : Session F) (stands stands' : Folder → Ground → Type 0) (files files' : Option Folder)
      → session - 1 < length sessions → n ≡ session
      → Changes (λ f f'. (g : Ground) → stands f g → Answers serves n x reply (own_of (slice_index_or sessions (session - 1) d)) (own_of s') (stands' f') g) files files'
      → Changes (λ f f'. (lake : Lake) → StandsFor (stands f) (owns_of sessions) lake → IsSaid (line_of session number x) reply (StandsFor (stands' f') (owns_of (slice_set sessions (session - 1) s'))) lake) files files'
  said_among serves all session number n x reply sessions d s' stands stands' files files' lt e h =
      let own : List Change = own_of (slice_index_or sessions (session - 1) d) in
      changes_as (λ f f'. (g : Ground) → stands f g → Answers serves n x reply own (own_of s') (stands' f') g)
      (λ f f'. (lake : Lake) → StandsFor (stands f) (owns_of sessions) lake → IsSaid (line_of session number x) reply (StandsFor (stands' f') (owns_of (slice_set sessions (session - 1) s'))) lake)
      (λ f f' a lake st. line_said serves all session number x reply own (own_of s') (owns_of sessions) (owns_of (slice_set sessions (session - 1) s')) (stands f) (stands' f') lake st
      (own_mine sessions (session - 1) d lt) (map-set own_of sessions (session - 1) s') (subst (λ m. Answers serves m x reply own (own_of s') (stands' f') st.ground) e (a st.ground st.stood)))
      files files' h
