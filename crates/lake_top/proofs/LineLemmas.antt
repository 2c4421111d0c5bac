-- One line's turn.
use Rattle.std.proofs.Common.{◌≡◌, ◌≤◌, ◌⊎◌, inl, inr, ℕ, List, [], ◌∷◌, Bool, true, false, true≢false, length, Option, Some, None, refl, sym, ◌∙◌, ap, subst, append-nil, arith}
use Rattle.std.specs.Prelude.{Result, Ok, Err}
use Rattle.lake_types.specs.declared.stmt.Stmt.{Stmt}
use Rattle.lake_io.specs.Causes.{Rose}
use Rattle.file_disk.specs.Folder.{Changes}
use Rattle.lake_model.proofs.ReplayLemmas.{answer-loss}
use Rattle.lake_model.specs.Losses.{LossSort, MayLose, loss_sort}
use Rattle.lake_model.specs.Losses as loss
use Rattle.lake_model.specs.Replay.{IsStmt, IsTooLong, IsUnbuilt, IsWrongAt, Lake, Line, MayLoseSaying, Saying, own_at, said}
use Rattle.lake_model.specs.Step.{only}
use Rattle.lake_model.specs.Texts.{answer_text, shown}
use Rattle.lake_model.specs.declared.answer.Answer.{Answer}
use Rattle.lake_model.specs.declared.answer.Answer.TheVariants as answer
use Rattle.lake_model.specs.declared.answer.Reply.{Reply}
use Rattle.stmt_reader.specs.Lines.{answer_of, or_zero, session_at, session_named}
use Rattle.stmt_reader.specs.Values.{is_negative, magnitude, numbered as session_in, session_of}
use Rattle.stmt_reader.specs.declared.line.LineNo.{LineNo}
use Rattle.stmt_reader.specs.declared.line.LineNo.TheVariants as line_no
use Rattle.stmt_tokens.specs.Tokens.{number_first}
use Rattle.session.proofs.LineLemmas.{may_want}
use Rattle.session.proofs.StagingLemmas.{changes_as, changes_none}
use Rattle.lake_top.proofs.RunningLemmas.{rise_one, runs_one}
use Rattle.lake_top.specs.Desks.{Goes, LeavesOne, Leaves, Moment, Tells, TellsOne}
use Rattle.lake_top.specs.Running.{Runs, is_disk, is_keeper}
use Rattle.lake_top.specs.Script.{counted, counts_after, is_skipped, line_at, numbered, saying_in, shorn}
use Rattle.lake_top.specs.Sixteen.{IsSaid, line_of, reply_text, saying_of}

-- ---- lines that change nothing

-- an answer that no fault is, to a line that the plain lake answers so whatever its state
goes_still : (a : Moment) (line : Line) (reply : Reply) → ((after : Lake → Type 0) (lake : Lake) → after lake → IsSaid line reply after lake) → is_keeper reply.last ≡ false → is_disk reply.last ≡ false
    → Goes a a (line ∷ []) (reply ∷ [])
goes_still a line reply says k d = record {
  runs = changes_none (λ folder folder'. (lake : Lake) → a.stood folder lake → Runs (line ∷ []) (reply ∷ []) (a.stood folder') lake)
      (λ folder lake h. runs_one line reply (a.stood folder) lake (says (a.stood folder) lake h)) a.files;
  keeper = rise_one is_keeper reply a.keeper_faults a.keeper_faults (omega arith) (λ e. absurd (true≢false (sym e ∙ k)));
  disk = rise_one is_disk reply a.disk_faults a.disk_faults (omega arith) (λ e. absurd (true≢false (sym e ∙ d)));
}

says_saying : (line : Line) (x : Answer) → ((lake : Lake) → said lake line None ≡ record { lake = lake; rows = []; last = shown (answer_text x) }) → (after : Lake → Type 0) (lake : Lake) → after lake → IsSaid line (only x) after lake
says_saying line x e after lake h =
    record { lost = None; is_text = tt; may = tt; text_is = rw (e lake) refl; now = rw (e lake) h }

-- want of memory loses any line
may_want_saying : (lake : Lake) (session : ℕ) (x : Saying) → MayLoseSaying lake session x (Some loss.Memory)
may_want_saying lake session (IsStmt x) = may_want lake.core (own_at lake.owns session) session x
may_want_saying lake session IsTooLong = tt
may_want_saying lake session (IsWrongAt at) = tt
may_want_saying lake session IsUnbuilt = tt

says_memory : (line : Line) (after : Lake → Type 0) (lake : Lake) → after lake → IsSaid line (only answer.Memory) after lake
says_memory line after lake h = record {
  lost = Some (shown (answer_text answer.Memory));
  is_text = answer-loss answer.Memory loss.Memory refl;
  may = may_want_saying lake line.session line.saying;
  text_is = refl;
  now = h;
}

pub goes_memory : (a : Moment) (line : Line) (reply : Reply) → reply ≡ only answer.Memory → Goes a a (line ∷ []) (reply ∷ [])
goes_memory a line reply e = subst (λ r. Goes a a (line ∷ []) (r ∷ [])) (sym e) (goes_still a line (only answer.Memory) (says_memory line) refl refl)

-- what is read of a line is what it says
read-saying : (line : List ℕ) (r : Result (ℕ × Stmt) LineNo) → r ≡ answer_of line → (number : ℕ) → numbered number line ≡ record { session = session_at line; number = number; saying = saying_in r }
read-saying line r e number = ap (λ x. record { session = session_at line; number = number; saying = saying_in x }) (sym e)

pub goes_long : (a : Moment) (line : List ℕ) (session number : ℕ) (reply : Reply) → Err (line_no.TooLong session) ≡ answer_of line → reply ≡ only answer.TooLong → Goes a a (numbered number line ∷ []) (reply ∷ [])
goes_long a line session number reply e r =
    subst (λ l. Goes a a (l ∷ []) (reply ∷ [])) (sym (read-saying line (Err (line_no.TooLong session)) e number)) (subst (λ x. Goes a a (record { session = session_at line; number = number; saying = IsTooLong } ∷ []) (x ∷ [])) (sym r)
    (goes_still a (record { session = session_at line; number = number; saying = IsTooLong }) (only answer.TooLong) (says_saying (record { session = session_at line; number = number; saying = IsTooLong }) answer.TooLong (λ lake. refl)) refl refl))

pub goes_wrong : (a : Moment) (line : List ℕ) (session at number : ℕ) (reply : Reply) → Err (line_no.Syntax session at) ≡ answer_of line → reply ≡ only (answer.Syntax at) → Goes a a (numbered number line ∷ []) (reply ∷ [])
goes_wrong a line session at number reply e r =
    subst (λ l. Goes a a (l ∷ []) (reply ∷ [])) (sym (read-saying line (Err (line_no.Syntax session at)) e number)) (subst (λ x. Goes a a (record { session = session_at line; number = number; saying = IsWrongAt at } ∷ []) (x ∷ [])) (sym r)
    (goes_still a (record { session = session_at line; number = number; saying = IsWrongAt at }) (only (answer.Syntax at)) (says_saying (record { session = session_at line; number = number; saying = IsWrongAt at }) (answer.Syntax at) (λ lake. refl)) refl refl))

-- a statement's line
pub goes_said : (a b : Moment) (line : List ℕ) (session number : ℕ) (x : Stmt) (reply : Reply) → Ok (session, x) ≡ answer_of line → session ≡ session_at line → Goes a b (line_of session number x ∷ []) (reply ∷ []) → Goes a b (numbered number line ∷ []) (reply ∷ [])
goes_said a b line session number x reply e s g =
    subst (λ l. Goes a b (l ∷ []) (reply ∷ [])) (sym (read-saying line (Ok (session, x)) e number)) (subst (λ n. Goes a b (record { session = n; number = number; saying = saying_of x } ∷ []) (reply ∷ [])) s g)

-- ---- one statement

keeper-is : (a : Answer) → is_keeper a ≡ true → a ≡ answer.Keeper
keeper-is answer.Done h = absurd (true≢false (sym h))
keeper-is (answer.Number n) h = absurd (true≢false (sym h))
keeper-is answer.TooLong h = absurd (true≢false (sym h))
keeper-is answer.NotBuilt h = absurd (true≢false (sym h))
keeper-is (answer.Syntax at) h = absurd (true≢false (sym h))
keeper-is answer.InTransaction h = absurd (true≢false (sym h))
keeper-is answer.NoTransaction h = absurd (true≢false (sym h))
keeper-is answer.ReadOnly h = absurd (true≢false (sym h))
keeper-is answer.Mixed h = absurd (true≢false (sym h))
keeper-is (answer.NoSchema name) h = absurd (true≢false (sym h))
keeper-is (answer.NoTable table) h = absurd (true≢false (sym h))
keeper-is (answer.NoColumn name) h = absurd (true≢false (sym h))
keeper-is (answer.NameUsed name) h = absurd (true≢false (sym h))
keeper-is (answer.NotEmpty name) h = absurd (true≢false (sym h))
keeper-is (answer.NotNull name) h = absurd (true≢false (sym h))
keeper-is (answer.WrongType name) h = absurd (true≢false (sym h))
keeper-is (answer.NoPromotion name) h = absurd (true≢false (sym h))
keeper-is answer.LastColumn h = absurd (true≢false (sym h))
keeper-is (answer.Arity want got) h = absurd (true≢false (sym h))
keeper-is answer.ManyColumns h = absurd (true≢false (sym h))
keeper-is answer.TooLarge h = absurd (true≢false (sym h))
keeper-is (answer.Spent c) h = absurd (true≢false (sym h))
keeper-is (answer.Conflict c) h = absurd (true≢false (sym h))
keeper-is (answer.Pinned base) h = absurd (true≢false (sym h))
keeper-is (answer.NotKept first head) h = absurd (true≢false (sym h))
keeper-is answer.Disk h = absurd (true≢false (sym h))
keeper-is answer.Keeper h = refl
keeper-is (answer.Damaged name) h = absurd (true≢false (sym h))
keeper-is (answer.NameTaken name) h = absurd (true≢false (sym h))
keeper-is answer.Memory h = absurd (true≢false (sym h))

disk-is : (a : Answer) → is_disk a ≡ true → a ≡ answer.Disk
disk-is answer.Done h = absurd (true≢false (sym h))
disk-is (answer.Number n) h = absurd (true≢false (sym h))
disk-is answer.TooLong h = absurd (true≢false (sym h))
disk-is answer.NotBuilt h = absurd (true≢false (sym h))
disk-is (answer.Syntax at) h = absurd (true≢false (sym h))
disk-is answer.InTransaction h = absurd (true≢false (sym h))
disk-is answer.NoTransaction h = absurd (true≢false (sym h))
disk-is answer.ReadOnly h = absurd (true≢false (sym h))
disk-is answer.Mixed h = absurd (true≢false (sym h))
disk-is (answer.NoSchema name) h = absurd (true≢false (sym h))
disk-is (answer.NoTable table) h = absurd (true≢false (sym h))
disk-is (answer.NoColumn name) h = absurd (true≢false (sym h))
disk-is (answer.NameUsed name) h = absurd (true≢false (sym h))
disk-is (answer.NotEmpty name) h = absurd (true≢false (sym h))
disk-is (answer.NotNull name) h = absurd (true≢false (sym h))
disk-is (answer.WrongType name) h = absurd (true≢false (sym h))
disk-is (answer.NoPromotion name) h = absurd (true≢false (sym h))
disk-is answer.LastColumn h = absurd (true≢false (sym h))
disk-is (answer.Arity want got) h = absurd (true≢false (sym h))
disk-is answer.ManyColumns h = absurd (true≢false (sym h))
disk-is answer.TooLarge h = absurd (true≢false (sym h))
disk-is (answer.Spent c) h = absurd (true≢false (sym h))
disk-is (answer.Conflict c) h = absurd (true≢false (sym h))
disk-is (answer.Pinned base) h = absurd (true≢false (sym h))
disk-is (answer.NotKept first head) h = absurd (true≢false (sym h))
disk-is answer.Disk h = refl
disk-is answer.Keeper h = absurd (true≢false (sym h))
disk-is (answer.Damaged name) h = absurd (true≢false (sym h))
disk-is (answer.NameTaken name) h = absurd (true≢false (sym h))
disk-is answer.Memory h = absurd (true≢false (sym h))

pub goes_one : (a b : Moment) (line : Line) (reply : Reply) → Changes (λ folder folder'. (lake : Lake) → a.stood folder lake → IsSaid line reply (b.stood folder') lake) a.files b.files
    → a.keeper_faults ≤ b.keeper_faults → (reply.last ≡ answer.Keeper → Rose a.keeper_faults b.keeper_faults) → a.disk_faults ≤ b.disk_faults → (reply.last ≡ answer.Disk → Rose a.disk_faults b.disk_faults)
    → Goes a b (line ∷ []) (reply ∷ [])
goes_one a b line reply says k-later k d-later d = record {
  runs = changes_as (λ folder folder'. (lake : Lake) → a.stood folder lake → IsSaid line reply (b.stood folder') lake) (λ folder folder'. (lake : Lake) → a.stood folder lake → Runs (line ∷ []) (reply ∷ []) (b.stood folder') lake)
      (λ folder folder' h lake stood. runs_one line reply (b.stood folder') lake (h lake stood)) a.files b.files says;
  keeper = rise_one is_keeper reply a.keeper_faults b.keeper_faults k-later (λ e. k (keeper-is reply.last e));
  disk = rise_one is_disk reply a.disk_faults b.disk_faults d-later (λ e. d (disk-is reply.last e));
}

-- ---- sessions of lines

session-small : (o : Option ℕ) (negative : Bool) (n : ℕ) → session_in negative n ≡ o → or_zero o ≤ 16
session-small None negative n e = omega arith
session-small (Some m) true n e = grind (e, arith)
session-small (Some m) false n e = grind (e, arith)

named-small : (text : Option (List ℕ)) → session_named text ≤ 16
named-small None = omega arith
named-small (Some text) = session-small (session_of text) (is_negative text) (magnitude text) refl

pub session_at-small : (line : List ℕ) → session_at line ≤ 16
session_at-small line = named-small (number_first line)

-- ---- the text of a line

pub leaves_none : (a : Moment) (line : Line) (g : Goes a a [] []) → LeavesOne line a a
leaves_none a line g = record { last = []; unwritten = []; is_last = inl refl; goes = g }

pub leaves_one : (a b : Moment) (line : Line) (reply : Reply) → Goes a b (line ∷ []) (reply ∷ []) → LeavesOne line a b
leaves_one a b line reply g = record { last = line ∷ []; unwritten = reply ∷ []; is_last = inr refl; goes = g }

pub tells_one : (a b : Moment) (line : Line) (reply : Reply) (text : List ℕ) → Goes a b (line ∷ []) (reply ∷ []) → text ≡ reply_text line reply → TellsOne line text a b
tells_one a b line reply text g e = record { reply = reply; goes = g; text_is = e }

pub tells_skipped : (counts line short text : List ℕ) (a : Moment) → Goes a a [] [] → short ≡ shorn line → is_skipped short ≡ true → text ≡ [] → Tells counts line text counts a a
tells_skipped counts line short text a g s h e = record { lines = []; replies = []; same = refl; one = omega arith; tells = λ more. rw (sym s, h) refl; goes = g; text_is = e }

counted-one : (counts line short : List ℕ) (more : List (List ℕ)) → short ≡ shorn line → is_skipped short ≡ false → counted counts (line ∷ more) ≡ line_at counts short ∷ counted (counts_after counts short) more
counted-one counts line short more s h = rw (sym s, h) refl

pub tells_counted : (counts line short text counts' : List ℕ) (a b : Moment) → short ≡ shorn line → is_skipped short ≡ false → counts' ≡ counts_after counts short → TellsOne (line_at counts short) text a b → Tells counts line text counts' a b
tells_counted counts line short text counts' a b s h c t = record {
  lines = line_at counts short ∷ [];
  replies = t.reply ∷ [];
  same = refl;
  one = omega arith;
  tells = λ more. counted-one counts line short more s h ∙ ap (λ l. line_at counts short ∷ counted l more) (sym c);
  goes = t.goes;
  text_is = t.text_is ∙ sym (append-nil (reply_text (line_at counts short) t.reply));
}

pub leaves_counted : (counts line short : List ℕ) (a b : Moment) → short ≡ shorn line → is_skipped short ≡ false → LeavesOne (line_at counts short) a b → Leaves counts line a b
leaves_counted counts line short a b s h l = record { last = l.last; unwritten = l.unwritten; one = one l.last l.is_last; is_last = is l.last l.is_last; goes = l.goes }
  where
    one : (last : List Line) → (last ≡ []) ⊎ (last ≡ line_at counts short ∷ []) → length last ≤ 1
    one last (inl e) = rw e (omega arith)
    one last (inr e) = rw e (omega arith)

    is : (last : List Line) → (last ≡ []) ⊎ (last ≡ line_at counts short ∷ []) → (last ≡ []) ⊎ (counted counts (line ∷ []) ≡ last)
    is last (inl e) = inl e
    is last (inr e) = inr (counted-one counts line short [] s h ∙ sym e)
