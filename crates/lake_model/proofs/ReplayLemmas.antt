-- The text of a replay shows which lines it has lost.
use Rattle.std.proofs.Common.{◌≡◌, ℕ, List, [], ◌∷◌, ◌++◌, refl, ap, sym, subst, ◌∙◌, map}
use Rattle.std.specs.Prelude.{Option, Some, None}
use Rattle.lake_model.specs.Losses.{LossSort, loss_sort}
use Rattle.lake_model.specs.Replay.{AreLosses, IsLossText, IsReplay, IsStmt, IsTooLong, IsUnbuilt, IsWrongAt, Lake, Line, LostWhereListed, NoFeed, Saying, answer_in, lost_in, lost_of, lost_text, own_at, replay_text, said, said_to, sort_in, told}
use Rattle.lake_model.specs.Step.{step}
use Rattle.lake_model.specs.Texts.{answer_text, head_text, shown}
use Rattle.lake_model.specs.declared.answer.Answer.{Answer}
use Rattle.lake_model.specs.declared.answer.Answer.TheVariants as answer
use Rattle.lake_model.specs.declared.answer.Counter.TheVariants as counter
use Rattle.lake_model.proofs.LineLemmas.{answers-told, head-is, shown-feed}
use Rattle.lake_model.proofs.SpareLemmas.{step-spares}

-- ---- an answer's text is no row, and its sort is read off it

pub answer-no_row : (a : Answer) → answer_in (shown (answer_text a)) ≡ Some (shown (answer_text a))
answer-no_row answer.Done = refl
answer-no_row (answer.Number n) = refl
answer-no_row answer.TooLong = refl
answer-no_row answer.NotBuilt = refl
answer-no_row (answer.Syntax at) = refl
answer-no_row answer.InTransaction = refl
answer-no_row answer.NoTransaction = refl
answer-no_row answer.ReadOnly = refl
answer-no_row answer.Mixed = refl
answer-no_row (answer.NoSchema name) = refl
answer-no_row (answer.NoTable table) = refl
answer-no_row (answer.NoColumn name) = refl
answer-no_row (answer.NameUsed name) = refl
answer-no_row (answer.NotEmpty name) = refl
answer-no_row (answer.NotNull name) = refl
answer-no_row (answer.WrongType name) = refl
answer-no_row (answer.NoPromotion name) = refl
answer-no_row answer.LastColumn = refl
answer-no_row (answer.Arity want got) = refl
answer-no_row answer.ManyColumns = refl
answer-no_row answer.TooLarge = refl
answer-no_row (answer.Spent c) = refl
answer-no_row (answer.Conflict c) = refl
answer-no_row (answer.Pinned base) = refl
answer-no_row (answer.NotKept first head) = refl
answer-no_row answer.Disk = refl
answer-no_row answer.Keeper = refl
answer-no_row (answer.Damaged name) = refl
answer-no_row (answer.NameTaken name) = refl
answer-no_row answer.Memory = refl

pub sort-answer : (a : Answer) → sort_in (shown (answer_text a)) ≡ loss_sort a
sort-answer answer.Done = refl
sort-answer (answer.Number n) = refl
sort-answer answer.TooLong = refl
sort-answer answer.NotBuilt = refl
sort-answer (answer.Syntax at) = refl
sort-answer answer.InTransaction = refl
sort-answer answer.NoTransaction = refl
sort-answer answer.ReadOnly = refl
sort-answer answer.Mixed = refl
sort-answer (answer.NoSchema name) = refl
sort-answer (answer.NoTable table) = refl
sort-answer (answer.NoColumn name) = refl
sort-answer (answer.NameUsed name) = refl
sort-answer (answer.NotEmpty name) = refl
sort-answer (answer.NotNull name) = refl
sort-answer (answer.WrongType name) = refl
sort-answer (answer.NoPromotion name) = refl
sort-answer answer.LastColumn = refl
sort-answer (answer.Arity want got) = refl
sort-answer answer.ManyColumns = refl
sort-answer answer.TooLarge = refl
sort-answer (answer.Spent (counter.Row table)) = refl
sort-answer (answer.Spent (counter.Field table)) = refl
sort-answer (answer.Spent counter.Catalog) = refl
sort-answer (answer.Spent counter.File) = refl
sort-answer (answer.Spent counter.Snapshot) = refl
sort-answer (answer.Spent counter.History) = refl
sort-answer (answer.Conflict c) = refl
sort-answer (answer.Pinned base) = refl
sort-answer (answer.NotKept first head) = refl
sort-answer answer.Disk = refl
sort-answer answer.Keeper = refl
sort-answer (answer.Damaged name) = refl
sort-answer (answer.NameTaken name) = refl
sort-answer answer.Memory = refl

-- ---- what is said to one line shows whether it is lost

record Shows (last : List ℕ) (l : Option (List ℕ)) : Type 0 where
  lost : lost_text last ≡ l
  feed : NoFeed last
  answer : answer_in last ≡ Some last

answer-shows : (a : Answer) → loss_sort a ≡ None → Shows (shown (answer_text a)) None
answer-shows a h = record {
  lost = ap (λ o. lost_of o (shown (answer_text a))) (sort-answer a ∙ h);
  feed = shown-feed (answer_text a);
  answer = answer-no_row a;
}

saying-shows : (lake : Lake) (session : ℕ) (x : Saying) → Shows (said_to lake session x).last None
saying-shows lake session IsTooLong = answer-shows answer.TooLong refl
saying-shows lake session (IsWrongAt at) = answer-shows (answer.Syntax at) refl
saying-shows lake session IsUnbuilt = answer-shows answer.NotBuilt refl
saying-shows lake session (IsStmt x) =
    answer-shows (step lake.core (own_at lake.owns session) session x).reply.last (step-spares lake.core (own_at lake.owns session) session x)

said-shows : (lake : Lake) (line : Line) (l : Option (List ℕ)) → IsLossText l → Shows (said lake line l).last l
said-shows lake line None p = saying-shows lake line.session line.saying
said-shows lake line (Some t) p = record { lost = p.1; feed = p.0.0; answer = p.0.1 }

lost-first : (lake : Lake) (line : Line) (l : Option (List ℕ)) (rest : List ℕ) → IsLossText l → lost_in (told line (said lake line l) ++ rest) ≡ l ∷ lost_in rest
lost-first lake line l rest p =
    let x = said-shows lake line l p in
    ap (map lost_text) (answers-told (head_text line.session line.number) (said lake line l).rows (said lake line l).last rest (head-is line.session line.number) x.feed x.answer) ∙ ap (λ o. o ∷ lost_in rest) x.lost

pub lost-all : (lake : Lake) (lines : List Line) (lost : List (Option (List ℕ))) → AreLosses lines lost → lost_in (replay_text lake lines lost) ≡ lost
lost-all lake [] [] p = refl
lost-all lake [] (l ∷ lost) p = absurd p
lost-all lake (line ∷ lines) [] p = absurd p
lost-all lake (line ∷ lines) (l ∷ lost) p =
    lost-first lake line l (replay_text (said lake line l).lake lines lost) p.0 ∙ ap (λ m. l ∷ m) (lost-all (said lake line l).lake lines lost p.1)

pub is-replay : (lake : Lake) (lines : List Line) (lost : List (Option (List ℕ))) → AreLosses lines lost → LostWhereListed lake lines lost → IsReplay lake lines (replay_text lake lines lost)
is-replay lake lines lost p q = record {
  is_text = ap (replay_text lake lines) (sym (lost-all lake lines lost p));
  listed = subst (LostWhereListed lake lines) (sym (lost-all lake lines lost p)) q;
}

-- a lost answer's own text is one that a replay can show
pub answer-loss : (a : Answer) (s : LossSort) → loss_sort a ≡ Some s → IsLossText (Some (shown (answer_text a)))
answer-loss a s h = ((shown-feed (answer_text a), answer-no_row a), ap (λ o. lost_of o (shown (answer_text a))) (sort-answer a ∙ h))
