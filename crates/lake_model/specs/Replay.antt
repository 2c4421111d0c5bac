-- What the counted lines of a script are answered, in their order, with the lost lines that the text shows.
use Rattle.std.specs.Prelude.{◌≡◌, ◌≢◌, ℕ, ◌-◌, ◌==◌, nat_eq, Bool, List, [], ◌∷◌, ◌++◌, codes, map, flat_map, replicate, slice_index_or, slice_set, Option, Some, None, if◌then◌else◌}
use Rattle.std.specs.List.{filter_map, starts_with}
use Rattle.std.specs.Cmp.Lexicographic.{pointwise}
use Rattle.lake_types.specs.declared.limits.TheConstants.{MAX_SESSIONS}
use Rattle.lake_types.specs.declared.stmt.Stmt.{Stmt}
use Rattle.lake_model.specs.Core.{Core, new_core}
use Rattle.lake_model.specs.Losses.{LossSort, Memory, Disk, Keeper, Damaged, NameTaken, Spent, SpentHistory, MayLose}
use Rattle.lake_model.specs.Step.{Step, step}
use Rattle.lake_model.specs.Texts.{answer_text, head_text, printed, printed_row, shown}
use Rattle.lake_model.specs.declared.answer.Answer.TheVariants as answer
use Rattle.lake_model.specs.declared.change.Change.{Change}

-- ---- the lake: the core, and the own list of each session

pub record Lake : Type 0 where
  pub core : Core
  pub owns : List (List Change)

abbrev pub new_lake : Lake
new_lake = record { core = new_core; owns = replicate MAX_SESSIONS [] }

abbrev pub own_at : List (List Change) → ℕ → List Change
own_at owns session = slice_index_or owns (session - 1) []

abbrev pub with_own : List (List Change) → ℕ → List Change → List (List Change)
with_own owns session own = slice_set owns (session - 1) own

-- ---- lines

-- what a line says: it is too long, stops being a line at a place, or is a statement, which may be one that isn't built yet
pub data Saying : Type 0 where
  IsTooLong : Saying
  IsWrongAt : ℕ → Saying
  IsUnbuilt : Saying
  IsStmt : Stmt → Saying

-- a counted line: its session, or 0, and its number within the session
pub record Line : Type 0 where
  pub session : ℕ
  pub number : ℕ
  pub saying : Saying

-- what is answered to a line: the rows, and the answer as it is printed
pub record Said : Type 0 where
  pub lake : Lake
  pub rows : List (List ℕ)
  pub last : List ℕ

abbrev pub said_only : Lake → List ℕ → Said
said_only lake text = record { lake = lake; rows = []; last = text }

abbrev pub stepped : Lake → ℕ → Step → Said
stepped lake session s = record {
  lake = record { core = s.core; owns = with_own lake.owns session s.own };
  rows = s.reply.rows;
  last = shown (answer_text s.reply.last);
}

abbrev pub said_to : Lake → ℕ → Saying → Said
said_to lake session IsTooLong = said_only lake (shown (answer_text answer.TooLong))
said_to lake session (IsWrongAt at) = said_only lake (shown (answer_text (answer.Syntax at)))
said_to lake session IsUnbuilt = said_only lake (shown (answer_text answer.NotBuilt))
said_to lake session (IsStmt x) = stepped lake session (step lake.core (own_at lake.owns session) session x)

-- a lost line has its text alone and changes nothing
abbrev pub said : Lake → Line → Option (List ℕ) → Said
said lake line None = said_to lake line.session line.saying
said lake line (Some text) = said_only lake text

abbrev pub told_under : List ℕ → Said → List ℕ
told_under head s = flat_map (printed_row head) s.rows ++ printed head s.last

abbrev pub told : Line → Said → List ℕ
told line s = told_under (head_text line.session line.number) s

-- ---- all lines in order, and for each the text of its loss, or none; past the end of the losses none is lost

abbrev pub replay_text : Lake → List Line → List (Option (List ℕ)) → List ℕ
replay_text lake [] lost = []
replay_text lake (line ∷ lines) [] = told line (said lake line None) ++ replay_text (said lake line None).lake lines []
replay_text lake (line ∷ lines) (l ∷ lost) = told line (said lake line l) ++ replay_text (said lake line l).lake lines lost

-- the lake behind them
abbrev pub lake_after : Lake → List Line → List (Option (List ℕ)) → Lake
lake_after lake [] lost = lake
lake_after lake (line ∷ lines) [] = lake_after (said lake line None).lake lines []
lake_after lake (line ∷ lines) (l ∷ lost) = lake_after (said lake line l).lake lines lost

-- at the end open transactions are rolled back without a reply
abbrev pub closed : Lake → Lake
closed lake = record { core = record lake.core { opens = replicate MAX_SESSIONS None }; owns = replicate MAX_SESSIONS [] }

-- ---- which lines are lost is read off the text

-- the lines that a line feed ends, without it
abbrev pub onto_first_line : ℕ → List (List ℕ) → List (List ℕ)
onto_first_line b [] = []
onto_first_line b (line ∷ lines) = (b ∷ line) ∷ lines

abbrev pub ended_lines : List ℕ → List (List ℕ)
ended_lines [] = []
ended_lines (b ∷ bytes) = if b == 10 then [] ∷ ended_lines bytes else onto_first_line b (ended_lines bytes)

-- no line feed stands among the bytes
abbrev pub NoFeed : List ℕ → Type 0
NoFeed [] = Unit {0}
NoFeed (b ∷ bytes) = (b ≢ 10) × NoFeed bytes

abbrev pub answer_in : List ℕ → Option (List ℕ)
answer_in text = if starts_with nat_eq text (codes "row ") then None else Some text

-- a head ends with the first space of its line
abbrev pub behind_head : List ℕ → List ℕ
behind_head [] = []
behind_head (b ∷ line) = if b == 32 then line else behind_head line

-- what stands behind the heads of a text's lines, but for the rows
abbrev pub answers_in : List ℕ → List (List ℕ)
answers_in text = filter_map (λ line. answer_in (behind_head line)) (ended_lines text)

abbrev pub is : List ℕ → List ℕ → Bool
is text words = pointwise nat_eq text words

abbrev pub begins : List ℕ → List ℕ → Bool
begins text words = starts_with nat_eq text words

-- the sort of a lost answer
abbrev pub spent_sort_in : List ℕ → Option LossSort
spent_sort_in t =
    if is t (codes "spent history") then Some SpentHistory
    else (if is t (codes "spent field") then None
    else (if begins t (codes "spent ") then Some Spent else None))

abbrev pub named_sort_in : List ℕ → Option LossSort
named_sort_in t =
    if begins t (codes "damaged ") then Some Damaged
    else (if begins t (codes "name taken ") then Some NameTaken else spent_sort_in t)

abbrev pub sort_in : List ℕ → Option LossSort
sort_in t =
    if is t (codes "no memory") then Some Memory
    else (if is t (codes "! disk") then Some Disk
    else (if is t (codes "! keeper") then Some Keeper else named_sort_in t))

abbrev pub lost_of : Option LossSort → List ℕ → Option (List ℕ)
lost_of None t = None
lost_of (Some s) t = Some t

abbrev pub lost_text : List ℕ → Option (List ℕ)
lost_text t = lost_of (sort_in t) t

abbrev pub lost_in : List ℕ → List (Option (List ℕ))
lost_in text = map lost_text (answers_in text)

-- ---- each lost line is lost where its sort may be; a line that is no statement only for want of memory

abbrev pub MayLoseSaying : Lake → ℕ → Saying → Option LossSort → Type 0
MayLoseSaying lake session (IsStmt x) sort = MayLose lake.core (own_at lake.owns session) session x sort
MayLoseSaying lake session saying (Some Memory) = Unit {0}
MayLoseSaying lake session saying sort = ⊥

abbrev pub MayBe : Lake → Line → Option (List ℕ) → Type 0
MayBe lake line None = Unit {0}
MayBe lake line (Some text) = MayLoseSaying lake line.session line.saying (sort_in text)

abbrev pub LostWhereListed : Lake → List Line → List (Option (List ℕ)) → Type 0
LostWhereListed lake [] lost = Unit {0}
LostWhereListed lake (line ∷ lines) [] = Unit {0}
LostWhereListed lake (line ∷ lines) (l ∷ lost) = MayBe lake line l × LostWhereListed (said lake line l).lake lines lost

-- the text is that of the replay, with the losses that it shows, each where it may be
pub record IsReplay (lake : Lake) (lines : List Line) (text : List ℕ) : Type 0 where
  pub is_text : text ≡ replay_text lake lines (lost_in text)
  pub listed : LostWhereListed lake lines (lost_in text)

-- ---- orders: sessions side by side have their lines in an order that keeps each session's

-- the lines of one session, in their order
abbrev pub of_session : ℕ → List Line → List Line
of_session session [] = []
of_session session (line ∷ lines) = if line.session == session then line ∷ of_session session lines else of_session session lines

-- the same lines, each session's in its order
abbrev pub ArrangesLines : List Line → List Line → Type 0
ArrangesLines lines order = (session : ℕ) → of_session session order ≡ of_session session lines

-- ---- losses that a text shows again

-- the text of an answer
abbrev pub IsAnswerText : Option (List ℕ) → Type 0
IsAnswerText None = Unit {0}
IsAnswerText (Some t) = NoFeed t × (answer_in t ≡ Some t)

-- as many losses as lines, each with a sort and the text of an answer
abbrev pub IsLossText : Option (List ℕ) → Type 0
IsLossText None = Unit {0}
IsLossText (Some t) = IsAnswerText (Some t) × (lost_text t ≡ Some t)

abbrev pub AreLosses : List Line → List (Option (List ℕ)) → Type 0
AreLosses [] [] = Unit {0}
AreLosses [] (l ∷ lost) = ⊥
AreLosses (line ∷ lines) [] = ⊥
AreLosses (line ∷ lines) (l ∷ lost) = IsLossText l × AreLosses lines lost
