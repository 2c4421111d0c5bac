-- Lines that are answered one after the other.
use Rattle.std.proofs.Common.{◌≡◌, ◌≤◌, ℕ, ◌+◌, List, [], ◌∷◌, ◌++◌, Bool, true, false, cond, length, take, filter, length-append, Option, Some, None, refl, sym, ◌∙◌, ap, subst, append_assoc, arith}
use Rattle.std.proofs.Math.Seq.{take-append_seam}
use Rattle.std.proofs.lemmas.List.Elements.{filter-append}
use Rattle.lake_io.specs.Causes.{Rose}
use Rattle.lake_model.proofs.ReplayLemmas.{is-replay, lost-all}
use Rattle.lake_model.specs.Replay.{AreLosses, Lake, Line, LostWhereListed, lake_after, lost_in, IsReplay, replay_text, said, told}
use Rattle.lake_model.specs.declared.answer.Answer.{Answer}
use Rattle.lake_model.specs.declared.answer.Reply.{Reply}
use Rattle.file_disk.specs.Folder.{Changes, Folder}
use Rattle.session.proofs.StagingLemmas.{changes_none}
use Rattle.lake_model.specs.Calls.{Ground}
use Rattle.cat_view.specs.Files.{Files}
use Rattle.session.specs.declared.session.Session.{Session}
use Rattle.lake_top.specs.Desks.{Goes, Moment, moment}
use Rattle.lake_top.specs.Running.{IsRiseOf, Replays, Runs, is_disk, is_keeper, number_with, texts_of}
use Rattle.lake_top.specs.Sixteen.{IsSaid, reply_text}

-- ---- lines

pub said_as : (line : Line) (reply : Reply) (P Q : Lake → Type 0) → ((l : Lake) → P l → Q l) → (lake : Lake) → IsSaid line reply P lake → IsSaid line reply Q lake
said_as line reply P Q f lake s = record { lost = s.lost; is_text = s.is_text; may = s.may; text_is = s.text_is; now = f (said lake line s.lost).lake s.now }

pub runs_one : (line : Line) (reply : Reply) (after : Lake → Type 0) (lake : Lake) → IsSaid line reply after lake → Runs (line ∷ []) (reply ∷ []) after lake
runs_one line reply after lake s = said_as line reply after (Runs [] [] after) (λ l h. h) lake s

pub runs_then : (lines : List Line) (replies : List Reply) (more : List Line) (rest : List Reply) (mid after : Lake → Type 0) (lake : Lake)
    → Runs lines replies mid lake → ((l : Lake) → mid l → Runs more rest after l) → Runs (lines ++ more) (replies ++ rest) after lake
runs_then [] [] more rest mid after lake h f = f lake h
runs_then [] (reply ∷ replies) more rest mid after lake h f = absurd h
runs_then (line ∷ lines) [] more rest mid after lake h f = absurd h
runs_then (line ∷ lines) (reply ∷ replies) more rest mid after lake h f =
    said_as line reply (Runs lines replies mid) (Runs (lines ++ more) (replies ++ rest) after) (λ l r. runs_then lines replies more rest mid after l r f) lake h

-- the first of them, with the same number of replies
pub runs_first : (lines : List Line) (replies : List Reply) (more : List Line) (rest : List Reply) (after : Lake → Type 0) (lake : Lake)
    → length lines ≡ length replies → Runs (lines ++ more) (replies ++ rest) after lake → Runs lines replies (Runs more rest after) lake
runs_first [] [] more rest after lake e h = h
runs_first [] (reply ∷ replies) more rest after lake e h = absurd (omega (arith, e))
runs_first (line ∷ lines) [] more rest after lake e h = absurd (omega (arith, e))
runs_first (line ∷ lines) (reply ∷ replies) more rest after lake e h =
    said_as line reply (Runs (lines ++ more) (replies ++ rest) after) (Runs lines replies (Runs more rest after)) (λ l r. runs_first lines replies more rest after l (omega (arith, e)) r) lake h

pub runs_as : (lines : List Line) (replies : List Reply) (P Q : Lake → Type 0) → ((l : Lake) → P l → Q l) → (lake : Lake) → Runs lines replies P lake → Runs lines replies Q lake
runs_as [] [] P Q f lake h = f lake h
runs_as [] (reply ∷ replies) P Q f lake h = absurd h
runs_as (line ∷ lines) [] P Q f lake h = absurd h
runs_as (line ∷ lines) (reply ∷ replies) P Q f lake h = said_as line reply (Runs lines replies P) (Runs lines replies Q) (runs_as lines replies P Q f) lake h

-- ---- their text

pub texts_then : (lines : List Line) (replies : List Reply) (more : List Line) (rest : List Reply) → length lines ≡ length replies → texts_of (lines ++ more) (replies ++ rest) ≡ texts_of lines replies ++ texts_of more rest
texts_then [] [] more rest e = refl
texts_then [] (reply ∷ replies) more rest e = absurd (omega (arith, e))
texts_then (line ∷ lines) [] more rest e = absurd (omega (arith, e))
texts_then (line ∷ lines) (reply ∷ replies) more rest e =
    ap (λ t. reply_text line reply ++ t) (texts_then lines replies more rest (omega (arith, e))) ∙ sym (append_assoc (reply_text line reply) (texts_of lines replies) (texts_of more rest))

record Ran (lines : List Line) (replies : List Reply) (after : Lake → Type 0) (lake : Lake) : Type 0 where
  lost : List (Option (List ℕ))
  are : AreLosses lines lost
  listed : LostWhereListed lake lines lost
  text_is : texts_of lines replies ≡ replay_text lake lines lost
  now : after (lake_after lake lines lost)

ran : (lines : List Line) (replies : List Reply) (after : Lake → Type 0) (lake : Lake) → Runs lines replies after lake → Ran lines replies after lake
ran [] [] after lake h = record { lost = []; are = tt; listed = tt; text_is = refl; now = h }
ran [] (reply ∷ replies) after lake h = absurd h
ran (line ∷ lines) [] after lake h = absurd h
ran (line ∷ lines) (reply ∷ replies) after lake s =
    let r = ran lines replies after (said lake line s.lost).lake s.now in
    record {
      lost = s.lost ∷ r.lost;
      are = (s.is_text, r.are);
      listed = (s.may, r.listed);
      text_is = ap (λ t. t ++ texts_of lines replies) s.text_is ∙ ap (λ t. told line (said lake line s.lost) ++ t) r.text_is;
      now = r.now;
    }

pub replays : (lines : List Line) (replies : List Reply) (after : Lake → Type 0) (lake : Lake) → Runs lines replies after lake → Replays lines (texts_of lines replies) after lake
replays lines replies after lake h =
    let r = ran lines replies after lake h in
    let lost : lost_in (texts_of lines replies) ≡ r.lost = ap lost_in r.text_is ∙ lost-all lake lines r.lost r.are in
    record {
      replay = subst (IsReplay lake lines) (sym r.text_is) (is-replay lake lines r.lost r.are r.listed);
      now = subst (λ l. after (lake_after lake lines l)) (sym lost) r.now;
    }

-- ---- counts

pub rise_none : (a : ℕ) → IsRiseOf 0 a a
rise_none a = record { later = omega arith; rise = omega arith }

pub rise_then : (m n a b c : ℕ) → IsRiseOf m a b → IsRiseOf n b c → IsRiseOf (m + n) a c
rise_then m n a b c p q = record { later = omega (arith, p.later, q.later); rise = omega (arith, p.rise, q.rise, p.later, q.later) }

rise_if : (t : Bool) (a b : ℕ) → a ≤ b → (t ≡ true → Rose a b) → (reply : Reply) → IsRiseOf (length (cond t (reply ∷ []) [])) a b
rise_if true a b later rose reply = let up : Rose a b = rose refl in record { later = later; rise = omega (arith, up) }
rise_if false a b later rose reply = record { later = later; rise = omega (arith, later) }

pub rise_one : (is : Answer → Bool) (reply : Reply) (a b : ℕ) → a ≤ b → (is reply.last ≡ true → Rose a b) → IsRiseOf (number_with is (reply ∷ [])) a b
rise_one is reply a b later rose = rise_if (is reply.last) a b later rose reply

number_then : (is : Answer → Bool) (x y : List Reply) → number_with is x + number_with is y ≡ number_with is (x ++ y)
number_then is x y = sym (ap length (filter-append (λ (r : Reply). is r.last) x y) ∙ length-append (filter (λ (r : Reply). is r.last) x) (filter (λ (r : Reply). is r.last) y))

-- ---- moments

pub changes_then : (P Q S : Folder → Folder → Type 0) → ((a b c : Folder) → P a b → Q b c → S a c) → (x y z : Option Folder) → Changes P x y → Changes Q y z → Changes S x z
changes_then P Q S f (Some a) (Some b) (Some c) p q = f a b c p q
changes_then P Q S f None None None p q = tt
changes_then P Q S f (Some a) None z p q = absurd p
changes_then P Q S f None (Some b) z p q = absurd p
changes_then P Q S f (Some a) (Some b) None p q = absurd q
changes_then P Q S f None None (Some c) p q = absurd q

pub goes_none : (a : Moment) → Goes a a [] []
goes_none a = record {
  runs = changes_none (λ folder folder'. (lake : Lake) → a.stood folder lake → Runs [] [] (a.stood folder') lake) (λ folder lake h. h) a.files;
  keeper = rise_none a.keeper_faults;
  disk = rise_none a.disk_faults;
}

pub goes_then : (a b c : Moment) (lines more : List Line) (replies rest : List Reply) → Goes a b lines replies → Goes b c more rest → Goes a c (lines ++ more) (replies ++ rest)
goes_then a b c lines more replies rest p q = record {
  runs = changes_then (λ folder folder'. (lake : Lake) → a.stood folder lake → Runs lines replies (b.stood folder') lake) (λ folder folder'. (lake : Lake) → b.stood folder lake → Runs more rest (c.stood folder') lake)
      (λ folder folder'. (lake : Lake) → a.stood folder lake → Runs (lines ++ more) (replies ++ rest) (c.stood folder') lake)
      (λ f g h r s lake stood. runs_then lines replies more rest (b.stood g) (c.stood h) lake (r lake stood) s) a.files b.files c.files p.runs q.runs;
  keeper = subst (λ n. IsRiseOf n a.keeper_faults c.keeper_faults) (number_then is_keeper replies rest) (rise_then (number_with is_keeper replies) (number_with is_keeper rest) a.keeper_faults b.keeper_faults c.keeper_faults p.keeper q.keeper);
  disk = subst (λ n. IsRiseOf n a.disk_faults c.disk_faults) (number_then is_disk replies rest) (rise_then (number_with is_disk replies) (number_with is_disk rest) a.disk_faults b.disk_faults c.disk_faults p.disk q.disk);
}

-- nothing is answered between two moments that differ by equal sessions alone
pub goes_same : {F : Type 0} (stands : Files → Ground → Type 0) (sessions sessions' : List (Session F)) (files : Option Folder) (k d : ℕ) → sessions' ≡ sessions → Goes (moment stands sessions files k d) (moment stands sessions' files k d) [] []
goes_same stands sessions sessions' files k d e = subst (λ s. Goes (moment stands sessions files k d) (moment stands s files k d) [] []) (sym e) (goes_none (moment stands sessions files k d))

-- the same between moments that have equal sessions
pub goes_as : {F : Type 0} (stands stands' : Files → Ground → Type 0) (s s' t t' : List (Session F)) (files files' : Option Folder) (k k' d d' : ℕ) (lines : List Line) (replies : List Reply) → s' ≡ s → t' ≡ t
    → Goes (moment stands s files k d) (moment stands' t files' k' d') lines replies → Goes (moment stands s' files k d) (moment stands' t' files' k' d') lines replies
goes_as stands stands' s s' t t' files files' k k' d d' lines replies e f g =
    subst (λ x. Goes (moment stands x files k d) (moment stands' t' files' k' d') lines replies) (sym e) (subst (λ x. Goes (moment stands s files k d) (moment stands' x files' k' d') lines replies) (sym f) g)

-- as many elements as there were are written back
pub written_back : {X : Type 0} (new rest : List X) (len : ℕ) → length new ≡ len → take len (new ++ rest) ≡ new
written_back new rest len e = ap (λ n. take n (new ++ rest)) (sym e) ∙ take-append_seam new rest
