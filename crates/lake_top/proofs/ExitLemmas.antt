-- What a run comes to, from its keeper and disk before it to those at its exit.
use Rattle.std.proofs.Common.{◌≡◌, ℕ, ◌≤◌, List, [], ◌++◌, take, drop, refl, arith, sym, append-nil, replicate, subst, ◌⊎◌, inl, inr}
use Rattle.std.specs.Prelude.{Option, Some, None, IfSome}
use Rattle.std.proofs.Math.Seq.{take-nil}
use Rattle.std.proofs.lemmas.List.{take-append-drop}
use Rattle.lake_io.specs.Told.{Takes, Gives, IsAtEnd}
use Rattle.lake_io.proofs.ToldLemmas.{Gives-nothing, Takes-nothing, Takes-then}
use Rattle.lake_types.specs.declared.limits.TheConstants.{MAX_SCRIPT_BYTES, MAX_SESSIONS}
use Rattle.file_disk.specs.Folder.{Changes, Folder}
use Rattle.cat_rows.specs.Tables.{Tables}
use Rattle.cat_stands.specs.Stands as stands
use Rattle.cat_view.specs.Files.{Files}
use Rattle.row_files.specs.Folders.{files_of}
use Rattle.lake_model.specs.Calls.{Ground}
use Rattle.lake_model.specs.Core.{Core}
use Rattle.lake_model.specs.Replay.{Lake, Line}
use Rattle.cat_core.specs.Shown.{InOrder, Shown}
use Rattle.cat_core.specs.Stands.{Stands}
use Rattle.recover.specs.declared.no.OpenNo.{OpenNo}
use Rattle.recover.specs.declared.no.OpenNo.TheVariants as open_no
use Rattle.session.proofs.StagingLemmas.{changes_as, changes_none}
use Rattle.session.specs.declared.session.Session.{Session}
use Rattle.lake_top.proofs.RunLemmas.{are_answered, halts_none}
use Rattle.lake_top.proofs.RunningLemmas.{changes_then, rise_none, runs_as}
use Rattle.lake_top.specs.Desks.{Moment, moment}
use Rattle.lake_top.specs.Opening.{IsLakeOf, WhyNotOpen}
use Rattle.lake_top.specs.Run.{Answered, AnsweredFront, AreAnswered, EndsWith, Halts, HasEnded, IsCoreOf, IsCutShort, IsLastLine, Outcome, UsageOutcome, exit_of, fresh_of, halt_line, left_of, refusal_line, refusal_status, start_of, status_of, usage_line}
use Rattle.lake_top.specs.Running.{IsRiseOf, Replays, Runs, is_disk, is_keeper, number_with}
use Rattle.lake_top.specs.Script.{lines_of, lines_within_most, script_lines}
use Rattle.lake_top.specs.Sixteen.{StandsFor, owns_of}
use Rattle.lake_top.specs.declared.halt.Halt.{Halt}
use Rattle.lake_top.specs.declared.halt.Halt.TheVariants as halt
use Rattle.lake_top.specs.declared.status.Status.{Status}
use Rattle.lake_top.specs.declared.status.Status.TheVariants as status

-- ---- moments before and after

-- a time that lies within another: what stood before it stood, and what it leaves is left
pub record IsWithin (first a b last : Moment) : Type 0 where
  pub before : Changes (λ folder folder'. (lake : Lake) → first.stood folder lake → a.stood folder' lake) first.files a.files
  pub after : Changes (λ folder folder'. (lake : Lake) → b.stood folder lake → last.stood folder' lake) b.files last.files
  pub keeper_before : first.keeper_faults ≤ a.keeper_faults
  pub keeper_after : b.keeper_faults ≤ last.keeper_faults
  pub disk_before : first.disk_faults ≤ a.disk_faults
  pub disk_after : b.disk_faults ≤ last.disk_faults

wide_rise : (n p a b q : ℕ) → p ≤ a → b ≤ q → IsRiseOf n a b → IsRiseOf n p q
wide_rise n p a b q before after r = record { later = omega (arith, before, after, r.later); rise = omega (arith, before, after, r.rise) }

replays_as : (lines : List Line) (out : List ℕ) (P Q : Lake → Type 0) → ((l : Lake) → P l → Q l) → (lake : Lake) → Replays lines out P lake → Replays lines out Q lake
replays_as lines out P Q f lake r = record { replay = r.replay; now = f _ r.now }

module _ (first a b last : Moment) (w : IsWithin first a b last) where
  abbrev wide : (lines more : List Line) (out : List ℕ) → AreAnswered a b lines more out → AreAnswered first last lines more out
  wide lines more out p = record {
    replies = p.replies;
    unwritten = p.unwritten;
    one = p.one;
    text_is = p.text_is;
    replay = changes_then (λ f g. (lake : Lake) → first.stood f lake → a.stood g lake) (λ f g. (lake : Lake) → a.stood f lake → Replays lines out (Runs more p.unwritten (last.stood g)) lake)
        (λ f g. (lake : Lake) → first.stood f lake → Replays lines out (Runs more p.unwritten (last.stood g)) lake) (λ f g h x y lake stood. y lake (x lake stood)) first.files a.files last.files w.before
        (changes_then (λ f g. (lake : Lake) → a.stood f lake → Replays lines out (Runs more p.unwritten (b.stood g)) lake) (λ f g. (lake : Lake) → b.stood f lake → last.stood g lake)
        (λ f g. (lake : Lake) → a.stood f lake → Replays lines out (Runs more p.unwritten (last.stood g)) lake)
        (λ f g h x y lake stood. replays_as lines out (Runs more p.unwritten (b.stood g)) (Runs more p.unwritten (last.stood h)) (runs_as more p.unwritten (b.stood g) (last.stood h) y) lake (x lake stood)) a.files b.files last.files p.replay w.after);
    keeper = wide_rise (number_with is_keeper (p.replies ++ p.unwritten)) first.keeper_faults a.keeper_faults b.keeper_faults last.keeper_faults w.keeper_before w.keeper_after p.keeper;
    disk = wide_rise (number_with is_disk (p.replies ++ p.unwritten)) first.disk_faults a.disk_faults b.disk_faults last.disk_faults w.disk_before w.disk_after p.disk;
  }

  pub wide_answered : (l m s t : Option (List ℕ)) (lines : List ℕ → List Line) (line : List ℕ) → Answered a b l m s t lines line → Answered first last l m s t lines line
  wide_answered l m s t lines line p = record { bytes = p.bytes; given = p.given; out = p.out; answered = wide (lines p.bytes) [] p.out p.answered; written = p.written }

  wide_cut : (l m s t : Option (List ℕ)) → IsCutShort a b l m s t → IsCutShort first last l m s t
  wide_cut l m s t p =
      let f = p.front in
      record {
        out = p.out;
        front = record { bytes = f.bytes; given = f.given; front = f.front; is_front = f.is_front; lines = f.lines; last = f.last; are = f.are; answered = wide f.lines f.last p.out f.answered };
        part = p.part;
        missing = p.missing;
        written = p.written;
        cut = p.cut;
      }

  wide_ended : (l m s t : Option (List ℕ)) (line : List ℕ) → HasEnded a b l m s t line → HasEnded first last l m s t line
  wide_ended l m s t line p =
      let f = p.front in
      record {
        out = p.out;
        front = record { bytes = f.bytes; given = f.given; front = f.front; is_front = f.is_front; lines = f.lines; last = f.last; are = f.are; answered = wide f.lines f.last p.out f.answered };
        kept = p.kept;
        written = p.written;
      }

  pub wide_halts : (x : Halt) (l m s t : Option (List ℕ)) → Halts x a b l m s t → Halts x first last l m s t
  wide_halts halt.Read l m s t p = wide_answered l m s t lines_of [] p
  wide_halts halt.Write l m s t p = wide_cut l m s t p
  wide_halts halt.Memory l m s t p = wide_ended l m s t [] p
  wide_halts halt.TooLong l m s t p = wide_answered l m s t lines_within_most [] p

-- ---- a door by itself, and its sessions

module _ {F : Type 0} (stood stood' : Files → Ground → Type 0) (sessions sessions' : List (Session F)) (files files' : Option Folder) (k k' d d' : ℕ) where
  pub door_within : owns_of sessions ≡ replicate MAX_SESSIONS [] → IsWithin (fresh_of stood files k d) (moment stood sessions files k d) (moment stood' sessions' files' k' d') (left_of stood' files' k' d')
  door_within owns = record {
    before = changes_none (λ f g. (lake : Lake) → StandsFor (stood (files_of f)) (replicate MAX_SESSIONS []) lake → StandsFor (stood (files_of g)) (owns_of sessions) lake)
        (λ f lake h. subst (λ o. StandsFor (stood (files_of f)) o lake) (sym owns) h) files;
    after = changes_none (λ f g. (lake : Lake) → StandsFor (stood' (files_of f)) (owns_of sessions') lake → IsCoreOf (stood' (files_of g)) lake)
        (λ f lake h. record { ground = h.ground; core_is = h.core_is; stood = h.stood }) files';
    keeper_before = omega arith;
    keeper_after = omega arith;
    disk_before = omega arith;
    disk_after = omega arith;
  }

-- a door that no session has begun at
pub door_unbegun : (stood : Files → Ground → Type 0) (files : Option Folder) (k d : ℕ) (l s : Option (List ℕ)) → Halts halt.Memory (fresh_of stood files k d) (left_of stood files k d) l l s s
door_unbegun stood files k d l s = halts_none (fresh_of stood files k d) (left_of stood files k d) l s (record {
  runs = changes_none (λ f g. (lake : Lake) → StandsFor (stood (files_of f)) (replicate MAX_SESSIONS []) lake → Runs [] [] (λ l. IsCoreOf (stood (files_of g)) l) lake)
      (λ f lake h. record { ground = h.ground; core_is = h.core_is; stood = h.stood }) files;
  keeper = rise_none k;
  disk = rise_none d;
})

-- ---- the core of a run

core_left : (content : Option Tables) (c : Shown) (files : Files) (lake : Lake) → InOrder content c → IsCoreOf (Stands c files) lake → IfSome content (λ rows. stands.StandsFor rows files lake.core.first lake.core.versions)
core_left None c files lake order h = tt
core_left (Some rows) c files lake order h =
    subst (λ t. stands.StandsFor t files lake.core.first lake.core.versions) (sym order.content) (inr (subst (λ (core : Core). stands.IsSound c.rows files core.first core.versions) h.core_is h.stood.sound))

pub core_within : (before after : Option Tables) (c c' : Shown) (files middle files' : Option Folder) (k k1 k2 d d1 d2 : ℕ) → InOrder after c' → k ≤ k1 → d ≤ d1
    → Changes (λ f g. (lake : Lake) → IsLakeOf before f lake → StandsFor (Stands c (files_of g)) (replicate MAX_SESSIONS []) lake) files middle
    → IsWithin (start_of before files k d) (fresh_of (Stands c) middle k1 d1) (left_of (Stands c') files' k2 d2) (exit_of after files' k2 d2)
core_within before after c c' files middle files' k k1 k2 d d1 d2 order kb db opened = record {
  before = opened;
  after = changes_none (λ f g. (lake : Lake) → IsCoreOf (Stands c' (files_of f)) lake → IfSome after (λ rows. stands.StandsFor rows (files_of g) lake.core.first lake.core.versions))
      (λ f lake h. core_left after c' (files_of f) lake order h) files';
  keeper_before = kb;
  keeper_after = omega arith;
  disk_before = db;
  disk_after = omega arith;
}

-- ---- the last line

takes-plain : (s t : Option (List ℕ)) (out : List ℕ) → Takes s t (out ++ []) → Takes s t out
takes-plain s t out h = subst (Takes s t) (append-nil out) h

takes-nothing : (n : ℕ) (t u : Option (List ℕ)) → Takes t u (take n []) → Takes t u []
takes-nothing n t u h = subst (Takes t u) (take-nil n) h

answered_last : (a b : Moment) (l m s t u : Option (List ℕ)) (lines : List ℕ → List Line) (line : List ℕ) → Answered a b l m s t lines [] → Takes t u line → Answered a b l m s u lines line
answered_last a b l m s t u lines line p h = record {
  bytes = p.bytes;
  given = p.given;
  out = p.out;
  answered = p.answered;
  written = Takes-then s t u p.out line (takes-plain s t p.out p.written) h;
}

-- a last line of which a front is written
cut_last : (a b : Moment) (l m s t u : Option (List ℕ)) (line out : List ℕ) (n : ℕ) → AnsweredFront a b l m out → Takes s t (out ++ []) → IsLastLine line → Takes t u (take n line) → IsCutShort a b l m s u
cut_last a b l m s t u line out n front w is last = record {
  out = out;
  front = front;
  part = take n line;
  missing = drop n line;
  written = Takes-then s t u out (take n line) (takes-plain s t out w) last;
  cut = inr (subst IsLastLine (sym (take-append-drop n line)) is);
}

-- all lines of these bytes are a front
whole_front : (a b : Moment) (l m : Option (List ℕ)) (bytes front back out : List ℕ) → Gives l m bytes → front ++ back ≡ bytes → AreAnswered a b (lines_of front) [] out → AnsweredFront a b l m out
whole_front a b l m bytes front back out g is p = record {
  bytes = bytes;
  given = g;
  front = front;
  is_front = inl (back, is);
  lines = lines_of front;
  last = [];
  are = sym (append-nil (lines_of front));
  answered = p;
}

cut_again : (a b : Moment) (l m s t u : Option (List ℕ)) → IsCutShort a b l m s t → Takes t u [] → IsCutShort a b l m s u
cut_again a b l m s t u p h = record {
  out = p.out;
  front = p.front;
  part = p.part;
  missing = p.missing;
  cut = p.cut;
  written = subst (Takes s u) (append-nil (p.out ++ p.part)) (Takes-then s t u (p.out ++ p.part) [] p.written h);
}

outcome_told : (x : Halt) (content : Option Tables) (a b : Moment) (l m s t u : Option (List ℕ)) → Halts x a b l m s t → Takes t u (halt_line x) → Outcome (status_of x) content a b l m s u
outcome_told halt.Read content a b l m s t u p h = answered_last a b l m s t u lines_of (halt_line halt.Read) p h
outcome_told halt.Write content a b l m s t u p h = cut_again a b l m s t u p h
outcome_told halt.Memory content a b l m s t u p h = record { out = p.out; front = p.front; kept = p.kept; written = Takes-then s t u p.out (halt_line halt.Memory) (takes-plain s t p.out p.written) h }
outcome_told halt.TooLong content a b l m s t u p h = answered_last a b l m s t u lines_within_most (halt_line halt.TooLong) p h

outcome_cut : (x : Halt) (n : ℕ) (a b : Moment) (l m s t u : Option (List ℕ)) → Halts x a b l m s t → Takes t u (take n (halt_line x)) → IsCutShort a b l m s u
outcome_cut halt.Read n a b l m s t u p h =
    cut_last a b l m s t u (halt_line halt.Read) p.out n (whole_front a b l m p.bytes p.bytes [] p.out p.given (append-nil p.bytes) p.answered) p.written (inl (halt.Read, refl)) h
outcome_cut halt.Write n a b l m s t u p h = cut_again a b l m s t u p (takes-nothing n t u h)
outcome_cut halt.Memory n a b l m s t u p h = cut_last a b l m s t u (halt_line halt.Memory) p.out n p.front p.written (inl (halt.Memory, refl)) h
outcome_cut halt.TooLong n a b l m s t u p h =
    cut_last a b l m s t u (halt_line halt.TooLong) p.out n (whole_front a b l m p.bytes (take MAX_SCRIPT_BYTES p.bytes) (drop MAX_SCRIPT_BYTES p.bytes) p.out p.given (take-append-drop MAX_SCRIPT_BYTES p.bytes) p.answered) p.written (inl (halt.TooLong, refl)) h

pub outcome_good : (r : Status) (content : Option Tables) (a b : Moment) (l m s t : Option (List ℕ)) → r ≡ status.Good → IsAtEnd m → Answered a b l m s t script_lines [] → Outcome r content a b l m s t
outcome_good r content a b l m s t e end p = subst (λ y. Outcome y content a b l m s t) (sym e) (end, p)

pub outcome_halt : (x : Halt) (r : Status) (content : Option Tables) (a b : Moment) (l m s t u : Option (List ℕ)) → Halts x a b l m s t → EndsWith (status_of x) (halt_line x) r t u → Outcome r content a b l m s u
outcome_halt x r content a b l m s t u p (inl (e, h)) = subst (λ y. Outcome y content a b l m s u) (sym e) (outcome_told x content a b l m s t u p h)
outcome_halt x r content a b l m s t u p (inr (e, (n, h))) = subst (λ y. Outcome y content a b l m s u) (sym e) (outcome_cut x n a b l m s t u p h)

pub outcome_usage : (r : Status) (s t : Option (List ℕ)) → EndsWith status.Usage usage_line r s t → UsageOutcome r s t
outcome_usage r s t (inl (e, h)) = subst (λ y. UsageOutcome y s t) (sym e) h
outcome_usage r s t (inr (e, h)) = subst (λ y. UsageOutcome y s t) (sym e) h

-- ---- a lake that isn't opened

nothing-front : (a b : Moment) (l : Option (List ℕ)) → AreAnswered a b [] [] [] → AnsweredFront a b l l []
nothing-front a b l p = record { bytes = []; given = Gives-nothing l; front = []; is_front = inl ([], refl); lines = []; last = []; are = refl; answered = p }

ended-nothing : (a b : Moment) (l s t : Option (List ℕ)) → AreAnswered a b [] [] [] → Takes s t (halt_line halt.Memory) → HasEnded a b l l s t (halt_line halt.Memory)
ended-nothing a b l s t p h = record {
  out = [];
  front = record { bytes = []; given = Gives-nothing l; front = []; is_front = inl ([], refl); lines = []; last = []; are = refl; answered = p };
  kept = record { before = []; piece = []; is = refl; small = omega arith; rest = []; more = refl };
  written = h;
}

refused_told : (why : OpenNo) (content : Option Tables) (a b : Moment) (l s t : Option (List ℕ)) → WhyNotOpen a.keeper_faults b.keeper_faults a.disk_faults b.disk_faults content a.files why → AreAnswered a b [] [] [] → Takes s t (refusal_line why)
    → Outcome (refusal_status why) content a b l l s t
refused_told open_no.KeeperFault content a b l s t c p h = record { why = open_no.KeeperFault; status_is = refl; cause = c; lake = p; unread = Gives-nothing l; written = h }
refused_told open_no.DiskFault content a b l s t c p h = record { why = open_no.DiskFault; status_is = refl; cause = c; lake = p; unread = Gives-nothing l; written = h }
refused_told (open_no.BadRow bad) content a b l s t c p h = record { why = open_no.BadRow bad; status_is = refl; cause = c; lake = p; unread = Gives-nothing l; written = h }
refused_told (open_no.FileMissing name) content a b l s t c p h = record { why = open_no.FileMissing name; status_is = refl; cause = c; lake = p; unread = Gives-nothing l; written = h }
refused_told (open_no.FileSize name want got) content a b l s t c p h = record { why = open_no.FileSize name want got; status_is = refl; cause = c; lake = p; unread = Gives-nothing l; written = h }
refused_told open_no.Memory content a b l s t c p h = ended-nothing a b l s t p h

refused_cut : (line : List ℕ) (n : ℕ) (content : Option Tables) (a b : Moment) (l s t : Option (List ℕ)) → AreAnswered a b [] [] [] → IsLastLine line → Takes s t (take n line) → Outcome status.WriteFault content a b l l s t
refused_cut line n content a b l s t p is h = cut_last a b l l s s t line [] n (nothing-front a b l p) (Takes-nothing s) is h

pub outcome_refused : (why : OpenNo) (r : Status) (content : Option Tables) (a b : Moment) (l s t : Option (List ℕ)) → WhyNotOpen a.keeper_faults b.keeper_faults a.disk_faults b.disk_faults content a.files why → AreAnswered a b [] [] []
    → EndsWith (refusal_status why) (refusal_line why) r s t ⊎ EndsWith status.Memory (halt_line halt.Memory) r s t → Outcome r content a b l l s t
outcome_refused why r content a b l s t c p (inl (inl (e, h))) = subst (λ y. Outcome y content a b l l s t) (sym e) (refused_told why content a b l s t c p h)
outcome_refused why r content a b l s t c p (inl (inr (e, (n, h)))) = subst (λ y. Outcome y content a b l l s t) (sym e) (refused_cut (refusal_line why) n content a b l s t p (inr (why, refl)) h)
outcome_refused why r content a b l s t c p (inr (inl (e, h))) = subst (λ y. Outcome y content a b l l s t) (sym e) (ended-nothing a b l s t p h)
outcome_refused why r content a b l s t c p (inr (inr (e, (n, h)))) = subst (λ y. Outcome y content a b l l s t) (sym e) (refused_cut (halt_line halt.Memory) n content a b l s t p (inl (halt.Memory, refl)) h)

exit_told : (content : Option Tables) (folder : Folder) (lake : Lake) → IsLakeOf content folder lake → IfSome content (λ rows. stands.StandsFor rows (files_of folder) lake.core.first lake.core.versions)
exit_told content folder lake is = subst (λ o. IfSome o (λ rows. stands.StandsFor rows (files_of folder) lake.core.first lake.core.versions)) (sym is.told) is.stands

pub refused_lake : (before after : Option Tables) (files files' : Option Folder) (k k' d d' : ℕ) → k ≤ k' → d ≤ d' → Changes (λ f g. (lake : Lake) → IsLakeOf before f lake → IsLakeOf after g lake) files files'
    → AreAnswered (start_of before files k d) (exit_of after files' k' d') [] [] []
refused_lake before after files files' k k' d d' kl dl h = are_answered (start_of before files k d) (exit_of after files' k' d') [] [] [] [] refl (omega arith) (record {
  runs = changes_as (λ f g. (lake : Lake) → IsLakeOf before f lake → IsLakeOf after g lake) (λ f g. (lake : Lake) → IsLakeOf before f lake → Runs [] [] (λ l. IfSome after (λ rows. stands.StandsFor rows (files_of g) l.core.first l.core.versions)) lake)
      (λ f g x lake stood. exit_told after g lake (x lake stood)) files files' h;
  keeper = record { later = kl; rise = omega (arith, kl) };
  disk = record { later = dl; rise = omega (arith, dl) };
})
