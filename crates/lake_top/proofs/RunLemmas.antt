-- What a run has read and written.
use Rattle.std.proofs.Common.{◌≡◌, ℕ, ◌+◌, ◌≤◌, List, [], ◌∷◌, ◌++◌, length, take, refl, ap, arith, sym, ◌∙◌, append-nil, length-append, subst, inl, inr}
use Rattle.std.specs.Prelude.{Option}
use Rattle.std.proofs.Math.Seq.{take-append_seam}
use Rattle.lake_io.specs.Told.{Takes, Gives, IsAtEnd}
use Rattle.lake_io.proofs.ToldLemmas.{Takes-nothing, Gives-nothing, Gives-then}
use Rattle.lake_types.specs.declared.limits.TheConstants.{MAX_SCRIPT_BYTES}
use Rattle.lake_model.specs.Replay.{Lake, Line, NoFeed}
use Rattle.lake_model.specs.declared.answer.Reply.{Reply}
use Rattle.session.proofs.StagingLemmas.{changes_as}
use Rattle.lake_top.proofs.DeskLemmas.{answers_none, answers_then, lines-none, stops_then, subst2}
use Rattle.lake_top.proofs.RunningLemmas.{replays, runs_first}
use Rattle.lake_top.specs.Desks.{Answers, Goes, Moment, Stops}
use Rattle.lake_top.specs.Reading.{FinishHalts, Moves, StopsOff, TurnHalts}
use Rattle.lake_top.specs.Run.{Answered, AnsweredFront, AreAnswered, Halts, HasEnded, IsCutShort, IsFront, IsKept}
use Rattle.lake_top.specs.Running.{Replays, Runs, texts_of}
use Rattle.lake_top.specs.Script.{lines_from, lines_of, lines_within_most, no_counts, script_lines}
use Rattle.lake_top.specs.declared.desk.Desk.{Desk}
use Rattle.lake_top.specs.declared.desk.Stop.{Stop}
use Rattle.lake_top.specs.declared.desk.Stop.TheVariants as stop
use Rattle.lake_top.specs.declared.halt.Halt.{Halt}
use Rattle.lake_top.specs.declared.halt.Halt.TheVariants as halt

takes-last : (s t : Option (List ℕ)) (out : List ℕ) → Takes s t out → Takes s t (out ++ [])
takes-last s t out h = subst (Takes s t) (sym (append-nil out)) h

-- ---- answered lines

abbrev pub are_answered : (a b : Moment) (lines last : List Line) (replies unwritten : List Reply) → length lines ≡ length replies → length last ≤ 1 → Goes a b (lines ++ last) (replies ++ unwritten) → AreAnswered a b lines last (texts_of lines replies)
are_answered a b lines last replies unwritten same one g = record {
  replies = replies;
  unwritten = unwritten;
  one = one;
  text_is = refl;
  replay = changes_as (λ folder folder'. (lake : Lake) → a.stood folder lake → Runs (lines ++ last) (replies ++ unwritten) (b.stood folder') lake)
      (λ folder folder'. (lake : Lake) → a.stood folder lake → Replays lines (texts_of lines replies) (Runs last unwritten (b.stood folder')) lake)
      (λ f f' h lake stood. replays lines replies (Runs last unwritten (b.stood f')) lake (runs_first lines replies last unwritten (b.stood f') lake same (h lake stood))) a.files b.files g.runs;
  keeper = g.keeper;
  disk = g.disk;
}

module _ {F : Type 0} where
  -- ---- pieces

  pub moves_none : (d : Desk F) (a : Moment) (l s : Option (List ℕ)) → NoFeed d.pending.items → Moves d d a a 0 l l s s
  moves_none d a l s h = record { bytes = []; counts = refl; given = Gives-nothing l; answered = answers_none d a s h }

  pub moves_then : (d e f : Desk F) (a b c : Moment) (i n : ℕ) (l m o s t u : Option (List ℕ)) → Moves d e a b i l m s t → Moves e f b c n m o t u → Moves d f a c (i + n) l o s u
  moves_then d e f a b c i n l m o s t u p q = record {
    bytes = p.bytes ++ q.bytes;
    counts = length-append p.bytes q.bytes ∙ cc (p.counts, q.counts);
    given = Gives-then l m o p.bytes q.bytes p.given q.given;
    answered = answers_then d e f a b c p.bytes q.bytes s t u p.answered q.answered;
  }

  module _ (new : Desk F) (zero : new.counts.items ≡ no_counts) (empty : new.pending.items ≡ []) where
    lines-new : (bytes : List ℕ) → lines_of bytes ≡ lines_from new.counts.items (new.pending.items ++ bytes)
    lines-new bytes = ap (λ c. lines_from c bytes) (sym zero) ∙ ap (λ x. lines_from new.counts.items (x ++ bytes)) (sym empty)

    lines-are : (d : Desk F) (a b : Moment) (bytes : List ℕ) (s t : Option (List ℕ)) (p : Answers new d a b bytes s t) → lines_of bytes ≡ p.lines
    lines-are d a b bytes s t p =
        let none : lines_from d.counts.items (d.pending.items ++ []) ≡ [] = ap (lines_from d.counts.items) (append-nil d.pending.items) ∙ lines-none d.counts.items d.pending.items p.begun in
        lines-new bytes ∙ ap (λ x. lines_from new.counts.items (new.pending.items ++ x)) (sym (append-nil bytes)) ∙ p.carries [] ∙ ap (λ l. p.lines ++ l) none ∙ append-nil p.lines

    answered_whole : (d : Desk F) (a b : Moment) (bytes : List ℕ) (s t : Option (List ℕ)) (lines : List Line) → lines ≡ lines_of bytes → (p : Answers new d a b bytes s t) → AreAnswered a b lines [] (texts_of p.lines p.replies)
    answered_whole d a b bytes s t lines e p =
        subst (λ l. AreAnswered a b l [] (texts_of p.lines p.replies)) (sym (e ∙ lines-are d a b bytes s t p))
        (are_answered a b p.lines [] p.replies [] p.same (omega arith) (subst2 (Goes a b) (sym (append-nil p.lines)) (sym (append-nil p.replies)) p.goes))

    answered_by : (d : Desk F) (a b : Moment) (bytes : List ℕ) (l m s t : Option (List ℕ)) → Gives l m bytes → Answers new d a b bytes s t → Answered a b l m s t lines_of []
    answered_by d a b bytes l m s t h p = record {
      bytes = bytes;
      given = h;
      out = texts_of p.lines p.replies;
      answered = answered_whole d a b bytes s t (lines_of bytes) refl p;
      written = takes-last s t (texts_of p.lines p.replies) p.written;
    }

    -- the end of the input
    pub answered_end : (d e : Desk F) (a b c : Moment) (n : ℕ) (l m s t u : Option (List ℕ)) → Moves new d a b n l m s t → Answers d e b c (10 ∷ []) t u → Answered a c l m s u script_lines []
    answered_end d e a b c n l m s t u p q =
        let all : Answers new e a c (p.bytes ++ 10 ∷ []) s u = answers_then new d e a b c p.bytes (10 ∷ []) s t u p.answered q in
        record {
          bytes = p.bytes;
          given = p.given;
          out = texts_of all.lines all.replies;
          answered = answered_whole e a c (p.bytes ++ 10 ∷ []) s u (script_lines p.bytes) refl all;
          written = takes-last s u (texts_of all.lines all.replies) all.written;
        }

    -- a read fault
    pub answered_read : (d : Desk F) (a b : Moment) (n : ℕ) (l m o s t : Option (List ℕ)) → Moves new d a b n l m s t → Gives m o [] → Answered a b l o s t lines_of []
    answered_read d a b n l m o s t p h =
        answered_by d a b p.bytes l o s t (subst (Gives l o) (append-nil p.bytes) (Gives-then l m o p.bytes [] p.given h)) p.answered

    -- a script that is too long
    pub answered_long : (d : Desk F) (a b : Moment) (n : ℕ) (l m o s t : Option (List ℕ)) (more : List ℕ) → Moves new d a b n l m s t → n ≡ MAX_SCRIPT_BYTES → Gives m o more → Answered a b l o s t lines_within_most []
    answered_long d a b n l m o s t more p e h =
        let within : take MAX_SCRIPT_BYTES (p.bytes ++ more) ≡ p.bytes = ap (λ k. take k (p.bytes ++ more)) (sym (p.counts ∙ e)) ∙ take-append_seam p.bytes more in
        let q = p.answered in
        record {
          bytes = p.bytes ++ more;
          given = Gives-then l m o p.bytes more p.given h;
          out = texts_of q.lines q.replies;
          answered = answered_whole d a b p.bytes s t (lines_within_most (p.bytes ++ more)) (ap lines_of within) q;
          written = takes-last s t (texts_of q.lines q.replies) q.written;
        }

    -- the end of the input past the most of a script
    pub moves_end : (d : Desk F) (a b : Moment) (n : ℕ) (l m o s t : Option (List ℕ)) → Moves new d a b n l m s t → Gives m o [] → Moves new d a b n l o s t
    moves_end d a b n l m o s t p h =
        record { bytes = p.bytes; counts = p.counts; given = subst (Gives l o) (append-nil p.bytes) (Gives-then l m o p.bytes [] p.given h); answered = p.answered }

    -- ---- a run that halts

    abbrev fronted : (x : Stop) (a c : Moment) (bytes all : List ℕ) (l m s u : Option (List ℕ)) → Gives l m all → (q : Stops x new a c bytes s u) → IsFront q.front all m → AnsweredFront a c l m (texts_of q.lines q.replies)
    fronted x a c bytes all l m s u h q f = record {
      bytes = all;
      given = h;
      front = q.front;
      is_front = f;
      lines = q.lines;
      last = q.last;
      are = lines-new q.front ∙ q.are;
      answered = are_answered a c q.lines q.last q.replies q.unwritten q.same q.one q.goes;
    }

    cut_short : (a c : Moment) (bytes all : List ℕ) (l m s u : Option (List ℕ)) → Gives l m all → (q : Stops stop.Write new a c bytes s u) → IsFront q.front all m → IsKept all q.front → IsCutShort a c l m s u
    cut_short a c bytes all l m s u h q f k = record {
      out = texts_of q.lines q.replies;
      front = fronted stop.Write a c bytes all l m s u h q f;
      part = q.part;
      missing = q.missing;
      written = q.written;
      cut = inl (k, q.cut);
    }

    has_ended : (a c : Moment) (bytes all : List ℕ) (l m s u : Option (List ℕ)) → Gives l m all → (q : Stops stop.Memory new a c bytes s u) → IsFront q.front all m → IsKept all q.front → HasEnded a c l m s u []
    has_ended a c bytes all l m s u h q f k = record {
      out = texts_of q.lines q.replies;
      front = fronted stop.Memory a c bytes all l m s u h q f;
      kept = k;
      written = subst (λ x. Takes s u (texts_of q.lines q.replies ++ x)) (q.none refl) q.written;
    }

    -- within a piece
    module _ (x : Stop) (d : Desk F) (a b c : Moment) (n : ℕ) (l m o s t u : Option (List ℕ)) (p : Moves new d a b n l m s t) (q : StopsOff x d b c m o t u) where
      abbrev piece-stops : Stops x new a c (p.bytes ++ q.bytes) s u
      piece-stops = stops_then x new d a b c p.bytes q.bytes s t u p.answered q.stopped

      piece-given : Gives l o (p.bytes ++ q.bytes)
      piece-given = Gives-then l m o p.bytes q.bytes p.given q.given

      piece-front : IsFront piece-stops.front (p.bytes ++ q.bytes) o
      piece-front = inl (piece-stops.back, piece-stops.is)

      piece-kept : IsKept (p.bytes ++ q.bytes) piece-stops.front
      piece-kept = record { before = p.bytes; piece = q.bytes; is = refl; small = q.small; rest = q.stopped.front; more = refl }

    -- at the end of the input
    module _ (x : Stop) (d : Desk F) (a b c : Moment) (n : ℕ) (l m s t u : Option (List ℕ)) (end : IsAtEnd m) (p : Moves new d a b n l m s t) (q : Stops x d b c (10 ∷ []) t u) where
      abbrev end-stops : Stops x new a c (p.bytes ++ 10 ∷ []) s u
      end-stops = stops_then x new d a b c p.bytes (10 ∷ []) s t u p.answered q

      end-front : IsFront end-stops.front p.bytes m
      end-front = inr (end, (end-stops.back, end-stops.is))

      end-kept : IsKept p.bytes end-stops.front
      end-kept = record { before = p.bytes; piece = []; is = append-nil p.bytes; small = omega arith; rest = q.front; more = refl }

    pub turn_halts : (x : Halt) (d : Desk F) (a b c : Moment) (n : ℕ) (l m o s t u : Option (List ℕ)) → Moves new d a b n l m s t → TurnHalts x d b c m o t u → Halts x a c l o s u
    turn_halts halt.Read d a b c n l m o s t u p q =
        let all : Moves new d a c (n + 0) l o s u = moves_then new d d a b c n 0 l m o s t u p q in
        answered_by d a c all.bytes l o s u all.given all.answered
    turn_halts halt.Write d a b c n l m o s t u p q =
        cut_short a c (p.bytes ++ q.bytes) (p.bytes ++ q.bytes) l o s u (piece-given stop.Write d a b c n l m o s t u p q) (piece-stops stop.Write d a b c n l m o s t u p q) (piece-front stop.Write d a b c n l m o s t u p q) (piece-kept stop.Write d a b c n l m o s t u p q)
    turn_halts halt.Memory d a b c n l m o s t u p q =
        has_ended a c (p.bytes ++ q.bytes) (p.bytes ++ q.bytes) l o s u (piece-given stop.Memory d a b c n l m o s t u p q) (piece-stops stop.Memory d a b c n l m o s t u p q) (piece-front stop.Memory d a b c n l m o s t u p q) (piece-kept stop.Memory d a b c n l m o s t u p q)
    turn_halts halt.TooLong d a b c n l m o s t u p q = absurd q

    pub finish_halts : (x : Halt) (d : Desk F) (a b c : Moment) (n : ℕ) (l m s t u : Option (List ℕ)) → IsAtEnd m → Moves new d a b n l m s t → FinishHalts x d b c t u → Halts x a c l m s u
    finish_halts halt.Read d a b c n l m s t u end p q = absurd q
    finish_halts halt.Write d a b c n l m s t u end p q =
        cut_short a c (p.bytes ++ 10 ∷ []) p.bytes l m s u p.given (end-stops stop.Write d a b c n l m s t u end p q) (end-front stop.Write d a b c n l m s t u end p q) (end-kept stop.Write d a b c n l m s t u end p q)
    finish_halts halt.Memory d a b c n l m s t u end p q =
        has_ended a c (p.bytes ++ 10 ∷ []) p.bytes l m s u p.given (end-stops stop.Memory d a b c n l m s t u end p q) (end-front stop.Memory d a b c n l m s t u end p q) (end-kept stop.Memory d a b c n l m s t u end p q)
    finish_halts halt.TooLong d a b c n l m s t u end p q = absurd q

-- nothing is read and nothing is written
pub halts_none : (a b : Moment) (l s : Option (List ℕ)) → Goes a b [] [] → Halts halt.Memory a b l l s s
halts_none a b l s g = record {
  out = [];
  front = record {
    bytes = [];
    given = Gives-nothing l;
    front = [];
    is_front = inl ([], refl);
    lines = [];
    last = [];
    are = refl;
    answered = are_answered a b [] [] [] [] refl (omega arith) g;
  };
  kept = record { before = []; piece = []; is = refl; small = omega arith; rest = []; more = refl };
  written = Takes-nothing s;
}
