-- How a desk goes on.
use Rattle.std.proofs.Common.{◌≡◌, ◌≢◌, ◌⊎◌, inl, inr, ℕ, ◌+◌, ◌<◌, ◌≤◌, List, [], ◌∷◌, ◌++◌, length, length-append, take, drop, refl, ap, arith, sym, ◌∙◌, append_assoc, append-nil, subst, add-one, suc, cond, Bool, true, false}
use Rattle.std.specs.Prelude.{Option, nat_eq}
use Rattle.std.proofs.lemmas.List.{take-append-drop, take_all}
use Rattle.std.proofs.Math.Seq.{take-add}
use Rattle.lake_io.specs.Told.{Takes}
use Rattle.lake_io.proofs.ToldLemmas.{Takes-nothing, Takes-then}
use Rattle.lake_model.proofs.LineLemmas.{ended-line}
use Rattle.lake_model.specs.Replay.{Line, NoFeed, ended_lines}
use Rattle.lake_top.proofs.RunningLemmas.{goes_none, goes_then, texts_then}
use Rattle.lake_top.specs.Desks.{Answers, Carries, Goes, Leaves, Moment, Stops, Tells, line_len}
use Rattle.lake_top.specs.Running.{texts_of}
use Rattle.lake_top.specs.Script.{counted, lines_from}
use Rattle.lake_top.specs.declared.desk.Desk.{Desk}
use Rattle.lake_top.specs.declared.desk.Stop.{Stop}
use Rattle.lake_top.specs.declared.desk.Stop.TheVariants.{Memory}

-- ---- lines that end

none-step : (b : ℕ) (line : List ℕ) (t : Bool) → nat_eq b 10 ≡ t → b ≢ 10 → ended_lines line ≡ [] → ended_lines (b ∷ line) ≡ []
none-step b line true e ne none = absurd (ne (search (arith, e)))
none-step b line false e ne none = rw (e, none) refl

ended-none : (line : List ℕ) → NoFeed line → ended_lines line ≡ []
ended-none [] h = refl
ended-none (b ∷ line) h = none-step b line (nat_eq b 10) refl h.0 (ended-none line h.1)

pub lines-none : (counts pending : List ℕ) → NoFeed pending → lines_from counts pending ≡ []
lines-none counts pending h = ap (counted counts) (ended-none pending h)

lines-end : (counts pending more : List ℕ) → NoFeed pending → lines_from counts (pending ++ 10 ∷ more) ≡ counted counts (pending ∷ ended_lines more)
lines-end counts pending more h = ap (counted counts) (ended-line pending more h)

carries_none : (counts pending : List ℕ) → Carries counts pending [] [] counts pending
carries_none counts pending more = refl

carries_hold : (counts pending part : List ℕ) → Carries counts pending part [] counts (pending ++ part)
carries_hold counts pending part more = ap (lines_from counts) (sym (append_assoc pending part more))

carries_then : (c c' c'' p p' p'' x y : List ℕ) (ls ms : List Line) → Carries c p x ls c' p' → Carries c' p' y ms c'' p'' → Carries c p (x ++ y) (ls ++ ms) c'' p''
carries_then c c' c'' p p' p'' x y ls ms f g more =
    ap (λ l. lines_from c (p ++ l)) (append_assoc x y more) ∙ f (y ++ more) ∙ ap (λ l. ls ++ l) (g more) ∙ sym (append_assoc ls ms (lines_from c'' (p'' ++ more)))

pub both-same : {A B : Type 0} (x x' : List A) (y y' : List B) → length x ≡ length y → length x' ≡ length y' → length (x ++ x') ≡ length (y ++ y')
both-same x x' y y' p q = grind (arith, p, q, length-append x x', length-append y y')

pub subst2 : {A B : Type 0} (P : A → B → Type 0) {a a' : A} {b b' : B} → a ≡ a' → b ≡ b' → P a b → P a' b'
subst2 P {a} {a'} {b} {b'} e f p = subst (P a') f (subst (λ x. P x b) e p)

-- ---- the bytes before a line feed

inside-step : (b : ℕ) (bytes : List ℕ) (t : Bool) → nat_eq b 10 ≡ t → NoFeed (take (line_len bytes) bytes) → NoFeed (take (cond t 0 (suc (line_len bytes))) (b ∷ bytes))
inside-step b bytes true e h = tt
inside-step b bytes false e h = (search arith, h)

pub line_len-inside : (bytes : List ℕ) → NoFeed (take (line_len bytes) bytes)
line_len-inside [] = tt
line_len-inside (b ∷ bytes) = inside-step b bytes (nat_eq b 10) refl (line_len-inside bytes)

-- without a line feed they are all
pub line_len-whole : (bytes : List ℕ) → length bytes ≤ line_len bytes → NoFeed bytes
line_len-whole bytes h = let P : List ℕ → Type 0 = NoFeed in subst P (take_all (line_len bytes) bytes h) (line_len-inside bytes)

-- the line feed stands behind them
feed-step : (b : ℕ) (bytes : List ℕ) (t : Bool) → nat_eq b 10 ≡ t → (line_len bytes < length bytes → take (suc (line_len bytes)) bytes ≡ take (line_len bytes) bytes ++ 10 ∷ []) → cond t 0 (suc (line_len bytes)) < suc (length bytes) → take (suc (cond t 0 (suc (line_len bytes)))) (b ∷ bytes) ≡ take (cond t 0 (suc (line_len bytes))) (b ∷ bytes) ++ 10 ∷ []
feed-step b bytes true e h lt = let ten : b ≡ 10 = search (arith, e) in ap (λ x. x ∷ []) ten
feed-step b bytes false e h lt = ap (λ l. b ∷ l) (h (omega (arith, lt)))

line_len-feed : (bytes : List ℕ) → line_len bytes < length bytes → take (suc (line_len bytes)) bytes ≡ take (line_len bytes) bytes ++ 10 ∷ []
line_len-feed [] h = absurd (omega (arith, h))
line_len-feed (b ∷ bytes) h = feed-step b bytes (nat_eq b 10) refl (line_len-feed bytes) h

module _ {F : Type 0} where
  -- ---- a desk that answers

  pub answers_none : (d : Desk F) (a : Moment) (s : Option (List ℕ)) → NoFeed d.pending.items → Answers d d a a [] s s
  answers_none d a s h = record { lines = []; replies = []; carries = carries_none d.counts.items d.pending.items; same = refl; begun = h; goes = goes_none a; written = Takes-nothing s }

  pub answers_then : (d e f : Desk F) (a b c : Moment) (x y : List ℕ) (s t u : Option (List ℕ)) → Answers d e a b x s t → Answers e f b c y t u → Answers d f a c (x ++ y) s u
  answers_then d e f a b c x y s t u p q = record {
    lines = p.lines ++ q.lines;
    replies = p.replies ++ q.replies;
    same = both-same p.lines q.lines p.replies q.replies p.same q.same;
    carries = carries_then d.counts.items e.counts.items f.counts.items d.pending.items e.pending.items f.pending.items x y p.lines q.lines p.carries q.carries;
    begun = q.begun;
    goes = goes_then a b c p.lines q.lines p.replies q.replies p.goes q.goes;
    written = subst (Takes s u) (sym (texts_then p.lines p.replies q.lines q.replies p.same)) (Takes-then s t u (texts_of p.lines p.replies) (texts_of q.lines q.replies) p.written q.written);
  }

  -- the bytes of a line that goes on
  pub answers_hold : (d e : Desk F) (a b : Moment) (part : List ℕ) (s : Option (List ℕ)) → e.counts.items ≡ d.counts.items → e.pending.items ≡ d.pending.items ++ part → NoFeed e.pending.items → Goes a b [] [] → Answers d e a b part s s
  answers_hold d e a b part s c p h g = record {
    lines = [];
    replies = [];
    same = refl;
    carries = λ more. carries_hold d.counts.items d.pending.items part more ∙ sym (ap (λ l. lines_from l (e.pending.items ++ more)) c ∙ ap (λ l. lines_from d.counts.items (l ++ more)) p);
    begun = h;
    goes = g;
    written = Takes-nothing s;
  }

  -- the line feed
  pub answers_feed : (d e : Desk F) (a b : Moment) (text : List ℕ) (s t : Option (List ℕ)) → NoFeed d.pending.items → e.pending.items ≡ [] → Tells d.counts.items d.pending.items text e.counts.items a b → Takes s t text → Answers d e a b (10 ∷ []) s t
  answers_feed d e a b text s t h p q w = record {
    lines = q.lines;
    replies = q.replies;
    same = q.same;
    carries = λ more. lines-end d.counts.items d.pending.items more h ∙ q.tells (ended_lines more) ∙ ap (λ l. q.lines ++ lines_from e.counts.items (l ++ more)) (sym p);
    begun = subst NoFeed (sym p) tt;
    goes = q.goes;
    written = subst (Takes s t) q.text_is w;
  }

  -- ---- a desk that stops

  -- before anything of the bytes is answered
  pub stops_none : (stop : Stop) (d : Desk F) (a b : Moment) (y : List ℕ) (s : Option (List ℕ)) → NoFeed d.pending.items → Goes a b [] [] → Stops stop d a b y s s
  stops_none stop d a b y s h g = record {
    front = [];
    back = y;
    is = refl;
    lines = [];
    replies = [];
    same = refl;
    last = [];
    unwritten = [];
    one = omega arith;
    are = ap (lines_from d.counts.items) (append-nil d.pending.items) ∙ lines-none d.counts.items d.pending.items h;
    goes = g;
    part = [];
    missing = [];
    cut = refl;
    none = λ e. refl;
    written = Takes-nothing s;
  }

  abbrev pub stops_then : (stop : Stop) (d e : Desk F) (a b c : Moment) (x y : List ℕ) (s t u : Option (List ℕ)) → Answers d e a b x s t → Stops stop e b c y t u → Stops stop d a c (x ++ y) s u
  stops_then stop d e a b c x y s t u p q = record {
    front = x ++ q.front;
    back = q.back;
    is = append_assoc x q.front q.back ∙ ap (λ l. x ++ l) q.is;
    lines = p.lines ++ q.lines;
    replies = p.replies ++ q.replies;
    same = both-same p.lines q.lines p.replies q.replies p.same q.same;
    last = q.last;
    unwritten = q.unwritten;
    one = q.one;
    are = p.carries q.front ∙ ap (λ l. p.lines ++ l) q.are ∙ sym (append_assoc p.lines q.lines q.last);
    goes = subst2 (Goes a c) (sym (append_assoc p.lines q.lines q.last)) (sym (append_assoc p.replies q.replies q.unwritten)) (goes_then a b c p.lines (q.lines ++ q.last) p.replies (q.replies ++ q.unwritten) p.goes q.goes);
    part = q.part;
    missing = q.missing;
    cut = q.cut;
    none = q.none;
    written = subst (Takes s u) (sym (append_assoc (texts_of p.lines p.replies) (texts_of q.lines q.replies) q.part) ∙ ap (λ l. l ++ q.part) (sym (texts_then p.lines p.replies q.lines q.replies p.same)))
        (Takes-then s t u (texts_of p.lines p.replies) (texts_of q.lines q.replies ++ q.part) p.written q.written);
  }

  -- within more bytes, too
  pub stops_more : (stop : Stop) (d : Desk F) (a b : Moment) (x y : List ℕ) (s t : Option (List ℕ)) → Stops stop d a b x s t → Stops stop d a b (x ++ y) s t
  stops_more stop d a b x y s t p = record {
    front = p.front;
    back = p.back ++ y;
    is = sym (append_assoc p.front p.back y) ∙ ap (λ l. l ++ y) p.is;
    lines = p.lines;
    replies = p.replies;
    same = p.same;
    last = p.last;
    unwritten = p.unwritten;
    one = p.one;
    are = p.are;
    goes = p.goes;
    part = p.part;
    missing = p.missing;
    cut = p.cut;
    none = p.none;
    written = p.written;
  }

  -- memory is wanting for the line that has ended
  pub stops_left : (d : Desk F) (a b : Moment) (s : Option (List ℕ)) → NoFeed d.pending.items → Leaves d.counts.items d.pending.items a b → Stops Memory d a b (10 ∷ []) s s
  stops_left d a b s h l = go l.is_last
    where
      go : (l.last ≡ []) ⊎ (counted d.counts.items (d.pending.items ∷ []) ≡ l.last) → Stops Memory d a b (10 ∷ []) s s
      go (inl e) = record {
        front = [];
        back = 10 ∷ [];
        is = refl;
        lines = [];
        replies = [];
        same = refl;
        last = l.last;
        unwritten = l.unwritten;
        one = l.one;
        are = ap (lines_from d.counts.items) (append-nil d.pending.items) ∙ lines-none d.counts.items d.pending.items h ∙ sym e;
        goes = l.goes;
        part = [];
        missing = texts_of l.last l.unwritten;
        cut = refl;
        none = λ e. refl;
        written = Takes-nothing s;
      }
      go (inr e) = record {
        front = 10 ∷ [];
        back = [];
        is = refl;
        lines = [];
        replies = [];
        same = refl;
        last = l.last;
        unwritten = l.unwritten;
        one = l.one;
        are = lines-end d.counts.items d.pending.items [] h ∙ e;
        goes = l.goes;
        part = [];
        missing = texts_of l.last l.unwritten;
        cut = refl;
        none = λ e. refl;
        written = Takes-nothing s;
      }

  -- the sink fails within its reply
  pub stops_cut : (stop : Stop) (d e : Desk F) (a b : Moment) (text : List ℕ) (s t : Option (List ℕ)) (n : ℕ) → stop ≢ Memory → NoFeed d.pending.items → Tells d.counts.items d.pending.items text e.counts.items a b → Takes s t (take n text) → Stops stop d a b (10 ∷ []) s t
  stops_cut stop d e a b text s t n ne h q w = record {
    front = 10 ∷ [];
    back = [];
    is = refl;
    lines = [];
    replies = [];
    same = refl;
    last = q.lines;
    unwritten = q.replies;
    one = q.one;
    are = lines-end d.counts.items d.pending.items [] h ∙ q.tells [] ∙ append-nil q.lines;
    goes = q.goes;
    part = take n text;
    missing = drop n text;
    cut = take-append-drop n text ∙ q.text_is;
    none = λ m. absurd (ne m);
    written = w;
  }

  -- ---- the bytes of one line

  pub answers_line : (d e : Desk F) (a b : Moment) (bytes : List ℕ) (len : ℕ) (part : List ℕ) (s t : Option (List ℕ)) → len ≡ line_len bytes → len < length bytes → part ≡ take len bytes → Answers d e a b (part ++ 10 ∷ []) s t → Answers d e a b (take (len + 1) bytes) s t
  answers_line d e a b bytes len part s t v lt is p =
      let whole : part ++ 10 ∷ [] ≡ take (len + 1) bytes = rw (is, v, add-one) (sym (line_len-feed bytes (rw v at lt))) in
      subst (λ x. Answers d e a b x s t) whole p

  pub stops_line : (stop : Stop) (d : Desk F) (a b : Moment) (bytes : List ℕ) (len : ℕ) (part : List ℕ) (s t : Option (List ℕ)) → len ≡ line_len bytes → len < length bytes → part ≡ take len bytes → Stops stop d a b (part ++ 10 ∷ []) s t → Stops stop d a b bytes s t
  stops_line stop d a b bytes len part s t v lt is p =
      let whole : (part ++ 10 ∷ []) ++ drop (suc len) bytes ≡ bytes = rw (is, v) (ap (λ l. l ++ drop (suc (line_len bytes)) bytes) (sym (line_len-feed bytes (rw v at lt))) ∙ take-append-drop (suc (line_len bytes)) bytes) in
      subst (λ x. Stops stop d a b x s t) whole (stops_more stop d a b (part ++ 10 ∷ []) (drop (suc len) bytes) s t p)

  -- the answers to a further part of one piece
  pub answers_more : (d e f : Desk F) (a b c : Moment) (i n : ℕ) (piece : List ℕ) (s t u : Option (List ℕ)) → Answers d e a b (take i piece) s t → Answers e f b c (take n (drop i piece)) t u → Answers d f a c (take (i + n) piece) s u
  answers_more d e f a b c i n piece s t u p q = rw take-add (answers_then d e f a b c _ _ s t u p q)

  pub stops_rest : (stop : Stop) (d e : Desk F) (a b c : Moment) (i : ℕ) (piece : List ℕ) (s t u : Option (List ℕ)) → Answers d e a b (take i piece) s t → Stops stop e b c (drop i piece) t u → Stops stop d a c piece s u
  stops_rest stop d e a b c i piece s t u p q =
      subst (λ x. Stops stop d a c x s u) (take-append-drop i piece) (stops_then stop d e a b c (take i piece) (drop i piece) s t u p q)
