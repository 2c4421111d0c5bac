-- Sixteen new sessions.
use Rattle.std.proofs.Common.{◌≡◌, ◌<◌, ◌+◌, ℕ, zero, suc, List, [], ◌∷◌, ◌++◌, Option, None, true, length, replicate, refl, sym, ap, ◌∙◌, subst, arith}
use Rattle.std.specs.Prelude.{slice_index_or}
use Rattle.lake_types.specs.declared.limits.TheConstants.{MAX_SESSIONS}
use Rattle.lake_model.specs.Core.{is_session}
use Rattle.door.specs.Opened.{Opened}
use Rattle.session.specs.Held.{IsReady, number_of, own_of}
use Rattle.session.specs.declared.session.Session.{Session}
use Rattle.lake_top.specs.Sixteen.{AreReady, owns_of}

module _ {F : Type 0} (name : F → List ℕ) (size : F → ℕ) (bytes : F → Option (List ℕ)) where
  -- the session of a place, with nothing open
  pub record IsNewAt (place : ℕ) (s : Session F) : Type 0 where
    pub number : number_of s ≡ place + 1
    pub own : own_of s ≡ []
    pub ready : IsReady name size bytes s None

  abbrev pub AreNewFrom : ℕ → List (Session F) → Type 0
  AreNewFrom place [] = Unit {0}
  AreNewFrom place (s ∷ sessions) = IsNewAt place s × AreNewFrom (place + 1) sessions

  pub new_more : (place : ℕ) (sessions : List (Session F)) (s : Session F) → AreNewFrom place sessions → IsNewAt (place + length sessions) s → AreNewFrom place (sessions ++ s ∷ [])
  new_more place [] s h n = (subst (λ p. IsNewAt p s) (omega arith) n, tt)
  new_more place (x ∷ sessions) s h n = (h.0, new_more (place + 1) sessions s h.1 (subst (λ p. IsNewAt p s) (omega arith) n))

  new_at : (place : ℕ) (sessions : List (Session F)) (i : ℕ) (d : Session F) → AreNewFrom place sessions → i < length sessions → IsNewAt (place + i) (slice_index_or sessions i d)
  new_at place [] i d h lt = absurd (omega (arith, lt))
  new_at place (x ∷ sessions) zero d h lt = subst (λ p. IsNewAt p x) (omega arith) h.0
  new_at place (x ∷ sessions) (suc i) d h lt = subst (λ p. IsNewAt p (slice_index_or sessions i d)) (omega arith) (new_at (place + 1) sessions i d h.1 (omega (arith, lt)))

  session-place : (place : ℕ) → place < 16 → is_session (place + 1) ≡ true
  session-place place h = grind (arith, h)

  pub new_ready : (sessions : List (Session F)) → length sessions ≡ MAX_SESSIONS → AreNewFrom 0 sessions → (opened : ℕ → Option Opened) → ((s : ℕ) → is_session s ≡ true → opened s ≡ None) → AreReady name size bytes opened sessions
  new_ready sessions l h opened closed place d lt =
      let n : IsNewAt place (slice_index_or sessions place d) = subst (λ p. IsNewAt p (slice_index_or sessions place d)) (omega arith) (new_at 0 sessions place d h (omega (arith, l, lt))) in
      record { number = n.number; ready = subst (IsReady name size bytes (slice_index_or sessions place d)) (sym (closed (place + 1) (session-place place lt))) n.ready }

  new_owns : (place : ℕ) (sessions : List (Session F)) → AreNewFrom place sessions → owns_of sessions ≡ replicate (length sessions) []
  new_owns place [] h = refl
  new_owns place (s ∷ sessions) h = rw (h.0.own, new_owns (place + 1) sessions h.1) refl

  pub new_owns_all : (sessions : List (Session F)) → length sessions ≡ MAX_SESSIONS → AreNewFrom 0 sessions → owns_of sessions ≡ replicate MAX_SESSIONS []
  new_owns_all sessions l h = new_owns 0 sessions h ∙ ap (λ n. replicate n []) l
