-- What a call of a door has come to, at the moment when it took effect.
use Rattle.std.proofs.Common.{◌≡◌, ◌⊎◌, ℕ, List, [], ◌∷◌, ◌++◌, Bool, refl, ◌∙◌, ap, subst, inl, inr}
use Rattle.lake_model.specs.Calls.{Ground, Replies}
use Rattle.lake_model.specs.History.{AreOthers, Carried, CarriedEntry, Enters, Legal, Meets, after, after_call, after_entry, entered}
use Rattle.lake_model.specs.declared.call.Call.{Call}
use Rattle.lake_model.specs.declared.call.CallReply.{CallReply}
use Rattle.lake_model.specs.declared.call.CallReply.TheVariants as reply
use Rattle.lake_model.specs.declared.call.Loss.{Loss}
use Rattle.lake_model.specs.declared.call.Loss.TheVariants as loss

pub legal_both : (g : Ground) (a b : List CarriedEntry) → Legal g (a ++ b) → Legal g a × Legal (after g a) b
legal_both g [] b h = (tt, h)
legal_both g (e ∷ a) b h = let r = legal_both (after_entry g e) a b h.1 in ((h.0, r.0), r.1)

pub after_both : (g : Ground) (a b : List CarriedEntry) → after g (a ++ b) ≡ after (after g a) b
after_both g [] b = refl
after_both g (e ∷ a) b = after_both (after_entry g e) a b

-- the call isn't lost
abbrev pub IsKept : CallReply → Type 0
IsKept (reply.Lost cause) = ⊥
IsKept r = Unit {0}

-- others have entered before it; where it isn't lost it meets its condition there
pub record IsEntered (serves : ℕ → Bool) (session : ℕ) (call : Call) (r : CallReply) (stands : Ground → Type 0) (g : Ground) : Type 0 where
  pub others : List CarriedEntry
  pub are_others : AreOthers serves others
  pub legal : Legal g others
  pub meets : IsKept r → Meets (after g others).core session call
  pub replies : Replies (after g others) session call r
  pub stood : stands (after_call (after g others) session call r)

module _ (serves : ℕ → Bool) (session : ℕ) (call : Call) (carried : Carried) (stands : Ground → Type 0) (g : Ground) where
  -- one entry is the call's own
  one : (r : CallReply) (e : Enters serves session call r carried stands g) → e.own ≡ entered session call r carried ∷ [] → IsEntered serves session call r stands g
  one r e is =
      let l = legal_both g e.others e.own e.legal in
      let m : Legal (after g e.others) (entered session call r carried ∷ []) = subst (Legal (after g e.others)) is l.1 in
      record {
        others = e.others;
        are_others = e.are_others;
        legal = l.0;
        meets = λ kept. m.0.meets;
        replies = m.0.replies;
        stood = subst stands (after_both g e.others e.own ∙ ap (after (after g e.others)) is) e.stood;
      }

  -- it wanted memory before it entered
  none : (e : Enters serves session call (reply.Lost loss.Memory) carried stands g) → e.own ≡ [] → IsEntered serves session call (reply.Lost loss.Memory) stands g
  none e is = record {
    others = e.others;
    are_others = e.are_others;
    legal = (legal_both g e.others e.own e.legal).0;
    meets = λ kept. absurd kept;
    replies = tt;
    stood = subst stands (after_both g e.others e.own ∙ ap (after (after g e.others)) is) e.stood;
  }

  lost : (cause : Loss) → Enters serves session call (reply.Lost cause) carried stands g → IsEntered serves session call (reply.Lost cause) stands g
  lost loss.Memory e = go e.is_own
    where
      go : (e.own ≡ []) ⊎ (e.own ≡ entered session call (reply.Lost loss.Memory) carried ∷ []) → IsEntered serves session call (reply.Lost loss.Memory) stands g
      go (inl is) = none e is
      go (inr is) = one (reply.Lost loss.Memory) e is
  lost loss.Keeper e = one (reply.Lost loss.Keeper) e e.is_own
  lost loss.Disk e = one (reply.Lost loss.Disk) e e.is_own
  lost (loss.Spent c) e = one (reply.Lost (loss.Spent c)) e e.is_own

  pub has_entered : (r : CallReply) → Enters serves session call r carried stands g → IsEntered serves session call r stands g
  has_entered (reply.Lost cause) e = lost cause e
  has_entered (reply.Base n) e = one (reply.Base n) e e.is_own
  has_entered (reply.NotKept first head) e = one (reply.NotKept first head) e e.is_own
  has_entered (reply.Snapshot n) e = one (reply.Snapshot n) e e.is_own
  has_entered (reply.Clash c) e = one (reply.Clash c) e e.is_own
  has_entered reply.Done e = one reply.Done e e.is_own
  has_entered (reply.Pinned base) e = one (reply.Pinned base) e e.is_own
  has_entered (reply.Listed rows) e = one (reply.Listed rows) e e.is_own
