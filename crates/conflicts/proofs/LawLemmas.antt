-- The first conflict, by its pair.
use Rattle.std.proofs.Common.{◌≡◌, ◌≤◌, ℕ, Bool, true, false, length, get_or, arith, List, [], ◌∷◌, ◌++◌, refl, sym, ap, subst, ◌∙◌, Option, Some, None}
use Rattle.std.specs.Prelude.{find}
use Rattle.lake_types.specs.declared.kind.Clash.{Clash}
use Rattle.lake_types.specs.declared.kind.Kind.{Kind}
use Rattle.lake_model.specs.Clashes.{clash_of, conflicts, first_clash, or_later}
use Rattle.conflicts.specs.Laws.{AreApart, IsApart, IsFirst, NoneWhereNoPairStands, SomeIsFirstPair}

-- ---- one kind of theirs

none-apart : (mine : List Kind) (t : Kind) → find (λ m. conflicts m t) mine ≡ None → IsApart mine t
none-apart [] t h = tt
none-apart (m ∷ mine) t h = go (conflicts m t) refl (λ none. none-apart mine t none)
  where
    go : (b : Bool) → conflicts m t ≡ b → (find (λ k. conflicts k t) mine ≡ None → IsApart mine t) → IsApart (m ∷ mine) t
    go true e more = let some = rw e at h in absurd cc
    go false e more = (e, more (rw e at h))

apart-none : (mine : List Kind) (t : Kind) → IsApart mine t → find (λ m. conflicts m t) mine ≡ None
apart-none [] t h = refl
apart-none (m ∷ mine) t h = rw h.0 (apart-none mine t h.1)

-- where one of mine is found, it stands behind those that don't conflict
record IsSplit (mine : List Kind) (t m : Kind) : Type 0 where
  sooner : List Kind
  later : List Kind
  stands : mine ≡ sooner ++ m ∷ later
  conflict : conflicts m t ≡ true
  none_sooner : IsApart sooner t

found-split : (mine : List Kind) (t m : Kind) → find (λ k. conflicts k t) mine ≡ Some m → IsSplit mine t m
found-split [] t m h = absurd cc
found-split (k ∷ mine) t m h = go (conflicts k t) refl (λ some. found-split mine t m some)
  where
    go : (b : Bool) → conflicts k t ≡ b → (find (λ l. conflicts l t) mine ≡ Some m → IsSplit mine t m) → IsSplit (k ∷ mine) t m
    go true e more =
        let same : Some k ≡ Some m = rw e at h in
        let is : k ≡ m = cc in
        record { sooner = []; later = mine; stands = ap (λ x. x ∷ mine) is; conflict = ap (λ x. conflicts x t) (sym is) ∙ e; none_sooner = tt }
    go false e more =
        let rest = more (rw e at h) in
        record { sooner = k ∷ rest.sooner; later = rest.later; stands = ap (λ l. k ∷ l) rest.stands; conflict = rest.conflict; none_sooner = (e, rest.none_sooner) }

-- ---- all of theirs

apart-all : (mine : List Kind) (n : ℕ) (theirs : List Kind) → first_clash mine n theirs ≡ None → AreApart mine theirs
apart-all mine n [] h = tt
apart-all mine n (t ∷ theirs) h = go (find (λ m. conflicts m t) mine) refl (λ none. apart-all mine n theirs none)
  where
    go : (o : Option Kind) → find (λ m. conflicts m t) mine ≡ o → (first_clash mine n theirs ≡ None → AreApart mine theirs) → AreApart mine (t ∷ theirs)
    go None e more = (none-apart mine t e, more (rw e at h))
    go (Some m) e more = let some = rw e at h in absurd cc

all-apart : (mine : List Kind) (n : ℕ) (theirs : List Kind) → AreApart mine theirs → first_clash mine n theirs ≡ None
all-apart mine n [] h = refl
all-apart mine n (t ∷ theirs) h = rw (apart-none mine t h.0) (all-apart mine n theirs h.1)

pub none_stands : NoneWhereNoPairStands
none_stands mine n theirs = (apart-all mine n theirs, all-apart mine n theirs)

some-first : (mine : List Kind) (n : ℕ) (theirs : List Kind) (c : Clash) → first_clash mine n theirs ≡ Some c → IsFirst mine n theirs c
some-first mine n [] c h = absurd cc
some-first mine n (t ∷ theirs) c h = go (find (λ m. conflicts m t) mine) refl (λ some. some-first mine n theirs c some)
  where
    go : (o : Option Kind) → find (λ m. conflicts m t) mine ≡ o → (first_clash mine n theirs ≡ Some c → IsFirst mine n theirs c) → IsFirst mine n (t ∷ theirs) c
    go None e more =
        let rest = more (rw e at h) in
        record {
          snapshot_is = rest.snapshot_is;
          sooner = rest.sooner;
          later = rest.later;
          mine_stands = rest.mine_stands;
          before = t ∷ rest.before;
          behind = rest.behind;
          theirs_stands = ap (λ l. t ∷ l) rest.theirs_stands;
          conflict = rest.conflict;
          none_before = (none-apart mine t e, rest.none_before);
          none_sooner = rest.none_sooner;
        }
    go (Some m) e more =
        let some : Some (record { snapshot = n; mine = m; theirs = t }) ≡ Some c = rw e at h in
        here m (found-split mine t m e) (some_in some)
      where
        some_in : {x y : Clash} → Some x ≡ Some y → x ≡ y
        some_in k = cc

        here : (m : Kind) → IsSplit mine t m → record { snapshot = n; mine = m; theirs = t } ≡ c → IsFirst mine n (t ∷ theirs) c
        here m s is = subst (IsFirst mine n (t ∷ theirs)) is record {
          snapshot_is = refl;
          sooner = s.sooner;
          later = s.later;
          mine_stands = s.stands;
          before = [];
          behind = theirs;
          theirs_stands = refl;
          conflict = s.conflict;
          none_before = tt;
          none_sooner = s.none_sooner;
        }

here : (sooner later : List Kind) (m t : Kind) → IsApart sooner t → conflicts m t ≡ true → find (λ k. conflicts k t) (sooner ++ m ∷ later) ≡ Some m
here [] later m t h e = rw e refl
here (k ∷ sooner) later m t h e = rw h.0 (here sooner later m t h.1 e)

behind-all : (mine : List Kind) (n : ℕ) (before behind : List Kind) (m t : Kind) → AreApart mine before → find (λ k. conflicts k t) mine ≡ Some m
    → first_clash mine n (before ++ t ∷ behind) ≡ Some (record { snapshot = n; mine = m; theirs = t })
behind-all mine n [] behind m t h e = rw e refl
behind-all mine n (b ∷ before) behind m t h e = rw (apart-none mine b h.0) (behind-all mine n before behind m t h.1 e)

first-some : (mine : List Kind) (n : ℕ) (theirs : List Kind) (c : Clash) → IsFirst mine n theirs c → first_clash mine n theirs ≡ Some c
first-some mine n theirs c f =
    let found : find (λ k. conflicts k c.theirs) mine ≡ Some c.mine = ap (find (λ k. conflicts k c.theirs)) f.mine_stands ∙ here f.sooner f.later c.mine c.theirs f.none_sooner f.conflict in
    ap (first_clash mine n) f.theirs_stands ∙ behind-all mine n f.before f.behind c.mine c.theirs f.none_before found
    ∙ ap (λ k. Some (record { snapshot = k; mine = c.mine; theirs = c.theirs })) (sym f.snapshot_is)

pub some_is_first : SomeIsFirstPair
some_is_first mine n theirs c = (some-first mine n theirs c, first-some mine n theirs c)

-- ---- the loop over theirs

-- what is found for the first of theirs is the first conflict
pub found-first : (mine : List Kind) (n : ℕ) (theirs : List Kind) (t m : Kind) → 1 ≤ length theirs → t ≡ get_or theirs 0 t → find (λ k. conflicts k t) mine ≡ Some m
    → Some (record { snapshot = n; mine = m; theirs = t }) ≡ first_clash mine n theirs
found-first mine n [] t m le at found = absurd (omega arith)
found-first mine n (u ∷ theirs) t m le at found =
    sym (ap (λ o. or_later (clash_of n o t) (first_clash mine n theirs)) found)
    ∙ ap (λ k. or_later (clash_of n (find (λ l. conflicts l k) mine) k) (first_clash mine n theirs)) at
