-- What is kept under a name after a change.
use Rattle.std.proofs.Common.{◌≡◌, ◌≢◌, ℕ, ◌≤◌, Bool, true, false, cond, not, List, [], ◌∷◌, length, set, get_or, Option, Some, None, IsSome, is_some, option_map, refl, sym, ap, subst, ◌∙◌, is_lt, true≢false, nat_lt}
use Rattle.std.specs.List.{position, position_or_len, slice_get}
use Rattle.std.specs.Ordering.{nat_cmp}
use Rattle.std.specs.Cmp.Lexicographic.{slice_cmp}
use Rattle.std.specs.Str.{bytes_eq}
use Rattle.std.proofs.lemmas.Slice.Eq.{bytes_eq-Decides}
use Rattle.std.proofs.lemmas.List.Folds.{find-set, find_past, find_at}
use Rattle.std.proofs.lemmas.List.Quantifiers.{position-Some}
use Rattle.std.proofs.lemmas.Option.{slice_get-get_or, slice_get_past}
use borrow.Author.Tests.{ltb-false}
use Rattle.file_disk.specs.Memory.{Kept, Sets, is_named, kept_at, folder_of, put, without, shown, sealed}

pub named_itself : (name : List ℕ) → bytes_eq name name ≡ true
named_itself name = (bytes_eq-Decides name name).1 refl

-- a test of names that are not the same fails
pub named_apart : (a b : List ℕ) → a ≢ b → bytes_eq a b ≡ false
named_apart a b apart = go (bytes_eq a b) refl
  where
    go : (t : Bool) → bytes_eq a b ≡ t → t ≡ false
    go true e = absurd (apart ((bytes_eq-Decides a b).0 e))
    go false e = refl

some≢none : {A : Type 0} (a : A) → Some a ≡ None → ⊥
some≢none a e = cc

place_is : (b : Bool) (n i : ℕ) → cond b (Some n) None ≡ Some i → i ≡ n
place_is true n i e = cc
place_is false n i e = cc

no_place : (b : Bool) (n : ℕ) → cond b (Some n) None ≡ None → b ≡ false
no_place true n e = absurd (some≢none n e)
no_place false n e = refl

-- where a name isn't found, it isn't at the front and not behind it
pub not_found : (name : List ℕ) (kept : Kept) (rest : List Kept) → kept_at (kept ∷ rest) name ≡ None → (is_named name kept ≡ false) × (kept_at rest name ≡ None)
not_found name kept rest h = go (is_named name kept) refl h
  where
    go : (b : Bool) → is_named name kept ≡ b → cond b (Some kept) (kept_at rest name) ≡ None → (is_named name kept ≡ false) × (kept_at rest name ≡ None)
    go true e p = absurd (some≢none kept p)
    go false e p = (e, p)

put_now : (new : Kept) (all : List Kept) → kept_at all new.name ≡ None → kept_at (put new all) new.name ≡ Some new
put_now new [] fresh = rw (named_itself new.name) refl
put_now new (kept ∷ rest) fresh =
    let apart = not_found new.name kept rest fresh in
    elim (is_lt (slice_cmp nat_cmp kept.name new.name)) as (λ b. kept_at (cond b (kept ∷ put new rest) (new ∷ kept ∷ rest)) new.name ≡ Some new)
    [ true ↦ rw apart.0 (put_now new rest apart.1) | false ↦ rw (named_itself new.name) refl ]

put_others : (new : Kept) (all : List Kept) (other : List ℕ) → bytes_eq new.name other ≡ false → kept_at (put new all) other ≡ kept_at all other
put_others new [] other apart = rw apart refl
put_others new (kept ∷ rest) other apart =
    elim (is_lt (slice_cmp nat_cmp kept.name new.name)) as (λ b. kept_at (cond b (kept ∷ put new rest) (new ∷ kept ∷ rest)) other ≡ kept_at (kept ∷ rest) other)
    [ true ↦ ap (λ x. cond (is_named other kept) (Some kept) x) (put_others new rest other apart) | false ↦ rw apart refl ]

-- one more is kept under its name
pub Sets-put : (new : Kept) (all : List Kept) → kept_at all new.name ≡ None → Sets new.name (Some new) all (put new all)
Sets-put new all fresh = record {
  here = put_now new all fresh;
  others = λ other apart. put_others new all other (named_apart new.name other (λ e. apart (sym e)));
}

without_now : (name : List ℕ) (all : List Kept) → kept_at (without name all) name ≡ None
without_now name [] = refl
without_now name (kept ∷ rest) = go (is_named name kept) refl (without_now name rest)
  where
    go : (b : Bool) → is_named name kept ≡ b → kept_at (without name rest) name ≡ None → kept_at (cond (not b) (kept ∷ without name rest) (without name rest)) name ≡ None
    go true e gone = gone
    go false e gone = rw e gone

without_others : (name : List ℕ) (all : List Kept) (other : List ℕ) → other ≢ name → kept_at (without name all) other ≡ kept_at all other
without_others name [] other apart = refl
without_others name (kept ∷ rest) other apart = go (is_named name kept) refl (without_others name rest other apart)
  where
    go : (b : Bool) → is_named name kept ≡ b → kept_at (without name rest) other ≡ kept_at rest other → kept_at (cond (not b) (kept ∷ without name rest) (without name rest)) other ≡ kept_at (kept ∷ rest) other
    go true e more =
        let same : kept.name ≡ name = (bytes_eq-Decides kept.name name).0 e in
        let fails : is_named other kept ≡ false = named_apart kept.name other (λ p. apart (sym p ∙ same)) in
        rw fails more
    go false e more = ap (λ x. cond (is_named other kept) (Some kept) x) more

-- nothing is kept under a name that is taken out
pub Sets-without : (name : List ℕ) (all : List Kept) → Sets name None all (without name all)
Sets-without name all = record { here = without_now name all; others = without_others name all }

-- an element with the name stands in place of the first one that has it
pub Sets-set : (name : List ℕ) (all : List Kept) (i : ℕ) (new : Kept) → position (is_named name) all ≡ Some i → is_named name new ≡ true → Sets name (Some new) all (set all i new)
Sets-set name all i new at named =
    let first = position-Some (is_named name) all i new at in
    let place : i ≡ position_or_len (is_named name) all = place_is (nat_lt (position_or_len (is_named name) all) (length all)) _ i at in
    let was : (get_or all i new).name ≡ name = (bytes_eq-Decides _ name).0 first.1 in
    let is : new.name ≡ name = (bytes_eq-Decides new.name name).0 named in
    record {
      here = find-set (is_named name) all i new place first.0 named;
      others = λ other apart. find_past (is_named other) all i new new (named_apart _ other (λ e. apart (sym e ∙ was))) (named_apart _ other (λ e. apart (sym e ∙ is)));
    }

-- the first element that has the name
pub kept_at_place : (name : List ℕ) (all : List Kept) (i : ℕ) (d : Kept) → position (is_named name) all ≡ Some i → kept_at all name ≡ Some (get_or all i d)
kept_at_place name all i d at =
    let first = position-Some (is_named name) all i d at in
    let place : i ≡ position_or_len (is_named name) all = place_is (nat_lt (position_or_len (is_named name) all) (length all)) _ i at in
    find_at (is_named name) all ∙ ap (slice_get all) (sym place) ∙ slice_get-get_or all i d first.0

-- where the name has no place, nothing is kept under it
pub kept_at_no_place : (name : List ℕ) (all : List Kept) → position (is_named name) all ≡ None → kept_at all name ≡ None
kept_at_no_place name all none =
    let first = position_or_len (is_named name) all in
    let past : length all ≤ first = ltb-false first (length all) (no_place (nat_lt first (length all)) first none) in
    find_at (is_named name) all ∙ slice_get_past all first past

module _ (f : Kept → Kept) (same : (kept : Kept) → (f kept).name ≡ kept.name) where
  -- what is kept under a name is changed where it stands
  pub Sets-edited : (name : List ℕ) (all : List Kept) (i : ℕ) (d new : Kept) → position (is_named name) all ≡ Some i → new ≡ f (get_or all i d) → Sets name (option_map f (kept_at all name)) all (set all i new)
  Sets-edited name all i d new at is =
      let was : (get_or all i d).name ≡ name = (bytes_eq-Decides _ name).0 (position-Some (is_named name) all i d at).1 in
      let named : new.name ≡ name = ap (λ (k : Kept). k.name) is ∙ same (get_or all i d) ∙ was in
      let now : Some new ≡ option_map f (kept_at all name) = ap Some is ∙ sym (ap (option_map f) (kept_at_place name all i d at)) in
      let P : Option Kept → Type 0 = λ x. Sets name x all (set all i new) in
      subst P now (Sets-set name all i new at ((bytes_eq-Decides new.name name).1 named))

  -- where nothing is kept under the name, nothing changes
  pub Sets-nothing : (name : List ℕ) (all : List Kept) → position (is_named name) all ≡ None → Sets name (option_map f (kept_at all name)) all all
  Sets-nothing name all none = record {
    here = let e = kept_at_no_place name all none in e ∙ sym (ap (option_map f) e);
    others = λ other apart. refl;
  }

pub shown_name : (bytes : List ℕ) (kept : Kept) → (shown bytes kept).name ≡ kept.name
shown_name bytes kept = elim kept.draft as (λ b. (cond b (record kept { bytes = bytes }) kept).name ≡ kept.name) [ true ↦ refl | false ↦ refl ]

pub sealed_name : (bytes : List ℕ) (kept : Kept) → (sealed bytes kept).name ≡ kept.name
sealed_name bytes kept = refl

-- where the name has a place, it is in the folder
pub there_at_place : (name : List ℕ) (all : List Kept) (i : ℕ) → position (is_named name) all ≡ Some i → IsSome (folder_of all name)
there_at_place name [] i at = cc
there_at_place name (kept ∷ rest) i at = ap (λ x. is_some (option_map (λ (k : Kept). k.bytes) x)) (kept_at_place name (kept ∷ rest) i kept at)

pub there_from_place : (name : List ℕ) (all : List Kept) → is_some (position (is_named name) all) ≡ true → IsSome (folder_of all name)
there_from_place name all some = go (position (is_named name) all) refl some
  where
    go : (p : Option ℕ) → position (is_named name) all ≡ p → is_some p ≡ true → IsSome (folder_of all name)
    go None e some = absurd (true≢false (sym some))
    go (Some i) e some = there_at_place name all i e

pub none_is : {A : Type 0} (o : Option A) → is_some o ≡ false → o ≡ None
none_is None e = refl
none_is (Some a) e = absurd (true≢false e)
