-- The names of what is kept rise, and are those of the folder.
use Rattle.std.proofs.Common.{◌≡◌, ◌⊎◌, ℕ, suc, ◌+◌, Bool, true, false, cond, not, List, [], ◌∷◌, set, get_or, None, IsSome, Contains, refl, sym, ap, subst, ◌∙◌, inl, inr, Ordering, Less, Equal, Greater, is_lt, is_eq, true≢false, arith}
use Rattle.std.specs.List.{AllByRecursion, insert, prefix_len}
use Rattle.std.specs.Ordering.{ordering_reverse, nat_cmp}
use Rattle.std.specs.Cmp.Lexicographic.{slice_cmp, texts_ties}
use Rattle.std.specs.Str.{bytes_eq}
use Rattle.std.proofs.lemmas.Cmp.{nat_list_cmp_total}
use Rattle.std.proofs.lemmas.List.Elements.{Contains-append_cases, Contains-append_right, Contains-push_cases}
use Rattle.std.proofs.lemmas.Slice.Eq.{bytes_eq-Decides}
use Rattle.std.proofs.Math.Seq.{map-set_same}
use Rattle.file_disk.specs.Calls.{ListsNames}
use Rattle.file_disk.specs.Folder.{ComesBefore, Rises}
use Rattle.file_disk.specs.Memory.{Kept, is_named, kept_at, folder_of, names_of, put, without}
use Rattle.file_disk.proofs.KeptLemmas.{not_found}

-- how many names come before this one
abbrev pub count_below : List ℕ → List Kept → ℕ
count_below name all = prefix_len (λ kept. is_lt (slice_cmp nat_cmp kept.name name)) all

further : (n : ℕ) (kept : Kept) (rest : List Kept) (new : Kept) → kept ∷ insert rest n new ≡ insert (kept ∷ rest) (1 + n) new
further n kept rest new = let e : 1 + n ≡ suc n = omega arith in rw e refl

-- its place is past all names that come before it
pub put-insert : (new : Kept) (all : List Kept) → put new all ≡ insert all (count_below new.name all) new
put-insert new [] = refl
put-insert new (kept ∷ rest) =
    elim (is_lt (slice_cmp nat_cmp kept.name new.name)) as (λ b. cond b (kept ∷ put new rest) (new ∷ kept ∷ rest) ≡ insert (kept ∷ rest) (cond b (1 + count_below new.name rest) 0) new)
    [ true ↦ ap (λ l. kept ∷ l) (put-insert new rest) ∙ further _ kept rest new | false ↦ refl ]

all-put : (P : List ℕ → Type 0) (new : Kept) (all : List Kept) → P new.name → AllByRecursion P (names_of all) → AllByRecursion P (names_of (put new all))
all-put P new [] h all = (h, tt)
all-put P new (kept ∷ rest) h all =
    elim (is_lt (slice_cmp nat_cmp kept.name new.name)) as (λ b. AllByRecursion P (names_of (cond b (kept ∷ put new rest) (new ∷ kept ∷ rest))))
    [ true ↦ (all.0, all-put P new rest h all.1) | false ↦ (h, all) ]

before : (o : Ordering) → is_lt o ≡ true → o ≡ Less
before Less e = refl
before Equal e = absurd (true≢false (sym e))
before Greater e = absurd (true≢false (sym e))

-- of two names that aren't the same, one comes before the other
after : (a b : List ℕ) → is_lt (slice_cmp nat_cmp a b) ≡ false → bytes_eq a b ≡ false → ComesBefore b a
after a b e apart = nat_list_cmp_total.antisymm b a ∙ go (slice_cmp nat_cmp a b) e (sym (texts_ties a b) ∙ apart)
  where
    go : (o : Ordering) → is_lt o ≡ false → is_eq o ≡ false → ordering_reverse o ≡ Less
    go Less p q = absurd (true≢false p)
    go Equal p q = absurd (true≢false q)
    go Greater p q = refl

all_weaker : (P Q : List ℕ → Type 0) → ((name : List ℕ) → P name → Q name) → (names : List (List ℕ)) → AllByRecursion P names → AllByRecursion Q names
all_weaker P Q f [] h = tt
all_weaker P Q f (name ∷ names) h = (f name h.0, all_weaker P Q f names h.1)

-- the names still rise with one more
pub Rises-put : (new : Kept) (all : List Kept) → kept_at all new.name ≡ None → Rises (names_of all) → Rises (names_of (put new all))
Rises-put new [] fresh up = (tt, tt)
Rises-put new (kept ∷ rest) fresh up =
    let apart = not_found new.name kept rest fresh in
    go (is_lt (slice_cmp nat_cmp kept.name new.name)) refl apart.0 (Rises-put new rest apart.1 up.1)
  where
    go : (b : Bool) → is_lt (slice_cmp nat_cmp kept.name new.name) ≡ b → bytes_eq kept.name new.name ≡ false → Rises (names_of (put new rest)) → Rises (names_of (cond b (kept ∷ put new rest) (new ∷ kept ∷ rest)))
    go true e apart more = (all-put (ComesBefore kept.name) new rest (before _ e) up.0, more)
    go false e apart more =
        let first : ComesBefore new.name kept.name = after kept.name new.name e apart in
        ((first, all_weaker (ComesBefore kept.name) (ComesBefore new.name) (λ name. nat_list_cmp_total.trans new.name kept.name name first) (names_of rest) up.0), up)

all-without : (P : List ℕ → Type 0) (name : List ℕ) (all : List Kept) → AllByRecursion P (names_of all) → AllByRecursion P (names_of (without name all))
all-without P name [] h = tt
all-without P name (kept ∷ rest) h =
    elim (not (is_named name kept)) as (λ b. AllByRecursion P (names_of (cond b (kept ∷ without name rest) (without name rest))))
    [ true ↦ (h.0, all-without P name rest h.1) | false ↦ all-without P name rest h.1 ]

-- they rise without one
pub Rises-without : (name : List ℕ) (all : List Kept) → Rises (names_of all) → Rises (names_of (without name all))
Rises-without name [] up = tt
Rises-without name (kept ∷ rest) up =
    elim (not (is_named name kept)) as (λ b. Rises (names_of (cond b (kept ∷ without name rest) (without name rest))))
    [ true ↦ (all-without (ComesBefore kept.name) name rest up.0, Rises-without name rest up.1) | false ↦ Rises-without name rest up.1 ]

-- a name that stands in the list is there
pub there_from_Contains : (all : List Kept) (name : List ℕ) → Contains (names_of all) name → IsSome (folder_of all name)
there_from_Contains [] name has = absurd (omega (arith, has.1))
there_from_Contains (kept ∷ rest) name has = go (bytes_eq kept.name name) refl (Contains-append_cases (kept.name ∷ []) (names_of rest) name has) (there_from_Contains rest name)
  where
    go : (b : Bool) → bytes_eq kept.name name ≡ b → Contains (kept.name ∷ []) name ⊎ Contains (names_of rest) name → (Contains (names_of rest) name → IsSome (folder_of rest name)) → IsSome (folder_of (kept ∷ rest) name)
    go true e cases more = rw e refl
    go false e (inr behind) more = rw e (more behind)
    go false e (inl first) more = absurd (alone (Contains-push_cases [] kept.name name first) e)
      where
        alone : Contains [] name ⊎ (kept.name ≡ name) → bytes_eq kept.name name ≡ false → ⊥
        alone (inl none) e = omega (arith, none.1)
        alone (inr same) e = true≢false (sym ((bytes_eq-Decides kept.name name).1 same) ∙ e)

-- a name that is there stands in the list
pub Contains_from_there : (all : List Kept) (name : List ℕ) → IsSome (folder_of all name) → Contains (names_of all) name
Contains_from_there [] name there = absurd (true≢false (sym there))
Contains_from_there (kept ∷ rest) name there = go (bytes_eq kept.name name) refl there (Contains_from_there rest name)
  where
    go : (b : Bool) → bytes_eq kept.name name ≡ b → IsSome (folder_of (kept ∷ rest) name) → (IsSome (folder_of rest name) → Contains (names_of rest) name) → Contains (names_of (kept ∷ rest)) name
    go true e there more = (0, omega arith, (bytes_eq-Decides kept.name name).0 e)
    go false e there more = Contains-append_right (kept.name ∷ []) (names_of rest) name (more (rw e at there))

-- they rise where one element is changed and keeps its name
pub Rises-edited : (f : Kept → Kept) → ((kept : Kept) → (f kept).name ≡ kept.name) → (all : List Kept) (i : ℕ) (d new : Kept) → new ≡ f (get_or all i d) → Rises (names_of all) → Rises (names_of (set all i new))
Rises-edited f same all i d new is up =
    subst Rises (sym (map-set_same (λ kept. kept.name) all i new d (ap (λ (k : Kept). k.name) is ∙ same (get_or all i d)))) up

-- the names of what is kept are those of the folder, in order
pub ListsNames-names_of : (all : List Kept) → Rises (names_of all) → ListsNames (folder_of all) (names_of all)
ListsNames-names_of all up = record { in_order = up; all = λ name. (there_from_Contains all name, Contains_from_there all name) }
