-- The first file that isn't there as its row says, in a folder that stays.
use Rattle.std.proofs.Common.{◌≡◌, ◌≤◌, ◌⊎◌, ℕ, List, [], ◌∷◌, ◌++◌, length, Option, None, Some, IfSome, IsSomeAnd, inl, inr, refl, sym, subst, ◌∙◌, arith}
use Rattle.std.specs.List.{AllByRecursion}
use Rattle.lake_io.proofs.ToldLemmas.{Rose-within}
use Rattle.file_disk.specs.Folder.{Changes, Folder, Same}
use Rattle.recover.specs.Holding.{FirstIs, HasOtherSize, IsMissing, IsThere, NamedFile, WhyNoFiles}
use Rattle.recover.specs.declared.no.OpenNo.{OpenNo}
use Rattle.recover.specs.declared.no.OpenNo.TheVariants as open_no

-- ---- the first one

first_like : {X : Type 0} (Good Fine Bad Wrong : X → Type 0) → ((x : X) → Good x → Fine x) → ((x : X) → Bad x → Wrong x) → (xs : List X)
    → FirstIs Good Bad xs → FirstIs Fine Wrong xs
first_like Good Fine Bad Wrong good bad [] h = h
first_like Good Fine Bad Wrong good bad (x ∷ xs) (inl b) = inl (bad x b)
first_like Good Fine Bad Wrong good bad (x ∷ xs) (inr h) = inr (good x h.0, first_like Good Fine Bad Wrong good bad xs h.1)

first_behind : {X : Type 0} (Good Bad : X → Type 0) (xs ys : List X) → AllByRecursion Good xs → FirstIs Good Bad ys → FirstIs Good Bad (xs ++ ys)
first_behind Good Bad [] ys all h = h
first_behind Good Bad (x ∷ xs) ys all h = inr (all.0, first_behind Good Bad xs ys all.1 h)

first_among : {X : Type 0} (Good Bad : X → Type 0) (xs ys : List X) → FirstIs Good Bad xs → FirstIs Good Bad (xs ++ ys)
first_among Good Bad [] ys h = absurd h
first_among Good Bad (x ∷ xs) ys (inl b) = inl b
first_among Good Bad (x ∷ xs) ys (inr h) = inr (h.0, first_among Good Bad xs ys h.1)

-- ---- what was so in the folder before

if_sized : (size : ℕ) (was is : Option (List ℕ)) → is ≡ was → IsSomeAnd is (λ bytes. length bytes ≡ size) → IsSomeAnd was (λ bytes. length bytes ≡ size)
if_sized size was is same h = subst (λ (o : Option (List ℕ)). IsSomeAnd o (λ bytes. length bytes ≡ size)) same h

pub there_before : (old new : Option Folder) → Changes Same old new → (f : NamedFile) → IsThere new f → IsThere old f
there_before (Some old) (Some new) same f h = if_sized f.size (old f.name) (new f.name) (same f.name) h
there_before None new same f h = tt
there_before (Some old) None same f h = absurd same

missing_before : (old new : Option Folder) (name : List ℕ) → Changes Same old new → (f : NamedFile) → IsMissing new name f → IsMissing old name f
missing_before (Some old) (Some new) name same f h = (h.0, sym (same name) ∙ h.1)
missing_before None new name same f h = (h.0, tt)
missing_before (Some old) None name same f h = absurd same

sized_before : (old new : Option Folder) (name : List ℕ) (got : ℕ) → Changes Same old new → IfSome new (λ folder. IsSomeAnd (folder name) (λ bytes. length bytes ≡ got))
    → IfSome old (λ folder. IsSomeAnd (folder name) (λ bytes. length bytes ≡ got))
sized_before (Some old) (Some new) name got same h = if_sized got (old name) (new name) (same name) h
sized_before None new name got same h = tt
sized_before (Some old) None name got same h = absurd same

other_before : (old new : Option Folder) (name : List ℕ) (want got : ℕ) → Changes Same old new → (f : NamedFile) → HasOtherSize new name want got f → HasOtherSize old name want got f
other_before old new name want got same f h =
    record { name_is = h.name_is; size_is = h.size_is; others = h.others; there = sized_before old new name got same h.there }

-- ---- why files weren't held

-- behind files that are there
pub why_behind : (a b now : ℕ) (old mid : Option Folder) (xs ys : List NamedFile) → a ≤ b → Changes Same old mid → AllByRecursion (IsThere old) xs → (why : OpenNo)
    → WhyNoFiles b now mid ys why → WhyNoFiles a now old (xs ++ ys) why
why_behind a b now old mid xs ys later same all open_no.DiskFault h = let end : now ≤ now = omega arith in Rose-within a b now now later h end
why_behind a b now old mid xs ys later same all (open_no.FileMissing name) h =
    first_behind (IsThere old) (IsMissing old name) xs ys all
    (first_like (IsThere mid) (IsThere old) (IsMissing mid name) (IsMissing old name) (there_before old mid same) (missing_before old mid name same) ys h)
why_behind a b now old mid xs ys later same all (open_no.FileSize name want got) h =
    first_behind (IsThere old) (HasOtherSize old name want got) xs ys all
    (first_like (IsThere mid) (IsThere old) (HasOtherSize mid name want got) (HasOtherSize old name want got) (there_before old mid same) (other_before old mid name want got same) ys h)
why_behind a b now old mid xs ys later same all open_no.Memory h = tt
why_behind a b now old mid xs ys later same all open_no.KeeperFault h = h
why_behind a b now old mid xs ys later same all (open_no.BadRow bad) h = h

-- before more of them
pub why_among : (before now : ℕ) (told : Option Folder) (xs ys : List NamedFile) → (why : OpenNo) → WhyNoFiles before now told xs why → WhyNoFiles before now told (xs ++ ys) why
why_among before now told xs ys open_no.DiskFault h = h
why_among before now told xs ys (open_no.FileMissing name) h = first_among (IsThere told) (IsMissing told name) xs ys h
why_among before now told xs ys (open_no.FileSize name want got) h = first_among (IsThere told) (HasOtherSize told name want got) xs ys h
why_among before now told xs ys open_no.Memory h = tt
why_among before now told xs ys open_no.KeeperFault h = h
why_among before now told xs ys (open_no.BadRow bad) h = h
