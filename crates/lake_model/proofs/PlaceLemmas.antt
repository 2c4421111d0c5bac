-- Where a kind belongs among others.
use Rattle.std.proofs.Common.{◌≡◌, ℕ, ◌+◌, List, [], ◌∷◌, ◌++◌, length, take, drop, refl, sym, ap, subst, ◌∙◌, append_assoc, arith}
use Rattle.std.specs.Prelude.{◌≤◌, ◌-◌, slice_index_or}
use Rattle.std.proofs.lemmas.List.{length-append, take_all}
use Rattle.std.proofs.Math.Seq.{take-append_seam, drop-append_seam}
use Rattle.std.specs.declared.cmp.Ordering.TheVariants.{Less, Equal, Greater}
use Rattle.lake_types.specs.Kinds.{kind_cmp}
use Rattle.lake_types.specs.declared.kind.Kind.{Kind}
use Rattle.lake_model.specs.Kinds.{put}
use Rattle.lake_model.specs.Placed.{IsPlaced, IsSought}

pub begins : (k : Kind) (ks : List Kind) → IsSought k ks 0 ks
begins k ks = record { before = []; split = refl; place = refl; puts = refl }

pub stops : (k l : Kind) (ks rest : List Kind) (at : ℕ) → IsSought k ks at (l ∷ rest) → kind_cmp k l ≡ Less → IsPlaced k ks at
stops k l ks rest at h e = record {
  before = h.before;
  rest = l ∷ rest;
  split = h.split;
  place = h.place;
  puts = h.puts ∙ ap (λ more. h.before ++ more) (rw e refl);
}

pub ends : (k : Kind) (ks : List Kind) (at : ℕ) → IsSought k ks at [] → IsPlaced k ks at
ends k ks at h = record { before = h.before; rest = []; split = h.split; place = h.place; puts = h.puts }

pub stands : (k l : Kind) (ks rest : List Kind) (at : ℕ) → IsSought k ks at (l ∷ rest) → kind_cmp k l ≡ Equal → put k ks ≡ ks
stands k l ks rest at h e = h.puts ∙ ap (λ more. h.before ++ more) (rw e refl) ∙ sym h.split

pub goes_on : (k l : Kind) (ks rest : List Kind) (at : ℕ) → IsSought k ks at (l ∷ rest) → kind_cmp k l ≡ Greater → IsSought k ks (at + 1) rest
goes_on k l ks rest at h e = record {
  before = h.before ++ l ∷ [];
  split = h.split ∙ sym (append_assoc h.before (l ∷ []) rest);
  place = length-append h.before (l ∷ []) ∙ ap (λ n. n + 1) h.place;
  puts = h.puts ∙ ap (λ more. h.before ++ more) (rw e refl) ∙ sym (append_assoc h.before (l ∷ []) (put k rest));
}

-- what an insertion at the place makes
pub placed : (k : Kind) (ks : List Kind) (at : ℕ) → IsPlaced k ks at → take at ks ++ k ∷ drop at ks ≡ put k ks
placed k ks at h = rw (sym h.place, h.split, take-append_seam h.before h.rest, drop-append_seam h.before h.rest) (sym h.puts ∙ ap (put k) h.split)

-- the place is within the list
pub within : (k : Kind) (ks : List Kind) (at : ℕ) → (h : IsPlaced k ks at) → at + length h.rest ≡ length ks
within k ks at h = rw (sym h.place) (sym (length-append h.before h.rest) ∙ ap length (sym h.split))

-- ---- the rest of a list that isn't empty

pub tail : {X : Type 0} (x : X) (xs : List X) → take (length (x ∷ xs) - 1) (drop 1 (x ∷ xs)) ≡ xs
tail x xs = take_all (length (x ∷ xs) - 1) xs (search arith)

pub goes_on_behind : (k first d : Kind) (ks xs : List Kind) (at : ℕ) → IsSought k ks at xs → 1 ≤ length xs → first ≡ slice_index_or xs 0 d → kind_cmp k first ≡ Greater
    → IsSought k ks (at + 1) (take (length xs - 1) (drop 1 xs))
goes_on_behind k first d ks [] at h some is e = absurd (omega (arith, some))
goes_on_behind k first d ks (l ∷ rest) at h some is e =
    subst (λ more. IsSought k ks (at + 1) more) (sym (tail l rest)) (goes_on k l ks rest at h (ap (kind_cmp k) (sym is) ∙ e))
