-- The order of kinds, which doesn't look at the name of a dropped schema.
use Rattle.std.proofs.Common.{◌≡◌, ℕ, zero, suc, ◌-◌, List, [], ◌∷◌, ◌++◌, length, map, Bool, true, Some, slice_get, refl, sym, ap, ◌∙◌, append_assoc, arith}
use Rattle.std.specs.declared.cmp.Ordering.{Ordering}
use Rattle.std.specs.declared.cmp.Ordering.TheVariants.{Less, Equal, Greater}
use Rattle.std.specs.Ordering.{is_lt}
use Rattle.std.specs.List.{AllByRecursion}
use Rattle.lake_types.specs.declared.kind.Kind.{Kind}
use Rattle.lake_types.specs.declared.kind.Kind.TheVariants as kind
use Rattle.lake_types.specs.Kinds.{kind_text, rank, subject, kind_cmp, AreInOrder, HasId}
use Rattle.cat_changes.specs.Reading.{unnamed, AreUnnamed}

less : (o : Ordering) → is_lt o ≡ true → o ≡ Less
less Less e = refl
less Equal e = cc
less Greater e = cc

next_in_order : (kinds : List Kind) (at : ℕ) (last next : Kind) → AreInOrder kinds → slice_get kinds at ≡ Some last → suc at ≡ length kinds
    → kind_cmp last next ≡ Less → AreInOrder (kinds ++ next ∷ [])
next_in_order [] at last next h e n below = cc
next_in_order (k ∷ []) zero last next h e n below =
    let same : last ≡ k = cc in
    (rw same at below, tt)
next_in_order (k ∷ []) (suc at) last next h e n below = absurd (omega (arith, n))
next_in_order (k ∷ l ∷ kinds) zero last next h e n below = absurd (omega (arith, n))
next_in_order (k ∷ l ∷ kinds) (suc at) last next h e n below = (h.0, next_in_order (l ∷ kinds) at last next h.1 e (omega (arith, n)) below)

last_below : (kinds : List Kind) (at : ℕ) (last next : Kind) → slice_get kinds at ≡ Some last → suc at ≡ length kinds
    → AreInOrder (kinds ++ next ∷ []) → kind_cmp last next ≡ Less
last_below [] at last next e n h = cc
last_below (k ∷ []) zero last next e n h =
    let same : k ≡ last = cc in
    rw same at h.0
last_below (k ∷ []) (suc at) last next e n h = absurd (omega (arith, n))
last_below (k ∷ l ∷ kinds) zero last next e n h = absurd (omega (arith, n))
last_below (k ∷ l ∷ kinds) (suc at) last next e n h = last_below (l ∷ kinds) at last next e (omega (arith, n)) h.1

-- the last of the kinds tells whether one may follow
pub follows : (kinds : List Kind) (last next : Kind) (b : Bool) → AreInOrder kinds → slice_get kinds (length kinds - 1) ≡ Some last → b ≡ is_lt (kind_cmp last next)
    → (b ≡ true → AreInOrder (kinds ++ next ∷ [])) × (AreInOrder (kinds ++ next ∷ []) → b ≡ true)
follows [] last next b h e is = cc
follows (k ∷ kinds) last next b h e is =
    let place : suc (length (k ∷ kinds) - 1) ≡ length (k ∷ kinds) = omega arith in (
      (λ yes. next_in_order (k ∷ kinds) (length (k ∷ kinds) - 1) last next h e place (less (kind_cmp last next) (sym is ∙ yes))),
      (λ order. is ∙ ap is_lt (last_below (k ∷ kinds) (length (k ∷ kinds) - 1) last next e place order)),
    )

front_in_order : (a b : List Kind) → AreInOrder (a ++ b) → AreInOrder a
front_in_order [] b h = tt
front_in_order (k ∷ []) b h = tt
front_in_order (k ∷ l ∷ a) b h = (h.0, front_in_order (l ∷ a) b h.1)

pub up_to : (a : List Kind) (k : Kind) (b : List Kind) → AreInOrder (a ++ k ∷ b) → AreInOrder (a ++ k ∷ [])
up_to a k b h = front_in_order (a ++ k ∷ []) b (rw (append_assoc a (k ∷ []) b) h)

-- ---- names of dropped schemas aside

rank_unnamed : (k : Kind) → rank (unnamed k) ≡ rank k
rank_unnamed (kind.DroppedSchema id name) = refl
rank_unnamed k = refl

subject_unnamed : (k : Kind) → subject (unnamed k) ≡ subject k
subject_unnamed (kind.DroppedSchema id name) = refl
subject_unnamed k = refl

text_unnamed : (k : Kind) → kind_text (unnamed k) ≡ kind_text k
text_unnamed (kind.DroppedSchema id name) = refl
text_unnamed k = refl

id_of_unnamed : (k : Kind) → HasId (unnamed k) → HasId k
id_of_unnamed (kind.DroppedSchema id name) h = h
id_of_unnamed k h = h

id_unnamed : (k : Kind) → HasId k → HasId (unnamed k)
id_unnamed (kind.DroppedSchema id name) h = h
id_unnamed k h = h

cmp_unnamed : (k l : Kind) → kind_cmp (unnamed k) (unnamed l) ≡ kind_cmp k l
cmp_unnamed k l = rw (rank_unnamed k, rank_unnamed l, subject_unnamed k, subject_unnamed l) refl

order_unnamed : (kinds : List Kind) → AreInOrder kinds → AreInOrder (map unnamed kinds)
order_unnamed [] h = tt
order_unnamed (k ∷ []) h = tt
order_unnamed (k ∷ l ∷ kinds) h = (cmp_unnamed k l ∙ h.0, order_unnamed (l ∷ kinds) h.1)

order_of_unnamed : (kinds : List Kind) → AreInOrder (map unnamed kinds) → AreInOrder kinds
order_of_unnamed [] h = tt
order_of_unnamed (k ∷ []) h = tt
order_of_unnamed (k ∷ l ∷ kinds) h = (sym (cmp_unnamed k l) ∙ h.0, order_of_unnamed (l ∷ kinds) h.1)

pub order_same : (a b : List Kind) → AreUnnamed a b → AreInOrder a → AreInOrder b
order_same a b e h = order_of_unnamed b (rw e at (order_unnamed a h))

ids_unnamed : (kinds : List Kind) → AllByRecursion HasId kinds → AllByRecursion HasId (map unnamed kinds)
ids_unnamed [] h = h
ids_unnamed (k ∷ kinds) h = (id_unnamed k h.0, ids_unnamed kinds h.1)

ids_of_unnamed : (kinds : List Kind) → AllByRecursion HasId (map unnamed kinds) → AllByRecursion HasId kinds
ids_of_unnamed [] h = h
ids_of_unnamed (k ∷ kinds) h = (id_of_unnamed k h.0, ids_of_unnamed kinds h.1)

pub ids_same : (a b : List Kind) → AreUnnamed a b → AllByRecursion HasId a → AllByRecursion HasId b
ids_same a b e h = ids_of_unnamed b (rw e at (ids_unnamed a h))

texts_unnamed : (kinds : List Kind) → map kind_text (map unnamed kinds) ≡ map kind_text kinds
texts_unnamed [] = refl
texts_unnamed (k ∷ kinds) = rw (text_unnamed k, texts_unnamed kinds) refl

pub texts_same : (a b : List Kind) → AreUnnamed a b → map kind_text a ≡ map kind_text b
texts_same a b e = sym (texts_unnamed a) ∙ ap (map kind_text) e ∙ texts_unnamed b
