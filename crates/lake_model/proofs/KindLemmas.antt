-- The kinds of a list stand in order.
use Rattle.std.proofs.Common.{◌≡◌, List, [], ◌∷◌, refl, sym, ap, ◌∙◌}
use Rattle.std.specs.Cmp.{IsTotalOrder}
use Rattle.std.specs.Cmp.Lexicographic.{slice_cmp}
use Rattle.std.specs.Ordering.{nat_cmp, on, ordering_reverse, ordering_then, then_cmp}
use Rattle.std.specs.declared.cmp.Ordering.{Ordering}
use Rattle.std.specs.declared.cmp.Ordering.TheVariants.{Less, Equal, Greater}
use Rattle.std.proofs.lemmas.Cmp.{nat_cmp_total, nat_list_cmp_total, on_total, then_total}
use Rattle.lake_types.specs.Kinds.{AreInOrder, kind_cmp, rank, subject, then_by}
use Rattle.lake_types.specs.declared.kind.Kind.{Kind}
use Rattle.lake_types.specs.declared.kind.SchemaName.{SchemaName}
use Rattle.lake_model.specs.Kinds.{kinds, kinds_from, put, put_all}
use Rattle.lake_model.specs.declared.change.Change.{Change}

pub then-is : (a b : Ordering) → then_by a b ≡ ordering_then a b
then-is Less b = refl
then-is Equal b = refl
then-is Greater b = refl

-- an order that is the same as a total one
pub total-along : {K : Type 0} (R S : K → K → Ordering) → ((x y : K) → S x y ≡ R x y) → IsTotalOrder R → IsTotalOrder S
total-along R S is o = record {
  antisymm = λ x y. is x y ∙ o.antisymm x y ∙ ap ordering_reverse (sym (is y x));
  trans = λ x y z p q. is x z ∙ o.trans x y z (sym (is x y) ∙ p) (sym (is y z) ∙ q);
  congr = λ x y z p. is x z ∙ o.congr x y z (sym (is x y) ∙ p) ∙ sym (is y z);
}

abbrev first_cmp : Kind → Kind → Ordering
first_cmp = on (λ k. (subject k).0) (slice_cmp nat_cmp)

abbrev second_cmp : Kind → Kind → Ordering
second_cmp = on (λ k. (subject k).1) (slice_cmp nat_cmp)

pub kinds_total : IsTotalOrder kind_cmp
kinds_total =
    total-along (then_cmp (on rank nat_cmp) (then_cmp first_cmp second_cmp)) kind_cmp
    (λ k l. then-is (nat_cmp (rank k) (rank l)) (then_by (first_cmp k l) (second_cmp k l)) ∙ ap (ordering_then (nat_cmp (rank k) (rank l))) (then-is (first_cmp k l) (second_cmp k l)))
    (then_total (on_total rank nat_cmp_total) (then_total (on_total (λ k. (subject k).0) nat_list_cmp_total) (on_total (λ k. (subject k).1) nat_list_cmp_total)))

below : (k l : Kind) → kind_cmp k l ≡ Greater → kind_cmp l k ≡ Less
below k l e = kinds_total.antisymm l k ∙ ap ordering_reverse e

-- a kind that is put behind another stays behind it
put-behind : (l k : Kind) (ks : List Kind) → kind_cmp l k ≡ Less → AreInOrder (l ∷ ks) → AreInOrder (l ∷ put k ks)
put-behind l k [] e h = (e, tt)
put-behind l k (m ∷ more) e h = go (kind_cmp k m) refl (λ past. put-behind m k more past h.1)
  where
    go : (o : Ordering) → kind_cmp k m ≡ o → (kind_cmp m k ≡ Less → AreInOrder (m ∷ put k more)) → AreInOrder (l ∷ put k (m ∷ more))
    go Less is rest = rw is (e, (is, h.1))
    go Equal is rest = rw is h
    go Greater is rest = rw is (h.0, rest (below k m is))

put-order : (k : Kind) (ks : List Kind) → AreInOrder ks → AreInOrder (put k ks)
put-order k [] h = tt
put-order k (m ∷ more) h = go (kind_cmp k m) refl
  where
    go : (o : Ordering) → kind_cmp k m ≡ o → AreInOrder (put k (m ∷ more))
    go Less is = rw is (is, h)
    go Equal is = rw is h
    go Greater is = rw is (put-behind m k more (below k m is) h)

all-order : (ks sorted : List Kind) → AreInOrder sorted → AreInOrder (put_all sorted ks)
all-order [] sorted h = h
all-order (k ∷ ks) sorted h = all-order ks (put k sorted) (put-order k sorted h)

pub kinds-order : (names : List SchemaName) (own : List Change) → AreInOrder (kinds names own)
kinds-order names own = all-order (kinds_from names own 0 0 own) [] tt
