-- References, and the test whether two are one.
use Rattle.std.proofs.Common.{◌≡◌, true, refl, ap, subst, arith}
use Rattle.std.proofs.lemmas.Bool.{eq-eqb, eqb-true}
use Rattle.lake_model.specs.Apply.{is_ref}
use Rattle.lake_model.specs.declared.change.Ref.{Ref}
use Rattle.lake_model.specs.declared.change.Ref.TheVariants as ref

pub ref_turned : (a b : Ref) → is_ref a b ≡ is_ref b a
ref_turned (ref.Old a) (ref.Old b) = search arith
ref_turned (ref.New a) (ref.New b) = search arith
ref_turned (ref.Old a) (ref.New b) = refl
ref_turned (ref.New a) (ref.Old b) = refl

pub ref-same : (a b : Ref) → is_ref a b ≡ true → a ≡ b
ref-same (ref.Old a) (ref.Old b) e = ap ref.Old (eqb-true a b e)
ref-same (ref.New a) (ref.New b) e = ap ref.New (eqb-true a b e)
ref-same (ref.Old a) (ref.New b) e = absurd cc
ref-same (ref.New a) (ref.Old b) e = absurd cc

pub ref-is : (a b : Ref) → a ≡ b → is_ref a b ≡ true
ref-is a b e = subst (λ c. is_ref a c ≡ true) e (self a)
  where
    self : (a : Ref) → is_ref a a ≡ true
    self (ref.Old a) = eq-eqb a a refl
    self (ref.New a) = eq-eqb a a refl
