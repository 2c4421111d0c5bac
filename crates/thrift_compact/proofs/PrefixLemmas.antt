-- Where each spelling is read whatever follows it, none begins another one, and each says one thing.
use Rattle.std.proofs.Common.{◌≡◌, ℕ, ◌++◌, [], List, sym, ap, ◌∙◌}
use Rattle.std.proofs.lemmas.List.{append_cancel_right}
use Rattle.thrift_compact.specs.Reading.{Read, Rest}
use Rattle.thrift_compact.specs.Laws.{NoneBeginsAnother, SaysOne}
use Rattle.thrift_compact.proofs.Matching.{Matches, ok_is}
use Rattle.thrift_compact.proofs.ValueLemmas.{Passes}

pub none_begins : {A : Type 0} (R : List ℕ → Read A) (S : List ℕ → A → Type 0) → Matches R S → NoneBeginsAnother S
none_begins {A} R S m a b x y s t p q e =
    let same : (s, x) ≡ (t, y) = ok_is (s, x) (t, y) (sym (m.complete a x s p) ∙ ap R e ∙ m.complete b y t q) in
    let rest : x ≡ y = ap (λ (z : A × List ℕ). z.1) same in
    (append_cancel_right a b y (ap (λ (z : List ℕ). a ++ z) (sym rest) ∙ e), rest)

pub says : {A : Type 0} (R : List ℕ → Read A) (S : List ℕ → A → Type 0) → Matches R S → SaysOne S
says {A} R S m bytes s t p q =
    ap (λ (z : A × List ℕ). z.0) (ok_is (s, []) (t, []) (sym (m.complete bytes [] s p) ∙ m.complete bytes [] t q))

pub passes_begin : {A : Type 0} (R : List ℕ → Rest) (S : List ℕ → A → Type 0) → Passes R S → NoneBeginsAnother S
passes_begin R S m a b x y s t p q e =
    let rest : x ≡ y = ok_is x y (sym (m.complete a x s p) ∙ ap R e ∙ m.complete b y t q) in
    (append_cancel_right a b y (ap (λ (z : List ℕ). a ++ z) (sym rest) ∙ e), rest)
