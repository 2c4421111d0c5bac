-- What a snapshot's kinds tell of its rows stays told by later batches, and gives what a base and a head share.
use Rattle.std.proofs.Common.{◌≡◌, ◌≢◌, ℕ, ◌+◌, ◌<◌, Bool, true, false, cond, List, [], ◌∷◌, sym, ◌∙◌, arith, Option, Some, None}
use Rattle.std.specs.Prelude.{is_none}
use Rattle.std.specs.List.{AllByRecursion}
use Rattle.cat_tables.specs.Table.{put, put_all, edited, has_key}
use Rattle.cat_tables.specs.Validity.{Validity, IsValidity, Tells, Rests, ended_at, all_ended}
use Rattle.cat_tables.proofs.PutLemmas.{all-put}

module _ {R : Type 0} (key : R → List ℕ) (v : Validity R) (laws : IsValidity v key) (named : R → Bool) (stays : (e : Option ℕ) (r : R) → named (v.with_end e r) ≡ named r) (s : ℕ) where
  tells-ended_at : (n : ℕ) (r : R) → s < n → Tells v named s r → Tells v named s (ended_at v n r)
  tells-ended_at n r h t = go (is_none (v.end r))
    where
      later : Some n ≢ Some s
      later e = let same : n ≡ s = cc in absurd (omega arith)

      go : (b : Bool) → Tells v named s (cond b (v.with_end (Some n) r) r)
      go true q = (λ e. (t (sym (stays (Some n) r) ∙ q)).0 (sym (laws.begin_stays (Some n) r) ∙ e), λ e. later (sym (laws.end_is (Some n) r) ∙ e))
      go false q = t q

  tells-edited : (n : ℕ) (k : List ℕ) (rs : List R) → s < n → AllByRecursion (Tells v named s) rs → AllByRecursion (Tells v named s) (edited key (ended_at v n) k rs)
  tells-edited n k [] h t = tt
  tells-edited n k (r ∷ rs) h t = (elim (has_key key k r) as (λ b. Tells v named s (cond b (ended_at v n r) r)) [ true ↦ tells-ended_at n r h t.0 | false ↦ t.0 ], tells-edited n k rs h t.1)

  pub tells-all_ended : (ends : List (List ℕ × ℕ)) (rs : List R) → AllByRecursion (λ e. s < e.1) ends → AllByRecursion (Tells v named s) rs → AllByRecursion (Tells v named s) (all_ended v key ends rs)
  tells-all_ended [] rs h t = t
  tells-all_ended (e ∷ ends) rs h t = tells-all_ended ends (edited key (ended_at v e.1) e.0 rs) h.1 (tells-edited e.1 e.0 rs h.0 t)

  pub tells-put_all : (news rs : List R) → AllByRecursion (λ r. (s < v.begin r) × (v.end r ≡ None)) news → AllByRecursion (Tells v named s) rs → AllByRecursion (Tells v named s) (put_all key news rs)
  tells-put_all [] rs h t = t
  tells-put_all (new ∷ news) rs h t =
      let fresh : Tells v named s new = λ q. (λ e. (let late : s < v.begin new = h.0.0 in absurd (omega arith)), λ e. (let none : None ≡ Some s = sym h.0.1 ∙ e in cc)) in
      tells-put_all news (put key new rs) h.1 (all-put key (Tells v named s) new rs fresh t)

-- a kind that isn't there: what it would name rests
pub rests-told : {R : Type 0} (v : Validity R) (named p : R → Bool) (n : ℕ) (r : R) → (p r ≡ true → named r ≡ false) → Tells v named (n + 1) r → Rests v p n r
rests-told v named p n r apart t q = t (apart q)
