-- Chains of steps, and faults that are handed on.
use Rattle.std.proofs.Common.{◌≡◌, ◌↔◌, Bool, true, false, Result, Ok, Err, IfOk, refl, sym, ap, subst, ◌∙◌}
use Rattle.std.specs.Bool.{OnFalse}
use Rattle.answers.specs.Answers.{◌>>=◌, raised, Fails, Gives, IsNever, Decides}

-- ---- steps that gave a value

-- each of two steps gave one
pub record Steps {A B E : Type 0} (first : Result A E) (next : A → Result B E) (made : B) : Type 0 where
  pub value : A
  pub gives : first ≡ Ok value
  pub later : next value ≡ Ok made

pub steps : {A B E : Type 0} (first : Result A E) (next : A → Result B E) (made : B) → (first >>= next) ≡ Ok made → Steps first next made
steps (Ok x) next made h = record { value = x; gives = refl; later = h }
steps (Err e) next made h = cc

pub ok_same : {A E : Type 0} (x y : A) → ◌≡◌ {A = Result A E} (Ok x) (Ok y) → x ≡ y
ok_same x y h = cc

pub err_ok : {A E : Type 0} (e : E) (y : A) → ◌≡◌ {A = Result A E} (Err e) (Ok y) → ⊥
err_ok e y h = cc

pub err_same : {A E : Type 0} (d e : E) → ◌≡◌ {A = Result A E} (Err d) (Err e) → d ≡ e
err_same d e h = cc

pub raised_ok : {A E F : Type 0} (raise : E → F) (read : Result A E) (x : A) → raised raise read ≡ Ok x → read ≡ Ok x
raised_ok raise (Ok y) x h = cc
raised_ok raise (Err e) x h = cc

-- ---- faults

on_false : (b : Bool) (P Q : Type 0) → (P → Q) → OnFalse b P → OnFalse b Q
on_false true P Q f h = tt
on_false false P Q f h = f h

always : (b : Bool) (P : Type 0) → P → OnFalse b P
always true P h = tt
always false P h = h

-- a fault of the definition is its fault
pub stands : {A E : Type 0} (is_memory : E → Bool) (e : E) (read : Result A E) → read ≡ Err e → Fails is_memory e read
stands is_memory e read h = always (is_memory e) (read ≡ Err e) h

-- the first fault of two steps stands
pub handed_on : {A B E : Type 0} (is_memory : E → Bool) (e : E) (read : Result A E) (next : A → Result B E) → Fails is_memory e read → Fails is_memory e (read >>= next)
handed_on is_memory e read next h = on_false (is_memory e) (read ≡ Err e) ((read >>= next) ≡ Err e) (λ is. rw is refl) h

still_memory : {A E F : Type 0} (raise : E → F) (e : E) (read : Result A E) (b c : Bool) → (b ≡ true → c ≡ true) → OnFalse b (read ≡ Err e) → OnFalse c (raised raise read ≡ Err (raise e))
still_memory raise e read true c kept h = rw (kept refl) tt
still_memory raise e read false c kept h = always c _ (rw h refl)

-- a fault, seen from another type of faults
pub raised_fails : {A E F : Type 0} (is_memory : E → Bool) (is_ours : F → Bool) (raise : E → F) (e : E) (read : Result A E) → (is_memory e ≡ true → is_ours (raise e) ≡ true)
    → Fails is_memory e read → Fails is_ours (raise e) (raised raise read)
raised_fails is_memory is_ours raise e read kept h = still_memory raise e read (is_memory e) (is_ours (raise e)) kept h

-- the first fault of two steps stands, seen from another type of faults
pub raised_handed_on : {A B E F : Type 0} (is_memory : F → Bool) (raise : E → F) (e : F) (read : Result A E) (next : A → Result B E)
    → Fails is_memory e (raised raise read) → Fails is_memory e (raised raise (read >>= next))
raised_handed_on {A = A} {F = F} is_memory raise e (Ok x) next h =
    on_false (is_memory e) (◌≡◌ {A = Result A F} (Ok x) (Err e)) (raised raise (next x) ≡ Err e) (λ never. absurd (err_ok e x (sym never))) h
raised_handed_on {A = A} {B = B} {F = F} is_memory raise e (Err f) next h =
    on_false (is_memory e) (◌≡◌ {A = Result A F} (Err (raise f)) (Err e)) (◌≡◌ {A = Result B F} (Err (raise f)) (Err e)) (λ same. ap (λ (x : F). Err x) (err_same (raise f) e same)) h

-- ---- what is answered

-- what holds of each value that the definition may give holds of the value that is answered
pub gives_holds : {A B E : Type 0} (is_memory : E → Bool) (view : A → B) (result : Result A E) (read : Result B E) (P : B → Type 0)
    → ((y : B) → read ≡ Ok y → P y) → Gives is_memory view result read → IfOk result (λ x. P (view x))
gives_holds is_memory view (Ok x) read P holds h = holds (view x) h
gives_holds is_memory view (Err e) read P holds h = tt

pub gives_same : {A B E : Type 0} (is_memory : E → Bool) (view : A → B) (result : Result A E) (read other : Result B E)
    → read ≡ other → Gives is_memory view result read → Gives is_memory view result other
gives_same is_memory view result read other same h = subst (λ r. Gives is_memory view result r) same h

-- where the definition gives exactly the values of which P holds, what is answered is the only one, or there is none
pub decides : {A B E : Type 0} (is_memory : E → Bool) (view : A → B) (P : B → Type 0) (result : Result A E) (read : Result B E)
    → ((y : B) → (read ≡ Ok y) ↔ P y) → Gives is_memory view result read → Decides is_memory view P result
decides is_memory view P (Ok x) read law h = record { holds = (law (view x)).0 h; only = λ other is. ok_same other (view x) (sym ((law other).1 is) ∙ h) }
decides is_memory view P (Err e) read law h =
    on_false (is_memory e) (read ≡ Err e) (IsNever P) (λ fails y is. err_ok e y (sym fails ∙ (law y).1 is)) h
