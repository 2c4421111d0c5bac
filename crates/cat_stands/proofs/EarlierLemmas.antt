-- A batch that is past a snapshot leaves what this one sees, and so its version and its state.
use Rattle.std.proofs.Common.{[], ◌∷◌, sym, subst}
use Rattle.cat_rows.specs.Seen.{Seen}
use Rattle.cat_rows.proofs.EarlierLemmas.{seen_before}
use Rattle.cat_view.specs.Sight.{IsVersionOf}
use Rattle.cat_stands.specs.Laws.{EarlierStatesStay, EarlierVersionsStay, KeptVersionsStay}
use Rattle.cat_stands.specs.Stands.{IsPlain}

pub versions-stay : EarlierVersionsStay
versions-stay b t s past v =
    let P : Seen → Type 0 = λ seen. IsVersionOf seen v in
    let same = seen_before b t s past in
    (subst P (sym same), subst P same)

pub states-stay : EarlierStatesStay
states-stay files b t s past state =
    let P : Seen → Type 0 = λ seen. IsPlain files seen state in
    let same = seen_before b t s past in
    (subst P (sym same), subst P same)

pub kept-stay : KeptVersionsStay
kept-stay files b t [] [] past have = tt
kept-stay files b t [] (v ∷ vs) past have = absurd have
kept-stay files b t (r ∷ rs) [] past have = absurd have
kept-stay files b t (r ∷ rs) (v ∷ vs) past have =
    ((states-stay files b t r.snapshot_id past.0 v.state).0 have.0, kept-stay files b t rs vs past.1 have.1)
