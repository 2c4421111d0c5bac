use Rattle.std.proofs.Common.{◌≡◌, ◌∙◌, sym}
use Rattle.cat_rows.specs.Batches.{tables_of}
use Rattle.cat_rows.specs.Steps.{passes}
use Rattle.cat_rows.proofs.FitLemmas.{Decides-passes}
use Rattle.cat_rows.proofs.fitting.fits_batch.Goals as goal

pub returns : goal.returns
returns c =
    let t = tables_of c.args.rows.now in
    let b = c.args.batch.now in
    let test : c.passes.result ≡ passes t b.removes b.ends b.adds = rw (c.as_slice.ensures, c.as_slice-2.ensures, c.as_slice-3.ensures) at c.passes.ensures in
    let d = Decides-passes t b in
    (λ h. d.0 (sym test ∙ h), λ fits. test ∙ d.1 fits)
