-- Rows that are opened break no rule, or one of what is told.
use Rattle.std.proofs.Common.{◌≡◌, Option, None, Some, IfSome, Result, Ok, Err, IfErr, ℕ, ℤ, IfOk, sym, subst, ◌∙◌}
use Rattle.cat_rows.specs.Batches.{tables_of}
use Rattle.cat_rows.specs.Tables.{Tables}
use Rattle.cat_rows.specs.declared.content.CatRows.{CatRows}
use Rattle.cat_rules.specs.Sane.{IsFirstBadRow}
use Rattle.cat_stands.specs.New.{new_tables}
use Rattle.cat_stands.proofs.NewLemmas.{new_lake-stands}
use Rattle.recover.specs.Opening.{WhyNoRows}
use Rattle.recover.specs.declared.no.OpenNo.{OpenNo}
use Rattle.recover.specs.declared.no.OpenNo.TheVariants as open_no

-- those of snapshot 0 break none
pub sane_begun : {E : Type 0} (r : Result CatRows E) (time : ℤ) → IfOk r (λ rows. tables_of rows ≡ new_tables time) → IfOk r (λ rows. IsFirstBadRow (tables_of rows) None)
sane_begun (Ok rows) time is = subst (λ (t : Tables). IsFirstBadRow t None) (sym is) (new_lake-stands (λ name. None) time).rules
sane_begun (Err why) time is = tt

why_told : (before now : ℕ) (told : Option Tables) (rows : Tables) → IfSome told (λ t. t ≡ rows) → (why : OpenNo) → WhyNoRows before now (Some rows) why → WhyNoRows before now told why
why_told before now None rows is (open_no.BadRow bad) h = tt
why_told before now (Some t) rows is (open_no.BadRow bad) h = subst (λ (u : Tables). IsFirstBadRow u (Some bad)) (sym is) h
why_told before now told rows is open_no.KeeperFault h = h
why_told before now told rows is open_no.DiskFault h = h
why_told before now told rows is (open_no.FileMissing name) h = h
why_told before now told rows is (open_no.FileSize name want got) h = h
why_told before now told rows is open_no.Memory h = tt

-- the bad row of rows that were loaded is one of the content that is told
pub why_ruled : {T : Type 0} (r : Result T OpenNo) (before now : ℕ) (told content : Option Tables) (rows : Tables) → content ≡ told → IfSome content (λ t. t ≡ rows)
    → IfErr r (WhyNoRows before now (Some rows)) → IfErr r (WhyNoRows before now told)
why_ruled (Ok x) before now told content rows same is h = tt
why_ruled (Err why) before now told content rows same is h = why_told before now told rows (subst (λ (o : Option Tables). IfSome o (λ t. t ≡ rows)) same is) why h
