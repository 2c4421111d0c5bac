use Rattle.lake_model.proofs.CatalogLemmas.{catalog_ids_rise}
use Rattle.lake_model.proofs.laws.catalog_ids_rise.Goals as goal

pub returns-clause-kept : goal.returns-clause-kept
returns-clause-kept c = catalog_ids_rise
