use Rattle.std.proofs.Common.{ap, ◌∙◌}
use Rattle.lake_types.specs.Truth.{not_of}
use Rattle.lake_types.specs.declared.value.Value.TheVariants as value
use Rattle.pred.proofs.TruthLemmas.{bound_truth-Compare, bound_truth-Not, compared-null, compared-with-null}
use Rattle.pred.proofs.laws.null_is_unknown.Goals as goal

pub returns : goal.returns
returns c = record {
  cells = λ cell field o literal null. bound_truth-Compare cell field o literal ∙ compared-null o (cell field) literal null;
  literals = λ cell field o. bound_truth-Compare cell field o value.Null ∙ compared-with-null o (cell field);
  negated = λ cell part unknown. bound_truth-Not cell part ∙ ap not_of unknown;
}
