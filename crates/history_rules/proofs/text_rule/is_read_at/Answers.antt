use Rattle.std.proofs.Common.{◌≡◌, List, sym, ap, ◌∙◌, subst}
use Rattle.std.specs.Bool.{Decides}
use Rattle.std.specs.Option.{option_copied}
use Rattle.std.specs.Prelude.{IfOk}
use Rattle.lake_types.specs.declared.kind.SchemaName.{SchemaName}
use Rattle.history_rules.specs.Endings.{names_at, names_in}
use Rattle.cat_rules.specs.HistoryRule.{IsRead}
use Rattle.history_rules.proofs.text_rule.is_read_at.Goals as goal

pub returns-in-Some : goal.returns-in-Some
returns-in-Some c =
    let T : List SchemaName → Type 0 = λ names. IfOk c.is_read.result (λ yes. Decides yes (IsRead names c.args.text.now)) in
    let same : c.in-Some.names.now ≡ names_at c.args.endings.now c.args.snapshot = sym (ap (λ o. names_in (option_copied o)) c.in-Some.is) ∙ ap names_in c.get.ensures.value in
    subst T same c.is_read.ensures

pub returns-in-None : goal.returns-in-None
returns-in-None c =
    let T : List SchemaName → Type 0 = λ names. IfOk c.is_read-in-None-2.result (λ yes. Decides yes (IsRead names c.args.text.now)) in
    let same : c.new.result ≡ names_at c.args.endings.now c.args.snapshot = c.new.ensures ∙ sym (ap (λ o. names_in (option_copied o)) c.in-None.is) ∙ ap names_in c.get.ensures.value in
    subst T same c.is_read-in-None-2.ensures
