use Rattle.std.proofs.Common.{◌≡◌, ◌∙◌, ap, rules}
use Rattle.std.proofs.lemmas.Result.{IfOk-weaker}
use Rattle.jiff_core.specs.Date.{epoch_day}
use Rattle.lake_types.proofs.CalendarLemmas.{text_of_date}
use Rattle.lake_types.specs.Calendar.{day_text}
use Rattle.lake_types.proofs.dates.day_text.Goals as goal

pub returns : goal.returns
returns c =
    let day : epoch_day c.in-Ok.date ≡ c.args.day = search rules in
    let text = text_of_date c.in-Ok.date (rw day c.requires) in
    IfOk-weaker c.from_str.result _ _ (λ s e. e ∙ c.as_str.ensures.value ∙ c.date_text.ensures ∙ text ∙ ap day_text day) c.from_str.ensures.ok
