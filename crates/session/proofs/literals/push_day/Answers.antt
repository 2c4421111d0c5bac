use Rattle.std.proofs.Common.{rules, ◌≡◌, ◌∙◌, ap, true}
use Rattle.jiff_core.specs.Date.{epoch_day}
use Rattle.lake_types.specs.Calendar.{day_text, is_day}
use Rattle.lake_types.proofs.CalendarLemmas.{text_of_date}
use Rattle.session.proofs.literals.push_day.Goals as goal

pub returns : goal.returns
returns c =
    let day : epoch_day c.in-Ok.date ≡ c.args.day = search rules in
    let is : is_day c.args.day ≡ true = search rules in
    let text : c.as_str.result.now ≡ day_text c.args.day = c.as_str.ensures.value ∙ c.date_text.ensures ∙ text_of_date c.in-Ok.date (rw day is) ∙ ap day_text day in
    rw (← text) (search rules)
