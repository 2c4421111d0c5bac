use Rattle.std.proofs.Common.{rules, ◌≡◌, ◌∙◌, sym, ap, true, Ok, to_z, of_z, w32}
use Rattle.jiff_core.specs.Date.{epoch_day}
use Rattle.jiff_fmt.specs.Temporal.{date_parts, parse_date}
use Rattle.jiff_fmt.specs.Text.{date_text}
use Rattle.lake_types.specs.Calendar.{is_day, day_text}
use Rattle.lake_types.proofs.CalendarLemmas.{text_of_date, is_read, read_as}
use Rattle.lake_types.proofs.dates.day_of.Goals as goal

pub returns-in_default-clause-none : goal.returns-in_default-clause-none
returns-in_default-clause-none c none day h e =
    let found = is_read day c.args.text.now h e in
    grind (rules, found.1)

pub returns-then-ne-clause-none : goal.returns-then-ne-clause-none
returns-then-ne-clause-none c none day h e =
    let read : parse_date c.args.text.now ≡ Ok (date_parts c.in-Ok.date) = search rules in
    let found = read_as day c.args.text.now c.in-Ok.date h e read in
    grind (rules, found.0)

pub returns-then-is_day-clause-some : goal.returns-then-is_day-clause-some
returns-then-is_day-clause-some c =
    let same : to_z w32 (of_z w32 c.to_unix_epoch_day-day.result) ≡ epoch_day c.in-Ok.date = search (rules) in
    let in_range : is_day (epoch_day c.in-Ok.date) ≡ true = rw same at (sym c.is_day.ensures ∙ c.if-is_day.true) in
    let told : date_text c.in-Ok.date ≡ c.args.text.now = search rules in
    (sym c.is_day.ensures ∙ c.if-is_day.true, ap day_text same ∙ sym (text_of_date c.in-Ok.date in_range) ∙ told)

pub returns-else-is_day-clause-none : goal.returns-else-is_day-clause-none
returns-else-is_day-clause-none c none day h e =
    let read : parse_date c.args.text.now ≡ Ok (date_parts c.in-Ok.date) = search rules in
    let found = read_as day c.args.text.now c.in-Ok.date h e read in
    let same : to_z w32 (of_z w32 c.to_unix_epoch_day-day.result) ≡ epoch_day c.in-Ok.date = search (rules) in
    grind (rules, found.1, same)
