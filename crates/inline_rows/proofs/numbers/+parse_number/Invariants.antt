use Rattle.inline_rows.proofs.numbers.+parse_number.Given as goal

abbrev pub decreases-parse_number : goal.decreases-parse_number
decreases-parse_number l = l.most
