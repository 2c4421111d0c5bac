-- The test of a text, by what it says.
use Rattle.std.proofs.lemmas.Str.{is_utf8-from_IsUtf8}
use Rattle.thrift_compact.proofs.TextLemmas.{no_text}

pub ruleset text_tests = (is_utf8-from_IsUtf8, no_text)
