-- Texts, one after the other.
use Rattle.std.proofs.lemmas.Str.{is_utf8-from_IsUtf8}
use Rattle.thrift_compact.proofs.TextLemmas.{no_text}

pub ruleset text_tests = (no_text, is_utf8-from_IsUtf8)
