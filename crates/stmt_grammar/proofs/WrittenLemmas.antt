-- Tokens that a line can have, one behind the other.
use Rattle.std.proofs.Common.{List, [], ◌∷◌, ◌++◌}
use Rattle.stmt_tokens.specs.declared.token.Token.{Token}
use Rattle.stmt_grammar.specs.Written.{AllWritten}

pub append_written : (a b : List Token) → AllWritten a → AllWritten b → AllWritten (a ++ b)
append_written [] b h k = k
append_written (t ∷ a) b h k = (h.0, append_written a b h.1 k)
