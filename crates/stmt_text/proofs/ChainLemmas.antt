-- The parts of a chain that are still to be put.
use Rattle.std.proofs.Common.{Bool, true, false, List}
use Rattle.stmt_tokens.specs.declared.token.Kind.{Kind}
use Rattle.stmt_tokens.specs.declared.token.Token.{Token}
use Rattle.stmt_text.specs.Printed.{Shown, chain_tokens, others}

-- behind the first part each has a word before it
abbrev pub pending : Kind → Bool → List Shown → List Token
pending sep true parts = chain_tokens sep parts
pending sep false parts = others sep (λ (s : Shown). s.tokens) parts
