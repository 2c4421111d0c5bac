-- Names of columns.
use Rattle.std.proofs.Common.{◌≡◌, ℕ, List, Some, None, IsUtf8, refl}
use Rattle.std.proofs.lemmas.Str.{is_utf8-from_IsUtf8}
use Rattle.thrift_compact.proofs.TextLemmas.{no_text}
use Rattle.pq_meta.specs.Columns.{name_of}

pub name-text : (text : List ℕ) → IsUtf8 text → name_of (Some text) ≡ Some text
name-text text h = rw (is_utf8-from_IsUtf8 text h) refl

pub name-none : (text : List ℕ) → (IsUtf8 text → ⊥) → name_of (Some text) ≡ None
name-none text h = rw (no_text text h) refl

pub ruleset names = (name-text, name-none)
