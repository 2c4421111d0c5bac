-- A line for each keyword and each sign.
use Rattle.std.proofs.Common.{ℕ, List, [], ◌∷◌, refl}
use Rattle.std.specs.Prelude.{codes}
use Rattle.stmt_tokens.specs.declared.token.Keyword.{Keyword}
use Rattle.stmt_tokens.specs.declared.token.Keyword.TheVariants as words
use Rattle.stmt_tokens.specs.declared.token.Kind.{Kind}
use Rattle.stmt_tokens.specs.declared.token.Kind.TheVariants as k
use Rattle.stmt_tokens.specs.declared.token.Sign.{Sign}
use Rattle.stmt_tokens.specs.declared.token.Sign.TheVariants as signs
use Rattle.stmt_tokens.specs.declared.token.Token.{Token}
use Rattle.stmt_tokens.specs.Tokens.{keyword}
use Rattle.stmt_tokens.proofs.AsciiLemmas.{ascii_text}
use Rattle.stmt_grammar.specs.Phrases.{is, mark, word}
use Rattle.stmt_grammar.proofs.Sound.{Sound}

abbrev with_text : Kind → List ℕ → Token
with_text a text = record { kind = a; text = text }

pub sound_word : (a : Keyword) → Sound (word a)
unfolding is keyword
sound_word words.And = (with_text (k.Keyword words.And) (codes "AND"), (codes "AND", rw (ascii_text (codes "AND") refl) refl), refl)
sound_word words.Default = (with_text (k.Keyword words.Default) (codes "DEFAULT"), (codes "DEFAULT", rw (ascii_text (codes "DEFAULT") refl) refl), refl)
sound_word words.False = (with_text (k.Keyword words.False) (codes "FALSE"), (codes "FALSE", rw (ascii_text (codes "FALSE") refl) refl), refl)
sound_word words.From = (with_text (k.Keyword words.From) (codes "FROM"), (codes "FROM", rw (ascii_text (codes "FROM") refl) refl), refl)
sound_word words.Is = (with_text (k.Keyword words.Is) (codes "IS"), (codes "IS", rw (ascii_text (codes "IS") refl) refl), refl)
sound_word words.Not = (with_text (k.Keyword words.Not) (codes "NOT"), (codes "NOT", rw (ascii_text (codes "NOT") refl) refl), refl)
sound_word words.Null = (with_text (k.Keyword words.Null) (codes "NULL"), (codes "NULL", rw (ascii_text (codes "NULL") refl) refl), refl)
sound_word words.Or = (with_text (k.Keyword words.Or) (codes "OR"), (codes "OR", rw (ascii_text (codes "OR") refl) refl), refl)
sound_word words.RowId = (with_text (k.Keyword words.RowId) (codes "ROWID"), (codes "ROWID", rw (ascii_text (codes "ROWID") refl) refl), refl)
sound_word words.Select = (with_text (k.Keyword words.Select) (codes "SELECT"), (codes "SELECT", rw (ascii_text (codes "SELECT") refl) refl), refl)
sound_word words.Set = (with_text (k.Keyword words.Set) (codes "SET"), (codes "SET", rw (ascii_text (codes "SET") refl) refl), refl)
sound_word words.Table = (with_text (k.Keyword words.Table) (codes "TABLE"), (codes "TABLE", rw (ascii_text (codes "TABLE") refl) refl), refl)
sound_word words.To = (with_text (k.Keyword words.To) (codes "TO"), (codes "TO", rw (ascii_text (codes "TO") refl) refl), refl)
sound_word words.True = (with_text (k.Keyword words.True) (codes "TRUE"), (codes "TRUE", rw (ascii_text (codes "TRUE") refl) refl), refl)
sound_word words.Values = (with_text (k.Keyword words.Values) (codes "VALUES"), (codes "VALUES", rw (ascii_text (codes "VALUES") refl) refl), refl)
sound_word words.Where = (with_text (k.Keyword words.Where) (codes "WHERE"), (codes "WHERE", rw (ascii_text (codes "WHERE") refl) refl), refl)
sound_word words.Add = (with_text (k.Keyword words.Add) (codes "ADD"), (codes "ADD", rw (ascii_text (codes "ADD") refl) refl), refl)
sound_word words.Alter = (with_text (k.Keyword words.Alter) (codes "ALTER"), (codes "ALTER", rw (ascii_text (codes "ALTER") refl) refl), refl)
sound_word words.At = (with_text (k.Keyword words.At) (codes "AT"), (codes "AT", rw (ascii_text (codes "AT") refl) refl), refl)
sound_word words.Begin = (with_text (k.Keyword words.Begin) (codes "BEGIN"), (codes "BEGIN", rw (ascii_text (codes "BEGIN") refl) refl), refl)
sound_word words.BigInt = (with_text (k.Keyword words.BigInt) (codes "BIGINT"), (codes "BIGINT", rw (ascii_text (codes "BIGINT") refl) refl), refl)
sound_word words.Blob = (with_text (k.Keyword words.Blob) (codes "BLOB"), (codes "BLOB", rw (ascii_text (codes "BLOB") refl) refl), refl)
sound_word words.Boolean = (with_text (k.Keyword words.Boolean) (codes "BOOLEAN"), (codes "BOOLEAN", rw (ascii_text (codes "BOOLEAN") refl) refl), refl)
sound_word words.Clean = (with_text (k.Keyword words.Clean) (codes "CLEAN"), (codes "CLEAN", rw (ascii_text (codes "CLEAN") refl) refl), refl)
sound_word words.Column = (with_text (k.Keyword words.Column) (codes "COLUMN"), (codes "COLUMN", rw (ascii_text (codes "COLUMN") refl) refl), refl)
sound_word words.Commit = (with_text (k.Keyword words.Commit) (codes "COMMIT"), (codes "COMMIT", rw (ascii_text (codes "COMMIT") refl) refl), refl)
sound_word words.Compact = (with_text (k.Keyword words.Compact) (codes "COMPACT"), (codes "COMPACT", rw (ascii_text (codes "COMPACT") refl) refl), refl)
sound_word words.Create = (with_text (k.Keyword words.Create) (codes "CREATE"), (codes "CREATE", rw (ascii_text (codes "CREATE") refl) refl), refl)
sound_word words.Data = (with_text (k.Keyword words.Data) (codes "DATA"), (codes "DATA", rw (ascii_text (codes "DATA") refl) refl), refl)
sound_word words.Date = (with_text (k.Keyword words.Date) (codes "DATE"), (codes "DATE", rw (ascii_text (codes "DATE") refl) refl), refl)
sound_word words.Delete = (with_text (k.Keyword words.Delete) (codes "DELETE"), (codes "DELETE", rw (ascii_text (codes "DELETE") refl) refl), refl)
sound_word words.Drop = (with_text (k.Keyword words.Drop) (codes "DROP"), (codes "DROP", rw (ascii_text (codes "DROP") refl) refl), refl)
sound_word words.Expire = (with_text (k.Keyword words.Expire) (codes "EXPIRE"), (codes "EXPIRE", rw (ascii_text (codes "EXPIRE") refl) refl), refl)
sound_word words.Flush = (with_text (k.Keyword words.Flush) (codes "FLUSH"), (codes "FLUSH", rw (ascii_text (codes "FLUSH") refl) refl), refl)
sound_word words.Insert = (with_text (k.Keyword words.Insert) (codes "INSERT"), (codes "INSERT", rw (ascii_text (codes "INSERT") refl) refl), refl)
sound_word words.Integer = (with_text (k.Keyword words.Integer) (codes "INTEGER"), (codes "INTEGER", rw (ascii_text (codes "INTEGER") refl) refl), refl)
sound_word words.Into = (with_text (k.Keyword words.Into) (codes "INTO"), (codes "INTO", rw (ascii_text (codes "INTO") refl) refl), refl)
sound_word words.Rename = (with_text (k.Keyword words.Rename) (codes "RENAME"), (codes "RENAME", rw (ascii_text (codes "RENAME") refl) refl), refl)
sound_word words.Rollback = (with_text (k.Keyword words.Rollback) (codes "ROLLBACK"), (codes "ROLLBACK", rw (ascii_text (codes "ROLLBACK") refl) refl), refl)
sound_word words.Schema = (with_text (k.Keyword words.Schema) (codes "SCHEMA"), (codes "SCHEMA", rw (ascii_text (codes "SCHEMA") refl) refl), refl)
sound_word words.SmallInt = (with_text (k.Keyword words.SmallInt) (codes "SMALLINT"), (codes "SMALLINT", rw (ascii_text (codes "SMALLINT") refl) refl), refl)
sound_word words.Snapshots = (with_text (k.Keyword words.Snapshots) (codes "SNAPSHOTS"), (codes "SNAPSHOTS", rw (ascii_text (codes "SNAPSHOTS") refl) refl), refl)
sound_word words.TinyInt = (with_text (k.Keyword words.TinyInt) (codes "TINYINT"), (codes "TINYINT", rw (ascii_text (codes "TINYINT") refl) refl), refl)
sound_word words.Type = (with_text (k.Keyword words.Type) (codes "TYPE"), (codes "TYPE", rw (ascii_text (codes "TYPE") refl) refl), refl)
sound_word words.Update = (with_text (k.Keyword words.Update) (codes "UPDATE"), (codes "UPDATE", rw (ascii_text (codes "UPDATE") refl) refl), refl)
sound_word words.Varchar = (with_text (k.Keyword words.Varchar) (codes "VARCHAR"), (codes "VARCHAR", rw (ascii_text (codes "VARCHAR") refl) refl), refl)
sound_word words.Version = (with_text (k.Keyword words.Version) (codes "VERSION"), (codes "VERSION", rw (ascii_text (codes "VERSION") refl) refl), refl)

pub sound_mark : (a : Sign) → Sound (mark a)
unfolding is
sound_mark signs.LeftParen = (with_text (k.Sign signs.LeftParen) [], ((40 ∷ []), refl), refl)
sound_mark signs.RightParen = (with_text (k.Sign signs.RightParen) [], ((41 ∷ []), refl), refl)
sound_mark signs.Comma = (with_text (k.Sign signs.Comma) [], ((44 ∷ []), refl), refl)
sound_mark signs.Dot = (with_text (k.Sign signs.Dot) [], ((46 ∷ []), refl), refl)
sound_mark signs.Semicolon = (with_text (k.Sign signs.Semicolon) [], ((59 ∷ []), refl), refl)
sound_mark signs.Star = (with_text (k.Sign signs.Star) [], ((42 ∷ []), refl), refl)
sound_mark signs.Eq = (with_text (k.Sign signs.Eq) [], ((61 ∷ []), refl), refl)
sound_mark signs.Ne = (with_text (k.Sign signs.Ne) [], ((60 ∷ 62 ∷ []), refl), refl)
sound_mark signs.Lt = (with_text (k.Sign signs.Lt) [], ((60 ∷ []), refl), refl)
sound_mark signs.Le = (with_text (k.Sign signs.Le) [], ((60 ∷ 61 ∷ []), refl), refl)
sound_mark signs.Gt = (with_text (k.Sign signs.Gt) [], ((62 ∷ []), refl), refl)
sound_mark signs.Ge = (with_text (k.Sign signs.Ge) [], ((62 ∷ 61 ∷ []), refl), refl)
sound_mark signs.Arrow = (with_text (k.Sign signs.Arrow) [], ((61 ∷ 62 ∷ []), refl), refl)
