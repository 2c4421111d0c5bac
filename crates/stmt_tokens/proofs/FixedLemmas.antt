-- Keywords and signs are cut off again.
use Rattle.std.proofs.Common.{◌≡◌, Bool, refl, true, false}
use Rattle.std.specs.Prelude.{codes}
use Rattle.stmt_tokens.proofs.AsciiLemmas.{ascii_text}
use Rattle.stmt_tokens.specs.Tokens.{keyword}
use Rattle.stmt_tokens.specs.declared.token.Keyword.{Keyword}
use Rattle.stmt_tokens.specs.declared.token.Keyword.TheVariants as words
use Rattle.stmt_tokens.specs.declared.token.Kind.{Kind}
use Rattle.stmt_tokens.specs.declared.token.Kind.TheVariants as k
use Rattle.stmt_tokens.specs.declared.token.Sign.{Sign}
use Rattle.stmt_tokens.specs.declared.token.Sign.TheVariants as signs
use Rattle.stmt_tokens.specs.Spelled.{IsCut, fixed, mark, word}

pub cut_word : (a : Keyword) → IsCut (word a)
unfolding keyword
cut_word words.And = (refl, λ more. rw (ascii_text (codes "AND") refl) refl)
cut_word words.Default = (refl, λ more. rw (ascii_text (codes "DEFAULT") refl) refl)
cut_word words.False = (refl, λ more. rw (ascii_text (codes "FALSE") refl) refl)
cut_word words.From = (refl, λ more. rw (ascii_text (codes "FROM") refl) refl)
cut_word words.Is = (refl, λ more. rw (ascii_text (codes "IS") refl) refl)
cut_word words.Not = (refl, λ more. rw (ascii_text (codes "NOT") refl) refl)
cut_word words.Null = (refl, λ more. rw (ascii_text (codes "NULL") refl) refl)
cut_word words.Or = (refl, λ more. rw (ascii_text (codes "OR") refl) refl)
cut_word words.RowId = (refl, λ more. rw (ascii_text (codes "ROWID") refl) refl)
cut_word words.Select = (refl, λ more. rw (ascii_text (codes "SELECT") refl) refl)
cut_word words.Set = (refl, λ more. rw (ascii_text (codes "SET") refl) refl)
cut_word words.Table = (refl, λ more. rw (ascii_text (codes "TABLE") refl) refl)
cut_word words.To = (refl, λ more. rw (ascii_text (codes "TO") refl) refl)
cut_word words.True = (refl, λ more. rw (ascii_text (codes "TRUE") refl) refl)
cut_word words.Values = (refl, λ more. rw (ascii_text (codes "VALUES") refl) refl)
cut_word words.Where = (refl, λ more. rw (ascii_text (codes "WHERE") refl) refl)
cut_word words.Add = (refl, λ more. rw (ascii_text (codes "ADD") refl) refl)
cut_word words.Alter = (refl, λ more. rw (ascii_text (codes "ALTER") refl) refl)
cut_word words.At = (refl, λ more. rw (ascii_text (codes "AT") refl) refl)
cut_word words.Begin = (refl, λ more. rw (ascii_text (codes "BEGIN") refl) refl)
cut_word words.BigInt = (refl, λ more. rw (ascii_text (codes "BIGINT") refl) refl)
cut_word words.Blob = (refl, λ more. rw (ascii_text (codes "BLOB") refl) refl)
cut_word words.Boolean = (refl, λ more. rw (ascii_text (codes "BOOLEAN") refl) refl)
cut_word words.Clean = (refl, λ more. rw (ascii_text (codes "CLEAN") refl) refl)
cut_word words.Column = (refl, λ more. rw (ascii_text (codes "COLUMN") refl) refl)
cut_word words.Commit = (refl, λ more. rw (ascii_text (codes "COMMIT") refl) refl)
cut_word words.Compact = (refl, λ more. rw (ascii_text (codes "COMPACT") refl) refl)
cut_word words.Create = (refl, λ more. rw (ascii_text (codes "CREATE") refl) refl)
cut_word words.Data = (refl, λ more. rw (ascii_text (codes "DATA") refl) refl)
cut_word words.Date = (refl, λ more. rw (ascii_text (codes "DATE") refl) refl)
cut_word words.Delete = (refl, λ more. rw (ascii_text (codes "DELETE") refl) refl)
cut_word words.Drop = (refl, λ more. rw (ascii_text (codes "DROP") refl) refl)
cut_word words.Expire = (refl, λ more. rw (ascii_text (codes "EXPIRE") refl) refl)
cut_word words.Flush = (refl, λ more. rw (ascii_text (codes "FLUSH") refl) refl)
cut_word words.Insert = (refl, λ more. rw (ascii_text (codes "INSERT") refl) refl)
cut_word words.Integer = (refl, λ more. rw (ascii_text (codes "INTEGER") refl) refl)
cut_word words.Into = (refl, λ more. rw (ascii_text (codes "INTO") refl) refl)
cut_word words.Rename = (refl, λ more. rw (ascii_text (codes "RENAME") refl) refl)
cut_word words.Rollback = (refl, λ more. rw (ascii_text (codes "ROLLBACK") refl) refl)
cut_word words.Schema = (refl, λ more. rw (ascii_text (codes "SCHEMA") refl) refl)
cut_word words.SmallInt = (refl, λ more. rw (ascii_text (codes "SMALLINT") refl) refl)
cut_word words.Snapshots = (refl, λ more. rw (ascii_text (codes "SNAPSHOTS") refl) refl)
cut_word words.TinyInt = (refl, λ more. rw (ascii_text (codes "TINYINT") refl) refl)
cut_word words.Type = (refl, λ more. rw (ascii_text (codes "TYPE") refl) refl)
cut_word words.Update = (refl, λ more. rw (ascii_text (codes "UPDATE") refl) refl)
cut_word words.Varchar = (refl, λ more. rw (ascii_text (codes "VARCHAR") refl) refl)
cut_word words.Version = (refl, λ more. rw (ascii_text (codes "VERSION") refl) refl)

pub cut_mark : (a : Sign) → IsCut (mark a)
cut_mark signs.LeftParen = (refl, λ more. refl)
cut_mark signs.RightParen = (refl, λ more. refl)
cut_mark signs.Comma = (refl, λ more. refl)
cut_mark signs.Dot = (refl, λ more. refl)
cut_mark signs.Semicolon = (refl, λ more. refl)
cut_mark signs.Star = (refl, λ more. refl)
cut_mark signs.Eq = (refl, λ more. refl)
cut_mark signs.Ne = (refl, λ more. refl)
cut_mark signs.Lt = (refl, λ more. refl)
cut_mark signs.Le = (refl, λ more. refl)
cut_mark signs.Gt = (refl, λ more. refl)
cut_mark signs.Ge = (refl, λ more. refl)
cut_mark signs.Arrow = (refl, λ more. refl)

-- a keyword or a sign
abbrev pub is_fixed : Kind → Bool
is_fixed (k.Keyword a) = true
is_fixed (k.Sign a) = true
is_fixed _ = false

pub cut_fixed : (a : Kind) → is_fixed a ≡ true → IsCut (fixed a)
cut_fixed (k.Keyword a) h = cut_word a
cut_fixed (k.Sign a) h = cut_mark a
cut_fixed k.Word h = cc
cut_fixed k.Quoted h = cc
cut_fixed k.Number h = cc
cut_fixed k.Text h = cc
cut_fixed k.Bytes h = cc
cut_fixed k.Bad h = cc
