-- Printed names, values and columns spell themselves.
use Rattle.std.proofs.Common.{◌≡◌, ℕ, ◌^◌, ◌<◌, ℤ, Bool, true, false, List, [], ◌∷◌, ◌++◌, refl, ap, arith, Option, Some, None, inl, inr}
use Rattle.std.specs.Prelude.{nat_le, option_map}
use Rattle.std.specs.Fmt.{decimal, signed_decimal}
use Rattle.std.specs.List.{list_all}
use Rattle.std.specs.Str.{is_utf8}
use Rattle.std.proofs.lemmas.Bool.{and_parts}
use Rattle.hex.specs.Hex.{encode_lower}
use Rattle.lake_types.specs.Calendar.{day_text, is_day}
use Rattle.lake_types.specs.declared.value.ColType.{ColType}
use Rattle.lake_types.specs.declared.value.ColType.TheVariants as ty
use Rattle.lake_types.specs.declared.value.Value.{Value}
use Rattle.lake_types.specs.declared.value.Value.TheVariants as value
use Rattle.lake_types.specs.declared.stmt.TableName.{TableName}
use Rattle.lake_types.specs.declared.stmt.ColumnDef.{ColumnDef}
use Rattle.stmt_tokens.specs.Tokens.{is_hex}
use Rattle.stmt_tokens.specs.declared.token.Keyword.TheVariants as words
use Rattle.stmt_tokens.specs.declared.token.Kind.TheVariants as k
use Rattle.stmt_tokens.specs.declared.token.Sign.TheVariants as signs
use Rattle.stmt_tokens.specs.declared.token.Token.{Token}
use Rattle.stmt_grammar.specs.Grammar.{maybe}
use Rattle.stmt_grammar.specs.Phrases.{is, word, mark, ◌then◌}
use Rattle.stmt_tokens.proofs.CutLemmas.{cut_bytes, cut_name, cut_text}
use Rattle.stmt_tokens.proofs.FixedLemmas.{cut_fixed}
use Rattle.stmt_tokens.specs.Laws.{token_of}
use Rattle.stmt_tokens.specs.Spelled.{fixed, IsCut}
use Rattle.stmt_reader.proofs.DateLemmas.{day_found}
use Rattle.stmt_reader.specs.Rules.{column, column_type, count, day_of, default_value, literal, name, nulls, session, table}
use Rattle.stmt_text.proofs.Puts.{Put, AllTyped, typed_parts, put_word, put_next, put_then}
use Rattle.stmt_text.proofs.ValuePuts.{read_session, read_count, read_integer, cut_decimal, cut_integer, even_digits, unhex_encoded}
use Rattle.stmt_text.specs.Printable.{is_name, is_table, is_literal, is_default, is_column, is_count}
use Rattle.stmt_text.specs.Printed.{is_typed, has_digits, quoted, name_tokens, table_tokens, number_tokens, literal_tokens, day_words, type_tokens, nulls_tokens, default_tokens, column_tokens}

-- the token is one of text
text_of : (t : Token) → is_typed t ≡ true → is_utf8 t.text ≡ true
text_of t h = (and_parts (is_utf8 t.text) (has_digits t.kind t.text) h).0

pub put_name : (n : List ℕ) → is_name n ≡ true → AllTyped (name_tokens n) → Put name (name_tokens n) n
unfolding name
put_name n h t = ((quoted n, refl, refl, refl), (cut_name n (text_of (quoted n) t.0) h, tt))

pub put_table : (t : TableName) → is_table t ≡ true → AllTyped (table_tokens t) → Put table (table_tokens t) t
unfolding table
put_table t h typed =
    let p = and_parts (is_name t.schema) (is_name t.table) h in
    let schema = put_name t.schema p.0 (typed.0, tt) in
    let rest = put_next (k.Sign signs.Dot) name (name_tokens t.table) t.table refl (put_name t.table p.1 (typed.1.1.0, tt)) in
    let all = put_then name (maybe (mark signs.Dot then name)) (name_tokens t.schema) (fixed (k.Sign signs.Dot) ∷ name_tokens t.table) t.schema (Some (tt, t.table)) schema rest in
    (((t.schema, Some (tt, t.table)), all.0, refl), all.1)

-- ---- numbers

number_cut : (n : ℕ) → n < 2 ^ 64 → AllTyped (number_tokens n) → IsCut (token_of k.Number (decimal n))
number_cut n h t = cut_decimal n h (text_of (token_of k.Number (decimal n)) t.0)

pub put_count : (n : ℕ) → is_count n ≡ true → AllTyped (number_tokens n) → Put count (number_tokens n) n
unfolding is
put_count n h t = ((token_of k.Number (decimal n), refl, refl, read_count n h), (number_cut n (grind arith) t, tt))

pub put_session : (n : ℕ) → nat_le 1 n ≡ true → nat_le n 16 ≡ true → AllTyped (number_tokens n) → Put session (number_tokens n) n
unfolding is
put_session n h l t = ((token_of k.Number (decimal n), refl, refl, read_session n h l), (number_cut n (grind arith) t, tt))

-- ---- values

day_read : (d : ℤ) → is_day d ≡ true → day_of (day_words d) ≡ Some (value.Date d)
unfolding day_of
day_read d h = rw h (ap (option_map value.Date) (day_found d (day_text d) h refl))

pub put_literal : (v : Value) → is_literal v ≡ true → AllTyped (literal_tokens v) → Put literal (literal_tokens v) v
unfolding literal is
put_literal value.Null h t = (inr (inr (inr (inr (fixed (k.Keyword words.Null), refl, refl, refl)))), (cut_fixed (k.Keyword words.Null) refl, tt))
put_literal (value.Bool true) h t = (inr (inr (inr (inr (fixed (k.Keyword words.True), refl, refl, refl)))), (cut_fixed (k.Keyword words.True) refl, tt))
put_literal (value.Bool false) h t = (inr (inr (inr (inr (fixed (k.Keyword words.False), refl, refl, refl)))), (cut_fixed (k.Keyword words.False) refl, tt))
put_literal (value.Int n) h t =
    let u = t.0 in
    (inl (token_of k.Number (signed_decimal n), refl, refl, ap (option_map value.Int) (read_integer n h)), (cut_integer n h (text_of (token_of k.Number (signed_decimal n)) u), tt))
put_literal (value.Text text) h t = (inr (inl (token_of k.Text text, refl, refl, refl)), (cut_text text (text_of (token_of k.Text text) t.0), tt))
put_literal (value.Bytes bytes) h t =
    let p = and_parts (is_utf8 (encode_lower bytes)) (list_all is_hex (encode_lower bytes)) t.0 in (
      inr (inr (inl (token_of k.Bytes (encode_lower bytes), refl, refl, ap (λ b. Some (value.Bytes b)) (unhex_encoded bytes p.1)))),
      (cut_bytes (encode_lower bytes) p.1 (even_digits bytes) p.0, tt),
    )
put_literal (value.Date d) h t = (
  inr (inr (inr (inl ((tt, value.Date d), (fixed (k.Keyword words.Date) ∷ [], token_of k.Text (day_words d) ∷ [], refl, (fixed (k.Keyword words.Date), refl, refl), (token_of k.Text (day_words d), refl, refl, day_read d h)), refl)))),
  (cut_fixed (k.Keyword words.Date) refl, (cut_text (day_words d) (text_of (token_of k.Text (day_words d)) t.1.0), tt)),
)

-- ---- columns

pub put_type : (t : ColType) → Put column_type (type_tokens t) t
unfolding column_type
put_type ty.Bool = ((fixed (k.Keyword words.Boolean), refl, refl, refl), (cut_fixed (k.Keyword words.Boolean) refl, tt))
put_type ty.Int8 = ((fixed (k.Keyword words.TinyInt), refl, refl, refl), (cut_fixed (k.Keyword words.TinyInt) refl, tt))
put_type ty.Int16 = ((fixed (k.Keyword words.SmallInt), refl, refl, refl), (cut_fixed (k.Keyword words.SmallInt) refl, tt))
put_type ty.Int32 = ((fixed (k.Keyword words.Integer), refl, refl, refl), (cut_fixed (k.Keyword words.Integer) refl, tt))
put_type ty.Int64 = ((fixed (k.Keyword words.BigInt), refl, refl, refl), (cut_fixed (k.Keyword words.BigInt) refl, tt))
put_type ty.Varchar = ((fixed (k.Keyword words.Varchar), refl, refl, refl), (cut_fixed (k.Keyword words.Varchar) refl, tt))
put_type ty.Blob = ((fixed (k.Keyword words.Blob), refl, refl, refl), (cut_fixed (k.Keyword words.Blob) refl, tt))
put_type ty.Date = ((fixed (k.Keyword words.Date), refl, refl, refl), (cut_fixed (k.Keyword words.Date) refl, tt))

put_nulls : (b : Bool) → Put nulls (nulls_tokens b) b
unfolding nulls
put_nulls true = ((None, refl, refl), tt)
put_nulls false =
    let p = put_next (k.Keyword words.Not) (word words.Null) (fixed (k.Keyword words.Null) ∷ []) tt refl (put_word (k.Keyword words.Null) refl) in
    ((Some (tt, tt), p.0, refl), p.1)

pub put_default : (o : Option Value) → is_default o ≡ true → AllTyped (default_tokens o) → Put default_value (default_tokens o) o
unfolding default_value
put_default None h t = ((None, refl, refl), tt)
put_default (Some v) h t =
    let p = put_next (k.Keyword words.Default) literal (literal_tokens v) v refl (put_literal v h t.1) in
    ((Some (tt, v), p.0, refl), p.1)

pub put_column : (c : ColumnDef) → is_column c ≡ true → AllTyped (column_tokens c) → Put column (column_tokens c) c
unfolding column
put_column c h t =
    let p = and_parts (is_name c.name) (is_default c.default_value) h in
    let rest = typed_parts (nulls_tokens c.nulls) (default_tokens c.default_value) t.1.1 in
    let ends = put_then nulls default_value (nulls_tokens c.nulls) (default_tokens c.default_value) c.nulls c.default_value (put_nulls c.nulls) (put_default c.default_value p.1 rest.1) in
    let behind = put_then column_type (nulls then default_value) (type_tokens c.ty) (nulls_tokens c.nulls ++ default_tokens c.default_value) c.ty (c.nulls, c.default_value) (put_type c.ty) ends in
    let all = put_then name (column_type then nulls then default_value) (name_tokens c.name) (type_tokens c.ty ++ (nulls_tokens c.nulls ++ default_tokens c.default_value)) c.name
    (c.ty, (c.nulls, c.default_value)) (put_name c.name p.0 (t.0, tt)) behind in
    (((c.name, (c.ty, (c.nulls, c.default_value))), all.0, refl), all.1)
