-- The grammar is one that a token of lookahead decides.
use Rattle.std.proofs.Common.{◌≡◌, ℕ, zero, suc, Bool, true, false, ◌&&◌, ◌||◌, List, [], ◌∷◌, refl, ap, ◌∙◌, Some}
use Rattle.std.specs.Prelude.{codes, pos, neg_ℤ, option_map}
use Rattle.std.proofs.lemmas.Bool.{and_left}
use Rattle.stmt_tokens.proofs.AsciiLemmas.{ascii_text}
use Rattle.stmt_tokens.specs.Tokens.{keyword}
use Rattle.stmt_tokens.specs.declared.token.Kind.{Kind}
use Rattle.stmt_tokens.specs.declared.token.Keyword.TheVariants as words
use Rattle.stmt_tokens.specs.declared.token.Kind.TheVariants as k
use Rattle.stmt_tokens.specs.declared.token.Sign.TheVariants as signs
use Rattle.stmt_tokens.specs.declared.token.Token.{Token}
use Rattle.lake_types.specs.declared.value.ColType.TheVariants as ty
use Rattle.lake_types.specs.declared.value.Value.TheVariants as value
use Rattle.lake_types.specs.declared.pred.Op.TheVariants as op
use Rattle.lake_types.specs.declared.pred.Pred.{Pred}
use Rattle.stmt_grammar.specs.Grammar.{Grammar, empty}
use Rattle.stmt_grammar.specs.Phrases.{is}
use Rattle.stmt_grammar.proofs.Samples.{sound_mark, sound_word}
use Rattle.stmt_grammar.proofs.Sound.{Sound, after}
use Rattle.lake_types.specs.Calendar.{day_text, date_after}
use Rattle.stmt_reader.specs.Dates.{date_of}
use Rattle.stmt_reader.proofs.DateLemmas.{day_found}
use Rattle.stmt_reader.specs.Rules.{day_of, name, table, column_type, constant, number, text, bytes, day, literal, column, columns, nulls, default_value, cell, row, operator, comparison, nullness, simple_test, ands, ors, unary, condition, where_, item, shown, assignment, create, remove, rename, setting, set_column, change, alter, definition, insert, delete, update, select, rows, count, begin_at, begin, transaction, upkeep, stmt}

abbrev with_text : Kind → List ℕ → Token
with_text a text = record { kind = a; text = text }

pub sound_name : Sound name
unfolding name keyword
sound_name = (with_text k.Word (codes "a"), (codes "a", rw (ascii_text (codes "a") refl) refl), codes "a", refl, refl)

pub sound_table : Sound table
unfolding table name is
sound_table = (sound_name, ((sound_mark signs.Dot, sound_name, λ a. refl), refl, refl), λ a. refl)

pub sound_type : Sound column_type
unfolding column_type keyword
sound_type = (with_text (k.Keyword words.Boolean) (codes "BOOLEAN"), (codes "BOOLEAN", rw (ascii_text (codes "BOOLEAN") refl) refl), ty.Bool, refl, refl)

sound_constant : Sound constant
unfolding keyword
sound_constant = (with_text (k.Keyword words.Null) (codes "NULL"), (codes "NULL", rw (ascii_text (codes "NULL") refl) refl), value.Null, refl, refl)

sound_number : Sound number
unfolding is
sound_number = (with_text k.Number (codes "1"), (codes "1", rw (ascii_text (codes "1") refl) refl), value.Int (pos 1), refl, refl)

sound_text : Sound text
unfolding is
sound_text = (with_text k.Text (codes "a"), (codes "'a'", rw (ascii_text (codes "a") refl) refl), value.Text (codes "a"), refl, refl)

sound_bytes : Sound bytes
unfolding is
sound_bytes = (with_text k.Bytes (codes "00"), (codes "x'00'", rw (ascii_text (codes "00") refl) refl), value.Bytes (0 ∷ []), refl, refl)

first_day : date_of (codes "0001-01-01") ≡ Some (neg_ℤ (pos 719162))
unfolding date_after
first_day = day_found (neg_ℤ (pos 719162)) (codes "0001-01-01") refl first_text
  where
    first_text : day_text (neg_ℤ (pos 719162)) ≡ codes "0001-01-01"
    first_text = refl

sound_day : Sound day
unfolding is day_of
sound_day = (
  with_text k.Text (codes "0001-01-01"),
  (codes "'0001-01-01'", rw (ascii_text (codes "0001-01-01") refl) refl),
  value.Date (neg_ℤ (pos 719162)),
  refl,
  ap (option_map value.Date) first_day,
)

pub sound_literal : Sound literal
unfolding literal is
sound_literal = (
  sound_number,
  (
    sound_text,
    (
      sound_bytes,
      (
        (sound_word words.Date, sound_day, λ a. refl),
        sound_constant,
        elim [ k.Keyword words.And ↦ refl | k.Sign signs.Comma ↦ refl | _ ↦ refl ],
        refl,
        refl,
      ),
      elim [ k.Keyword words.And ↦ refl | k.Sign signs.Comma ↦ refl | _ ↦ refl ],
      refl,
      refl,
    ),
    elim [ k.Keyword words.And ↦ refl | k.Sign signs.Comma ↦ refl | _ ↦ refl ],
    refl,
    refl,
  ),
  elim [ k.Keyword words.And ↦ refl | k.Sign signs.Comma ↦ refl | _ ↦ refl ],
  refl,
  refl,
)

pub sound_column : Sound column
unfolding column name column_type nulls default_value literal is
sound_column = (
  sound_name,
  (
    sound_type,
    (
      ((sound_word words.Not, sound_word words.Null, λ a. refl), refl, refl),
      ((sound_word words.Default, sound_literal, λ a. refl), refl, refl),
      elim [ k.Keyword words.And ↦ refl | k.Sign signs.Comma ↦ refl | _ ↦ refl ],
    ),
    λ a. refl,
  ),
  λ a. refl,
)

pub sound_columns : Sound columns
unfolding columns column name column_type nulls default_value literal is
sound_columns = (
  sound_mark signs.LeftParen,
  (
    (sound_column, (((sound_mark signs.Comma, sound_column, λ a. refl), refl, refl, elim [ k.Keyword words.And ↦ refl | k.Sign signs.Comma ↦ refl | _ ↦ refl ])), elim [ k.Keyword words.And ↦ refl | k.Sign signs.Comma ↦ refl | _ ↦ refl ]),
    sound_mark signs.RightParen,
    elim [ k.Keyword words.And ↦ refl | k.Sign signs.Comma ↦ refl | _ ↦ refl ],
  ),
  λ a. refl,
)

pub sound_cell : Sound cell
unfolding cell literal is
sound_cell = (sound_word words.Default, sound_literal, elim [ k.Keyword words.And ↦ refl | k.Sign signs.Comma ↦ refl | _ ↦ refl ], refl, refl)

pub sound_row : Sound row
unfolding row cell literal is
sound_row = (
  sound_mark signs.LeftParen,
  (
    (sound_cell, (((sound_mark signs.Comma, sound_cell, λ a. refl), refl, refl, elim [ k.Keyword words.And ↦ refl | k.Sign signs.Comma ↦ refl | _ ↦ refl ])), elim [ k.Keyword words.And ↦ refl | k.Sign signs.Comma ↦ refl | _ ↦ refl ]),
    sound_mark signs.RightParen,
    elim [ k.Keyword words.And ↦ refl | k.Sign signs.Comma ↦ refl | _ ↦ refl ],
  ),
  λ a. refl,
)

sound_operator : Sound operator
unfolding operator
sound_operator = (with_text (k.Sign signs.Eq) [], (codes "=", refl), op.Eq, refl, refl)

pub sound_comparison : Sound comparison
unfolding comparison operator literal is
sound_comparison = (sound_operator, sound_literal, λ a. refl)

pub sound_nullness : Sound nullness
unfolding nullness is
sound_nullness = (sound_word words.Is, (((sound_word words.Not, refl, refl), sound_word words.Null, elim [ k.Keyword words.And ↦ refl | k.Sign signs.Comma ↦ refl | _ ↦ refl ])), λ a. refl)

pub sound_test : Sound simple_test
unfolding simple_test name comparison operator nullness literal is
sound_test = (sound_name, (sound_nullness, sound_comparison, elim [ k.Keyword words.And ↦ refl | k.Sign signs.Comma ↦ refl | _ ↦ refl ], refl, refl), λ a. refl)

-- ---- chains

chain_end : (x y a e : Bool) → a ≡ false → e ≡ false → ((x || (a || (e && y))) || a) ≡ x
chain_end true y a e h l = refl
chain_end false y false false h l = refl
chain_end false y true e h l = cc
chain_end false y false true h l = cc

or_nothing : (x e : Bool) → e ≡ false → (x || (e && false)) ≡ x
or_nothing true e h = refl
or_nothing false true h = refl
or_nothing false false h = refl

-- what is apart stays apart where a test is rewritten
apart_by : (x w e y : Bool) → x ≡ w → e ≡ false → (w && y) ≡ false → ((x || (e && false)) && y) ≡ false
apart_by x w e y h l g = ap (λ (i : Bool). i && y) (or_nothing x e l ∙ h) ∙ g

twice : (x p e : Bool) → e ≡ false → ((x || (p || (e && false))) || p) ≡ (x || p)
twice true p e h = refl
twice false true e h = refl
twice false false true h = refl
twice false false false h = refl

module _ (u : Grammar Pred) (s : Sound u) (e : empty u ≡ false) (f : (a : Kind) → after u a ≡ false) where
  empty_ands : empty (ands u) ≡ false
  unfolding ands
  empty_ands = and_left (empty u) true e

  sound_ands : Sound (ands u)
  unfolding ands is
  sound_ands = (
    s,
    ((sound_word words.And, s, λ a. refl), refl, refl, λ a. apart_by (after u a) false (empty u) (is (k.Keyword words.And) a) (f a) e refl),
    λ a. and_left (after u a) (is (k.Keyword words.And) a) (f a),
  )

  after_ands : (a : Kind) → after (ands u) a ≡ is (k.Keyword words.And) a
  unfolding ands
  after_ands a = chain_end (is (k.Keyword words.And) a) false (after u a) (empty u) (f a) e

  pub empty_ors : empty (ors u) ≡ false
  unfolding ors ands
  empty_ors = and_left (empty u && true) true (and_left (empty u) true e)

  pub sound_ors : Sound (ors u)
  unfolding ors is
  sound_ors = (
    sound_ands,
    (
      (sound_word words.Or, sound_ands, λ a. refl),
      refl,
      refl,
      λ a. apart_by (after (ands u) a) (is (k.Keyword words.And) a) (empty (ands u)) (is (k.Keyword words.Or) a) (after_ands a) empty_ands (and_or a),
    ),
    λ a. ap (λ (i : Bool). i && (is (k.Keyword words.Or) a)) (after_ands a) ∙ and_or a,
  )
    where
      and_or : (a : Kind) → (is (k.Keyword words.And) a && (is (k.Keyword words.Or) a)) ≡ false
      and_or = elim [ k.Keyword words.And ↦ refl | k.Sign signs.Comma ↦ refl | _ ↦ refl ]

  pub after_ors : (a : Kind) → after (ors u) a ≡ (is (k.Keyword words.Or) a || is (k.Keyword words.And) a)
  unfolding ors
  after_ors a = twice (is (k.Keyword words.Or) a) (after (ands u) a) (empty (ands u)) empty_ands ∙ ap (λ (i : Bool). is (k.Keyword words.Or) a || i) (after_ands a)

all_false : (x e c : Bool) → x ≡ false → e ≡ false → ((x || (e && false)) || (((c && false) && false) || false)) ≡ false
all_false false false true h l = refl
all_false false false false h l = refl
all_false true e c h l = cc
all_false false true c h l = cc

record Ends (u : Grammar Pred) : Type 0 where
  sound : Sound u
  full : empty u ≡ false
  ends : (a : Kind) → after u a ≡ false

unary_ends : (n : ℕ) → Ends (unary n)
unfolding unary simple_test name comparison operator nullness literal is
unary_ends zero = record { sound = sound_test; full = refl; ends = λ a. refl }
unary_ends (suc n) =
    let h = unary_ends n in
    record {
      sound = (
        (sound_word words.Not, h.sound, λ a. refl),
        (
          (
            sound_mark signs.LeftParen,
            (
              sound_ors (unary n) h.sound h.full h.ends,
              sound_mark signs.RightParen,
              λ a. ap (λ (i : Bool). i && is (k.Sign signs.RightParen) a) (after_ors (unary n) h.sound h.full h.ends a) ∙ close a,
            ),
            λ a. refl,
          ),
          sound_test,
          elim [ k.Keyword words.And ↦ refl | k.Sign signs.Comma ↦ refl | _ ↦ refl ],
          refl,
          refl,
        ),
        elim [ k.Keyword words.And ↦ refl | k.Sign signs.Comma ↦ refl | _ ↦ refl ],
        refl,
        refl,
      );
      full = refl;
      ends = λ a. all_false (after (unary n) a) (empty (unary n)) (empty (ors (unary n))) (h.ends a) h.full;
    }
  where
    close : (a : Kind) → ((is (k.Keyword words.Or) a || is (k.Keyword words.And) a) && is (k.Sign signs.RightParen) a) ≡ false
    close = elim [ k.Keyword words.And ↦ refl | k.Sign signs.Comma ↦ refl | _ ↦ refl ]

pub sound_condition : Sound condition
unfolding condition
sound_condition = let h = unary_ends 64 in sound_ors (unary 64) h.sound h.full h.ends

pub after_condition : (a : Kind) → after condition a ≡ (is (k.Keyword words.Or) a || is (k.Keyword words.And) a)
unfolding condition
after_condition a = let h = unary_ends 64 in after_ors (unary 64) h.sound h.full h.ends a

pub empty_condition : empty condition ≡ false
unfolding condition
empty_condition = let h = unary_ends 64 in empty_ors (unary 64) h.sound h.full h.ends

pub sound_where : Sound where_
unfolding where_ is
sound_where = ((sound_word words.Where, sound_condition, λ a. refl), refl, refl)

pub sound_item : Sound item
unfolding item name is
sound_item = (sound_word words.RowId, sound_name, elim [ k.Keyword words.And ↦ refl | k.Sign signs.Comma ↦ refl | _ ↦ refl ], refl, refl)

pub sound_shown : Sound shown
unfolding shown item name is
sound_shown = (
  sound_mark signs.Star,
  (sound_item, ((sound_mark signs.Comma, sound_item, λ a. refl), refl, refl, elim [ k.Keyword words.And ↦ refl | k.Sign signs.Comma ↦ refl | _ ↦ refl ]), elim [ k.Keyword words.And ↦ refl | k.Sign signs.Comma ↦ refl | _ ↦ refl ]),
  elim [ k.Keyword words.And ↦ refl | k.Sign signs.Comma ↦ refl | _ ↦ refl ],
  refl,
  refl,
)

sound_create : Sound create
unfolding create name table columns is
sound_create = (
  (sound_word words.Schema, sound_name, λ a. refl),
  (sound_word words.Table, (sound_table, sound_columns, elim [ k.Keyword words.And ↦ refl | k.Sign signs.Comma ↦ refl | _ ↦ refl ]), λ a. refl),
  elim [ k.Keyword words.And ↦ refl | k.Sign signs.Comma ↦ refl | _ ↦ refl ],
  refl,
  refl,
)

sound_remove : Sound remove
unfolding remove is
sound_remove =
    ((sound_word words.Schema, sound_name, λ a. refl), (sound_word words.Table, sound_table, λ a. refl), elim [ k.Keyword words.And ↦ refl | k.Sign signs.Comma ↦ refl | _ ↦ refl ], refl, refl)

sound_rename : Sound rename
unfolding rename name is
sound_rename =
    (sound_word words.Rename, (sound_word words.Column, (sound_name, (sound_word words.To, sound_name, λ a. refl), λ a. refl), λ a. refl), λ a. refl)

sound_setting : Sound setting
unfolding setting is
sound_setting = (
  (sound_word words.Data, (sound_word words.Type, sound_type, λ a. refl), λ a. refl),
  (sound_word words.Default, sound_literal, λ a. refl),
  elim [ k.Keyword words.And ↦ refl | k.Sign signs.Comma ↦ refl | _ ↦ refl ],
  refl,
  refl,
)

sound_set_column : Sound set_column
unfolding set_column name is
sound_set_column =
    (sound_word words.Alter, (sound_word words.Column, (sound_name, (sound_word words.Set, sound_setting, λ a. refl), λ a. refl), λ a. refl), λ a. refl)

sound_change : Sound change
unfolding change rename set_column is
sound_change = (
  (sound_word words.Add, (sound_word words.Column, sound_column, λ a. refl), λ a. refl),
  (
    (sound_word words.Drop, (sound_word words.Column, sound_name, λ a. refl), λ a. refl),
    (sound_rename, sound_set_column, elim [ k.Keyword words.And ↦ refl | k.Sign signs.Comma ↦ refl | _ ↦ refl ], refl, refl),
    elim [ k.Keyword words.And ↦ refl | k.Sign signs.Comma ↦ refl | _ ↦ refl ],
    refl,
    refl,
  ),
  elim [ k.Keyword words.And ↦ refl | k.Sign signs.Comma ↦ refl | _ ↦ refl ],
  refl,
  refl,
)

sound_alter : Sound alter
unfolding alter table name change rename set_column is
sound_alter = (sound_word words.Table, (sound_table, sound_change, elim [ k.Keyword words.And ↦ refl | k.Sign signs.Comma ↦ refl | _ ↦ refl ]), λ a. refl)

sound_definition : Sound definition
unfolding definition is
sound_definition = (
  (sound_word words.Create, sound_create, λ a. refl),
  ((sound_word words.Drop, sound_remove, λ a. refl), (sound_word words.Alter, sound_alter, λ a. refl), elim [ k.Keyword words.And ↦ refl | k.Sign signs.Comma ↦ refl | _ ↦ refl ], refl, refl),
  elim [ k.Keyword words.And ↦ refl | k.Sign signs.Comma ↦ refl | _ ↦ refl ],
  refl,
  refl,
)

sound_insert : Sound insert
unfolding insert table row name is cell literal
sound_insert = (
  sound_word words.Into,
  (
    sound_table,
    (
      sound_word words.Values,
      (sound_row, ((sound_mark signs.Comma, sound_row, λ a. refl), refl, refl, elim [ k.Keyword words.And ↦ refl | k.Sign signs.Comma ↦ refl | _ ↦ refl ]), elim [ k.Keyword words.And ↦ refl | k.Sign signs.Comma ↦ refl | _ ↦ refl ]),
      λ a. refl,
    ),
    elim [ k.Keyword words.And ↦ refl | k.Sign signs.Comma ↦ refl | _ ↦ refl ],
  ),
  λ a. refl,
)

sound_delete : Sound delete
unfolding delete table where_ name is
sound_delete = (sound_word words.From, (sound_table, sound_where, elim [ k.Keyword words.And ↦ refl | k.Sign signs.Comma ↦ refl | _ ↦ refl ]), λ a. refl)

sound_assignment : Sound assignment
unfolding assignment name is
sound_assignment = (sound_name, (sound_mark signs.Eq, sound_literal, λ a. refl), λ a. refl)

sound_update : Sound update
unfolding update table assignment where_ literal name is
sound_update = (
  sound_table,
  (
    sound_word words.Set,
    (
      (sound_assignment, ((sound_mark signs.Comma, sound_assignment, λ a. refl), refl, refl, elim [ k.Keyword words.And ↦ refl | k.Sign signs.Comma ↦ refl | _ ↦ refl ]), elim [ k.Keyword words.And ↦ refl | k.Sign signs.Comma ↦ refl | _ ↦ refl ]),
      sound_where,
      elim [ k.Keyword words.And ↦ refl | k.Sign signs.Comma ↦ refl | _ ↦ refl ],
    ),
    λ a. refl,
  ),
  elim [ k.Keyword words.And ↦ refl | k.Sign signs.Comma ↦ refl | _ ↦ refl ],
)

sound_select : Sound select
unfolding select shown item table where_ name is
sound_select =
    (sound_shown, (sound_word words.From, (sound_table, sound_where, elim [ k.Keyword words.And ↦ refl | k.Sign signs.Comma ↦ refl | _ ↦ refl ]), λ a. refl), elim [ k.Keyword words.And ↦ refl | k.Sign signs.Comma ↦ refl | _ ↦ refl ])

sound_rows : Sound rows
unfolding rows is
sound_rows = (
  (sound_word words.Insert, sound_insert, λ a. refl),
  (
    (sound_word words.Delete, sound_delete, λ a. refl),
    ((sound_word words.Update, sound_update, λ a. refl), (sound_word words.Select, sound_select, λ a. refl), elim [ k.Keyword words.And ↦ refl | k.Sign signs.Comma ↦ refl | _ ↦ refl ], refl, refl),
    elim [ k.Keyword words.And ↦ refl | k.Sign signs.Comma ↦ refl | _ ↦ refl ],
    refl,
    refl,
  ),
  elim [ k.Keyword words.And ↦ refl | k.Sign signs.Comma ↦ refl | _ ↦ refl ],
  refl,
  refl,
)

sound_count : Sound count
unfolding is
sound_count = (with_text k.Number (codes "1"), (codes "1", rw (ascii_text (codes "1") refl) refl), 1, refl, refl)

sound_begin : Sound begin
unfolding begin begin_at is
sound_begin =
    ((sound_word words.At, (sound_mark signs.LeftParen, ((sound_word words.Version, (sound_mark signs.Arrow, sound_count, λ a. refl), λ a. refl), sound_mark signs.RightParen, λ a. refl), λ a. refl), λ a. refl), refl, refl)

sound_transaction : Sound transaction
unfolding transaction begin begin_at is
sound_transaction = (
  (sound_word words.Begin, sound_begin, λ a. refl),
  (sound_word words.Commit, sound_word words.Rollback, elim [ k.Keyword words.And ↦ refl | k.Sign signs.Comma ↦ refl | _ ↦ refl ], refl, refl),
  elim [ k.Keyword words.And ↦ refl | k.Sign signs.Comma ↦ refl | _ ↦ refl ],
  refl,
  refl,
)

sound_upkeep : Sound upkeep
unfolding upkeep is
sound_upkeep = (
  (sound_word words.Compact, sound_table, λ a. refl),
  (
    (sound_word words.Flush, sound_table, λ a. refl),
    (
      (sound_word words.Expire, sound_count, λ a. refl),
      (sound_word words.Clean, sound_word words.Snapshots, elim [ k.Keyword words.And ↦ refl | k.Sign signs.Comma ↦ refl | _ ↦ refl ], refl, refl),
      elim [ k.Keyword words.And ↦ refl | k.Sign signs.Comma ↦ refl | _ ↦ refl ],
      refl,
      refl,
    ),
    elim [ k.Keyword words.And ↦ refl | k.Sign signs.Comma ↦ refl | _ ↦ refl ],
    refl,
    refl,
  ),
  elim [ k.Keyword words.And ↦ refl | k.Sign signs.Comma ↦ refl | _ ↦ refl ],
  refl,
  refl,
)

pub sound_stmt : Sound stmt
unfolding stmt transaction definition rows upkeep is
sound_stmt = (
  sound_transaction,
  (
    sound_definition,
    (
      sound_rows,
      sound_upkeep,
      elim [ k.Keyword words.And ↦ refl | k.Sign signs.Comma ↦ refl | _ ↦ refl ],
      refl,
      refl,
    ),
    elim [ k.Keyword words.And ↦ refl | k.Sign signs.Comma ↦ refl | _ ↦ refl ],
    refl,
    refl,
  ),
  elim [ k.Keyword words.And ↦ refl | k.Sign signs.Comma ↦ refl | _ ↦ refl ],
  refl,
  refl,
)
