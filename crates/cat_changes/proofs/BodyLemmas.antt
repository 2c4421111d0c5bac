-- What is read behind a kind's word.
use Rattle.std.proofs.Common.{◌≡◌, ◌≢◌, ℕ, ◌<◌, ◌^◌, List, ◌∷◌, ◌++◌, codes, decimal, Bool, Option, Some, None, true, refl, sym, ap, ◌∙◌, append_assoc}
use Rattle.std.specs.Borrow.{Bor}
use Rattle.lake_types.specs.declared.kind.Kind.{Kind}
use Rattle.lake_types.specs.declared.kind.Kind.TheVariants as kind
use Rattle.lake_types.specs.Kinds.{kind_text}
use Rattle.lake_types.specs.Texts.{quoted}
use Rattle.cat_changes.specs.Changes.{tail_text}
use Rattle.cat_changes.specs.Reading.{lacks, quoted_in, IsKindAmong, IsKindAt, is_created_schema, is_created_table, has_id}
use Rattle.cat_changes.proofs.QuoteLemmas.{quoted_back, quoted_sound}
use Rattle.cat_changes.proofs.KindLemmas.{word_of, in_word, no_quote}

behinds : (x y : List ℕ × List ℕ) → Some x ≡ Some y → x.1 ≡ y.1
behinds x y e = let same : x ≡ y = cc in ap (λ (z : List ℕ × List ℕ). z.1) same

-- ---- a created schema

-- the name and what stands behind it
pub schema_stands : (text name rest : List ℕ) (tail : Option (List ℕ)) → quoted_in text ≡ Some (name, rest) → tail_text tail ≡ rest
    → kind_text (kind.CreatedSchema name) ++ tail_text tail ≡ codes "created_schema:" ++ text
schema_stands text name rest tail q t =
    ap (λ (x : List ℕ). codes "created_schema:" ++ x) (ap (λ (x : List ℕ). quoted name ++ x) t ∙ quoted_sound text (name, rest) q)

schema_read : (text : List ℕ) (k : Kind) (tail : Option (List ℕ)) → is_created_schema k ≡ true → kind_text k ++ tail_text tail ≡ codes "created_schema:" ++ text
    → (name : List ℕ) × (quoted_in text ≡ Some (name, tail_text tail))
schema_read text (kind.CreatedSchema name) tail is e =
    let body : quoted name ++ tail_text tail ≡ text = (in_word (codes "created_schema") text (kind.CreatedSchema name) (tail_text tail) refl e).1 in
    (name, ap quoted_in (sym body) ∙ quoted_back name (tail_text tail) (no_quote tail))
schema_read text k tail is e = cc

pub schema_none : (text : List ℕ) → quoted_in text ≡ None → IsKindAmong is_created_schema (codes "created_schema:" ++ text) None
schema_none text none k tail is h e =
    let read = schema_read text k tail is e in
    let both : Some (read.0, tail_text tail) ≡ None = sym read.1 ∙ none in
    cc

pub schema_no_tail : (text name rest : List ℕ) → quoted_in text ≡ Some (name, rest) → ((tail : Option (List ℕ)) → tail_text tail ≡ rest → ⊥)
    → IsKindAmong is_created_schema (codes "created_schema:" ++ text) None
schema_no_tail text name rest q none k tail is h e =
    let read = schema_read text k tail is e in
    none tail (behinds (read.0, tail_text tail) (name, rest) (sym read.1 ∙ q))

-- ---- a created table

pub table_stands : (text schema rest more name last : List ℕ) (tail : Option (List ℕ)) → quoted_in text ≡ Some (schema, rest) → rest ≡ 46 ∷ more
    → quoted_in more ≡ Some (name, last) → tail_text tail ≡ last
    → kind_text (kind.CreatedTable schema name) ++ tail_text tail ≡ codes "created_table:" ++ text
table_stands text schema rest more name last tail q dot p t =
    ap (λ (x : List ℕ). codes "created_table:" ++ x) (
    append_assoc (quoted schema) (46 ∷ quoted name) (tail_text tail)
    ∙ ap (λ (x : List ℕ). quoted schema ++ 46 ∷ x) (ap (λ (x : List ℕ). quoted name ++ x) t ∙ quoted_sound more (name, last) p)
    ∙ ap (λ (x : List ℕ). quoted schema ++ x) (sym dot) ∙ quoted_sound text (schema, rest) q)

pub record TableRead (text : List ℕ) (tail : List ℕ) : Type 0 where
  pub schema : List ℕ
  pub name : List ℕ
  pub outer : quoted_in text ≡ Some (schema, 46 ∷ (quoted name ++ tail))
  pub inner : quoted_in (quoted name ++ tail) ≡ Some (name, tail)

table_read : (text : List ℕ) (k : Kind) (tail : Option (List ℕ)) → is_created_table k ≡ true → kind_text k ++ tail_text tail ≡ codes "created_table:" ++ text
    → TableRead text (tail_text tail)
table_read text (kind.CreatedTable schema name) tail is e =
    let body : (quoted schema ++ 46 ∷ quoted name) ++ tail_text tail ≡ text = (in_word (codes "created_table") text (kind.CreatedTable schema name) (tail_text tail) refl e).1 in
    record {
      schema = schema;
      name = name;
      outer = ap quoted_in (sym body ∙ append_assoc (quoted schema) (46 ∷ quoted name) (tail_text tail)) ∙ quoted_back schema (46 ∷ (quoted name ++ tail_text tail)) refl;
      inner = quoted_back name (tail_text tail) (no_quote tail);
    }
table_read text k tail is e = cc

pub table_none : (text : List ℕ) → quoted_in text ≡ None → IsKindAmong is_created_table (codes "created_table:" ++ text) None
table_none text none k tail is h e =
    let read = table_read text k tail is e in
    let both : Some (read.schema, 46 ∷ (quoted read.name ++ tail_text tail)) ≡ None = sym read.outer ∙ none in
    cc

pub table_no_dot : (text schema rest : List ℕ) → quoted_in text ≡ Some (schema, rest) → ((more : List ℕ) → rest ≢ 46 ∷ more)
    → IsKindAmong is_created_table (codes "created_table:" ++ text) None
table_no_dot text schema rest q none k tail is h e =
    let read = table_read text k tail is e in
    none (quoted read.name ++ tail_text tail) (behinds (schema, rest) (read.schema, 46 ∷ (quoted read.name ++ tail_text tail)) (sym q ∙ read.outer))

-- behind the dot stands the quoted name
after_dot : (text schema rest more : List ℕ) (k : Kind) (tail : Option (List ℕ)) → quoted_in text ≡ Some (schema, rest) → rest ≡ 46 ∷ more
    → (read : TableRead text (tail_text tail)) → quoted read.name ++ tail_text tail ≡ more
after_dot text schema rest more k tail q dot read =
    let same : 46 ∷ (quoted read.name ++ tail_text tail) ≡ rest = behinds (read.schema, 46 ∷ (quoted read.name ++ tail_text tail)) (schema, rest) (sym read.outer ∙ q) in
    cc

pub table_no_name : (text schema rest more : List ℕ) → quoted_in text ≡ Some (schema, rest) → rest ≡ 46 ∷ more → quoted_in more ≡ None
    → IsKindAmong is_created_table (codes "created_table:" ++ text) None
table_no_name text schema rest more q dot none k tail is h e =
    let read = table_read text k tail is e in
    let more_is = after_dot text schema rest more k tail q dot read in
    let both : Some (read.name, tail_text tail) ≡ None = sym read.inner ∙ ap quoted_in more_is ∙ none in
    cc

pub table_no_tail : (text schema rest more name last : List ℕ) → quoted_in text ≡ Some (schema, rest) → rest ≡ 46 ∷ more → quoted_in more ≡ Some (name, last)
    → ((tail : Option (List ℕ)) → tail_text tail ≡ last → ⊥) → IsKindAmong is_created_table (codes "created_table:" ++ text) None
table_no_tail text schema rest more name last q dot p none k tail is h e =
    let read = table_read text k tail is e in
    let more_is = after_dot text schema rest more k tail q dot read in
    none tail (behinds (read.name, tail_text tail) (name, last) (sym read.inner ∙ ap quoted_in more_is ∙ p))

-- ---- kinds with an id

pub id_none : (word text : List ℕ) → lacks 58 word ≡ true → ((id : ℕ) (tail : Option (List ℕ)) → id < 2 ^ 64 → decimal id ++ tail_text tail ≡ text → ⊥)
    → IsKindAmong has_id (word ++ 58 ∷ text) None
id_none word text lack none (kind.CreatedSchema name) tail is h e = cc
id_none word text lack none (kind.CreatedTable schema name) tail is h e = cc
id_none word text lack none (kind.InsertedInto id) tail is h e = none id tail h (in_word word text (kind.InsertedInto id) (tail_text tail) lack e).1
id_none word text lack none (kind.DeletedFrom id) tail is h e = none id tail h (in_word word text (kind.DeletedFrom id) (tail_text tail) lack e).1
id_none word text lack none (kind.Compacted id) tail is h e = none id tail h (in_word word text (kind.Compacted id) (tail_text tail) lack e).1
id_none word text lack none (kind.DroppedSchema id name) tail is h e = none id tail h (in_word word text (kind.DroppedSchema id name) (tail_text tail) lack e).1
id_none word text lack none (kind.DroppedTable id) tail is h e = none id tail h (in_word word text (kind.DroppedTable id) (tail_text tail) lack e).1
id_none word text lack none (kind.Altered id) tail is h e = none id tail h (in_word word text (kind.Altered id) (tail_text tail) lack e).1

-- a word that is none of those of kinds with an id
pub record IsOther (word : List ℕ) : Type 0 where
  pub inserted : word ≢ codes "inserted_into_table"
  pub deleted : word ≢ codes "deleted_from_table"
  pub compacted : word ≢ codes "compacted_table"
  pub dropped_schema : word ≢ codes "dropped_schema"
  pub dropped_table : word ≢ codes "dropped_table"
  pub altered : word ≢ codes "altered_table"

pub id_no_word : (word text : List ℕ) → lacks 58 word ≡ true → IsOther word → IsKindAmong has_id (word ++ 58 ∷ text) None
id_no_word word text lack other (kind.CreatedSchema name) tail is h e = cc
id_no_word word text lack other (kind.CreatedTable schema name) tail is h e = cc
id_no_word word text lack other (kind.InsertedInto id) tail is h e = other.inserted (sym (in_word word text (kind.InsertedInto id) (tail_text tail) lack e).0)
id_no_word word text lack other (kind.DeletedFrom id) tail is h e = other.deleted (sym (in_word word text (kind.DeletedFrom id) (tail_text tail) lack e).0)
id_no_word word text lack other (kind.Compacted id) tail is h e = other.compacted (sym (in_word word text (kind.Compacted id) (tail_text tail) lack e).0)
id_no_word word text lack other (kind.DroppedSchema id name) tail is h e = other.dropped_schema (sym (in_word word text (kind.DroppedSchema id name) (tail_text tail) lack e).0)
id_no_word word text lack other (kind.DroppedTable id) tail is h e = other.dropped_table (sym (in_word word text (kind.DroppedTable id) (tail_text tail) lack e).0)
id_no_word word text lack other (kind.Altered id) tail is h e = other.altered (sym (in_word word text (kind.Altered id) (tail_text tail) lack e).0)

-- ---- any kind

-- where the word tells which kinds it may be, these are all
at_word : (among : Kind → Bool) (text word rest : List ℕ) (found : Option (Kind × Option (Bor (List ℕ)))) → text ≡ word ++ 58 ∷ rest → lacks 58 word ≡ true
    → ((k : Kind) → word_of k ≡ word → among k ≡ true) → IsKindAmong among (word ++ 58 ∷ rest) found → IsKindAt text found
at_word among text word rest None e lack only h = λ k tail is has spelled.
    h k tail (only k (in_word word rest k (tail_text tail) lack (spelled ∙ e)).0) has (spelled ∙ e)
at_word among text word rest (Some x) e lack only h = (h.0, h.1, h.2 ∙ sym e)

only_id : (word : List ℕ) → word ≢ codes "created_schema" → word ≢ codes "created_table" → (k : Kind) → word_of k ≡ word → has_id k ≡ true
only_id word no_schema no_table (kind.CreatedSchema name) w = absurd (no_schema (sym w))
only_id word no_schema no_table (kind.CreatedTable schema name) w = absurd (no_table (sym w))
only_id word no_schema no_table k w = refl

pub id_at : (text word rest : List ℕ) (found : Option (Kind × Option (Bor (List ℕ)))) → text ≡ word ++ 58 ∷ rest → lacks 58 word ≡ true
    → word ≢ codes "created_schema" → word ≢ codes "created_table" → IsKindAmong has_id (word ++ 58 ∷ rest) found → IsKindAt text found
id_at text word rest found e lack no_schema no_table h = at_word has_id text word rest found e lack (only_id word no_schema no_table) h
