use Rattle.std.proofs.Common.{◌≡◌, ◌++◌, ◌∷◌, [], List, ℕ, ap, ◌∙◌, append_assoc, codes, arith}
use Rattle.std.specs.String.{string_bytes}
use Rattle.lake_types.specs.Texts.{quoted}
use Rattle.cat_changes.proofs.writing.push_kind.Goals as goal

table_written : (out word schema name a b c d : List ℕ) → a ≡ out ++ word → b ≡ a ++ schema → c ≡ b ++ 46 ∷ [] → d ≡ c ++ name
    → d ≡ out ++ (word ++ (schema ++ 46 ∷ name))
table_written out word schema name a b c d ea eb ec ed =
    ed ∙ ap (λ (x : List ℕ). x ++ name) (ec ∙ ap (λ (x : List ℕ). x ++ 46 ∷ []) (eb ∙ ap (λ (x : List ℕ). x ++ schema) ea)) ∙ simp append_assoc

pub returns-in_ok-push_quoted-in-CreatedSchema-clause-text : goal.returns-in_ok-push_quoted-in-CreatedSchema-clause-text
returns-in_ok-push_quoted-in-CreatedSchema-clause-text c =
    rw c.in-CreatedSchema.is (
    c.in_ok-push_quoted-in-CreatedSchema.ensures
    ∙ ap (λ (x : List ℕ). string_bytes c.push_str.new.self ++ quoted x) c.as_str.ensures
    ∙ ap (λ (x : List ℕ). x ++ quoted c.in-CreatedSchema.name) c.in_ok-push_str-in-CreatedSchema.ensures.bytes
    ∙ append_assoc (string_bytes c.args.text.now) (codes "created_schema:") (quoted c.in-CreatedSchema.name))

pub returns-in_ok-push_quoted-in-CreatedTable-2-clause-text : goal.returns-in_ok-push_quoted-in-CreatedTable-2-clause-text
returns-in_ok-push_quoted-in-CreatedTable-2-clause-text c =
    rw c.in-CreatedTable.is (table_written (string_bytes c.args.text.now) (codes "created_table:") (quoted c.in-CreatedTable.schema) (quoted c.in-CreatedTable.name) _ _ _ _
    c.in_ok-push_str-in-CreatedTable.ensures.bytes
    (c.in_ok-push_quoted-in-CreatedTable.ensures ∙ ap (λ (x : List ℕ). string_bytes c.push_str-in-CreatedTable.new.self ++ quoted x) c.as_str-in-CreatedTable.ensures)
    (c.in_ok-push-in-CreatedTable.ensures.bytes
    ∙ ap (λ (x : List ℕ). string_bytes c.push_quoted-in-CreatedTable.new.text ++ x) (c.in_ok-push-in-CreatedTable.ensures.ascii (omega arith)))
    (c.in_ok-push_quoted-in-CreatedTable-2.ensures ∙ ap (λ (x : List ℕ). string_bytes c.push.new.self ++ quoted x) c.as_str-in-CreatedTable-2.ensures))

pub returns-in_ok-push_id-in-DeletedFrom-clause-text : goal.returns-in_ok-push_id-in-DeletedFrom-clause-text
returns-in_ok-push_id-in-DeletedFrom-clause-text c = rw c.in-DeletedFrom.is c.in_ok-push_id-in-DeletedFrom.ensures

pub returns-in_ok-push_id-in-DroppedSchema-clause-text : goal.returns-in_ok-push_id-in-DroppedSchema-clause-text
returns-in_ok-push_id-in-DroppedSchema-clause-text c = rw c.in-DroppedSchema.is c.in_ok-push_id-in-DroppedSchema.ensures

pub returns-in_ok-push_id-in-DroppedTable-clause-text : goal.returns-in_ok-push_id-in-DroppedTable-clause-text
returns-in_ok-push_id-in-DroppedTable-clause-text c = rw c.in-DroppedTable.is c.in_ok-push_id-in-DroppedTable.ensures

pub returns-in_ok-push_id-in-Altered-clause-text : goal.returns-in_ok-push_id-in-Altered-clause-text
returns-in_ok-push_id-in-Altered-clause-text c = rw c.in-Altered.is c.in_ok-push_id-in-Altered.ensures
