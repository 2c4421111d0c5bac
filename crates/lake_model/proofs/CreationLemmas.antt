-- What a list creates and leaves, of any list of changes.
use Rattle.std.proofs.Common.{◌≡◌, ℕ, ◌+◌, ◌==◌, Bool, true, false, cond, List, [], ◌∷◌, ◌++◌, filter, map, refl, sym, ap, ap₂, ◌∙◌, append_assoc, append-nil, arith}
use Rattle.std.specs.Prelude.{Some, None, not, ◌||◌, fold, option_map}
use Rattle.std.proofs.lemmas.List.Elements.{filter-append}
use Rattle.lake_model.specs.Apply.{Creation, Draft, NewSchema, NewTable, SchemaDraft, Work, altered, at_table, begun, changed, is_created_schema, is_created_table, is_ref, promoted, renamed, with_column, with_default, with_rows, with_updates, without_column, without_rows, worked}
use Rattle.lake_model.specs.ByTable.{draft_after}
use Rattle.lake_model.specs.Creations.{creations, made_schemas}
use Rattle.lake_model.specs.Kinds.{drops_schema, drops_table, is_drop_of_table}
use Rattle.lake_model.specs.State.{State}
use Rattle.lake_model.specs.declared.change.Change.{Change}
use Rattle.lake_model.specs.declared.change.Change.TheVariants as change
use Rattle.lake_model.specs.declared.change.Ref.{Ref}
use Rattle.lake_model.specs.declared.change.Ref.TheVariants as ref

-- ---- two tests

pub same_tests : {X : Type 0} (p q : X → Bool) → ((x : X) → p x ≡ q x) → (xs : List X) → filter p xs ≡ filter q xs
same_tests p q same [] = refl
same_tests p q same (x ∷ xs) = ap₂ (λ b l. cond b (x ∷ l) l) (same x) (same_tests p q same xs)

-- a test of what a function makes, before it or after it
pub filter-mapped : {X Y : Type 0} (f : X → Y) (q : Y → Bool) (xs : List X) → map f (filter (λ x. q (f x)) xs) ≡ filter q (map f xs)
filter-mapped f q [] = refl
filter-mapped f q (x ∷ xs) = elim (q (f x)) as (λ b. map f (cond b (x ∷ filter (λ x. q (f x)) xs) (filter (λ x. q (f x)) xs)) ≡ cond b (f x ∷ filter q (map f xs)) (filter q (map f xs)))
    [ true ↦ ap (λ l. f x ∷ l) (filter-mapped f q xs) | false ↦ filter-mapped f q xs ]

filter-twice : {X : Type 0} (p q : X → Bool) (xs : List X) → filter (λ x. not (q x)) (filter (λ x. not (p x)) xs) ≡ filter (λ x. not (p x || q x)) xs
filter-twice p q [] = refl
filter-twice p q (x ∷ xs) = go (p x) refl (filter-twice p q xs)
  where
    go : (b : Bool) → p x ≡ b → filter (λ y. not (q y)) (filter (λ y. not (p y)) xs) ≡ filter (λ y. not (p y || q y)) xs
        → filter (λ y. not (q y)) (filter (λ y. not (p y)) (x ∷ xs)) ≡ filter (λ y. not (p y || q y)) (x ∷ xs)
    go true e more = rw e more
    go false e more = rw e (ap (λ l. cond (not (q x)) (x ∷ l) l) more)

-- one more at the end, which the rest of the list keeps or drops
one_more : {X : Type 0} (p : X → Bool) (xs : List X) (x : X) (more : List X) → filter (λ y. not (p y)) (xs ++ x ∷ []) ++ more ≡ filter (λ y. not (p y)) xs ++ cond (p x) more (x ∷ more)
one_more p xs x more =
    ap (λ l. l ++ more) (filter-append (λ y. not (p y)) xs (x ∷ []))
    ∙ append_assoc (filter (λ y. not (p y)) xs) (filter (λ y. not (p y)) (x ∷ [])) more
    ∙ ap (λ l. filter (λ y. not (p y)) xs ++ l) (go (p x) refl)
  where
    go : (b : Bool) → p x ≡ b → filter (λ y. not (p y)) (x ∷ []) ++ more ≡ cond (p x) more (x ∷ more)
    go true e = rw e refl
    go false e = rw e refl

all_left : {X : Type 0} (xs : List X) → filter (λ x. true) xs ≡ xs
all_left [] = refl
all_left (x ∷ xs) = ap (λ l. x ∷ l) (all_left xs)

-- ---- schemas

abbrev pub left_schemas : List Change → List SchemaDraft → List SchemaDraft
left_schemas own ss = filter (λ (s : SchemaDraft). not (drops_schema own s.at)) ss

pub schemas-after : (own : List Change) (w : Work) → (fold changed w own).schemas ≡ left_schemas own w.schemas ++ made_schemas w.created_schemas own
schemas-after [] w = sym (append-nil (left_schemas [] w.schemas) ∙ all_left w.schemas)
schemas-after (change.CreateSchema name ∷ own) w =
    schemas-after own (changed w (change.CreateSchema name))
    ∙ one_more (λ (s : SchemaDraft). drops_schema own s.at) w.schemas (record { at = ref.New w.created_schemas; name = name }) (made_schemas (w.created_schemas + 1) own)
schemas-after (change.DropSchema schema ∷ own) w =
    schemas-after own (changed w (change.DropSchema schema))
    ∙ ap (λ l. l ++ made_schemas w.created_schemas own) (filter-twice (λ (s : SchemaDraft). is_ref s.at schema) (λ (s : SchemaDraft). drops_schema own s.at) w.schemas)
schemas-after (c ∷ own) w = schemas-after own (changed w c)

-- ---- creations

-- whether the list drops what a creation makes
abbrev drops : List Change → Creation → Bool
drops own (NewSchema p) = drops_schema own (ref.New p)
drops own (NewTable p) = drops_table own (ref.New p)

abbrev left_of : List Change → List Creation → List Creation
left_of own cs = filter (λ c. not (drops own c)) cs

-- an equation of numbers either way round
pub turned : (a b : ℕ) → (a == b) ≡ (b == a)
turned a b = search arith

schema_dropped : (own : List Change) (schema : Ref) (c : Creation) → (is_created_schema schema c || drops own c) ≡ drops (change.DropSchema schema ∷ own) c
schema_dropped own (ref.New p) (NewSchema q) = ap (λ b. b || drops_schema own (ref.New q)) (turned p q)
schema_dropped own (ref.New p) (NewTable q) = refl
schema_dropped own (ref.Old p) (NewSchema q) = refl
schema_dropped own (ref.Old p) (NewTable q) = refl

table_dropped : (own : List Change) (table : Ref) (c : Creation) → (is_created_table table c || drops own c) ≡ drops (change.DropTable table ∷ own) c
table_dropped own (ref.New p) (NewTable q) = ap (λ b. b || drops_table own (ref.New q)) (turned p q)
table_dropped own (ref.New p) (NewSchema q) = refl
table_dropped own (ref.Old p) (NewTable q) = refl
table_dropped own (ref.Old p) (NewSchema q) = refl

-- a change that drops nothing
abbrev Keeps : Change → Type 0
Keeps c = (own : List Change) (x : Creation) → drops own x ≡ drops (c ∷ own) x

same_left : (c : Change) (own : List Change) → Keeps c → (cs : List Creation) → left_of own cs ≡ left_of (c ∷ own) cs
same_left c own keeps cs = same_tests (λ x. not (drops own x)) (λ x. not (drops (c ∷ own) x)) (λ x. ap not (keeps own x)) cs

-- a change that creates and drops nothing
still : (c : Change) (own : List Change) (w : Work) → Keeps c → (fold changed (changed w c) own).created ≡ left_of own w.created ++ creations w.created_schemas w.created_tables own
    → (fold changed (changed w c) own).created ≡ left_of (c ∷ own) w.created ++ creations w.created_schemas w.created_tables own
still c own w keeps h = h ∙ ap (λ l. l ++ creations w.created_schemas w.created_tables own) (same_left c own keeps w.created)

pub created-after : (own : List Change) (w : Work) → (fold changed w own).created ≡ left_of own w.created ++ creations w.created_schemas w.created_tables own
created-after [] w = sym (append-nil (left_of [] w.created) ∙ none w.created)
  where
    none : (cs : List Creation) → left_of [] cs ≡ cs
    none cs = same_tests (λ x. not (drops [] x)) (λ x. true) kept cs ∙ all_left cs
      where
        kept : (x : Creation) → not (drops [] x) ≡ true
        kept (NewSchema p) = refl
        kept (NewTable p) = refl
created-after (change.CreateSchema name ∷ own) w =
    created-after own (changed w (change.CreateSchema name))
    ∙ one_more (drops own) w.created (NewSchema w.created_schemas) (creations (w.created_schemas + 1) w.created_tables own)
    ∙ ap (λ l. l ++ creations w.created_schemas w.created_tables (change.CreateSchema name ∷ own)) (same_left (change.CreateSchema name) own keeps w.created)
  where
    keeps : Keeps (change.CreateSchema name)
    keeps rest (NewSchema p) = refl
    keeps rest (NewTable p) = refl
created-after (change.CreateTable schema name columns ∷ own) w =
    created-after own (changed w (change.CreateTable schema name columns))
    ∙ one_more (drops own) w.created (NewTable w.created_tables) (creations w.created_schemas (w.created_tables + 1) own)
    ∙ ap (λ l. l ++ creations w.created_schemas w.created_tables (change.CreateTable schema name columns ∷ own)) (same_left (change.CreateTable schema name columns) own keeps w.created)
  where
    keeps : Keeps (change.CreateTable schema name columns)
    keeps rest (NewSchema p) = refl
    keeps rest (NewTable p) = refl
created-after (change.DropSchema schema ∷ own) w =
    created-after own (changed w (change.DropSchema schema))
    ∙ ap (λ l. l ++ creations w.created_schemas w.created_tables own)
    (filter-twice (is_created_schema schema) (drops own) w.created
    ∙ same_tests (λ c. not (is_created_schema schema c || drops own c)) (λ c. not (drops (change.DropSchema schema ∷ own) c)) (λ c. ap not (schema_dropped own schema c)) w.created)
created-after (change.DropTable table ∷ own) w =
    created-after own (changed w (change.DropTable table))
    ∙ ap (λ l. l ++ creations w.created_schemas w.created_tables own)
    (filter-twice (is_created_table table) (drops own) w.created
    ∙ same_tests (λ c. not (is_created_table table c || drops own c)) (λ c. not (drops (change.DropTable table ∷ own) c)) (λ c. ap not (table_dropped own table c)) w.created)
created-after (c ∷ own) w = still c own w keeps (created-after own (changed w c))
  where
    keeps : Keeps c
    keeps rest (NewSchema p) = refl
    keeps rest (NewTable p) = refl

pub created-worked : (s : State) (own : List Change) → (worked s own).created ≡ creations 0 0 own
created-worked s own = created-after own (begun s)

-- ---- the tables' references

at_table-at : (table : Ref) (f : Draft → Draft) (d : Draft) → (f d).at ≡ d.at → (at_table table f d).at ≡ d.at
at_table-at table f d h = go (is_ref d.at table) refl
  where
    go : (b : Bool) → is_ref d.at table ≡ b → (at_table table f d).at ≡ d.at
    go true e = rw e h
    go false e = rw e refl

pub altered-at : (c : Change) (d : Draft) → (altered c d).at ≡ d.at
altered-at (change.AddColumn table column) d = at_table-at table (with_column column) d refl
altered-at (change.DropColumn table field) d = at_table-at table (without_column field) d refl
altered-at (change.RenameColumn table field name) d = at_table-at table (renamed field name) d refl
altered-at (change.PromoteColumn table field ty) d = at_table-at table (promoted field ty) d refl
altered-at (change.SetDefault table field value) d = at_table-at table (with_default field value) d refl
altered-at (change.Insert table rows) d = at_table-at table (with_rows rows) d refl
altered-at (change.Delete table rows) d = at_table-at table (without_rows rows) d refl
altered-at (change.Update table rows set) d = at_table-at table (with_updates rows set) d refl
altered-at c d = refl

-- a table is kept where the list doesn't drop it, under its reference
pub after-at : (own : List Change) (d : Draft) → option_map (λ (e : Draft). e.at) (draft_after own d) ≡ cond (drops_table own d.at) None (Some d.at)
after-at [] d = refl
after-at (c ∷ own) d = go (is_drop_of_table d.at c) refl (after-at own (altered c d))
  where
    go : (b : Bool) → is_drop_of_table d.at c ≡ b → option_map (λ (e : Draft). e.at) (draft_after own (altered c d)) ≡ cond (drops_table own (altered c d).at) None (Some (altered c d).at)
        → option_map (λ (e : Draft). e.at) (draft_after (c ∷ own) d) ≡ cond (drops_table (c ∷ own) d.at) None (Some d.at)
    go true e more = rw e refl
    go false e more = rw e (more ∙ ap (λ at. cond (drops_table own at) None (Some at)) (altered-at c d))
