-- The changes text of a commit is read with the names of the schemas that end.
use Rattle.std.proofs.Common.{◌≡◌, ⊎_elim, true≢false, ℕ, Bool, true, false, cond, not, ◌||◌, ◌==◌, List, [], ◌∷◌, map, filter, refl, sym, ap, ◌∙◌, subst, Some, Ordering}
use Rattle.std.specs.List.{AllByRecursion}
use Rattle.std.proofs.lemmas.Bool.{eq-eqb, eqb-true}
use Rattle.std.specs.declared.cmp.Ordering.TheVariants.{Less, Equal, Greater}
use Rattle.lake_types.specs.Kinds.{IsNamed, Says, changes_text, kind_cmp, name_of}
use Rattle.lake_types.specs.declared.kind.Kind.{Kind}
use Rattle.lake_types.specs.declared.kind.Kind.TheVariants as kind
use Rattle.lake_types.specs.declared.kind.SchemaName.{SchemaName}
use Rattle.lake_model.specs.Growth.{IsGrowth}
use Rattle.conflicts.specs.Laws.{IsApart}
use Rattle.lake_model.specs.Clashes.{conflicts}
use Rattle.lake_model.specs.Kinds as model
use Rattle.lake_model.specs.Kinds.{drops_schema, drops_table, kinds, kinds_at, kinds_from, leaves_fresh, only_if, put, put_all, put_by, schemas_after, tables_after}
use Rattle.lake_model.specs.declared.change.Change.{Change}
use Rattle.lake_model.specs.declared.change.Change.TheVariants as change
use Rattle.lake_model.specs.declared.change.Ref.TheVariants as ref
use Rattle.lake_model.proofs.SpellLemmas.{fits_known, kinds_spelled}
use Rattle.lake_rebase.proofs.HeadLemmas.{is-dropped, kinds-at-head}
use Rattle.lake_rebase.proofs.MemberLemmas.{all_in, in_of, is_same, name-is, of_in}
use Rattle.cat_rules.specs.HistoryRule.{IsRead, name_of_schema}
use Rattle.cat_rules.proofs.FirstLemmas.{all_like}
use Rattle.commit_rules.specs.Lawful.{IsTold}
use Rattle.commit_laws.proofs.CaseLemmas.{Case, head, parts, seen, text}
use Rattle.lake_model.proofs.CreationLemmas.{filter-mapped}
use Rattle.commit_laws.proofs.ListLemmas.{all_append, all_both}
use Rattle.commit_laws.proofs.PartLemmas.{parts_of-case}
use Rattle.commit_laws.proofs.SeenLemmas.{schemas_seen}

-- ---- a schema that is told as dropped is dropped

abbrev Drops : List Change → Kind → Type 0
Drops own (kind.DroppedSchema id name) = drops_schema own (ref.Old id) ≡ true
Drops own k = Unit {0}

later : (c : Change) (own : List Change) (k : Kind) → Drops own k → Drops (c ∷ own) k
later c own (kind.DroppedSchema id name) h = go (model.is_drop_of_schema (ref.Old id) c) h
  where
    go : (b : Bool) → drops_schema own (ref.Old id) ≡ true → (b || drops_schema own (ref.Old id)) ≡ true
    go true e = refl
    go false e = e
later c own (kind.CreatedSchema name) h = tt
later c own (kind.CreatedTable schema name) h = tt
later c own (kind.InsertedInto table) h = tt
later c own (kind.DeletedFrom table) h = tt
later c own (kind.Compacted table) h = tt
later c own (kind.DroppedTable table) h = tt
later c own (kind.Altered table) h = tt

only : (P : Kind → Type 0) (b : Bool) (k : Kind) → P k → AllByRecursion P (only_if b k)
only P true k h = (h, tt)
only P false k h = tt

at-change : (names : List SchemaName) (own : List Change) (m n : ℕ) (c : Change) (rest : List Change) → IsGrowth c → AllByRecursion (Drops (c ∷ rest)) (kinds_at names own m n c)
at-change names own m n (change.CreateSchema name) rest g = only (Drops (change.CreateSchema name ∷ rest)) (not (drops_schema own (ref.New m))) (kind.CreatedSchema name) tt
at-change names own m n (change.CreateTable schema name columns) rest g = only (Drops (change.CreateTable schema name columns ∷ rest)) (not (drops_table own (ref.New n))) (kind.CreatedTable (model.schema_name names own schema) name) tt
at-change names own m n (change.DropSchema (ref.Old id)) rest g = (ap (λ b. b || drops_schema rest (ref.Old id)) (eq-eqb id id refl), tt)
at-change names own m n (change.DropSchema (ref.New place)) rest g = tt
at-change names own m n (change.DropTable (ref.Old id)) rest g = (tt, tt)
at-change names own m n (change.DropTable (ref.New place)) rest g = tt
at-change names own m n (change.Insert (ref.New place) rows) rest g = tt
at-change names own m n (change.Insert (ref.Old id) rows) rest g = go (drops_table own (ref.Old id))
  where
    go : (b : Bool) → AllByRecursion (Drops (change.Insert (ref.Old id) rows ∷ rest)) (cond b [] (only_if (leaves_fresh own (ref.Old id)) (kind.InsertedInto id)))
    go true = tt
    go false = only (Drops (change.Insert (ref.Old id) rows ∷ rest)) (leaves_fresh own (ref.Old id)) (kind.InsertedInto id) tt
at-change names own m n (change.AddColumn table column) rest g = absurd g
at-change names own m n (change.DropColumn table field) rest g = absurd g
at-change names own m n (change.RenameColumn table field name) rest g = absurd g
at-change names own m n (change.PromoteColumn table field ty) rest g = absurd g
at-change names own m n (change.SetDefault table field v) rest g = absurd g
at-change names own m n (change.Delete table rows) rest g = absurd g
at-change names own m n (change.Update table rows set) rest g = absurd g
at-change names own m n (change.Compact table) rest g = absurd g
at-change names own m n (change.Flush table) rest g = absurd g

from-changes : (names : List SchemaName) (own : List Change) (m n : ℕ) (rest : List Change) → AllByRecursion IsGrowth rest → AllByRecursion (Drops rest) (kinds_from names own m n rest)
from-changes names own m n [] g = tt
from-changes names own m n (c ∷ rest) g =
    all_append (Drops (c ∷ rest)) (kinds_at names own m n c) (kinds_from names own (schemas_after m c) (tables_after n c) rest) (at-change names own m n c rest g.0)
    (all_like (Drops rest) (Drops (c ∷ rest)) (later c rest) (kinds_from names own (schemas_after m c) (tables_after n c) rest) (from-changes names own (schemas_after m c) (tables_after n c) rest g.1))

-- ---- in order

module _ (P : Kind → Type 0) where
  all_put : (k : Kind) (ks : List Kind) → P k → AllByRecursion P ks → AllByRecursion P (put k ks)
  all_put k [] p h = (p, tt)
  all_put k (l ∷ rest) p h = go (kind_cmp k l) (all_put k rest p h.1)
    where
      go : (o : Ordering) → AllByRecursion P (put k rest) → AllByRecursion P (put_by o k l rest (put k rest))
      go Less more = (p, h)
      go Equal more = h
      go Greater more = (h.0, more)

  all_put_all : (ks sorted : List Kind) → AllByRecursion P ks → AllByRecursion P sorted → AllByRecursion P (put_all sorted ks)
  all_put_all [] sorted h s = s
  all_put_all (k ∷ ks) sorted h s = all_put_all ks (put k sorted) h.1 (all_put k sorted h.0 s)

-- ---- names of those that end

name_kept : (own : List Change) (id : ℕ) (xs : List SchemaName) → drops_schema own (ref.Old id) ≡ true → name_of (filter (λ (x : SchemaName). drops_schema own (ref.Old x.id)) xs) id ≡ name_of xs id
name_kept own id [] e = refl
name_kept own id (x ∷ xs) e = go (x.id == id) refl (drops_schema own (ref.Old x.id)) refl (name_kept own id xs e)
  where
    go : (b : Bool) → (x.id == id) ≡ b → (d : Bool) → drops_schema own (ref.Old x.id) ≡ d → name_of (filter (λ (y : SchemaName). drops_schema own (ref.Old y.id)) xs) id ≡ name_of xs id
        → name_of (filter (λ (y : SchemaName). drops_schema own (ref.Old y.id)) (x ∷ xs)) id ≡ name_of (x ∷ xs) id
    go true is true d more = rw (d, is) refl
    go true is false d more = let drops : drops_schema own (ref.Old x.id) ≡ true = ap (λ n. drops_schema own (ref.Old n)) (eqb-true x.id id is) ∙ e in absurd (true≢false (sym drops ∙ d))
    go false is true d more = rw (d, is) more
    go false is false d more = rw (d, is) more

module _ (k : Case) where
  abbrev names : List SchemaName
  names = map name_of_schema (parts k).ended_schema

  names_are : names ≡ filter (λ (x : SchemaName). drops_schema k.own (ref.Old x.id)) (head k).schemas
  names_are = ap (map name_of_schema) (parts_of-case k).schema.ends ∙ filter-mapped name_of_schema (λ (x : SchemaName). drops_schema k.own (ref.Old x.id)) (seen k).schema ∙ ap (filter (λ (x : SchemaName). drops_schema k.own (ref.Old x.id))) (schemas_seen k)

  -- a schema that the list drops has one name at its base and at the head
  name-there : (id : ℕ) → drops_schema k.own (ref.Old id) ≡ true → name_of (head k).schemas id ≡ name_of k.state.schemas id
  name-there id e =
      let x = is-dropped k.told k.state (head k) k.own k.c.free id e in
      let at_base : name_of k.state.schemas x.schema.id ≡ Some x.schema.name = name-is k.state.next_catalog x.schema k.state.schemas k.c.free.base_ids.schemas x.there in
      ⊎_elim
      (λ there.
      let at_head : name_of (head k).schemas x.schema.id ≡ Some x.schema.name = name-is (head k).next_catalog x.schema (head k).schemas k.c.free.head_ids.schemas (in_of x.schema (head k).schemas there) in
      subst (λ n. name_of (head k).schemas n ≡ name_of k.state.schemas n) x.id_is (at_head ∙ sym at_base))
      (λ gone.
      let mine = kind.DroppedSchema id x.schema.name in let theirs = kind.DroppedSchema x.schema.id x.schema.name in
      let apart : conflicts mine theirs ≡ false = all_in (λ m. conflicts m theirs ≡ false) mine (kinds k.state.schemas k.own) (all_in (IsApart (kinds k.state.schemas k.own)) theirs k.told k.c.free.apart (in_of theirs k.told gone)) x.told_so in
      absurd (true≢false (sym (is_same x.schema.name x.schema.name refl) ∙ apart)))
      (k.c.free.tells.old_schemas x.schema (of_in x.schema k.state.schemas x.there))

  still-named : (l : Kind) → IsNamed (name_of k.state.schemas) l × Drops k.own l → IsNamed (name_of names) l
  still-named (kind.DroppedSchema id name) h = ap (λ xs. name_of xs id) names_are ∙ name_kept k.own id (head k).schemas h.1 ∙ name-there id h.1 ∙ h.0
  still-named (kind.CreatedSchema name) h = tt
  still-named (kind.CreatedTable schema name) h = tt
  still-named (kind.InsertedInto table) h = tt
  still-named (kind.DeletedFrom table) h = tt
  still-named (kind.Compacted table) h = tt
  still-named (kind.DroppedTable table) h = tt
  still-named (kind.Altered table) h = tt

  read : IsRead names (text k)
  read =
      let own_kinds = kinds k.state.schemas k.own in
      let said = kinds_spelled k.state.schemas k.own (fits_known k.state k.own k.c.free.base_ids k.c.free.small k.c.free.fits_base) in
      let dropped = all_put_all (Drops k.own) (kinds_from k.state.schemas k.own 0 0 k.own) [] (from-changes k.state.schemas k.own 0 0 k.own k.c.free.grows) tt in (
        own_kinds,
        record {
          says = subst (λ words. Says words own_kinds) (ap changes_text (sym (kinds-at-head k.told k.state (head k) k.own k.c.free))) said.says;
          named = all_like (λ l. IsNamed (name_of k.state.schemas) l × Drops k.own l) (IsNamed (name_of names)) still-named own_kinds (all_both (IsNamed (name_of k.state.schemas)) (Drops k.own) own_kinds said.named dropped);
        },
      )

  pub told : IsTold (parts k)
  told = record { number = refl; text = read }
