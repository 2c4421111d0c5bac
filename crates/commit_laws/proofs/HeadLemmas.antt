-- The head's version, with its counters.
use Rattle.std.proofs.Common.{◌≡◌, ℕ, List, [], ◌∷◌, ◌++◌, map, refl, sym, ap, ap₂, subst}
use Rattle.std.specs.List.{AllZip}
use Rattle.lake_types.specs.declared.kind.SchemaName.{SchemaName}
use Rattle.lake_model.specs.Core.{Version}
use Rattle.lake_model.specs.State.{State, Table}
use Rattle.cat_rows.specs.Seen.{Seen, seen_at}
use Rattle.cat_rows.specs.Tables.{Tables}
use Rattle.cat_rows.specs.declared.history.SnapshotRow.{SnapshotRow}
use Rattle.cat_rows.specs.declared.schemas.TableRow.{TableRow}
use Rattle.cat_view.specs.Files.{Files}
use Rattle.cat_view.specs.Named.{NamedTable, NamedVersion, state_of, table_of}
use Rattle.cat_view.specs.Sight.{IsTableAt, IsVersionOf}
use Rattle.cat_stands.specs.Stands.{IsPlain, IsSound, uncounted_table}
use Rattle.commit_laws.specs.StandLaws.{HeadIsCounted}

-- ---- the last of two lists side by side

pub last_zip : {X Y : Type 0} (P : X → Y → Type 0) (xs : List X) (x : X) (ys : List Y) (y : Y) → AllZip P (xs ++ x ∷ []) (ys ++ y ∷ []) → P x y
last_zip P [] x [] y h = h.0
last_zip P [] x (z ∷ []) y h = absurd h.1
last_zip P [] x (z ∷ w ∷ ys) y h = absurd h.1
last_zip P (z ∷ []) x [] y h = absurd h.1
last_zip P (z ∷ w ∷ xs) x [] y h = absurd h.1
last_zip P (z ∷ xs) x (w ∷ ys) y h = last_zip P xs x ys y h.1

-- ---- counters

-- the tables of a version with the counters of these
abbrev counted_with : List Table → List NamedTable → List NamedTable
counted_with [] xs = []
counted_with (t ∷ ts) [] = []
counted_with (t ∷ ts) (x ∷ xs) = record x { next_row = t.next_row; next_field = t.next_field } ∷ counted_with ts xs

module _ (files : Files) (seen : Seen) where
  same_fields : (t : Table) (x : NamedTable) → uncounted_table t ≡ uncounted_table (table_of files x) → table_of files (record x { next_row = t.next_row; next_field = t.next_field }) ≡ t
  same_fields t x e = ap (λ (u : Table). record u { next_row = t.next_row; next_field = t.next_field }) (sym e)

  head_of : (a b : Table) (ts us : List Table) → a ∷ ts ≡ b ∷ us → (a ≡ b) × (ts ≡ us)
  head_of a b ts us e = (cc, cc)

  counted-tables : (ts : List Table) (xs : List NamedTable) → map uncounted_table ts ≡ map uncounted_table (map (table_of files) xs) → map (table_of files) (counted_with ts xs) ≡ ts
  counted-tables [] xs e = refl
  counted-tables (t ∷ ts) [] e = absurd cc
  counted-tables (t ∷ ts) (x ∷ xs) e =
      let parts = head_of (uncounted_table t) (uncounted_table (table_of files x)) (map uncounted_table ts) (map uncounted_table (map (table_of files) xs)) e in
      ap₂ (λ (a : Table) l. a ∷ l) (same_fields t x parts.0) (counted-tables ts xs parts.1)

  counted-sees : (rs : List TableRow) (ts : List Table) (xs : List NamedTable) → map uncounted_table ts ≡ map uncounted_table (map (table_of files) xs) → AllZip (IsTableAt seen) rs xs → AllZip (IsTableAt seen) rs (counted_with ts xs)
  counted-sees [] [] xs e h = tt
  counted-sees [] (t ∷ ts) [] e h = tt
  counted-sees [] (t ∷ ts) (x ∷ xs) e h = absurd h
  counted-sees (r ∷ rs) [] [] e h = absurd h
  counted-sees (r ∷ rs) [] (x ∷ xs) e h = absurd cc
  counted-sees (r ∷ rs) (t ∷ ts) [] e h = absurd h
  counted-sees (r ∷ rs) (t ∷ ts) (x ∷ xs) e h =
      let parts = head_of (uncounted_table t) (uncounted_table (table_of files x)) (map uncounted_table ts) (map uncounted_table (map (table_of files) xs)) e in
      (record { id = h.0.id; schema = h.0.schema; name = h.0.name; columns = h.0.columns; files = h.0.files; inlined = h.0.inlined }, counted-sees rs ts xs parts.1 h.1)

  pub record IsStateOf (state : State) : Type 0 where
    pub version : NamedVersion
    pub sees : IsVersionOf seen version
    pub is : state_of files state.next_catalog version ≡ state

  pub plain-counted : (state : State) → IsPlain files seen state → IsStateOf state
  plain-counted state p =
      let tables : map uncounted_table state.tables ≡ map uncounted_table (map (table_of files) p.version.tables) = ap (λ (s : State). s.tables) p.same in
      let schemas : state.schemas ≡ p.version.schemas = ap (λ (s : State). s.schemas) p.same in
      let counted = counted_with state.tables p.version.tables in
      record {
        version = record { schemas = p.version.schemas; tables = counted };
        sees = record { schemas = p.sees.schemas; tables = counted-sees seen.table state.tables p.version.tables tables p.sees.tables };
        is = ap₂ (λ (ss : List SchemaName) (ts : List Table). record state { schemas = ss; tables = ts }) (sym schemas) (counted-tables state.tables p.version.tables tables);
      }

-- ---- the head

pub head-plain : (t : Tables) (files : Files) (first : ℕ) (versions : List Version) (sound : IsSound t files first versions) → IsPlain files (seen_at sound.newest.snapshot_id t) sound.head.state
head-plain t files first versions sound =
    let Plain : SnapshotRow → Version → Type 0 = λ r v. IsPlain files (seen_at r.snapshot_id t) v.state in
    last_zip Plain sound.before sound.newest sound.older sound.head
    (subst (λ (vs : List Version). AllZip Plain (sound.before ++ sound.newest ∷ []) vs) sound.versions_are
    (subst (λ (rs : List SnapshotRow). AllZip Plain rs versions) sound.snapshots sound.plain))

pub head-counted : HeadIsCounted
head-counted t files first versions sound =
    let h = plain-counted files (seen_at sound.newest.snapshot_id t) sound.head.state (head-plain t files first versions sound) in
    record { version = h.version; sees = h.sees; is = h.is }
