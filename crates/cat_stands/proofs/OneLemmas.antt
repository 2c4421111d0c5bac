-- A content stands for one lake at most.
use Rattle.std.proofs.Common.{◌≡◌, ℕ, zero, suc, List, [], ◌∷◌, ◌++◌, length, map, Some, refl, sym, ap, ap₂, ◌∙◌, subst}
use Rattle.std.proofs.lemmas.Option.{same_Some}
use Rattle.std.specs.List.{AllByRecursion, AllZip, flat_map, range_with_len}
use Rattle.lake_types.specs.Cells.{laid_cells}
use Rattle.lake_types.specs.Kinds.{SaysWith}
use Rattle.lake_types.specs.declared.kind.SchemaName.{SchemaName}
use Rattle.lake_types.specs.declared.value.Column.{Column}
use Rattle.lake_types.specs.declared.value.Row.{Row}
use Rattle.lake_model.specs.Apply.{Cells}
use Rattle.lake_model.specs.Core.{AreSpelled, HaveKinds, Version}
use Rattle.lake_model.specs.State.{State, Table}
use Rattle.inline_rows.proofs.OneLemmas.{spells_one}
use Rattle.cat_rules.specs.Lookups.{last}
use Rattle.cat_rows.specs.Seen.{Seen, seen_at}
use Rattle.cat_rows.specs.Tables.{Tables}
use Rattle.cat_rows.specs.declared.files.TableStatsRow.{TableStatsRow}
use Rattle.cat_rows.specs.declared.history.SnapshotRow.{SnapshotRow}
use Rattle.cat_rows.specs.declared.inlined.InlinedRow.{InlinedRow}
use Rattle.cat_rows.specs.declared.schemas.TableRow.{TableRow}
use Rattle.cat_changes.proofs.ListLemmas.{has_one_list}
use Rattle.cat_texts.proofs.RowLemmas.{one_column}
use Rattle.cat_texts.specs.Spelled.{IsColumnOf}
use Rattle.cat_view.specs.Files.{Files}
use Rattle.cat_view.specs.Named.{NamedTable, live_rows, ordered, state_of, table_of}
use Rattle.cat_view.specs.Sight.{IsInlined, IsTableAt, column_rows, inlined_rows, stats_row}
use Rattle.cat_stands.specs.Laws.{AreOneLake, HaveVersions, StandsForOne, uncounted_version}
use Rattle.cat_stands.specs.Stands.{HasCounters, HasHeadCounters, IsPlain, IsSound, uncounted, uncounted_table}

-- ---- lists

head_in : {X : Type 0} {x y : X} {xs ys : List X} → x ∷ xs ≡ y ∷ ys → x ≡ y
head_in e = cc

tail_in : {X : Type 0} {x y : X} {xs ys : List X} → x ∷ xs ≡ y ∷ ys → xs ≡ ys
tail_in e = cc

none_left : {X : Type 0} {x : X} {xs : List X} → [] ≡ x ∷ xs → ⊥
none_left e = cc

last-of : {X : Type 0} (xs : List X) (x : X) → last (xs ++ x ∷ []) ≡ Some x
last-of [] x = refl
last-of (y ∷ []) x = refl
last-of (y ∷ z ∷ xs) x = last-of (z ∷ xs) x

-- what stands beside each of some things is one thing at most, where so it is of each
zip-same : {R X : Type 0} (P : R → X → Type 0) → ((r : R) (x y : X) → P r x → P r y → x ≡ y) → (rs : List R) (xs ys : List X) → AllZip P rs xs → AllZip P rs ys → xs ≡ ys
zip-same P one [] [] [] h k = refl
zip-same P one [] [] (y ∷ ys) h k = absurd k
zip-same P one [] (x ∷ xs) ys h k = absurd h
zip-same P one (r ∷ rs) [] ys h k = absurd h
zip-same P one (r ∷ rs) (x ∷ xs) [] h k = absurd k
zip-same P one (r ∷ rs) (x ∷ xs) (y ∷ ys) h k = ap₂ (λ a b. a ∷ b) (one r x y h.0 k.0) (zip-same P one rs xs ys h.1 k.1)

zip-last : {R X : Type 0} (P : R → X → Type 0) (rs : List R) (r : R) (xs : List X) (x : X) → AllZip P (rs ++ r ∷ []) (xs ++ x ∷ []) → P r x
zip-last P [] r [] x h = h.0
zip-last P [] r (y ∷ []) x h = absurd h.1
zip-last P [] r (y ∷ z ∷ xs) x h = absurd h.1
zip-last P (q ∷ []) r [] x h = absurd h.1
zip-last P (q ∷ p ∷ rs) r [] x h = absurd h.1
zip-last P (q ∷ rs) r (y ∷ xs) x h = zip-last P rs r xs x h.1

-- ---- what one snapshot sees

one_row : (columns : List Column) (r : InlinedRow) (a b : Row) → IsInlined columns r a → IsInlined columns r b → a ≡ b
one_row columns r a b h k =
    let row : Cells → Row = λ cells. record { id = r.row_id; cells = laid_cells columns cells } in
    h.laid ∙ (ap row (spells_one r.cells h.cells k.cells h.spelled k.spelled) ∙ sym k.laid)

module _ (files : Files) (seen : Seen) where
  one_table : (r : TableRow) (x y : NamedTable) → IsTableAt seen r x → IsTableAt seen r y → uncounted_table (table_of files x) ≡ uncounted_table (table_of files y)
  one_table r x y h k =
      let id : x.id ≡ y.id = h.id ∙ sym k.id in
      let schema : x.schema ≡ y.schema = h.schema ∙ sym k.schema in
      let name : x.name ≡ y.name = h.name ∙ sym k.name in
      let columns : x.columns ≡ y.columns = zip-same IsColumnOf one_column (column_rows r.table_id seen.column) x.columns y.columns h.columns k.columns in
      let fs : x.files ≡ y.files = h.files ∙ sym k.files in
      let rows = inlined_rows r.table_id seen.inlined_row in
      let moved : AllZip (IsInlined y.columns) rows x.inlined = subst (λ (cs : List Column). AllZip (IsInlined cs) rows x.inlined) columns h.inlined in
      let inlined : x.inlined ≡ y.inlined = zip-same (IsInlined y.columns) (one_row y.columns) rows x.inlined y.inlined moved k.inlined in
      λ i. record {
        id = id i;
        schema = schema i;
        name = name i;
        columns = columns i;
        rows = ordered (λ (row : Row). row.id) (flat_map (live_rows files (columns i)) (fs i) ++ inlined i);
        next_row = 0;
        next_field = 0;
      }

  one_tables : (rs : List TableRow) (xs ys : List NamedTable) → AllZip (IsTableAt seen) rs xs → AllZip (IsTableAt seen) rs ys
      → map uncounted_table (map (table_of files) xs) ≡ map uncounted_table (map (table_of files) ys)
  one_tables [] [] [] h k = refl
  one_tables [] [] (y ∷ ys) h k = absurd k
  one_tables [] (x ∷ xs) ys h k = absurd h
  one_tables (r ∷ rs) [] ys h k = absurd h
  one_tables (r ∷ rs) (x ∷ xs) [] h k = absurd k
  one_tables (r ∷ rs) (x ∷ xs) (y ∷ ys) h k = ap₂ (λ (a : Table) (b : List Table). a ∷ b) (one_table r x y h.0 k.0) (one_tables rs xs ys h.1 k.1)

  pub one_state : (a b : State) → IsPlain files seen a → IsPlain files seen b → uncounted a ≡ uncounted b
  one_state a b h k =
      let schemas : h.version.schemas ≡ k.version.schemas = h.sees.schemas ∙ sym k.sees.schemas in
      let tables = one_tables seen.table h.version.tables k.version.tables h.sees.tables k.sees.tables in
      let states : uncounted (state_of files 0 h.version) ≡ uncounted (state_of files 0 k.version) = λ i. record { schemas = schemas i; tables = tables i; next_catalog = 0 } in
      h.same ∙ (states ∙ sym k.same)

-- ---- all versions

-- versions without their kinds
abbrev pub unkinded : Version → Version
unkinded v = record v { state = uncounted v.state; kinds = [] }

-- states up to counters and texts make versions up to counters and kinds
one_by_one : (files : Files) (t : Tables) (rows : List SnapshotRow) (vs ws : List Version) → HaveVersions files t rows vs → HaveVersions files t rows ws
    → map (λ (v : Version). v.text) vs ≡ map (λ (v : Version). v.text) ws → map unkinded vs ≡ map unkinded ws
one_by_one files t [] [] [] h k e = refl
one_by_one files t [] [] (w ∷ ws) h k e = absurd k
one_by_one files t [] (v ∷ vs) ws h k e = absurd h
one_by_one files t (r ∷ rs) [] ws h k e = absurd h
one_by_one files t (r ∷ rs) (v ∷ vs) [] h k e = absurd k
one_by_one files t (r ∷ rs) (v ∷ vs) (w ∷ ws) h k e =
    let state = one_state files (seen_at r.snapshot_id t) v.state w.state h.0 k.0 in
    let text : v.text ≡ w.text = head_in e in
    let one : unkinded v ≡ unkinded w = λ i. record { state = state i; text = text i; kinds = [] } in
    ap₂ (λ (a : Version) (b : List Version). a ∷ b) one (one_by_one files t rs vs ws h.1 k.1 (tail_in e))

-- the kinds are those of the texts
with_kinds : (v w : Version) → unkinded v ≡ unkinded w → v.kinds ≡ w.kinds → uncounted_version v ≡ uncounted_version w
with_kinds v w e kinds = λ i. record (e i) { kinds = kinds i }

one_spelled : (names : List SchemaName) (vs ws : List Version) → map unkinded vs ≡ map unkinded ws → AreSpelled names vs → AreSpelled names ws
    → map uncounted_version vs ≡ map uncounted_version ws
one_spelled names [] [] e h k = refl
one_spelled names [] (w ∷ ws) e h k = absurd (none_left e)
one_spelled names (v ∷ vs) [] e h k = absurd (none_left (sym e))
one_spelled names (v ∷ vs) (w ∷ ws) e h k =
    let u : unkinded v ≡ unkinded w = head_in e in
    let text : v.text ≡ w.text = ap (λ (x : Version). x.text) u in
    let schemas : v.state.schemas ≡ w.state.schemas = ap (λ (x : Version). x.state.schemas) u in
    let kinds : v.kinds ≡ w.kinds = has_one_list names w.text v.kinds w.kinds (subst (λ (b : List ℕ). SaysWith names b v.kinds) text h.0) k.0 in
    ap₂ (λ (a : Version) (b : List Version). a ∷ b) (with_kinds v w u kinds)
    (one_spelled w.state.schemas vs ws (tail_in e) (subst (λ (n : List SchemaName). AreSpelled n vs) schemas h.1) k.1)

one_lists : (vs ws : List Version) → map unkinded vs ≡ map unkinded ws → HaveKinds vs → HaveKinds ws → map uncounted_version vs ≡ map uncounted_version ws
one_lists [] [] e h k = refl
one_lists [] (w ∷ ws) e h k = absurd (none_left e)
one_lists (v ∷ vs) [] e h k = absurd (none_left (sym e))
one_lists (v ∷ vs) (w ∷ ws) e h k =
    let u : unkinded v ≡ unkinded w = head_in e in
    let schemas : v.state.schemas ≡ w.state.schemas = ap (λ (x : Version). x.state.schemas) u in
    ap₂ (λ (a : Version) (b : List Version). a ∷ b) (with_kinds v w u (h.0 ∙ sym k.0))
    (one_spelled w.state.schemas vs ws (tail_in e) (subst (λ (n : List SchemaName). AreSpelled n vs) schemas h.1) k.1)

-- ---- the newest

one_counted : (t : Tables) (x y : Table) → uncounted_table x ≡ uncounted_table y → HasCounters t x → HasCounters t y → x ≡ y
one_counted t x y u h k =
    let id : x.id ≡ y.id = ap (λ (z : Table). z.id) u in
    let row : h.row ≡ k.row = same_Some _ _ (sym h.there ∙ (ap (stats_row t) id ∙ k.there)) in
    let next_row : x.next_row ≡ y.next_row = h.next_row ∙ (ap (λ (r : TableStatsRow). r.next_row_id) row ∙ sym k.next_row) in
    let next_field : x.next_field ≡ y.next_field = h.next_field ∙ (ap (λ (r : TableStatsRow). r.next_field_id) row ∙ sym k.next_field) in
    λ i. record (u i) { next_row = next_row i; next_field = next_field i }

all_counted : (t : Tables) (xs ys : List Table) → map uncounted_table xs ≡ map uncounted_table ys → AllByRecursion (HasCounters t) xs → AllByRecursion (HasCounters t) ys → xs ≡ ys
all_counted t [] [] e h k = refl
all_counted t [] (y ∷ ys) e h k = absurd (none_left e)
all_counted t (x ∷ xs) [] e h k = absurd (none_left (sym e))
all_counted t (x ∷ xs) (y ∷ ys) e h k = ap₂ (λ (a : Table) (b : List Table). a ∷ b) (one_counted t x y (head_in e) h.0 k.0) (all_counted t xs ys (tail_in e) h.1 k.1)

pub one_head : (t : Tables) (newest : SnapshotRow) (a b : State) → uncounted a ≡ uncounted b → HasHeadCounters t newest a → HasHeadCounters t newest b → a ≡ b
one_head t newest a b u h k =
    let tables : a.tables ≡ b.tables = all_counted t a.tables b.tables (ap (λ (s : State). s.tables) u) h.tables k.tables in
    let next : a.next_catalog ≡ b.next_catalog = h.next_catalog ∙ sym k.next_catalog in
    λ i. record (u i) { tables = tables i; next_catalog = next i }

-- ---- the first number

first_number : (rows : List SnapshotRow) (first second : ℕ) (m n : ℕ) (before : List SnapshotRow) (newest : SnapshotRow) → rows ≡ before ++ newest ∷ []
    → map (λ (r : SnapshotRow). r.snapshot_id) rows ≡ range_with_len first m → map (λ (r : SnapshotRow). r.snapshot_id) rows ≡ range_with_len second n → first ≡ second
first_number [] first second m n [] newest some e f = absurd (none_left some)
first_number [] first second m n (b ∷ bs) newest some e f = absurd (none_left some)
first_number (r ∷ rows) first second zero n before newest some e f = absurd (none_left (sym e))
first_number (r ∷ rows) first second (suc m) zero before newest some e f = absurd (none_left (sym f))
first_number (r ∷ rows) first second (suc m) (suc n) before newest some e f = sym (head_in e) ∙ head_in f

-- ---- the whole

module _ (t : Tables) (files : Files) (first second : ℕ) (vs ws : List Version) (h : IsSound t files first vs) (k : IsSound t files second ws) where
  newest_same : h.newest ≡ k.newest
  newest_same = same_Some _ _ (sym (last-of h.before h.newest) ∙ (ap last (sym h.snapshots ∙ k.snapshots) ∙ last-of k.before k.newest))

  abbrev pub IsState : SnapshotRow → Version → Type 0
  IsState r v = IsPlain files (seen_at r.snapshot_id t) v.state

  head_plain : IsState h.newest h.head
  head_plain =
      zip-last IsState h.before h.newest h.older h.head
      (subst (λ (rows : List SnapshotRow). AllZip IsState rows (h.older ++ h.head ∷ [])) h.snapshots (subst (AllZip IsState t.snapshot) h.versions_are h.plain))

  other_plain : IsState k.newest k.head
  other_plain =
      zip-last IsState k.before k.newest k.older k.head
      (subst (λ (rows : List SnapshotRow). AllZip IsState rows (k.older ++ k.head ∷ [])) k.snapshots (subst (AllZip IsState t.snapshot) k.versions_are k.plain))

  heads_same : h.head.state ≡ k.head.state
  heads_same =
      one_head t k.newest h.head.state k.head.state
      (one_state files (seen_at k.newest.snapshot_id t) h.head.state k.head.state (subst (λ (r : SnapshotRow). IsState r h.head) newest_same head_plain) other_plain)
      (subst (λ (r : SnapshotRow). HasHeadCounters t r h.head.state) newest_same h.counters) k.counters

  last_state : (all older : List Version) (head : Version) → all ≡ older ++ head ∷ [] → last (map (λ (v : Version). v.state) all) ≡ Some head.state
  last_state all older head e = ap (λ (vs : List Version). last (map (λ (v : Version). v.state) vs)) e ∙ go older
    where
      go : (xs : List Version) → last (map (λ (v : Version). v.state) (xs ++ head ∷ [])) ≡ Some head.state
      go [] = refl
      go (y ∷ []) = refl
      go (y ∷ z ∷ xs) = go (z ∷ xs)

  is_one : AreOneLake first second vs ws
  is_one = record {
    first_is = first_number t.snapshot first second (length vs) (length ws) h.before h.newest h.snapshots h.numbers k.numbers;
    versions_are = one_lists vs ws (one_by_one files t t.snapshot vs ws h.plain k.plain (sym h.texts ∙ k.texts)) h.kinds k.kinds;
    newest = last_state vs h.older h.head h.versions_are ∙ (ap Some heads_same ∙ sym (last_state ws k.older k.head k.versions_are));
  }

pub stands-for_one : StandsForOne
stands-for_one t files first second versions others h k = is_one t files first second versions others h k
