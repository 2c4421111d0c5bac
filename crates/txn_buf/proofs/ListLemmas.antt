-- That a transaction's own list may be staged and committed, before a statement and after it.
use Rattle.std.proofs.Common.{◌≡◌, ℕ, List, [], ◌∷◌, map, refl, sym, subst, Bool, true, false}
use Rattle.std.proofs.lemmas.Simd.{map-map}
use Rattle.std.specs.Prelude.{None, Result, Ok, Err, IfOk, OnErr}
use Rattle.std.specs.List.{AllByRecursion}
use Rattle.lake_types.specs.declared.stmt.Cell.{Cell}
use Rattle.lake_types.specs.declared.stmt.Stmt.{Stmt}
use Rattle.lake_types.specs.declared.stmt.Stmt.TheVariants as stmt
use Rattle.lake_model.specs.Apply.{Draft, Work, worked}
use Rattle.lake_model.specs.Fits.{Fits, IsColumn}
use Rattle.lake_model.specs.Growth.{IsGrowth}
use Rattle.lake_model.specs.Plans as p
use Rattle.lake_model.specs.Plans.{Plan, Append, Leave, Refuse}
use Rattle.lake_model.specs.Rows as r
use Rattle.lake_model.specs.State.{State, Table}
use Rattle.lake_model.specs.Step as s
use Rattle.lake_model.specs.declared.answer.Answer.{Answer}
use Rattle.lake_model.specs.declared.change.Change.{Change}
use Rattle.lake_model.specs.declared.change.Txn.{Txn}
use Rattle.lake_model.proofs.FitsLemmas.{fits_more, growth_allowed}
use Rattle.lake_model.proofs.PlanLemmas as plan
use Rattle.lake_model.proofs.TableLemmas.{all-joined, all-mapped}
use Rattle.cat_view.specs.Named.{NamedTable, NamedVersion, state_of, table_of}
use Rattle.cat_view.specs.Workable.{AreSized}
use Rattle.txn_buf.specs.Base.{IsBase, head_of, without_rows}
use Rattle.txn_buf.specs.Keeping.{Keeps}
use Rattle.txn_buf.specs.Laws.{KeptListsFit, StatesAreBases}
use Rattle.txn_buf.specs.Sizes.{IsSizedStmt}
use Rattle.txn_buf.specs.Turns.{IsDone, Leaves, planned}
use Rattle.txn_buf.specs.declared.no.TxnNo.{TxnNo}
use Rattle.txn_buf.specs.declared.tally.Tally.{Tally}
use Rattle.txn_buf.proofs.SizeLemmas.{sized_appends}

-- ---- base states

pub states_are_bases : StatesAreBases
states_are_bases files next_catalog v = record { schemas = refl; tables = map-map without_rows (table_of files) v.tables }

abbrev HasSmallColumns : Table → Type 0
HasSmallColumns t = AllByRecursion IsColumn t.columns

small-without : (ts : List Table) → AllByRecursion HasSmallColumns (map without_rows ts) → AllByRecursion HasSmallColumns ts
small-without [] h = tt
small-without (t ∷ ts) h = (h.0, small-without ts h.1)

base-small : (v : NamedVersion) (base : State) → IsBase v base → AreSized v.tables → AllByRecursion HasSmallColumns base.tables
base-small v base same sized =
    let heads = all-mapped (λ (x : NamedTable). AllByRecursion IsColumn x.columns) HasSmallColumns head_of (λ x h. h) v.tables sized in
    small-without base.tables (subst (AllByRecursion HasSmallColumns) (sym same.tables) heads)

-- ---- statements that create, drop or insert

abbrev pub IsGrowing : Stmt → Type 0
IsGrowing (stmt.CreateSchema name) = Unit {0}
IsGrowing (stmt.DropSchema name) = Unit {0}
IsGrowing (stmt.CreateTable table columns) = Unit {0}
IsGrowing (stmt.DropTable table) = Unit {0}
IsGrowing (stmt.Insert table rows) = Unit {0}
IsGrowing x = ⊥

insertion-grows : (d : Draft) (rows : List (List Cell)) → plan.Holds IsGrowth (r.insertion d rows)
insertion-grows d [] = plan.leaves IsGrowth _
insertion-grows d (row ∷ rows) = plan.appends IsGrowth _ _ tt

plans-grow : (next : ℕ) (w : Work) (x : Stmt) → IsGrowing x → plan.Holds IsGrowth (s.plan_in next w x)
plans-grow next w (stmt.CreateSchema name) g = plan.unless-holds IsGrowth _ _ (plan.appends IsGrowth _ _ tt)
plans-grow next w (stmt.DropSchema name) g =
    plan.in_schema-holds IsGrowth name _ (p.schema_named w name) (λ at named. plan.unless-holds IsGrowth _ _ (plan.appends IsGrowth _ _ tt))
plans-grow next w (stmt.CreateTable table defs) g =
    plan.in_schema-holds IsGrowth table.schema _ (p.schema_named w table.schema) (λ at named. plan.unless-holds IsGrowth _ _ (plan.appends IsGrowth _ _ tt))
plans-grow next w (stmt.DropTable table) g = plan.on_table-holds IsGrowth w table _ (λ at d found. plan.appends IsGrowth _ _ tt)
plans-grow next w (stmt.Insert table rows) g =
    plan.on_table-holds IsGrowth w table _ (λ at d found. plan.unless-holds IsGrowth _ _ (insertion-grows d rows))
plans-grow next w (stmt.Change table x) g = absurd g
plans-grow next w (stmt.Delete table test) g = absurd g
plans-grow next w (stmt.Update table set test) g = absurd g
plans-grow next w (stmt.Compact table) g = absurd g
plans-grow next w (stmt.Flush table) g = absurd g
plans-grow next w x g = plan.leaves IsGrowth _

planned-appends : (reads : Bool) (base : State) (own : List Change) (x : Stmt) (c : Change) (a : Answer) → planned reads base own x ≡ Append c a → s.plan_of base own x ≡ Append c a
planned-appends true base own x c a e = absurd cc
planned-appends false base own x c a e = e

-- ---- the list after a statement

-- what is kept of a list alone
pub record IsListed (v : NamedVersion) (own : List Change) : Type 0 where
  pub growth : AllByRecursion IsGrowth own
  pub fits : (base : State) → IsBase v base → Fits base own

module _ (v : NamedVersion) (txn : Txn) (tally : Tally) (keeps : Keeps v txn.own tally) (x : Stmt) (grows : IsGrowing x) (sized : IsSizedStmt x) where
  module _ (left : List Change) (a : Answer) (done : IsDone v txn x left a) (base : State) (same : IsBase v base) where
    grown-by : (c : Change) (b : Answer) → planned txn.read_only base txn.own x ≡ Append c b → IsGrowth c
    grown-by c b e =
        plan.appended-holds IsGrowth _ c b (planned-appends txn.read_only base txn.own x c b e)
        (plan.plan_of-holds IsGrowth base txn.own x (plans-grow base.next_catalog (worked base txn.own) x grows))

    growth-left : AllByRecursion IsGrowth left
    growth-left = go (planned txn.read_only base txn.own x) refl (done base same)
      where
        go : (plan : Plan) → planned txn.read_only base txn.own x ≡ plan → Leaves plan txn.own left a → AllByRecursion IsGrowth left
        go (Refuse b) e leaves = absurd leaves
        go (Leave b) e leaves = subst (AllByRecursion IsGrowth) (sym leaves.0) keeps.growth
        go (Append c b) e leaves = subst (AllByRecursion IsGrowth) (sym leaves.0) (all-joined IsGrowth txn.own (c ∷ []) keeps.growth (grown-by c b e, tt))

    fits-left : Fits base left
    fits-left = go (planned txn.read_only base txn.own x) refl (done base same)
      where
        go : (plan : Plan) → planned txn.read_only base txn.own x ≡ plan → Leaves plan txn.own left a → Fits base left
        go (Refuse b) e leaves = absurd leaves
        go (Leave b) e leaves = subst (Fits base) (sym leaves.0) (keeps.fits base same)
        go (Append c b) e leaves =
            let before = keeps.fits base same in
            let is : s.plan_of base txn.own x ≡ Append c b = planned-appends txn.read_only base txn.own x c b e in
            let allowed = growth_allowed base txn.own c (grown-by c b e) (record { stmt = x; answer = b; plan_is = is }) in
            let small = sized_appends base txn.own x c b (base-small v base same keeps.sized) before sized is in
            subst (Fits base) (sym leaves.0) (fits_more base txn.own c before allowed small)

  pub listed : {T : Type 0} (r : Result T TxnNo) (left : List Change) (a : T → Answer) → IfOk r (λ n. IsDone v txn x left (a n)) → OnErr r (left ≡ txn.own) → IsListed v left
  listed (Ok n) left a done same = record {
    growth = growth-left left (a n) done (state_of (λ name. None) 0 v) (states_are_bases (λ name. None) 0 v);
    fits = fits-left left (a n) done;
  }
  listed (Err why) left a done same = rw same record { growth = keeps.growth; fits = keeps.fits }

-- ---- a list that is kept

pub kept_lists_fit : KeptListsFit
kept_lists_fit files next_catalog v own tally keeps = (keeps.growth, keeps.fits (state_of files next_catalog v) (states_are_bases files next_catalog v))
