-- The counters of the head after a commit.
use Rattle.std.proofs.Common.{◌≡◌, ◌+◌, ◌<◌, false, not, [], length, map, Option, Some, None, option_map, refl, sym, ap, ap₂, ◌∙◌, subst, arith, add-zero}
use Rattle.std.specs.List.{AllByRecursion}
use Rattle.std.proofs.lemmas.Bool.{not-true}
use Rattle.lake_model.proofs.GrowthLemmas.{grows_by_table}
use Rattle.lake_model.proofs.TableLemmas.{all-joined, all-mapped}
use Rattle.lake_model.specs.Apply.{Draft, apply, settled_table}
use Rattle.lake_model.specs.Creations.{creations}
use Rattle.lake_model.specs.Growth.{grown, grown_state, left_tables, made_tables, rows_for}
use Rattle.lake_model.specs.Kinds.{drops_table}
use Rattle.lake_model.specs.State.{State, Table}
use Rattle.lake_model.specs.declared.change.Ref.{Ref}
use Rattle.lake_model.specs.declared.change.Ref.TheVariants as ref
use Rattle.lake_rebase.proofs.MemberLemmas.{In, all_by, all_in, below, in_kept, in_map}
use Rattle.cat_rows.specs.declared.files.TableStatsRow.{TableStatsRow}
use Rattle.cat_view.specs.Named.{NamedTable, table_of}
use Rattle.cat_view.specs.Staged.{NamedStagedFile, staged_for}
use Rattle.cat_growth.proofs.VersionLemmas.{made-have}
use Rattle.cat_stands.specs.Stands.{HasCounters}
use Rattle.rebase.specs.Parts.{made_stats, rows_in}
use Rattle.commit_laws.specs.StandLaws.{CountersGoOn}
use Rattle.commit_laws.proofs.StandCaseLemmas.{Case, after, head, next, same-next}
use Rattle.commit_laws.proofs.HeldLemmas.{head-count, made-count}
use Rattle.commit_laws.proofs.PlainLemmas.{counters, v, v-is}
use Rattle.commit_laws.proofs.StatsLemmas.{gained, stats-made, stats-old}

pub gained-rows : (o : Option NamedStagedFile) (r : TableStatsRow) → (gained o r).record_count ≡ r.record_count + rows_in o
gained-rows None r = sym (add-zero r.record_count)
gained-rows (Some f) r = refl

gained-next : (o : Option NamedStagedFile) (r : TableStatsRow) → (gained o r).next_row_id ≡ r.next_row_id + rows_in o
gained-next None r = sym (add-zero r.next_row_id)
gained-next (Some f) r = refl

pub gained-field : (o : Option NamedStagedFile) (r : TableStatsRow) → (gained o r).next_field_id ≡ r.next_field_id
gained-field None r = refl
gained-field (Some f) r = refl

module _ (x : Case) where
  abbrev file_at : Ref → Option NamedStagedFile
  file_at at = (staged_for x.staged at).fresh

  pub applied-is : apply (head x) x.own ≡ grown_state (head x) x.own
  applied-is = grows_by_table (head x) x.own x.is.free.grows

  -- what holds of the tables that are left, and of those that are made
  pub all-applied : (P : Table → Type 0) → ((tb : Table) → In tb (head x).tables → drops_table x.own (ref.Old tb.id) ≡ false → P (grown x.own tb))
      → ((d : Draft) → In d (made_tables 0 x.own) → P (settled_table (next x) (creations 0 0 x.own) d)) → AllByRecursion P (apply (head x) x.own).tables
  all-applied P old made =
      subst (λ (s : State). AllByRecursion P s.tables) (sym applied-is)
      (all-joined P (map (grown x.own) (left_tables (head x) x.own)) _
      (all-mapped (λ (tb : Table). P (grown x.own tb)) P (grown x.own) (λ tb h. h) (left_tables (head x) x.own)
      (all_by (λ (tb : Table). P (grown x.own tb)) (left_tables (head x) x.own) (λ tb there. (let m = in_kept (λ (u : Table). not (drops_table x.own (ref.Old u.id))) tb (head x).tables there in old tb m.0 (not-true (drops_table x.own (ref.Old tb.id)) m.1)))))
      (subst (λ k. AllByRecursion P (map (settled_table k (creations 0 0 x.own)) (made_tables 0 x.own))) (sym (same-next x))
      (all-mapped (λ (d : Draft). P (settled_table (next x) (creations 0 0 x.own) d)) P (settled_table (next x) (creations 0 0 x.own)) (λ d h. h) (made_tables 0 x.own)
      (all_by (λ (d : Draft). P (settled_table (next x) (creations 0 0 x.own) d)) (made_tables 0 x.own) made))))

  pub head-low : (tb : Table) → In tb (head x).tables → tb.id < next x
  head-low tb there = subst (λ k. tb.id < k) (same-next x) (below (λ (u : Table). u.id) (head x).next_catalog tb (head x).tables x.is.free.head_ids.tables there)

  -- a table of the head, in its version
  pub record IsNamedTable (tb : Table) : Type 0 where
    pub named : NamedTable
    pub there : In named (v x).tables
    pub is : table_of x.files named ≡ tb

  pub named-of : (tb : Table) → In tb (head x).tables → IsNamedTable tb
  named-of tb there = let m = in_map (table_of x.files) tb (v x).tables (subst (λ (s : State). In tb s.tables) (sym (v-is x)) there) in record { named = m.of; there = m.there; is = m.is }

  pub count-of : (tb : Table) → In tb (head x).tables → drops_table x.own (ref.Old tb.id) ≡ false → length (rows_for (ref.Old tb.id) x.own) ≡ rows_in (file_at (ref.Old tb.id))
  count-of tb there stays =
      let y = named-of tb there in
      let same : y.named.id ≡ tb.id = ap (λ (u : Table). u.id) y.is in
      subst (λ k. length (rows_for (ref.Old k) x.own) ≡ rows_in (file_at (ref.Old k))) same (head-count x y.named y.there (ap (λ k. drops_table x.own (ref.Old k)) same ∙ stays))

  pub made-blank : (d : Draft) → In d (made_tables 0 x.own) → (d.rows ≡ []) × (d.next_row ≡ 0)
  made-blank d there = all_in (λ (e : Draft). (e.rows ≡ []) × (e.next_row ≡ 0)) d (made_tables 0 x.own) (made-have (λ (e : Draft). (e.rows ≡ []) × (e.next_row ≡ 0)) (λ n schema name columns own. (refl, refl)) 0 x.own) there

  pub counters-old : (tb : Table) → In tb (head x).tables → drops_table x.own (ref.Old tb.id) ≡ false → HasCounters (after x) (grown x.own tb)
  counters-old tb there stays =
      let has = counters x tb there in
      let o = file_at (ref.Old tb.id) in
      record {
        row = gained o has.row;
        there = stats-old x tb.id (head-low tb there) ∙ ap (option_map (gained o)) has.there;
        next_row = ap₂ (λ a b. a + b) has.next_row (count-of tb there stays) ∙ sym (gained-next o has.row);
        next_field = has.next_field ∙ sym (gained-field o has.row);
      }

  pub counters-made : (d : Draft) → In d (made_tables 0 x.own) → HasCounters (after x) (settled_table (next x) (creations 0 0 x.own) d)
  counters-made d there = record {
    row = made_stats (next x) (creations 0 0 x.own) x.staged d;
    there = stats-made x d there;
    next_row = (let blank = (made-blank d there).1 in let count = made-count x d there in omega (arith, blank, count));
    next_field = refl;
  }

  pub counters-after : AllByRecursion (HasCounters (after x)) (apply (head x) x.own).tables
  counters-after = all-applied (HasCounters (after x)) counters-old counters-made

  pub next-after : (apply (head x) x.own).next_catalog ≡ next x + length (creations 0 0 x.own)
  next-after = ap (λ (s : State). s.next_catalog) applied-is ∙ ap (λ k. k + length (creations 0 0 x.own)) (same-next x)

pub counters-go_on : CountersGoOn
counters-go_on t files more first versions sound time own staged is =
    let x : Case = record { t = t; files = files; more = more; first = first; versions = versions; sound = sound; time = time; own = own; staged = staged; is = is } in
    record { next_catalog = next-after x; tables = counters-after x }
