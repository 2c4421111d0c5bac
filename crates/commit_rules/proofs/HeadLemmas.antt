-- The head of a catalogue that breaks no rule, and the next one.
use Rattle.std.proofs.Common.{◌≡◌, ℕ, ◌≤◌, true, ◌||◌, List, [], ◌∷◌, ◌++◌, sym, ap, ◌∙◌, subst, arith, Option, Some, None, is_lt, false}
use Rattle.std.specs.Prelude.{nat_le, nat_lt}
use Rattle.std.specs.List.{AllByRecursion}
use Rattle.std.proofs.lemmas.Bool.{ltb-false, or_parts}
use Rattle.cat_tables.specs.Table.{IsBelow, RisesByKey, key_cmp, put}
use Rattle.cat_tables.specs.Validity.{EndsBy, IsBy, Validity}
use Rattle.cat_tables.proofs.PlaceLemmas.{less_is}
use Rattle.cat_tables.proofs.SightLemmas.{put-last}
use Rattle.cat_rows.specs.Keys.{snapshot_key}
use Rattle.cat_rows.specs.Parts.{IsSettled}
use Rattle.cat_rows.specs.Tables.{Tables}
use Rattle.cat_rows.specs.Validities.{column_validity, data_file_validity, delete_file_validity, inlined_row_validity, schema_validity, table_validity}
use Rattle.cat_rows.specs.declared.history.SnapshotRow.{SnapshotRow}
use Rattle.cat_rows.proofs.PartLemmas.{applied-parts}
use Rattle.cat_rules.specs.IntervalRule.{ends_wrong}
use Rattle.cat_rules.specs.Kept.{id_of, kept_of, newest}
use Rattle.cat_rules.proofs.DatedLemmas.{AreDated, dated_columns, dated_data_files, dated_delete_files, dated_inlined, dated_schemas, dated_tables}
use Rattle.cat_rules.proofs.FirstLemmas.{all_like}
use Rattle.cat_rules.proofs.SightLemmas.{IsDated}
use Rattle.commit_rules.specs.Lawful.{IsHead}
use Rattle.commit_rules.specs.Laws.{HeadMoves, SaneIsSettled}
use Rattle.commit_rules.proofs.CoreLemmas.{lower_key, newest-append, newest_low}

-- ---- dated rows neither begin nor end past the head

module _ (t : Tables) (head : SnapshotRow) (is_head : IsHead t head) where
  last_is : (kept_of t.snapshot).newest ≡ head.snapshot_id
  last_is = ap id_of is_head.last

  ends_by : (b : ℕ) (e : Option ℕ) → ends_wrong (kept_of t.snapshot) b e ≡ false → EndsBy head.snapshot_id e
  ends_by b None fine = tt
  ends_by b (Some e) fine =
      let one = or_parts (nat_le e b) (nat_le e (kept_of t.snapshot).first || nat_lt (kept_of t.snapshot).newest e) fine in
      let two = or_parts (nat_le e (kept_of t.snapshot).first) (nat_lt (kept_of t.snapshot).newest e) one.1 in
      let le = ltb-false (kept_of t.snapshot).newest e two.1 in omega (arith, le, last_is)

  dated_by : {R : Type 0} (v : Validity R) (r : R) → IsDated t v r → IsBy v head.snapshot_id r
  dated_by v r dated =
      let parts = or_parts (nat_lt (kept_of t.snapshot).newest (v.begin r)) (ends_wrong (kept_of t.snapshot) (v.begin r) (v.end r)) dated in
      let le = ltb-false (kept_of t.snapshot).newest (v.begin r) parts.0 in (omega (arith, le, last_is), ends_by (v.begin r) (v.end r) parts.1)

  settled : {R : Type 0} (key : R → List ℕ) (v : Validity R) (rows : List R) → RisesByKey key rows → AreDated t v rows → IsSettled key v head.snapshot_id rows
  settled key v rows up dated = record { rises = up; by = all_like (IsDated t v) (IsBy v head.snapshot_id) (dated_by v) rows dated }

pub sane-settled : SaneIsSettled
sane-settled t head sane is_head rising = record {
  schema = settled t head is_head _ schema_validity t.schema rising.schema (dated_schemas t sane.1.1.0);
  table = settled t head is_head _ table_validity t.table rising.table (dated_tables t sane.1.1.0);
  column = settled t head is_head _ column_validity t.column rising.column (dated_columns t sane.1.1.0);
  data_file = settled t head is_head _ data_file_validity t.data_file rising.data_file (dated_data_files t sane.1.1.0);
  delete_file = settled t head is_head _ delete_file_validity t.delete_file rising.delete_file (dated_delete_files t sane.1.1.0);
  inlined_row = settled t head is_head _ inlined_row_validity t.inlined_row rising.inlined_row (dated_inlined t sane.1.1.0);
}

-- ---- the next head

rises-append : (rs : List SnapshotRow) (x : SnapshotRow) → RisesByKey snapshot_key rs → AllByRecursion (λ r. IsBelow snapshot_key r x) rs → RisesByKey snapshot_key (rs ++ x ∷ [])
rises-append [] x up low = (tt, tt)
rises-append (r ∷ rs) x up low = (more rs up.0, rises-append rs x up.1 low.1)
  where
    more : (qs : List SnapshotRow) → AllByRecursion (IsBelow snapshot_key r) qs → AllByRecursion (IsBelow snapshot_key r) (qs ++ x ∷ [])
    more [] h = (low.0, tt)
    more (q ∷ qs) h = (h.0, more qs h.1)

pub head-moves : HeadMoves
head-moves t head p is_head number = subst (λ (u : Tables). IsHead u p.snapshot) (sym (applied-parts p t)) (record {
  rises = subst (RisesByKey snapshot_key) (sym snapshots) (rises-append t.snapshot p.snapshot is_head.rises (all_like Lower (λ r. IsBelow snapshot_key r p.snapshot) (λ r e. less_is (key_cmp (snapshot_key r) (snapshot_key p.snapshot)) e) t.snapshot lower));
  last = ap newest snapshots ∙ newest-append t.snapshot p.snapshot;
})
  where
    Lower : SnapshotRow → Type 0
    Lower r = is_lt (key_cmp (snapshot_key r) (snapshot_key p.snapshot)) ≡ true

    lower : AllByRecursion Lower t.snapshot
    lower = all_like (λ (q : SnapshotRow). q.snapshot_id ≤ head.snapshot_id) Lower (λ q h. lower_key q.snapshot_id p.snapshot.snapshot_id (omega (arith, h, number))) t.snapshot (newest_low t.snapshot head is_head.rises is_head.last)

    snapshots : put snapshot_key p.snapshot t.snapshot ≡ t.snapshot ++ p.snapshot ∷ []
    snapshots = put-last snapshot_key p.snapshot t.snapshot lower
