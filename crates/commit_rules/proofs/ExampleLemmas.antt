-- The smallest commit that makes a table is lawful.
use Rattle.std.proofs.Common.{◌≡◌, ◌≤◌, ◌<◌, ◌⊎◌, inl, ⊎_elim, ℤ, Some, None, refl, sym, ◌∙◌, true≢false, Less, Equal, arith}
use Rattle.std.specs.Prelude.{length}
use Rattle.cat_rows.specs.Parts.{ArePartsOf, with_parts}
use Rattle.cat_rules.specs.CounterRule.{IsPastCounters}
use Rattle.cat_rules.specs.First.{Holds}
use Rattle.cat_rules.specs.SchemaRule.{IsSchemaNameUsed}
use Rattle.cat_texts.specs.Types.{type_of}
use Rattle.lake_types.specs.declared.value.ColType.{ColType}
use Rattle.commit_rules.specs.Example.{Choices, OneTableFits, nothing_ends, old_head, one_schema, one_table}
use Rattle.commit_rules.specs.Lawful.{AreColumnsRight, AreCounted, AreFilesRight, ArePathsNew, AreStated, AreStatsRight, IsColumnTwice, IsTableWrong, new_rows, seen_then}
use Rattle.cat_rows.specs.Seen.{Seen}
use Rattle.cat_rows.specs.Tables.{Tables}

none : {A B : Type 0} → (A → ⊥) → (B → ⊥) → A ⊎ B → ⊥
none f g h = ⊎_elim f g h

no : ⊥ → ⊥
no e = e

less≢equal : Equal ≡ Less → ⊥
less≢equal e = cc

module _ (time : ℤ) (c : Choices) (kind : ColType) (known : type_of c.type ≡ Some kind) (short : length c.name ≤ 255) (short_path : length c.path ≤ 200) where
  parts : ArePartsOf (one_schema time) 0 (one_table c) nothing_ends
  parts = record {
    number = refl;
    settled = record {
      schema = record { rises = (tt, tt); by = ((omega arith, tt), tt) };
      table = record { rises = tt; by = tt };
      column = record { rises = tt; by = tt };
      data_file = record { rises = tt; by = tt };
      delete_file = record { rises = tt; by = tt };
      inlined_row = record { rises = tt; by = tt };
    };
    schema = record { ends = refl; begins = tt; past = tt };
    table = record { ends = refl; begins = ((refl, refl), tt); past = (tt, tt, tt) };
    column = record { ends = refl; begins = ((refl, refl), tt); past = (tt, tt, tt) };
    data_file = record { ends = refl; begins = ((refl, refl), tt); past = (tt, tt, tt) };
    delete_file = record { ends = refl; begins = tt; past = tt };
    inlined_row = record { ends = refl; begins = tt; past = tt };
  }

  abbrev seen : Seen
  seen = seen_then (one_schema time) (old_head time) (one_table c) nothing_ends

  intervals : Holds (IsColumnTwice seen)
  intervals k = none (λ h. none (λ q. less≢equal q.0) no h.0) no

  schemas : Holds (IsSchemaNameUsed seen)
  schemas k = none (λ h. none (λ q. less≢equal q.0) no h.0) no

  abbrev after : Tables
  after = with_parts (one_table c) (one_schema time)

  none_is_some : {A : Type 0} {x : A} → Some x ≡ None → ⊥
  none_is_some e = cc

  tables : Holds (IsTableWrong after seen)
  tables k = none (none (λ h. none_is_some h.0) no) (none (λ h. none (λ q. less≢equal q.0) no h.0) no)

  columns : AreColumnsRight (one_schema time) (one_table c) seen
  columns = record {
    some = λ k. none (λ h. h.0.0 refl) no;
    differ = λ k. none (none (λ h. let a : 100 ≤ 0 = h.0.1 in omega arith) no) (none (none (λ h. none (λ q. true≢false (sym q.0)) no h.0.1) no) (none (λ h. none (λ q. true≢false (sym q.0)) no h.0.1) no));
    new = (
      none (λ long. omega (arith, long, short)) (none (λ e. none_is_some (sym known ∙ e)) (none (none (λ f. f tt) (λ f. f tt)) (none (λ h. true≢false h.0) (none (λ (e : 1 ≡ 0). omega arith) (λ (h : 2 ≤ 1). omega arith))))),
      tt,
    );
  }

  data_files : AreFilesRight (one_schema time) (one_table c) seen
  data_files = record { tables = λ k. none (λ h. none_is_some h.0) no; new = (refl, tt) }

  paths : ArePathsNew (one_schema time) (one_table c)
  paths = record { short = (short_path, tt); differ = (tt, tt); unused = (tt, tt) }

  column_stats : AreStatsRight (one_schema time) (one_table c)
  column_stats = record { new = (none (λ (h : 2 ≤ 1). omega arith) (none (λ (h : 2 < 2). omega arith) (none no no)), tt); columns = (no, tt) }

  table_stats : AreStated (one_schema time) (one_table c)
  table_stats = record { tables = (inl refl, tt); again = tt; small = (refl, tt); grown = (tt, tt) }

  past : Holds (IsPastCounters (new_rows (one_table c)) (one_table c).snapshot)
  past k =
      none (λ h. true≢false (sym h.0))
      (none no (none (none (λ h. true≢false (sym h.0)) no) (none (none (λ h. true≢false (sym h.0)) no) (none (none (λ h. true≢false (sym h.0)) no) (none no (none (none (λ h. true≢false (sym h.0)) no) (none (none (λ h. true≢false (sym h.0)) no) no)))))))

  counters : AreCounted (old_head time) (one_table c)
  counters = record { catalog = omega arith; file = omega arith; past = past; tables = (omega arith, tt); data_files = (omega arith, tt) }

pub one_table-fits : OneTableFits
one_table-fits time c kind read known short short_path = record {
  is_head = record { rises = (tt, tt); last = refl };
  parts = parts time c kind known short short_path;
  lawful = record {
    history = record { number = refl; text = read };
    intervals = intervals time c kind known short short_path;
    schemas = schemas time c kind known short short_path;
    tables = tables time c kind known short short_path;
    columns = columns time c kind known short short_path;
    data_files = data_files time c kind known short short_path;
    paths = paths time c kind known short short_path;
    delete_files = record { files = λ k. no; single = λ k. no; new = tt };
    column_stats = column_stats time c kind known short short_path;
    inlined_rows = record { new = tt; held = tt; columns = tt; few = λ k. no };
    table_stats = table_stats time c kind known short short_path;
    counters = counters time c kind known short short_path;
  };
}
