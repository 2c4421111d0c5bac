-- The batch of a commit is lawful, and so it breaks none of the rules.
use Rattle.std.proofs.Common.{None}
use Rattle.cat_rows.specs.Batches.{applied}
use Rattle.cat_rows.specs.Parts.{batch_of}
use Rattle.cat_rules.specs.Sane.{IsFirstBadRow}
use Rattle.commit_rules.specs.Lawful.{IsLawful}
use Rattle.commit_rules.proofs.WholeLemmas.{rules-stay}
use Rattle.commit_laws.specs.Commits.{endings_of}
use Rattle.commit_laws.specs.Laws.{AreLawful, RulesHoldAfter}
use Rattle.commit_laws.proofs.CaseLemmas.{Case, is-head, newest, of-cases, parts}
use Rattle.commit_laws.proofs.ColumnLemmas.{none_columnless, none_crowded, none_twice}
use Rattle.commit_laws.proofs.ColumnStatsLemmas.{column_stats_right}
use Rattle.commit_laws.proofs.CounterLemmas.{counted_then}
use Rattle.commit_laws.proofs.FileLemmas.{deletes_right, files_right, paths_new}
use Rattle.commit_laws.proofs.HistoryLemmas.{told}
use Rattle.commit_laws.proofs.InlinedLemmas.{inlined_right}
use Rattle.commit_laws.proofs.NewColumnLemmas.{new_right}
use Rattle.commit_laws.proofs.PartLemmas.{parts_of-case}
use Rattle.commit_laws.proofs.SeenLemmas.{schemas_differ, tables_right}
use Rattle.commit_laws.proofs.TableStatsLemmas.{stated}

module _ (k : Case) where
  lawful : IsLawful k.t (newest k) (parts k) (endings_of k.own)
  lawful = record {
    history = told k;
    intervals = none_twice k;
    schemas = schemas_differ k;
    tables = tables_right k;
    columns = record { some = none_columnless k; differ = none_crowded k; new = new_right k };
    data_files = files_right k;
    paths = paths_new k;
    delete_files = deletes_right k;
    column_stats = column_stats_right k;
    inlined_rows = inlined_right k;
    table_stats = stated k;
    counters = counted_then k;
  }

  rules : IsFirstBadRow (applied (batch_of (parts k)) k.t) None
  rules = rules-stay k.t (newest k) (parts k) (endings_of k.own) k.c.sound.rules (is-head k) (parts_of-case k) lawful

pub are-lawful : AreLawful
are-lawful = of-cases (λ t head p own. IsLawful t head p (endings_of own)) lawful

pub rules-hold : RulesHoldAfter
rules-hold = of-cases (λ t head p own. IsFirstBadRow (applied (batch_of p) t) None) rules
