-- All twelve rules after a commit.
use Rattle.commit_rules.specs.Laws.{RulesStay}
use Rattle.commit_rules.proofs.ColumnStatsLemmas.{column_stats-stay}
use Rattle.commit_rules.proofs.CounterLemmas.{ids-stay}
use Rattle.commit_rules.proofs.FileLemmas.{delete_files-stay}
use Rattle.commit_rules.proofs.HistoryLemmas.{history-stays, layout-stays}
use Rattle.commit_rules.proofs.InlinedLemmas.{inlined-stay}
use Rattle.commit_rules.proofs.IntervalLemmas.{intervals-stay}
use Rattle.commit_rules.proofs.PathLemmas.{data_files-stay}
use Rattle.commit_rules.proofs.SchemaLemmas.{columns-stay, schemas-stay, tables-stay}
use Rattle.commit_rules.proofs.StatsLemmas.{stats-stay}

pub rules-stay : RulesStay
rules-stay t head p endings sane is_head parts lawful = (
  layout-stays t head p endings sane is_head parts lawful,
  (
    history-stays t head p endings sane is_head parts lawful,
    (
      intervals-stay t head p endings sane is_head parts lawful,
      (
        schemas-stay t head p endings sane is_head parts lawful,
        (
          tables-stay t head p endings sane is_head parts lawful,
          (
            columns-stay t head p endings sane is_head parts lawful,
            (
              data_files-stay t head p endings sane is_head parts lawful,
              (
                delete_files-stay t head p endings sane is_head parts lawful,
                (
                  column_stats-stay t head p endings sane is_head parts lawful,
                  (inlined-stay t head p endings sane is_head parts lawful, (stats-stay t head p endings sane is_head parts lawful, (ids-stay t head p endings sane is_head parts lawful, tt))),
                ),
              ),
            ),
          ),
        ),
      ),
    ),
  ),
)
