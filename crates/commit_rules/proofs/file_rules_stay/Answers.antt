use Rattle.commit_rules.proofs.ColumnStatsLemmas.{column_stats-stay}
use Rattle.commit_rules.proofs.FileLemmas.{delete_files-stay}
use Rattle.commit_rules.proofs.PathLemmas.{data_files-stay}
use Rattle.commit_rules.proofs.StatsLemmas.{stats-stay}
use Rattle.commit_rules.proofs.file_rules_stay.Goals as goal

pub returns-clause-data_files : goal.returns-clause-data_files
returns-clause-data_files c = data_files-stay

pub returns-clause-delete_files : goal.returns-clause-delete_files
returns-clause-delete_files c = delete_files-stay

pub returns-clause-column_stats : goal.returns-clause-column_stats
returns-clause-column_stats c = column_stats-stay

pub returns-clause-table_stats : goal.returns-clause-table_stats
returns-clause-table_stats c = stats-stay
