pub mod ListLemmas
pub mod MadeLemmas
pub mod RowLemmas
pub mod CaseLemmas
pub mod PartLemmas
pub mod SeenLemmas
pub mod CountLemmas
pub mod ColumnLemmas
pub mod FreshLemmas
pub mod AfterLemmas
pub mod NewColumnLemmas
pub mod HolderLemmas
pub mod FileLemmas
pub mod TableStatsLemmas
pub mod InlinedLemmas
pub mod HistoryLemmas
pub mod CounterLemmas
pub mod NewestLemmas
pub mod ColumnStatsLemmas
pub mod WholeLemmas
pub mod ExampleLemmas
mod StandListLemmas
mod StagedLemmas
pub mod TargetLemmas
pub mod HeadLemmas
mod StandCaseLemmas
mod RefLemmas
mod StandFileLemmas
mod StandColumnLemmas
mod VersionLemmas
mod PlainLemmas
mod KindLemmas
mod IdLemmas
mod CoreLemmas
mod HeldLemmas
mod StatsLemmas
mod StandCounterLemmas
mod CountedLemmas
mod FaultLemmas
mod OldFileLemmas
mod NewFileLemmas
mod StandWholeLemmas
pub mod FreeLemmas
pub mod RiseLemmas
mod ApartLemmas
mod FitLemmas
pub mod TidyLemmas
