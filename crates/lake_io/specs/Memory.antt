-- What sources and sinks in memory hold.
use Rattle.std.specs.Prelude.{◌==◌, ℕ, ◌+◌, ◌-◌, ◌^◌, min, List, ◌++◌, length, take, Option, Some, None, if◌then◌else◌}
use Rattle.lake_io.specs.FailList.{Injected}

-- a source: the bytes that aren't read yet, and how many were given
pub record SourceBytes : Type 0 where
  pub left : List ℕ
  pub given : ℕ

-- a source that fails at the calls of a list
pub record FailingSource : Type 0 where
  pub bytes : SourceBytes
  pub injected : Injected

-- a sink: the bytes that it kept, the room that is left, and how many bytes it dropped for want of room
pub record SinkBytes : Type 0 where
  pub kept : List ℕ
  pub room : ℕ
  pub dropped : ℕ

-- a sink that fails at the calls of a list
pub record FailingSink : Type 0 where
  pub bytes : SinkBytes
  pub injected : Injected

-- all bytes that a sink took, as long as it kept them all
abbrev pub taken_by : SinkBytes → Option (List ℕ)
taken_by sink = if sink.dropped == 0 then Some sink.kept else None

-- the sink after a piece: it keeps what fits of it, and drops the rest
abbrev pub sink_after : SinkBytes → List ℕ → SinkBytes
sink_after sink piece = record {
  kept = sink.kept ++ take sink.room piece;
  room = sink.room - length piece;
  dropped = min (sink.dropped + (length piece - sink.room)) (2 ^ 64 - 1);
}
