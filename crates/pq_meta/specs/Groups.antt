-- What the drafts of a footer's groups say (Apache Parquet format, "Row groups" and "Column chunks").
use Rattle.std.specs.Prelude.{ℕ, ℤ, pos, ◌-◌, ◌^◌, min, nat_lt, ◌&&◌, List, length, sum_by, Option, Some, Result, Ok, if◌then◌else◌}
use Rattle.pq_meta.specs.declared.drafts.GroupDraft.{GroupDraft}
use Rattle.pq_meta.specs.declared.drafts.ChunkDraft.{ChunkDraft}
use Rattle.pq_meta.specs.declared.drafts.ChunkMetaDraft.{ChunkMetaDraft}
use Rattle.pq_meta.specs.declared.fault.MetaFault.{MetaFault}
use Rattle.pq_meta.specs.declared.meta.MetaGroup.{MetaGroup}
use Rattle.pq_meta.specs.declared.meta.MetaChunk.{MetaChunk}
use Rattle.answers.specs.Answers.{◌>>=◌}
use Rattle.pq_meta.specs.Checks.{need, counted, each}

-- A chunk begins with its dictionary page where the offset of that is above 0 and below its first data page's.
abbrev pub first_of : Option ℤ → ℕ → ℕ
first_of (Some (pos dictionary)) first = if nat_lt 0 dictionary && nat_lt dictionary first then dictionary else first
first_of dictionary first = first

-- the metadata of a chunk in a group of so many rows
unfoldable pub described_of : ℕ → ChunkMetaDraft → Result MetaChunk MetaFault
described_of rows meta =
    need (pos 1) meta.physical >>= λ physical.
    need (pos 4) meta.codec >>= λ codec.
    need (pos 5) meta.num_values >>= λ values.
    need (pos 7) meta.length >>= λ size.
    need (pos 9) meta.data_page >>= λ first.
    counted rows values >>= λ u.
    Ok (record { codec = codec; num_values = values; first = first_of meta.dictionary_page first; length = size })

unfoldable pub chunk_of : ℕ → ChunkDraft → Result MetaChunk MetaFault
chunk_of rows draft = need (pos 3) draft.meta >>= described_of rows

-- a group of a file with so many columns: it has a chunk for each
unfoldable pub group_of : ℕ → GroupDraft → Result MetaGroup MetaFault
group_of columns draft =
    need (pos 1) draft.chunks >>= λ chunks.
    need (pos 3) draft.rows >>= λ rows.
    counted columns (length chunks) >>= λ u.
    each (chunk_of rows) chunks >>= λ kept.
    Ok (record { rows = rows; chunks = kept })

-- how many rows the groups have together, as a number of 64 bits
abbrev pub rows_of : List MetaGroup → ℕ
rows_of groups = min (sum_by (λ (group : MetaGroup). group.rows) groups) (2 ^ 64 - 1)
