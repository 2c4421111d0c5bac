-- The footer that some bytes begin with.
use Rattle.std.specs.Prelude.{ℕ, pos, List, length, Result, Ok, Err}
use Rattle.thrift_compact.specs.Reading.{Read}
use Rattle.thrift_compact.specs.Structs.{struct_of}
use Rattle.pq_meta.specs.declared.drafts.FooterDraft.{FooterDraft}
use Rattle.pq_meta.specs.declared.fault.MetaFault.{MetaFault}
use Rattle.pq_meta.specs.declared.fault.MetaFault.TheVariants as fault
use Rattle.pq_meta.specs.declared.meta.FileMeta.{FileMeta}
use Rattle.answers.specs.Answers.{◌>>=◌}
use Rattle.pq_meta.specs.Checks.{need, counted, each}
use Rattle.pq_meta.specs.Columns.{columns_of}
use Rattle.pq_meta.specs.Groups.{group_of, rows_of}
use Rattle.pq_meta.specs.Drafts.{footer_part, no_footer}

-- the faults of the bytes, which come first
abbrev pub read_of : {A : Type 0} → Read A → Result A MetaFault
read_of (Ok x) = Ok x.0
read_of (Err f) = Err (fault.Thrift f)

-- what a footer's fields say
unfoldable pub meta_of : FooterDraft → Result FileMeta MetaFault
meta_of draft =
    need (pos 1) draft.version >>= λ version.
    need (pos 2) draft.schema >>= λ schema.
    need (pos 3) draft.num_rows >>= λ rows.
    need (pos 4) draft.groups >>= λ groups.
    columns_of schema >>= λ columns.
    each (group_of (length columns)) groups >>= λ kept.
    counted rows (rows_of kept) >>= λ u.
    Ok (record { columns = columns; num_rows = rows; groups = kept })

-- The footer that these bytes begin with, or the first fault. Bytes behind its stop are not looked at.
unfoldable pub footer_of : List ℕ → Result FileMeta MetaFault
footer_of bytes = read_of (struct_of footer_part no_footer (length bytes) bytes) >>= meta_of
