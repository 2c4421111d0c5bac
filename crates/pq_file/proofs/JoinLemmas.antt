-- The columns of a sheet while a file's groups are read, one group at a time.
use Rattle.std.proofs.Common.{◌≡◌, ℕ, ◌+◌, ◌<◌, List, ◌∷◌, length, drop, fold, get_or, map, Option, Some, None, Result, Ok, Err, refl, sym, ◌∙◌}
use Rattle.std.proofs.Math.Seq.{drop-length}
use Rattle.std.specs.Prelude.{⊤, filter}
use Rattle.std.specs.Option.{option_or}
use Rattle.lake_types.specs.declared.sheet.Sheet.{Sheet}
use Rattle.lake_types.specs.declared.sheet.SheetColumn.{SheetColumn}
use Rattle.pq_meta.specs.declared.meta.FileMeta.{FileMeta}
use Rattle.pq_meta.specs.declared.meta.MetaColumn.{MetaColumn}
use Rattle.pq_meta.specs.declared.meta.MetaGroup.{MetaGroup}
use Rattle.pq_file.specs.declared.fault.FileFault.{FileFault}
use Rattle.pq_file.specs.declared.fault.FileFault.TheVariants as fault
use Rattle.pq_file.specs.declared.parts.Misfit.{Misfit}
use Rattle.pq_file.specs.declared.parts.Part.{Part}
use Rattle.answers.specs.Answers.{◌>>=◌, Fails}
use Rattle.pq_file.specs.Answers.{is_memory}
use Rattle.pq_file.specs.Joining.{joined, verdict}
use Rattle.pq_file.specs.Reading.{GroupParts, bare, beside, few_rows, groups_fit, groups_in, is_wanted, parts_fit, parts_in, sheet_in, with_group}
use Rattle.answers.proofs.AnswerLemmas.{handed_on}
use Rattle.pq_file.proofs.PartLemmas.{next_of}

-- the misfit that was found first stands
verdict_or : (first second : Option Misfit) → verdict (option_or first second) ≡ (verdict first >>= λ u. verdict second)
verdict_or None second = refl
verdict_or (Some misfit) second = refl

-- a group whose parts were read, before the groups behind it
regroup : (row : ℕ) (found : Result ⊤ FileFault) (columns : List SheetColumn) (group : GroupParts) (read : Result (List GroupParts) FileFault)
    → (read >>= (λ gs. Ok (group ∷ gs)) >>= λ all. (found >>= λ u. groups_fit row all) >>= λ v. Ok (fold with_group columns all))
    ≡ (read >>= λ gs. ((found >>= λ u. parts_fit row group.parts) >>= λ u. groups_fit (row + group.rows) gs) >>= λ v. Ok (fold with_group (with_group columns group) gs))
regroup row (Ok u) columns group (Ok gs) = refl
regroup row (Err e) columns group (Ok gs) = refl
regroup row found columns group (Err e) = refl

pub group_goes_on : (bytes : List ℕ) (fields : Option (List ℕ)) (metas : List MetaColumn) (i row : ℕ) (groups : List MetaGroup) (group : MetaGroup) (columns : List SheetColumn)
    (found now : Option Misfit) (parts : List Part) (total : Result (List SheetColumn) FileFault)
    → i < length groups → group ≡ get_or groups i group → parts_in bytes fields i 0 metas group.chunks ≡ Ok parts → verdict now ≡ parts_fit row parts
    → joined bytes fields metas i row (verdict found) columns (drop i groups) ≡ total
    → joined bytes fields metas (i + 1) (row + group.rows) (verdict (option_or found now)) (beside columns parts) (drop (i + 1) groups) ≡ total
group_goes_on bytes fields metas i row groups group columns found now parts total lt is read range so_far =
    let one : joined bytes fields metas i row (verdict found) columns (drop i groups)
    ≡ joined bytes fields metas (i + 1) (row + group.rows) (verdict (option_or found now)) (beside columns parts) (drop (i + 1) groups) =
    rw (next_of groups i group lt is, read, verdict_or found now, range)
    (regroup row (verdict found) columns (record { rows = group.rows; parts = parts }) (groups_in bytes fields metas (i + 1) (drop (i + 1) groups))) in
    sym one ∙ so_far

pub group_fails : (bytes : List ℕ) (fields : Option (List ℕ)) (metas : List MetaColumn) (i row : ℕ) (groups : List MetaGroup) (group : MetaGroup) (columns : List SheetColumn)
    (found : Option Misfit) (e : FileFault) (total : Result (List SheetColumn) FileFault)
    → i < length groups → group ≡ get_or groups i group → Fails is_memory e (parts_in bytes fields i 0 metas group.chunks)
    → joined bytes fields metas i row (verdict found) columns (drop i groups) ≡ total → Fails is_memory e total
group_fails bytes fields metas i row groups group columns found e total lt is read so_far =
    rw (← so_far) (rw (next_of groups i group lt is)
    (handed_on is_memory e _ _ (handed_on is_memory e (parts_in bytes fields i 0 metas group.chunks)
    (λ parts. groups_in bytes fields metas (i + 1) (drop (i + 1) groups) >>= λ gs. Ok (record { rows = group.rows; parts = parts } ∷ gs)) read)))

pub groups_end : (bytes : List ℕ) (fields : Option (List ℕ)) (metas : List MetaColumn) (row : ℕ) (groups : List MetaGroup) (columns : List SheetColumn) (found : Option Misfit)
    (total : Result (List SheetColumn) FileFault)
    → joined bytes fields metas (length groups) row (verdict found) columns (drop (length groups) groups) ≡ total → total ≡ (verdict found >>= λ u. Ok columns)
groups_end bytes fields metas row groups columns None total so_far =
    let one : joined bytes fields metas (length groups) row (Ok tt) columns (drop (length groups) groups) ≡ Ok columns = rw drop-length refl in
    sym so_far ∙ one
groups_end bytes fields metas row groups columns (Some misfit) total so_far =
    let one : joined bytes fields metas (length groups) row (verdict (Some misfit)) columns (drop (length groups) groups) ≡ Err (fault.BadCell misfit.column misfit.row) = rw drop-length refl in
    sym so_far ∙ one

pub ruleset groups_turn = (group_goes_on, group_fails, groups_end)

-- ---- The sheet

abbrev sheet_with : ℕ → List SheetColumn → Sheet
sheet_with rows columns = record { columns = columns; rows = rows }

same_range : (range : Result ⊤ FileFault) (columns : List SheetColumn) (rows : ℕ)
    → ((range >>= λ v. Ok columns) >>= λ columns. Ok (sheet_with rows columns)) ≡ (range >>= λ v. Ok (sheet_with rows columns))
same_range (Ok u) columns rows = refl
same_range (Err e) columns rows = refl

same_read : (read : Result (List GroupParts) FileFault) (bare : List SheetColumn) (rows : ℕ)
    → ((read >>= λ all. (verdict None >>= λ u. groups_fit 0 all) >>= λ v. Ok (fold with_group bare all)) >>= λ columns. Ok (sheet_with rows columns))
    ≡ (read >>= λ all. groups_fit 0 all >>= λ v. Ok (sheet_with rows (fold with_group bare all)))
same_read (Ok all) bare rows = same_range (groups_fit 0 all) (fold with_group bare all) rows
same_read (Err e) bare rows = refl

abbrev bare_of : Option (List ℕ) → FileMeta → List SheetColumn
bare_of fields meta = map bare (filter (is_wanted fields) meta.columns)

-- a file with few rows has the sheet of the columns that are had
sheet_is : (bytes : List ℕ) (fields : Option (List ℕ)) (meta : FileMeta) → few_rows meta.num_rows ≡ Ok tt
    → (joined bytes fields meta.columns 0 0 (verdict None) (bare_of fields meta) meta.groups >>= λ columns. Ok (sheet_with meta.num_rows columns)) ≡ sheet_in bytes fields meta
unfolding sheet_in
sheet_is bytes fields meta few = rw few (same_read (groups_in bytes fields meta.columns 0 meta.groups) (bare_of fields meta) meta.num_rows)

pub sheet_read : (bytes : List ℕ) (fields : Option (List ℕ)) (meta : FileMeta) (columns : List SheetColumn) → few_rows meta.num_rows ≡ Ok tt
    → joined bytes fields meta.columns 0 0 (verdict None) (bare_of fields meta) meta.groups ≡ Ok columns
    → sheet_in bytes fields meta ≡ Ok (record { columns = columns; rows = meta.num_rows })
sheet_read bytes fields meta columns few read = sym (sheet_is bytes fields meta few) ∙ rw read refl

pub sheet_fails : (bytes : List ℕ) (fields : Option (List ℕ)) (meta : FileMeta) (e : FileFault) → few_rows meta.num_rows ≡ Ok tt
    → Fails is_memory e (joined bytes fields meta.columns 0 0 (verdict None) (bare_of fields meta) meta.groups)
    → Fails is_memory e (sheet_in bytes fields meta)
sheet_fails bytes fields meta e few read =
    rw (← sheet_is bytes fields meta few)
    (handed_on is_memory e (joined bytes fields meta.columns 0 0 (verdict None) (bare_of fields meta) meta.groups) (λ columns. Ok (sheet_with meta.num_rows columns)) read)

pub ruleset sheets = (sheet_read, sheet_fails)
