-- The columns of a schema's elements, one turn of a loop at a time.
use Rattle.std.proofs.Common.{◌≡◌, ℕ, ◌+◌, ◌<◌, List, [], ◌∷◌, ◌++◌, length, drop, get_or, Result, Ok, refl, sym, ◌∙◌, add-one, drop-cons}
use Rattle.std.proofs.Math.Seq.{drop-length}
use Rattle.pq_meta.specs.declared.drafts.ElementDraft.{ElementDraft}
use Rattle.pq_meta.specs.declared.fault.MetaFault.{MetaFault}
use Rattle.pq_meta.specs.declared.meta.MetaColumn.{MetaColumn}
use Rattle.answers.specs.Answers.{◌>>=◌, Fails}
use Rattle.pq_meta.specs.Checks.{is_memory}
use Rattle.pq_meta.specs.Columns.{column_of, columns_behind}
use Rattle.answers.proofs.AnswerLemmas.{handed_on}

pub columns_step : (earlier : List MetaColumn) (elements : List ElementDraft) (i : ℕ) (element : ElementDraft) → i < length elements → element ≡ get_or elements i element
    → columns_behind earlier (drop i elements) ≡ (column_of earlier element >>= λ column. columns_behind (earlier ++ column ∷ []) (drop (i + 1) elements))
columns_step earlier elements i element lt is = rw add-one (rw (drop-cons elements i element) (rw (← is) refl))

pub columns_go_on : (earlier : List MetaColumn) (elements : List ElementDraft) (i : ℕ) (element : ElementDraft) (column : MetaColumn) (total : Result (List MetaColumn) MetaFault)
    → i < length elements → element ≡ get_or elements i element → column_of earlier element ≡ Ok column
    → columns_behind earlier (drop i elements) ≡ total → columns_behind (earlier ++ column ∷ []) (drop (i + 1) elements) ≡ total
columns_go_on earlier elements i element column total lt is h so_far =
    let one : columns_behind earlier (drop i elements) ≡ columns_behind (earlier ++ column ∷ []) (drop (i + 1) elements) =
    rw (columns_step earlier elements i element lt is, h) refl in
    sym one ∙ so_far

pub columns_fail : (earlier : List MetaColumn) (elements : List ElementDraft) (i : ℕ) (element : ElementDraft) (e : MetaFault) (total : Result (List MetaColumn) MetaFault)
    → i < length elements → element ≡ get_or elements i element → Fails is_memory e (column_of earlier element)
    → columns_behind earlier (drop i elements) ≡ total → Fails is_memory e total
columns_fail earlier elements i element e total lt is h so_far =
    rw (← so_far) (rw (columns_step earlier elements i element lt is) (handed_on is_memory e (column_of earlier element) _ h))

pub columns_end : (earlier : List MetaColumn) (elements : List ElementDraft) (total : Result (List MetaColumn) MetaFault)
    → columns_behind earlier (drop (length elements) elements) ≡ total → total ≡ Ok earlier
columns_end earlier elements total so_far =
    let one : columns_behind earlier (drop (length elements) elements) ≡ Ok earlier = rw drop-length refl in
    sym so_far ∙ one

pub ruleset columns = (columns_go_on, columns_fail, columns_end)
