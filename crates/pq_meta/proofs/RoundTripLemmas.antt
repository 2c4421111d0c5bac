-- A footer that is written reads back.
use Rattle.std.proofs.Common.{◌≡◌, ℕ, ℤ, pos, ◌+◌, ◌≤◌, ◌<◌, ◌^◌, suc, List, [], ◌∷◌, ◌++◌, length, map, Some, Ok, refl, ap, ◌∙◌, sym, append_assoc, arith, lit<, get_or, add-one}
use Rattle.std.specs.Prelude.{All, FitsSigned}
use Rattle.std.specs.Int.{w32}
use Rattle.std.specs.List.{flat_map}
use Rattle.std.proofs.lemmas.Int.{ints}
use Rattle.std.proofs.lemmas.List.{append-nil}
use Rattle.thrift_compact.specs.Reading.{start_of}
use Rattle.thrift_compact.specs.Shortest.{field_spelling, list_spelling, signed_spelling}
use Rattle.thrift_compact.specs.Structs.{struct_of, row_in}
use Rattle.pq_meta.specs.declared.drafts.ElementDraft.{ElementDraft}
use Rattle.pq_meta.specs.declared.drafts.FooterDraft.{FooterDraft}
use Rattle.pq_meta.specs.declared.drafts.GroupDraft.{GroupDraft}
use Rattle.pq_meta.specs.declared.meta.FileMeta.{FileMeta}
use Rattle.pq_meta.specs.declared.meta.MetaColumn.{MetaColumn}
use Rattle.pq_meta.specs.Drafts.{element_part, no_element, group_part, no_group, footer_part, no_footer}
use Rattle.pq_meta.specs.Consistency.{IsNamed}
use Rattle.pq_meta.specs.Footers.{meta_of, footer_of}
use Rattle.pq_meta.specs.Spelling.{stop, column_bytes, root_bytes, group_bytes, schema_bytes, footer_bytes, IsColumn, IsWritable}
use Rattle.pq_meta.proofs.FieldLemmas.{ThriftBack, ReadsFields, ReadsValue, field_then, regrouped_read, stop_read, struct_read, structs_read, row_read, row_cons, begins_list}
use Rattle.pq_meta.proofs.WrittenLemmas.{list_regrouped, count_back_64, element_of, root_of, group_draft_of, column_read, root_read, group_read}
use Rattle.pq_meta.proofs.BackLemmas.{columns_back, groups_back, rows_back}

version_read : (laws : ThriftBack) (draft : FooterDraft) (z : ℤ) → FitsSigned w32 z → ReadsValue footer_part draft (pos 1) 5 (signed_spelling z) (record draft { version = Some z })
unfolding footer_part
version_read laws draft z fits end rest = rw (laws.i32 (start_of end (signed_spelling z ++ rest)) z fits rest) refl

schema_read : (laws : ThriftBack) (draft : FooterDraft) (size : ℕ) (bytes : List ℕ) (made : List ElementDraft) → size < 2 ^ 32
    → ((end : ℕ) (rest : List ℕ) → row_in (struct_of element_part no_element end) size (bytes ++ rest) ≡ Ok (made, rest))
    → ReadsValue footer_part draft (pos 2) 9 (list_spelling 12 size ++ bytes) (record draft { schema = Some made })
unfolding footer_part
schema_read laws draft size bytes made lt reads end rest =
    rw (append_assoc (list_spelling 12 size) bytes rest) (rw (begins_list size (bytes ++ rest))
    (rw (structs_read laws element_part no_element size bytes made end rest lt (reads end rest)) refl))

rows_read : (laws : ThriftBack) (draft : FooterDraft) (n : ℕ) → n < 2 ^ 63 → ReadsValue footer_part draft (pos 3) 6 (signed_spelling (pos n)) (record draft { num_rows = Some n })
unfolding footer_part
rows_read laws draft n lt end rest = rw (count_back_64 laws (start_of end (signed_spelling (pos n) ++ rest)) n rest lt) refl

groups_read : (laws : ThriftBack) (draft : FooterDraft) (size : ℕ) (bytes : List ℕ) (made : List GroupDraft) → size < 2 ^ 32
    → ((end : ℕ) (rest : List ℕ) → row_in (struct_of group_part no_group end) size (bytes ++ rest) ≡ Ok (made, rest))
    → ReadsValue footer_part draft (pos 4) 9 (list_spelling 12 size ++ bytes) (record draft { groups = Some made })
unfolding footer_part
groups_read laws draft size bytes made lt reads end rest =
    rw (append_assoc (list_spelling 12 size) bytes rest) (rw (begins_list size (bytes ++ rest))
    (rw (structs_read laws group_part no_group size bytes made end rest lt (reads end rest)) refl))

-- the root with its columns
elements_read : (laws : ThriftBack) (columns : List MetaColumn) (end : ℕ) (rest : List ℕ) → length columns ≤ 101 → All IsColumn columns
    → row_in (struct_of element_part no_element end) (suc (length columns)) ((root_bytes (length columns) ++ flat_map column_bytes columns) ++ rest)
    ≡ Ok (root_of (length columns) ∷ map element_of columns, rest)
elements_read laws columns end rest few are =
    row_cons (struct_of element_part no_element end) (length columns) (root_bytes (length columns)) (flat_map column_bytes columns) rest
    (root_of (length columns)) (map element_of columns)
    (struct_read element_part no_element (root_of (length columns)) (root_bytes (length columns)) end (flat_map column_bytes columns ++ rest) (root_read laws (length columns) few))
    (row_read element_part no_element column_bytes element_of columns end rest (λ k d lt. column_read laws (get_or columns k d) (are k d lt)))

abbrev pub draft_of : FileMeta → FooterDraft
draft_of meta = record {
  version = Some (pos 1);
  schema = Some (root_of (length meta.columns) ∷ map element_of meta.columns);
  num_rows = Some meta.num_rows;
  groups = Some (map (group_draft_of meta.columns) meta.groups);
}

schema_regrouped : (version header size root columns more : List ℕ)
    → (version ++ ((header ++ size) ++ (root ++ columns))) ++ more ≡ version ++ ((header ++ (size ++ (root ++ columns))) ++ more)
schema_regrouped version header size root columns more = simp append_assoc

footer_read : (laws : ThriftBack) (meta : FileMeta) → IsWritable meta → ReadsFields footer_part (pos 0) no_footer (footer_bytes meta) (draft_of meta)
unfolding footer_bytes schema_bytes
footer_read laws meta is =
    let few : length meta.columns ≤ 101 = is.few_columns in
    let size : length meta.columns + 1 < 2 ^ 32 = omega arith in
    let elements : (end : ℕ) (rest : List ℕ) → row_in (struct_of element_part no_element end) (length meta.columns + 1) ((root_bytes (length meta.columns) ++ flat_map column_bytes meta.columns) ++ rest) ≡ Ok (root_of (length meta.columns) ∷ map element_of meta.columns, rest)
    = λ end rest. rw add-one (elements_read laws meta.columns end rest few is.columns) in
    regrouped_read footer_part (pos 0) _ _ _ _ (schema_regrouped _ (field_spelling (pos 1) (pos 2) 9) (list_spelling 12 (length meta.columns + 1)) (root_bytes (length meta.columns)) (flat_map column_bytes meta.columns) _) (
    field_then laws footer_part 0 1 5 _ _ _ _ _ (lit< tt) (lit< tt) (lit< tt) (lit< tt) (version_read laws no_footer (pos 1) (omega (arith, ints))) (
    field_then laws footer_part 1 2 9 _ _ _ _ _ (lit< tt) (lit< tt) (lit< tt) (lit< tt)
    (schema_read laws _ (length meta.columns + 1) (root_bytes (length meta.columns) ++ flat_map column_bytes meta.columns) (root_of (length meta.columns) ∷ map element_of meta.columns) size elements) (
    field_then laws footer_part 2 3 6 _ _ _ _ _ (lit< tt) (lit< tt) (lit< tt) (lit< tt) (rows_read laws _ meta.num_rows is.most_rows) (
    regrouped_read footer_part (pos 3) _ _ _ _ (list_regrouped (field_spelling (pos 3) (pos 4) 9) (list_spelling 12 (length meta.groups)) (flat_map (group_bytes meta.columns) meta.groups) stop) (
    field_then laws footer_part 3 4 9 _ _ _ _ _ (lit< tt) (lit< tt) (lit< tt) (lit< tt)
    (groups_read laws _ (length meta.groups) (flat_map (group_bytes meta.columns) meta.groups) (map (group_draft_of meta.columns) meta.groups) is.few_groups
    (λ end rest. row_read group_part no_group (group_bytes meta.columns) (group_draft_of meta.columns) meta.groups end rest
    (λ k d lt. group_read laws meta.columns (get_or meta.groups k d) few is.columns (is.groups k d lt))))
    (stop_read laws footer_part (pos 4) (draft_of meta)))))))

says_back : (meta : FileMeta) → IsWritable meta → All IsNamed meta.columns → meta_of (draft_of meta) ≡ Ok meta
unfolding meta_of
says_back meta is texts =
    rw (columns_back meta.columns is.fields texts)
    (rw (groups_back meta.columns meta.groups is.groups)
    (rw (rows_back meta.groups meta.num_rows is.rows is.most_rows) refl))

pub footer_back : (laws : ThriftBack) (meta : FileMeta) → IsWritable meta → All IsNamed meta.columns → footer_of (footer_bytes meta) ≡ Ok meta
unfolding footer_of
footer_back laws meta is texts =
    let bytes : List ℕ = footer_bytes meta in
    let read : struct_of footer_part no_footer (length bytes) bytes ≡ Ok (draft_of meta, []) =
    ap (struct_of footer_part no_footer (length bytes)) (sym (append-nil bytes))
    ∙ struct_read footer_part no_footer (draft_of meta) bytes (length bytes) [] (footer_read laws meta is) in
    rw read (says_back meta is texts)
