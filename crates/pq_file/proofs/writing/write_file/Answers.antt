use Rattle.std.proofs.Common.{◌≡◌, ℕ, ◌+◌, ◌<◌, ◌^◌, ◌++◌, List, length, map, Ok, refl, ap, ◌∙◌, arith, rules, length-append}
use Rattle.lake_types.specs.declared.sheet.Sheet.{Sheet}
use Rattle.pq_meta.specs.declared.meta.FileMeta.{FileMeta}
use Rattle.pq_meta.specs.Footers.{footer_of}
use Rattle.pq_meta.specs.Spelling.{footer_bytes}
use Rattle.pq_file.specs.Canonical.{canonical, cuts_of, groups_at, groups_bytes, meta_column, meta_of}
use Rattle.pq_file.specs.Frame.{mark}
use Rattle.pq_file.proofs.BackLemmas.{file_read}
use Rattle.pq_file.proofs.MetaLemmas.{canonical_is, meta_writable}
use Rattle.pq_file.proofs.writing.write_file.Goals as goal

pub write_meta-requires : goal.write_meta-requires
write_meta-requires c =
    let sheet : Sheet = c.args.sheet.now in
    let before : c.extend_from_slice.new.self.items ≡ mark = search rules in
    let columns : c.in_ok-meta_columns.field-0 ≡ map meta_column sheet.columns = search rules in
    let groups : c.in_ok-groups.groups ≡ groups_at sheet.columns 0 (length mark) (cuts_of sheet) =
    c.in_ok-groups.ensures.groups ∙ ap (λ (xs : List ℕ). groups_at sheet.columns 0 (length xs) (cuts_of sheet)) before in
    let bytes : c.push_groups.new.out.items ≡ mark ++ groups_bytes sheet.columns 0 (cuts_of sheet) =
    c.in_ok-groups.ensures.bytes ∙ ap (λ (xs : List ℕ). xs ++ groups_bytes sheet.columns 0 (cuts_of sheet)) before in
    let long : length c.push_groups.new.out.items < 2 ^ 63 = search rules in
    let size : length mark + length (groups_bytes sheet.columns 0 (cuts_of sheet)) < 2 ^ 63 =
    omega (arith, long, ap (λ (xs : List ℕ). length xs) bytes, length-append mark (groups_bytes sheet.columns 0 (cuts_of sheet))) in
    rw (columns, groups) (meta_writable sheet c.requires size)

pub returns : goal.returns
returns c =
    let sheet : Sheet = c.args.sheet.now in
    let before : c.extend_from_slice.new.self.items ≡ mark = search rules in
    let columns : c.in_ok-meta_columns.field-0 ≡ map meta_column sheet.columns = search rules in
    let groups : c.in_ok-groups.groups ≡ groups_at sheet.columns 0 (length mark) (cuts_of sheet) =
    c.in_ok-groups.ensures.groups ∙ ap (λ (xs : List ℕ). groups_at sheet.columns 0 (length xs) (cuts_of sheet)) before in
    let bytes : c.push_groups.new.out.items ≡ mark ++ groups_bytes sheet.columns 0 (cuts_of sheet) =
    c.in_ok-groups.ensures.bytes ∙ ap (λ (xs : List ℕ). xs ++ groups_bytes sheet.columns 0 (cuts_of sheet)) before in
    let meta : FileMeta = record { columns = c.in_ok-meta_columns.field-0; num_rows = sheet.rows; groups = c.in_ok-groups.groups } in
    let says : meta ≡ meta_of sheet = rw (columns, groups) refl in
    let footer : c.as_slice-2.result.now ≡ footer_bytes meta = search rules in
    let written : c.push_footer.new.out.items ≡ canonical sheet =
    canonical_is sheet meta c.push_groups.new.out.items c.push_footer.new.out.items c.as_slice-2.result.now bytes says footer (search rules) in
    let read : footer_of c.as_slice-2.result.now ≡ Ok meta = search rules in
    record {
      bytes = written;
      back = file_read c.reads_back.ensures c.body_size.ensures sheet meta c.push_footer.new.out.items c.as_slice-2.result.now c.requires c.in_ok-groups.ensures.texts says footer
          c.in_ok-push_footer.ensures.small read written;
    }
