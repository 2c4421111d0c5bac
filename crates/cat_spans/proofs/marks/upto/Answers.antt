use Rattle.std.proofs.Common.{◌≡◌, List, [], ◌∷◌, Bool, cond, map, refl, sym, ap, ◌∙◌, ◌+◌, rules, tests}
use Rattle.std.proofs.lemmas.List.Sorted.{IsPartitionPoint-from_clause}
use Rattle.cat_spans.specs.declared.marks.Mark.{Mark}
use Rattle.cat_spans.specs.Marks.{point_of}
use Rattle.cat_spans.specs.Points.{is_upto}
use Rattle.cat_spans.proofs.CountLemmas.{count, count_by-is}
use Rattle.cat_spans.proofs.GapLemmas.{count-partition, partitioned}
use Rattle.cat_spans.proofs.marks.upto.Goals as goal

count-map : (p : _ → Bool) (ms : List Mark) → count p (map point_of ms) ≡ count (λ m. p (point_of m)) ms
count-map p [] = refl
count-map p (m ∷ ms) = ap (λ n. cond (p (point_of m)) 1 0 + n) (count-map p ms)

pub returns-clause-count : goal.returns-clause-count
returns-clause-count c =
    let marks = c.args.marks.now in
    let mark = point_of c.args.mark.now in
    let p = λ (m : Mark). is_upto (point_of m) mark in
    let point = IsPartitionPoint-from_clause p marks _ c.partition_point.ensures.partitioned (partitioned point_of mark marks c.requires) (λ a r f k. search (rules, tests)) in
    sym (count-partition p marks _ c.partition_point.ensures.bound point) ∙ sym (count-map (λ q. is_upto q mark) marks) ∙ sym (count_by-is (λ q. is_upto q mark) (map point_of marks))
