use Rattle.std.proofs.Common.{map, List, [], ◌∷◌, ◌≡◌, refl, sym, ap, ◌∙◌, ◌&&◌, rules, tests}
use Rattle.std.specs.List.{list_all, zip}
use Rattle.std.proofs.lemmas.Iterator.{YieldsList-from_slice, YieldsList-from_zip}
use Rattle.std.proofs.lemmas.Iterator.Adapters.{YieldsList-from_skip}
use Rattle.std.proofs.lemmas.Iterator.Consumers.{YieldsList-at}
use Rattle.std.proofs.lemmas.List.{drop-map}
use Rattle.std.proofs.lemmas.Iterator.Search.{all_from_yields_List}
use Rattle.cat_spans.specs.declared.marks.Mark.{Mark}
use Rattle.cat_spans.specs.Marks.{point_of}
use Rattle.cat_spans.specs.Points.{is_upto, are_upto}
use Rattle.cat_spans.proofs.marks.are_upto.Goals as goal

list_all-zip : (ms ns : List Mark) → list_all (λ (p : Mark × Mark). is_upto (point_of p.0) (point_of p.1)) (zip ms ns) ≡ are_upto (map point_of ms) (map point_of ns)
list_all-zip [] ns = refl
list_all-zip (m ∷ ms) [] = refl
list_all-zip (m ∷ ms) (n ∷ ns) = ap (λ b. is_upto (point_of m) (point_of n) && b) (list_all-zip ms ns)

pub returns : goal.returns
returns c =
    let later = YieldsList-from_skip c.args.behind (YieldsList-at c.skip.ensures.source (YieldsList-from_slice c.args.others.now cc)) c.skip.ensures.count in
    all_from_yields_List (λ (p : Mark × Mark). is_upto (point_of p.0) (point_of p.1)) c.all.new.self _ c.all.result c.all.ensures.ran
    (YieldsList-from_zip {s = c.zip.result} (YieldsList-from_slice c.args.marks.now cc) (YieldsList-at c.zip.ensures.second later)) (λ x b q k. search (rules, tests))
    ∙ list_all-zip c.args.marks.now _
    ∙ ap (λ l. are_upto (map point_of c.args.marks.now) l) (sym (drop-map point_of c.args.behind c.args.others.now))
