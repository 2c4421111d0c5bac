-- The names of dropped schemas are put into the kinds that were read.
use Rattle.std.proofs.Common.{◌≡◌, ◌≢◌, ℕ, suc, ◌<◌, List, [], ◌∷◌, ◌++◌, length, map, get_or, take, drop, false, Option, Result, Ok, Err, IfOk, IfErr, refl, sym, ap, ◌∙◌}
use Rattle.std.proofs.lemmas.List.{map-append, take-append-drop}
use Rattle.std.proofs.Math.Seq.{drop-cons}
use Rattle.std.specs.List.{AllByRecursion, list_any}
use Rattle.lake_types.specs.declared.kind.Kind.{Kind}
use Rattle.lake_types.specs.declared.kind.Kind.TheVariants as kind
use Rattle.lake_types.specs.declared.kind.SchemaName.{SchemaName}
use Rattle.cat_changes.specs.declared.fault.BadChanges.{BadChanges}
use Rattle.cat_changes.specs.declared.fault.BadChanges.TheVariants.{Text, NoSchema, Memory}
use Rattle.lake_types.specs.Kinds.{Says, SaysWith, IsNamed, name_of}
use Rattle.cat_changes.specs.Changes.{LacksName, HasCause}
use Rattle.cat_changes.specs.Reading.{unnamed, AreUnnamed, is_dropped_schema, IsNameless, NamesAll, NamesKind, ReadsText}
use Rattle.cat_changes.proofs.ListLemmas.{says_same, lacks_gives_none, says_or_is_wrong}

-- ---- the loop

pub named_stops : (find : ℕ → Option (List ℕ)) (kinds named : List Kind) (i : ℕ) (k : Kind) (fault : BadChanges) → i < length kinds → k ≡ get_or kinds i k
    → AreUnnamed named (take i kinds) × AllByRecursion (IsNamed find) named → NamesKind find k (Err fault) → NamesAll find kinds (Err fault)
named_stops find kinds named i k (Text at) lt is h n = n
named_stops find kinds named i k Memory lt is h n = tt
named_stops find kinds named i k (NoSchema id) lt is h n =
    let rest : drop i kinds ≡ k ∷ drop (suc i) kinds = drop-cons kinds i k lt ∙ ap (λ (x : Kind). x ∷ drop (suc i) kinds) (sym is) in
    let all : take i kinds ++ k ∷ drop (suc i) kinds ≡ kinds = ap (λ (x : List Kind). take i kinds ++ x) (sym rest) ∙ take-append-drop i kinds in
    record {
      before = named;
      behind = drop (suc i) kinds;
      split =
          map-append unnamed named (kind.DroppedSchema id [] ∷ drop (suc i) kinds)
          ∙ ap (λ (x : List Kind). x ++ kind.DroppedSchema id [] ∷ map unnamed (drop (suc i) kinds)) h.0
          ∙ ap (λ (x : Kind). map unnamed (take i kinds) ++ x ∷ map unnamed (drop (suc i) kinds)) (sym n.0)
          ∙ sym (map-append unnamed (take i kinds) (k ∷ drop (suc i) kinds)) ∙ ap (map unnamed) all;
      named = h.1;
      lacks = n.1;
    }

-- ---- two ways to find the same names

named_as : (find found : ℕ → Option (List ℕ)) → ((id : ℕ) → find id ≡ found id) → (k : Kind) → IsNamed find k → IsNamed found k
named_as find found same (kind.DroppedSchema id name) h = sym (same id) ∙ h
named_as find found same k h = h

each_named_as : (find found : ℕ → Option (List ℕ)) → ((id : ℕ) → find id ≡ found id) → (kinds : List Kind) → AllByRecursion (IsNamed find) kinds
    → AllByRecursion (IsNamed found) kinds
each_named_as find found same [] h = h
each_named_as find found same (k ∷ kinds) h = (named_as find found same k h.0, each_named_as find found same kinds h.1)

pub all_named_as : (find found : ℕ → Option (List ℕ)) (kinds : List Kind) (r : Result (List Kind) BadChanges) → ((id : ℕ) → find id ≡ found id)
    → NamesAll find kinds r → NamesAll found kinds r
all_named_as find found kinds (Ok named) same h = (h.0, each_named_as find found same named h.1)
all_named_as find found kinds (Err (Text at)) same h = h
all_named_as find found kinds (Err (NoSchema id)) same h = record {
  before = h.before;
  behind = h.behind;
  split = h.split;
  named = each_named_as find found same h.before h.named;
  lacks = sym (same id) ∙ h.lacks;
}
all_named_as find found kinds (Err Memory) same h = h

-- where no schema is dropped, there is no name to find
needs_none : (found : ℕ → Option (List ℕ)) (kinds : List Kind) → list_any is_dropped_schema kinds ≡ false → AllByRecursion (IsNamed found) kinds
needs_none found [] h = tt
needs_none found (kind.DroppedSchema id name ∷ kinds) h = cc
needs_none found (kind.CreatedSchema name ∷ kinds) h = (tt, needs_none found kinds h)
needs_none found (kind.CreatedTable schema name ∷ kinds) h = (tt, needs_none found kinds h)
needs_none found (kind.InsertedInto table ∷ kinds) h = (tt, needs_none found kinds h)
needs_none found (kind.DeletedFrom table ∷ kinds) h = (tt, needs_none found kinds h)
needs_none found (kind.Compacted table ∷ kinds) h = (tt, needs_none found kinds h)
needs_none found (kind.DroppedTable table ∷ kinds) h = (tt, needs_none found kinds h)
needs_none found (kind.Altered table ∷ kinds) h = (tt, needs_none found kinds h)

pub stay_unnamed : (found : ℕ → Option (List ℕ)) (kinds : List Kind) → list_any is_dropped_schema kinds ≡ false → NamesAll found kinds (Ok kinds)
stay_unnamed found kinds h = (refl, needs_none found kinds h)

-- ---- what is given

gives : (schemas : List SchemaName) (text : List ℕ) (kinds named : List Kind) → Says text kinds → NamesAll (name_of schemas) kinds (Ok named) → SaysWith schemas text named
gives schemas text kinds named s h = record { says = says_same text kinds named (sym h.0) s; named = h.1 }

lacks_name : (schemas : List SchemaName) (text : List ℕ) (kinds : List Kind) (id : ℕ) → Says text kinds → IsNameless (name_of schemas) kinds id → LacksName schemas text id
lacks_name schemas text kinds id s n = record {
  before = n.before;
  name = [];
  behind = n.behind;
  says = says_same text kinds (n.before ++ kind.DroppedSchema id [] ∷ n.behind) (sym n.split) s;
  named = n.named;
  lacks = n.lacks;
}

-- ---- what a fault says of the text

pub text_cause : (schemas : List SchemaName) (text : List ℕ) (fault : BadChanges) → ReadsText text (Err fault) → HasCause schemas text fault
text_cause schemas text (Text at) h = (h, (λ kinds s. says_or_is_wrong text at kinds h s))
text_cause schemas text (NoSchema id) h = absurd h
text_cause schemas text Memory h = tt

pub text_none : (schemas : List SchemaName) (text : List ℕ) (fault : BadChanges) → ReadsText text (Err fault) → fault ≢ Memory
    → (kinds : List Kind) → SaysWith schemas text kinds → ⊥
text_none schemas text (Text at) h not_memory kinds g = says_or_is_wrong text at kinds h g.says
text_none schemas text (NoSchema id) h not_memory kinds g = h
text_none schemas text Memory h not_memory kinds g = not_memory refl

name_cause : (schemas : List SchemaName) (text : List ℕ) (kinds : List Kind) (fault : BadChanges) → Says text kinds → NamesAll (name_of schemas) kinds (Err fault)
    → HasCause schemas text fault
name_cause schemas text kinds (Text at) s h = absurd h
name_cause schemas text kinds (NoSchema id) s h = lacks_name schemas text kinds id s h
name_cause schemas text kinds Memory s h = tt

name_none : (schemas : List SchemaName) (text : List ℕ) (read : List Kind) (fault : BadChanges) → Says text read → NamesAll (name_of schemas) read (Err fault) → fault ≢ Memory
    → (kinds : List Kind) → SaysWith schemas text kinds → ⊥
name_none schemas text read (Text at) s h not_memory kinds g = h
name_none schemas text read (NoSchema id) s h not_memory kinds g = lacks_gives_none schemas text id kinds (lacks_name schemas text read id s h) g
name_none schemas text read Memory s h not_memory kinds g = not_memory refl

-- ---- what the whole answers

pub answers_ok : (schemas : List SchemaName) (text : List ℕ) (kinds : List Kind) (r : Result (List Kind) BadChanges) → Says text kinds → NamesAll (name_of schemas) kinds r
    → IfOk r (λ named. SaysWith schemas text named)
answers_ok schemas text kinds (Ok named) s h = gives schemas text kinds named s h
answers_ok schemas text kinds (Err fault) s h = tt

pub answers_cause : (schemas : List SchemaName) (text : List ℕ) (kinds : List Kind) (r : Result (List Kind) BadChanges) → Says text kinds → NamesAll (name_of schemas) kinds r
    → IfErr r (λ fault. HasCause schemas text fault)
answers_cause schemas text kinds (Ok named) s h = tt
answers_cause schemas text kinds (Err fault) s h = name_cause schemas text kinds fault s h

pub answers_none : (schemas : List SchemaName) (text : List ℕ) (read : List Kind) (r : Result (List Kind) BadChanges) → Says text read → NamesAll (name_of schemas) read r
    → IfErr r (λ fault. fault ≢ Memory → (kinds : List Kind) → SaysWith schemas text kinds → ⊥)
answers_none schemas text read (Ok named) s h = tt
answers_none schemas text read (Err fault) s h = name_none schemas text read fault s h
