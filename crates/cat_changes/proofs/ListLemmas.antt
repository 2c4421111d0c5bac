-- A changes text is that of one list of kinds, names of dropped schemas aside, and it is wrong at one place.
use Rattle.std.proofs.Common.{◌≡◌, ◌≢◌, ℕ, ◌+◌, ◌-◌, List, [], ◌∷◌, ◌++◌, ◌⊎◌, length, map, flat_map, Option, Some, None, inl, inr, refl, sym, ap, ◌∙◌, append_assoc, arith}
use Rattle.std.proofs.lemmas.List.{append-nil, map-append, length-append}
use Rattle.std.specs.List.{AllByRecursion, join_with_byte}
use Rattle.lake_types.specs.declared.kind.Kind.{Kind}
use Rattle.lake_types.specs.declared.kind.Kind.TheVariants as kind
use Rattle.lake_types.specs.declared.kind.SchemaName.{SchemaName}
use Rattle.lake_types.specs.Kinds.{kind_text, changes_text, AreInOrder, HasId, Says, SaysWith, IsNamed, AreNamed, name_of}
use Rattle.cat_changes.specs.Changes.{ended, tail_text, IsWrongAt, LacksName}
use Rattle.cat_changes.specs.Laws.{HasOneList, HasOnePlace, LacksOneName, SaysOrIsWrong}
use Rattle.cat_changes.specs.Reading.{unnamed, AreUnnamed, IsKindAt}
use Rattle.cat_changes.proofs.KindLemmas.{kind_cut}
use Rattle.cat_changes.proofs.OrderLemmas.{order_same, ids_same, texts_same, up_to}

-- ---- lists

each_front : {X : Type 0} (P : X → Type 0) (a b : List X) → AllByRecursion P (a ++ b) → AllByRecursion P a
each_front P [] b h = tt
each_front P (x ∷ a) b h = (h.0, each_front P a b h.1)

each_back : {X : Type 0} (P : X → Type 0) (a b : List X) → AllByRecursion P (a ++ b) → AllByRecursion P b
each_back P [] b h = h
each_back P (x ∷ a) b h = each_back P a b h.1

pub each_push : {X : Type 0} (P : X → Type 0) (a : List X) (x : X) → AllByRecursion P a → P x → AllByRecursion P (a ++ x ∷ [])
each_push P [] x h p = (p, tt)
each_push P (y ∷ a) x h p = (h.0, each_push P a x h.1 p)

pub unnamed_push : (a b : List Kind) (k l : Kind) → AreUnnamed a b → unnamed k ≡ unnamed l → AreUnnamed (a ++ k ∷ []) (b ++ l ∷ [])
unnamed_push a b k l e f =
    map-append unnamed a (k ∷ []) ∙ ap (λ (x : List Kind). x ++ unnamed k ∷ []) e
    ∙ ap (λ (x : Kind). map unnamed b ++ x ∷ []) f ∙ sym (map-append unnamed b (l ∷ []))

-- ---- the text of a list

-- what stands behind a kind that these follow
abbrev pub tail_for : List Kind → Option (List ℕ)
tail_for [] = None
tail_for (k ∷ kinds) = Some (changes_text (k ∷ kinds))

pub changes_parts : (k : Kind) (kinds : List Kind) → changes_text (k ∷ kinds) ≡ kind_text k ++ tail_text (tail_for kinds)
changes_parts k [] = sym (append-nil (kind_text k))
changes_parts k (l ∷ kinds) = refl

ended_parts : (k : Kind) (front : List Kind) (rest : List ℕ) → ended (k ∷ front) ++ rest ≡ kind_text k ++ tail_text (Some (ended front ++ rest))
ended_parts k front rest =
    append_assoc (kind_text k ++ 44 ∷ []) (ended front) rest ∙ append_assoc (kind_text k) (44 ∷ []) (ended front ++ rest)

pub ended_push : (kinds : List Kind) (k : Kind) → ended (kinds ++ k ∷ []) ≡ ended kinds ++ (kind_text k ++ 44 ∷ [])
ended_push [] k = append-nil (kind_text k ++ 44 ∷ [])
ended_push (l ∷ kinds) k =
    ap (λ (x : List ℕ). (kind_text l ++ 44 ∷ []) ++ x) (ended_push kinds k) ∙ sym (append_assoc (kind_text l ++ 44 ∷ []) (ended kinds) (kind_text k ++ 44 ∷ []))

pub changes_push : (kinds : List Kind) (k : Kind) → changes_text (kinds ++ k ∷ []) ≡ ended kinds ++ kind_text k
changes_push [] k = refl
changes_push (l ∷ []) k = sym (append_assoc (kind_text l ++ 44 ∷ []) [] (kind_text k) ∙ append_assoc (kind_text l) (44 ∷ []) (kind_text k))
changes_push (l ∷ m ∷ kinds) k =
    ap (λ (x : List ℕ). kind_text l ++ 44 ∷ x) (changes_push (m ∷ kinds) k)
    ∙ sym (append_assoc (kind_text l) (44 ∷ []) (ended (m ∷ kinds) ++ kind_text k))
    ∙ sym (append_assoc (kind_text l ++ 44 ∷ []) (ended (m ∷ kinds)) (kind_text k))

pub kind_some : (k : Kind) (x : List ℕ) → kind_text k ++ x ≡ [] → ⊥
kind_some (kind.CreatedSchema name) x e = cc
kind_some (kind.CreatedTable schema name) x e = cc
kind_some (kind.InsertedInto table) x e = cc
kind_some (kind.DeletedFrom table) x e = cc
kind_some (kind.Compacted table) x e = cc
kind_some (kind.DroppedSchema id name) x e = cc
kind_some (kind.DroppedTable table) x e = cc
kind_some (kind.Altered table) x e = cc

-- what stands behind the first kind
behind_first : (kinds : List Kind) → tail_text (tail_for kinds) ≡ flat_map (λ k. 44 ∷ kind_text k) kinds
behind_first [] = refl
behind_first (k ∷ kinds) = ap (λ (x : List ℕ). 44 ∷ x) (changes_parts k kinds ∙ ap (λ (x : List ℕ). kind_text k ++ x) (behind_first kinds))

pub one_by_one : (k : Kind) (kinds : List Kind) → kind_text k ++ flat_map (λ l. 44 ∷ kind_text l) kinds ≡ changes_text (k ∷ kinds)
one_by_one k kinds = ap (λ (x : List ℕ). kind_text k ++ x) (sym (behind_first kinds)) ∙ sym (changes_parts k kinds)

-- ---- one list

tails_texts : (a b : List Kind) → tail_for a ≡ tail_for b → changes_text a ≡ changes_text b
tails_texts [] [] e = refl
tails_texts [] (l ∷ b) e = cc
tails_texts (k ∷ a) [] e = cc
tails_texts (k ∷ a) (l ∷ b) e = cc

pub same_lists : (a b : List Kind) → AllByRecursion HasId a → AllByRecursion HasId b → changes_text a ≡ changes_text b → AreUnnamed a b
same_lists [] [] ha hb e = refl
same_lists [] (l ∷ b) ha hb e = absurd (kind_some l (tail_text (tail_for b)) (sym (changes_parts l b) ∙ sym e))
same_lists (k ∷ a) [] ha hb e = absurd (kind_some k (tail_text (tail_for a)) (sym (changes_parts k a) ∙ e))
same_lists (k ∷ a) (l ∷ b) ha hb e =
    let cut = kind_cut k l (tail_for a) (tail_for b) ha.0 hb.0 (sym (changes_parts k a) ∙ e ∙ changes_parts l b) in
    let rest = same_lists a b ha.1 hb.1 (tails_texts a b cut.1) in
    ap (λ (x : Kind). x ∷ map unnamed a) cut.0 ∙ ap (λ (x : List Kind). unnamed l ∷ x) rest

pub says_same : (text : List ℕ) (a b : List Kind) → AreUnnamed a b → Says text a → Says text b
says_same text a b e s = record {
  in_order = order_same a b e s.in_order;
  ids = ids_same a b e s.ids;
  spelled = ap (join_with_byte 44) (sym (texts_same a b e)) ∙ s.spelled;
}

named_kind : (schemas : List SchemaName) (k l : Kind) → unnamed k ≡ unnamed l → IsNamed (name_of schemas) k → IsNamed (name_of schemas) l → k ≡ l
named_kind schemas (kind.DroppedSchema i n) (kind.DroppedSchema j m) e hk hl =
    let ids : i ≡ j = cc in
    let names : Some n ≡ Some m = sym hk ∙ ap (name_of schemas) ids ∙ hl in
    let name : n ≡ m = cc in
    (cc)
named_kind schemas (kind.DroppedSchema i n) l e hk hl = cc
named_kind schemas k (kind.DroppedSchema j m) e hk hl = cc
named_kind schemas k l e hk hl = e

named_same : (schemas : List SchemaName) (a b : List Kind) → AreUnnamed a b → AreNamed schemas a → AreNamed schemas b → a ≡ b
named_same schemas [] [] e ha hb = refl
named_same schemas [] (l ∷ b) e ha hb = cc
named_same schemas (k ∷ a) [] e ha hb = cc
named_same schemas (k ∷ a) (l ∷ b) e ha hb =
    let head : k ≡ l = named_kind schemas k l (cc) ha.0 hb.0 in
    let rest : a ≡ b = named_same schemas a b (cc) ha.1 hb.1 in
    (cc)

pub has_one_list : HasOneList
has_one_list schemas text a b ga gb =
    named_same schemas a b (same_lists a b ga.says.ids gb.says.ids (ga.says.spelled ∙ sym gb.says.spelled)) ga.named gb.named

-- ---- a name that is lacking

lacking : (schemas : List SchemaName) (before : List Kind) (id : ℕ) (name : List ℕ) (behind kinds : List Kind) → AreUnnamed (before ++ kind.DroppedSchema id name ∷ behind) kinds
    → AreNamed schemas kinds → name_of schemas id ≡ None → ⊥
lacking schemas before id name behind [] e h none = no_more before id name behind e
  where
    no_more : (before : List Kind) (id : ℕ) (name : List ℕ) (behind : List Kind) → AreUnnamed (before ++ kind.DroppedSchema id name ∷ behind) [] → ⊥
    no_more [] id name behind e = cc
    no_more (k ∷ before) id name behind e = cc
lacking schemas [] id name behind (kind.DroppedSchema j m ∷ kinds) e h none =
    let ids : id ≡ j = cc in
    let both : None ≡ Some m = sym none ∙ ap (name_of schemas) ids ∙ h.0 in
    cc
lacking schemas [] id name behind (k ∷ kinds) e h none = cc
lacking schemas (b ∷ before) id name behind (k ∷ kinds) e h none = lacking schemas before id name behind kinds (cc) h.1 none

first_lack : (schemas : List SchemaName) (a b : List Kind) (i j : ℕ) (n m : List ℕ) (after others : List Kind) → AreUnnamed (a ++ kind.DroppedSchema i n ∷ after) (b ++ kind.DroppedSchema j m ∷ others)
    → AreNamed schemas a → AreNamed schemas b → name_of schemas i ≡ None → name_of schemas j ≡ None → i ≡ j
first_lack schemas [] [] i j n m after others e ha hb li lj = cc
first_lack schemas [] (kind.DroppedSchema l o ∷ b) i j n m after others e ha hb li lj =
    let same : i ≡ l = cc in
    let both : None ≡ Some o = sym li ∙ ap (name_of schemas) same ∙ hb.0 in
    cc
first_lack schemas [] (l ∷ b) i j n m after others e ha hb li lj = cc
first_lack schemas (kind.DroppedSchema k o ∷ a) [] i j n m after others e ha hb li lj =
    let same : j ≡ k = cc in
    let both : None ≡ Some o = sym lj ∙ ap (name_of schemas) same ∙ ha.0 in
    cc
first_lack schemas (k ∷ a) [] i j n m after others e ha hb li lj = cc
first_lack schemas (k ∷ a) (l ∷ b) i j n m after others e ha hb li lj = first_lack schemas a b i j n m after others (cc) ha.1 hb.1 li lj

pub lacks_one_name : LacksOneName
lacks_one_name schemas text i j u v =
    first_lack schemas u.before v.before i j u.name v.name u.behind v.behind
    (same_lists (u.before ++ kind.DroppedSchema i u.name ∷ u.behind) (v.before ++ kind.DroppedSchema j v.name ∷ v.behind) u.says.ids v.says.ids (u.says.spelled ∙ sym v.says.spelled))
    u.named v.named u.lacks v.lacks

pub lacks_gives_none : (schemas : List SchemaName) (text : List ℕ) (id : ℕ) (kinds : List Kind) → LacksName schemas text id → SaysWith schemas text kinds → ⊥
lacks_gives_none schemas text id kinds l g =
    lacking schemas l.before id l.name l.behind kinds
    (same_lists (l.before ++ kind.DroppedSchema id l.name ∷ l.behind) kinds l.says.ids g.says.ids (l.says.spelled ∙ sym g.says.spelled)) g.named l.lacks

-- ---- one place

-- these kinds go on where the others end, with a kind that stands at the rest
pub record GoesOn (kinds others : List Kind) (rest : List ℕ) : Type 0 where
  pub front : List Kind
  pub next : Kind
  pub behind : List Kind
  pub tail : Option (List ℕ)
  pub split : front ++ next ∷ behind ≡ kinds
  pub same : AreUnnamed front others
  pub stands : kind_text next ++ tail_text tail ≡ rest

goes_on_cons : (k l : Kind) (kinds others : List Kind) (rest : List ℕ) → unnamed k ≡ unnamed l → GoesOn kinds others rest → GoesOn (k ∷ kinds) (l ∷ others) rest
goes_on_cons k l kinds others rest e g = record {
  front = k ∷ g.front;
  next = g.next;
  behind = g.behind;
  tail = g.tail;
  split = ap (λ (x : List Kind). k ∷ x) g.split;
  same = ap (λ (x : Kind). x ∷ map unnamed g.front) e ∙ ap (λ (x : List Kind). unnamed l ∷ x) g.same;
  stands = g.stands;
}

-- a list that is not used up goes on with its first kind
pub goes_on_first : (k : Kind) (kinds : List Kind) (tail : Option (List ℕ)) (rest : List ℕ) → kind_text k ++ tail_text tail ≡ rest → GoesOn (k ∷ kinds) [] rest
goes_on_first k kinds tail rest e = record { front = []; next = k; behind = kinds; tail = tail; split = refl; same = refl; stands = e }

-- nothing that goes on where a text is wrong
pub not_wrong : (text : List ℕ) (at : ℕ) (w : IsWrongAt text at) (kinds : List Kind) → AreInOrder kinds → AllByRecursion HasId kinds → GoesOn kinds w.before w.rest → ⊥
not_wrong text at w kinds order ids g =
    let split_order : AreInOrder (g.front ++ g.next ∷ g.behind) = rw g.split order in
    let split_ids : AllByRecursion HasId (g.front ++ g.next ∷ g.behind) = rw g.split ids in
    w.wrong g.next g.tail (each_back HasId g.front (g.next ∷ g.behind) split_ids).0
    (order_same (g.front ++ g.next ∷ []) (w.before ++ g.next ∷ []) (unnamed_push g.front w.before g.next g.next g.same refl) (up_to g.front g.next g.behind split_order))
    g.stands

-- two fronts of one text
fronts : (a b : List Kind) (r s : List ℕ) → AllByRecursion HasId a → AllByRecursion HasId b → ended a ++ r ≡ ended b ++ s
    → AreUnnamed a b ⊎ (GoesOn a b s ⊎ GoesOn b a r)
fronts [] [] r s ha hb e = inl refl
fronts [] (l ∷ b) r s ha hb e = inr (inr (goes_on_first l b (Some (ended b ++ s)) r (sym (e ∙ ended_parts l b s))))
fronts (k ∷ a) [] r s ha hb e = inr (inl (goes_on_first k a (Some (ended a ++ r)) s (sym (sym e ∙ ended_parts k a r))))
fronts (k ∷ a) (l ∷ b) r s ha hb e =
    let cut = kind_cut k l (Some (ended a ++ r)) (Some (ended b ++ s)) ha.0 hb.0 (sym (ended_parts k a r) ∙ e ∙ ended_parts l b s) in
    let tails : Some (ended a ++ r) ≡ Some (ended b ++ s) = cut.1 in
    elim (fronts a b r s ha.1 hb.1 (cc)) [
      | inl same ↦ inl (ap (λ (x : Kind). x ∷ map unnamed a) cut.0 ∙ ap (λ (x : List Kind). unnamed l ∷ x) same)
      | inr more ↦ elim more [
        | inl first ↦ inr (inl (goes_on_cons k l a b s cut.0 first))
        | inr second ↦ inr (inr (goes_on_cons l k b a r (sym cut.0) second))
      ]
    ]

ended_texts : (kinds : List Kind) → ended kinds ≡ flat_map (λ x. x ++ 44 ∷ []) (map kind_text kinds)
ended_texts [] = refl
ended_texts (k ∷ kinds) = ap (λ (x : List ℕ). (kind_text k ++ 44 ∷ []) ++ x) (ended_texts kinds)

ended_same : (a b : List Kind) → AreUnnamed a b → ended a ≡ ended b
ended_same a b e = ended_texts a ∙ ap (flat_map (λ x. x ++ 44 ∷ [])) (texts_same a b e) ∙ sym (ended_texts b)

pub has_one_place : HasOnePlace
has_one_place text m n v w =
    elim (fronts v.before w.before v.rest w.rest v.ids w.ids (v.spelled ∙ sym w.spelled)) [
      | inl same ↦ sym v.place ∙ ap length (ended_same v.before w.before same) ∙ w.place
      | inr more ↦ elim more [
        | inl first ↦ absurd (not_wrong text n w v.before v.in_order v.ids first)
        | inr second ↦ absurd (not_wrong text m v w.before w.in_order w.ids second)
      ]
    ]

-- ---- a text that says something isn't wrong

reaches : (front kinds : List Kind) (rest : List ℕ) → AllByRecursion HasId front → AllByRecursion HasId kinds → ended front ++ rest ≡ changes_text kinds → kinds ≢ []
    → GoesOn kinds front rest
reaches front [] rest hf hk e some = absurd (some refl)
reaches [] (l ∷ kinds) rest hf hk e some = goes_on_first l kinds (tail_for kinds) rest (sym (e ∙ changes_parts l kinds))
reaches (k ∷ front) (l ∷ []) rest hf hk e some =
    let cut = kind_cut k l (Some (ended front ++ rest)) None hf.0 hk.0 (sym (ended_parts k front rest) ∙ e ∙ changes_parts l []) in
    let tails : Some (ended front ++ rest) ≡ None = cut.1 in
    cc
reaches (k ∷ front) (l ∷ m ∷ kinds) rest hf hk e some =
    let cut = kind_cut k l (Some (ended front ++ rest)) (Some (changes_text (m ∷ kinds))) hf.0 hk.0 (sym (ended_parts k front rest) ∙ e) in
    let tails : Some (ended front ++ rest) ≡ Some (changes_text (m ∷ kinds)) = cut.1 in
    let more : ended front ++ rest ≡ changes_text (m ∷ kinds) = cc in
    goes_on_cons l k (m ∷ kinds) front rest (sym cut.0) (reaches front (m ∷ kinds) rest hf.1 hk.1 more (λ no_kinds. cc))

pub says_or_is_wrong : SaysOrIsWrong
says_or_is_wrong text at kinds w s =
    let some : kinds ≢ [] = λ none. w.some (sym s.spelled ∙ ap changes_text none) in
    not_wrong text at w kinds s.in_order s.ids (reaches w.before kinds w.rest w.ids s.ids (w.spelled ∙ sym s.spelled) some)

-- ---- the loop that reads, as far as it has come

-- these kinds were read, and the rest is still to be read
pub record IsAt (text : List ℕ) (kinds : List Kind) (rest : List ℕ) : Type 0 where
  pub some : text ≢ []
  pub in_order : AreInOrder kinds
  pub ids : AllByRecursion HasId kinds
  pub spelled : ended kinds ++ rest ≡ text

pub begins : (text : List ℕ) → text ≢ [] → IsAt text [] text
begins text some = record { some = some; in_order = tt; ids = tt; spelled = refl }

pub goes_on : (text : List ℕ) (kinds : List Kind) (rest : List ℕ) (k : Kind) (more : List ℕ) → IsAt text kinds rest → AreInOrder (kinds ++ k ∷ []) → HasId k
    → kind_text k ++ 44 ∷ more ≡ rest → IsAt text (kinds ++ k ∷ []) more
goes_on text kinds rest k more at order id e = record {
  some = at.some;
  in_order = order;
  ids = each_push HasId kinds k at.ids id;
  spelled =
      ap (λ (x : List ℕ). x ++ more) (ended_push kinds k) ∙ append_assoc (ended kinds) (kind_text k ++ 44 ∷ []) more
      ∙ ap (λ (x : List ℕ). ended kinds ++ x) (append_assoc (kind_text k) (44 ∷ []) more ∙ e) ∙ at.spelled;
}

pub ends : (text : List ℕ) (kinds : List Kind) (rest : List ℕ) (k : Kind) → IsAt text kinds rest → AreInOrder (kinds ++ k ∷ []) → HasId k
    → kind_text k ++ [] ≡ rest → Says text (kinds ++ k ∷ [])
ends text kinds rest k at order id e = record {
  in_order = order;
  ids = each_push HasId kinds k at.ids id;
  spelled = changes_push kinds k ∙ ap (λ (x : List ℕ). ended kinds ++ x) (sym (append-nil (kind_text k)) ∙ e) ∙ at.spelled;
}

place : (text : List ℕ) (kinds : List Kind) (rest : List ℕ) → IsAt text kinds rest → length (ended kinds) ≡ length text - length rest
place text kinds rest at =
    let both : length (ended kinds) + length rest ≡ length text = sym (length-append (ended kinds) rest) ∙ ap length at.spelled in
    omega (arith, both)

-- no kind stands at the rest
pub stops : (text : List ℕ) (kinds : List Kind) (rest : List ℕ) (at : ℕ) → IsAt text kinds rest → at ≡ length text - length rest → IsKindAt rest None → IsWrongAt text at
stops text kinds rest at is n none = record {
  some = is.some;
  before = kinds;
  rest = rest;
  in_order = is.in_order;
  ids = is.ids;
  spelled = is.spelled;
  place = place text kinds rest is ∙ sym n;
  wrong = λ k tail id order e. none k tail refl id e;
}

-- the kind that stands there may not follow
pub stops_order : (text : List ℕ) (kinds : List Kind) (rest : List ℕ) (at : ℕ) (k : Kind) (tail : Option (List ℕ)) → IsAt text kinds rest → at ≡ length text - length rest
    → HasId k → kind_text k ++ tail_text tail ≡ rest → (AreInOrder (kinds ++ k ∷ []) → ⊥) → IsWrongAt text at
stops_order text kinds rest at k tail is n id stands not_next = record {
  some = is.some;
  before = kinds;
  rest = rest;
  in_order = is.in_order;
  ids = is.ids;
  spelled = is.spelled;
  place = place text kinds rest is ∙ sym n;
  wrong = λ l other id' order e.
      let cut = kind_cut l k other tail id' id (e ∙ sym stands) in
      not_next (order_same (kinds ++ l ∷ []) (kinds ++ k ∷ []) (unnamed_push kinds kinds l k refl cut.0) order);
}
