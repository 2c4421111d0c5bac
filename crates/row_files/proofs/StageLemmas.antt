-- Tables that are staged one after the other.
use Rattle.std.proofs.Common.{◌≡◌, ◌≢◌, ◌<◌, ◌≤◌, ◌^◌, ◌+◌, ◌++◌, ℕ, false, All, get_or, length, take, arith, List, [], ◌∷◌, map, append_assoc, Option, Some, None, IfErr, IfNone, IfSome, IsSome, OnOk, Result, Ok, Err, option_and_then, option_map, inl, inr, refl, sym, ap, ap₂, subst, ◌∙◌, ◌⊎◌}
use Rattle.std.specs.List.{AllByRecursion, AllZip, cons_option}
use Rattle.std.proofs.lemmas.List.{append-nil, get_or-map, length-map, map-append, take_all, take_more}
use Rattle.lake_io.specs.Told.{Takes}
use Rattle.lake_types.specs.declared.value.Column.{Column}
use Rattle.lake_model.specs.Apply.{Cells}
use Rattle.lake_model.proofs.TableLemmas.{all-joined}
use Rattle.file_disk.specs.Folder.{Changes, Folder, MayBecomeAny, Same, SameBut, StaysIfThere, Touches}
use Rattle.new_files.specs.Drawing.{Drew}
use Rattle.new_files.specs.Names.{name_of}
use Rattle.new_files.specs.declared.fault.NewFileNo.{NewFileNo}
use Rattle.new_files.specs.declared.fault.NewFileNo.TheVariants as new_file_no
use Rattle.cat_view.specs.Files.{Filed}
use Rattle.cat_view.specs.Staged.{HoldsCells, NamedStagedFile}
use Rattle.cat_view.specs.Typed.{HoldsTyped}
use Rattle.cat_view.specs.declared.staged.StagedFile.{StagedFile}
use Rattle.cat_view.specs.declared.staged.StagedTable.{StagedTable}
use Rattle.row_files.specs.Folders.{filed, files_of}
use Rattle.row_files.specs.Stages.{AddsFresh, AddsTables, CanBeStaged, DrewThese, EndsAtTaken, FreshTable, IfTakenBy, IsOther, IsStagedFresh, SameButThese, StagesMore, StagesTables, Stays, TouchesThese, WroteThese, fresh_names, named_table, only_fresh, refusal}
use Rattle.row_files.specs.Staging.{AddsRows, WroteNone, WroteOne, named_file}
use Rattle.row_files.specs.declared.fault.StageNo.{StageNo}
use Rattle.row_files.specs.declared.fault.StageNo.TheVariants as stage_no
use Rattle.row_files.specs.declared.jobs.Job.{Job}

-- ---- names that were drawn in turn

takes_both : (a b c : Option (List ℕ)) (xs ys : List ℕ) → Takes a b xs → Takes b c ys → Takes a c (xs ++ ys)
takes_both a b None xs ys one two = tt
takes_both (Some a) (Some b) (Some c) xs ys one two = two ∙ ap (λ l. l ++ ys) one ∙ append_assoc a xs ys
takes_both (Some a) None (Some c) xs ys one two = absurd two
takes_both None (Some b) (Some c) xs ys one two = absurd one
takes_both None None (Some c) xs ys one two = absurd two

takes_none : (a b : Option (List ℕ)) → b ≡ a → Takes a b []
takes_none None None same = tt
takes_none (Some a) None same = tt
takes_none (Some a) (Some b) same = (let is : b ≡ a = cc in is) ∙ sym (append-nil a)
takes_none None (Some b) same = absurd (cc)

all_first : {X : Type 0} (P : X → Type 0) (xs ys : List X) → AllByRecursion P (xs ++ ys) → AllByRecursion P xs
all_first P [] ys all = tt
all_first P (x ∷ xs) ys all = (all.0, all_first P xs ys all.1)

all_last : {X : Type 0} (P : X → Type 0) (xs ys : List X) → AllByRecursion P (xs ++ ys) → AllByRecursion P ys
all_last P [] ys all = all
all_last P (x ∷ xs) ys all = all_last P xs ys all.1

drew_both : (a b c : Option (List ℕ)) (names more : List (List ℕ)) → DrewThese a b names → DrewThese b c more → DrewThese a c (names ++ more)
drew_both a b c names more one two = record {
  numbers = one.numbers ++ two.numbers;
  small = all-joined (λ number. number < 2 ^ 128) one.numbers two.numbers one.small two.small;
  drawn = takes_both a b c one.numbers two.numbers one.drawn two.drawn;
  spell = ap₂ (λ x y. x ++ y) one.spell two.spell ∙ sym (map-append (λ number. name_of number false) one.numbers two.numbers);
}

same_both : (names more : List (List ℕ)) (f g h : Folder) → SameButThese names f g → SameButThese more g h → SameButThese (names ++ more) f h
same_both names more f g h one two other apart =
    two other (all_last (λ name. other ≢ name) names more apart) ∙ one other (all_first (λ name. other ≢ name) names more apart)

changed_both : (names more : List (List ℕ)) (f g h : Option Folder) → Changes (SameButThese names) f g → Changes (SameButThese more) g h → Changes (SameButThese (names ++ more)) f h
changed_both names more (Some f) (Some g) (Some h) one two = same_both names more f g h one two
changed_both names more None None None one two = tt
changed_both names more (Some f) (Some g) None one two = two
changed_both names more (Some f) None h one two = absurd one
changed_both names more None (Some g) h one two = absurd one
changed_both names more None None (Some h) one two = two

touch_both : (names more : List (List ℕ)) (i j k : Folder → Type 0) → TouchesThese names i j → TouchesThese more j k → TouchesThese (names ++ more) i k
touch_both names more i j k one two image may =
    let late = two image may in
    let early = one late.old late.was in
    record { old = early.old; was = early.was; others = same_both names more early.old late.old image early.others late.others }

pub wrote_both : (a b c : Option (List ℕ)) (f g h : Option Folder) (i j k : Folder → Type 0) → WroteThese a b f g i j → WroteThese b c g h j k → WroteThese a c f h i k
wrote_both a b c f g h i j k one two = record {
  names = one.names ++ two.names;
  drew = drew_both a b c one.names two.names one.drew two.drew;
  files = changed_both one.names two.names f g h one.files two.files;
  images = touch_both one.names two.names i j k one.images two.images;
}

stays : (names : List (List ℕ)) (f g : Option Folder) → Changes Same f g → Changes (SameButThese names) f g
stays names (Some f) (Some g) same = λ other apart. same other
stays names None None same = tt
stays names (Some f) None same = same
stays names None (Some g) same = same

changed_one : (name : List ℕ) (f g : Option Folder) → Changes (SameBut name) f g → Changes (SameButThese (name ∷ [])) f g
changed_one name (Some f) (Some g) same = λ other apart. same other apart.0
changed_one name None None same = tt
changed_one name (Some f) None same = same
changed_one name None (Some g) same = same

pub wrote_at_most : (a b : Option (List ℕ)) (f g : Option Folder) (i j : Folder → Type 0) → WroteNone a b f g i j ⊎ WroteOne a b f g i j → WroteThese a b f g i j
wrote_at_most a b f g i j (inl none) = record {
  names = [];
  drew = record { numbers = []; small = tt; drawn = takes_none a b none.drawn; spell = refl };
  files = stays [] f g none.files;
  images = λ image may. record { old = image; was = none.images image may; others = λ other apart. refl };
}
wrote_at_most a b f g i j (inr one) = record {
  names = one.name ∷ [];
  drew = record { numbers = one.drew.number ∷ []; small = (one.drew.small, tt); drawn = one.drew.drawn; spell = ap (λ n. n ∷ []) one.drew.spells };
  files = changed_one one.name f g one.files;
  images = λ image may. let from = one.images image may in record { old = from.old; was = from.was; others = λ other apart. from.others other apart.0 };
}

unchanged : (f : Option Folder) → Changes Same f f
unchanged (Some f) = λ name. refl
unchanged None = tt

pub wrote_no : (a : Option (List ℕ)) (f : Option Folder) (i : Folder → Type 0) → WroteThese a a f f i i
wrote_no a f i = wrote_at_most a a f f i i (inl (record { drawn = refl; files = unchanged f; images = λ image may. may }))

-- ---- what was staged before stays

pub was_there : (at : Option (List ℕ)) (held : Filed) → option_map filed at ≡ Some held → at ≡ None → ⊥
was_there None held there none = cc
was_there (Some bytes) held there none = cc

later : (old new : Folder) (columns : List Column) (x : NamedStagedFile) (rows : List Cells) → new x.name ≡ old x.name → HoldsCells (files_of old) columns x rows → HoldsCells (files_of new) columns x rows
later old new columns x rows same held =
    let s = held.staged in
    record {
      sheet = held.sheet;
      staged = record {
        sealed = record {
          filed = s.sealed.filed;
          there = ap (option_map filed) same ∙ s.sealed.there;
          size_is = s.sealed.size_is;
          sheet_is = s.sealed.sheet_is;
          short = s.sealed.short;
        };
        rows = s.rows;
        some = s.some;
        few = s.few;
        weight = s.weight;
        columns_are = s.columns_are;
        stats = s.stats;
      };
      without_ids = held.without_ids;
      cells = held.cells;
    }

typed_later : (old new : Folder) (name : List ℕ) → new name ≡ old name → HoldsTyped (files_of old) name → HoldsTyped (files_of new) name
typed_later old new name same held sheet at = held sheet (ap (λ o. option_and_then (λ (f : Filed). f.sheet) (option_map filed o)) (sym same) ∙ at)

module _ {F : Type 0} (name : F → List ℕ) (size : F → ℕ) (bytes : F → Option (List ℕ)) where
  pub one_more : (x : StagedTable F) (xs : List (StagedTable F)) (file : StagedFile F) → x.fresh ≡ Some file → fresh_names name (x ∷ xs) ≡ name file.file ∷ fresh_names name xs
  one_more x xs file is = ap (λ o. cons_option (option_map (λ (f : StagedFile F). name f.file) o) (fresh_names name xs)) is

  joined : (o : Option (List ℕ)) (ns ms : List (List ℕ)) → cons_option o (ns ++ ms) ≡ cons_option o ns ++ ms
  joined None ns ms = refl
  joined (Some n) ns ms = refl

  names_both : (xs ys : List (StagedTable F)) → fresh_names name (xs ++ ys) ≡ fresh_names name xs ++ fresh_names name ys
  names_both [] ys = refl
  names_both (x ∷ xs) ys =
      ap (cons_option (option_map (λ (f : StagedFile F). name f.file) x.fresh)) (names_both xs ys)
      ∙ joined (option_map (λ (f : StagedFile F). name f.file) x.fresh) (fresh_names name xs) (fresh_names name ys)

  -- a name that is absent isn't one that was written before
  is_other : (folder : Folder) (images : Folder → Type 0) (ts : List FreshTable) (xs : List (StagedTable F)) → AllZip (IsStagedFresh name size bytes images folder) ts xs
      → (other : List ℕ) → folder other ≡ None → IsOther (fresh_names name xs) other
  is_other folder images [] [] all other none = tt
  is_other folder images [] (x ∷ xs) all other none = absurd all
  is_other folder images (t ∷ ts) [] all other none = absurd all
  is_other folder images (t ∷ ts) (x ∷ xs) all other none =
      let s = all.0 in
      subst (λ names. IsOther names other) (sym (one_more x xs s.file s.fresh))
      ((λ e. was_there (folder (name s.file.file)) s.holds.staged.sealed.filed s.holds.staged.sealed.there (ap folder (sym e) ∙ none)), is_other folder images ts xs all.1 other none)

  absent_before : (old new : Folder) (images : Folder → Type 0) (ts : List FreshTable) (xs : List (StagedTable F)) → AddsTables name size bytes ts xs images old new
      → (names : List (List ℕ)) → AllByRecursion (λ n. new n ≡ None) names → AllByRecursion (λ n. old n ≡ None) names
  absent_before old new images ts xs adds [] none = tt
  absent_before old new images ts xs adds (n ∷ names) none =
      (sym (adds.others n (is_other new images ts xs adds.holds n none.0)) ∙ none.0, absent_before old new images ts xs adds names none.1)

  others_than : (folder : Folder) (held : List ℕ) (names : List (List ℕ)) → (folder held ≡ None → ⊥) → AllByRecursion (λ n. folder n ≡ None) names → IsOther names held
  others_than folder held [] there none = tt
  others_than folder held (n ∷ names) there none = ((λ e. there (ap folder e ∙ none.0)), others_than folder held names there none.1)

  module _ (old new : Folder) (could can : Folder → Type 0) (made : List (List ℕ)) (absent : AllByRecursion (λ n. old n ≡ None) made) (others : SameButThese made old new)
      (touches : TouchesThese made could can) where
    kept : (t : FreshTable) (x : StagedTable F) → IsStagedFresh name size bytes could old t x → IsStagedFresh name size bytes can new t x
    kept t x s =
        let apart : IsOther made (name s.file.file) = others_than old (name s.file.file) made (was_there (old (name s.file.file)) s.holds.staged.sealed.filed s.holds.staged.sealed.there) absent in
        let same : new (name s.file.file) ≡ old (name s.file.file) = others (name s.file.file) apart in
        record {
          file = s.file;
          fresh = s.fresh;
          whole = s.whole;
          holds = later old new t.columns (named_file name size s.file) t.rows same s.holds;
          typed = typed_later old new (name s.file.file) same s.typed;
          told = s.told ∙ sym same;
          durable = λ image may. let from = touches image may in from.others (name s.file.file) apart ∙ s.durable from.old from.was ∙ sym same;
        }

    all_kept : (ts : List FreshTable) (xs : List (StagedTable F)) → AllZip (IsStagedFresh name size bytes could old) ts xs → AllZip (IsStagedFresh name size bytes can new) ts xs
    all_kept [] [] all = tt
    all_kept [] (x ∷ xs) all = absurd all
    all_kept (t ∷ ts) [] all = absurd all
    all_kept (t ∷ ts) (x ∷ xs) all = (kept t x all.0, all_kept ts xs all.1)

  zip_both : (P : FreshTable → StagedTable F → Type 0) (ts us : List FreshTable) (xs ys : List (StagedTable F)) → AllZip P ts xs → AllZip P us ys → AllZip P (ts ++ us) (xs ++ ys)
  zip_both P [] us [] ys one two = two
  zip_both P [] us (x ∷ xs) ys one two = absurd one
  zip_both P (t ∷ ts) us [] ys one two = absurd one
  zip_both P (t ∷ ts) us (x ∷ xs) ys one two = (one.0, zip_both P ts us xs ys one.1 two)

  adds_both : (ts us : List FreshTable) (xs ys : List (StagedTable F)) (j k : Folder → Type 0) → TouchesThese (fresh_names name ys) j k → (f g h : Option Folder)
      → Changes (AddsTables name size bytes ts xs j) f g → Changes (AddsTables name size bytes us ys k) g h → Changes (AddsTables name size bytes (ts ++ us) (xs ++ ys) k) f h
  adds_both ts us xs ys j k touches (Some f) (Some g) (Some h) one two = record {
    absent = subst (AllByRecursion (λ n. f n ≡ None)) (sym (names_both xs ys))
        (all-joined (λ n. f n ≡ None) (fresh_names name xs) (fresh_names name ys) one.absent (absent_before f g j ts xs one (fresh_names name ys) two.absent));
    holds = zip_both (IsStagedFresh name size bytes k h) ts us xs ys (all_kept g h j k (fresh_names name ys) two.absent two.others touches ts xs one.holds) two.holds;
    others = subst (λ names. SameButThese names f h) (sym (names_both xs ys)) (same_both (fresh_names name xs) (fresh_names name ys) f g h one.others two.others);
  }
  adds_both ts us xs ys j k touches None None None one two = tt
  adds_both ts us xs ys j k touches (Some f) (Some g) None one two = absurd two
  adds_both ts us xs ys j k touches (Some f) None h one two = absurd one
  adds_both ts us xs ys j k touches None (Some g) h one two = absurd one
  adds_both ts us xs ys j k touches None None (Some h) one two = absurd two

  pub stages_both : (ts us : List FreshTable) (a b c : Option (List ℕ)) (f g h : Option Folder) (i j k : Folder → Type 0) (xs ys : List (StagedTable F))
      → StagesTables name size bytes ts a b f g i j xs → StagesTables name size bytes us b c g h j k ys → StagesTables name size bytes (ts ++ us) a c f h i k (xs ++ ys)
  stages_both ts us a b c f g h i j k xs ys one two = record {
    drew = subst (DrewThese a c) (sym (names_both xs ys)) (drew_both a b c (fresh_names name xs) (fresh_names name ys) one.drew two.drew);
    files = adds_both ts us xs ys j k two.images f g h one.files two.files;
    images = subst (λ names. TouchesThese names i k) (sym (names_both xs ys)) (touch_both (fresh_names name xs) (fresh_names name ys) i j k one.images two.images);
  }

  no_tables : (f : Option Folder) (i : Folder → Type 0) → Changes (AddsTables name size bytes [] [] i) f f
  no_tables (Some f) i = record { absent = tt; holds = tt; others = λ other apart. refl }
  no_tables None i = tt

  pub stages_none : (a : Option (List ℕ)) (f : Option Folder) (i : Folder → Type 0) → StagesTables name size bytes [] a a f f i i []
  stages_none a f i = record {
    drew = record { numbers = []; small = tt; drawn = takes_none a a refl; spell = refl };
    files = no_tables f i;
    images = λ image may. record { old = image; was = may; others = λ other apart. refl };
  }

  pub stages_nothing : (a : Option (List ℕ)) (f : Option Folder) (i : Folder → Type 0) (xs : List (StagedTable F)) → xs ≡ [] → StagesTables name size bytes [] a a f f i i xs
  stages_nothing a f i xs is = subst (StagesTables name size bytes [] a a f f i i) (sym is) (stages_none a f i)

  changed_others : (ts : List FreshTable) (xs : List (StagedTable F)) (i : Folder → Type 0) (f g : Option Folder) → Changes (AddsTables name size bytes ts xs i) f g
      → Changes (SameButThese (fresh_names name xs)) f g
  changed_others ts xs i (Some f) (Some g) adds = adds.others
  changed_others ts xs i None None adds = tt
  changed_others ts xs i (Some f) None adds = adds
  changed_others ts xs i None (Some g) adds = adds

  -- what was staged wrote files under the names that were drawn
  pub stages_wrote : (ts : List FreshTable) (a b : Option (List ℕ)) (f g : Option Folder) (i j : Folder → Type 0) (xs : List (StagedTable F))
      → StagesTables name size bytes ts a b f g i j xs → WroteThese a b f g i j
  stages_wrote ts a b f g i j xs s = record { names = fresh_names name xs; drew = s.drew; files = changed_others ts xs j f g s.files; images = s.images }

  module _ (t : FreshTable) (file : StagedFile F) (x : StagedTable F) (fresh : x.fresh ≡ Some file)
      (whole : named_table name size x ≡ only_fresh t.table (named_file name size file)) where
    one_name : fresh_names name (x ∷ []) ≡ name file.file ∷ []
    one_name = one_more x [] file fresh

    one_folder : (can : Folder → Type 0) (f g : Option Folder) → Changes (AddsRows t.columns t.rows (named_file name size file) (bytes file.file) can) f g
        → Changes (AddsTables name size bytes (t ∷ []) (x ∷ []) can) f g
    one_folder can (Some f) (Some g) adds = record {
      absent = subst (AllByRecursion (λ n. f n ≡ None)) (sym one_name) (adds.fresh, tt);
      holds = (record { file = file; fresh = fresh; whole = whole; holds = adds.holds; typed = adds.typed; told = adds.bytes; durable = adds.durable }, tt);
      others = subst (λ names. SameButThese names f g) (sym one_name) (λ other apart. adds.others other apart.0);
    }
    one_folder can None None adds = tt
    one_folder can (Some f) None adds = adds
    one_folder can None (Some g) adds = adds

    pub stages_one : (a b : Option (List ℕ)) (f g : Option Folder) (i j : Folder → Type 0) → Drew false a b (name file.file)
        → Changes (AddsRows t.columns t.rows (named_file name size file) (bytes file.file) j) f g → Touches MayBecomeAny (name file.file) i j
        → StagesTables name size bytes (t ∷ []) a b f g i j (x ∷ [])
    stages_one a b f g i j drew adds touches = record {
      drew = subst (DrewThese a b) (sym one_name) (record { numbers = drew.number ∷ []; small = (drew.small, tt); drawn = drew.drawn; spell = ap (λ n. n ∷ []) drew.spells });
      files = one_folder j f g adds;
      images = subst (λ names. TouchesThese names i j) (sym one_name)
          (λ image may. let from = touches image may in record { old = from.old; was = from.was; others = λ other apart. from.others other apart.0 });
    }

-- ---- one table

pub more_of : {F A E : Type 0} (r : Result A E) (name : F → List ℕ) (size : F → ℕ) (bytes : F → Option (List ℕ)) (t : FreshTable) (file : StagedFile F) (a b : Option (List ℕ)) (f g : Option Folder)
    (i j : Folder → Type 0) (before now : List (StagedTable F)) → Drew false a b (name file.file)
    → Changes (AddsRows t.columns t.rows (named_file name size file) (bytes file.file) j) f g → Touches MayBecomeAny (name file.file) i j
    → OnOk r ((name : F → List ℕ) (size : F → ℕ) → AddsFresh name size t.table file before now) → OnOk r (StagesMore name size bytes (t ∷ []) a b f g i j before now)
more_of (Ok x) name size bytes t file a b f g i j before now drew adds touches all =
    let more = all name size in
    record {
      staged = more.staged ∷ [];
      behind = more.behind;
      stages = stages_one name size bytes t file more.staged more.fresh more.whole a b f g i j drew adds touches;
    }
more_of (Err e) name size bytes t file a b f g i j before now drew adds touches all = tt

pub ends_taken : (a b : Option (List ℕ)) (f g : Option Folder) (name : List ℕ) → Drew false a b name → IfSome f (λ (folder : Folder). IsSome (folder name)) → Changes Same f g → EndsAtTaken a b f g name
ends_taken a b f g name drew there same = record {
  earlier = [];
  drew = record { numbers = drew.number ∷ []; small = (drew.small, tt); drawn = drew.drawn; spell = ap (λ n. n ∷ []) drew.spells };
  there = still f g there same;
  stays = all_stay f g same;
}
  where
    still : (f g : Option Folder) → IfSome f (λ (folder : Folder). IsSome (folder name)) → Changes Same f g
        → IfSome g (λ (folder : Folder). AllByRecursion (λ n. IsSome (folder n)) (name ∷ []))
    still (Some f) (Some g) there same = (subst (λ o. IsSome o) (sym (same name)) there, tt)
    still None None there same = tt
    still (Some f) None there same = absurd same
    still None (Some g) there same = absurd same

    all_stay : (f g : Option Folder) → Changes Same f g → Changes Stays f g
    all_stay (Some f) (Some g) same = λ n. inr (same n)
    all_stay None None same = tt
    all_stay (Some f) None same = same
    all_stay None (Some g) same = same

-- no answer is that a file is damaged
pub no_damage : (why : NewFileNo) (told : StageNo) → told ≡ refusal why → (name : List ℕ) → told ≢ stage_no.Damaged name
no_damage new_file_no.DiskFault told is name e = absurd (let h : stage_no.DiskFault ≡ stage_no.Damaged name = sym is ∙ e in cc)
no_damage (new_file_no.Taken there) told is name e = absurd (let h : stage_no.Taken there ≡ stage_no.Damaged name = sym is ∙ e in cc)
no_damage new_file_no.Memory told is name e = absurd (let h : stage_no.Memory ≡ stage_no.Damaged name = sym is ∙ e in cc)

pub no_damage_added : {T : Type 0} (result : Result T StageNo) → IfErr result (λ why. why ≡ stage_no.Memory) → IfErr result (λ why. (name : List ℕ) → why ≢ stage_no.Damaged name)
no_damage_added (Ok x) memory = tt
no_damage_added (Err why) memory = no_damage new_file_no.Memory why memory

pub ruleset adding = (wrote_at_most, ends_taken, no_damage, no_damage_added)

-- ---- after tables that were staged

told_alike : (P : Folder → Folder → Type 0) (f g : Option Folder) (T : Type 0) → Changes P f g → IfNone g T → IfNone f T
told_alike P (Some f) g T step told = tt
told_alike P None None T step told = told
told_alike P None (Some g) T step told = absurd step

some_there : (o : Option (List ℕ)) → (o ≡ None → ⊥) → IsSome o
some_there None there = absurd (there refl)
some_there (Some v) there = refl

still_there : (o p : Option (List ℕ)) → StaysIfThere o p → IsSome o → IsSome p
still_there None p stays there = absurd (let h : IsSome {T = List ℕ} None = there in cc)
still_there (Some v) p (inl none) there = absurd cc
still_there (Some v) p (inr same) there = subst (λ q. IsSome q) (sym same) there

-- what stays twice stays
stays_both : (o p q : Option (List ℕ)) → StaysIfThere o p → StaysIfThere p q → StaysIfThere o q
stays_both o p q (inl none) two = inl none
stays_both o p q (inr same) (inl none) = inl (sym same ∙ none)
stays_both o p q (inr same) (inr again) = inr (again ∙ same)

stays_twice : (f g h : Option Folder) → Changes Stays f g → Changes Stays g h → Changes Stays f h
stays_twice (Some f) (Some g) (Some h) one two = λ n. stays_both (f n) (g n) (h n) (one n) (two n)
stays_twice None None None one two = tt
stays_twice (Some f) (Some g) None one two = two
stays_twice (Some f) None h one two = absurd one
stays_twice None (Some g) h one two = absurd one
stays_twice None None (Some h) one two = two

module _ {F : Type 0} (name : F → List ℕ) (size : F → ℕ) (bytes : F → Option (List ℕ)) (ts : List FreshTable) (a b : Option (List ℕ)) (f g : Option Folder) (i j : Folder → Type 0)
    (xs : List (StagedTable F)) (done : StagesTables name size bytes ts a b f g i j xs) where
  pub wrote_after : (c : Option (List ℕ)) (h : Option Folder) (k : Folder → Type 0) → WroteThese b c g h j k → WroteThese a c f h i k
  wrote_after c h k next = wrote_both a b c f g h i j k (stages_wrote name size bytes ts a b f g i j xs done) next

  pub more_after : (t : FreshTable) (c : Option (List ℕ)) (h : Option Folder) (k : Folder → Type 0) (ys : List (StagedTable F))
      → StagesMore name size bytes (t ∷ []) b c g h j k xs ys → StagesTables name size bytes (ts ++ t ∷ []) a c f h i k ys
  more_after t c h k ys next =
      subst (StagesTables name size bytes (ts ++ t ∷ []) a c f h i k) (sym next.behind) (stages_both name size bytes ts (t ∷ []) a b c f g h i j k xs next.staged done next.stages)

  pub untold_after : (T : Type 0) → IfNone g T → IfNone f T
  untold_after T told = told_alike (AddsTables name size bytes ts xs j) f g T done.files told

  names_there : (g : Folder) (ts : List FreshTable) (xs : List (StagedTable F)) → AllZip (IsStagedFresh name size bytes j g) ts xs → AllByRecursion (λ n. IsSome (g n)) (fresh_names name xs)
  names_there g [] [] all = tt
  names_there g [] (x ∷ xs) all = absurd all
  names_there g (t ∷ ts) [] all = absurd all
  names_there g (t ∷ ts) (x ∷ xs) all =
      let s = all.0 in
      subst (AllByRecursion (λ n. IsSome (g n))) (sym (one_more name size bytes x xs s.file s.fresh))
      (some_there (g (name s.file.file)) (was_there (g (name s.file.file)) s.holds.staged.sealed.filed s.holds.staged.sealed.there), names_there g ts xs all.1)

  kept_or_none : (f g : Folder) → AddsTables name size bytes ts xs j f g → (n : List ℕ) → StaysIfThere (f n) (g n)
  kept_or_none f g adds n = go (f n) refl
    where
      go : (o : Option (List ℕ)) → f n ≡ o → StaysIfThere (f n) (g n)
      go None e = inl e
      go (Some v) e = inr (adds.others n (others_than name size bytes f n (fresh_names name xs) (λ none. absurd (let h : None ≡ Some v = sym none ∙ e in cc)) adds.absent))

  all_stay : (f g : Option Folder) → Changes (AddsTables name size bytes ts xs j) f g → Changes Stays f g
  all_stay (Some f) (Some g) adds = kept_or_none f g adds
  all_stay None None adds = tt
  all_stay (Some f) None adds = adds
  all_stay None (Some g) adds = adds

  -- what was there before them stays
  pub stay_before : Changes Stays f g
  stay_before = all_stay f g done.files

  pub stay_after : (h : Option Folder) → Changes Stays g h → Changes Stays f h
  stay_after h next = stays_twice f g h stay_before next

  pub taken_after : (c : Option (List ℕ)) (h : Option Folder) (made : List ℕ) → EndsAtTaken b c g h made → EndsAtTaken a c f h made
  taken_after c h made next = record {
    earlier = fresh_names name xs ++ next.earlier;
    drew = subst (DrewThese a c) (sym (append_assoc (fresh_names name xs) next.earlier (made ∷ []))) (drew_both a b c (fresh_names name xs) (next.earlier ++ made ∷ []) done.drew next.drew);
    there = all_there f g h done.files next.stays next.there;
    stays = stay_after h next.stays;
  }
    where
      still : (g h : Folder) → Stays g h → (ns : List (List ℕ)) → AllByRecursion (λ n. IsSome (g n)) ns → AllByRecursion (λ n. IsSome (h n)) ns
      still g h stays [] all = tt
      still g h stays (n ∷ ns) all = (still_there (g n) (h n) (stays n) all.0, still g h stays ns all.1)

      all_there : (f g h : Option Folder) → Changes (AddsTables name size bytes ts xs j) f g → Changes Stays g h
          → IfSome h (λ (folder : Folder). AllByRecursion (λ n. IsSome (folder n)) (next.earlier ++ made ∷ []))
          → IfSome h (λ (folder : Folder). AllByRecursion (λ n. IsSome (folder n)) ((fresh_names name xs ++ next.earlier) ++ made ∷ []))
      all_there f g None adds stays there = tt
      all_there (Some f) (Some g) (Some h) adds stays there =
          subst (AllByRecursion (λ n. IsSome (h n))) (sym (append_assoc (fresh_names name xs) next.earlier (made ∷ [])))
          (all-joined (λ n. IsSome (h n)) (fresh_names name xs) (next.earlier ++ made ∷ []) (still g h stays (fresh_names name xs) (names_there g ts xs adds.holds)) there)
      all_there None (Some g) (Some h) adds stays there = absurd adds
      all_there f None (Some h) adds stays there = absurd stays

-- one more job
pub next_job : {F : Type 0} (name : F → List ℕ) (size : F → ℕ) (bytes : F → Option (List ℕ)) (fresh : Job → FreshTable) (jobs : List Job) (at : ℕ) (job : Job) (t : FreshTable)
    (a b c : Option (List ℕ)) (f g h : Option Folder) (i j k : Folder → Type 0) (xs ys : List (StagedTable F)) → at < length jobs → t ≡ fresh (get_or jobs at job)
    → StagesTables name size bytes (map fresh (take at jobs)) a b f g i j xs → StagesMore name size bytes (t ∷ []) b c g h j k xs ys
    → StagesTables name size bytes (map fresh (take (at + 1) jobs)) a c f h i k ys
next_job name size bytes fresh jobs at job t a b c f g h i j k xs ys lt is done next =
    let more : map fresh (take (at + 1) jobs) ≡ map fresh (take at jobs) ++ t ∷ [] =
    ap (map fresh) (take_more jobs at job lt) ∙ map-append fresh (take at jobs) (get_or jobs at job ∷ []) ∙ ap (λ x. map fresh (take at jobs) ++ x ∷ []) (sym is) in
    subst (λ ts. StagesTables name size bytes ts a c f h i k ys) (sym more) (more_after name size bytes (map fresh (take at jobs)) a b f g i j xs done t c h k ys next)

pub all_jobs : {F : Type 0} (name : F → List ℕ) (size : F → ℕ) (bytes : F → Option (List ℕ)) (fresh : Job → FreshTable) (jobs : List Job) (at : ℕ)
    (a b : Option (List ℕ)) (f g : Option Folder) (i j : Folder → Type 0) (xs : List (StagedTable F)) → length jobs ≤ at
    → StagesTables name size bytes (map fresh (take at jobs)) a b f g i j xs → StagesTables name size bytes (map fresh jobs) a b f g i j xs
all_jobs name size bytes fresh jobs at a b f g i j xs all done =
    subst (λ js. StagesTables name size bytes (map fresh js) a b f g i j xs) (take_all at jobs all) done

pub can_job : (fresh : Job → FreshTable) (jobs : List Job) (at : ℕ) (job : Job) (t : FreshTable) → at < length jobs → t ≡ fresh (get_or jobs at job)
    → All CanBeStaged (map fresh jobs) → CanBeStaged t
can_job fresh jobs at job t lt is all =
    subst CanBeStaged (get_or-map fresh jobs at job (fresh job) lt ∙ sym is) (all at (fresh job) (omega (arith, length-map jobs fresh, lt)))

pub taken_more : (why : StageNo) (P Q : List ℕ → Type 0) → ((n : List ℕ) → P n → Q n) → IfTakenBy why P → IfTakenBy why Q
taken_more (stage_no.Taken n) P Q more h = more n h
taken_more stage_no.DiskFault P Q more h = tt
taken_more (stage_no.Damaged n) P Q more h = tt
taken_more stage_no.Memory P Q more h = tt

pub ruleset several = (wrote_after, untold_after, taken_after, stay_before, stay_after, stages_none, stages_wrote)
