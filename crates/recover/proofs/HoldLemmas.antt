-- Files that are held one after the other.
use Rattle.std.proofs.Common.{◌≡◌, ◌≢◌, ◌<◌, ◌≤◌, ◌+◌, ℕ, Bool, true, false, cond, is_lt, List, [], ◌∷◌, ◌++◌, drop, get_or, length, map, take, append_assoc, Option, None, Some, IfSome, IsSomeAnd, option_map, Result, Ok, Err, IfErr, OnErr, OnOk, inl, inr, refl, sym, ap, subst, ◌∙◌}
use Rattle.std.specs.List.{AllByRecursion}
use Rattle.std.proofs.lemmas.List.{map-append, take-append-drop, take_all, take_more}
use Rattle.lake_model.proofs.PlanLemmas.{found-has}
use Rattle.lake_model.proofs.TableLemmas.{all-joined}
use Rattle.file_disk.specs.Folder.{Changes, Folder, Same}
use Rattle.cat_rows.specs.Tables.{Tables}
use Rattle.cat_rows.specs.declared.files.DataFileRow.{DataFileRow}
use Rattle.cat_rows.specs.declared.files.DeleteFileRow.{DeleteFileRow}
use Rattle.cat_tables.specs.Table.{LacksKey, has_key, key_cmp, put, row_of}
use Rattle.cat_tables.proofs.KeyLemmas.{key_apart}
use Rattle.cat_tables.proofs.PlaceLemmas.{row_of-lacking}
use Rattle.cat_tables.proofs.PutLemmas.{all-put}
use Rattle.cat_tables.proofs.RowLemmas.{LacksKey-none, key-row_of, row_of-put}
use Rattle.cat_tables.proofs.SightLemmas.{same_key}
use Rattle.cat_rules.proofs.FirstLemmas.{all_like}
use Rattle.cat_view.specs.Held.{name_by}
use Rattle.cat_view.specs.declared.held.HeldFile.{HeldFile}
use Rattle.row_files.specs.Stages.{TellsBytes}
use Rattle.recover.specs.Holding.{HoldsThese, IsHeldAs, IsThere, NamedFile, TellTheirs, TellsSize, WhyNoFiles, named_data, named_delete, named_files}
use Rattle.recover.specs.declared.no.OpenNo.{OpenNo}
use Rattle.recover.specs.declared.no.OpenNo.TheVariants as open_no
use Rattle.recover.proofs.FolderLemmas.{there_before, why_among, why_behind}

-- ---- the row that is put among others

module _ {R : Type 0} (key : R → List ℕ) where
  pub row_of-put_own : (new : R) (rs : List R) → LacksKey key (key new) rs → row_of key (key new) (put key new rs) ≡ Some new
  row_of-put_own new [] lacks = ap (λ b. cond b (Some new) None) (same_key key new)
  row_of-put_own new (r ∷ rs) lacks =
      elim (is_lt (key_cmp (key r) (key new))) as (λ b. row_of key (key new) (cond b (r ∷ put key new rs) (new ∷ r ∷ rs)) ≡ Some new) [
        | true ↦ ap (λ b. cond b (Some r) (row_of key (key new) (put key new rs))) lacks.0 ∙ row_of-put_own new rs lacks.1
        | false ↦ ap (λ b. cond b (Some new) (row_of key (key new) (r ∷ rs))) (same_key key new)
      ]

  -- those that were there stay
  pub kept-put : (new : R) (rs : List R) → LacksKey key (key new) rs → (k : List ℕ) (r : R) → row_of key k rs ≡ Some r → row_of key k (put key new rs) ≡ Some r
  kept-put new rs lacks k r is = row_of-put key new k rs (key_apart (key new) k apart) ∙ is
    where
      none : Some r ≡ None → ⊥
      none e = cc

      apart : key new ≢ k
      apart e = none (sym is ∙ ap (λ (x : List ℕ). row_of key x rs) (sym e) ∙ row_of-lacking key (key new) rs lacks)

on_ok : {T E A B : Type 0} (r : Result T E) → (A → B) → OnOk r A → OnOk r B
on_ok (Ok x) more h = more h
on_ok (Err why) more h = tt

-- ---- one file

module _ {F : Type 0} (name : F → List ℕ) (size : F → ℕ) (bytes : F → Option (List ℕ)) where
  -- a handle tells the bytes of its name in the same folder later
  told_later : (old new : Option Folder) (file : F) → Changes Same old new → IfSome old (λ folder. TellsBytes name size bytes folder file)
      → IfSome new (λ folder. TellsBytes name size bytes folder file)
  told_later (Some old) (Some new) file same h = record { content = h.content; there = same (name file) ∙ h.there; size_is = h.size_is; told = h.told }
  told_later old None file same h = tt
  told_later None (Some new) file same h = absurd same

  tell_later : (old new : Option Folder) (held : List (HeldFile F)) → Changes Same old new → TellTheirs name size bytes old held → TellTheirs name size bytes new held
  tell_later (Some old) (Some new) held same h =
      all_like (λ (x : HeldFile F). TellsBytes name size bytes old x.file) (λ (x : HeldFile F). TellsBytes name size bytes new x.file)
      (λ (x : HeldFile F) t. told_later (Some old) (Some new) x.file same t) held h
  tell_later old None held same h = tt
  tell_later None (Some new) held same h = absurd same

  -- what a handle tells is there
  there_told : (told : Option Folder) (file : F) (f : NamedFile) → name file ≡ f.name → size file ≡ f.size → IfSome told (λ folder. TellsBytes name size bytes folder file) → IsThere told f
  there_told None file f named sized h = tt
  there_told (Some folder) file f named sized h =
      let at : folder f.name ≡ Some h.content = ap folder (sym named) ∙ h.there in
      subst (λ (o : Option (List ℕ)). IsSomeAnd o (λ bytes. length bytes ≡ f.size)) (sym at) (h.size_is ∙ sized)

  told_put : (told : Option Folder) (new : HeldFile F) (held : List (HeldFile F)) → IfSome told (λ folder. TellsBytes name size bytes folder new.file) → TellTheirs name size bytes told held
      → TellTheirs name size bytes told (put (name_by name) new held)
  told_put None new held one all = tt
  told_put (Some folder) new held one all = all-put (name_by name) (λ (x : HeldFile F). TellsBytes name size bytes folder x.file) new held one all

  -- a file that is found is held
  found_held : (old new : Option Folder) (held now : List (HeldFile F)) (file : F) (f : NamedFile) → Changes Same old new → name file ≡ f.name → size file ≡ f.size
      → IfSome old (λ folder. TellsBytes name size bytes folder file) → LacksKey (name_by name) (name file) held → TellTheirs name size bytes old held
      → now ≡ put (name_by name) (record { file = file }) held → HoldsThese name size bytes (f ∷ []) old held new now
  found_held old new held now file f same named sized tells lacks told is =
      let one : HeldFile F = record { file = file } in
      let all = put (name_by name) one held in
      let own : row_of (name_by name) f.name all ≡ Some one = ap (λ (k : List ℕ). row_of (name_by name) k all) (sym named) ∙ row_of-put_own (name_by name) one held lacks in
      subst (λ (xs : List (HeldFile F)). HoldsThese name size bytes (f ∷ []) old held new xs) (sym is)
      (record {
        held = (subst (λ (o : Option (HeldFile F)). IsSomeAnd o (λ (h : HeldFile F). size h.file ≡ f.size)) (sym own) sized, tt);
        kept = kept-put (name_by name) one held lacks;
        there = (there_told old file f named sized tells, tt);
        told = tell_later old new all same (told_put old one held tells told);
      })

  pub holds_found : {T E : Type 0} (r : Result T E) (old new : Option Folder) (held now : List (HeldFile F)) (file : F) (f : NamedFile) → Changes Same old new → name file ≡ f.name
      → size file ≡ f.size → IfSome old (λ folder. TellsBytes name size bytes folder file) → LacksKey (name_by name) (name file) held → TellTheirs name size bytes old held
      → OnOk r (now ≡ put (name_by name) (record { file = file }) held) → OnOk r (HoldsThese name size bytes (f ∷ []) old held new now)
  holds_found r old new held now file f same named sized tells lacks told is = on_ok r (found_held old new held now file f same named sized tells lacks told) is

  -- ---- a file that is held already

  told_at : (told : Option Folder) (held : List (HeldFile F)) (path : List ℕ) (h : HeldFile F) → row_of (name_by name) path held ≡ Some h → TellTheirs name size bytes told held
      → IfSome told (λ folder. TellsBytes name size bytes folder h.file)
  told_at None held path h is all = tt
  told_at (Some folder) held path h is all = found-has (λ (x : HeldFile F). TellsBytes name size bytes folder x.file) (has_key (name_by name) path) held h is all

  -- the held file of a name that was asked for
  found : (o : Option (HeldFile F)) (file : F) → Some file ≡ option_map (λ (h : HeldFile F). h.file) o → (h : HeldFile F) × (o ≡ Some h) × (h.file ≡ file)
  found None file e = absurd cc
  found (Some h) file e = (h, refl, one e)
    where
      one : Some file ≡ Some h.file → h.file ≡ file
      one e = cc

  held_held : (told : Option Folder) (held : List (HeldFile F)) (file : F) (f : NamedFile) → Some file ≡ option_map (λ (h : HeldFile F). h.file) (row_of (name_by name) f.name held)
      → size file ≡ f.size → TellTheirs name size bytes told held → HoldsThese name size bytes (f ∷ []) told held told held
  held_held told held file f is sized all =
      let h = found (row_of (name_by name) f.name held) file is in
      let size_is : size h.0.file ≡ f.size = ap size h.2 ∙ sized in
      record {
        held = (subst (λ (o : Option (HeldFile F)). IsSomeAnd o (λ (x : HeldFile F). size x.file ≡ f.size)) (sym h.1) size_is, tt);
        kept = λ path x e. e;
        there = (there_told told h.0.file f (key-row_of (name_by name) f.name held h.0 h.1) size_is (told_at told held f.name h.0 h.1 all), tt);
        told = all;
      }

  pub holds_held : {T E : Type 0} (r : Result T E) (told : Option Folder) (held : List (HeldFile F)) (file : F) (got : ℕ) (f : NamedFile)
      → Some file ≡ option_map (λ (h : HeldFile F). h.file) (row_of (name_by name) f.name held) → got ≡ size file → TellTheirs name size bytes told held
      → OnOk r (got ≡ f.size) → OnOk r (HoldsThese name size bytes (f ∷ []) told held told held)
  holds_held r told held file got f is size_is all sized = on_ok r (λ e. held_held told held file f is (sym size_is ∙ e) all) sized

  -- it lies in the folder with its size
  lies_held : (told : Option Folder) (held : List (HeldFile F)) (file : F) (path : List ℕ) → Some file ≡ option_map (λ (h : HeldFile F). h.file) (row_of (name_by name) path held)
      → TellTheirs name size bytes told held → IfSome told (λ folder. IsSomeAnd (folder path) (λ b. length b ≡ size file))
  lies_held told held file path is all =
      let h = found (row_of (name_by name) path held) file is in
      there_told told h.0.file (record { name = path; size = size file }) (key-row_of (name_by name) path held h.0 h.1) (ap size h.2) (told_at told held path h.0 h.1 all)

  -- so it has another size than its row says, where that is told
  pub why_held : {T : Type 0} (r : Result T OpenNo) (before now : ℕ) (told : Option Folder) (held : List (HeldFile F)) (file : F) (got : ℕ) (f : NamedFile)
      → Some file ≡ option_map (λ (h : HeldFile F). h.file) (row_of (name_by name) f.name held) → got ≡ size file → TellTheirs name size bytes told held
      → OnErr r (got ≢ f.size) → IfErr r (TellsSize f.name f.size got) → IfErr r (WhyNoFiles before now told (f ∷ []))
  why_held (Ok x) before now told held file got f is size_is all others tells = tt
  why_held (Err why) before now told held file got f is size_is all others (inr e) = subst (WhyNoFiles before now told (f ∷ [])) (sym e) tt
  why_held (Err why) before now told held file got f is size_is all others (inl e) =
      subst (WhyNoFiles before now told (f ∷ [])) (sym e)
      (inl (record {
        name_is = refl;
        size_is = refl;
        others = others;
        there = subst (λ n. IfSome told (λ folder. IsSomeAnd (folder f.name) (λ b. length b ≡ n))) (sym size_is) (lies_held told held file f.name is all);
      }))

  pub lacks_held : (held : List (HeldFile F)) (path : List ℕ) → None ≡ option_map (λ (h : HeldFile F). h.file) (row_of (name_by name) path held) → LacksKey (name_by name) path held
  lacks_held held path e = go (row_of (name_by name) path held) refl e
    where
      go : (o : Option (HeldFile F)) → row_of (name_by name) path held ≡ o → None ≡ option_map (λ (h : HeldFile F). h.file) o → LacksKey (name_by name) path held
      go None is e = LacksKey-none (name_by name) path held is
      go (Some h) is e = absurd cc

  -- ---- several files

  still : (was is : Option (HeldFile F)) (P : HeldFile F → Type 0) → ((h : HeldFile F) → was ≡ Some h → is ≡ Some h) → IsSomeAnd was P → IsSomeAnd is P
  still None is P more h = absurd h
  still (Some x) is P more h = subst (λ (o : Option (HeldFile F)). IsSomeAnd o P) (sym (more x refl)) h

  pub holds_more : (xs ys : List NamedFile) (f g h : Option Folder) (us vs ws : List (HeldFile F)) → Changes Same f g → HoldsThese name size bytes xs f us g vs → HoldsThese name size bytes ys g vs h ws
      → HoldsThese name size bytes (xs ++ ys) f us h ws
  holds_more xs ys f g h us vs ws same one two = record {
    held = all-joined (IsHeldAs name size ws) xs ys
        (all_like (IsHeldAs name size vs) (IsHeldAs name size ws) (λ x t. still (row_of (name_by name) x.name vs) (row_of (name_by name) x.name ws) (λ (q : HeldFile F). size q.file ≡ x.size) (two.kept x.name) t) xs one.held)
        two.held;
    kept = λ path q e. two.kept path q (one.kept path q e);
    there = all-joined (IsThere f) xs ys one.there (all_like (IsThere g) (IsThere f) (there_before f g same) ys two.there);
    told = two.told;
  }

-- ---- a row after those before it

module _ {F R : Type 0} (name : F → List ℕ) (size : F → ℕ) (bytes : F → Option (List ℕ)) (named : R → NamedFile) (rows : List R) where
  -- the rows so far, with the one of this place
  so_far : (at : ℕ) (d : R) (f : NamedFile) → at < length rows → f ≡ named (get_or rows at d) → map named (take (at + 1) rows) ≡ map named (take at rows) ++ f ∷ []
  so_far at d f lt is =
      ap (map named) (take_more rows at d lt) ∙ map-append named (take at rows) (get_or rows at d ∷ []) ∙ ap (λ (x : NamedFile). map named (take at rows) ++ x ∷ []) (sym is)

  pub next_row : (at : ℕ) (d : R) (f : NamedFile) (e g h : Option Folder) (us vs ws : List (HeldFile F)) → at < length rows → f ≡ named (get_or rows at d) → Changes Same e g
      → HoldsThese name size bytes (map named (take at rows)) e us g vs → HoldsThese name size bytes (f ∷ []) g vs h ws
      → HoldsThese name size bytes (map named (take (at + 1) rows)) e us h ws
  next_row at d f e g h us vs ws lt is same one two =
      subst (λ xs. HoldsThese name size bytes xs e us h ws) (sym (so_far at d f lt is)) (holds_more name size bytes (map named (take at rows)) (f ∷ []) e g h us vs ws same one two)

  pub all_rows : (at : ℕ) (e g : Option Folder) (us vs : List (HeldFile F)) → length rows ≤ at → HoldsThese name size bytes (map named (take at rows)) e us g vs
      → HoldsThese name size bytes (map named rows) e us g vs
  all_rows at e g us vs all one = subst (λ xs. HoldsThese name size bytes (map named xs) e us g vs) (take_all at rows all) one

  -- why it isn't held is why all aren't
  pub why_row : (at : ℕ) (d : R) (f : NamedFile) (a b now : ℕ) (e g : Option Folder) (us vs : List (HeldFile F)) (why : OpenNo) → at < length rows → f ≡ named (get_or rows at d)
      → a ≤ b → Changes Same e g → HoldsThese name size bytes (map named (take at rows)) e us g vs → WhyNoFiles b now g (f ∷ []) why → WhyNoFiles a now e (map named rows) why
  why_row at d f a b now e g us vs why lt is later same one h =
      let some : WhyNoFiles a now e (map named (take (at + 1) rows)) why =
      subst (λ xs. WhyNoFiles a now e xs why) (sym (so_far at d f lt is)) (why_behind a b now e g (map named (take at rows)) (f ∷ []) later same one.there why h) in
      let whole : map named rows ≡ map named (take (at + 1) rows) ++ map named (drop (at + 1) rows) =
      ap (map named) (sym (take-append-drop (at + 1) rows)) ∙ map-append named (take (at + 1) rows) (drop (at + 1) rows) in
      subst (λ xs. WhyNoFiles a now e xs why) (sym whole) (why_among a now e (map named (take (at + 1) rows)) (map named (drop (at + 1) rows)) why some)

-- ---- data files, and then delete files

module _ {F : Type 0} (name : F → List ℕ) (size : F → ℕ) (bytes : F → Option (List ℕ)) (t : Tables) (ds : List DataFileRow) (ds_are : ds ≡ t.data_file) where
  -- why a data file isn't held
  pub why_data : (before now : ℕ) (told : Option Folder) (why : OpenNo) → WhyNoFiles before now told (map named_data ds) why → WhyNoFiles before now told (named_files t) why
  why_data before now told why h =
      why_among before now told (map named_data t.data_file) (map named_delete t.delete_file) why
      (subst (λ (rows : List DataFileRow). WhyNoFiles before now told (map named_data rows) why) ds_are h)

  module _ (es : List DeleteFileRow) (es_are : es ≡ t.delete_file) (f g : Option Folder) (same : Changes Same f g) (us vs : List (HeldFile F))
      (one : HoldsThese name size bytes (map named_data ds) f us g vs) where
    first_part : HoldsThese name size bytes (map named_data t.data_file) f us g vs
    first_part = subst (λ (rows : List DataFileRow). HoldsThese name size bytes (map named_data rows) f us g vs) ds_are one

    pub holds_all : (h : Option Folder) (ws : List (HeldFile F)) → HoldsThese name size bytes (map named_delete es) g vs h ws → HoldsThese name size bytes (named_files t) f us h ws
    holds_all h ws two =
        holds_more name size bytes (map named_data t.data_file) (map named_delete t.delete_file) f g h us vs ws same first_part
        (subst (λ (rows : List DeleteFileRow). HoldsThese name size bytes (map named_delete rows) g vs h ws) es_are two)

    -- why a delete file isn't held
    pub why_delete : (a b now : ℕ) (why : OpenNo) → a ≤ b → WhyNoFiles b now g (map named_delete es) why → WhyNoFiles a now f (named_files t) why
    why_delete a b now why later h =
        why_behind a b now f g (map named_data t.data_file) (map named_delete t.delete_file) later same first_part.there why
        (subst (λ (rows : List DeleteFileRow). WhyNoFiles b now g (map named_delete rows) why) es_are h)
