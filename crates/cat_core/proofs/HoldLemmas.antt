-- Files that are held besides others.
use Rattle.std.proofs.Common.{◌≡◌, ◌≢◌, ◌⊎◌, ℕ, true, false, cond, List, [], ◌∷◌, ◌++◌, map, Contains, Option, Some, None, IsSome, is_some, Bool, option_map, is_lt, refl, sym, ap, ◌∙◌, subst, inl, inr, arith}
use Rattle.std.specs.List.{AllByRecursion, cons_option}
use Rattle.cat_view.specs.Staged.{NamedStagedFile}
use Rattle.cat_view.specs.StagedNames.{named_staged_file}
use Rattle.cat_view.specs.declared.staged.StagedFile.{StagedFile}
use Rattle.cat_view.specs.declared.staged.StagedTable.{StagedTable}
use Rattle.lake_model.specs.declared.change.Ref.{Ref}
use Rattle.rebase.specs.Parts.{FreshFile}
use Rattle.std.proofs.lemmas.List.Elements.{Contains-append_left, Contains-append_right, Contains-push, All-contains, All-cons, All-nil}
use Rattle.std.proofs.lemmas.Option.{same_Some}
use Rattle.lake_model.specs.History.{CarriedFile}
use Rattle.lake_model.proofs.TableLemmas.{all-joined}
use Rattle.cat_tables.specs.Table.{LacksKey, has_key, key_cmp, put, row_of}
use Rattle.cat_tables.proofs.KeyLemmas.{key_apart, key_eq}
use Rattle.cat_tables.proofs.RowLemmas.{LacksKey-none, row_of-put}
use Rattle.cat_tables.proofs.SightLemmas.{same_key}
use Rattle.cat_view.specs.Held.{held_in, name_by}
use Rattle.cat_view.specs.declared.held.HeldFile.{HeldFile}
use Rattle.cat_view.specs.declared.held.HeldFiles.{HeldFiles}
use Rattle.door.specs.Opened.{carried_file}
use Rattle.cat_core.specs.Commits.{HoldsMore}
use Rattle.cat_core.specs.Holding.{AreUnheldFiles, HaveOtherNames, IsUnheldIn, Rests, file_of, files_of, fresh_of}
use Rattle.cat_core.specs.Shown.{held_at}

-- ---- one file

module _ {R : Type 0} (key : R → List ℕ) where
  -- the row of a new key, once it is put
  put-found : (new : R) (k : List ℕ) (rs : List R) → has_key key k new ≡ true → LacksKey key k rs → row_of key k (put key new rs) ≡ Some new
  put-found new k [] has lacks = rw has refl
  put-found new k (r ∷ rs) has lacks =
      elim (is_lt (key_cmp (key r) (key new))) as (λ b. row_of key k (cond b (r ∷ put key new rs) (new ∷ r ∷ rs)) ≡ Some new)
      [ true ↦ ap (λ b. cond b (Some r) (row_of key k (put key new rs))) lacks.0 ∙ put-found new k rs has lacks.1 | false ↦ ap (λ b. cond b (Some new) (row_of key k (r ∷ rs))) has ]

Contains-none : {X : Type 0} (x : X) → Contains [] x → ⊥
Contains-none x h = omega (arith, h.1)

none-mapped : {A B : Type 0} (f : A → B) (o : Option A) → option_map f o ≡ None → o ≡ None
none-mapped f None e = refl
none-mapped f (Some x) e = absurd (cc e)

module _ {F : Type 0} (name : F → List ℕ) (size : F → ℕ) (bytes : F → Option (List ℕ)) where
  pub is_unheld : (h : HeldFiles F) (file : F) → held_at name size bytes h (name file) ≡ None → LacksKey (name_by name) (name file) (held_in h).rows
  is_unheld h file e = LacksKey-none (name_by name) (name file) (held_in h).rows (none-mapped _ (row_of (name_by name) (name file) (held_in h).rows) e)

  pub one_more : (old new : HeldFiles F) (file : F) → held_at name size bytes old (name file) ≡ None → (held_in new).rows ≡ put (name_by name) (record { file = file }) (held_in old).rows
      → HoldsMore (carried_file name size bytes file ∷ []) (held_at name size bytes old) (held_at name size bytes new)
  one_more old new file lacks is = record { still = still; new = (here, tt); only = only }
    where
      added : HeldFile F
      added = record { file = file }

      told : HeldFile F → CarriedFile
      told f = carried_file name size bytes f.file

      at : (path : List ℕ) → held_at name size bytes new path ≡ option_map told (row_of (name_by name) path (put (name_by name) added (held_in old).rows))
      at path = ap (λ rows. option_map told (row_of (name_by name) path rows)) is

      other : (path : List ℕ) → name file ≢ path → held_at name size bytes new path ≡ held_at name size bytes old path
      other path apart = at path ∙ ap (option_map told) (row_of-put (name_by name) added path (held_in old).rows (key_apart (name file) path apart))

      here : held_at name size bytes new (name file) ≡ Some (told added)
      here = at (name file) ∙ ap (option_map told) (put-found (name_by name) added (name file) (held_in old).rows (same_key (name_by name) added) (is_unheld old file lacks))

      still : (path : List ℕ) → IsSome (held_at name size bytes old path) → held_at name size bytes new path ≡ held_at name size bytes old path
      still path some = other path (λ e. none-some (subst (λ p. IsSome (held_at name size bytes old p)) (sym e) some))
        where
          none-some : IsSome (held_at name size bytes old (name file)) → ⊥
          none-some s = cc (s, ap is_some lacks)

      only : (path : List ℕ) (f : CarriedFile) → held_at name size bytes new path ≡ Some f → (held_at name size bytes old path ≡ Some f) ⊎ (Contains (told added ∷ []) f × (f.name ≡ path))
      only path f found = go (has_key (name_by name) path added) refl
        where
          go : (b : Bool) → has_key (name_by name) path added ≡ b → (held_at name size bytes old path ≡ Some f) ⊎ (Contains (told added ∷ []) f × (f.name ≡ path))
          go true e =
              let same : name file ≡ path = key_eq (name file) path e in
              let is_it : told added ≡ f = same_Some (told added) f (sym here ∙ ap (held_at name size bytes new) same ∙ found) in
              inr (subst (Contains (told added ∷ [])) is_it (Contains-push [] (told added)), ap (λ (x : CarriedFile). x.name) (sym is_it) ∙ same)
          go false e = inl (sym (at path ∙ ap (option_map told) (row_of-put (name_by name) added path (held_in old).rows e)) ∙ found)

-- ---- several

pub none_more : (held : List ℕ → Option CarriedFile) → HoldsMore [] held held
none_more held = record { still = λ name some. refl; new = tt; only = λ name f e. inl e }

pub then_more : (xs ys : List CarriedFile) (a b c : List ℕ → Option CarriedFile) → HoldsMore xs a b → HoldsMore ys b c → HoldsMore (xs ++ ys) a c
then_more xs ys a b c h k = record {
  still = λ name some. k.still name (subst IsSome (sym (h.still name some)) some) ∙ h.still name some;
  new = all-joined (λ (f : CarriedFile). c f.name ≡ Some f) xs ys (all-still xs h.new) k.new;
  only = λ name f e. from-second name f (k.only name f e);
}
  where
    all-still : (fs : List CarriedFile) → AllByRecursion (λ (f : CarriedFile). b f.name ≡ Some f) fs → AllByRecursion (λ (f : CarriedFile). c f.name ≡ Some f) fs
    all-still [] all = tt
    all-still (f ∷ fs) all = (k.still f.name (subst IsSome (sym all.0) refl) ∙ all.0, all-still fs all.1)

    from-first : (name : List ℕ) (f : CarriedFile) → (a name ≡ Some f) ⊎ (Contains xs f × (f.name ≡ name)) → (a name ≡ Some f) ⊎ (Contains (xs ++ ys) f × (f.name ≡ name))
    from-first name f (inl e) = inl e
    from-first name f (inr at) = inr (Contains-append_left xs ys f at.0, at.1)

    from-second : (name : List ℕ) (f : CarriedFile) → (b name ≡ Some f) ⊎ (Contains ys f × (f.name ≡ name)) → (a name ≡ Some f) ⊎ (Contains (xs ++ ys) f × (f.name ≡ name))
    from-second name f (inl e) = from-first name f (h.only name f e)
    from-second name f (inr at) = inr (Contains-append_right xs ys f at.0, at.1)

-- ---- tables, some of which have a file

module _ {F : Type 0} (name : F → List ℕ) (size : F → ℕ) (bytes : F → Option (List ℕ)) where
  -- ones that have other names are still not held
  still-unheld : (f : CarriedFile) (before now : List ℕ → Option CarriedFile) → HoldsMore (f ∷ []) before now → (xs : List FreshFile)
      → AllByRecursion (λ path. f.name ≢ path) (map (λ (x : FreshFile). x.file.name) xs) → AreUnheldFiles before xs → AreUnheldFiles now xs
  still-unheld f before now h [] apart all = tt
  still-unheld f before now h (x ∷ xs) apart all = (go (now x.file.name) refl, still-unheld f before now h xs apart.1 all.1)
    where
      either : (found : CarriedFile) → (before x.file.name ≡ Some found) ⊎ (Contains (f ∷ []) found × (found.name ≡ x.file.name)) → ⊥
      either found (inl e) = cc (e, all.0)
      either found (inr at) = apart.0 (ap (λ (y : CarriedFile). y.name) (All-contains (λ y. f ≡ y) (f ∷ []) found (All-cons (λ y. f ≡ y) f [] refl (All-nil (λ y. f ≡ y))) at.0) ∙ at.1)

      go : (o : Option CarriedFile) → now x.file.name ≡ o → now x.file.name ≡ None
      go None e = e
      go (Some found) e = absurd (either found (h.only x.file.name found e))

  one-first : (held : List ℕ → Option CarriedFile) (o : Option (StagedFile F)) (at : Ref) (xs : List FreshFile)
      → AreUnheldFiles held (cons_option (option_map (λ (f : NamedStagedFile). record { table = at; file = f }) (option_map (named_staged_file name size) o)) xs) → IsUnheldIn name held o
  one-first held None at xs h = tt
  one-first held (Some f) at xs h = h.0

  pub first_unheld : (held : List ℕ → Option CarriedFile) (s : StagedTable F) (rest : List (StagedTable F)) → Rests name size held (s ∷ rest) → IsUnheldIn name held s.fresh
  first_unheld held s rest h = one-first held s.fresh s.table (fresh_of name size rest) h.unheld

  rest-of : (held now : List ℕ → Option CarriedFile) (o : Option (StagedFile F)) (at : Ref) (xs : List FreshFile) → HoldsMore (cons_option (option_map (λ (f : StagedFile F). carried_file name size bytes f.file) o) []) held now
      → HaveOtherNames (cons_option (option_map (λ (f : NamedStagedFile). record { table = at; file = f }) (option_map (named_staged_file name size) o)) xs)
      → AreUnheldFiles held (cons_option (option_map (λ (f : NamedStagedFile). record { table = at; file = f }) (option_map (named_staged_file name size) o)) xs)
      → HaveOtherNames xs × AreUnheldFiles now xs
  rest-of held now None at xs h differ unheld = (differ, same-unheld xs unheld)
    where
      same-unheld : (ys : List FreshFile) → AreUnheldFiles held ys → AreUnheldFiles now ys
      same-unheld [] all = tt
      same-unheld (y ∷ ys) all = (go (now y.file.name) refl, same-unheld ys all.1)
        where
          either : (found : CarriedFile) → (held y.file.name ≡ Some found) ⊎ (Contains {X = CarriedFile} [] found × (found.name ≡ y.file.name)) → ⊥
          either found (inl e) = cc (e, all.0)
          either found (inr n) = Contains-none found n.0

          go : (x : Option CarriedFile) → now y.file.name ≡ x → now y.file.name ≡ None
          go None e = e
          go (Some found) e = absurd (either found (h.only y.file.name found e))
  rest-of held now (Some f) at xs h differ unheld = (differ.1, still-unheld (carried_file name size bytes f.file) held now h xs differ.0 unheld.1)

  pub rests_on : (held now : List ℕ → Option CarriedFile) (s : StagedTable F) (rest : List (StagedTable F)) → HoldsMore (files_of name size bytes (s ∷ [])) held now → Rests name size held (s ∷ rest) → Rests name size now rest
  rests_on held now s rest h r = let both = rest-of held now s.fresh s.table (fresh_of name size rest) h r.differ r.unheld in record { differ = both.0; unheld = both.1 }

  joined : (o : Option CarriedFile) (fs : List CarriedFile) → cons_option o fs ≡ cons_option o [] ++ fs
  joined None fs = refl
  joined (Some f) fs = refl

  pub holds_on : (held now later : List ℕ → Option CarriedFile) (s : StagedTable F) (rest : List (StagedTable F)) → HoldsMore (files_of name size bytes (s ∷ [])) held now → HoldsMore (files_of name size bytes rest) now later
      → HoldsMore (files_of name size bytes (s ∷ rest)) held later
  holds_on held now later s rest h k = subst (λ fs. HoldsMore fs held later) (sym (joined (file_of name size bytes s) (files_of name size bytes rest))) (then_more (files_of name size bytes (s ∷ [])) (files_of name size bytes rest) held now later h k)
