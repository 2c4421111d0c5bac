-- A list that only creates, drops and inserts names no old row and flushes nothing.
use Rattle.std.proofs.Common.{◌≡◌, ◌==◌, ◌||◌, ◌++◌, Bool, false, List, [], ◌∷◌, filter, map, Option, Some, None, refl, sym, ap, ap₂, arith}
use Rattle.std.specs.List.{AllByRecursion, filter_map, flat_map, list_any}
use Rattle.std.proofs.lemmas.List.{append-nil}
use Rattle.lake_types.specs.declared.value.Row.{Row}
use Rattle.lake_model.specs.Apply.{Draft, left}
use Rattle.lake_model.specs.Growth.{IsGrowth}
use Rattle.lake_model.specs.declared.change.Change.{Change}
use Rattle.lake_model.specs.declared.change.Change.TheVariants as change
use Rattle.lake_model.specs.declared.change.Ref.{Ref}
use Rattle.lake_model.specs.declared.change.Ref.TheVariants as ref
use Rattle.lake_model.specs.declared.change.RowRef.{RowRef}
use Rattle.cat_view.specs.Files.{Files}
use Rattle.cat_view.specs.Named.{NamedFile, NamedTable, live_rows, ordered}
use Rattle.cat_view.specs.Staged.{IsStagedFrom, NamedStagedFile, base_table, ends_inlined, file_with_row, firsts, flushes, images, nothing_for, old_id, rows_named, rows_updated, updates_row}
use Rattle.row_files.specs.Laws.{StagesGrowth}

pub record IsQuiet (at : Ref) (c : Change) : Type 0 where
  pub named : rows_named at c ≡ []
  pub updated : rows_updated at c ≡ []
  pub flushed : flushes at c ≡ false

quiet : (at : Ref) (c : Change) → IsGrowth c → IsQuiet at c
quiet at (change.CreateSchema name) g = record { named = refl; updated = refl; flushed = refl }
quiet at (change.DropSchema schema) g = record { named = refl; updated = refl; flushed = refl }
quiet at (change.CreateTable schema name columns) g = record { named = refl; updated = refl; flushed = refl }
quiet at (change.DropTable table) g = record { named = refl; updated = refl; flushed = refl }
quiet at (change.Insert table rows) g = record { named = refl; updated = refl; flushed = refl }
quiet at (change.AddColumn table column) g = absurd g
quiet at (change.DropColumn table field) g = absurd g
quiet at (change.RenameColumn table field name) g = absurd g
quiet at (change.PromoteColumn table field ty) g = absurd g
quiet at (change.SetDefault table field v) g = absurd g
quiet at (change.Delete table rows) g = absurd g
quiet at (change.Update table rows set) g = absurd g
quiet at (change.Compact table) g = absurd g
quiet at (change.Flush table) g = absurd g

none_in : (f : Change → List RowRef) → ((c : Change) → IsGrowth c → f c ≡ []) → (own : List Change) → AllByRecursion IsGrowth own → flat_map f own ≡ []
none_in f none [] all = refl
none_in f none (c ∷ own) all = ap₂ (λ a b. a ++ b) (none c all.0) (none_in f none own all.1)

no_flush : (at : Ref) (own : List Change) → AllByRecursion IsGrowth own → list_any (flushes at) own ≡ false
no_flush at [] all = refl
no_flush at (c ∷ own) all = ap₂ (λ a b. a || b) (quiet at c all.0).flushed (no_flush at own all.1)

none_of : {X : Type 0} (f : X → Bool) → ((x : X) → f x ≡ false) → (xs : List X) → filter f xs ≡ []
none_of f none [] = refl
none_of f none (x ∷ xs) = rw (none x) (none_of f none xs)

module _ (files : Files) (own : List Change) (d : Draft) (all : AllByRecursion IsGrowth own) where
  names_none : (at : Ref) → flat_map (rows_named at) own ≡ []
  names_none at = none_in (rows_named at) (λ c g. (quiet at c g).named) own all

  no_images : images own d ≡ []
  no_images =
      none_of (λ (r : Row). updates_row own d.at r.id)
      (λ r. ap (λ rows. list_any (λ n. n == r.id) (filter_map old_id rows)) (none_in (rows_updated d.at) (λ c g. (quiet d.at c g).updated) own all)) d.rows

  ends_none : (rows : List Row) → filter (ends_inlined own d.at) rows ≡ []
  ends_none rows =
      none_of (ends_inlined own d.at)
      (λ r. ap₂ (λ a b. a || b) (ap (λ named. list_any (λ n. n == r.id) (filter_map old_id named)) (names_none d.at)) (no_flush d.at own all)) rows

  from_base : (file : Option NamedStagedFile) (x : Option NamedTable) → IsStagedFrom files own x d (record (nothing_for d.at) { fresh = file })
  from_base file None = record { deletes = refl; ended_rows = refl; merged = refl; ended_files = refl }
  from_base file (Some x) = record {
    deletes = tt;
    order = sym (ap (λ named. firsts (filter_map (file_with_row files x) (filter_map old_id named))) (names_none (ref.Old x.id)));
    ended_rows = sym (ap (λ rows. map (λ (r : Row). r.id) rows) (ends_none x.inlined));
    merged = record {
      each_once = refl;
      there = tt;
      rows = [];
      merged = refl;
      live = sym (ap₂ (λ fs rows. ordered (λ (r : Row). r.id) (flat_map (live_rows files x.columns) fs ++ rows))
          (none_of (λ (f : NamedFile). list_any (λ n. n == f.id) []) (λ f. refl) x.files)
          (none_of (λ (r : Row). list_any (flushes (ref.Old x.id)) own) (λ r. no_flush (ref.Old x.id) own all) x.inlined));
      none_else = λ _none. (refl, refl);
    };
  }

pub stages_growth : StagesGrowth
stages_growth files own base d file all held = record {
  few = omega arith;
  fresh_within = omega arith;
  in_file = left d.fresh;
  fresh = held;
  fresh_are = append-nil (left d.fresh);
  moved = [];
  updated = refl;
  images_are = sym (no_images files own d all);
  from = from_base files own d all file (base_table base d.at);
}
