-- What a commit starts from is met by one on the new lake.
use Rattle.std.proofs.Common.{◌≡◌, inl, inr, true, ℤ, List, [], ◌∷◌, ◌++◌, None, refl, sym, ap, ◌∙◌, subst, arith}
use Rattle.std.specs.Prelude.{codes}
use Rattle.lake_types.specs.declared.stmt.Stmt.TheVariants as stmt
use Rattle.lake_types.specs.declared.value.ColType.TheVariants as type
use Rattle.lake_model.specs.Fits.{Fits}
use Rattle.lake_model.specs.Laws.{HasCatalogIds}
use Rattle.lake_model.specs.Core.{Version, first_version}
use Rattle.lake_model.specs.State.{State, empty_state}
use Rattle.lake_model.specs.declared.answer.Answer.TheVariants as answer
use Rattle.lake_rebase.specs.Tidy.{IsTidy}
use Rattle.lake_types.specs.declared.kind.SchemaName.{SchemaName}
use Rattle.lake_rebase.proofs.MemberLemmas.{In, in_of}
use Rattle.lake_rebase.proofs.TellLemmas.{tells-at-once}
use Rattle.cat_stands.proofs.NewLemmas.{new_lake-stands}
use Rattle.cat_rows.specs.declared.history.SnapshotRow.{SnapshotRow}
use Rattle.lake_rebase.specs.Laws.{IsFree}
use Rattle.cat_stands.specs.New.{new_tables}
use Rattle.cat_stands.specs.Stands.{IsSound}
use Rattle.cat_view.specs.Files.{Files}
use Rattle.cat_view.specs.Staged.{IsStaged}
use Rattle.commit_laws.specs.Commits.{HasRoom}
use Rattle.commit_laws.specs.Example.{OneCommitFits, no_version, two_creations}

ids : HasCatalogIds empty_state
ids = record { schemas = (omega arith, tt, tt); tables = tt; apart = (tt, tt) }

tidy : IsTidy empty_state
tidy = record {
  schema_names = λ x y h k same. same_id x y (in_of x empty_state.schemas h) (in_of y empty_state.schemas k);
  homes = λ t there. absurd (in_of t empty_state.tables there);
  table_names = λ t u h k a b. absurd (in_of t empty_state.tables h);
  columns = tt;
}
  where
    same_id : (x y : SchemaName) → In x empty_state.schemas → In y empty_state.schemas → x.id ≡ y.id
    same_id x y (inl e) (inl f) = ap (λ (s : SchemaName). s.id) (sym e ∙ f)
    same_id x y (inr h) k = absurd h
    same_id x y h (inr k) = absurd k

fits : Fits empty_state two_creations
fits = (
  record { stmt = stmt.CreateSchema (codes "s"); answer = answer.Done; plan_is = refl },
  omega arith,
  (
    record { stmt = stmt.CreateTable (record { schema = codes "s"; table = codes "t" }) (record { name = codes "a"; ty = type.Int64; nulls = true; default_value = None } ∷ []); answer = answer.Done; plan_is = refl },
    (omega arith, (λ e. cc), ((omega arith, tt, tt), tt)),
    tt,
  ),
)

-- the last of one thing
one_last : {X : Type 0} (x y : X) (ys : List X) → x ∷ [] ≡ ys ++ y ∷ [] → y ≡ x
one_last x y [] e = let same : x ≡ y = cc in sym same
one_last x y (z ∷ []) e = absurd cc
one_last x y (z ∷ w ∷ ys) e = absurd cc

module _ (files : Files) (time : ℤ) where
  sound : IsSound (new_tables time) files 0 (first_version ∷ [])
  sound = new_lake-stands files time

  head_is : sound.head.state ≡ empty_state
  head_is = ap (λ (v : Version). v.state) (one_last first_version sound.head sound.older sound.versions_are)

  abbrev first : SnapshotRow
  first = record { snapshot_id = 0; snapshot_time = time; next_catalog_id = 1; next_file_id = 0 }

  newest_is : first ≡ sound.newest
  newest_is = sym (one_last first sound.newest sound.before sound.snapshots)

  free : IsFree [] empty_state empty_state two_creations
  free = record { grows = (tt, (tt, tt)); fits_base = fits; small = omega arith; base_ids = ids; head_ids = ids; base_tidy = tidy; head_tidy = tidy; tells = tells-at-once empty_state; apart = tt }

  room : HasRoom (new_tables time) first two_creations []
  room = record { catalog = omega arith; file = omega arith; rows = tt }

  stage : IsStaged files no_version empty_state two_creations []
  stage = record {
    fits = fits;
    known = tt;
    once = refl;
    tables = (
      record {
        few = omega arith;
        fresh_within = omega arith;
        in_file = [];
        fresh = refl;
        fresh_are = refl;
        moved = [];
        updated = refl;
        images_are = refl;
        from = record { deletes = refl; ended_rows = refl; merged = refl; ended_files = refl };
      },
      tt,
    );
  }

pub one_commit-fits : OneCommitFits
one_commit-fits files time = record {
  sound = sound files time;
  rising = record { schema = (tt, tt); table = tt; column = tt; data_file = tt; delete_file = tt; inlined_row = tt };
  free = subst (λ (s : State). IsFree [] empty_state s two_creations) (sym (head_is files time)) (free files time);
  stage = stage files time;
  typed = tt;
  bytes = ((record { initial = tt; default_value = tt }, tt), tt);
  differ = tt;
  unused = tt;
  room = subst (λ (r : SnapshotRow). HasRoom (new_tables time) r two_creations []) (newest_is files time) (room files time);
}
