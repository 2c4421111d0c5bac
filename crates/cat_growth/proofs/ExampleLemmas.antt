-- The example computes, and its files are what the laws ask for.
use Rattle.std.proofs.Common.{◌≡◌, ◌≤◌, ℕ, true, List, [], ◌∷◌, length, Some, None, refl, arith}
use Rattle.std.specs.Prelude.{codes}
use Rattle.std.proofs.lemmas.List.Elements.{All-cons, All-nil}
use Rattle.lake_types.specs.declared.limits.TheConstants.{MAX_PATH_BYTES}
use Rattle.lake_types.specs.declared.stmt.Cell.TheVariants as cell
use Rattle.lake_types.specs.declared.stmt.ColumnDef.{ColumnDef}
use Rattle.lake_types.specs.declared.stmt.Stmt.TheVariants as stmt
use Rattle.lake_types.specs.declared.stmt.TableName.{TableName}
use Rattle.lake_types.specs.declared.value.ColType.TheVariants as type
use Rattle.lake_types.specs.declared.value.Value.TheVariants as value
use Rattle.lake_model.specs.Fits.{Fits}
use Rattle.lake_model.specs.Laws.{RiseBelow}
use Rattle.lake_model.specs.State.{State}
use Rattle.lake_model.specs.declared.answer.Answer.TheVariants as answer
use Rattle.col_stats.specs.Bounds.{Bounds, HasBound, is_short}
use Rattle.col_stats.specs.declared.bounds.Side.{Side}
use Rattle.col_stats.specs.declared.bounds.Side.TheVariants as side
use Rattle.cat_view.specs.Named.{state_of}
use Rattle.cat_view.specs.Staged.{HoldsCells}
use Rattle.cat_growth.specs.Example.{GrowsState, GrowsVersion, IsStagedToGrow, a, after, before, cells, filed, own, sheet, staged, staged_file, version}
use Rattle.cat_growth.specs.Fresh.{AreFilesStaged}

pub grows-version : GrowsVersion
grows-version = refl

pub grows-state : GrowsState
grows-state = refl

-- ---- the list fits the version

abbrev base : State
base = state_of before 3 version

abbrev of_main : List ℕ → TableName
of_main name = record { schema = codes "main"; table = name }

abbrev column : ColumnDef
column = record { name = codes "a"; ty = type.Varchar; nulls = true; default_value = None }

fits : Fits base own
fits = (
  record { stmt = stmt.Insert (of_main (codes "t")) ((cell.Given (value.Text (codes "s")) ∷ []) ∷ []); answer = answer.Number 1; plan_is = refl },
  ((omega arith, tt), tt),
  (
    record { stmt = stmt.CreateTable (of_main (codes "u")) (column ∷ []); answer = answer.Done; plan_is = refl },
    (omega arith, (λ e. absurd (cc e)), ((omega arith, tt, tt), tt)),
    (
      record { stmt = stmt.CreateTable (of_main (codes "v")) (column ∷ []); answer = answer.Done; plan_is = refl },
      (omega arith, (λ e. absurd (cc e)), ((omega arith, tt, tt), tt)),
      (
        record { stmt = stmt.DropTable (of_main (codes "u")); answer = answer.Done; plan_is = refl },
        tt,
        (
          record { stmt = stmt.Insert (of_main (codes "v")) ((cell.Given (value.Text (codes "z")) ∷ []) ∷ []); answer = answer.Number 1; plan_is = refl },
          ((omega arith, tt), tt),
          (
            record { stmt = stmt.CreateSchema (codes "new"); answer = answer.Done; plan_is = refl },
            omega arith,
            (record { stmt = stmt.DropSchema (codes "old"); answer = answer.Done; plan_is = refl }, tt, tt),
          ),
        ),
      ),
    ),
  ),
)

-- ---- the files

bound : (s : Side) (text : List ℕ) → Bounds s (value.Text text) (value.Text text) → is_short (value.Text text) ≡ true → HasBound s (value.Text text ∷ []) (Some (value.Text text))
bound s text self short = (((0, omega arith, refl), All-cons (Bounds s (value.Text text)) (value.Text text) [] self (All-nil (Bounds s (value.Text text)))), short)

-- a file with one row of a short text
holds : (name text : List ℕ) → after name ≡ Some (filed (text ∷ [])) → length name ≤ MAX_PATH_BYTES → length text ≡ 1
    → Bounds side.Least (value.Text text) (value.Text text) → Bounds side.Greatest (value.Text text) (value.Text text) → is_short (value.Text text) ≡ true
    → HoldsCells after (a ∷ []) (staged_file name text) (cells text ∷ [])
holds name text there short one least greatest short_text = record {
  sheet = sheet (text ∷ []);
  staged = record {
    sealed = record { filed = filed (text ∷ []); there = there; size_is = refl; sheet_is = refl; short = short };
    rows = refl;
    some = omega arith;
    few = omega arith;
    weight = omega (arith, one);
    columns_are = (record { field = refl; type = refl }, tt);
    stats = (record { field = refl; counted = record { rows = refl; nulls = refl; min = bound side.Least text least short_text; max = bound side.Greatest text greatest short_text } }, tt);
  };
  without_ids = refl;
  cells = refl;
}

-- ---- what is staged

are-staged : AreFilesStaged after version base own staged
are-staged = record {
  grows = (tt, (tt, (tt, (tt, (tt, (tt, (tt, tt)))))));
  is_staged = record {
    fits = fits;
    known = (refl, (refl, tt));
    once = refl;
    tables = (
      record {
        few = omega arith;
        fresh_within = omega arith;
        in_file = cells (codes "s") ∷ [];
        fresh = holds (codes "g") (codes "s") refl (omega arith) refl refl refl refl;
        fresh_are = refl;
        moved = [];
        updated = refl;
        images_are = refl;
        from = record {
          deletes = tt;
          order = refl;
          ended_rows = refl;
          merged = record { each_once = refl; there = tt; rows = []; merged = refl; live = refl; none_else = λ _none. (refl, refl) };
        };
      },
      (
        record {
          few = omega arith;
          fresh_within = omega arith;
          in_file = cells (codes "z") ∷ [];
          fresh = holds (codes "h") (codes "z") refl (omega arith) refl refl refl refl;
          fresh_are = refl;
          moved = [];
          updated = refl;
          images_are = refl;
          from = record { deletes = refl; ended_rows = refl; merged = refl; ended_files = refl };
        },
        tt,
      ),
    );
  };
  none_inlined = (refl, (refl, tt));
}

pub staged-to_grow : IsStagedToGrow
staged-to_grow = record {
  are_staged = are-staged;
  tables = ((λ stays. record { can_grow = record { there = (record { file = refl; deletes = tt }, tt); ids = ids }; start = refl; unaltered = λ some. ((λ same. refl), tt) }), tt);
}
  where
    ids : RiseBelow 3 (0 ∷ 1 ∷ 2 ∷ [])
    ids = (omega arith, (omega arith, (omega arith, tt)), (omega arith, (omega arith, tt), (omega arith, tt, tt)))
