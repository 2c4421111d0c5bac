-- Words for the code that finds the kinds of a list: where a kind belongs among others, and which rows are marked.
use Rattle.std.specs.Prelude.{◌≡◌, ℕ, ◌<◌, ◌||◌, Bool, false, List, ◌∷◌, ◌++◌, length, slice_index_or}
use Rattle.lake_types.specs.declared.kind.Kind.{Kind}
use Rattle.lake_model.specs.Kinds.{put}

pub record IsPlaced (kind : Kind) (kinds : List Kind) (at : ℕ) : Type 0 where
  pub before : List Kind
  pub rest : List Kind
  pub split : kinds ≡ before ++ rest
  pub place : length before ≡ at
  pub puts : put kind kinds ≡ before ++ kind ∷ rest

-- what is put among the rest is put among all
pub record IsSought (kind : Kind) (kinds : List Kind) (at : ℕ) (rest : List Kind) : Type 0 where
  pub before : List Kind
  pub split : kinds ≡ before ++ rest
  pub place : length before ≡ at
  pub puts : put kind kinds ≡ before ++ put kind rest

-- ---- marks by place

-- what is marked afterwards was marked before, or passes
abbrev pub Marks : List Bool → List Bool → (ℕ → Bool) → Type 0
Marks old new passes = (p : ℕ) → p < length old → slice_index_or new p false ≡ (slice_index_or old p false || passes p)

-- what is marked so far, or passes the rest, was marked before, or passes all
pub record AreMarked (old now : List Bool) (passes_rest passes : ℕ → Bool) : Type 0 where
  pub size : length now ≡ length old
  pub marks : (p : ℕ) → p < length old → (slice_index_or now p false || passes_rest p) ≡ (slice_index_or old p false || passes p)
