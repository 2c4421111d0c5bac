-- What holds of changes texts.
use Rattle.std.specs.Prelude.{◌≡◌, ℕ, List}
use Rattle.lake_types.specs.declared.kind.Kind.{Kind}
use Rattle.lake_types.specs.declared.kind.SchemaName.{SchemaName}
use Rattle.lake_types.specs.Kinds.{SaysWith, Says}
use Rattle.cat_changes.specs.Changes.{IsWrongAt, LacksName}

-- given the names, a text is that of one list of kinds
abbrev pub HasOneList : Type 0
HasOneList =
    (schemas : List SchemaName) (text : List ℕ) (a b : List Kind) → SaysWith schemas text a → SaysWith schemas text b → a ≡ b

-- a text is wrong at one place
abbrev pub HasOnePlace : Type 0
HasOnePlace = (text : List ℕ) (m n : ℕ) → IsWrongAt text m → IsWrongAt text n → m ≡ n

-- a text that is wrong somewhere is no changes text
abbrev pub SaysOrIsWrong : Type 0
SaysOrIsWrong = (text : List ℕ) (at : ℕ) (kinds : List Kind) → IsWrongAt text at → Says text kinds → ⊥

-- of the dropped schemas without a name one is the first, and then the text gives nothing
abbrev pub LacksOneName : Type 0
LacksOneName =
    (schemas : List SchemaName) (text : List ℕ) (i j : ℕ) → LacksName schemas text i → LacksName schemas text j → i ≡ j

abbrev pub GivesOrLacks : Type 0
GivesOrLacks =
    (schemas : List SchemaName) (text : List ℕ) (id : ℕ) (kinds : List Kind) → LacksName schemas text id → SaysWith schemas text kinds → ⊥
