-- A name under which no file is found is that of none.
use Rattle.std.proofs.Common.{◌≡◌, ℕ, List, Option, Some, None, option_map, refl}
use Rattle.cat_tables.specs.Table.{LacksKey, row_of}
use Rattle.cat_tables.proofs.RowLemmas.{LacksKey-none}
use Rattle.cat_view.specs.Held.{name_by}
use Rattle.cat_view.specs.declared.held.HeldFile.{HeldFile}

is_none : {F : Type 0} (o : Option (HeldFile F)) → None ≡ option_map (λ (h : HeldFile F). h.file) o → o ≡ None
is_none None e = refl
is_none (Some h) e = absurd (cc e)

pub unheld : {F : Type 0} (name : F → List ℕ) (path : List ℕ) (held : List (HeldFile F))
    → None ≡ option_map (λ (h : HeldFile F). h.file) (row_of (name_by name) path held) → LacksKey (name_by name) path held
unheld name path held e = LacksKey-none (name_by name) path held (is_none (row_of (name_by name) path held) e)
