-- The place of a row among all rows of a catalogue: by the order of the tables, and then by key.
use Rattle.std.specs.Prelude.{ℕ, List, [], ◌∷◌}
use Rattle.cat_rows.specs.declared.batch.Key.{Key}
use Rattle.cat_rows.specs.declared.batch.Key.TheVariants as key

-- the place of its table among the tables, and the numbers of its columns or the bytes of its text
abbrev pub place : Key → List ℕ
place (key.Metadata a) = 0 ∷ a
place (key.Snapshot a) = 1 ∷ a ∷ []
place (key.SnapshotChanges a) = 2 ∷ a ∷ []
place (key.Schema a) = 3 ∷ a ∷ []
place (key.Table a) = 4 ∷ a ∷ []
place (key.Column a b c) = 5 ∷ a ∷ b ∷ c ∷ []
place (key.DataFile a) = 6 ∷ a ∷ []
place (key.DeleteFile a) = 7 ∷ a ∷ []
place (key.FileColumnStats a b) = 8 ∷ a ∷ b ∷ []
place (key.TableStats a) = 9 ∷ a ∷ []
place (key.Inlined a b c) = 10 ∷ a ∷ b ∷ c ∷ []
place (key.ScheduledFile a) = 11 ∷ a
