-- The texts of replies.
use Rattle.std.specs.Prelude.{ℕ, ◌==◌, List, [], ◌∷◌, ◌++◌, codes, flat_map, decimal, if◌then◌else◌}
use Rattle.lake_types.specs.Kinds.{kind_text}
use Rattle.lake_types.specs.Texts.{quoted}
use Rattle.lake_types.specs.declared.kind.Clash.{Clash}
use Rattle.lake_types.specs.declared.stmt.TableName.{TableName}
use Rattle.lake_model.specs.declared.answer.Answer.{Answer}
use Rattle.lake_model.specs.declared.answer.Answer.TheVariants as answer
use Rattle.lake_model.specs.declared.answer.Counter.{Counter}
use Rattle.lake_model.specs.declared.answer.Counter.TheVariants as counter

abbrev pub table_text : TableName → List ℕ
table_text t = quoted t.schema ++ (46 ∷ quoted t.table)

abbrev pub counter_text : Counter → List ℕ
counter_text (counter.Row table) = codes "row"
counter_text (counter.Field table) = codes "field"
counter_text counter.Catalog = codes "catalog"
counter_text counter.File = codes "file"
counter_text counter.Snapshot = codes "snapshot"
counter_text counter.History = codes "history"

abbrev pub two_numbers : ℕ → ℕ → List ℕ
two_numbers m n = decimal m ++ 32 ∷ decimal n

abbrev pub clash_text : Clash → List ℕ
clash_text c = decimal c.snapshot ++ 32 ∷ (kind_text c.mine ++ (codes " with " ++ kind_text c.theirs))

abbrev pub answer_text : Answer → List ℕ
answer_text answer.Done = codes "ok"
answer_text (answer.Number n) = codes "ok " ++ decimal n
answer_text answer.TooLong = codes "line too long"
answer_text answer.NotBuilt = codes "not built"
answer_text (answer.Syntax at) = codes "syntax at " ++ decimal at
answer_text answer.InTransaction = codes "in transaction"
answer_text answer.NoTransaction = codes "no transaction"
answer_text answer.ReadOnly = codes "read only"
answer_text answer.Mixed = codes "mixed"
answer_text (answer.NoSchema name) = codes "no schema " ++ quoted name
answer_text (answer.NoTable table) = codes "no table " ++ table_text table
answer_text (answer.NoColumn name) = codes "no column " ++ quoted name
answer_text (answer.NameUsed name) = codes "name used " ++ quoted name
answer_text (answer.NotEmpty name) = codes "not empty " ++ quoted name
answer_text (answer.NotNull name) = codes "not null " ++ quoted name
answer_text (answer.WrongType name) = codes "wrong type " ++ quoted name
answer_text (answer.NoPromotion name) = codes "no promotion " ++ quoted name
answer_text answer.LastColumn = codes "last column"
answer_text (answer.Arity want got) = codes "arity " ++ two_numbers want got
answer_text answer.ManyColumns = codes "many columns"
answer_text answer.TooLarge = codes "too large"
answer_text (answer.Spent c) = codes "spent " ++ counter_text c
answer_text (answer.Conflict c) = codes "conflict " ++ clash_text c
answer_text (answer.Pinned base) = codes "pinned " ++ decimal base
answer_text (answer.NotKept first head) = codes "not kept " ++ two_numbers first head
answer_text answer.Disk = codes "! disk"
answer_text answer.Keeper = codes "! keeper"
answer_text (answer.Damaged name) = codes "damaged " ++ name
answer_text (answer.NameTaken name) = codes "name taken " ++ name
answer_text answer.Memory = codes "no memory"

-- in a reply's line a line feed is printed as the two characters `\n`
abbrev pub shown_byte : ℕ → List ℕ
shown_byte b = if b == 10 then 92 ∷ 110 ∷ [] else b ∷ []

abbrev pub shown : List ℕ → List ℕ
shown text = flat_map shown_byte text

-- each line of a reply begins with the session, a dot, the line's number within its session and a space
abbrev pub head_text : ℕ → ℕ → List ℕ
head_text session number = decimal session ++ (46 ∷ (decimal number ++ 32 ∷ []))

-- a line under a head, of what is shown already
abbrev pub printed : List ℕ → List ℕ → List ℕ
printed head text = head ++ (text ++ 10 ∷ [])

abbrev pub printed_row : List ℕ → List ℕ → List ℕ
printed_row head row = printed head (codes "row " ++ shown row)
