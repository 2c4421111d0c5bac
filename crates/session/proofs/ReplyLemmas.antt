-- What the reply to a scan, and to a fault of one, says.
use Rattle.std.proofs.Common.{◌≡◌, ◌≢◌, ◌⊎◌, ℕ, true, false, List, [], length, map, refl, sym, ◌∙◌, ap, ap₂, subst, inl, inr, rules}
use Rattle.std.proofs.lemmas.List.{length-map}
use Rattle.std.specs.Prelude.{IsSome, Option, Some, None, unwrap_or}
use Rattle.lake_types.specs.declared.pred.Pred.{Pred}
use Rattle.lake_types.specs.declared.stmt.Item.{Item}
use Rattle.lake_types.specs.declared.stmt.TableName.{TableName}
use Rattle.lake_types.specs.declared.value.Row.{Row}
use Rattle.lake_model.specs.Apply.{Draft, Work}
use Rattle.lake_model.specs.Rows.{chosen}
use Rattle.lake_model.specs.Step.{only, shown}
use Rattle.lake_model.specs.declared.answer.Answer.{Answer}
use Rattle.lake_model.specs.declared.answer.Answer.TheVariants as answer
use Rattle.lake_model.specs.declared.answer.Reply.{Reply}
use Rattle.cat_view.specs.Named.{NamedFile}
use Rattle.scan_exec.specs.Chosen.{fields_told, rows_of, told_row}
use Rattle.scan_exec.specs.Damage.{IfDamage}
use Rattle.scan_exec.specs.Refusals.{refusal, table_of, told}
use Rattle.scan_exec.specs.Scans.{IsScanOf, all_reads}
use Rattle.scan_exec.specs.declared.fault.ScanFault.{ScanFault}
use Rattle.scan_exec.specs.declared.fault.ScanFault.TheVariants as fault
use Rattle.scan_exec.specs.declared.fault.ScanFault.TheVariants.{Memory}
use Rattle.scan_exec.specs.declared.scanned.Scan.{Scan}
use Rattle.session.specs.Select.{Failed, IsSelected, Reads, Told, Wanted, fault_answer, is_reading_fault, names_read, rows_reply}
use Rattle.session.specs.Shown.{row_shown}
use Rattle.session.specs.Turns.{is_keeper_fault}
use Rattle.session.proofs.SelectLemmas.{Shows, refuses, shows}
use Rattle.session.proofs.TextLemmas.{rows_are}

abbrev pub TellsRows : List Item → List Row → Reply → Type 0
TellsRows items rows r = (r ≡ rows_reply items rows) ⊎ (r ≡ only answer.Memory)

abbrev pub TellsFault : TableName → ScanFault → Reply → Type 0
TellsFault table why r = (r ≡ only (fault_answer table why)) ⊎ (r ≡ only answer.Memory)

-- ---- the selection

same_draft : (a b : Draft) (o : Option Draft) → o ≡ Some a → o ≡ Some b → a ≡ b
same_draft a b o e f = ap (λ (x : Option Draft). unwrap_or x a) (sym e ∙ f)

rows_shown : (d : Draft) (items : List Item) (test : Option Pred) (rows : List Row) → rows ≡ rows_of d test (names_read items) → map (row_shown items) rows ≡ (shown d items test).rows
    → rows_reply items rows ≡ shown d items test
rows_shown d items test rows is texts =
    ap₂ (λ (ts : List (List ℕ)) (n : ℕ). record { rows = ts; last = answer.Number n }) texts
    (ap (λ (xs : List Row). length xs) is ∙ length-map (chosen test d) (told_row (fields_told d.columns (names_read items))))

pub rows_selected : (w : Work) (table : TableName) (items : List Item) (test : Option Pred) (scan : Scan) (r : Reply) → TellsRows items scan.rows r
    → refusal w table (names_read items) test ≡ None → IsScanOf w table (names_read items) test scan → IsSelected w table items test r
rows_selected w table items test scan r (inr h) free is = Wanted h
rows_selected w table items test scan r (inl h) free is =
    let s = shows w table items test free in
    let rows : scan.rows ≡ rows_of s.draft test (names_read items) =
    is.rows ∙ ap (λ (d : Draft). rows_of d test (names_read items)) (same_draft is.draft s.draft (table_of w table) is.is_there s.is_there) in
    Told (h ∙ rows_shown s.draft items test scan.rows rows (rows_are s.draft items test scan.rows s.known rows) ∙ sym s.selected)

failed : (w : Work) (table : TableName) (items : List Item) (test : Option Pred) (a : Answer) (r : Reply) → is_reading_fault a ≡ true → r ≡ only a
    → Shows w table items test → IsSelected w table items test r
failed w table items test a r f h s = Failed a (length (chosen test s.draft)) f (ap (λ (q : Reply). q.last) s.selected) h

fault_said : (w : Work) (table : TableName) (items : List Item) (test : Option Pred) (why : ScanFault) (r : Reply) → r ≡ only (fault_answer table why)
    → (why ≢ Memory → refusal w table (names_read items) test ≡ told table why) → IsSelected w table items test r
fault_said w table items test fault.NoSchema r h f = Told (h ∙ sym (refuses w table items test (answer.NoSchema table.schema) (f (search rules))))
fault_said w table items test fault.NoTable r h f = Told (h ∙ sym (refuses w table items test (answer.NoTable table) (f (search rules))))
fault_said w table items test (fault.NoColumn name) r h f = Told (h ∙ sym (refuses w table items test (answer.NoColumn name) (f (search rules))))
fault_said w table items test (fault.WrongType name) r h f = Told (h ∙ sym (refuses w table items test (answer.WrongType name) (f (search rules))))
fault_said w table items test fault.DiskFault r h f = failed w table items test answer.Disk r refl h (shows w table items test (f (search rules)))
fault_said w table items test (fault.Damaged name) r h f = failed w table items test (answer.Damaged name) r refl h (shows w table items test (f (search rules)))
fault_said w table items test fault.Memory r h f = Wanted h

pub fault_selected : (w : Work) (table : TableName) (items : List Item) (test : Option Pred) (why : ScanFault) (r : Reply) → TellsFault table why r
    → (why ≢ Memory → refusal w table (names_read items) test ≡ told table why) → IsSelected w table items test r
fault_selected w table items test why r (inl h) f = fault_said w table items test why r h f
fault_selected w table items test why r (inr h) f = Wanted h

-- ---- reads

pub rows_reads : (files : List NamedFile) (items : List Item) (rows : List Row) (r : Reply) (before now : ℕ) → TellsRows items rows r → now ≡ all_reads files before → Reads files r.last before now
rows_reads files items rows r before now (inl h) is = subst (λ (q : Reply). Reads files q.last before now) (sym h) is
rows_reads files items rows r before now (inr h) is = subst (λ (q : Reply). Reads files q.last before now) (sym h) tt

fault_reads_none : (files : List NamedFile) (table : TableName) (why : ScanFault) (before now : ℕ) → (IsSome (told table why) → now ≡ before) → Reads files (fault_answer table why) before now
fault_reads_none files table fault.NoSchema before now f = f refl
fault_reads_none files table fault.NoTable before now f = f refl
fault_reads_none files table (fault.NoColumn name) before now f = f refl
fault_reads_none files table (fault.WrongType name) before now f = f refl
fault_reads_none files table fault.DiskFault before now f = tt
fault_reads_none files table (fault.Damaged name) before now f = tt
fault_reads_none files table fault.Memory before now f = tt

pub fault_reads : (files : List NamedFile) (table : TableName) (why : ScanFault) (r : Reply) (before now : ℕ) → TellsFault table why r → (IsSome (told table why) → now ≡ before) → Reads files r.last before now
fault_reads files table why r before now (inl h) f = subst (λ (q : Reply). Reads files q.last before now) (sym h) (fault_reads_none files table why before now f)
fault_reads files table why r before now (inr h) f = subst (λ (q : Reply). Reads files q.last before now) (sym h) tt

-- ---- what the answer is not

-- a table's rows tell no fault of the keeper or the disk, and no file
pub record TellsNoFault (r : Reply) : Type 0 where
  pub keeper : is_keeper_fault r.last ≡ false
  pub disk : r.last ≢ answer.Disk
  pub damaged : (name : List ℕ) → r.last ≢ answer.Damaged name
  pub untaken : (name : List ℕ) → r.last ≢ answer.NameTaken name

number_faultless : (r : Reply) (n : ℕ) → r.last ≡ answer.Number n → TellsNoFault r
number_faultless r n h = record {
  keeper = ap is_keeper_fault h;
  disk = λ e. absurd (let no : answer.Number n ≡ answer.Disk = sym h ∙ e in cc);
  damaged = λ name e. absurd (let no : answer.Number n ≡ answer.Damaged name = sym h ∙ e in cc);
  untaken = λ name e. absurd (let no : answer.Number n ≡ answer.NameTaken name = sym h ∙ e in cc);
}

memory_faultless : (r : Reply) → r.last ≡ answer.Memory → TellsNoFault r
memory_faultless r h = record {
  keeper = ap is_keeper_fault h;
  disk = λ e. absurd (let no : answer.Memory ≡ answer.Disk = sym h ∙ e in cc);
  damaged = λ name e. absurd (let no : answer.Memory ≡ answer.Damaged name = sym h ∙ e in cc);
  untaken = λ name e. absurd (let no : answer.Memory ≡ answer.NameTaken name = sym h ∙ e in cc);
}

pub rows_faultless : (items : List Item) (rows : List Row) (r : Reply) → TellsRows items rows r → TellsNoFault r
rows_faultless items rows r (inl h) = number_faultless r (length rows) (ap (λ (q : Reply). q.last) h)
rows_faultless items rows r (inr h) = memory_faultless r (ap (λ (q : Reply). q.last) h)

-- ---- which faults a fault of a scan tells

fault_keeper : (table : TableName) (why : ScanFault) → is_keeper_fault (fault_answer table why) ≡ false
fault_keeper table fault.NoSchema = refl
fault_keeper table fault.NoTable = refl
fault_keeper table (fault.NoColumn name) = refl
fault_keeper table (fault.WrongType name) = refl
fault_keeper table fault.DiskFault = refl
fault_keeper table (fault.Damaged name) = refl
fault_keeper table fault.Memory = refl

pub fault_not_keeper : (table : TableName) (why : ScanFault) (r : Reply) → TellsFault table why r → is_keeper_fault r.last ≡ false
fault_not_keeper table why r (inl h) = ap (λ (q : Reply). is_keeper_fault q.last) h ∙ fault_keeper table why
fault_not_keeper table why r (inr h) = ap (λ (q : Reply). is_keeper_fault q.last) h

fault_taken : (table : TableName) (why : ScanFault) (name : List ℕ) → fault_answer table why ≢ answer.NameTaken name
fault_taken table fault.NoSchema name h = absurd cc
fault_taken table fault.NoTable name h = absurd cc
fault_taken table (fault.NoColumn x) name h = absurd cc
fault_taken table (fault.WrongType x) name h = absurd cc
fault_taken table fault.DiskFault name h = absurd cc
fault_taken table (fault.Damaged x) name h = absurd cc
fault_taken table fault.Memory name h = absurd cc

pub fault_untaken : (table : TableName) (why : ScanFault) (r : Reply) → TellsFault table why r → (name : List ℕ) → r.last ≢ answer.NameTaken name
fault_untaken table why r (inl h) name e = fault_taken table why name (sym (ap (λ (q : Reply). q.last) h) ∙ e)
fault_untaken table why r (inr h) name e = (memory_faultless r (ap (λ (q : Reply). q.last) h)).untaken name e

fault_disk : (table : TableName) (why : ScanFault) → fault_answer table why ≡ answer.Disk → why ≡ fault.DiskFault
fault_disk table fault.NoSchema h = absurd cc
fault_disk table fault.NoTable h = absurd cc
fault_disk table (fault.NoColumn x) h = absurd cc
fault_disk table (fault.WrongType x) h = absurd cc
fault_disk table fault.DiskFault h = refl
fault_disk table (fault.Damaged x) h = absurd cc
fault_disk table fault.Memory h = absurd cc

pub fault_is_disk : (table : TableName) (why : ScanFault) (r : Reply) → TellsFault table why r → r.last ≡ answer.Disk → why ≡ fault.DiskFault
fault_is_disk table why r (inl h) e = fault_disk table why (sym (ap (λ (q : Reply). q.last) h) ∙ e)
fault_is_disk table why r (inr h) e = absurd ((memory_faultless r (ap (λ (q : Reply). q.last) h)).disk e)

abbrev name_in : Answer → List ℕ
name_in (answer.Damaged name) = name
name_in a = []

damage_said : (P : List ℕ → Type 0) (table : TableName) (why : ScanFault) → IfDamage why P → (name : List ℕ) → fault_answer table why ≡ answer.Damaged name → P name
damage_said P table fault.NoSchema p name h = absurd cc
damage_said P table fault.NoTable p name h = absurd cc
damage_said P table (fault.NoColumn x) p name h = absurd cc
damage_said P table (fault.WrongType x) p name h = absurd cc
damage_said P table fault.DiskFault p name h = absurd cc
damage_said P table (fault.Damaged x) p name h = subst P (ap name_in h) p
damage_said P table fault.Memory p name h = absurd cc

pub fault_damage : (P : List ℕ → Type 0) (table : TableName) (why : ScanFault) (r : Reply) → TellsFault table why r → IfDamage why P → (name : List ℕ) → r.last ≡ answer.Damaged name → P name
fault_damage P table why r (inl h) p name e = damage_said P table why p name (sym (ap (λ (q : Reply). q.last) h) ∙ e)
fault_damage P table why r (inr h) p name e = absurd ((memory_faultless r (ap (λ (q : Reply). q.last) h)).damaged name e)

-- ---- a fault tells no number

fault_number : (table : TableName) (why : ScanFault) (n : ℕ) → fault_answer table why ≢ answer.Number n
fault_number table fault.NoSchema n h = absurd cc
fault_number table fault.NoTable n h = absurd cc
fault_number table (fault.NoColumn x) n h = absurd cc
fault_number table (fault.WrongType x) n h = absurd cc
fault_number table fault.DiskFault n h = absurd cc
fault_number table (fault.Damaged x) n h = absurd cc
fault_number table fault.Memory n h = absurd cc

pub fault_numberless : (table : TableName) (why : ScanFault) (r : Reply) → TellsFault table why r → (n : ℕ) → r.last ≢ answer.Number n
fault_numberless table why r (inl h) n e = fault_number table why n (sym (ap (λ (q : Reply). q.last) h) ∙ e)
fault_numberless table why r (inr h) n e = absurd (let no : answer.Memory ≡ answer.Number n = sym (ap (λ (q : Reply). q.last) h) ∙ e in cc)
