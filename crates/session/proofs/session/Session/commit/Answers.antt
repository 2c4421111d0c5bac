use Rattle.std.proofs.Common.{rules, ◌≡◌, ◌≢◌, [], Some, None, refl, sym, subst}
use Rattle.lake_types.specs.declared.stmt.Stmt.TheVariants as stmt
use Rattle.lake_model.specs.Calls.{Ground}
use Rattle.lake_model.specs.Step.{only}
use Rattle.lake_model.specs.declared.answer.Answer.TheVariants as answer
use Rattle.row_files.specs.Folders.{files_of}
use Rattle.row_files.specs.Stages.{Stays}
use Rattle.txn_buf.specs.Keeping.{txn_of}
use Rattle.session.specs.Held.{number_of, open_of, own_in, own_of}
use Rattle.session.specs.Line.{Answers}
use Rattle.session.specs.Staging.{MayCommit}
use Rattle.session.specs.Turns.{stage_answer}
use Rattle.session.proofs.StagingLemmas.{changes_as, changes_none, changes_with, extends_stays}
use Rattle.session.proofs.StillLemmas.{commit_closed, commit_unstaged, line_still}
use Rattle.session.proofs.session.Session.commit.Goals as goal

pub returns-in_default-clause-line : goal.returns-in_default-clause-line
returns-in_default-clause-line g c =
    let s = c.args.self.now in
    let door = c.args.door.now in
    let stands = g.R.Door.stands door in
    let serves = g.R.Door.serves door in
    let closed : open_of s ≡ None = search rules in
    let left : own_in c.take.new.self ≡ own_of s = search rules in
    changes_none (λ folder folder'. (ground : Ground) → stands (files_of folder) ground → Answers serves (number_of s) stmt.Commit c.only.result (own_of s) (own_in c.take.new.self) (stands (files_of folder')) ground)
    (λ folder ground h. subst (λ own. Answers serves (number_of s) stmt.Commit c.only.result (own_of s) own (stands (files_of folder)) ground) (sym left)
    (line_still g.F.Held.name g.F.Held.size g.F.Held.bytes serves (g.R.Door.opened door) s stmt.Commit (only answer.NoTransaction) c.only.result (own_of s) (files_of folder) (stands (files_of folder)) ground
    refl c.requires.ready c.requires.served (g.met.R.Door.agrees door (files_of folder) ground h) h (commit_closed g.F.Held.name g.F.Held.size g.F.Held.bytes (open_of s) (own_of s) (number_of s) closed) c.only.ensures))
    (g.D.FileDisk.files c.args.disk.now)

pub returns-in-Ok-clause-line : goal.returns-in-Ok-clause-line
returns-in-Ok-clause-line g c =
    let s = c.args.self.now in
    let door = c.args.door.now in
    let stands = g.R.Door.stands door in
    let buf = c.in-Some.buf in
    let owned : (txn_of buf).own ≡ own_of s = search rules in
    changes_with Stays (λ folder folder'. (ground : Ground) → stands (files_of folder) ground → Answers (g.R.Door.serves door) (number_of s) stmt.Commit c.land.result (own_of s) (own_of c.land.new.self) (g.R.Door.stands c.land.new.door (files_of folder')) ground)
    (λ folder. MayCommit g.F.Held.name g.F.Held.size g.F.Held.bytes (files_of folder) buf c.in-Ok.staged)
    (λ folder folder' stays may ground h. subst (λ own. Answers (g.R.Door.serves door) (number_of s) stmt.Commit c.land.result own (own_of c.land.new.self) (g.R.Door.stands c.land.new.door (files_of folder')) ground) owned
    (c.land.ensures.line (files_of folder') ground (g.met.R.Door.more_files door (files_of folder) (files_of folder') ground (extends_stays folder folder' stays) h) may))
    (g.D.FileDisk.files c.args.disk.now) (g.D.FileDisk.files c.staged_for.new.disk) c.staged_for.ensures.stays c.in-Ok.ensures.staged

pub returns-in-Err-clause-line : goal.returns-in-Err-clause-line
returns-in-Err-clause-line g c =
    let s = c.args.self.now in
    let door = c.args.door.now in
    let stands = g.R.Door.stands door in
    let serves = g.R.Door.serves door in
    let buf = c.in-Some.buf in
    let open_there : open_of s ≡ Some buf = search rules in
    let said : c.only-in-Err.result ≡ only (stage_answer c.in-Err.why) = search rules in
    let some : (txn_of buf).own ≢ [] = c.in-Err.ensures.some in
    changes_as Stays (λ folder folder'. (ground : Ground) → stands (files_of folder) ground → Answers serves (number_of s) stmt.Commit c.only-in-Err.result (own_of s) (txn_of buf).own (stands (files_of folder')) ground)
    (λ folder folder' stays ground h.
    let kept = g.met.R.Door.more_files door (files_of folder) (files_of folder') ground (extends_stays folder folder' stays) h in
    line_still g.F.Held.name g.F.Held.size g.F.Held.bytes serves (g.R.Door.opened door) s stmt.Commit (only (stage_answer c.in-Err.why)) c.only-in-Err.result (txn_of buf).own (files_of folder') (stands (files_of folder')) ground
    refl c.requires.ready c.requires.served (g.met.R.Door.agrees door (files_of folder') ground kept) kept (commit_unstaged g.F.Held.name g.F.Held.size g.F.Held.bytes (open_of s) buf (number_of s) c.in-Err.why open_there some) said)
    (g.D.FileDisk.files c.args.disk.now) (g.D.FileDisk.files c.staged_for.new.disk) c.staged_for.ensures.stays
