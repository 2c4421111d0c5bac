use Rattle.cat_rows.proofs.RoomLemmas.{Covers-parts}
use Rattle.cat_rows.proofs.content.CatRows.reserve.Goals as goal

pub returns-clause-room : goal.returns-clause-room
returns-clause-room c =
    Covers-parts c.reserve_history.new.self c.reserve_schemas.new.self c.reserve_files.new.self c.args.adds.now
    c.in_ok-reserve_history.ensures.room c.reserve_schemas.ensures.kept c.in_ok-reserve_schemas.ensures.room c.reserve_files.ensures.kept c.in_ok-reserve_files.ensures.room
