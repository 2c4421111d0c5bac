use Rattle.std.proofs.Common.{◌≡◌, ◌<◌, ◌^◌, ℕ, List, ◌++◌, length, map, Vec, Global, arith}
use Rattle.std.proofs.lemmas.Result.{IfOk-weaker}
use Rattle.pq_encodings.specs.Grammar.{HoldsRuns}
use Rattle.pq_encodings.specs.Levels.{level_bytes, level_of}
use Rattle.pq_encodings.proofs.LevelLemmas.{level_bytes-held}
use Rattle.pq_encodings.proofs.levels.encode_levels.Goals as goal

pub returns-clause-held : goal.returns-clause-held
returns-clause-held c =
    let fits : length c.args.levels.now < 2 ^ 63 = omega arith in
    IfOk-weaker c.longest_runs.result (λ (v : Vec ℕ Global). v.items ≡ level_bytes c.args.levels.now)
    (λ (v : Vec ℕ Global). (rest : List ℕ) → HoldsRuns 1 (length c.args.levels.now) (v.items ++ rest) (map level_of c.args.levels.now))
    (λ v spelled rest. rw spelled (level_bytes-held c.args.levels.now rest fits)) c.longest_runs.ensures
