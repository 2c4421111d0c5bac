-- Which calls of a device in memory fail.
use Rattle.std.specs.Prelude.{◌==◌, ◌||◌, ℕ, Bool, false, nat_le, if◌then◌else◌}
use Rattle.std.specs.List.{list_any}
use Rattle.std.specs.Option.{option_map_or}
use Rattle.lake_io.specs.Causes.{raised}
use Rattle.lake_io.specs.declared.faults.FailList.{FailList}

-- whether the list names the call with this number, or a call up to it from which on all fail
abbrev pub is_listed : FailList → ℕ → Bool
is_listed fails call = list_any (λ n. n == call) fails.calls.items || option_map_or (λ from. nat_le from call) fails.from false

-- a list, how many calls were made under it, and how many of them failed
pub record Injected : Type 0 where
  pub fails : FailList
  pub calls : ℕ
  pub faults : ℕ

-- whether the next call fails
abbrev pub fails_next : Injected → Bool
fails_next injected = is_listed injected.fails (raised injected.calls)

-- after one more call: the faults rise where it fails, and nowhere else
abbrev pub after_call : Injected → Injected
after_call injected = record {
  fails = injected.fails;
  calls = raised injected.calls;
  faults = if fails_next injected then raised injected.faults else injected.faults;
}
