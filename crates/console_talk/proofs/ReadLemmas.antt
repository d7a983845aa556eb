-- What is read of the contents that a console writes.
use Rattle.std.proofs.Common.{◌≡◌, ◌<◌, ◌^◌, ℕ, List, Bool, true, refl, ap}
use Rattle.std.proofs.lemmas.Bool.{lt-ltb}
use Rattle.std.specs.Prelude.{nat_lt, Option, Some, None, if◌then◌else◌}
use Rattle.jupyter_msg.specs.Fields.{value_at}
use Rattle.jupyter_msg.specs.RequestType.{type_named}
use Rattle.jupyter_msg.specs.Requests.{in_32_bits, asks_number}
use Rattle.jupyter_msg.specs.declared.request_type.RequestType.TheVariants as type
use Rattle.jupyter_msg.specs.declared.comm.CommAsk.TheVariants as ask
use Rattle.console_talk.specs.Laws.{RunsAreRead, CompletionsAreRead, OpensAreRead, MovesAreRead, NothingIsRefused}

pub runs_are_read : RunsAreRead
unfolding value_at
runs_are_read code = record { text = refl; told = refl; numbered = refl; alone = refl }

pub completions_are_read : CompletionsAreRead
unfolding value_at
completions_are_read code = record { text = refl; cursor = refl }

pub opens_are_read : OpensAreRead
unfolding value_at
opens_are_read id = record { comm_id = refl; target_name = refl }

-- a number of 32 bits is one
fits : (n : ℕ) → n < 2 ^ 32 → in_32_bits n ≡ Some n
fits n h = rw (lt-ltb n (2 ^ 32) h) refl

pub moves_are_read : MovesAreRead
unfolding value_at
moves_are_read id n h = record {
  undo = record { comm_id = refl; ask = ap (λ o. Some (asks_number ask.Undo o)) (fits n h) };
  redo = record { comm_id = refl; ask = ap (λ o. Some (asks_number ask.Redo o)) (fits n h) };
  goto = record { comm_id = refl; ask = ap (λ o. Some (asks_number ask.Goto o)) (fits n h) };
  state = record { comm_id = refl; ask = refl };
}

pub nothing_is_refused : NothingIsRefused
unfolding value_at type_named
nothing_is_refused = record {
  info = record { type = type.KernelInfo; named = refl; content = refl; header = λ session n. refl };
  runs = λ code. record { type = type.Execute; named = refl; content = refl; header = λ session n. refl };
  completions = λ code. record { type = type.Complete; named = refl; content = refl; header = λ session n. refl };
  opens = λ id. record { type = type.CommOpen; named = refl; content = refl; header = λ session n. refl };
  closes = λ id. record { type = type.CommClose; named = refl; content = refl; header = λ session n. refl };
  moves = λ id op n. record { type = type.CommMessage; named = refl; content = refl; header = λ session n. refl };
  states = λ id. record { type = type.CommMessage; named = refl; content = refl; header = λ session n. refl };
}
