-- Changes of the open comms, which are seen as their ids.
use Rattle.std.specs.Prelude.{◌≡◌, ℕ, Bool, List, Result, Ok, Err, string_bytes}
use Rattle.kernel_ask.specs.Comms.{is_open, can_open, opened, without_id}
use Rattle.kernel_ask.specs.declared.answer.HallFault.{HallFault}
use Rattle.kernel_ask.specs.declared.answer.HallFault.TheVariants.{Memory}
use Rattle.kernel_ask.specs.declared.comm_change.CommChange.{CommChange}
use Rattle.kernel_ask.specs.declared.comm_change.CommChange.TheVariants.{Open, Close}

-- a comm is opened if it can be, and closed if it is open; a refusal is want of memory for an opening, and changes nothing
abbrev pub IsChange : List (List ℕ) → CommChange → Result Bool HallFault → List (List ℕ) → Type 0
IsChange old (Open id) (Ok told) new = (told ≡ can_open old (string_bytes id)) × (new ≡ opened old (string_bytes id))
IsChange old (Open id) (Err fault) new = (fault ≡ Memory) × (new ≡ old)
IsChange old (Close id) (Ok told) new = (told ≡ is_open old id.now) × (new ≡ without_id old id.now)
IsChange old (Close id) (Err fault) new = ⊥
