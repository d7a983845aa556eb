-- Why a post is refused.
use Rattle.std.specs.Prelude.{◌≡◌}
use Rattle.hall_state.specs.Runs.{Machine, IsRefusal}
use Rattle.hall_state.specs.LegalMinutes.{IsLegalMachine}
use Rattle.hall_state.specs.Notes.{has_shutdown}
use Rattle.hall_state.specs.Passes.{PassOf}
use Rattle.hall_state.specs.post.PostFault.{PostFault}

-- by the kernel whose minutes the pass has seen, which closes exactly where the pass has seen a shutdown
abbrev pub IsRefused : PassOf → PostFault → Type 0
IsRefused pass fault = (k : Machine) × IsLegalMachine k × (k.minutes ≡ pass.front) × (has_shutdown pass.notes ≡ k.closing) × IsRefusal k fault
