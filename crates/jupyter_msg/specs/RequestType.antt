-- The types of requests (Jupyter messaging page).
use Rattle.std.specs.Prelude.{ℕ, List, [], ◌∷◌, codes, Option}
use Rattle.std.specs.List.{find}
use Rattle.std.specs.Str.{bytes_eq}
use Rattle.jupyter_msg.specs.declared.request_type.RequestType.{RequestType}
use Rattle.jupyter_msg.specs.declared.request_type.RequestType.TheVariants.{KernelInfo, Execute, Complete, Inspect, IsComplete, History, CommInfo}
use Rattle.jupyter_msg.specs.declared.request_type.RequestType.TheVariants.{Interrupt, Shutdown, CommOpen, CommMessage, CommClose}

-- the type as it stands in a header
abbrev pub type_name : RequestType → List ℕ
type_name KernelInfo = codes "kernel_info_request"
type_name Execute = codes "execute_request"
type_name Complete = codes "complete_request"
type_name Inspect = codes "inspect_request"
type_name IsComplete = codes "is_complete_request"
type_name History = codes "history_request"
type_name CommInfo = codes "comm_info_request"
type_name Interrupt = codes "interrupt_request"
type_name Shutdown = codes "shutdown_request"
type_name CommOpen = codes "comm_open"
type_name CommMessage = codes "comm_msg"
type_name CommClose = codes "comm_close"

abbrev pub all_types : List RequestType
all_types = KernelInfo ∷ Execute ∷ Complete ∷ Inspect ∷ IsComplete ∷ History ∷ CommInfo ∷ Interrupt ∷ Shutdown ∷ CommOpen ∷ CommMessage ∷ CommClose ∷ []

-- the type of this name, if there is one
unfoldable pub type_named : List ℕ → Option RequestType
type_named name = find (λ t. bytes_eq (type_name t) name) all_types
