-- Types of requests by their names.
use Rattle.std.proofs.Common.{◌≡◌, ℕ, List, [], ◌∷◌, Bool, true, false, cond, Option, Some, IfSome, refl, subst}
use Rattle.std.specs.List.{find}
use Rattle.std.specs.Str.{bytes_eq}
use Rattle.std.proofs.lemmas.Slice.Eq.{bytes_eq-Decides}
use Rattle.jupyter_msg.specs.RequestType.{type_name, all_types, type_named}
use Rattle.jupyter_msg.specs.declared.request_type.RequestType.{RequestType}
use Rattle.jupyter_msg.specs.declared.request_type.RequestType.TheVariants.{KernelInfo, Execute, Complete, Inspect, IsComplete, History, CommInfo, Interrupt}
use Rattle.jupyter_msg.specs.declared.request_type.RequestType.TheVariants.{Shutdown, CommOpen, CommMessage, CommClose}

type_named-type_name : (t : RequestType) → type_named (type_name t) ≡ Some t
unfolding type_named
type_named-type_name KernelInfo = refl
type_named-type_name Execute = refl
type_named-type_name Complete = refl
type_named-type_name Inspect = refl
type_named-type_name IsComplete = refl
type_named-type_name History = refl
type_named-type_name CommInfo = refl
type_named-type_name Interrupt = refl
type_named-type_name Shutdown = refl
type_named-type_name CommOpen = refl
type_named-type_name CommMessage = refl
type_named-type_name CommClose = refl

-- each type is the one of its name
pub type_named-every : (name : List ℕ) (t : RequestType) → type_name t ≡ name → type_named name ≡ Some t
type_named-every name t e = subst (λ n. type_named n ≡ Some t) e (type_named-type_name t)

found_first : (name : List ℕ) (x : RequestType) (rest : Option RequestType) (b : Bool) → bytes_eq (type_name x) name ≡ b → IfSome rest (λ t. type_name t ≡ name)
    → IfSome (cond b (Some x) rest) (λ t. type_name t ≡ name)
found_first name x rest true e later = (bytes_eq-Decides (type_name x) name).0 e
found_first name x rest false e later = later

found-has_name : (types : List RequestType) (name : List ℕ) → IfSome (find (λ t. bytes_eq (type_name t) name) types) (λ t. type_name t ≡ name)
found-has_name [] name = tt
found-has_name (x ∷ xs) name = found_first name x _ (bytes_eq (type_name x) name) refl (found-has_name xs name)

-- a type that is found has the name
pub type_named-has_name : (name : List ℕ) → IfSome (type_named name) (λ t. type_name t ≡ name)
unfolding type_named
type_named-has_name name = found-has_name all_types name
