-- The kernel goes on by one more note.
use Rattle.std.proofs.Common.{◌≡◌, List, [], ◌∷◌, ◌++◌, refl, sym, subst}
use mathlib.Core.Logic.{∥∥₁_map}
use Rattle.kernel_ask.specs.Runs.{Machine, new_machine}
use Rattle.kernel_audit.specs.declared.note.Note.{Note}
use Rattle.kernel_audit.specs.Course.{GoesBy, Goes, HasCome}

goes_on : (notes : List Note) (note : Note) (first old new : Machine) → Goes first notes old → GoesBy note old new → Goes first (notes ++ note ∷ []) new
goes_on [] note first old new h by = (new, subst (λ (m : Machine). GoesBy note m new) h by, refl)
goes_on (x ∷ xs) note first old new h by = (h.0, h.1, goes_on xs note h.0 old new h.2 by)

pub came_on : (notes next : List Note) (note : Note) (old new : Machine) → next ≡ notes ++ note ∷ [] → ∥ HasCome notes old ∥₁ → GoesBy note old new →
    ∥ HasCome next new ∥₁
came_on notes next note old new is h by =
    subst (λ (l : List Note). ∥ HasCome l new ∥₁) (sym is) (∥∥₁_map h (λ came. goes_on notes note new_machine old new came by))
