-- The ends of jobs in the minutes, as they are told.
use Rattle.std.proofs.Common.{◌≡◌, ℕ, List, [], ◌∷◌, map, zero, suc, ap, subst, slice_get, Some}
use Rattle.kernel_ask.specs.minutes.Entry.{Entry}
use Rattle.kernel_ask.specs.Minutes as minutes
use Rattle.kernel_ask.specs.Written.{entry_of}

-- what stands at a place of the minutes is told of that place
pub told_there : (entries : List Entry) (at : ℕ) (e : Entry) → slice_get entries at ≡ Some e → slice_get (map entry_of entries) at ≡ Some (entry_of e)
told_there [] at e h = cc
told_there (x ∷ entries) zero e h = let same : x ≡ e = cc in ap (λ (y : Entry). Some (entry_of y)) same
told_there (x ∷ entries) (suc at) e h = told_there entries at e h

-- so it is in the minutes of the machine that has these entries
pub told_in : (entries : List Entry) (ms : List minutes.Entry) (at : ℕ) (e : Entry) → map entry_of entries ≡ ms → slice_get entries at ≡ Some e →
    slice_get ms at ≡ Some (entry_of e)
told_in entries ms at e same h = subst (λ (l : List minutes.Entry). slice_get l at ≡ Some (entry_of e)) same (told_there entries at e h)
