-- Faults of a cell, and which of several is told.
use Rattle.std.specs.Prelude.{◌≡◌, ℕ, Bool, false, ◌&&◌, ◌||◌, ◌==◌, nat_lt, Option, Some, None, List, [], ◌∷◌, codes, Contains, All, if◌then◌else◌}
use Rattle.janus_syntax.specs.declared.token.Span.{Span}
use Rattle.janus_check.specs.declared.fault.CheckFault.{CheckFault}
use Rattle.janus_check.specs.declared.fault.CheckFault.TheVariants.{Declared, Unknown, WrongKind, SelfUse, SameArgument, Arity, Shadow, ChangedParameters}
use Rattle.janus_check.specs.declared.fault.CheckFault.TheVariants.{TooMany, ArrayLength, Memory}

abbrev pub number_of : CheckFault → ℕ
number_of Memory = 35
number_of (Declared at) = 40
number_of (Unknown at) = 41
number_of (WrongKind at) = 42
number_of (SelfUse at) = 43
number_of (SameArgument at) = 44
number_of (Arity at) = 45
number_of (Shadow at) = 46
number_of (ChangedParameters at) = 47
number_of (TooMany at) = 48
number_of (ArrayLength at) = 49

abbrev pub fault_name : CheckFault → List ℕ
fault_name Memory = codes "Memory"
fault_name (Declared at) = codes "Declared"
fault_name (Unknown at) = codes "Unknown"
fault_name (WrongKind at) = codes "WrongKind"
fault_name (SelfUse at) = codes "SelfUse"
fault_name (SameArgument at) = codes "SameArgument"
fault_name (Arity at) = codes "Arity"
fault_name (Shadow at) = codes "Shadow"
fault_name (ChangedParameters at) = codes "ChangedParameters"
fault_name (TooMany at) = codes "TooMany"
fault_name (ArrayLength at) = codes "ArrayLength"

abbrev pub span_of : CheckFault → Option Span
span_of Memory = None
span_of (Declared at) = Some at
span_of (Unknown at) = Some at
span_of (WrongKind at) = Some at
span_of (SelfUse at) = Some at
span_of (SameArgument at) = Some at
span_of (Arity at) = Some at
span_of (Shadow at) = Some at
span_of (ChangedParameters at) = Some at
span_of (TooMany at) = Some at
span_of (ArrayLength at) = Some at

abbrev pub start_of : CheckFault → ℕ
start_of Memory = 0
start_of (Declared at) = at.start
start_of (Unknown at) = at.start
start_of (WrongKind at) = at.start
start_of (SelfUse at) = at.start
start_of (SameArgument at) = at.start
start_of (Arity at) = at.start
start_of (Shadow at) = at.start
start_of (ChangedParameters at) = at.start
start_of (TooMany at) = at.start
start_of (ArrayLength at) = at.start

abbrev pub end_of : CheckFault → ℕ
end_of Memory = 0
end_of (Declared at) = at.end
end_of (Unknown at) = at.end
end_of (WrongKind at) = at.end
end_of (SelfUse at) = at.end
end_of (SameArgument at) = at.end
end_of (Arity at) = at.end
end_of (Shadow at) = at.end
end_of (ChangedParameters at) = at.end
end_of (TooMany at) = at.end
end_of (ArrayLength at) = at.end

-- three numbers are before three others, one compared after the other
abbrev pub is_earlier : (a b c x y z : ℕ) → Bool
is_earlier a b c x y z = nat_lt a x || ((a == x) && (nat_lt b y || ((b == y) && nat_lt c z)))

-- A fault is told rather than another if it stands earlier, or at the same place under a smaller number. (Two faults of one
-- number begin at the same octet only where they are the same; the end is compared, so that this order alone says which is
-- told.)
abbrev pub comes_before : CheckFault → CheckFault → Bool
comes_before f h = is_earlier (start_of f) (number_of f) (end_of f) (start_of h) (number_of h) (end_of h)

-- f is one of the faults, and none of them comes before it
pub record IsFirst (f : CheckFault) (fs : List CheckFault) : Type 0 where
  pub one : Contains fs f
  pub least : All (λ h. comes_before h f ≡ false) fs

-- ---- the same as a fold

abbrev pub sooner_of : Option CheckFault → CheckFault → CheckFault
sooner_of None f = f
sooner_of (Some found) f = if comes_before f found then f else found

abbrev pub first_from : Option CheckFault → List CheckFault → Option CheckFault
first_from found [] = found
first_from found (f ∷ fs) = first_from (Some (sooner_of found f)) fs
