-- What a decoder was fed and gave, through its calls.
use Rattle.std.specs.Prelude.{Option, IsErrAnd, IfErr}
use Rattle.zmtp_wire.specs.declared.frame.Frame as code
use Rattle.std.proofs.Common.{◌≡◌, ◌≢◌, ℕ, ◌+◌, ◌-◌, ◌*◌, ◌≤◌, max, inl, inr, arith, Bool, List, [], ◌∷◌, ◌++◌, Result, Err, Ok, sym, subst}
use Rattle.zmtp_wire.specs.declared.fault.WireFault.{WireFault}
use Rattle.zmtp_wire.specs.declared.fault.WireFault.TheVariants.{BadSignature, OldVersion, BadMechanism, ReservedBits, CommandWithMore, TooLong, Memory}
use Rattle.zmtp_wire.specs.Frame.{Frame}
use Rattle.zmtp_wire.specs.Stream.{Rest, whole, Takes, IsFaultAt}
use Rattle.zmtp_wire.specs.Decoding.{Decoding, fed, SameButRoom, IsMostlyLeft, HasGiven, Tells}
use Rattle.zmtp_wire.proofs.Streams.{leaves_longer, leaves_more}

-- a piece more
pub given_fed : (d : Decoding) (octets piece : List ℕ) (given : List Frame) → HasGiven d octets given → HasGiven (fed d piece) (octets ++ piece) given
given_fed d octets piece given has = leaves_longer given (whole octets) d.rest piece has

-- a frame more
pub given_more : (d : Decoding) (octets : List ℕ) (given : List Frame) (f : Frame) (next : Rest) → HasGiven d octets given → Takes d.rest f next →
    HasGiven (record { rest = next; before = d.before; room = d.room }) octets (given ++ f ∷ [])
given_more d octets given f next has takes = leaves_more given f (whole octets) d.rest next has takes

-- a fault
pub tells_fault : (fault : WireFault) (d : Decoding) (octets : List ℕ) (given : List Frame) → HasGiven d octets given →
    (fault ≢ Memory → IsFaultAt d.rest fault) → Tells octets given (Err fault) d
tells_fault Memory d octets given has at = has
tells_fault BadSignature d octets given has at = (d.rest, has, at (λ e. cc))
tells_fault OldVersion d octets given has at = (d.rest, has, at (λ e. cc))
tells_fault BadMechanism d octets given has at = (d.rest, has, at (λ e. cc))
tells_fault ReservedBits d octets given has at = (d.rest, has, at (λ e. cc))
tells_fault CommandWithMore d octets given has at = (d.rest, has, at (λ e. cc))
tells_fault TooLong d octets given has at = (d.rest, has, at (λ e. cc))

-- the frames that were given, with a piece more
pub given_longer : (old new : Decoding) (piece : List ℕ) → SameButRoom (fed old piece) new
    → (octets : List ℕ) (given : List Frame) → HasGiven old octets given → HasGiven new (octets ++ piece) given
given_longer old new piece same octets given has =
    subst (λ (d : Decoding). HasGiven d (octets ++ piece) given) (sym same) (given_fed old octets piece given has)

-- an error that is handed on
pub err_of : {T : Type 0} (r : Result T WireFault) (fault : WireFault) (Q : WireFault → Type 0) → IsErrAnd r (λ e. e ≡ fault) → Q fault → IfErr r Q
err_of (Ok x) fault Q is q = tt
err_of (Err e) fault Q is q = subst Q (sym is) q

pub tells_of : (r : Result (Option code.Frame) WireFault) (fault : WireFault) (d : Decoding) (octets : List ℕ) (given : List Frame) →
    IsErrAnd r (λ e. e ≡ fault) → Tells octets given (Err fault) d → Tells octets given r d
tells_of (Ok x) fault d octets given is tells = absurd is
tells_of (Err e) fault d octets given is tells = subst (λ (f : WireFault). Tells octets given (Err f) d) (sym is) tells

-- a frame whose body was copied
pub takes_copy : (rest behind : Rest) (more command : Bool) (body copy : List ℕ) → copy ≡ body →
    Takes rest (record { more = more; command = command; body = body }) behind
    → Takes rest (record { more = more; command = command; body = copy }) behind
takes_copy rest behind more command body copy same takes =
    let P : List ℕ → Type 0 = λ b. Takes rest (record { more = more; command = command; body = b }) behind in
    subst P (sym same) takes

-- memory for twice what is kept is memory for four times what isn't given
pub most-room : (given kept left piece old mid new : ℕ) → IsMostlyLeft given kept → kept - given ≡ left → given ≤ kept → mid ≤ old →
    new ≤ max mid (2 * (kept + piece)) → new ≤ max old (4 * (left + piece))
most-room given kept left piece old mid new (inl none) is within less more = omega (arith, none, is, less, more)
most-room given kept left piece old mid new (inr few) is within less more = omega (arith, few, is, less, more)

-- and where all was given, of what comes
pub least-room : (given kept piece most mid new : ℕ) → IsMostlyLeft given kept → kept - given ≡ 0 → given ≤ kept → mid ≤ most →
    new ≤ max mid (2 * (kept + piece)) → new ≤ max most (4 * piece)
least-room given kept piece most mid new (inl none) is within less more = omega (arith, none, is, less, more)
least-room given kept piece most mid new (inr few) is within less more = omega (arith, few, is, within, less, more)
