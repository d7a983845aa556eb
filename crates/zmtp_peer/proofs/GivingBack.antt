-- A large memory is given back.
use Rattle.std.proofs.Common.{◌≡◌, ◌≤◌, ◌*◌, ℕ, List, [], ◌∷◌, ◌++◌, length, sym, ap, subst, ◌∙◌, refl, Result, Ok, Err, OnOk, is_err, false}
use Rattle.std.proofs.lemmas.Bool.{false≢true}
use Rattle.std.specs.Prelude.{max}
use Rattle.zmtp_wire.specs.Decoding.{Decoding, fed, SameButRoom}
use Rattle.zmtp_wire.specs.declared.decoder.TheConstants.{KEPT_BUFFER_OCTETS}
use Rattle.zmtp_peer.specs.Reading.{GivesBack}

none_both : (xs ys : List ℕ) → xs ++ ys ≡ [] → (xs ≡ []) × (ys ≡ [])
none_both [] ys e = (refl, e)
none_both (x ∷ xs) ys e = absurd (cc e)

-- a piece leaves nothing only where there was nothing and it is empty
piece_gives_back : (old new : Decoding) (piece : List ℕ) → SameButRoom (fed old piece) new →
    (old.rest.octets ≡ [] → new.room ≤ max KEPT_BUFFER_OCTETS (4 * length piece)) → GivesBack new.rest new.room
piece_gives_back old new piece same room = λ none.
    let both = none_both old.rest.octets piece (sym (ap (λ (d : Decoding). d.rest.octets) same) ∙ none) in
    subst (λ (p : List ℕ). new.room ≤ max KEPT_BUFFER_OCTETS (4 * length p)) both.1 (room both.0)

-- the same behind a call that was no error
pub fed_gives_back : {T E : Type 0} (r : Result T E) (old new : Decoding) (piece : List ℕ) → is_err r ≡ false → OnOk r (SameButRoom (fed old piece) new)
    → OnOk r (old.rest.octets ≡ [] → new.room ≤ max KEPT_BUFFER_OCTETS (4 * length piece)) → GivesBack new.rest new.room
fed_gives_back (Ok x) old new piece ok same room = piece_gives_back old new piece same room
fed_gives_back (Err e) old new piece ok same room = absurd (false≢true (sym ok))
