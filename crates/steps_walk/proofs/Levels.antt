-- The codes and the places of levels.
use Rattle.std.proofs.Common.{◌≡◌, ℕ, zero, suc, ◌-◌, ◌<◌, length, get_or, reverse, refl, ap, ◌∙◌, sym, subst, arith}
use Rattle.std.specs.Prelude.{slice_get, Some, None}
use Rattle.std.proofs.lemmas.Option.{slice_get-get_or}
use Rattle.janus_machine.specs.declared.whereabouts.OpenCall.{OpenCall}
use Rattle.janus_machine.specs.Cursor.{direction_of, calls_of}
use Rattle.janus_machine.specs.Whereabouts.{IsCallOf, IsWrittenAt, faces_inverse}
use Rattle.steps_walk.specs.declared.body.Body.{Body}
use Rattle.steps_walk.specs.declared.level.Level.{Level}
use Rattle.steps_walk.specs.declared.walk.Walk.{Walk}
use Rattle.steps_walk.specs.Walk.{runner_of, program_of, bodies_of, calls_in}
use Rattle.steps_walk.specs.Standing.{IsBodyAt, IsCalledAt, IsCodeAt, IsPlaceOf, IsHere, way_outside, way_at}

module _ {L : Type 0} (w : Walk L) where
  pub body_there : (number k : ℕ) (b : Body) → b ≡ get_or (bodies_of w) k b → k < length (bodies_of w) → b.number ≡ number → IsBodyAt w number k
  body_there number k b is within named = record {
    body = b;
    there = slice_get-get_or (bodies_of w) k b within ∙ ap Some (sym is);
    named = named;
  }

  pub own_code : (i : ℕ) → IsCalledAt w i None → IsCodeAt w i None
  own_code zero e = refl
  own_code (suc i) e = absurd e

  pub called_code : (i number k : ℕ) → IsCalledAt w i (Some number) → IsBodyAt w number k → IsCodeAt w i (Some k)
  called_code zero number k e b = absurd (cc)
  called_code (suc i) number k e b = record {
    call = e.0;
    there = e.1;
    runs = record { body = b.body; there = b.there; named = b.named ∙ e.2 };
  }

  pub called_at : (i : ℕ) (r : OpenCall) → 0 < i → IsCallOf (runner_of w).cursor (i - 1) r → IsCalledAt w i (Some r.procedure)
  called_at zero r some h = absurd (omega arith)
  called_at (suc i) r some h =
      let z : suc i - 1 ≡ i = omega arith in
      (h.call, subst (λ k. slice_get (reverse (calls_of (runner_of w).cursor)) k ≡ Some h.call) z h.there, h.procedure)

  pub place_of_call : (i : ℕ) (r : OpenCall) → IsCallOf (runner_of w).cursor i r → IsPlaceOf w i r.place
  place_of_call i r h = (h.call, h.there, h.place)

  -- the innermost level faces as the cursor does
  pub here_at : (i : ℕ) (level : Level) → i ≡ calls_in w → IsWrittenAt (runner_of w).procedures (program_of w).book (runner_of w).cursor level.at →
      level.inverse ≡ faces_inverse (way_at w i) → IsHere w level
  here_at i level e written faces =
      let z : calls_in w - i ≡ 0 = omega (arith, e) in
      record {
        written = written;
        faces = faces
            ∙ ap (λ k. faces_inverse (way_outside (direction_of (runner_of w).cursor) (calls_of (runner_of w).cursor) k)) z;
      }
