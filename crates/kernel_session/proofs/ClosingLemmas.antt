-- What the end of the input brings, from its parts.
use Rattle.std.proofs.Common.{◌≡◌, ℕ, List, [], ◌∷◌, ◌++◌, Option, refl, sym, ap, ◌∙◌, subst, append_assoc, append-nil}
use Rattle.std.proofs.lemmas.List.{map-append}
use Rattle.std.specs.Io.KnownBytes.{Appends}
use Rattle.zmtp_peer.specs.Events.{Event}
use Rattle.kernel_board.specs.Frames.{Frames}
use Rattle.kernel_session.specs.Call.{Call, Kept}
use Rattle.exact_write.specs.Sent.{SentSome}
use Rattle.kernel_session.specs.Action.{Action, Sent, Acts, sends, asks}
use Rattle.kernel_session.specs.Closing.{IsShown, AreShown, IsFarewell, IsFarewellPart}
use Rattle.kernel_session.specs.Parts.{ActedPart}
use Rattle.kernel_session.proofs.ActsLemmas.{leads_one, acts_none, acts_join, acts_asks, acts_sends}
use Rattle.kernel_session.proofs.RequestLemmas.{starts_with}

-- one broadcast more
pub shown_more : (events : List Event) (bs : List Frames) (b : Frames) (octets more : List ℕ) → AreShown events bs octets → IsShown events b more
    → AreShown events (bs ++ b ∷ []) (octets ++ more)
shown_more events [] b octets more p q = (more, [], q, refl, ap (λ (x : List ℕ). x ++ more) p ∙ sym (append-nil more))
shown_more events (x ∷ xs) b octets more p q = (
  p.0,
  p.1 ++ more,
  p.2,
  shown_more events xs b p.1 more p.3 q,
  ap (λ (t : List ℕ). t ++ more) p.4 ∙ append_assoc p.0 p.1 more,
)

module _ {W D : Type 0} (contents : W → Option (List ℕ)) (leads : D → Call → D → Type 0) (w w' : W) (d d' : D) (events : List Event) where
  pub farewell_whole : (kept : List Frames) → leads d (Kept kept) d' → (octets : List ℕ) → AreShown events kept octets
      → Appends (contents w) (contents w') octets → (closing : List Action) × IsFarewell events closing × Acts contents leads w w' d d' closing
  farewell_whole kept p octets q r = (
    asks (Kept kept ∷ []) ++ sends octets,
    record { kept = kept; octets = octets; shown = q; brings = refl },
    acts_join contents leads w w w' d d' d' _ _ (acts_asks contents leads w d d' (Kept kept ∷ []) (leads_one leads d d' (Kept kept) p))
        (acts_sends contents leads w w' d' octets r),
  )

  pub farewell_part : (front later : List Frames) → leads d (Kept (front ++ later)) d' → (octets : List ℕ) → AreShown events front octets
      → SentSome (contents w) (contents w') octets → (closing : List Action) × IsFarewellPart events closing × ActedPart contents leads w w' d d' closing
  farewell_part front later p octets q r =
      let kept = front ++ later in
      let first = asks (Kept kept ∷ []) in (
        first ++ sends octets,
        record { front = front; later = later; octets = octets; shown = q; brings = refl },
        (
          first ++ sends r.0,
          acts_join contents leads w w w' d d' d' _ _ (acts_asks contents leads w d d' (Kept kept ∷ []) (leads_one leads d d' (Kept kept) p))
              (acts_sends contents leads w w' d' r.0 r.3),
          starts_with first (sends r.0) (sends octets) (sends r.1, ap (λ (x : List ℕ). sends x) r.2 ∙ map-append Sent r.0 r.1),
        ),
      )

  -- the desk found no memory
  pub farewell_none : d' ≡ d → w' ≡ w → (closing : List Action) × IsFarewellPart events closing × ActedPart contents leads w w' d d' closing
  farewell_none e f = (
    asks (Kept [] ∷ []) ++ [],
    record { front = []; later = []; octets = []; shown = refl; brings = refl },
    (
      [],
      subst (λ (x : D). Acts contents leads w w' d x []) (sym e) (subst (λ (x : W). Acts contents leads w x d d []) (sym f) (acts_none contents leads w d)),
      (asks (Kept [] ∷ []) ++ [], refl),
    ),
  )
