-- One broadcast more.
use Rattle.std.proofs.Common.{◌≡◌, ◌+◌, ℕ, List, [], ◌∷◌, ◌++◌, inl, inr, refl, sym, ap, ◌∙◌, append_assoc, take, drop}
use Rattle.std.specs.List.{flat_map}
use Rattle.std.proofs.lemmas.Grind.{flat_map-append}
use Rattle.std.proofs.lemmas.List.{take-append-drop, flat_map_more}
use Rattle.zmtp_peer.specs.Events.{Event}
use Rattle.zmtp_peer.specs.Subscriptions.{IsWanted}
use Rattle.kernel_board.specs.Frames.{Frames, topic_of}
use Rattle.kernel_iopub.specs.Round.{AreWanted}

pub wanted_more : (events : List Event) (bs : List Frames) (b : Frames) (kept : List Frames) → AreWanted events bs kept → IsWanted events (topic_of b)
    → AreWanted events (bs ++ b ∷ []) (kept ++ b ∷ [])
wanted_more events [] b kept p w = inl (w, [], refl, ap (λ (x : List Frames). x ++ b ∷ []) p)
wanted_more events (x ∷ xs) b kept (inl q) w =
    inl (q.0, q.1 ++ b ∷ [], wanted_more events xs b q.1 q.2 w, ap (λ (t : List Frames). t ++ b ∷ []) q.3)
wanted_more events (x ∷ xs) b kept (inr q) w = inr (q.0, wanted_more events xs b kept q.1 w)

pub unwanted_more : (events : List Event) (bs : List Frames) (b : Frames) (kept : List Frames) → AreWanted events bs kept → ¬ (IsWanted events (topic_of b))
    → AreWanted events (bs ++ b ∷ []) kept
unwanted_more events [] b kept p w = inr (w, p)
unwanted_more events (x ∷ xs) b kept (inl q) w = inl (q.0, q.1, unwanted_more events xs b q.1 q.2 w, q.3)
unwanted_more events (x ∷ xs) b kept (inr q) w = inr (q.0, unwanted_more events xs b kept q.1 w)

-- the broadcasts before one, it, and those behind it
pub split_at : {X A : Type 0} (f : X → List A) (xs : List X) (i : ℕ) (x : X) → take (i + 1) xs ≡ take i xs ++ x ∷ []
    → flat_map f xs ≡ flat_map f (take i xs) ++ (f x ++ flat_map f (drop (i + 1) xs))
split_at f xs i x e =
    ap (λ t. flat_map f t) (sym (take-append-drop (i + 1) xs) ∙ ap (λ t. t ++ drop (i + 1) xs) e)
    ∙ flat_map-append f (take i xs ++ x ∷ []) (drop (i + 1) xs)
    ∙ ap (λ t. t ++ flat_map f (drop (i + 1) xs)) (sym (flat_map_more f [] (take i xs) x))
    ∙ append_assoc (flat_map f (take i xs)) (f x) (flat_map f (drop (i + 1) xs))
