-- A message of which a beginning has gone out.
use Rattle.std.proofs.Common.{◌≡◌, ℕ, ◌+◌, ◌<◌, ◌≤◌, true, false, List, [], ◌∷◌, ◌++◌, length, take, drop, Option, sym, ap, ◌∙◌, subst, append_assoc}
use Rattle.std.proofs.Common.{append-nil, take-append-drop, take_all, get_or, Result, Ok, Err, OnOk, OnErr}
use Rattle.std.proofs.lemmas.List.{take_more}
use Rattle.std.proofs.lemmas.Grind.{flat_map-append}
use Rattle.std.specs.List.{flat_map}
use Rattle.std.specs.Global.{Vec}
use Rattle.exact_write.specs.Sent.{SentSome}
use Rattle.exact_write.proofs.SendLemmas.{appends_join, sent_first, sent_then}
use Rattle.zmtp_wire.specs.Message.{bodies_of, message_octets}
use Rattle.zmtp_wire.specs.UnderWay.{IsUnderWay}
use Rattle.zmtp_wire.proofs.Messages.{part, message-last}

module _ (a b c : Option (List ℕ)) (octets mid : List ℕ) (so_far : IsUnderWay a b octets mid) where
  -- more octets behind those
  pub under_way_more : (more rest : List ℕ) → IsUnderWay b c (mid ++ more) rest → IsUnderWay a c (octets ++ more) rest
  under_way_more more rest (next, e, p) = (
    so_far.0 ++ next,
    ap (λ l. l ++ more) so_far.1 ∙ append_assoc so_far.0 mid more ∙ ap (λ l. so_far.0 ++ l) e ∙ sym (append_assoc so_far.0 next rest),
    appends_join a b c so_far.0 next so_far.2 p,
  )

  pub sent_more : (more : List ℕ) → SentSome b c (mid ++ more) → SentSome a c (octets ++ more)
  sent_more more p =
      subst (SentSome a c) (sym (ap (λ l. l ++ more) so_far.1 ∙ append_assoc so_far.0 mid more)) (sent_then a b c so_far.0 (mid ++ more) so_far.2 p)

  -- of what is left a beginning goes out
  pub sent_rest : {E : Type 0} (r : Result (Unit {0}) E) (rest : List ℕ) → rest ≡ mid → OnErr r (SentSome b c rest) → OnErr r (SentSome a c octets)
  sent_rest (Ok x) rest same p = tt
  sent_rest (Err e) rest same p =
      subst (SentSome a c) (sym so_far.1) (sent_then a b c so_far.0 mid so_far.2 (subst (SentSome b c) same p))

-- ---- the frames of a message

abbrev parts : List (Vec ℕ) → List ℕ
parts bodies = flat_map (λ (b : Vec ℕ). part true b.items) bodies

-- the frames up to the next one
pub parts_next : (others : List (Vec ℕ)) (i : ℕ) (item : Vec ℕ) (body : List ℕ) → i < length others → item ≡ get_or others i item → body ≡ item.items
    → parts (take (i + 1) others) ≡ parts (take i others) ++ part true body
parts_next others i item body lt is value =
    ap parts (take_more others i item lt ∙ ap (λ (b : Vec ℕ). take i others ++ b ∷ []) (sym is))
    ∙ flat_map-append (λ (b : Vec ℕ). part true b.items) (take i others) (item ∷ [])
    ∙ ap (λ l. parts (take i others) ++ l) (append-nil (part true item.items) ∙ ap (part true) (sym value))

module _ (a b c : Option (List ℕ)) (bodies others : List (Vec ℕ)) (last : Vec ℕ) (split : bodies ≡ others ++ last ∷ []) (i : ℕ) (mid : List ℕ)
    (so_far : IsUnderWay a b (parts (take i others)) mid) where
  -- the message begins with its first frames
  first_parts : (j : ℕ) → message_octets (bodies_of bodies) ≡ parts (take j others) ++ (parts (drop j others) ++ part false last.items)
  first_parts j =
      message-last bodies others last split
      ∙ ap (λ l. l ++ part false last.items)
      (ap parts (sym (take-append-drop j others)) ∙ flat_map-append (λ (b : Vec ℕ). part true b.items) (take j others) (drop j others))
      ∙ append_assoc (parts (take j others)) (parts (drop j others)) (part false last.items)

  module _ (item : Vec ℕ) (body : List ℕ) (lt : i < length others) (is : item ≡ get_or others i item) (value : body ≡ item.items) where
    pub under_way_next : (rest : List ℕ) → IsUnderWay b c (mid ++ part true body) rest → IsUnderWay a c (parts (take (i + 1) others)) rest
    under_way_next rest p =
        subst (λ (octets : List ℕ). IsUnderWay a c octets rest) (sym (parts_next others i item body lt is value))
        (under_way_more a b c (parts (take i others)) mid so_far (part true body) rest p)

    pub sent_next : SentSome b c (mid ++ part true body) → SentSome a c (message_octets (bodies_of bodies))
    sent_next p =
        let next =
        subst (SentSome a c) (sym (parts_next others i item body lt is value)) (sent_more a b c (parts (take i others)) mid so_far (part true body) p) in
        subst (SentSome a c) (sym (first_parts (i + 1))) (sent_first a c (parts (take (i + 1) others)) _ next)

  module _ (body : List ℕ) (whole : length others ≤ i) (value : body ≡ last.items) where
    all_parts : message_octets (bodies_of bodies) ≡ parts (take i others) ++ part false body
    all_parts =
        message-last bodies others last split ∙ ap (λ (b : List ℕ). parts others ++ part false b) (sym value)
        ∙ ap (λ (bs : List (Vec ℕ)). parts bs ++ part false body) (sym (take_all i others whole))

    pub under_way_last : {E : Type 0} (r : Result (Unit {0}) E) (rest : List ℕ) → OnOk r (IsUnderWay b c (mid ++ part false body) rest)
        → OnOk r (IsUnderWay a c (message_octets (bodies_of bodies)) rest)
    under_way_last (Ok x) rest p =
        subst (λ (octets : List ℕ). IsUnderWay a c octets rest) (sym all_parts)
        (under_way_more a b c (parts (take i others)) mid so_far (part false body) rest p)
    under_way_last (Err e) rest p = tt

    pub sent_last : {E : Type 0} (r : Result (Unit {0}) E) → OnErr r (SentSome b c (mid ++ part false body))
        → OnErr r (SentSome a c (message_octets (bodies_of bodies)))
    sent_last (Ok x) p = tt
    sent_last (Err e) p = subst (SentSome a c) (sym all_parts) (sent_more a b c (parts (take i others)) mid so_far (part false body) p)
