-- Messages: how they are written, and that what is written is read again.
use Rattle.std.proofs.Common.{◌≡◌, ℕ, ◌+◌, ◌<◌, ◌≤◌, Bool, true, false, List, [], ◌∷◌, ◌++◌, length, take, drop, sum_by, sym, ap, ◌∙◌, refl, arith}
use Rattle.std.proofs.Common.{append_assoc, append-nil, take-append-drop, take_all, get_or, Result, Ok, Err, OnOk, nat_lt}
use Rattle.std.proofs.Math.Seq.{take-append_seam}
use Rattle.std.proofs.lemmas.List.{map-append}
use Rattle.std.proofs.lemmas.List.Folds.{flat_map-map}
use Rattle.std.proofs.lemmas.List.Sums.{sum_by_more_le, sum_by-cons}
use Rattle.std.proofs.lemmas.Bool.Decides.{nat_tests}
use Rattle.std.specs.List.{flat_map}
use Rattle.std.specs.Global.{Vec}
use Rattle.zmtp_wire.specs.Frame.{written}
use Rattle.zmtp_wire.specs.declared.tally.Tally.{Tally}
use Rattle.zmtp_wire.specs.Header.{size_bound, header_octets}
use Rattle.zmtp_wire.specs.Frame.{IsFrame}
use Rattle.zmtp_wire.specs.Tally.{octet_limit, frame_limit}
use Rattle.zmtp_wire.specs.Message.{bodies_of, message_frames, message_octets}
use Rattle.zmtp_wire.specs.Stream.{whole, Leaves}
use Rattle.zmtp_wire.specs.Laws.{MessagesAreReadBack}

-- what stands before stays, if what stands before with more behind it does
pub front_kept : (old more mid new : List ℕ) → mid ≡ old ++ more → take (length mid) new ≡ mid → take (length old) new ≡ old
front_kept old more mid new longer kept =
    let rest = drop (length mid) new in
    let parts : new ≡ old ++ (more ++ rest) =
    sym (take-append-drop (length mid) new) ∙ ap (λ s. s ++ rest) (kept ∙ longer) ∙ append_assoc old more rest in
    ap (take (length old)) parts ∙ take-append_seam old (more ++ rest)

-- a frame of a message, as it is written
abbrev pub part : Bool → List ℕ → List ℕ
part more body = written (record { more = more; command = false; body = body })

-- the frames before the last, and the last
parts-last : (others : List (List ℕ)) (last : List ℕ) → message_octets (others ++ last ∷ []) ≡ flat_map (part true) others ++ part false last
parts-last [] last = append-nil (part false last)
parts-last (body ∷ []) last =
    ap (λ s. part true body ++ s) (append-nil (part false last)) ∙ ap (λ s. s ++ part false last) (sym (append-nil (part true body)))
parts-last (body ∷ other ∷ others) last =
    ap (λ s. part true body ++ s) (parts-last (other ∷ others) last)
    ∙ sym (append_assoc (part true body) (flat_map (part true) (other ∷ others)) (part false last))

-- the same of the program's bodies
pub message-last : (bodies others : List (Vec ℕ)) (last : Vec ℕ) → bodies ≡ others ++ last ∷ []
    → message_octets (bodies_of bodies) ≡ flat_map (λ body. part true body.items) others ++ part false last.items
message-last bodies others last split =
    ap (λ bs. message_octets (bodies_of bs)) split ∙ ap message_octets (map-append (λ (b : Vec ℕ). b.items) others (last ∷ []))
    ∙ parts-last (bodies_of others) last.items ∙ ap (λ s. s ++ part false last.items) (flat_map-map (part true) (λ (b : Vec ℕ). b.items) others)

-- ---- sizes

pub sizes : (bodies : List (Vec ℕ)) → sum_by length (bodies_of bodies) ≡ sum_by (λ (b : Vec ℕ). length b.items) bodies
sizes [] = refl
sizes (body ∷ bodies) =
    sum_by-cons length body.items (bodies_of bodies) ∙ ap (λ n. length body.items + n) (sizes bodies)
    ∙ sym (sum_by-cons (λ (b : Vec ℕ). length b.items) body bodies)

-- a sum that goes past a bound part of the way does so at the end
pub sum_past : (bodies : List (Vec ℕ)) (i : ℕ) (body : Vec ℕ) (bound : ℕ) → i < length bodies →
    bound < sum_by (λ (b : Vec ℕ). length b.items) (take i bodies) + length (get_or bodies i body).items
    → bound < sum_by length (bodies_of bodies)
sum_past bodies i body bound in_it past =
    let all = sum_by_more_le (λ (b : Vec ℕ). length b.items) bodies i body in_it in
    omega (arith, sizes bodies)

-- ---- what is written

pub message_written : {T E : Type 0} (r : Result T E) (old mid new body : List ℕ) (bodies others : List (Vec ℕ)) (last : Vec ℕ) (i : ℕ)
    → bodies ≡ others ++ last ∷ [] → mid ≡ old ++ flat_map (λ (b : Vec ℕ). part true b.items) (take i others) → length others ≤ i → body ≡ last.items
    → OnOk r (new ≡ mid ++ part false body) → OnOk r (new ≡ old ++ message_octets (bodies_of bodies))
message_written (Err e) old mid new body bodies others last i split so_far whole same written = tt
message_written (Ok x) old mid new body bodies others last i split so_far whole same written =
    let front : List ℕ = flat_map (λ (b : Vec ℕ). part true b.items) others in
    let all : mid ≡ old ++ front = so_far ∙ ap (λ bs. old ++ flat_map (λ (b : Vec ℕ). part true b.items) bs) (take_all i others whole) in
    written ∙ ap (λ s. s ++ part false body) all ∙ append_assoc old front (part false body) ∙ ap (λ b. old ++ (front ++ part false b)) same
    ∙ ap (λ s. old ++ s) (sym (message-last bodies others last split))

-- ---- what is written is read

pub size_fits : (n : ℕ) → n ≤ octet_limit → n < size_bound (nat_lt 255 n)
size_fits n small = grind (arith, nat_tests)

part_frame : (more : Bool) (body : List ℕ) → length body ≤ octet_limit → IsFrame (part more body) (record { more = more; command = false; body = body })
part_frame more body small = record {
  head = header_octets (nat_lt 255 (length body)) (record { more = more; command = false; size = length body });
  spelled = refl;
  header = record { long = nat_lt 255 (length body); spelled = refl; bounded = size_fits (length body) small; allowed = refl };
}

-- the frames of a message, behind those that the tally tells
frames_taken : (bodies : List (List ℕ)) (t : Tally) (more : List ℕ) → 0 < length bodies → t.octets + sum_by length bodies ≤ octet_limit →
    t.frames + length bodies ≤ frame_limit
    → Leaves (record { octets = message_octets bodies ++ more; tally = t }) (message_frames bodies) (whole more)
frames_taken [] t more some octets frames = absurd (omega arith)
frames_taken (body ∷ []) t more some octets frames =
    let sum = sum_by-cons length body [] in (
      whole more,
      record {
        taken = part false body;
        front = ap (λ s. s ++ more) (append-nil (part false body));
        frame = part_frame false body (omega arith);
        fits = record { octets = omega arith; frames = omega arith };
        tally = refl;
      },
      refl,
    )
frames_taken (body ∷ other ∷ bodies) t more some octets frames =
    let sum = sum_by-cons length body (other ∷ bodies) in
    let next : Tally = record { octets = t.octets + length body; frames = t.frames + 1 } in (
      record { octets = message_octets (other ∷ bodies) ++ more; tally = next },
      record {
        taken = part true body;
        front = append_assoc (part true body) (message_octets (other ∷ bodies)) more;
        frame = part_frame true body (omega arith);
        fits = record { octets = omega arith; frames = omega arith };
        tally = refl;
      },
      frames_taken (other ∷ bodies) next more (omega arith) (omega arith) (omega arith),
    )

pub messages_are_read_back : MessagesAreReadBack
messages_are_read_back bodies more some within =
    let octets = within.octets in
    let frames = within.frames in
    frames_taken bodies (whole more).tally more some (omega arith) (omega arith)
