-- A pong that is written is read again, and how many octets it and what it answers have.
use Rattle.std.proofs.Common.{◌≡◌, ℕ, ◌+◌, ◌≤◌, Bool, true, false, List, ◌∷◌, ◌++◌, length, length-append, refl, ap, sym, ◌∙◌, arith, nat_lt, codes}
use Rattle.zmtp_wire.specs.Header.{header_octets}
use Rattle.zmtp_wire.specs.Frame.{Frame, IsFrame, header_of}
use Rattle.zmtp_wire.specs.Tally.{octet_limit}
use Rattle.zmtp_wire.specs.Pong.{pong, pong_octets, context_limit}
use Rattle.zmtp_wire.specs.Laws.{PongsAreReadBack}
use Rattle.std.proofs.lemmas.Bool.Decides.{nat_tests}
use Rattle.zmtp_wire.proofs.Messages.{size_fits}
use Rattle.zmtp_wire.proofs.Octets.{length-eight_octets}

-- the command has five octets beside the context
pong-small : (context : List ℕ) → length context ≤ context_limit → length (pong context).body ≤ octet_limit
pong-small context short = omega (arith, length-append (codes "PONG") context)

pong-frame : (context : List ℕ) → length context ≤ context_limit → IsFrame (pong_octets context) (pong context)
pong-frame context short = record {
  head = header_octets (nat_lt 255 (length (pong context).body)) (header_of (pong context));
  spelled = refl;
  header = record {
    long = nat_lt 255 (length (pong context).body);
    spelled = refl;
    bounded = size_fits (length (pong context).body) (pong-small context short);
    allowed = refl;
  };
}

pub pongs_are_read_back : PongsAreReadBack
pongs_are_read_back rest context short = (
  rest,
  record {
    taken = pong_octets context;
    front = refl;
    frame = pong-frame context short;
    fits = record { octets = omega (arith, pong-small context short); frames = omega arith };
    tally = refl;
  },
  refl,
)

-- its size fits one octet
pub pong-short : (context : List ℕ) → length context ≤ context_limit → pong_octets context ≡ 4 ∷ length (pong context).body ∷ (pong context).body
pong-short context short =
    let long : nat_lt 255 (length (pong context).body) ≡ false = grind (arith, nat_tests) in
    ap (λ l. header_octets l (header_of (pong context)) ++ (pong context).body) long

-- octets that are read so are a pong
pub pong-read : (octets behind body context : List ℕ) (flags size : ℕ) → octets ≡ flags ∷ behind → behind ≡ size ∷ body → flags ≡ 4 → size ≡ length body
    → body ≡ (pong context).body → length context ≤ context_limit → octets ≡ pong_octets context
pong-read octets behind body context flags size front next command sized is short =
    front ∙ ap (λ b. flags ∷ b) next ∙ ap (λ f. f ∷ size ∷ body) command ∙ ap (λ n. 4 ∷ n ∷ body) sized ∙ ap (λ b. 4 ∷ length b ∷ b) is
    ∙ sym (pong-short context short)

-- flags, size and name with its length are seven octets
pub length-pong : (context : List ℕ) → length context ≤ context_limit → length (pong_octets context) ≡ 7 + length context
length-pong context short = omega (arith, ap length (pong-short context short))

-- octets that are two pongs have two contexts of one length
pub one_length : (octets one other : List ℕ) → length one ≤ context_limit → length other ≤ context_limit → octets ≡ pong_octets one → octets ≡ pong_octets other
    → length one ≡ length other
one_length octets one other short small is_one is_other =
    let a : length octets ≡ 7 + length one = ap length is_one ∙ length-pong one short in
    let b : length octets ≡ 7 + length other = ap length is_other ∙ length-pong other small in
    omega arith

-- flags and a size stand before the body, in either form
pub frame-octets : (octets : List ℕ) (f : Frame) → IsFrame octets f → 2 + length f.body ≤ length octets
frame-octets octets f is = by_form is.header.long is.header.spelled
  where
    by_form : (long : Bool) → is.head ≡ header_octets long (header_of f) → 2 + length f.body ≤ length octets
    by_form false e = omega (arith, ap length e, ap length is.spelled, length-append is.head f.body)
    by_form true e = omega (arith, ap length e, ap length is.spelled, length-append is.head f.body, length-eight_octets (length f.body))
