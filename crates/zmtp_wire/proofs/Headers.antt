-- Headers at the front of octets: octets have one header at most, and no fault in it.
use Rattle.std.proofs.Common.{◌≡◌, ℕ, suc, ◌-◌, ◌<◌, Bool, true, false, ◌&&◌, List, [], ◌∷◌, ◌++◌, length, replicate, sym, ap, ◌∙◌, refl, subst, arith}
use Rattle.std.proofs.Common.{append_assoc, append-nil, length-append}
use Rattle.std.proofs.lemmas.List.{length-replicate}
use Rattle.std.specs.Int.{w64, from_be_bytes}
use Rattle.zmtp_wire.specs.declared.header.Header.{Header}
use Rattle.zmtp_wire.specs.declared.fault.WireFault.{WireFault}
use Rattle.zmtp_wire.specs.declared.fault.WireFault.TheVariants.{BadSignature, OldVersion, BadMechanism, ReservedBits, CommandWithMore, TooLong, Memory}
use Rattle.zmtp_wire.specs.Header.{flags, size_octets, size_bound, header_octets}
use Rattle.zmtp_wire.specs.Fronts.{HasHeader, IsHeaderBegun, IsBadFlags, HasBadFlags}
use Rattle.zmtp_wire.proofs.Octets.{flags_tell, flags_below, length-eight_octets, eight_octets-read, size_bounded, length-size_octets, size_octets_tell}
use Rattle.zmtp_wire.proofs.Octets.{fronts_equal, AreOctets, are_octets_append, are_octets_zeros}

-- the tail of a list that isn't empty
tails_equal : {A : Type 0} (x y : A) (xs ys : List A) → x ∷ xs ≡ y ∷ ys → (x ≡ y) × (xs ≡ ys)
tails_equal x y xs ys e = ((cc), (cc))

-- two sizes of one form at the front of one list
sizes_equal : (l : Bool) (n k : ℕ) (x y : List ℕ) → n < size_bound l → k < size_bound l → size_octets l n ++ x ≡ size_octets l k ++ y → (n ≡ k) × (x ≡ y)
sizes_equal l n k x y small little e =
    let both = fronts_equal (size_octets l n) (size_octets l k) x y (length-size_octets l n k) e in
    (size_octets_tell l n k small little both.0, both.1)

same_header : (h k : Header) → h.more ≡ k.more → h.command ≡ k.command → h.size ≡ k.size → h ≡ k
same_header h k more command size =
    let a : Bool → Header = λ b. record { more = b; command = h.command; size = h.size } in
    let b : Bool → Header = λ b. record { more = k.more; command = b; size = h.size } in
    let c : ℕ → Header = λ n. record { more = k.more; command = k.command; size = n } in
    ap a more ∙ ap b command ∙ ap c size

-- what stands at the front is one header
one_header-spelled : (h k : Header) (l r : Bool) (x y : List ℕ) → h.size < size_bound l → k.size < size_bound r →
    header_octets l h ++ x ≡ header_octets r k ++ y → (h ≡ k) × (x ≡ y)
one_header-spelled h k l r x y small little e =
    let parts = tails_equal (flags h.more l h.command) (flags k.more r k.command) (size_octets l h.size ++ x) (size_octets r k.size ++ y) e in
    let bits = flags_tell h.more l h.command k.more r k.command parts.0 in
    let P : Bool → Type 0 = λ b. (k.size < size_bound b) × (size_octets l h.size ++ x ≡ size_octets b k.size ++ y) in
    let same = subst P (sym bits.1) (little, parts.1) in
    let sizes = sizes_equal l h.size k.size x y small same.0 same.1 in
    (same_header h k bits.0 bits.2 sizes.0, sizes.1)

pub one_header : (octets : List ℕ) (h k : Header) (x y : List ℕ) → HasHeader octets h x → HasHeader octets k y → (h ≡ k) × (x ≡ y)
one_header octets h k x y p q =
    one_header-spelled h k p.header.long q.header.long x y p.header.bounded q.header.bounded
    (ap (λ s. s ++ x) (sym p.header.spelled) ∙ sym p.front ∙ q.front ∙ ap (λ s. s ++ y) q.header.spelled)

-- a header stays at the front whatever follows
pub header_longer : (octets : List ℕ) (h : Header) (x more : List ℕ) → HasHeader octets h x → HasHeader (octets ++ more) h (x ++ more)
header_longer octets h x more p = record {
  head = p.head;
  front = ap (λ s. s ++ more) p.front ∙ append_assoc p.head x more;
  header = p.header;
}

-- a part of a header is no whole one
pub begun_or_whole : (octets : List ℕ) (h : Header) (x : List ℕ) → IsHeaderBegun octets → HasHeader octets h x → ⊥
begun_or_whole octets h x begun has =
    let whole : HasHeader (octets ++ begun.missing) begun.whole [] =
    record { head = octets ++ begun.missing; front = sym (append-nil (octets ++ begun.missing)); header = begun.header } in
    let longer = header_longer octets h x begun.missing has in
    let rest = (one_header (octets ++ begun.missing) h begun.whole (x ++ begun.missing) [] longer whole).1 in
    let some : 0 < length begun.missing = begun.some in
    let none : length (x ++ begun.missing) ≡ 0 = ap length rest in
    omega (arith, length-append x begun.missing)

-- ---- faults of the flags

-- flags that are allowed are no fault
allowed_flags : (m l c : Bool) (fault : WireFault) → (c && m) ≡ false → IsBadFlags (flags m l c) fault → ⊥
allowed_flags m l c ReservedBits allowed bad = let small = flags_below m l c in omega arith
allowed_flags m l c CommandWithMore allowed bad =
    let bits = flags_tell m l c true bad.0 true bad.1 in
    let more : m ≡ true = bits.0 in
    let command : c ≡ true = bits.2 in
    let both : (c && m) ≡ true = ap (λ b. b && m) command ∙ more in
    cc
allowed_flags m l c TooLong allowed bad = absurd bad
allowed_flags m l c BadSignature allowed bad = absurd bad
allowed_flags m l c OldVersion allowed bad = absurd bad
allowed_flags m l c BadMechanism allowed bad = absurd bad
allowed_flags m l c Memory allowed bad = absurd bad

pub header_or_fault : (octets : List ℕ) (h : Header) (x : List ℕ) (fault : WireFault) → HasHeader octets h x → HasBadFlags octets fault → ⊥
header_or_fault octets h x fault has bad =
    let l = has.header.long in
    let e = ap (λ s. s ++ x) (sym has.header.spelled) ∙ sym has.front ∙ bad.2 in
    let first = (tails_equal (flags h.more l h.command) bad.0 (size_octets l h.size ++ x) bad.1 e).0 in
    allowed_flags h.more l h.command fault has.header.allowed (subst (λ o. IsBadFlags o fault) (sym first) bad.3)

pub fault_longer : (octets more : List ℕ) (fault : WireFault) → HasBadFlags octets fault → HasBadFlags (octets ++ more) fault
fault_longer octets more fault bad = (bad.0, bad.1 ++ more, ap (λ s. s ++ more) bad.2, bad.3)

-- one flags octet has one fault
pub one_fault : (octets : List ℕ) (f g : WireFault) → HasBadFlags octets f → HasBadFlags octets g → f ≡ g
one_fault octets f g p q =
    let first = (tails_equal p.0 q.0 p.1 q.1 (sym p.2 ∙ q.2)).0 in
    one_fault-at f g p.0 p.3 (subst (λ o. IsBadFlags o g) (sym first) q.3)
  where
    one_fault-at : (f g : WireFault) (octet : ℕ) → IsBadFlags octet f → IsBadFlags octet g → f ≡ g
    one_fault-at ReservedBits ReservedBits octet p q = refl
    one_fault-at CommandWithMore CommandWithMore octet p q = refl
    one_fault-at ReservedBits CommandWithMore octet p q =
        absurd (let small = flags_below true q.0 true in let same : octet ≡ flags true q.0 true = q.1 in omega arith)
    one_fault-at CommandWithMore ReservedBits octet p q =
        absurd (let small = flags_below true p.0 true in let same : octet ≡ flags true p.0 true = p.1 in omega arith)
    one_fault-at TooLong g octet p q = absurd p
    one_fault-at BadSignature g octet p q = absurd p
    one_fault-at OldVersion g octet p q = absurd p
    one_fault-at BadMechanism g octet p q = absurd p
    one_fault-at Memory g octet p q = absurd p
    one_fault-at f TooLong octet p q = absurd q
    one_fault-at f BadSignature octet p q = absurd q
    one_fault-at f OldVersion octet p q = absurd q
    one_fault-at f BadMechanism octet p q = absurd q
    one_fault-at f Memory octet p q = absurd q

-- ---- reading

-- nothing is the beginning of a header
pub begun-nothing : (octets : List ℕ) → length octets ≡ 0 → IsHeaderBegun octets
begun-nothing [] none = record {
  missing = 0 ∷ 0 ∷ [];
  some = omega arith;
  whole = record { more = false; command = false; size = 0 };
  header = record { long = false; spelled = refl; bounded = omega arith; allowed = refl };
}
begun-nothing (x ∷ xs) none = absurd (omega arith)

-- flags and a part of the size are the beginning of a header
begun-size : (m l c : Bool) (octets : List ℕ) → (c && m) ≡ false → AreOctets octets → length octets < length (size_octets l 0) →
    IsHeaderBegun (flags m l c ∷ octets)
begun-size m false c [] allowed each few = record {
  missing = 0 ∷ [];
  some = omega arith;
  whole = record { more = m; command = c; size = 0 };
  header = record { long = false; spelled = refl; bounded = omega arith; allowed = allowed };
}
begun-size m false c (x ∷ xs) allowed each few = absurd (omega arith)
begun-size m true c octets allowed each few =
    let zeros = replicate (8 - length octets) 0 in
    let eight = length-eight_octets 0 in
    let some : 0 < length zeros = rw length-replicate (omega arith) in
    let full : length (octets ++ zeros) ≡ 8 = rw (length-append, length-replicate) (omega arith) in
    let octets_each = are_octets_append octets zeros each (are_octets_zeros (8 - length octets)) in
    record {
      missing = zeros;
      some = some;
      whole = record { more = m; command = c; size = from_be_bytes w64 (octets ++ zeros) };
      header = record {
        long = true;
        spelled = ap (λ s. flags m true c ∷ s) (sym (eight_octets-read (octets ++ zeros) full octets_each));
        bounded = size_bounded (octets ++ zeros) octets_each;
        allowed = allowed;
      };
    }

pub begun-read : (octets : List ℕ) (first : ℕ) (behind : List ℕ) (m l c : Bool) → octets ≡ first ∷ behind → AreOctets octets → first ≡ flags m l c →
    (c && m) ≡ false → length behind < length (size_octets l 0) → IsHeaderBegun octets
begun-read octets first behind m l c e each bits allowed few =
    let all = subst AreOctets e each in
    subst IsHeaderBegun (sym (e ∙ ap (λ o. o ∷ behind) bits)) (begun-size m l c behind allowed (λ i. all (suc i)) few)

-- flags and a size are a header
pub header-read : (octets : List ℕ) (first : ℕ) (behind : List ℕ) (m l c : Bool) (size : ℕ) (body : List ℕ)
    → octets ≡ first ∷ behind → first ≡ flags m l c → (c && m) ≡ false → behind ≡ size_octets l size ++ body → size < size_bound l
    → HasHeader octets (record { more = m; command = c; size = size }) body
header-read octets first behind m l c size body e bits allowed sized small = record {
  head = header_octets l (record { more = m; command = c; size = size });
  front = e ∙ ap (λ o. o ∷ behind) bits ∙ ap (λ s. flags m l c ∷ s) sized;
  header = record { long = l; spelled = refl; bounded = small; allowed = allowed };
}
