-- The size as the code reads and writes it.
use Rattle.std.proofs.Common.{Result, Ok, Err, OnOk, is_ok, if◌then◌else◌, ◌≡◌, ℕ, ◌+◌, ◌<◌, Bool, true, false, List, [], ◌∷◌, ◌++◌, length, take, drop, sym}
use Rattle.std.proofs.Common.{ap, ◌∙◌, refl, subst, arith, append_assoc, length-append, take-append-drop}
use Rattle.std.specs.Int.{w64, to_be_bytes, from_be_bytes}
use Rattle.zmtp_wire.specs.declared.header.Header.{Header}
use Rattle.zmtp_wire.specs.Header.{flags, eight_octets, size_octets, header_octets}
use Rattle.zmtp_wire.proofs.Octets.{length-eight_octets, eight_octets-read, AreOctets, are_octets_front}

-- fewer than eight octets are too few for a size in the long form
pub few_for_long : (l : Bool) (octets : List ℕ) → l ≡ true → length octets < 8 → length octets < length (size_octets l 0)
few_for_long true octets long few = omega (arith, length-eight_octets 0)
few_for_long false octets long few = cc

-- the first eight octets are the size that is read from them
pub long_front : (l : Bool) (octets size behind : List ℕ) (n : ℕ) → l ≡ true → size ≡ take 8 octets → behind ≡ drop 8 octets → length behind + 8 ≡ length octets
    → AreOctets octets → n ≡ from_be_bytes w64 size → octets ≡ size_octets l n ++ behind
long_front false octets size behind n long front rest whole each read = cc
long_front true octets size behind n long front rest whole each read =
    let parts : octets ≡ size ++ behind = sym (take-append-drop 8 octets) ∙ ap (λ s. s ++ drop 8 octets) (sym front) ∙ ap (λ s. size ++ s) (sym rest) in
    let lengths : length octets ≡ length size + length behind = ap length parts ∙ length-append size behind in
    let eight : length size ≡ 8 = omega arith in
    let back : eight_octets n ≡ size = ap eight_octets read ∙ eight_octets-read size eight (are_octets_front size behind (subst AreOctets parts each)) in
    parts ∙ ap (λ s. s ++ behind) (sym back)

-- a header that was written in the long form
pub long_written : {T E : Type 0} (r : Result T E) (h : Header) (l : Bool) (first : ℕ) (old mid new size : List ℕ) → l ≡ true → first ≡ flags h.more l h.command
    → mid ≡ old ++ first ∷ [] → size ≡ eight_octets h.size → new ≡ (if is_ok r then mid ++ size else mid) → OnOk r (new ≡ old ++ header_octets l h)
long_written (Ok x) h true first old mid new size long bits begun sized all =
    all ∙ ap (λ s. s ++ size) begun ∙ append_assoc old (first ∷ []) size ∙ ap (λ o. old ++ o ∷ size) bits
    ∙ ap (λ s. old ++ flags h.more true h.command ∷ s) sized
long_written (Ok x) h false first old mid new size long bits begun sized all = cc
long_written (Err e) h l first old mid new size long bits begun sized all = tt

pub eight_octets-is : (n : ℕ) → to_be_bytes w64 n ≡ eight_octets n
unfolding eight_octets
eight_octets-is n = refl
