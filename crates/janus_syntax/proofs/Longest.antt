-- What may stand behind an item without making it longer.
use Rattle.std.proofs.Common.{◌≡◌, ℕ, ◌==◌, ◌||◌, ◌⊎◌, inl, inr, List, [], ◌∷◌, Bool, true, false, refl, ap, subst}
use Rattle.janus_syntax.specs.declared.token.Sign.{Sign}
use Rattle.janus_syntax.specs.declared.token.Sign.TheVariants as sign
use Rattle.janus_syntax.specs.declared.token.Keyword.{Keyword}
use Rattle.janus_syntax.specs.declared.lexer.Class.TheVariants as class
use Rattle.janus_syntax.specs.Spelling.{sign_text, keyword_text}
use Rattle.janus_syntax.specs.Lexical.{class_of, goes_on_number, of_name, of_number, IsNameText, IsNumberText, Item, Gap, A_name, A_number, A_sign, A_keyword}
use Rattle.janus_syntax.specs.Lexical.{IsSpelled, NoLonger}
use Rattle.janus_syntax.proofs.Fronts.{head, second, head_is, keyword_head, StopsAt, letters_longest, digits_longest, space_longest}

pub name_longest : (x rest : List ℕ) → IsNameText x → StopsAt of_name rest → NoLonger x rest
name_longest [] rest h stops = absurd h
name_longest (c ∷ cs) rest (k, h) stops = letters_longest c cs rest k stops

letters_of_text : (text rest : List ℕ) → class_of (head text) ≡ class.Letter → StopsAt of_name rest → NoLonger text rest
letters_of_text [] rest k stops = absurd cc
letters_of_text (c ∷ cs) rest k stops = letters_longest c cs rest k stops

pub keyword_longest : (w : Keyword) (rest : List ℕ) → StopsAt of_name rest → NoLonger (keyword_text w) rest
keyword_longest w rest stops = letters_of_text (keyword_text w) rest (keyword_head w) stops

digit_of : (k : _) → goes_on_number k ≡ true → k ≡ class.Digit
digit_of class.Letter e = absurd cc
digit_of class.Digit e = refl
digit_of class.Underscore e = absurd cc
digit_of class.Space e = absurd cc
digit_of class.Other e = absurd cc

pub number_longest : (ds rest : List ℕ) → IsNumberText ds → StopsAt of_number rest → NoLonger ds rest
number_longest [] rest h stops = absurd h
number_longest (c ∷ cs) rest (k, h) stops = digits_longest c cs rest (digit_of (class_of c) k) stops

pub space_spelled : IsSpelled Gap (32 ∷ [])
space_spelled = inl (32, refl, refl)

pub one_space : (rest : List ℕ) → NoLonger (32 ∷ []) rest
one_space rest = space_longest 32 rest refl

-- ---- signs

-- the octets with which longer signs go on, and the slash, with which a comment does
abbrev pub extends : ℕ → Bool
extends c = c == 47 || c == 61 || c == 62 || c == 38 || c == 124

-- the octets that longer signs and comments begin with
abbrev pub extended : ℕ → Bool
extended c = c == 47 || c == 43 || c == 45 || c == 94 || c == 38 || c == 124 || c == 33 || c == 60 || c == 62

-- a sign of two octets or three
record IsLonger (a b : ℕ) (cs : List ℕ) : Type 0 where
  ends : extends b ≡ true
  begins : extended a ≡ true
  minus : (a == 45) ≡ true → (b == 61) ≡ true
  last : (cs ≡ []) ⊎ (cs ≡ 62 ∷ [])

longer_sign : (t : Sign) (a b : ℕ) (cs : List ℕ) → a ∷ b ∷ cs ≡ sign_text t → IsLonger a b cs
longer_sign sign.PlusEquals a b cs e =
    record { ends = ap (λ l. extends (second l)) e; begins = ap (λ l. extended (head l)) e; minus = λ m. ap (λ l. second l == 61) e; last = inl cc }
longer_sign sign.MinusEquals a b cs e =
    record { ends = ap (λ l. extends (second l)) e; begins = ap (λ l. extended (head l)) e; minus = λ m. ap (λ l. second l == 61) e; last = inl cc }
longer_sign sign.XorEquals a b cs e =
    record { ends = ap (λ l. extends (second l)) e; begins = ap (λ l. extended (head l)) e; minus = λ m. ap (λ l. second l == 61) e; last = inl cc }
longer_sign sign.Swap a b cs e =
    record { ends = ap (λ l. extends (second l)) e; begins = ap (λ l. extended (head l)) e; minus = λ m. ap (λ l. second l == 61) e; last = inr cc }
longer_sign sign.And a b cs e =
    record {
      ends = ap (λ l. extends (second l)) e;
      begins = ap (λ l. extended (head l)) e;
      minus = λ m. let n = ap (λ l. head l == 45) e in
          absurd cc;
      last = inl cc;
    }
longer_sign sign.Or a b cs e =
    record {
      ends = ap (λ l. extends (second l)) e;
      begins = ap (λ l. extended (head l)) e;
      minus = λ m. let n = ap (λ l. head l == 45) e in
          absurd cc;
      last = inl cc;
    }
longer_sign sign.Differs a b cs e =
    record { ends = ap (λ l. extends (second l)) e; begins = ap (λ l. extended (head l)) e; minus = λ m. ap (λ l. second l == 61) e; last = inl cc }
longer_sign sign.AtMost a b cs e =
    record { ends = ap (λ l. extends (second l)) e; begins = ap (λ l. extended (head l)) e; minus = λ m. ap (λ l. second l == 61) e; last = inl cc }
longer_sign sign.AtLeast a b cs e =
    record { ends = ap (λ l. extends (second l)) e; begins = ap (λ l. extended (head l)) e; minus = λ m. ap (λ l. second l == 61) e; last = inl cc }
longer_sign _ a b cs e = absurd cc

-- an item of two octets or more that begins as a sign is such a sign, or a comment
sign_goes_on : (i : Item) (a b : ℕ) (cs : List ℕ) → class_of a ≡ class.Other → IsSpelled i (a ∷ b ∷ cs) → IsLonger a b cs ⊎ ((a == 47) ≡ true) ×
    ((b == 47) ≡ true)
sign_goes_on Gap a b cs k (inl (d, e, q)) = absurd cc
sign_goes_on Gap a b cs k (inr (ds, e, q)) = inr (ap (λ l. head l == 47) e, ap (λ l. second l == 47) e)
sign_goes_on (A_name x) a b cs k s = let h = head_is (A_name x) a (b ∷ cs) s in absurd cc
sign_goes_on (A_number n) a b cs k s = let h = head_is (A_number n) a (b ∷ cs) s in absurd cc
sign_goes_on (A_keyword w) a b cs k s = let h = head_is (A_keyword w) a (b ∷ cs) s in absurd cc
sign_goes_on (A_sign t) a b cs k e = inl (longer_sign t a b cs e)

slash_extends : (c : ℕ) → (c == 47) ≡ true → extends c ≡ true
slash_extends c e = rw e refl

-- nothing that makes a sign longer stands at the front
abbrev pub StopsSign : List ℕ → Type 0
StopsSign rest = StopsAt extends rest

one_octet : (a : ℕ) (rest : List ℕ) → class_of a ≡ class.Other → StopsSign rest → NoLonger (a ∷ []) rest
one_octet a rest k stops i [] others e s = refl
one_octet a rest k stops i (c ∷ cs) others e s =
    let stop : extends c ≡ false = subst (λ l. StopsSign l) e stops in
    elim (sign_goes_on i a c cs k s) [
      | inl two ↦ let yes = two.ends in absurd cc
      | inr slashes ↦ let yes = slash_extends c slashes.1 in absurd cc
    ]

two_octet : (a b : ℕ) (rest : List ℕ) → class_of a ≡ class.Other → (b == 47) ≡ false → StopsSign rest → NoLonger (a ∷ b ∷ []) rest
two_octet a b rest k apart stops i [] others e s = refl
two_octet a b rest k apart stops i (c ∷ cs) others e s =
    let stop : extends c ≡ false = subst (λ l. StopsSign l) e stops in
    elim (sign_goes_on i a b (c ∷ cs) k s) [
      | inl two ↦ elim (two.last) [ inl none ↦ absurd cc | inr third ↦ let yes : extends c ≡ true = ap (λ l. extends (head l)) third in absurd cc ]
      | inr slashes ↦ let yes = slashes.1 in absurd cc
    ]

swap_longest : (rest : List ℕ) → NoLonger (sign_text sign.Swap) rest
swap_longest rest i [] others e s = refl
swap_longest rest i (c ∷ cs) others e s =
    elim (sign_goes_on i 60 61 (62 ∷ c ∷ cs) refl s) [
      | inl longer ↦ elim (longer.last) [ inl none ↦ absurd cc | inr third ↦ absurd cc ]
      | inr slashes ↦ let no = slashes.0 in absurd cc
    ]

pub sign_longest : (t : Sign) (rest : List ℕ) → StopsSign rest → NoLonger (sign_text t) rest
sign_longest sign.PlusEquals rest stops = two_octet 43 61 rest refl refl stops
sign_longest sign.MinusEquals rest stops = two_octet 45 61 rest refl refl stops
sign_longest sign.XorEquals rest stops = two_octet 94 61 rest refl refl stops
sign_longest sign.Swap rest stops = swap_longest rest
sign_longest sign.And rest stops = two_octet 38 38 rest refl refl stops
sign_longest sign.Or rest stops = two_octet 124 124 rest refl refl stops
sign_longest sign.Differs rest stops = two_octet 33 61 rest refl refl stops
sign_longest sign.AtMost rest stops = two_octet 60 61 rest refl refl stops
sign_longest sign.AtLeast rest stops = two_octet 62 61 rest refl refl stops
sign_longest sign.Plus rest stops = one_octet 43 rest refl stops
sign_longest sign.Minus rest stops = one_octet 45 rest refl stops
sign_longest sign.Times rest stops = one_octet 42 rest refl stops
sign_longest sign.Divide rest stops = one_octet 47 rest refl stops
sign_longest sign.Remainder rest stops = one_octet 37 rest refl stops
sign_longest sign.Xor rest stops = one_octet 94 rest refl stops
sign_longest sign.BitAnd rest stops = one_octet 38 rest refl stops
sign_longest sign.BitOr rest stops = one_octet 124 rest refl stops
sign_longest sign.Equals rest stops = one_octet 61 rest refl stops
sign_longest sign.Less rest stops = one_octet 60 rest refl stops
sign_longest sign.Greater rest stops = one_octet 62 rest refl stops
sign_longest sign.Open rest stops = one_octet 40 rest refl stops
sign_longest sign.Close rest stops = one_octet 41 rest refl stops
sign_longest sign.OpenIndex rest stops = one_octet 91 rest refl stops
sign_longest sign.CloseIndex rest stops = one_octet 93 rest refl stops
sign_longest sign.Comma rest stops = one_octet 44 rest refl stops

-- with some octets no longer item begins
alone : (a : ℕ) (rest : List ℕ) → class_of a ≡ class.Other → extended a ≡ false → NoLonger (a ∷ []) rest
alone a rest k only i [] others e s = refl
alone a rest k only i (c ∷ cs) others e s =
    elim (sign_goes_on i a c cs k s) [
      | inl two ↦ let yes = two.begins in absurd cc
      | inr slashes ↦ let yes : extended a ≡ true = rw (slashes.0) refl in absurd cc
    ]

pub open_longest : (rest : List ℕ) → NoLonger (sign_text sign.Open) rest
open_longest rest = alone 40 rest refl refl

pub open_index_longest : (rest : List ℕ) → NoLonger (sign_text sign.OpenIndex) rest
open_index_longest rest = alone 91 rest refl refl

-- a minus in front of anything but an equals sign
pub minus_longest : (rest : List ℕ) → StopsAt (λ c. c == 61) rest → NoLonger (sign_text sign.Minus) rest
minus_longest rest stops i [] others e s = refl
minus_longest rest stops i (c ∷ cs) others e s =
    let stop : (c == 61) ≡ false = subst (λ l. StopsAt (λ x. x == 61) l) e stops in
    elim (sign_goes_on i 45 c cs refl s) [
      | inl two ↦ let yes = two.minus refl in absurd cc
      | inr slashes ↦ let no = slashes.0 in absurd cc
    ]
