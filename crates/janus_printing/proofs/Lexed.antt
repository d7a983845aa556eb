-- The text of fine pieces has those pieces as its tokens.
use Rattle.std.proofs.Common.{◌≡◌, ℕ, ◌==◌, List, [], ◌∷◌, ◌++◌, Bool, true, false, cond, codes, refl, ap, sym, arith}
use Rattle.std.specs.Fmt as fmt
use Rattle.std.proofs.lemmas.Bool.{eqb-true}
use Rattle.janus_syntax.specs.declared.token.Span.{Span}
use Rattle.janus_syntax.specs.declared.token.Sign.{Sign}
use Rattle.janus_syntax.specs.declared.token.Sign.TheVariants as sign
use Rattle.janus_syntax.specs.declared.token.Keyword.TheVariants as keyword
use Rattle.janus_syntax.specs.Spelling.{sign_text}
use Rattle.janus_syntax.specs.Tokens.{Token}
use Rattle.janus_syntax.specs.Lexical
use Rattle.janus_syntax.specs.Lexical.{goes_on_name, of_name, of_number, IsNameText, IsNumberText, Item, IsSpelled, NoLonger, IsFront, IsToken, between, Lexes}
use Rattle.janus_syntax.specs.Printing.{Piece, A_name, A_number, A_sign, A_keyword, A_minus, An_opening, piece_text, leans, holds}
use Rattle.janus_syntax.proofs.Fronts.{StopsAt}
use Rattle.janus_syntax.proofs.Longest.{name_longest, keyword_longest, number_longest, space_spelled, one_space, extends, sign_longest, open_longest}
use Rattle.janus_syntax.proofs.Longest.{open_index_longest, minus_longest}
use Rattle.janus_printing.proofs.Spelled.{placed, Spelled}
use Rattle.janus_printing.proofs.Pieces.{tail, BeginsOperand, AreFine}
use Rattle.janus_printing.proofs.Digits.{decimal_stands}

-- ---- what stands behind a piece

-- it makes no name, number, keyword or sign longer
record Apart (rest : List ℕ) : Type 0 where
  name : StopsAt of_name rest
  number : StopsAt of_number rest
  sign : StopsAt extends rest

apart_at : (c : ℕ) (cs : List ℕ) → of_name c ≡ false → of_number c ≡ false → extends c ≡ false → Apart (c ∷ cs)
apart_at c cs n m s = record { name = n; number = m; sign = s }

apart_sign : (s : Sign) (ps : List Piece) → Apart (tail false (A_sign s ∷ ps))
apart_sign sign.PlusEquals ps = apart_at 32 _ refl refl refl
apart_sign sign.MinusEquals ps = apart_at 32 _ refl refl refl
apart_sign sign.XorEquals ps = apart_at 32 _ refl refl refl
apart_sign sign.Swap ps = apart_at 32 _ refl refl refl
apart_sign sign.And ps = apart_at 32 _ refl refl refl
apart_sign sign.Or ps = apart_at 32 _ refl refl refl
apart_sign sign.Differs ps = apart_at 32 _ refl refl refl
apart_sign sign.AtMost ps = apart_at 32 _ refl refl refl
apart_sign sign.AtLeast ps = apart_at 32 _ refl refl refl
apart_sign sign.Plus ps = apart_at 32 _ refl refl refl
apart_sign sign.Minus ps = apart_at 32 _ refl refl refl
apart_sign sign.Times ps = apart_at 32 _ refl refl refl
apart_sign sign.Divide ps = apart_at 32 _ refl refl refl
apart_sign sign.Remainder ps = apart_at 32 _ refl refl refl
apart_sign sign.Xor ps = apart_at 32 _ refl refl refl
apart_sign sign.BitAnd ps = apart_at 32 _ refl refl refl
apart_sign sign.BitOr ps = apart_at 32 _ refl refl refl
apart_sign sign.Equals ps = apart_at 32 _ refl refl refl
apart_sign sign.Less ps = apart_at 32 _ refl refl refl
apart_sign sign.Greater ps = apart_at 32 _ refl refl refl
apart_sign sign.Open ps = apart_at 32 _ refl refl refl
apart_sign sign.Close ps = apart_at 41 _ refl refl refl
apart_sign sign.OpenIndex ps = apart_at 91 _ refl refl refl
apart_sign sign.CloseIndex ps = apart_at 93 _ refl refl refl
apart_sign sign.Comma ps = apart_at 44 _ refl refl refl

apart : (ps : List Piece) → Apart (tail false ps)
apart [] = record { name = tt; number = tt; sign = tt }
apart (A_name x ∷ ps) = apart_at 32 _ refl refl refl
apart (A_number n ∷ ps) = apart_at 32 _ refl refl refl
apart (A_sign s ∷ ps) = apart_sign s ps
apart (A_keyword w ∷ ps) = apart_at 32 _ refl refl refl
apart (A_minus ∷ ps) = apart_at 32 _ refl refl refl
apart (An_opening ∷ ps) = apart_at 40 _ refl refl refl

-- ---- the first item of a text

not_that : (f : ℕ → Bool) (c k : ℕ) → f c ≡ true → f k ≡ false → (c == k) ≡ false
not_that f c k passes fails =
    elim (c == k) as (λ b. (c == k) ≡ b → b ≡ false) [
      | true ↦ λ e. let same = eqb-true c k e in let here : f c ≡ f k = ap f same in absurd cc
      | false ↦ λ e. refl
    ] refl

-- a name does not begin with an equals sign, nor does a number
name_no_equals : (x rest : List ℕ) → IsNameText x → StopsAt (λ c. c == 61) (x ++ rest)
name_no_equals [] rest h = absurd h
name_no_equals (c ∷ cs) rest (k, h) = not_that of_name c 61 (ap goes_on_name k) refl

number_no_equals : (x rest : List ℕ) → IsNumberText x → StopsAt (λ c. c == 61) (x ++ rest)
number_no_equals [] rest h = absurd h
number_no_equals (c ∷ cs) rest (k, h) = not_that of_number c 61 k refl

operand_no_equals : (ps : List Piece) → AreFine ps → BeginsOperand ps → StopsAt (λ c. c == 61) (tail true ps)
operand_no_equals [] f b = absurd b
operand_no_equals (A_name x ∷ ps) f b = name_no_equals x _ f.0.0
operand_no_equals (A_number n ∷ ps) f b = let few = f.0 in number_no_equals (fmt.decimal n) _ (decimal_stands n (omega (arith, few))).0
operand_no_equals (A_sign sign.Open ∷ ps) f b = refl
operand_no_equals (A_sign _ ∷ ps) f b = absurd b
operand_no_equals (A_keyword keyword.Empty ∷ ps) f b = refl
operand_no_equals (A_keyword keyword.Top ∷ ps) f b = refl
operand_no_equals (A_keyword _ ∷ ps) f b = absurd b
operand_no_equals (A_minus ∷ ps) f b = refl
operand_no_equals (An_opening ∷ ps) f b = absurd b

-- a piece as an item of a text
abbrev item : Piece → Item
item (A_name x) = Lexical.A_name x
item (A_number n) = Lexical.A_number n
item (A_sign s) = Lexical.A_sign s
item (A_keyword w) = Lexical.A_keyword w
item A_minus = Lexical.A_sign sign.Minus
item An_opening = Lexical.A_sign sign.Open

-- the piece is the longest item in front of the others, and its token
record IsFirst (p : Piece) (ps : List Piece) : Type 0 where
  spelled : IsSpelled (item p) (piece_text p)
  longest : NoLonger (piece_text p) (tail (holds p) ps)
  token : (at : Span) → IsToken (item p) at (placed p at)

first_sign : (s : Sign) (ps : List Piece) → NoLonger (sign_text s) (tail (holds (A_sign s)) ps)
first_sign sign.Open ps = open_longest _
first_sign sign.OpenIndex ps = open_index_longest _
first_sign sign.PlusEquals ps = sign_longest sign.PlusEquals _ (apart ps).sign
first_sign sign.MinusEquals ps = sign_longest sign.MinusEquals _ (apart ps).sign
first_sign sign.XorEquals ps = sign_longest sign.XorEquals _ (apart ps).sign
first_sign sign.Swap ps = sign_longest sign.Swap _ (apart ps).sign
first_sign sign.And ps = sign_longest sign.And _ (apart ps).sign
first_sign sign.Or ps = sign_longest sign.Or _ (apart ps).sign
first_sign sign.Differs ps = sign_longest sign.Differs _ (apart ps).sign
first_sign sign.AtMost ps = sign_longest sign.AtMost _ (apart ps).sign
first_sign sign.AtLeast ps = sign_longest sign.AtLeast _ (apart ps).sign
first_sign sign.Plus ps = sign_longest sign.Plus _ (apart ps).sign
first_sign sign.Minus ps = sign_longest sign.Minus _ (apart ps).sign
first_sign sign.Times ps = sign_longest sign.Times _ (apart ps).sign
first_sign sign.Divide ps = sign_longest sign.Divide _ (apart ps).sign
first_sign sign.Remainder ps = sign_longest sign.Remainder _ (apart ps).sign
first_sign sign.Xor ps = sign_longest sign.Xor _ (apart ps).sign
first_sign sign.BitAnd ps = sign_longest sign.BitAnd _ (apart ps).sign
first_sign sign.BitOr ps = sign_longest sign.BitOr _ (apart ps).sign
first_sign sign.Equals ps = sign_longest sign.Equals _ (apart ps).sign
first_sign sign.Less ps = sign_longest sign.Less _ (apart ps).sign
first_sign sign.Greater ps = sign_longest sign.Greater _ (apart ps).sign
first_sign sign.Close ps = sign_longest sign.Close _ (apart ps).sign
first_sign sign.CloseIndex ps = sign_longest sign.CloseIndex _ (apart ps).sign
first_sign sign.Comma ps = sign_longest sign.Comma _ (apart ps).sign

first : (p : Piece) (ps : List Piece) → AreFine (p ∷ ps) → IsFirst p ps
first (A_name x) ps (name, f) = record { spelled = (refl, name.0, name.1); longest = name_longest x _ name.0 (apart ps).name; token = λ at. refl }
first (A_number n) ps (few, f) =
    let digits = decimal_stands n (omega (arith, few)) in
    record { spelled = (sym digits.1, digits.0); longest = number_longest (fmt.decimal n) _ digits.0 (apart ps).number; token = λ at. (few, refl) }
first (A_sign s) ps f = record { spelled = refl; longest = first_sign s ps; token = λ at. refl }
first (A_keyword w) ps f = record { spelled = refl; longest = keyword_longest w _ (apart ps).name; token = λ at. refl }
first A_minus ps (b, f) = record { spelled = refl; longest = minus_longest _ (operand_no_equals ps f b); token = λ at. refl }
first An_opening ps f = record { spelled = refl; longest = open_longest _; token = λ at. refl }

others_fine : (p : Piece) (ps : List Piece) → AreFine (p ∷ ps) → AreFine ps
others_fine (A_name x) ps f = f.1
others_fine (A_number n) ps f = f.1
others_fine (A_sign s) ps f = f
others_fine (A_keyword w) ps f = f
others_fine A_minus ps f = f.1
others_fine An_opening ps f = f

-- ---- all tokens

gap_lexed : (text : List ℕ) (tight leaning : Bool) (from : List ℕ) (ts : List Token) → Lexes text from ts [] →
    Lexes text (cond tight [] (cond leaning [] (codes " ")) ++ from) ts []
gap_lexed text true leaning from ts l = l
gap_lexed text false true from ts l = l
gap_lexed text false false from ts l = Lexical.gap {octets = 32 ∷ []} (record { whole = refl; spelled = space_spelled; longest = one_space from }) l

pub pieces_lexed : (text : List ℕ) (tight : Bool) (ps : List Piece) → AreFine ps → (ts : List Token) × Lexes text (tail tight ps) ts [] × Spelled ps ts []
pieces_lexed text tight [] f = ([], Lexical.none, refl)
pieces_lexed text tight (p ∷ ps) f =
    let rest = tail (holds p) ps in
    let others = pieces_lexed text (holds p) ps (others_fine p ps f) in
    let here = first p ps f in
    let at = between text (piece_text p ++ rest) rest in
    let lexed : Lexes text (piece_text p ++ rest) (placed p at ∷ others.0) [] =
    Lexical.token {i = item p} {octets = piece_text p} (record { whole = refl; spelled = here.spelled; longest = here.longest }) (here.token at) others.1 in
    (placed p at ∷ others.0, gap_lexed text tight (leans p) (piece_text p ++ rest) (placed p at ∷ others.0) lexed, (at, others.0, refl, others.2))
