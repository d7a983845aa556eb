-- What stands at the front of a text, and that no longer item fits there.
use Rattle.std.proofs.Common.{◌≡◌, ℕ, ◌+◌, ◌-◌, ◌<◌, ◌≤◌, ◌==◌, ◌⊎◌, inl, inr, List, [], ◌∷◌, ◌++◌, length, get_or, take, drop, Bool, true, false, Some, None}
use Rattle.std.proofs.Common.{cond, refl, ap, sym, subst, ◌∙◌, arith, append_assoc, IsUtf8, length-append}
use Rattle.std.specs.Prelude.{nat_lt, nat_eq}
use Rattle.std.specs.List.{prefix_len, starts_with}
use Rattle.std.proofs.lemmas.Slice.Eq.{starts_is}
use Rattle.std.proofs.lemmas.Bool.Decides.{Decides-eqb}
use Rattle.std.specs.Str.{IsCharBoundary}
use Rattle.std.proofs.Math.Seq.{take-append_seam}
use Rattle.std.proofs.str.Laws.{order}
use Rattle.std.proofs.lemmas.Bool.{ltb-true}
use Rattle.std.proofs.lemmas.Bool.Decides.{nat_tests}
use Rattle.std.proofs.lemmas.List.Prefix.{front_rest}
use Rattle.std.proofs.lemmas.List.Sums.{prefix_len_passes, prefix_len_stops, prefix_len-le-length}
use Rattle.std.proofs.lemmas.Str.{IsCharBoundary-after_ascii, IsCharBoundary-before_ascii, IsCharBoundary-end}
use Rattle.janus_syntax.specs.declared.token.Sign.{Sign}
use Rattle.janus_syntax.specs.declared.token.Sign.TheVariants as sign
use Rattle.janus_syntax.specs.declared.token.Keyword.{Keyword}
use Rattle.janus_syntax.specs.declared.token.Keyword.TheVariants as keyword
use Rattle.janus_syntax.specs.declared.lexer.Class.{Class}
use Rattle.janus_syntax.specs.declared.lexer.Class.TheVariants as class
use Rattle.janus_syntax.specs.declared.lexer.Front.TheVariants as front
use Rattle.janus_syntax.specs.Spelling.{sign_text, keyword_text}
use Rattle.janus_syntax.specs.Lexical.{class_of, goes_on_name, goes_on_number, AllPass, of_name, of_number, in_line, Item, Gap, A_name, A_number, A_sign}
use Rattle.janus_syntax.specs.Lexical.{A_keyword, IsSpelled, NoLonger, NoItem}
use Rattle.janus_syntax.specs.Scan.{IsLongestSign, IsFrontText, IsFrontOf}

-- the first octet
abbrev pub head : List ℕ → ℕ
head [] = 0
head (c ∷ cs) = c

abbrev pub second : List ℕ → ℕ
second [] = 0
second (c ∷ cs) = head cs

-- keywords are spelled as names are

pub keyword_head : (w : Keyword) → class_of (head (keyword_text w)) ≡ class.Letter
keyword_head keyword.Call = refl
keyword_head keyword.Delocal = refl
keyword_head keyword.Do = refl
keyword_head keyword.Else = refl
keyword_head keyword.Empty = refl
keyword_head keyword.Fi = refl
keyword_head keyword.From = refl
keyword_head keyword.If = refl
keyword_head keyword.Int = refl
keyword_head keyword.Local = refl
keyword_head keyword.Loop = refl
keyword_head keyword.Main = refl
keyword_head keyword.Nil = refl
keyword_head keyword.Pop = refl
keyword_head keyword.Procedure = refl
keyword_head keyword.Push = refl
keyword_head keyword.Skip = refl
keyword_head keyword.Stack = refl
keyword_head keyword.Then = refl
keyword_head keyword.Top = refl
keyword_head keyword.Uncall = refl
keyword_head keyword.Until = refl

pub keyword_passes : (w : Keyword) → AllPass of_name (keyword_text w)
keyword_passes keyword.Call = (refl, (refl, (refl, (refl, tt))))
keyword_passes keyword.Delocal = (refl, (refl, (refl, (refl, (refl, (refl, (refl, tt)))))))
keyword_passes keyword.Do = (refl, (refl, tt))
keyword_passes keyword.Else = (refl, (refl, (refl, (refl, tt))))
keyword_passes keyword.Empty = (refl, (refl, (refl, (refl, (refl, tt)))))
keyword_passes keyword.Fi = (refl, (refl, tt))
keyword_passes keyword.From = (refl, (refl, (refl, (refl, tt))))
keyword_passes keyword.If = (refl, (refl, tt))
keyword_passes keyword.Int = (refl, (refl, (refl, tt)))
keyword_passes keyword.Local = (refl, (refl, (refl, (refl, (refl, tt)))))
keyword_passes keyword.Loop = (refl, (refl, (refl, (refl, tt))))
keyword_passes keyword.Main = (refl, (refl, (refl, (refl, tt))))
keyword_passes keyword.Nil = (refl, (refl, (refl, tt)))
keyword_passes keyword.Pop = (refl, (refl, (refl, tt)))
keyword_passes keyword.Procedure = (refl, (refl, (refl, (refl, (refl, (refl, (refl, (refl, (refl, tt)))))))))
keyword_passes keyword.Push = (refl, (refl, (refl, (refl, tt))))
keyword_passes keyword.Skip = (refl, (refl, (refl, (refl, tt))))
keyword_passes keyword.Stack = (refl, (refl, (refl, (refl, (refl, tt)))))
keyword_passes keyword.Then = (refl, (refl, (refl, (refl, tt))))
keyword_passes keyword.Top = (refl, (refl, (refl, tt)))
keyword_passes keyword.Uncall = (refl, (refl, (refl, (refl, (refl, (refl, tt))))))
keyword_passes keyword.Until = (refl, (refl, (refl, (refl, (refl, tt)))))

-- signs

sign_head : (s : Sign) (more : List ℕ) → class_of (head (sign_text s ++ more)) ≡ class.Other
sign_head sign.PlusEquals more = refl
sign_head sign.MinusEquals more = refl
sign_head sign.XorEquals more = refl
sign_head sign.Swap more = refl
sign_head sign.And more = refl
sign_head sign.Or more = refl
sign_head sign.Differs more = refl
sign_head sign.AtMost more = refl
sign_head sign.AtLeast more = refl
sign_head sign.Plus more = refl
sign_head sign.Minus more = refl
sign_head sign.Times more = refl
sign_head sign.Divide more = refl
sign_head sign.Remainder more = refl
sign_head sign.Xor more = refl
sign_head sign.BitAnd more = refl
sign_head sign.BitOr more = refl
sign_head sign.Equals more = refl
sign_head sign.Less more = refl
sign_head sign.Greater more = refl
sign_head sign.Open more = refl
sign_head sign.Close more = refl
sign_head sign.OpenIndex more = refl
sign_head sign.CloseIndex more = refl
sign_head sign.Comma more = refl

-- no sign is a comment
pub no_comment : (s : Sign) → (head (sign_text s) == 47) ≡ true → (second (sign_text s) == 47) ≡ true → ⊥
no_comment sign.Divide e f = cc
no_comment sign.PlusEquals e f = cc
no_comment sign.MinusEquals e f = cc
no_comment sign.XorEquals e f = cc
no_comment sign.Swap e f = cc
no_comment sign.And e f = cc
no_comment sign.Or e f = cc
no_comment sign.Differs e f = cc
no_comment sign.AtMost e f = cc
no_comment sign.AtLeast e f = cc
no_comment sign.Plus e f = cc
no_comment sign.Minus e f = cc
no_comment sign.Times e f = cc
no_comment sign.Remainder e f = cc
no_comment sign.Xor e f = cc
no_comment sign.BitAnd e f = cc
no_comment sign.BitOr e f = cc
no_comment sign.Equals e f = cc
no_comment sign.Less e f = cc
no_comment sign.Greater e f = cc
no_comment sign.Open e f = cc
no_comment sign.Close e f = cc
no_comment sign.OpenIndex e f = cc
no_comment sign.CloseIndex e f = cc
no_comment sign.Comma e f = cc

sign_last : (s : Sign) (rest : List ℕ) → nat_lt (get_or (sign_text s ++ rest) (length (sign_text s) - 1) 0) 128 ≡ true
sign_last sign.PlusEquals rest = refl
sign_last sign.MinusEquals rest = refl
sign_last sign.XorEquals rest = refl
sign_last sign.Swap rest = refl
sign_last sign.And rest = refl
sign_last sign.Or rest = refl
sign_last sign.Differs rest = refl
sign_last sign.AtMost rest = refl
sign_last sign.AtLeast rest = refl
sign_last sign.Plus rest = refl
sign_last sign.Minus rest = refl
sign_last sign.Times rest = refl
sign_last sign.Divide rest = refl
sign_last sign.Remainder rest = refl
sign_last sign.Xor rest = refl
sign_last sign.BitAnd rest = refl
sign_last sign.BitOr rest = refl
sign_last sign.Equals rest = refl
sign_last sign.Less rest = refl
sign_last sign.Greater rest = refl
sign_last sign.Open rest = refl
sign_last sign.Close rest = refl
sign_last sign.OpenIndex rest = refl
sign_last sign.CloseIndex rest = refl
sign_last sign.Comma rest = refl

sign_some : (s : Sign) → nat_lt 0 (length (sign_text s)) ≡ true
sign_some sign.PlusEquals = refl
sign_some sign.MinusEquals = refl
sign_some sign.XorEquals = refl
sign_some sign.Swap = refl
sign_some sign.And = refl
sign_some sign.Or = refl
sign_some sign.Differs = refl
sign_some sign.AtMost = refl
sign_some sign.AtLeast = refl
sign_some sign.Plus = refl
sign_some sign.Minus = refl
sign_some sign.Times = refl
sign_some sign.Divide = refl
sign_some sign.Remainder = refl
sign_some sign.Xor = refl
sign_some sign.BitAnd = refl
sign_some sign.BitOr = refl
sign_some sign.Equals = refl
sign_some sign.Less = refl
sign_some sign.Greater = refl
sign_some sign.Open = refl
sign_some sign.Close = refl
sign_some sign.OpenIndex = refl
sign_some sign.CloseIndex = refl
sign_some sign.Comma = refl

-- what an item's first octet is
abbrev pub HeadIs : Item → ℕ → Type 0
HeadIs Gap c = (class_of c ≡ class.Space) ⊎ (class_of c ≡ class.Other)
HeadIs (A_name x) c = class_of c ≡ class.Letter
HeadIs (A_number n) c = class_of c ≡ class.Digit
HeadIs (A_sign s) c = class_of c ≡ class.Other
HeadIs (A_keyword w) c = class_of c ≡ class.Letter

digit_class : (k : Class) → goes_on_number k ≡ true → k ≡ class.Digit
digit_class class.Letter e = absurd cc
digit_class class.Digit e = refl
digit_class class.Underscore e = absurd cc
digit_class class.Space e = absurd cc
digit_class class.Other e = absurd cc

keyword_spelled : (w : Keyword) (c : ℕ) (cs : List ℕ) → c ∷ cs ≡ keyword_text w → class_of c ≡ class.Letter
keyword_spelled w c cs e = ap (λ l. class_of (head l)) e ∙ keyword_head w

sign_is_head : (s : Sign) (c : ℕ) (cs : List ℕ) → c ∷ cs ≡ sign_text s → class_of c ≡ class.Other
sign_is_head s c cs e = ap (λ l. class_of (head (l ++ []))) e ∙ sign_head s []

pub head_is : (i : Item) (c : ℕ) (cs : List ℕ) → IsSpelled i (c ∷ cs) → HeadIs i c
head_is Gap c cs (inl (d, e, k)) = inl (ap (λ l. class_of (head l)) e ∙ k)
head_is Gap c cs (inr (ds, e, k)) = inr (ap (λ l. class_of (head l)) e)
head_is (A_name x) c cs (e, (k, h), n) = k
head_is (A_number n) c cs (e, (k, h)) = digit_class (class_of c) k
head_is (A_sign s) c cs e = sign_is_head s c cs e
head_is (A_keyword w) c cs e = keyword_spelled w c cs e

-- an item has octets
empty_keyword : (w : Keyword) → [] ≡ keyword_text w → ⊥
empty_keyword w e = let h = ap (λ l. class_of (head l)) e ∙ keyword_head w in absurd cc

empty_sign : (s : Sign) → [] ≡ sign_text s → ⊥
empty_sign s e = let h = ltb-true 0 (length (sign_text s)) (sign_some s) in absurd (omega (arith, h, ap length e))

pub some_octets : (i : Item) → IsSpelled i [] → ⊥
some_octets Gap (inl (d, e, k)) = absurd cc
some_octets Gap (inr (ds, e, k)) = absurd cc
some_octets (A_name x) (e, k, n) = k
some_octets (A_number n) (e, k) = k
some_octets (A_sign s) e = empty_sign s e
some_octets (A_keyword w) e = empty_keyword w e

-- how an item goes on behind its first octet
tail_of : (p : ℕ → Bool) (c : ℕ) (cs l : List ℕ) → c ∷ cs ≡ l → AllPass p l → AllPass p cs
tail_of p c cs l e h = (subst (λ m. AllPass p m) (sym e) h).1

letters_go_on : (i : Item) (c : ℕ) (cs : List ℕ) → class_of c ≡ class.Letter → IsSpelled i (c ∷ cs) → AllPass of_name cs
letters_go_on Gap c cs k s = elim (head_is Gap c cs s) [ inl h ↦ absurd cc | inr h ↦ absurd cc ]
letters_go_on (A_name x) c cs k (e, (q, h), n) = h
letters_go_on (A_number n) c cs k s = let h = head_is (A_number n) c cs s in absurd cc
letters_go_on (A_sign t) c cs k s = let h = head_is (A_sign t) c cs s in absurd cc
letters_go_on (A_keyword w) c cs k e = tail_of of_name c cs (keyword_text w) e (keyword_passes w)

digits_go_on : (i : Item) (c : ℕ) (cs : List ℕ) → class_of c ≡ class.Digit → IsSpelled i (c ∷ cs) → AllPass of_number cs
digits_go_on Gap c cs k s = elim (head_is Gap c cs s) [ inl h ↦ absurd cc | inr h ↦ absurd cc ]
digits_go_on (A_name x) c cs k s = let h = head_is (A_name x) c cs s in absurd cc
digits_go_on (A_number n) c cs k (e, (q, h)) = h
digits_go_on (A_sign t) c cs k s = let h = head_is (A_sign t) c cs s in absurd cc
digits_go_on (A_keyword w) c cs k s = let h = head_is (A_keyword w) c cs s in absurd cc

space_ends : (i : Item) (c : ℕ) (cs : List ℕ) → class_of c ≡ class.Space → IsSpelled i (c ∷ cs) → cs ≡ []
space_ends Gap c cs k (inl (d, e, q)) = cc
space_ends Gap c cs k (inr (ds, e, q)) = let h = ap (λ l. class_of (head l)) e in absurd cc
space_ends (A_name x) c cs k s = let h = head_is (A_name x) c cs s in absurd cc
space_ends (A_number n) c cs k s = let h = head_is (A_number n) c cs s in absurd cc
space_ends (A_sign t) c cs k s = let h = head_is (A_sign t) c cs s in absurd cc
space_ends (A_keyword w) c cs k s = let h = head_is (A_keyword w) c cs s in absurd cc

slash : class_of 47 ≡ class.Other
slash = refl

comment_goes_on : (i : Item) (cs : List ℕ) → IsSpelled i (47 ∷ 47 ∷ cs) → AllPass in_line cs
comment_goes_on Gap cs (inl (d, e, q)) = absurd cc
comment_goes_on Gap cs (inr (ds, e, q)) = let same : ds ≡ cs = cc in subst (λ l. AllPass in_line l) same q
comment_goes_on (A_name x) cs s = let h = head_is (A_name x) 47 (47 ∷ cs) s in let k = slash in absurd cc
comment_goes_on (A_number n) cs s = let h = head_is (A_number n) 47 (47 ∷ cs) s in let k = slash in absurd cc
comment_goes_on (A_sign t) cs e = absurd (no_comment t (ap (λ l. head l == 47) (sym e)) (ap (λ l. second l == 47) (sym e)))
comment_goes_on (A_keyword w) cs s = let h = head_is (A_keyword w) 47 (47 ∷ cs) s in let k = slash in absurd cc

-- the first octet behind a run does not pass
abbrev pub StopsAt : (ℕ → Bool) → List ℕ → Type 0
StopsAt p [] = Unit {0}
StopsAt p (c ∷ cs) = p c ≡ false

passes_at : (p : ℕ → Bool) (xs : List ℕ) (d : ℕ) (ds : List ℕ) → AllPass p (xs ++ d ∷ ds) → p d ≡ true
passes_at p [] d ds h = h.0
passes_at p (x ∷ xs) d ds h = passes_at p xs d ds h.1

-- an item that goes on as a run does takes nothing behind the run
run_ends : (p : ℕ → Bool) (xs rest more others : List ℕ) → StopsAt p rest → rest ≡ more ++ others → AllPass p (xs ++ more) → more ≡ []
run_ends p xs rest [] others stops e h = refl
run_ends p xs rest (d ∷ ds) others stops e h =
    let a : p d ≡ true = passes_at p xs d ds h in
    let b : p d ≡ false = subst (λ l. StopsAt p l) e stops in
    absurd cc

-- a list is its run, and what is behind it
pub record IsRun (p : ℕ → Bool) (xs : List ℕ) (n : ℕ) : Type 0 where
  pub front : List ℕ
  pub rest : List ℕ
  pub whole : xs ≡ front ++ rest
  pub len : n ≡ length front
  pub all : AllPass p front
  pub stops : StopsAt p rest

run_none : (p : ℕ → Bool) (x : ℕ) (xs : List ℕ) → p x ≡ false → IsRun p (x ∷ xs) 0
run_none p x xs e = record { front = []; rest = x ∷ xs; whole = refl; len = refl; all = tt; stops = e }

run_more : (p : ℕ → Bool) (x : ℕ) (xs : List ℕ) (n : ℕ) → p x ≡ true → IsRun p xs n → IsRun p (x ∷ xs) (1 + n)
run_more p x xs n e r =
    record { front = x ∷ r.front; rest = r.rest; whole = ap (λ l. x ∷ l) r.whole; len = omega (arith, r.len); all = (e, r.all); stops = r.stops }

pub run_of : (p : ℕ → Bool) (xs : List ℕ) → IsRun p xs (prefix_len p xs)
run_of p [] = record { front = []; rest = []; whole = refl; len = refl; all = tt; stops = tt }
run_of p (x ∷ xs) =
    elim (p x) as (λ b. p x ≡ b → IsRun p (x ∷ xs) (cond b (1 + prefix_len p xs) 0)) [
      | true ↦ λ e. run_more p x xs (prefix_len p xs) e (run_of p xs)
      | false ↦ λ e. run_none p x xs e
    ] refl

take_front : (xs front rest : List ℕ) (n : ℕ) → xs ≡ front ++ rest → n ≡ length front → take n xs ≡ front
take_front xs front rest n e k = ap (λ m. take m xs) k ∙ ap (take (length front)) e ∙ take-append_seam front rest

drop_front : (xs front rest : List ℕ) (n : ℕ) → xs ≡ front ++ rest → n ≡ length front → drop n xs ≡ rest
drop_front xs front rest n e k = ap (λ m. drop m xs) k ∙ front_rest xs front rest e

-- the front of a text, from its parts
front_from : (f : _) (xs text rest : List ℕ) (n : ℕ) → xs ≡ text ++ rest → n ≡ length text → 0 < n → IsFrontText f text → NoLonger text rest → IsFrontOf f n xs
front_from f xs text rest n e k some is longest =
    let t = take_front xs text rest n e k in
    let d = drop_front xs text rest n e k in
    record {
      in_range = omega (arith, k, ap length e, length-append text rest);
      nonempty = some;
      is = subst (λ l. IsFrontText f l) (sym t) is;
      longest = subst (λ l. NoLonger l (drop n xs)) (sym t) (subst (λ l. NoLonger text l) (sym d) longest);
    }

-- a run that begins with a letter is a name's text

pub letters_longest : (c : ℕ) (cs rest : List ℕ) → class_of c ≡ class.Letter → StopsAt of_name rest → NoLonger (c ∷ cs) rest
letters_longest c cs rest k stops i more others e s = run_ends of_name cs rest more others stops e (letters_go_on i c (cs ++ more) k s)

pub digits_longest : (c : ℕ) (cs rest : List ℕ) → class_of c ≡ class.Digit → StopsAt of_number rest → NoLonger (c ∷ cs) rest
digits_longest c cs rest k stops i more others e s = run_ends of_number cs rest more others stops e (digits_go_on i c (cs ++ more) k s)

pub space_longest : (c : ℕ) (rest : List ℕ) → class_of c ≡ class.Space → NoLonger (c ∷ []) rest
space_longest c rest k i more others e s = space_ends i c more k s

comment_longest : (cs rest : List ℕ) → StopsAt in_line rest → NoLonger (47 ∷ 47 ∷ cs) rest
comment_longest cs rest stops i more others e s = run_ends in_line cs rest more others stops e (comment_goes_on i (cs ++ more) s)

letters_of_run : (c : ℕ) (cs run rest : List ℕ) (n : ℕ) → class_of c ≡ class.Letter → c ∷ cs ≡ run ++ rest → n ≡ length run → AllPass of_name run →
    StopsAt of_name rest → IsFrontOf front.Letters n (c ∷ cs)
letters_of_run c cs [] rest n k e l h stops =
    let a : of_name c ≡ true = ap goes_on_name k in
    let b : of_name c ≡ false = subst (λ m. StopsAt of_name m) (sym e) stops in
    absurd cc
letters_of_run c cs (d ∷ ds) rest n k e l h stops =
    let same : d ≡ c = cc in
    let kd = ap class_of same ∙ k in
    front_from front.Letters (c ∷ cs) (d ∷ ds) rest n e l (omega (arith, l)) (kd, h.1) (letters_longest d ds rest kd stops)

pub letters_front : (xs : List ℕ) (n : ℕ) → 0 < length xs → class_of (get_or xs 0 0) ≡ class.Letter → n ≡ prefix_len of_name xs → IsFrontOf front.Letters n xs
letters_front [] n some k e = absurd (omega (arith, some))
letters_front (c ∷ cs) n some k e = let r = run_of of_name (c ∷ cs) in letters_of_run c cs r.front r.rest n k r.whole (e ∙ r.len) r.all r.stops

digits_of_run : (c : ℕ) (cs run rest : List ℕ) (n : ℕ) → class_of c ≡ class.Digit → c ∷ cs ≡ run ++ rest → n ≡ length run → AllPass of_number run →
    StopsAt of_number rest → IsFrontOf front.Digits n (c ∷ cs)
digits_of_run c cs [] rest n k e l h stops =
    let a : of_number c ≡ true = ap goes_on_number k in
    let b : of_number c ≡ false = subst (λ m. StopsAt of_number m) (sym e) stops in
    absurd cc
digits_of_run c cs (d ∷ ds) rest n k e l h stops =
    let same : d ≡ c = cc in
    front_from front.Digits (c ∷ cs) (d ∷ ds) rest n e l (omega (arith, l)) h (digits_longest d ds rest (ap class_of same ∙ k) stops)

pub digits_front : (xs : List ℕ) (n : ℕ) → 0 < length xs → class_of (get_or xs 0 0) ≡ class.Digit → n ≡ prefix_len of_number xs → IsFrontOf front.Digits n xs
digits_front [] n some k e = absurd (omega (arith, some))
digits_front (c ∷ cs) n some k e = let r = run_of of_number (c ∷ cs) in digits_of_run c cs r.front r.rest n k r.whole (e ∙ r.len) r.all r.stops

pub space_front : (xs : List ℕ) → 0 < length xs → class_of (get_or xs 0 0) ≡ class.Space → IsFrontOf front.Gap 1 xs
space_front [] some k = absurd (omega (arith, some))
space_front (c ∷ cs) some k = front_from front.Gap (c ∷ cs) (c ∷ []) cs 1 refl refl (omega arith) (inl (c, refl, k)) (space_longest c cs k)

comment_of_run : (xs cs run rest : List ℕ) (n : ℕ) → xs ≡ 47 ∷ 47 ∷ cs → xs ≡ run ++ rest → n ≡ length run → AllPass in_line run → StopsAt in_line rest →
    IsFrontOf front.Gap n xs
comment_of_run xs cs [] rest n k e l h stops = let b : in_line 47 ≡ false = subst (λ m. StopsAt in_line m) (sym e ∙ k) stops in absurd cc
comment_of_run xs cs (d ∷ []) rest n k e l h stops =
    let same : rest ≡ 47 ∷ cs = cc in
    let b : in_line 47 ≡ false = subst (λ m. StopsAt in_line m) same stops in absurd cc
comment_of_run xs cs (d ∷ d' ∷ ds) rest n k e l h stops =
    let same : d ∷ d' ∷ ds ≡ 47 ∷ 47 ∷ ds = cc in
    front_from front.Gap xs (d ∷ d' ∷ ds) rest n e l (omega (arith, l)) (inr (ds, same, h.1.1))
    (subst (λ m. NoLonger m rest) (sym same) (comment_longest ds rest stops))

pub comment_front : (xs cs : List ℕ) (n : ℕ) → xs ≡ 47 ∷ 47 ∷ cs → n ≡ prefix_len in_line xs → IsFrontOf front.Gap n xs
comment_front xs cs n k e = let r = run_of in_line xs in comment_of_run xs cs r.front r.rest n k r.whole (e ∙ r.len) r.all r.stops

-- signs

-- an item that begins with an octet of the other kind is a sign or a comment
other_is : (i : Item) (c : ℕ) (cs : List ℕ) → class_of c ≡ class.Other → IsSpelled i (c ∷ cs) → ((s : Sign) × (c ∷ cs ≡ sign_text s)) ⊎
    ((ds : List ℕ) × (c ∷ cs ≡ 47 ∷ 47 ∷ ds))
other_is Gap c cs k (inl (d, e, q)) = let h = ap (λ l. class_of (head l)) e in absurd cc
other_is Gap c cs k (inr (ds, e, q)) = inr (ds, e)
other_is (A_name x) c cs k s = let h = head_is (A_name x) c cs s in absurd cc
other_is (A_number n) c cs k s = let h = head_is (A_number n) c cs s in absurd cc
other_is (A_sign t) c cs k s = inl (t, s)
other_is (A_keyword w) c cs k s = let h = head_is (A_keyword w) c cs s in absurd cc

none_left : (more : List ℕ) → length more ≤ 0 → more ≡ []
none_left [] h = refl
none_left (c ∷ cs) h = absurd (omega (arith, h))

sign_longest : (s : Sign) (xs text rest : List ℕ) → xs ≡ text ++ rest → text ≡ sign_text s →
    ((t : Sign) (others : List ℕ) → xs ≡ sign_text t ++ others → length (sign_text t) ≤ length (sign_text s)) → ((ds : List ℕ) → xs ≡ 47 ∷ 47 ∷ ds → ⊥) →
    NoLonger text rest
sign_longest s xs [] rest e is best apart i more others f q = absurd (empty_sign s is)
sign_longest s xs (c ∷ cs) rest e is best apart i more others f q =
    let whole : xs ≡ (c ∷ (cs ++ more)) ++ others = e ∙ ap (λ l. (c ∷ cs) ++ l) f ∙ sym (append_assoc (c ∷ cs) more others) in
    elim (other_is i c (cs ++ more) (sign_is_head s c cs is) q) [
      | inl (t, r) ↦ none_left more
          (let h = best t others (whole ∙ ap (λ l. l ++ others) r) in omega (arith, h, ap length is, ap length r, length-append cs more))
      | inr (ds, r) ↦ absurd (apart (ds ++ others) (whole ∙ ap (λ l. l ++ others) r))
    ]

pub sign_front : (s : Sign) (xs : List ℕ) (n : ℕ) → n ≡ length (sign_text s) → IsLongestSign xs (Some s) → ((ds : List ℕ) → xs ≡ 47 ∷ 47 ∷ ds → ⊥) →
    IsFrontOf (front.Sign s) n xs
sign_front s xs n k ((rest, e), best) apart =
    let h = ltb-true 0 (length (sign_text s)) (sign_some s) in
    front_from (front.Sign s) xs (sign_text s) rest n e k (omega (arith, k, h)) refl (sign_longest s xs (sign_text s) rest e refl best apart)

-- nothing

pub underscore_none : (xs : List ℕ) → class_of (get_or xs 0 0) ≡ class.Underscore → NoItem xs
underscore_none xs k i [] rest e s = some_octets i s
underscore_none xs k Gap (c ∷ cs) rest e s = let q = sym k ∙ ap (λ l. class_of (get_or l 0 0)) e in
    elim (head_is Gap c cs s) [ inl h ↦ absurd cc | inr h ↦ absurd cc ]
underscore_none xs k (A_name x) (c ∷ cs) rest e s = let q = sym k ∙ ap (λ l. class_of (get_or l 0 0)) e in let h = head_is (A_name x) c cs s in absurd cc
underscore_none xs k (A_number n) (c ∷ cs) rest e s = let q = sym k ∙ ap (λ l. class_of (get_or l 0 0)) e in let h = head_is (A_number n) c cs s in absurd cc
underscore_none xs k (A_sign t) (c ∷ cs) rest e s = let q = sym k ∙ ap (λ l. class_of (get_or l 0 0)) e in let h = head_is (A_sign t) c cs s in absurd cc
underscore_none xs k (A_keyword w) (c ∷ cs) rest e s = let q = sym k ∙ ap (λ l. class_of (get_or l 0 0)) e in let h = head_is (A_keyword w) c cs s in absurd cc

pub other_none : (xs : List ℕ) → class_of (get_or xs 0 0) ≡ class.Other → IsLongestSign xs None → ((ds : List ℕ) → xs ≡ 47 ∷ 47 ∷ ds → ⊥) → NoItem xs
other_none xs k none apart i [] rest e s = some_octets i s
other_none xs k none apart i (c ∷ cs) rest e s =
    let q : class_of c ≡ class.Other = sym (ap (λ l. class_of (get_or l 0 0)) e) ∙ k in
    elim (other_is i c cs q s) [
      | inl (t, r) ↦ none t rest (e ∙ ap (λ l. l ++ rest) r)
      | inr (ds, r) ↦ apart (ds ++ rest) (e ∙ ap (λ l. l ++ rest) r)
    ]

-- where the text may be cut

ascii : (c : ℕ) → (class_of c ≡ class.Other → ⊥) → c < 128
ascii c h =
    elim (order c 128) [
      | inl low ↦ low
      | inr high ↦ absurd (h (grind (arith, nat_tests)))
    ]

ascii_name : (c : ℕ) → of_name c ≡ true → c < 128
ascii_name c e = ascii c (λ h. let k = sym e ∙ ap goes_on_name h in absurd cc)

ascii_number : (c : ℕ) → of_number c ≡ true → c < 128
ascii_number c e = ascii c (λ h. let k = sym e ∙ ap goes_on_number h in absurd cc)

cut_behind : (xs : List ℕ) (n : ℕ) → IsUtf8 xs → 0 < n → n ≤ length xs → get_or xs (n - 1) 0 < 128 → IsCharBoundary xs n
cut_behind xs n u some within low =
    let k : n - 1 + 1 ≡ n = omega arith in
    subst (λ m. IsCharBoundary xs m) k (IsCharBoundary-after_ascii xs (n - 1) u (omega (arith, some, within)) low)

pub letters_cut : (xs : List ℕ) (n : ℕ) → IsUtf8 xs → IsFrontOf front.Letters n xs → n ≡ prefix_len of_name xs → IsCharBoundary xs n
letters_cut xs n u f e =
    cut_behind xs n u f.nonempty f.in_range (ascii_name (get_or xs (n - 1) 0) (prefix_len_passes of_name xs (n - 1) 0 (omega (arith, e, f.nonempty))))

pub digits_cut : (xs : List ℕ) (n : ℕ) → IsUtf8 xs → IsFrontOf front.Digits n xs → n ≡ prefix_len of_number xs → IsCharBoundary xs n
digits_cut xs n u f e =
    cut_behind xs n u f.nonempty f.in_range (ascii_number (get_or xs (n - 1) 0) (prefix_len_passes of_number xs (n - 1) 0 (omega (arith, e, f.nonempty))))

pub space_cut : (xs : List ℕ) → IsUtf8 xs → 0 < length xs → class_of (get_or xs 0 0) ≡ class.Space → IsCharBoundary xs 1
space_cut xs u some k = cut_behind xs 1 u (omega arith) (omega (arith, some)) (ascii (get_or xs 0 0) (λ h. absurd cc))

line_end : (c : ℕ) → in_line c ≡ false → c < 128
line_end c e = grind (arith, nat_tests)

pub line_cut : (xs : List ℕ) (n : ℕ) → n ≡ prefix_len in_line xs → IsCharBoundary xs n
line_cut xs n e =
    elim (order n (length xs)) [
      | inl before ↦ IsCharBoundary-before_ascii xs n before
          (line_end (get_or xs n 0) (ap (λ m. in_line (get_or xs m 0)) e ∙ prefix_len_stops in_line xs 0 (omega (arith, before, e))))
      | inr behind ↦ let same : length xs ≡ n = omega (arith, behind, e, prefix_len-le-length in_line xs) in
          subst (λ m. IsCharBoundary xs m) same (IsCharBoundary-end xs)
    ]

pub sign_cut : (s : Sign) (xs : List ℕ) (n : ℕ) → IsUtf8 xs → n ≡ length (sign_text s) → IsLongestSign xs (Some s) → IsFrontOf (front.Sign s) n xs →
    IsCharBoundary xs n
sign_cut s xs n u k ((rest, e), best) f =
    let low = ltb-true _ 128 (sign_last s rest) in
    let same : get_or xs (n - 1) 0 ≡ get_or (sign_text s ++ rest) (length (sign_text s) - 1) 0 = ap (λ m. get_or xs (m - 1) 0) k
    ∙ ap (λ l. get_or l (length (sign_text s) - 1) 0) e in
    cut_behind xs n u f.nonempty f.in_range (omega (arith, low, same))

-- whether a text begins with two slashes

pub slashes : (xs needle : List ℕ) (r : Bool) → needle ≡ 47 ∷ 47 ∷ [] → r ≡ starts_with nat_eq xs needle → r ≡ true → xs ≡ 47 ∷ 47 ∷ drop 2 xs
slashes xs needle r e is holds =
    let s = starts_is Decides-eqb xs needle r is in
    s.0 holds ∙ ap (λ l. l ++ drop (length l) xs) e

pub no_slashes : (xs needle : List ℕ) (r : Bool) → needle ≡ 47 ∷ 47 ∷ [] → r ≡ starts_with nat_eq xs needle → r ≡ false → (ds : List ℕ) → xs ≡ 47 ∷ 47 ∷ ds → ⊥
no_slashes xs needle r e is fails ds w =
    let s = starts_is Decides-eqb xs needle r is in
    let k = s.1 ds (w ∙ ap (λ l. l ++ ds) (sym e)) in
    absurd cc
