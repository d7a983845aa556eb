-- What is written is UTF-8.
use Rattle.std.proofs.Common.{◌≡◌, ℕ, ℤ, pos, negsuc, zero, suc, ◌+◌, ◌<◌, ◌%◌, ◌/◌, ◌==◌, Bool, true, false, ◌&&◌, nat_lt, List, [], ◌∷◌, ◌++◌, Option, Some}
use Rattle.std.proofs.Common.{None, refl, sym, subst, codes, arith}
use Rattle.std.specs.Prelude.{slice_index, length, take, nat_le, if◌then◌else◌}
use Rattle.std.specs.Fmt.{digits, digits_onto, digit_glyph, decimal, signed_decimal}
use Rattle.std.specs.List.{list_all}
use Rattle.std.specs.Str.{IsUtf8}
use Rattle.std.proofs.lemmas.Bool.{lt-ltb, ltb-true}
use Rattle.std.proofs.lemmas.Str.{IsUtf8-append, IsUtf8-from_ascii, IsUtf8-nil}
use Rattle.janus_meaning.specs.Store.{Val, Num, Arr, Stk, Lent}
use Rattle.janus_meaning.specs.Faults as fault
use Rattle.janus_meaning.specs.declared.fault.Fault.{Fault}
use Rattle.janus_meaning.specs.declared.fault.Fault.TheVariants.{FiAssertion, EntryAssertion, LoopAssertion, DelocalMismatch, PopNotZero, PopEmpty, TopEmpty}
use Rattle.janus_meaning.specs.declared.fault.Fault.TheVariants.{DivisionByZero, IndexRange, StackFull, TooDeep, TooManyStacks, StepLimit}
use Rattle.janus_syntax.specs.Fault as syntax
use Rattle.janus_syntax.specs.declared.fault.SyntaxFault.{SyntaxFault}
use Rattle.janus_syntax.specs.declared.fault.SyntaxFault.TheVariants as s
use Rattle.janus_syntax.specs.declared.token.Span.{Span}
use Rattle.kernel_core.specs.CheckFault as check
use Rattle.kernel_core.specs.check_fault.CheckFault.{CheckFault}
use Rattle.kernel_core.specs.check_fault.CheckFault.TheVariants as c
use Rattle.kernel_core.specs.Refusal as refusal
use Rattle.kernel_core.specs.outcome.TravelEnd.{TravelEnd}
use Rattle.kernel_core.specs.outcome.TravelEnd.TheVariants.{All, Asked, NoMemory}
use Rattle.kernel_core.specs.outcome.Outcome.{Outcome}
use Rattle.kernel_core.specs.outcome.Outcome.TheVariants.{Ran, Failed, Interrupted, Undid, Redid, Went, Refused}
use Rattle.kernel_core.specs.outcome.Refusal.{Refusal}
use Rattle.kernel_core.specs.outcome.Refusal.TheVariants.{Syntax, Check, HistoryFull, TooFar, NoNode, Closing, Memory}
use Rattle.kernel_core.specs.PostFault as post_fault
use Rattle.kernel_core.specs.post.PostFault.{PostFault}
use Rattle.kernel_core.specs.post.PostFault.TheVariants as p
use Rattle.kernel_text.specs.Lines.{counted_text, numbered_text, place_text, end_text, fault_text, refusal_text, outcome_line, post_fault_line}
use Rattle.kernel_text.specs.ValueTexts.{spaced_text, numbers_text, told_text, value_text}

-- ---- pieces

one_octet : (c : ℕ) → c < 128 → IsUtf8 (c ∷ [])
one_octet c h = IsUtf8-from_ascii (c ∷ []) (λ i. at i)
  where
    at : (i : ℕ) → slice_index (c ∷ []) i < 128
    at zero = h
    at (suc i) = omega arith

both : (a b : Bool) → (a && b) ≡ true → (a ≡ true) × (b ≡ true)
both true b e = (refl, e)
both false b e = absurd (cc e)

-- a text of ASCII alone
literal : (bs : List ℕ) → list_all (λ c. nat_lt c 128) bs ≡ true → IsUtf8 bs
literal [] h = IsUtf8-nil
literal (c ∷ cs) h =
    let t = both (nat_lt c 128) (list_all (λ c. nat_lt c 128) cs) h in
    IsUtf8-append (c ∷ []) cs (one_octet c (ltb-true c 128 t.0)) (literal cs t.1)

glyph : (d : ℕ) → d < 10 → digit_glyph false d < 128
glyph d h = subst (λ b. (if b then 48 + d else 87 + d) < 128) (sym (lt-ltb d 10 h)) (omega arith)

either : (b : Bool) (xs ys : List ℕ) → IsUtf8 xs → IsUtf8 ys → IsUtf8 (if b then xs else ys)
either true xs ys h k = h
either false xs ys h k = k

digits_utf8 : (k n : ℕ) (acc : List ℕ) → IsUtf8 acc → IsUtf8 (digits_onto k 10 false n acc)
digits_utf8 zero n acc h = h
digits_utf8 (suc k) n acc h =
    let d = digit_glyph false (n % 10) in
    let more : IsUtf8 (d ∷ acc) = IsUtf8-append (d ∷ []) acc (one_octet d (glyph (n % 10) (omega arith))) h in
    either (n / 10 == 0) (d ∷ acc) (digits_onto k 10 false (n / 10) (d ∷ acc)) more (digits_utf8 k (n / 10) (d ∷ acc) more)

decimal_utf8 : (n : ℕ) → IsUtf8 (decimal n)
unfolding digits
decimal_utf8 n = digits_utf8 64 n [] IsUtf8-nil

signed_utf8 : (z : ℤ) → IsUtf8 (signed_decimal z)
signed_utf8 (pos n) = decimal_utf8 n
signed_utf8 (negsuc n) = IsUtf8-append (45 ∷ []) (decimal (suc n)) (literal (45 ∷ []) refl) (decimal_utf8 (suc n))

counted_utf8 : (words : List ℕ) (n : ℕ) → IsUtf8 words → IsUtf8 (counted_text words n)
counted_utf8 words n h = IsUtf8-append words (decimal n) h (decimal_utf8 n)

numbered_utf8 : (words : List ℕ) (number : ℕ) (name : List ℕ) → IsUtf8 words → IsUtf8 name → IsUtf8 (numbered_text words number name)
numbered_utf8 words number name h k =
    IsUtf8-append (counted_text words number) (codes " " ++ name) (counted_utf8 words number h)
    (IsUtf8-append (codes " ") name (literal (codes " ") refl) k)

-- ---- names of faults and refusals

fault_name_utf8 : (f : Fault) → IsUtf8 (fault.name_of f)
fault_name_utf8 FiAssertion = literal (codes "FiAssertion") refl
fault_name_utf8 EntryAssertion = literal (codes "EntryAssertion") refl
fault_name_utf8 LoopAssertion = literal (codes "LoopAssertion") refl
fault_name_utf8 DelocalMismatch = literal (codes "DelocalMismatch") refl
fault_name_utf8 PopNotZero = literal (codes "PopNotZero") refl
fault_name_utf8 PopEmpty = literal (codes "PopEmpty") refl
fault_name_utf8 TopEmpty = literal (codes "TopEmpty") refl
fault_name_utf8 DivisionByZero = literal (codes "DivisionByZero") refl
fault_name_utf8 IndexRange = literal (codes "IndexRange") refl
fault_name_utf8 StackFull = literal (codes "StackFull") refl
fault_name_utf8 TooDeep = literal (codes "TooDeep") refl
fault_name_utf8 TooManyStacks = literal (codes "TooManyStacks") refl
fault_name_utf8 StepLimit = literal (codes "StepLimit") refl

syntax_name_utf8 : (f : SyntaxFault) → IsUtf8 (syntax.fault_name f)
syntax_name_utf8 (s.BadToken at) = literal (codes "BadToken") refl
syntax_name_utf8 (s.Expected w at) = literal (codes "Expected") refl
syntax_name_utf8 (s.NumberTooLarge at) = literal (codes "NumberTooLarge") refl
syntax_name_utf8 (s.TooNested at) = literal (codes "TooNested") refl
syntax_name_utf8 (s.DelocalName at) = literal (codes "DelocalName") refl
syntax_name_utf8 s.Memory = literal (codes "Memory") refl

check_name_utf8 : (f : CheckFault) → IsUtf8 (check.fault_name f)
check_name_utf8 c.Memory = literal (codes "Memory") refl
check_name_utf8 (c.Declared at) = literal (codes "Declared") refl
check_name_utf8 (c.Unknown at) = literal (codes "Unknown") refl
check_name_utf8 (c.WrongKind at) = literal (codes "WrongKind") refl
check_name_utf8 (c.SelfUse at) = literal (codes "SelfUse") refl
check_name_utf8 (c.SameArgument at) = literal (codes "SameArgument") refl
check_name_utf8 (c.Arity at) = literal (codes "Arity") refl
check_name_utf8 (c.ChangedParameters at) = literal (codes "ChangedParameters") refl
check_name_utf8 (c.Shadow at) = literal (codes "Shadow") refl
check_name_utf8 (c.TooMany at) = literal (codes "TooMany") refl
check_name_utf8 (c.ArrayLength at) = literal (codes "ArrayLength") refl

refusal_name_utf8 : (r : Refusal) → IsUtf8 (refusal.name_of r)
refusal_name_utf8 (Syntax f) = syntax_name_utf8 f
refusal_name_utf8 (Check f) = check_name_utf8 f
refusal_name_utf8 TooFar = literal (codes "TooFar") refl
refusal_name_utf8 HistoryFull = literal (codes "HistoryFull") refl
refusal_name_utf8 NoNode = literal (codes "NoNode") refl
refusal_name_utf8 Closing = literal (codes "Closing") refl
refusal_name_utf8 Memory = literal (codes "Memory") refl

-- ---- the parts of an outcome's line

place_utf8 : (place : Option Span) → IsUtf8 (place_text place)
place_utf8 None = IsUtf8-nil
place_utf8 (Some span) =
    IsUtf8-append (counted_text (codes " at ") span.start) (counted_text (codes "..") span.end)
    (counted_utf8 (codes " at ") span.start (literal (codes " at ") refl)) (counted_utf8 (codes "..") span.end (literal (codes "..") refl))

end_utf8 : (end : TravelEnd) → IsUtf8 (end_text end)
end_utf8 All = IsUtf8-nil
end_utf8 Asked = IsUtf8-nil
end_utf8 NoMemory = literal (codes " then no memory") refl

-- the line of a fault
pub fault_utf8 : (f : Fault) → IsUtf8 (fault_text f)
fault_utf8 f = numbered_utf8 (codes "fault ") (fault.number_of f) (fault.name_of f) (literal (codes "fault ") refl) (fault_name_utf8 f)

-- the line of a refusal
pub refusal_utf8 : (r : Refusal) → IsUtf8 (refusal_text r)
refusal_utf8 r =
    IsUtf8-append (numbered_text (codes "refused ") (refusal.number_of r) (refusal.name_of r)) (place_text (refusal.span_of r))
    (numbered_utf8 (codes "refused ") (refusal.number_of r) (refusal.name_of r) (literal (codes "refused ") refl) (refusal_name_utf8 r))
    (place_utf8 (refusal.span_of r))

post_name_utf8 : (f : PostFault) → IsUtf8 (post_fault.name_of f)
post_name_utf8 p.Closing = literal (codes "Closing") refl
post_name_utf8 p.MinutesFull = literal (codes "MinutesFull") refl
post_name_utf8 p.QueueFull = literal (codes "QueueFull") refl
post_name_utf8 p.Memory = literal (codes "Memory") refl

-- the line of a post that was refused
pub post_fault_utf8 : (f : PostFault) → IsUtf8 (post_fault_line f)
post_fault_utf8 f = numbered_utf8 (codes "refused ") (post_fault.number_of f) (post_fault.name_of f) (literal (codes "refused ") refl) (post_name_utf8 f)

-- the line of an outcome
pub outcome_utf8 : (o : Outcome) → IsUtf8 (outcome_line o)
outcome_utf8 (Ran node steps) =
    IsUtf8-append (counted_text (codes "ok node ") node) (counted_text (codes " steps ") steps)
    (counted_utf8 (codes "ok node ") node (literal (codes "ok node ") refl)) (counted_utf8 (codes " steps ") steps (literal (codes " steps ") refl))
outcome_utf8 (Failed f steps) =
    IsUtf8-append (fault_text f) (counted_text (codes " after ") steps)
    (fault_utf8 f) (counted_utf8 (codes " after ") steps (literal (codes " after ") refl))
outcome_utf8 (Interrupted steps) = counted_utf8 (codes "interrupted after ") steps (literal (codes "interrupted after ") refl)
outcome_utf8 (Undid cells end) =
    IsUtf8-append (counted_text (codes "undid ") cells) (end_text end) (counted_utf8 (codes "undid ") cells (literal (codes "undid ") refl)) (end_utf8 end)
outcome_utf8 (Redid cells end) =
    IsUtf8-append (counted_text (codes "redid ") cells) (end_text end) (counted_utf8 (codes "redid ") cells (literal (codes "redid ") refl)) (end_utf8 end)
outcome_utf8 (Went up down end) =
    IsUtf8-append (counted_text (codes "went ") up ++ counted_text (codes " up ") down) (codes " down" ++ end_text end)
    (IsUtf8-append (counted_text (codes "went ") up) (counted_text (codes " up ") down)
    (counted_utf8 (codes "went ") up (literal (codes "went ") refl)) (counted_utf8 (codes " up ") down (literal (codes " up ") refl)))
    (IsUtf8-append (codes " down") (end_text end) (literal (codes " down") refl) (end_utf8 end))
outcome_utf8 (Refused r) = refusal_utf8 r

-- ---- the value text of a name

spaced_utf8 : (l : List ℤ) → IsUtf8 (spaced_text l)
spaced_utf8 [] = IsUtf8-nil
spaced_utf8 (n ∷ more) =
    IsUtf8-append (codes " " ++ signed_decimal n) (spaced_text more)
    (IsUtf8-append (codes " ") (signed_decimal n) (literal (codes " ") refl) (signed_utf8 n)) (spaced_utf8 more)

numbers_utf8 : (l : List ℤ) → IsUtf8 (numbers_text l)
numbers_utf8 l =
    either (nat_le (length l) 32) (spaced_text l) (spaced_text (take 32 l) ++ codes " ...") (spaced_utf8 l)
    (IsUtf8-append (spaced_text (take 32 l)) (codes " ...") (spaced_utf8 (take 32 l)) (literal (codes " ...") refl))

behind_utf8 : (left right : List ℕ) (n : ℕ) (l : List ℤ) → IsUtf8 left → IsUtf8 right → IsUtf8 ((counted_text left n ++ right) ++ numbers_text l)
behind_utf8 left right n l h k =
    IsUtf8-append (counted_text left n ++ right) (numbers_text l) (IsUtf8-append (counted_text left n) right (counted_utf8 left n h) k) (numbers_utf8 l)

told_utf8 : (value : Val) → IsUtf8 (told_text value)
told_utf8 (Num n) = IsUtf8-append (codes " = ") (signed_decimal n) (literal (codes " = ") refl) (signed_utf8 n)
told_utf8 (Arr l) = behind_utf8 (codes "[") (codes "] =") (length l) l (literal (codes "[") refl) (literal (codes "] =") refl)
told_utf8 (Stk l) = behind_utf8 (codes "(") (codes ") =") (length l) l (literal (codes "(") refl) (literal (codes ") =") refl)
told_utf8 Lent = IsUtf8-nil

-- of a name that is UTF-8
pub value_utf8 : (name : List ℕ) (value : Val) → IsUtf8 name → IsUtf8 (value_text (name, value))
value_utf8 name value h = IsUtf8-append name (told_text value) h (told_utf8 value)
