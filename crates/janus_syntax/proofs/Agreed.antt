-- Tokens of a class that are the ones that they have to be.
use Rattle.std.proofs.Common.{◌≡◌, Option, Some, None, Bool, true, false, cond, refl, ap, subst, ◌∙◌}
use Rattle.janus_syntax.specs.declared.token.Span.{Span}
use Rattle.janus_syntax.specs.declared.token.Keyword.{Keyword}
use Rattle.janus_syntax.specs.declared.token.Keyword.TheVariants as keyword
use Rattle.janus_syntax.specs.declared.tree.LocalKind.{LocalKind}
use Rattle.janus_syntax.specs.declared.tree.LocalKind.TheVariants as kind
use Rattle.janus_syntax.specs.Tokens.{Token, Keyword_of}
use Rattle.janus_syntax.specs.Forms.{Class, Seen, seen, agrees, The_keyword, The_sign, A_name, A_number, An_update, Same_kind, Same_name}

abbrev pub the_one : (c : Class) → Option (Seen c) → Option (Seen c)
the_one c None = None
the_one c (Some s) = cond (agrees c s) (Some s) None

-- a token as one of a class, if it is the one that it has to be
abbrev pub agreed : (c : Class) → Token → Option (Seen c)
agreed (Same_kind j) t = the_one (Same_kind j) (seen (Same_kind j) t)
agreed (Same_name x) t = the_one (Same_name x) (seen (Same_name x) t)
agreed c t = seen c t

one_tested : (c : Class) (v s : Seen c) (b : Bool) → agrees c v ≡ b → cond b (Some v) None ≡ Some s → (Some v ≡ Some s) × (agrees c s ≡ true)
one_tested c v s true a e = let same : v ≡ s = cc in (e, subst (λ x. agrees c x ≡ true) same a)
one_tested c v s false a e = absurd cc

pub one_of : (c : Class) (o : Option (Seen c)) (s : Seen c) → the_one c o ≡ Some s → (o ≡ Some s) × (agrees c s ≡ true)
one_of c None s e = absurd cc
one_of c (Some v) s e = one_tested c v s (agrees c v) refl e

pub agreed_is : (c : Class) (t : Token) (s : Seen c) → agreed c t ≡ Some s → (seen c t ≡ Some s) × (agrees c s ≡ true)
agreed_is (The_keyword w) t s e = (e, refl)
agreed_is (The_sign r) t s e = (e, refl)
agreed_is A_name t s e = (e, refl)
agreed_is A_number t s e = (e, refl)
agreed_is An_update t s e = (e, refl)
agreed_is (Same_kind j) t s e = one_of (Same_kind j) (seen (Same_kind j) t) s e
agreed_is (Same_name x) t s e = one_of (Same_name x) (seen (Same_name x) t) s e

is_the_one : (c : Class) (o : Option (Seen c)) (s : Seen c) → o ≡ Some s → agrees c s ≡ true → the_one c o ≡ Some s
is_the_one c o s is fit = ap (the_one c) is ∙ ap (λ b. cond b (Some s) None) fit

pub is_agreed : (c : Class) (t : Token) (s : Seen c) → seen c t ≡ Some s → agrees c s ≡ true → agreed c t ≡ Some s
is_agreed (The_keyword w) t s is fit = is
is_agreed (The_sign r) t s is fit = is
is_agreed A_name t s is fit = is
is_agreed A_number t s is fit = is
is_agreed An_update t s is fit = is
is_agreed (Same_kind j) t s is fit = is_the_one (Same_kind j) (seen (Same_kind j) t) s is fit
is_agreed (Same_name x) t s is fit = is_the_one (Same_name x) (seen (Same_name x) t) s is fit

-- the keyword of a kind
abbrev pub kind_keyword : LocalKind → Keyword
kind_keyword kind.Int = keyword.Int
kind_keyword kind.Stack = keyword.Stack

pub kind_agreed : (j : LocalKind) (at : Span) → agreed (Same_kind j) (Keyword_of (kind_keyword j) at) ≡ Some j
kind_agreed kind.Int at = refl
kind_agreed kind.Stack at = refl
