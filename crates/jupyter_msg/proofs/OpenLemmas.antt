-- Which frames are a message, and why others are refused.
use Rattle.std.proofs.Common.{◌≡◌, ◌≢◌, ◌⊎◌, inl, inr, ℕ, List, [], ◌∷◌, ◌++◌, length, ◌≤◌, Bool, true, false, not, cond, Option, Some, None, Result, Ok, Err}
use Rattle.std.proofs.Common.{IfOk, IfErr, MatchResult, refl, sym, ap, ◌∙◌, subst, arith}
use Rattle.std.specs.List.{AllByRecursion}
use Rattle.std.proofs.lemmas.List.Elements.{recursion_from_All}
use Rattle.jupyter_msg.specs.Object.{is_object}
use Rattle.jupyter_msg.specs.Octets.{Octets, octets, octets_of}
use Rattle.jupyter_signature.specs.Signature.{fits, signature_of}
use Rattle.jupyter_msg.specs.Message.{delimiter, NoneIsDelimiter, IsCut, AreObjects, IsMessage, IsRefused, after_delimiter, refusal_after, text_of, frames_of}
use Rattle.std.proofs.lemmas.Slice.Eq.{bytes_eq-Decides}
use Rattle.serde_json.specs.View.{view}
use Rattle.jupyter_msg.specs.Opened.{IsRead, AreReadAfter}
use Rattle.jupyter_msg.specs.declared.message.Opened.{Opened}
use Rattle.jupyter_msg.specs.declared.message.ReadParts.{ReadParts}
use Rattle.jupyter_msg.specs.declared.fault.Part.TheVariants.{Header, Parent, Metadata, Content}
use Rattle.jupyter_msg.specs.declared.fault.MsgFault.{MsgFault}
use Rattle.jupyter_msg.specs.declared.fault.MsgFault.TheVariants.{NoDelimiter, ShortMessage, BadSignature, NotJson, BadField, UnknownType, Memory}
use Rattle.jupyter_msg.specs.declared.fault.MsgFault.TheVariants.{BadConnection}

-- ---- the order of refusals

abbrev judged : Bool → Bool → Bool → Bool → Bool → Option MsgFault
judged f a b c d =
    cond f (cond (not a) (Some (NotJson Header))
    (cond (not b) (Some (NotJson Parent)) (cond (not c) (Some (NotJson Metadata)) (cond (not d) (Some (NotJson Content)) None)))) (Some BadSignature)

record AllPassed (f a b c d : Bool) : Type 0 where
  signed : f ≡ true
  header : a ≡ true
  parent : b ≡ true
  metadata : c ≡ true
  content : d ≡ true

all_passed : (f a b c d : Bool) → judged f a b c d ≡ None → AllPassed f a b c d
all_passed true true true true true e = record { signed = refl; header = refl; parent = refl; metadata = refl; content = refl }
all_passed false a b c d e = cc
all_passed true false b c d e = cc
all_passed true true false c d e = cc
all_passed true true true false d e = cc
all_passed true true true true false e = cc

none_refused : (f a b c d : Bool) → f ≡ true → a ≡ true → b ≡ true → c ≡ true → d ≡ true → judged f a b c d ≡ None
none_refused f a b c d p q r s t = rw (p, q, r, s, t)

-- frames after the delimiter that are not refused are five or more
pub five_after : (key : List ℕ) (after : List (List ℕ)) → refusal_after key after ≡ None → 5 ≤ length after
five_after key (a ∷ b ∷ c ∷ d ∷ e ∷ rest) h = omega arith
five_after key [] h = cc
five_after key (a ∷ []) h = cc
five_after key (a ∷ b ∷ []) h = cc
five_after key (a ∷ b ∷ c ∷ []) h = cc
five_after key (a ∷ b ∷ c ∷ d ∷ []) h = cc

pub message_of : (key : List ℕ) (frames identities after : List (List ℕ)) (signature : List ℕ) (m : Octets) → IsCut frames identities after →
    refusal_after key after ≡ None
    → m.identities ≡ identities → after ≡ after_delimiter signature m → IsMessage key frames m
message_of key frames identities after signature m cut passed same e =
    let p = all_passed (fits key signature (text_of m)) (is_object m.header) (is_object m.parent) (is_object m.metadata) (is_object m.content)
    (ap (refusal_after key) (sym e) ∙ passed) in
    record {
      signature = signature;
      cut = subst (λ ids. IsCut frames ids (after_delimiter signature m)) (sym same) (subst (IsCut frames identities) e cut);
      signed = p.signed;
      objects = record { header = p.header; parent = p.parent; metadata = p.metadata; content = p.content };
    }

-- ---- one cut, one message, one refusal

once : {X : Type 0} (x : X) (us bs cs ds : List X) → AllByRecursion (λ y. y ≢ x) us → AllByRecursion (λ y. y ≢ x) cs → us ++ x ∷ bs ≡ cs ++ x ∷ ds → (us ≡ cs) ×
    (bs ≡ ds)
once x [] bs [] ds g h e = (refl, cc)
once x [] bs (c ∷ cs) ds g h e = let s : c ≡ x = cc in absurd (h.0 s)
once x (a ∷ us) bs [] ds g h e = let s : a ≡ x = cc in absurd (g.0 s)
once x (a ∷ us) bs (c ∷ cs) ds g h e =
    let s : a ≡ c = cc in
    let t : us ++ x ∷ bs ≡ cs ++ x ∷ ds = cc in
    let u = once x us bs cs ds g.1 h.1 t in
    (rw (s, u.0) refl, u.1)

cut_once : (frames us bs cs ds : List (List ℕ)) → IsCut frames us bs → IsCut frames cs ds → (us ≡ cs) × (bs ≡ ds)
cut_once frames us bs cs ds p q =
    once delimiter us bs cs ds (recursion_from_All _ us p.first) (recursion_from_All _ cs q.first) (sym p.frames_are ∙ q.frames_are)

none_here : {X : Type 0} (x : X) (us bs : List X) → AllByRecursion (λ y. y ≢ x) (us ++ x ∷ bs) → ⊥
none_here x [] bs h = h.0 refl
none_here x (a ∷ us) bs h = none_here x us bs h.1

no_cut : (frames us bs : List (List ℕ)) → NoneIsDelimiter frames → IsCut frames us bs → ⊥
no_cut frames us bs none cut =
    none_here delimiter us bs (subst (AllByRecursion (λ y. y ≢ delimiter)) cut.frames_are (recursion_from_All _ frames none))

abbrev made : List (List ℕ) → List ℕ → List ℕ → List ℕ → List ℕ → List (List ℕ) → Octets
made ids h p d c bs = record { identities = ids; header = h; parent = p; metadata = d; content = c; buffers = bs }

same_octets : (m n : Octets) → m.identities ≡ n.identities → m.header ≡ n.header → m.parent ≡ n.parent → m.metadata ≡ n.metadata → m.content ≡ n.content →
    m.buffers ≡ n.buffers → m ≡ n
same_octets m n i h p d c b =
    let e : made m.identities m.header m.parent m.metadata m.content m.buffers ≡ made n.identities n.header n.parent n.metadata n.content n.buffers =
    rw (i, h, p, d, c, b) in e

same_message : (key : List ℕ) (frames : List (List ℕ)) (m n : Octets) → IsMessage key frames m → IsMessage key frames n → m ≡ n
same_message key frames m n p q =
    let u = cut_once frames m.identities _ n.identities _ p.cut q.cut in
    let i : m.identities ≡ n.identities = u.0 in
    let a : p.signature ∷ m.header ∷ m.parent ∷ m.metadata ∷ m.content ∷ m.buffers ≡ q.signature ∷ n.header ∷ n.parent ∷ n.metadata ∷ n.content ∷ n.buffers =
    u.1 in
    let h : m.header ≡ n.header = cc in
    let g : m.parent ≡ n.parent = cc in
    let d : m.metadata ≡ n.metadata = cc in
    let c : m.content ≡ n.content = cc in
    let b : m.buffers ≡ n.buffers = cc in
    same_octets m n i h g d c b

passed_after : (key : List ℕ) (frames : List (List ℕ)) (m : Octets) (p : IsMessage key frames m) → refusal_after key (after_delimiter p.signature m) ≡ None
passed_after key frames m p =
    none_refused (fits key p.signature (text_of m)) (is_object m.header) (is_object m.parent) (is_object m.metadata) (is_object m.content)
    p.signed p.objects.header p.objects.parent p.objects.metadata p.objects.content

none_some : {A : Type 0} {a : A} → None ≡ Some a → ⊥
none_some e = cc

some_same : {A : Type 0} {a b : A} → Some a ≡ Some b → a ≡ b
some_same e = cc

-- a refusal after the first delimiter
record RefusedAfter (key : List ℕ) (frames : List (List ℕ)) (fault : MsgFault) : Type 0 where
  identities : List (List ℕ)
  after : List (List ℕ)
  cut : IsCut frames identities after
  refusal : refusal_after key after ≡ Some fault

by_place : (key : List ℕ) (frames : List (List ℕ)) (fault : MsgFault) → IsRefused key frames fault → ((fault ≡ NoDelimiter) × NoneIsDelimiter frames) ⊎
    RefusedAfter key frames fault
by_place key frames NoDelimiter h = inl (refl, h)
by_place key frames ShortMessage h = inr (record { identities = h.0; after = h.1; cut = h.2; refusal = h.3 })
by_place key frames BadSignature h = inr (record { identities = h.0; after = h.1; cut = h.2; refusal = h.3 })
by_place key frames (NotJson part) h = inr (record { identities = h.0; after = h.1; cut = h.2; refusal = h.3 })
by_place key frames (BadField field) h = inr (record { identities = h.0; after = h.1; cut = h.2; refusal = h.3 })
by_place key frames UnknownType h = inr (record { identities = h.0; after = h.1; cut = h.2; refusal = h.3 })
by_place key frames Memory h = inr (record { identities = h.0; after = h.1; cut = h.2; refusal = h.3 })
by_place key frames (BadConnection setting) h = inr (record { identities = h.0; after = h.1; cut = h.2; refusal = h.3 })

not_delimiter : (f a b c d : Bool) → judged f a b c d ≡ Some NoDelimiter → ⊥
not_delimiter false a b c d e = cc
not_delimiter true false b c d e = cc
not_delimiter true true false c d e = cc
not_delimiter true true true false d e = cc
not_delimiter true true true true false e = cc
not_delimiter true true true true true e = cc

after_is_found : (key : List ℕ) (after : List (List ℕ)) → refusal_after key after ≡ Some NoDelimiter → ⊥
after_is_found key (s ∷ h ∷ p ∷ d ∷ c ∷ rest) e = not_delimiter (fits key s (h ++ p ++ d ++ c)) (is_object h) (is_object p) (is_object d) (is_object c) e
after_is_found key [] h = cc
after_is_found key (a ∷ []) h = cc
after_is_found key (a ∷ b ∷ []) h = cc
after_is_found key (a ∷ b ∷ c ∷ []) h = cc
after_is_found key (a ∷ b ∷ c ∷ d ∷ []) h = cc

-- a refusal that `refusal_after` gives is one that comes after a delimiter
pub refused_after : (key : List ℕ) (frames identities after : List (List ℕ)) (fault : MsgFault) → IsCut frames identities after →
    refusal_after key after ≡ Some fault → IsRefused key frames fault
refused_after key frames identities after NoDelimiter cut e = absurd (after_is_found key after e)
refused_after key frames identities after ShortMessage cut e = (identities, after, cut, e)
refused_after key frames identities after BadSignature cut e = (identities, after, cut, e)
refused_after key frames identities after (NotJson part) cut e = (identities, after, cut, e)
refused_after key frames identities after (BadField field) cut e = (identities, after, cut, e)
refused_after key frames identities after UnknownType cut e = (identities, after, cut, e)
refused_after key frames identities after Memory cut e = (identities, after, cut, e)
refused_after key frames identities after (BadConnection setting) cut e = (identities, after, cut, e)

refused_not : (key : List ℕ) (frames : List (List ℕ)) (m : Octets) (fault : MsgFault) → IsMessage key frames m → RefusedAfter key frames fault → ⊥
refused_not key frames m fault p r =
    let u = cut_once frames m.identities _ r.identities r.after p.cut r.cut in
    let e : refusal_after key (after_delimiter p.signature m) ≡ Some fault = ap (refusal_after key) u.1 ∙ r.refusal in
    none_some (sym (passed_after key frames m p) ∙ e)

message_not_refused : (key : List ℕ) (frames : List (List ℕ)) (m : Octets) (fault : MsgFault) → IsMessage key frames m → IsRefused key frames fault → ⊥
message_not_refused key frames m fault p r =
    elim (by_place key frames fault r) [ inl h ↦ no_cut frames m.identities _ h.1 p.cut | inr h ↦ refused_not key frames m fault p h ]

same_refusal : (key : List ℕ) (frames : List (List ℕ)) (e fault : MsgFault) → IsRefused key frames e → IsRefused key frames fault → e ≡ fault
same_refusal key frames e fault p q =
    elim (by_place key frames e p) [
      | inl g ↦ elim (by_place key frames fault q) [ inl h ↦ g.0 ∙ sym h.0 | inr h ↦ absurd (no_cut frames h.identities h.after g.1 h.cut) ]
      | inr g ↦ elim (by_place key frames fault q) [
        | inl h ↦ absurd (no_cut frames g.identities g.after h.1 g.cut)
        | inr h ↦ some_same (sym g.refusal ∙ ap (refusal_after key) (cut_once frames g.identities g.after h.identities h.after g.cut h.cut).1 ∙ h.refusal)
      ]
    ]

-- what a refusal is, once the frames are cut
refusal_at : (key : List ℕ) (frames identities after : List (List ℕ)) (fault : MsgFault) → IsCut frames identities after → IsRefused key frames fault →
    refusal_after key after ≡ Some fault
refusal_at key frames identities after fault cut q =
    elim (by_place key frames fault q) [
      | inl h ↦ absurd (no_cut frames identities after h.1 cut)
      | inr h ↦ ap (refusal_after key) (cut_once frames identities after h.identities h.after cut h.cut).1 ∙ h.refusal
    ]

-- ---- what the answer of `open` says of every message and of every refusal

-- the message that was opened
abbrev seen : Opened → Octets
seen o = octets_of o.message

pub every_message : (key : List ℕ) (frames : List (List ℕ)) (r : Result Opened MsgFault) → IfOk r (λ m. IsMessage key frames (seen m)) →
    IfErr r (λ e. (e ≡ Memory) ⊎ IsRefused key frames e)
    → (m : Octets) → IsMessage key frames m → MatchResult r (λ x. seen x ≡ m) (λ e. e ≡ Memory)
every_message key frames (Ok x) ok err m p = same_message key frames (seen x) m ok p
every_message key frames (Err e) ok err m p = elim err [ inl h ↦ h | inr h ↦ absurd (message_not_refused key frames m e p h) ]

pub exactly_refused : (key : List ℕ) (frames : List (List ℕ)) (r : Result Opened MsgFault) → IfOk r (λ m. IsMessage key frames (seen m)) →
    IfErr r (λ e. (e ≡ Memory) ⊎ IsRefused key frames e)
    → (fault : MsgFault) → IsRefused key frames fault → MatchResult r (λ _. ⊥) (λ e. (e ≡ Memory) ⊎ (e ≡ fault))
exactly_refused key frames (Ok x) ok err fault q = message_not_refused key frames (seen x) fault ok q
exactly_refused key frames (Err e) ok err fault q = elim err [ inl h ↦ inl h | inr h ↦ inr (same_refusal key frames e fault h q) ]

pub no_delimiter_early : (key : List ℕ) (frames : List (List ℕ)) → NoneIsDelimiter frames → (fault : MsgFault) → IsRefused key frames fault →
    NoDelimiter ≡ fault
no_delimiter_early key frames none fault q = same_refusal key frames NoDelimiter fault none q

pub passed_early : (key : List ℕ) (frames identities after : List (List ℕ)) (r : Result Opened MsgFault) → IsCut frames identities after →
    refusal_after key after ≡ None
    → (fault : MsgFault) → IsRefused key frames fault → r ≡ Err fault
passed_early key frames identities after r cut passed fault q = absurd (none_some (sym passed ∙ refusal_at key frames identities after fault cut q))

pub refused_early : (key : List ℕ) (frames identities after : List (List ℕ)) (r : Result Opened MsgFault) (checked : Result ReadParts MsgFault)
    (e fault : MsgFault) → IsCut frames identities after → r ≡ Err e
    → checked ≡ Err e → (refusal_after key after ≡ Some fault → checked ≡ Err fault) → IsRefused key frames fault → r ≡ Err fault
refused_early key frames identities after r checked e fault cut s at early q = let t = early (refusal_at key frames identities after fault cut q) in
    let u : e ≡ fault = cc in s ∙ ap Err u

-- ---- what is taken apart

pub taken_message : (key : List ℕ) (frames identities after : List (List ℕ)) (r : Result Opened MsgFault) → IsCut frames identities after →
    refusal_after key after ≡ None
    → IfOk r (λ m. octets m.message.identities.items ≡ identities) → IfOk r (λ m. (signature : List ℕ) × (after ≡ after_delimiter signature (seen m))) →
    IfOk r (λ m. IsMessage key frames (seen m))
taken_message key frames identities after (Ok m) cut passed same e = message_of key frames identities after e.0 (seen m) cut passed same e.1
taken_message key frames identities after (Err fault) cut passed same e = tt

pub memory_refused : (key : List ℕ) (frames : List (List ℕ)) (r : Result Opened MsgFault) → IfErr r (λ e. e ≡ Memory) →
    IfErr r (λ e. (e ≡ Memory) ⊎ IsRefused key frames e)
memory_refused key frames (Ok m) h = tt
memory_refused key frames (Err e) h = inl h

pub judged_refused : (key : List ℕ) (frames identities after : List (List ℕ)) (e : MsgFault) → IsCut frames identities after → (e ≡ Memory) ⊎
    (refusal_after key after ≡ Some e) → (e ≡ Memory) ⊎ IsRefused key frames e
judged_refused key frames identities after e cut h = elim h [ inl m ↦ inl m | inr r ↦ inr (refused_after key frames identities after e cut r) ]

pub refused_at : (key : List ℕ) (frames : List (List ℕ)) (r : Result Opened MsgFault) (e : MsgFault) → r ≡ Err e → (e ≡ Memory) ⊎ IsRefused key frames e →
    IfErr r (λ e. (e ≡ Memory) ⊎ IsRefused key frames e)
refused_at key frames r e s h = subst (λ r. IfErr r (λ e. (e ≡ Memory) ⊎ IsRefused key frames e)) (sym s) h

pub not_message : (key : List ℕ) (frames : List (List ℕ)) (r : Result Opened MsgFault) (e : MsgFault) → r ≡ Err e → IfOk r (λ m. IsMessage key frames (seen m))
not_message key frames r e s = subst (λ r. IfOk r (λ m. IsMessage key frames (seen m))) (sym s) tt

-- what was read from the frames is what was read of the message
pub taken_read : (after : List (List ℕ)) (p : ReadParts) (r : Result Opened MsgFault) → AreReadAfter p after
    → IfOk r (λ o. (signature : List ℕ) × (after ≡ after_delimiter signature (seen o))) → IfOk r (λ o. (o.header ≡ p.header) × (o.content ≡ p.content)) →
    IfOk r IsRead
taken_read after p (Ok o) from e same =
    let here = subst (AreReadAfter p) e.1 from in
    record { header = here.header_is ∙ ap (λ v. Some (view v)) (sym same.0); content = here.content_is ∙ ap (λ v. Some (view v)) (sym same.1) }
taken_read after p (Err fault) from e same = tt

pub not_read : (r : Result Opened MsgFault) (e : MsgFault) → r ≡ Err e → IfOk r IsRead
not_read r e s = subst (λ r. IfOk r IsRead) (sym s) tt

-- ---- what is written is a message

fits_itself : (key text : List ℕ) → fits key (signature_of key text) text ≡ true
fits_itself [] text = refl
fits_itself (k ∷ ks) text = (bytes_eq-Decides (signature_of (k ∷ ks) text) (signature_of (k ∷ ks) text)).1 refl

pub sealed_is_message : (key : List ℕ) (m : Octets) (frames : List (List ℕ)) → frames ≡ frames_of key m → AreObjects m → NoneIsDelimiter m.identities →
    IsMessage key frames m
sealed_is_message key m frames e objects none = record {
  signature = signature_of key (text_of m);
  cut = record { frames_are = e; first = none };
  signed = fits_itself key (text_of m);
  objects = objects;
}
