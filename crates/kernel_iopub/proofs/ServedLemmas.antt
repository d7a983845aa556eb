-- Turns that go out one after another.
use Rattle.std.proofs.Common.{◌≡◌, ℕ, ◌+◌, inl, inr, List, [], ◌∷◌, ◌++◌, length, map, Option, Some, None, refl, sym, ap, ◌∙◌, subst, append_assoc, append-nil}
use Rattle.std.proofs.Common.{Result, Ok, Err, OnOk}
use Rattle.std.specs.List.{flat_map}
use Rattle.std.specs.Option.{option_or}
use Rattle.std.proofs.lemmas.Grind.{flat_map-append}
use Rattle.kernel_board.specs.Frames.{Frames}
use Rattle.kernel_board.specs.declared.log.Place.{Place}
use Rattle.kernel_iopub.specs.Pings.{WereAsked}
use Rattle.kernel_iopub.specs.Signs.{Sign, Gone, Goes, GoesSome, message_signs, pong_signs}
use Rattle.kernel_iopub.proofs.SignLemmas.{goes_none, goes_join}
use Rattle.kernel_iopub.specs.Round.{Outgoing, Shown, Pong, outgoing_signs, AreTold, AreToldTo, AreToldInPart, AreTurns, none, begun, round, pongs, number_at}
use Rattle.kernel_iopub.specs.Round.{IsSent, AreSentTo, AreAnswered, AreAnsweredInPart}

-- ---- signs behind those that came

-- the signs of things behind others
signs_on : {X : Type 0} (out : List Outgoing) (f : X → Outgoing) (signs : X → List Sign) → ((x : X) → outgoing_signs (f x) ≡ signs x) → (xs : List X)
    → flat_map outgoing_signs (out ++ map f xs) ≡ flat_map outgoing_signs out ++ flat_map signs xs
signs_on {X} out f signs same xs =
    flat_map-append outgoing_signs out (map f xs) ∙ ap (λ (s : List Sign). flat_map outgoing_signs out ++ s) (each xs)
  where
    each : (ys : List X) → flat_map outgoing_signs (map f ys) ≡ flat_map signs ys
    each [] = refl
    each (y ∷ ys) = ap (λ (s : List Sign). s ++ flat_map outgoing_signs (map f ys)) (same y) ∙ ap (λ (s : List Sign). signs y ++ s) (each ys)

-- all of them came
whole_on : {X : Type 0} (a b c : Gone) (out : List Outgoing) (f : X → Outgoing) (signs : X → List Sign)
    → ((x : X) → outgoing_signs (f x) ≡ signs x) → (xs : List X)
    → Goes a b (flat_map outgoing_signs out) → Goes b c (flat_map signs xs) → Goes a c (flat_map outgoing_signs (out ++ map f xs))
whole_on a b c out f signs same xs before now = subst (Goes a c) (sym (signs_on out f signs same xs)) (goes_join a b c _ _ before now)

shown : (b : Frames) → outgoing_signs (Shown b) ≡ message_signs b
shown b = refl

answered : (context : List ℕ) → outgoing_signs (Pong context) ≡ pong_signs context
answered context = refl

-- all that were taken were answered
pub answered_all : {E : Type 0} (r : Result (Unit {0}) E) (taken behind : ℕ) (a b : Gone) (contexts : List (List ℕ)) → WereAsked taken contexts
    → behind ≡ taken + length contexts → OnOk r (Goes a b (flat_map pong_signs contexts)) → OnOk r (AreAnswered taken a b behind)
answered_all (Ok done) taken behind a b contexts asked count p = (contexts, asked, count, p)
answered_all (Err fault) taken behind a b contexts asked count p = tt

-- ---- the broadcasts of a round, and the answers before each of them

told_one : (taken : ℕ) (b : Frames) (contexts : List (List ℕ)) → WereAsked taken contexts
    → AreTold taken (b ∷ []) (map Pong contexts ++ Shown b ∷ []) (taken + length contexts)
told_one taken b contexts asked = (contexts, [], asked, (refl, refl), refl)

told_join : (taken mid behind : ℕ) (bs more : List Frames) (out later : List Outgoing) → AreTold taken bs out mid → AreTold mid more later behind
    → AreTold taken (bs ++ more) (out ++ later) behind
told_join taken mid behind [] more out later t u =
    subst (λ (o : List Outgoing). AreTold taken more (o ++ later) behind) (sym t.0) (subst (λ (n : ℕ). AreTold n more later behind) t.1 u)
told_join taken mid behind (b ∷ bs) more out later t u = (
  t.0,
  t.1 ++ later,
  t.2,
  told_join (taken + length t.0) mid behind bs more t.1 later t.3 u,
  ap (λ (o : List Outgoing). o ++ later) t.4 ∙ append_assoc (map Pong t.0) (Shown b ∷ t.1) later,
)

one_signs : (b : Frames) (contexts : List (List ℕ))
    → flat_map outgoing_signs (map Pong contexts ++ Shown b ∷ []) ≡ flat_map pong_signs contexts ++ message_signs b
one_signs b contexts =
    signs_on (map Pong contexts) Shown message_signs shown (b ∷ [])
    ∙ ap (λ (o : List Sign). o ++ flat_map message_signs (b ∷ [])) (signs_on [] Pong pong_signs answered contexts)
    ∙ ap (λ (o : List Sign). flat_map pong_signs contexts ++ o) (append-nil (message_signs b))

-- the answers and the message went out
pub next_whole : (taken behind : ℕ) (a b c : Gone) (frames : Frames) → AreAnswered taken a b behind → Goes b c (message_signs frames)
    → AreToldTo taken a c (frames ∷ []) behind
next_whole taken behind a b c frames r sent = (
  map Pong r.0 ++ Shown frames ∷ [],
  subst (AreTold taken (frames ∷ []) (map Pong r.0 ++ Shown frames ∷ [])) (sym r.2) (told_one taken frames r.0 r.1),
  subst (Goes a c) (sym (one_signs frames r.0)) (goes_join a b c _ _ r.3 sent),
)

-- the answers, and a beginning of the message
pub next_begun : (taken behind : ℕ) (a b c : Gone) (frames : Frames) → AreAnswered taken a b behind → GoesSome b c (message_signs frames)
    → AreToldInPart taken a c (frames ∷ [])
next_begun taken behind a b c frames r sent = (
  frames ∷ [],
  [],
  refl,
  taken + length r.0,
  map Pong r.0 ++ Shown frames ∷ [],
  told_one taken frames r.0 r.1,
  (
    flat_map pong_signs r.0 ++ sent.0,
    sent.1,
    one_signs frames r.0 ∙ ap (λ (o : List Sign). flat_map pong_signs r.0 ++ o) sent.2 ∙ sym (append_assoc (flat_map pong_signs r.0) sent.0 sent.1),
    goes_join a b c _ _ r.3 sent.3,
  ),
)

-- nothing of the answers, or a beginning
pub next_unbegun : (taken : ℕ) (a b : Gone) (frames : Frames) → AreAnsweredInPart taken a b → AreToldInPart taken a b (frames ∷ [])
next_unbegun taken a b frames (inl nothing) = ([], frames ∷ [], refl, taken, [], (refl, refl), ([], [], refl, nothing))
next_unbegun taken a b frames (inr r) = (
  frames ∷ [],
  [],
  refl,
  taken + length r.0,
  map Pong r.0 ++ Shown frames ∷ [],
  told_one taken frames r.0 r.1,
  (
    r.2.0,
    r.2.1 ++ message_signs frames,
    one_signs frames r.0 ∙ ap (λ (o : List Sign). o ++ message_signs frames) r.2.2 ∙ append_assoc r.2.0 r.2.1 (message_signs frames),
    r.2.3,
  ),
)

pub none_told : (taken : ℕ) (a : Gone) → AreToldTo taken a a [] taken
none_told taken a = ([], (refl, refl), goes_none a)

pub told_on : (taken mid behind : ℕ) (a b c : Gone) (bs more : List Frames) → AreToldTo taken a b bs mid → AreToldTo mid b c more behind
    → AreToldTo taken a c (bs ++ more) behind
told_on taken mid behind a b c bs more s t = (
  s.0 ++ t.0,
  told_join taken mid behind bs more s.0 t.0 s.1 t.1,
  subst (Goes a c) (sym (flat_map-append outgoing_signs s.0 t.0)) (goes_join a b c _ _ s.2 t.2),
)

-- a beginning of what goes out with one, behind those before it
pub told_in_part : (taken mid : ℕ) (a b c : Gone) (bs : List Frames) (frames : Frames) (later : List Frames)
    → AreToldTo taken a b bs mid → AreToldInPart mid b c (frames ∷ []) → AreToldInPart taken a c (bs ++ frames ∷ later)
told_in_part taken mid a b c bs frames later s (front, rest, parts, behind, out, told, sent) =
    let before = flat_map outgoing_signs s.0 in (
      bs ++ front,
      rest ++ later,
      ap (λ (x : List Frames). bs ++ (x ++ later)) parts ∙ ap (λ (x : List Frames). bs ++ x) (append_assoc front rest later)
          ∙ sym (append_assoc bs front (rest ++ later)),
      behind,
      s.0 ++ out,
      told_join taken mid behind bs front s.0 out s.1 told,
      (
        before ++ sent.0,
        sent.1,
        flat_map-append outgoing_signs s.0 out ∙ ap (λ (o : List Sign). before ++ o) sent.2 ∙ sym (append_assoc before sent.0 sent.1),
        goes_join a b c _ _ s.2 sent.3,
      ),
    )

-- ---- one more turn

-- before the first nothing has gone out
pub nothing_sent : (taken : ℕ) (a : Gone) → AreSentTo taken a a None taken
nothing_sent taken a = ([], none taken, goes_none a)

pub sent_on : (taken mid behind : ℕ) (a b c : Gone) (place next : Place) → AreSentTo taken a b (Some place) mid
    → IsSent mid b c place.number next.number behind → AreSentTo taken a c (Some next) behind
sent_on taken mid behind a b c place next s r = (
  s.0 ++ r.2.0,
  round taken place.number next.number mid behind s.0 r.0 r.2.0 s.1 r.1 r.2.1,
  subst (Goes a c) (sym (flat_map-append outgoing_signs s.0 r.2.0)) (goes_join a b c _ _ s.2 r.2.2),
)

pub answered_on : (taken mid behind : ℕ) (a b c : Gone) (at : Option Place) → AreSentTo taken a b at mid → AreAnswered mid b c behind
    → AreSentTo taken a c at behind
answered_on taken mid behind a b c at s r = (
  s.0 ++ map Pong r.0,
  subst (λ (n : ℕ). AreTurns taken (number_at at) n (s.0 ++ map Pong r.0)) (sym r.2) (pongs taken (number_at at) mid s.0 r.0 s.1 r.1),
  whole_on a b c s.0 Pong pong_signs answered r.0 s.2 r.3,
)

-- where no place was known, one from which nothing has gone out may be taken
from_where : (taken behind : ℕ) (a b : Gone) (at joined : Option Place) → AreSentTo taken a b at behind →
    AreSentTo taken a b (option_or at joined) behind
from_where taken behind a b (Some place) joined s = s
from_where taken behind a b None (Some place) s = (s.0, begun taken place.number behind s.0 s.1, s.2)
from_where taken behind a b None None s = s

pub sent_before : (taken behind : ℕ) (a b : Gone) (at joined before : Option Place) → before ≡ option_or at joined → AreSentTo taken a b at behind
    → AreSentTo taken a b before behind
sent_before taken behind a b at joined before e s =
    subst (λ (p : Option Place). AreSentTo taken a b p behind) (sym e) (from_where taken behind a b at joined s)
