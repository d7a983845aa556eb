-- Lists of frames, cut and taken apart.
use Rattle.std.proofs.Common.{◌≡◌, ◌≢◌, ℕ, suc, ◌+◌, ◌<◌, ◌≤◌, List, [], ◌∷◌, ◌++◌, length, take, drop, map, Option, Some, None, option_to_list, refl, sym, ap}
use Rattle.std.proofs.Common.{◌∙◌, arith, append_assoc, Bool, true, false, cond, true≢false, subst}
use Rattle.std.specs.Global.{Vec}
use Rattle.std.specs.List.{AllByRecursion, position, position_from}
use Rattle.std.specs.Str.{bytes_eq}
use Rattle.std.proofs.lemmas.List.{drop-drop, length-append, take_at, drop_at, map-append}
use Rattle.std.proofs.lemmas.List.Elements.{All-from_recursion}
use Rattle.std.proofs.lemmas.Iterator.Adapters.{position_from-zero}
use Rattle.std.proofs.lemmas.Slice.Eq.{bytes_eq-Decides}
use Rattle.jupyter_msg.specs.Octets.{octets}
use Rattle.jupyter_msg.specs.Message.{delimiter, NoneIsDelimiter, IsCut}

-- what is popped one after another stood at the end
pub popped : {X : Type 0} (a b c d e : List X) (w x y z : X) → a ≡ b ++ option_to_list (Some z) → b ≡ c ++ option_to_list (Some y) →
    c ≡ d ++ option_to_list (Some x) → d ≡ e ++ option_to_list (Some w) → a ≡ e ++ w ∷ x ∷ y ∷ z ∷ []
popped a b c d e w x y z p q r s = p ∙ rw (q, r, s) (simp append_assoc)

-- six frames with four known at their end, of which the first is dropped
pub six : {X : Type 0} (all front : List X) (w x y z : X) → 6 ≤ length all → take 6 all ≡ front ++ w ∷ x ∷ y ∷ z ∷ [] → (s : X) ×
    (drop 1 all ≡ s ∷ w ∷ x ∷ y ∷ z ∷ drop 6 all)
six (a ∷ b ∷ c ∷ d ∷ e ∷ f ∷ rest) (p ∷ q ∷ []) w x y z l h = (q, cc)
six (a ∷ b ∷ c ∷ d ∷ e ∷ f ∷ rest) [] w x y z l h = absurd (omega (arith, ap length h))
six (a ∷ b ∷ c ∷ d ∷ e ∷ f ∷ rest) (p ∷ []) w x y z l h = absurd (omega (arith, ap length h))
six (a ∷ b ∷ c ∷ d ∷ e ∷ f ∷ rest) (p ∷ q ∷ r ∷ front) w x y z l h = absurd (omega (arith, ap length h, length-append front (w ∷ x ∷ y ∷ z ∷ [])))
six all front w x y z l h = absurd (omega arith)

-- the frames after the one at the place, when the six from there on and the rest are taken apart
pub after_apart : {X Y : Type 0} (f : X → Y) (frames tail firsts front buffers : List X) (w x y z : X) (at : ℕ) → tail ≡ drop at frames → firsts ≡ take 6 tail →
    buffers ≡ drop 6 tail
    → firsts ≡ front ++ w ∷ x ∷ y ∷ z ∷ [] → 6 ≤ length tail → (s : Y) × (map f (drop (at + 1) frames) ≡ s ∷ f w ∷ f x ∷ f y ∷ f z ∷ map f buffers)
after_apart f frames tail firsts front buffers w x y z at t s b p l =
    let q = six tail front w x y z l (sym s ∙ p) in
    (f q.0, ap (map f) (sym (drop-drop 1 at frames) ∙ ap (drop 1) (sym t) ∙ q.1) ∙ ap (λ bs. f q.0 ∷ f w ∷ f x ∷ f y ∷ f z ∷ map f bs) (sym b))

-- ---- the first delimiter

unless : (b : Bool) (i : ℕ) (o : Option ℕ) → cond b (Some i) o ≡ None → (b ≡ false) × (o ≡ None)
unless true i o e = cc
unless false i o e = (refl, e)

none_from : (i : ℕ) (frames : List (Vec ℕ)) → position_from (λ frame. bytes_eq frame.items delimiter) i frames ≡ None →
    AllByRecursion (λ frame. frame ≢ delimiter) (octets frames)
none_from i [] e = tt
none_from i (x ∷ xs) e =
    let p = unless (bytes_eq x.items delimiter) i _ e in
    (λ same. true≢false (sym ((bytes_eq-Decides x.items delimiter).1 same) ∙ p.0), none_from (i + 1) xs p.1)

pub none_of : (frames : List (Vec ℕ)) → position (λ frame. bytes_eq frame.items delimiter) frames ≡ None → NoneIsDelimiter (octets frames)
none_of frames e = All-from_recursion _ (octets frames) (none_from 0 frames (sym (position_from-zero _ frames) ∙ e))

-- what stands round the first frame that passes
pub record Found (test : Vec ℕ → Bool) (frames : List (Vec ℕ)) (n : ℕ) : Type 0 where
  pub front : List (Vec ℕ)
  pub one : Vec ℕ
  pub rest : List (Vec ℕ)
  pub frames_are : frames ≡ front ++ one ∷ rest
  pub place : length front ≡ n
  pub passes : test one ≡ true
  pub before : AllByRecursion (λ y. test y ≡ false) front

some_same : {a b : ℕ} → Some a ≡ Some b → a ≡ b
some_same e = cc

found_case : (test : Vec ℕ → Bool) (i at : ℕ) (x : Vec ℕ) (xs : List (Vec ℕ)) (b : Bool) → test x ≡ b →
    cond b (Some i) (position_from test (i + 1) xs) ≡ Some at
    → (position_from test (i + 1) xs ≡ Some at → (n : ℕ) × (i + 1 + n ≡ at) × Found test xs n) → (n : ℕ) × (i + n ≡ at) × Found test (x ∷ xs) n
found_case test i at x xs true t e later =
    (0, omega (arith, some_same e), record { front = []; one = x; rest = xs; frames_are = refl; place = refl; passes = t; before = tt })
found_case test i at x xs false t e later =
    let l = later e in
    let f = l.2 in (
      suc l.0,
      omega (arith, l.1),
      record {
        front = x ∷ f.front;
        one = f.one;
        rest = f.rest;
        frames_are = ap (λ ys. x ∷ ys) f.frames_are;
        place = ap suc f.place;
        passes = f.passes;
        before = (t, f.before);
      },
    )

found : (test : Vec ℕ → Bool) (i at : ℕ) (frames : List (Vec ℕ)) → position_from test i frames ≡ Some at
    → (n : ℕ) × (i + n ≡ at) × Found test frames n
found test i at [] e = cc
found test i at (x ∷ xs) e = found_case test i at x xs (test x) refl e (found test (i + 1) at xs)

none_passes : (front : List (Vec ℕ)) → AllByRecursion (λ y. bytes_eq y.items delimiter ≡ false) front →
    AllByRecursion (λ frame. frame ≢ delimiter) (octets front)
none_passes [] h = tt
none_passes (x ∷ xs) h = (λ same. true≢false (sym ((bytes_eq-Decides x.items delimiter).1 same) ∙ h.0), none_passes xs h.1)

place_of : (frames : List (Vec ℕ)) (at : ℕ) → position (λ frame. bytes_eq frame.items delimiter) frames ≡ Some at →
    Found (λ frame. bytes_eq frame.items delimiter) frames at
place_of frames at e =
    let f = found (λ frame. bytes_eq frame.items delimiter) 0 at frames (sym (position_from-zero _ frames) ∙ e) in
    subst (Found (λ frame. bytes_eq frame.items delimiter) frames) (omega (arith, f.1)) f.2

pub within_of : (frames : List (Vec ℕ)) (at : ℕ) → position (λ frame. bytes_eq frame.items delimiter) frames ≡ Some at → at < length frames
within_of frames at e =
    let f = place_of frames at e in
    omega (arith, ap length f.frames_are, length-append f.front (f.one ∷ f.rest), f.place)

joined : {X : Type 0} (us bs cs ds : List X) (x y : X) → us ≡ bs → x ≡ y → cs ≡ ds → us ++ x ∷ cs ≡ bs ++ y ∷ ds
joined us bs cs ds x y p q r = cc

pub cut_of : (frames : List (Vec ℕ)) (at : ℕ) → position (λ frame. bytes_eq frame.items delimiter) frames ≡ Some at →
    IsCut (octets frames) (octets (take at frames)) (octets (drop (at + 1) frames))
cut_of frames at e =
    let f = place_of frames at e in
    let front : take at frames ≡ f.front = ap (take at) f.frames_are ∙ take_at f.front (f.one ∷ f.rest) at f.place in
    let rest : drop (at + 1) frames ≡ f.rest = sym (drop-drop 1 at frames)
    ∙ ap (drop 1) (ap (drop at) f.frames_are ∙ drop_at f.front (f.one ∷ f.rest) at f.place) in
    let one : f.one.items ≡ delimiter = (bytes_eq-Decides f.one.items delimiter).0 f.passes in
    let cut_parts : octets (f.front ++ f.one ∷ f.rest) ≡ octets (take at frames) ++ delimiter ∷ octets (drop (at + 1) frames) =
    map-append (λ frame. frame.items) f.front (f.one ∷ f.rest)
    ∙ joined (octets f.front) (octets (take at frames)) (octets f.rest) (octets (drop (at + 1) frames)) f.one.items delimiter (ap octets (sym front)) one
    (ap octets (sym rest)) in
    record {
      frames_are = ap octets f.frames_are ∙ cut_parts;
      first = subst (λ ys. NoneIsDelimiter (octets ys)) (sym front)
          (All-from_recursion (λ frame. frame ≢ delimiter) (octets f.front) (none_passes f.front f.before));
    }
