-- What was seen of the minutes stands in what is seen later.
use Rattle.std.proofs.Common.{◌≡◌, ◌⊎◌, ◌≤◌, ◌<◌, ℕ, ◌+◌, suc, List, [], ◌∷◌, ◌++◌, length, map, refl, sym, ap, subst, ◌∙◌, append_assoc}
use Rattle.std.proofs.Common.{length-append, inl, inr, ⊎_elim, arith}
use mathlib.Core.List.{IsPrefix, map-append}
use Rattle.kernel_ask.specs.Request.{Request}
use Rattle.kernel_ask.specs.Minutes.{Entry, Post, Posted, posts_of, posted_in, IsNumberOf}
use Rattle.kernel_ask.proofs.Posts.{posts-append}
use Rattle.kernel_ask.specs.Wishes.{WishOf}
use Rattle.kernel_audit.specs.declared.note.Note.{Note}
use Rattle.kernel_audit.specs.Passes.{PassOf, acted, AreLegal, HasSeen, AreInOneOrder, HaveOneNumbering, HasPosted}
use Rattle.kernel_audit.proofs.Noted.{wished_stays, open_before}

pub prefix_map : {A B : Type 0} (f : A → B) (xs ys : List A) → IsPrefix xs ys → IsPrefix (map f xs) (map f ys)
prefix_map f xs ys p = (map f p.0, sym (map-append f xs p.0) ∙ ap (map f) p.1)

pub prefix_trans : {A : Type 0} (xs ys zs : List A) → IsPrefix xs ys → IsPrefix ys zs → IsPrefix xs zs
prefix_trans xs ys zs p q = (p.0 ++ q.0, sym (append_assoc xs p.0 q.0) ∙ (ap (λ w. w ++ q.0) p.1 ∙ q.1))

-- who has seen on, and sees on again, has seen on
pub seen_on : (old mid new : PassOf) → HasSeen old mid → HasSeen mid new → HasSeen old new
seen_on old mid new p q = record {
  lane = q.lane ∙ p.lane;
  posts = q.posts ∙ p.posts;
  onward = prefix_trans old.front mid.front new.front p.onward q.onward;
  noted = prefix_trans old.notes mid.notes new.notes p.noted q.noted;
}

-- so has who acts and then sees on
pub seen_acted : (old mid new : PassOf) → mid ≡ acted old → HasSeen mid new → HasSeen old new
seen_acted old mid new is s =
    let h : HasSeen (acted old) new = subst (λ (p : PassOf). HasSeen p new) is s in
    record { lane = h.lane; posts = h.posts; onward = h.onward; noted = h.noted }

abbrev head_or : {A : Type 0} → A → List A → A
head_or other [] = other
head_or other (x ∷ xs) = x

abbrev tail_of : {A : Type 0} → List A → List A
tail_of [] = []
tail_of (x ∷ xs) = xs

-- of two beginnings of one list one is a beginning of the other
pub one_order : {A : Type 0} (xs ys zs : List A) → IsPrefix xs zs → IsPrefix ys zs → IsPrefix xs ys ⊎ IsPrefix ys xs
one_order [] ys zs p q = inl (ys, refl)
one_order (x ∷ xs) [] zs p q = inr (x ∷ xs, refl)
one_order (x ∷ xs) (y ∷ ys) [] p q = absurd (cc p.1)
one_order (x ∷ xs) (y ∷ ys) (z ∷ zs) p q =
    let same : x ≡ y = ap (head_or x) p.1 ∙ sym (ap (head_or y) q.1) in
    ⊎_elim
    (λ r. inl (r.0, ap (λ l. x ∷ l) r.1 ∙ ap (λ h. h ∷ ys) same))
    (λ r. inr (r.0, ap (λ l. y ∷ l) r.1 ∙ ap (λ h. h ∷ xs) (sym same)))
    (one_order xs ys zs (p.0, ap tail_of p.1) (q.0, ap tail_of q.1))

-- so it is with what two passes have seen that both see the same now
pub in_one_order : (a all b other : PassOf) → HasSeen a all → HasSeen b other → other.front ≡ all.front → other.notes ≡ all.notes → AreInOneOrder a b
in_one_order a all b other p q fronts notes = record {
  fronts = one_order a.front b.front all.front p.onward (subst (λ (l : List Entry). IsPrefix b.front l) fronts q.onward);
  notes = one_order a.notes b.notes all.notes p.noted (subst (λ (l : List Note). IsPrefix b.notes l) notes q.noted);
}

-- a post keeps its number
pub number_stays : (xs ys : List Entry) (number : ℕ) (post : Post) → IsPrefix xs ys → IsNumberOf xs number post → IsNumberOf ys number post
number_stays xs ys number post p (before, after, is, numbered) = (
  before,
  after ++ posts_of p.0,
  ap posts_of (sym p.1) ∙ posts-append xs p.0 ∙ ap (λ (l : List Post). l ++ posts_of p.0) is ∙ append_assoc before (post ∷ after) (posts_of p.0),
  numbered,
)

-- what stands at one place of a list is one
one_there : {A : Type 0} (before after others more : List A) (x y : A) → before ++ x ∷ after ≡ others ++ y ∷ more → length before ≡ length others → x ≡ y
one_there [] after [] more x y is many = ap (head_or x) is
one_there [] after (z ∷ others) more x y is many = absurd (omega (arith, many))
one_there (z ∷ before) after [] more x y is many = absurd (omega (arith, many))
one_there (z ∷ before) after (u ∷ others) more x y is many = one_there before after others more x y (ap tail_of is) (omega (arith, many))

one_numbered : (xs : List Entry) (n : ℕ) (post other : Post) → IsNumberOf xs n post → IsNumberOf xs n other → post ≡ other
one_numbered xs n post other (before, after, is, numbered) (others, more, are, same) =
    one_there before after others more post other (sym is ∙ are) (omega (arith, numbered, same))

-- so a number is of one post, whoever has seen it
pub one_numbering : (a b : PassOf) → AreInOneOrder a b → HaveOneNumbering a b
one_numbering a b order = λ n post other p q.
    ⊎_elim
    (λ begins. one_numbered b.front n post other (number_stays a.front b.front n post begins p) q)
    (λ begins. one_numbered a.front n post other p (number_stays b.front a.front n other begins q))
    order.fronts

-- what was posted last has the highest number
pub number_of_last : (xs : List Entry) (lane : ℕ) (job : Request)
    → IsNumberOf (xs ++ Posted lane job ∷ []) (suc (posted_in xs)) (record { lane = lane; job = job })
number_of_last xs lane job = (posts_of xs, [], posts-append xs (Posted lane job ∷ []), refl)

-- who has posted and sees on has still posted
pub posted_on : (old mid new : PassOf) (job : Request) (given : List WishOf) (number : ℕ) → HasPosted old job given number mid → HasSeen mid new
    → AreLegal new.front → HasPosted old job given number new
posted_on old mid new job given number p s legal = record {
  lane = s.lane ∙ p.lane;
  posts = s.posts ∙ p.posts;
  onward = prefix_trans old.front mid.front new.front p.onward s.onward;
  noted = prefix_trans old.notes mid.notes new.notes p.noted s.noted;
  serves = p.serves;
  legal = legal;
  wished = wished_stays mid.notes new.notes number given s.noted p.wished;
  posted = number_stays mid.front new.front number (record { lane = old.lane; job = job }) s.onward p.posted;
  fresh = p.fresh;
}

-- who has seen more sees no fewer posts
pub more_posts : (xs ys : List Entry) → IsPrefix xs ys → posted_in xs ≤ posted_in ys
more_posts xs ys p =
    let all : posts_of ys ≡ posts_of xs ++ posts_of p.0 = ap posts_of (sym p.1) ∙ posts-append xs p.0 in
    let count : posted_in ys ≡ length (posts_of xs ++ posts_of p.0) = ap length all in
    omega (arith, count, length-append (posts_of xs) (posts_of p.0))

-- who saw on and then has posted has posted
pub posted_behind : (start old new : PassOf) (job : Request) (given : List WishOf) (number : ℕ) → HasSeen start old → HasPosted old job given number new →
    HasPosted start job given number new
posted_behind start old new job given number s p =
    let fewer : posted_in start.front ≤ posted_in old.front = more_posts start.front old.front s.onward in
    let above : posted_in old.front < number = p.fresh in record {
      lane = p.lane ∙ s.lane;
      posts = p.posts ∙ ap (λ (n : ℕ). n + 1) s.posts;
      onward = prefix_trans start.front old.front new.front s.onward p.onward;
      noted = prefix_trans start.notes old.notes new.notes s.noted p.noted;
      serves = open_before start.notes old.notes s.noted p.serves;
      legal = p.legal;
      wished = p.wished;
      posted = subst (λ (lane : ℕ). IsNumberOf new.front number (record { lane = lane; job = job })) s.lane p.posted;
      fresh = omega (arith, fewer, above);
    }
