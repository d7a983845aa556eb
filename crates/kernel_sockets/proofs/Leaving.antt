-- Who leaves first is an order, and who is found as one place more is looked at.
use Rattle.std.proofs.Common.{◌≡◌, ℕ, ◌+◌, ◌<◌, ◌≤◌, ◌⊎◌, inl, inr, false, IsTrue, List, slice_get, Option, Some, None, IfSome, arith, sym, subst, ◌∙◌}
use Rattle.std.proofs.lemmas.Bool.{cases_order}
use Rattle.std.proofs.lemmas.Option.{slice_get_within}
use Rattle.kernel_sockets.specs.declared.room.Sight.{Sight}
use Rattle.kernel_sockets.specs.declared.room.Stays.{Stays}
use Rattle.kernel_sockets.specs.Room.{rank, since_of, MayLeave, LeavesFirst, MakesRoomAmong, MakesRoom}

leaves_through : (s t u : Sight) → LeavesFirst s t → LeavesFirst t u → LeavesFirst s u
leaves_through s t u a b =
    let one : rank s ≤ rank t = a.0 in
    let two : rank t ≤ rank u = b.0 in (
      omega arith,
      λ e.
          let first : rank s ≡ rank t = omega arith in
          let second : rank t ≡ rank u = omega arith in
          let early : since_of s ≤ since_of t = a.1 first in
          let late : since_of t ≤ since_of u = b.1 second in
          omega arith,
    )

leaves_itself : (s : Sight) → LeavesFirst s s
leaves_itself s = grind arith

-- whether one leaves no later than another
leaves_or_not : (s t : Sight) → LeavesFirst s t ⊎ ¬ LeavesFirst s t
leaves_or_not s t = by_rank (cases_order (rank s) (rank t))
  where
    by_since : rank s ≡ rank t → (since_of s ≡ since_of t) ⊎ ((since_of s < since_of t) ⊎ (since_of t < since_of s)) → LeavesFirst s t ⊎ ¬ LeavesFirst s t
    by_since e (inl same) = inl (omega arith, λ _. omega arith)
    by_since e (inr (inl l)) = inl (omega arith, λ _. omega arith)
    by_since e (inr (inr l)) = inr (λ it. let it_is : since_of s ≤ since_of t = it.1 e in absurd (omega arith))

    by_rank : (rank s ≡ rank t) ⊎ ((rank s < rank t) ⊎ (rank t < rank s)) → LeavesFirst s t ⊎ ¬ LeavesFirst s t
    by_rank (inl e) = by_since e (cases_order (since_of s) (since_of t))
    by_rank (inr (inl l)) = inl (omega arith, λ e. absurd (omega arith))
    by_rank (inr (inr l)) = inr (λ it. let it_is : rank s ≤ rank t = it.0 in absurd (omega arith))

-- one of two leaves no later than the other
one_leaves : (s t : Sight) → LeavesFirst s t ⊎ LeavesFirst t s
one_leaves s t = by_rank (cases_order (rank s) (rank t))
  where
    by_since : rank s ≡ rank t → (since_of s ≡ since_of t) ⊎ ((since_of s < since_of t) ⊎ (since_of t < since_of s)) → LeavesFirst s t ⊎ LeavesFirst t s
    by_since e (inl same) = inl (omega arith, λ _. omega arith)
    by_since e (inr (inl l)) = inl (omega arith, λ _. omega arith)
    by_since e (inr (inr l)) = inr (omega arith, λ _. omega arith)

    by_rank : (rank s ≡ rank t) ⊎ ((rank s < rank t) ⊎ (rank t < rank s)) → LeavesFirst s t ⊎ LeavesFirst t s
    by_rank (inl e) = by_since e (cases_order (since_of s) (since_of t))
    by_rank (inr (inl l)) = inl (omega arith, λ e. absurd (omega arith))
    by_rank (inr (inr l)) = inr (omega arith, λ e. absurd (omega arith))

-- a stranger's class is lower than an owner's
stranger_first : (s t : Sight) → IsTrue s.is_trusted → t.is_trusted ≡ false → ¬ LeavesFirst s t
stranger_first s t a b = grind arith

-- what holds of the places below, and of this one, holds of all below the next
below_next : (P : Sight → Type 0) (sights : List Sight) (first : ℕ) (sight : Sight) → slice_get sights first ≡ Some sight →
    ((k : ℕ) (s : Sight) → k < first → slice_get sights k ≡ Some s → P s) → P sight → (k : ℕ) (s : Sight) → k < first + 1 → slice_get sights k ≡ Some s → P s
below_next P sights first sight at before here k s l is = by_place (cases_order k first)
  where
    by_place : (k ≡ first) ⊎ ((k < first) ⊎ (first < k)) → P s
    by_place (inl e) =
        let both : Some sight ≡ Some s = sym at ∙ subst (λ (j : ℕ). slice_get sights j ≡ Some s) e is in
        let same : sight ≡ s = cc in
        subst P same here
    by_place (inr (inl less)) = before k s less is
    by_place (inr (inr more)) = absurd (omega arith)

-- this one is found, as none was found before or the one that was leaves no earlier
pub found_here : (stays : Stays) (now : ℕ) (sights : List Sight) (first : ℕ) (found : Option ℕ) (sight : Sight) → MakesRoomAmong stays now sights first found →
    slice_get sights first ≡ Some sight → MayLeave stays now sight →
    IfSome found (λ place. (s : Sight) → slice_get sights place ≡ Some s → ¬ LeavesFirst s sight) → MakesRoomAmong stays now sights (first + 1) (Some first)
found_here stays now sights first None sight among at may _ =
    (sight, at, may, below_next (λ (s : Sight). MayLeave stays now s → LeavesFirst sight s) sights first sight at (λ k s l is m. absurd (among k s l is m)) (λ _. leaves_itself sight))
found_here stays now sights first (Some place) sight among at may before = (
  sight,
  at,
  may,
  below_next (λ (s : Sight). MayLeave stays now s → LeavesFirst sight s) sights first sight at
      (λ k s l is m. leaves_through sight among.0 s earlier (among.3 k s l is m)) (λ _. leaves_itself sight),
)
  where
    by_one : LeavesFirst among.0 sight ⊎ LeavesFirst sight among.0 → LeavesFirst sight among.0
    by_one (inl l) = absurd (before among.0 among.1 l)
    by_one (inr l) = l

    earlier : LeavesFirst sight among.0
    earlier = by_one (one_leaves among.0 sight)

-- who was found stays found, as this one need not leave
pub found_still : (stays : Stays) (now : ℕ) (sights : List Sight) (first : ℕ) (found : Option ℕ) (sight : Sight) → MakesRoomAmong stays now sights first found →
    slice_get sights first ≡ Some sight → ¬ MayLeave stays now sight → MakesRoomAmong stays now sights (first + 1) found
found_still stays now sights first None sight among at stays_there = below_next (λ (s : Sight). ¬ MayLeave stays now s) sights first sight at among stays_there
found_still stays now sights first (Some place) sight among at stays_there =
    (among.0, among.1, among.2, below_next (λ (s : Sight). MayLeave stays now s → LeavesFirst among.0 s) sights first sight at among.3 (λ m. absurd (stays_there m)))

-- who was found stays found, as this one leaves no earlier
pub found_first : (stays : Stays) (now : ℕ) (sights : List Sight) (first : ℕ) (found : Option ℕ) (sight : Sight) → MakesRoomAmong stays now sights first found →
    slice_get sights first ≡ Some sight → ¬ IfSome found (λ place. (s : Sight) → slice_get sights place ≡ Some s → ¬ LeavesFirst s sight) →
    MakesRoomAmong stays now sights (first + 1) found
found_first stays now sights first None sight among at later = absurd (later record {})
found_first stays now sights first (Some place) sight among at later =
    (among.0, among.1, among.2, below_next (λ (s : Sight). MayLeave stays now s → LeavesFirst among.0 s) sights first sight at among.3 (λ _. earlier))
  where
    by_one : LeavesFirst among.0 sight ⊎ ¬ LeavesFirst among.0 sight → LeavesFirst among.0 sight
    by_one (inl l) = l
    by_one (inr never) = absurd (later (λ s is goes.
        let both : Some among.0 ≡ Some s = sym among.1 ∙ is in
        let same : among.0 ≡ s = cc in
        never (subst (λ (t : Sight). LeavesFirst t sight) (sym same) goes)))

    earlier : LeavesFirst among.0 sight
    earlier = by_one (leaves_or_not among.0 sight)

-- no owner leaves where a stranger may
pub strangers_before : (stays : Stays) (now : ℕ) (sights : List Sight) (found : Option ℕ) → MakesRoom stays now sights found →
    IfSome found (λ place. (k : ℕ) (one other : Sight) → slice_get sights place ≡ Some one → IsTrue one.is_trusted → slice_get sights k ≡ Some other →
    other.is_trusted ≡ false → ¬ MayLeave stays now other)
strangers_before stays now sights None among = record {}
strangers_before stays now sights (Some place) among = λ k one other at trusted is stranger may.
    let both : Some among.0 ≡ Some one = sym among.1 ∙ at in
    let same : among.0 ≡ one = cc in
    let first : LeavesFirst among.0 other = among.3 k other (slice_get_within sights k other is) is may in
    stranger_first one other trusted stranger (subst (λ (s : Sight). LeavesFirst s other) same first)
