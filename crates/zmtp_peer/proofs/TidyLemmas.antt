-- The places at which nothing is counted, as the table of subscriptions changes.
use Rattle.std.proofs.Common.{◌≡◌, ℕ, ◌+◌, ◌<◌, ◌≤◌, Bool, true, false, ◌||◌, List, [], ◌∷◌, ◌++◌, Option, Some, None, refl, ap, sym, subst, ◌∙◌, cond}
use Rattle.std.proofs.Common.{unwrap_or, if◌then◌else◌, length, take, drop, get_or, map, inl, inr, ◌⊎◌}
use Rattle.std.specs.List.{flat_map, list_any}
use Rattle.std.specs.Option.{option_map, option_or}
use Rattle.std.specs.Ordering.{eq_by_cmp}
use Rattle.std.specs.Map.{lookup, KeepsOthers}
use Rattle.std.specs.Str.{bytes_eq}
use Rattle.std.specs.declared.alloc.Global.{Global}
use Rattle.std.specs.declared.vec.Vec.{Vec}
use Rattle.std.proofs.lemmas.Bool.{cases_Bool, cond-false, false≢true}
use Rattle.std.proofs.lemmas.Slice.Eq.{bytes_eq-Decides}
use Rattle.std.proofs.lemmas.List.{take-append-drop, take_all}
use Rattle.std.proofs.lemmas.List.Folds.{list_any-append, list_any_more}
use mathlib.Core.Logic.{⊎_elim}
use Rattle.zmtp_peer.specs.declared.event.PeerEvent.{PeerEvent}
use Rattle.zmtp_peer.specs.declared.role.Role.{Role}
use Rattle.zmtp_peer.specs.Events.{Event, Ready, Message, Subscribe, Cancel, Ping, event_of, events_of}
use Rattle.zmtp_peer.specs.declared.brought.Brought as code
use Rattle.zmtp_peer.specs.Brought.{Brought, brought_of, brought_told}
use Rattle.zmtp_peer.specs.Subscriptions.{place_of, count_in, HasRoom, IsIdle, IsTidy, AddsIdle, DropsIdle, subscribes, names, is_named, is_asked}
use Rattle.zmtp_peer.specs.Table.{table_of, is_key}
use Rattle.zmtp_peer.proofs.TableLemmas.{keys_cmp, changed, Sets}

either : (a b : Bool) → a ≡ true → (a || b) ≡ true
either a b h = ap (λ x. x || b) h

or_other : (a b : Bool) → b ≡ true → (a || b) ≡ true
or_other true b h = refl
or_other false b h = h

neither : (a b : Bool) → a ≡ false → b ≡ false → (a || b) ≡ false
neither a b h k = ap (λ x. x || b) h ∙ k

-- ---- one place

-- a count that is set makes no other place idle
pub idle-set : (p : List ℕ) (w : ℕ) (t u : List (List ℕ × ℕ)) → Sets p w t u → AddsIdle (λ q. bytes_eq q p) t u
idle-set p w t u sets q idle =
    ⊎_elim (λ same. inr same)
    (λ differs. inl (sym (cond-false (bytes_eq q p) (option_map (λ (n : ℕ). w) (place_of t q)) (place_of t q) differs) ∙ sym (sets q) ∙ idle))
    (cases_Bool (bytes_eq q p))

-- nor does a place that is added
pub idle-added : (p : List ℕ) (t u : List (List ℕ × ℕ)) → ((q : List ℕ) → place_of u q ≡ option_or (place_of t q) (if bytes_eq q p then Some 0 else None)) →
    AddsIdle (λ q. bytes_eq q p) t u
idle-added p t u h q idle = by_place (place_of t q) refl (bytes_eq q p) refl (sym (h q) ∙ idle)
  where
    by_place : (o : Option ℕ) → place_of t q ≡ o → (b : Bool) → bytes_eq q p ≡ b → option_or o (cond b (Some 0) None) ≡ Some 0 → IsIdle t q ⊎
        (bytes_eq q p ≡ true)
    by_place (Some n) is b same idle = inl (is ∙ idle)
    by_place None is true same idle = inr same
    by_place None is false same idle = cc

-- a place that is given up isn't idle
pub idle-dropped : (p : List ℕ) (es fs : List (Vec ℕ Global × ℕ)) → lookup (is_key p) fs ≡ None → KeepsOthers (eq_by_cmp keys_cmp) (is_key p) es fs
    → DropsIdle (λ q. bytes_eq q p) (table_of es) (table_of fs)
idle-dropped p es fs here others q idle = by_test (bytes_eq q p) refl (sym (changed p None es fs here others q) ∙ idle)
  where
    by_test : (b : Bool) → bytes_eq q p ≡ b → cond b None (place_of (table_of es) q) ≡ Some 0 → IsIdle (table_of es) q × (bytes_eq q p ≡ false)
    by_test true is h = cc
    by_test false is h = (h, is)

-- nor is one that is counted
pub idle-kept : (p : List ℕ) (t : List (List ℕ × ℕ)) → (count_in t p ≡ 0 → ⊥) → DropsIdle (λ q. bytes_eq q p) t t
idle-kept p t some q idle =
    ⊎_elim (λ same. absurd (some (ap (λ o. unwrap_or o 0) (subst (IsIdle t) ((bytes_eq-Decides q p).0 same) idle)))) (λ differs. (idle, differs))
    (cases_Bool (bytes_eq q p))

-- ---- one element further on in a list

pub adds-step : {X : Type 0} (among : X → List ℕ → Bool) (xs : List X) (i : ℕ) (x : X) (t u v : List (List ℕ × ℕ)) → i < length xs → x ≡ get_or xs i x
    → AddsIdle (λ q. list_any (λ y. among y q) (take i xs)) t u → AddsIdle (among x) u v → AddsIdle (λ q. list_any (λ y. among y q) (take (i + 1) xs)) t v
adds-step {X} among xs i x t u v h is before now q idle =
    let more : list_any (λ y. among y q) (take (i + 1) xs) ≡ (list_any (λ y. among y q) (take i xs) || among x q) =
    list_any_more (λ y. among y q) xs i x h ∙ ap (λ (y : X). list_any (λ z. among z q) (take i xs) || among y q) (sym is) in
    ⊎_elim
    (λ old. ⊎_elim (λ a. inl a) (λ b. inr (more ∙ either _ (among x q) b)) (before q old))
    (λ here. inr (more ∙ or_other (list_any (λ y. among y q) (take i xs)) _ here))
    (now q idle)

pub drops-step : {X : Type 0} (among : X → List ℕ → Bool) (xs : List X) (i : ℕ) (x : X) (t u v : List (List ℕ × ℕ)) → i < length xs → x ≡ get_or xs i x
    → DropsIdle (λ q. list_any (λ y. among y q) (take i xs)) t u → DropsIdle (among x) u v → DropsIdle (λ q. list_any (λ y. among y q) (take (i + 1) xs)) t v
drops-step {X} among xs i x t u v h is before now q idle =
    let more : list_any (λ y. among y q) (take (i + 1) xs) ≡ (list_any (λ y. among y q) (take i xs) || among x q) =
    list_any_more (λ y. among y q) xs i x h ∙ ap (λ (y : X). list_any (λ z. among z q) (take i xs) || among y q) (sym is) in
    let here = now q idle in
    let old = before q here.0 in
    (old.0, more ∙ neither _ _ old.1 here.1)

-- ---- the whole list

any-taken : {X : Type 0} (p : X → Bool) (n : ℕ) (xs : List X) → list_any p (take n xs) ≡ true → list_any p xs ≡ true
any-taken p n xs h = ap (list_any p) (sym (take-append-drop n xs)) ∙ list_any-append p (take n xs) (drop n xs) ∙ either _ _ h

pub adds-all : {X : Type 0} (among : X → List ℕ → Bool) (xs : List X) (n : ℕ) (t u : List (List ℕ × ℕ))
    → AddsIdle (λ q. list_any (λ y. among y q) (take n xs)) t u → AddsIdle (λ q. list_any (λ y. among y q) xs) t u
adds-all among xs n t u adds q idle = ⊎_elim (λ old. inl old) (λ here. inr (any-taken (λ y. among y q) n xs here)) (adds q idle)

pub drops-all : {X : Type 0} (among : X → List ℕ → Bool) (xs : List X) (n : ℕ) (t u : List (List ℕ × ℕ)) → length xs ≤ n
    → DropsIdle (λ q. list_any (λ y. among y q) (take n xs)) t u → DropsIdle (λ q. list_any (λ y. among y q) xs) t u
drops-all {X} among xs n t u whole drops q idle =
    let here = drops q idle in
    (here.0, ap (list_any (λ y. among y q)) (sym (take_all n xs whole)) ∙ here.1)

-- ---- from messages and commands to the events that they tell

any-map : {X Y : Type 0} (p : Y → Bool) (f : X → Y) (xs : List X) → list_any p (map f xs) ≡ list_any (λ x. p (f x)) xs
any-map p f [] = refl
any-map p f (x ∷ xs) = ap (λ b. p (f x) || b) (any-map p f xs)

any-flat : {X Y : Type 0} (p : Y → Bool) (f : X → List Y) (xs : List X) → list_any p (flat_map f xs) ≡ list_any (λ x. list_any p (f x)) xs
any-flat p f [] = refl
any-flat p f (x ∷ xs) = list_any-append p (f x) (flat_map f xs) ∙ ap (λ b. list_any p (f x) || b) (any-flat p f xs)

names-subscribed : (q : List ℕ) (es : List Event) → list_any (subscribes q) es ≡ true → list_any (names q) es ≡ true
names-subscribed q [] h = h
names-subscribed q (Subscribe p ∷ es) h = by_test (bytes_eq q p) h (λ more. names-subscribed q es more)
  where
    by_test : (b : Bool) → (b || list_any (subscribes q) es) ≡ true → (list_any (subscribes q) es ≡ true → list_any (names q) es ≡ true) →
        (b || list_any (names q) es) ≡ true
    by_test true h ih = refl
    by_test false h ih = ih h
names-subscribed q (Cancel p ∷ es) h = or_other (bytes_eq q p) _ (names-subscribed q es h)
names-subscribed q (Ready ∷ es) h = names-subscribed q es h
names-subscribed q (Message frames ∷ es) h = names-subscribed q es h
names-subscribed q (Ping context ∷ es) h = names-subscribed q es h

-- what a message or a command subscribes to, one of the events names
pub asked-named : (role : Role) (ready : Bool) (items : List code.Brought) (events : List PeerEvent) (q : List ℕ)
    → events_of events ≡ (if ready then Ready ∷ [] else []) ++ flat_map (brought_told role) (map brought_of items)
    → is_asked role items q ≡ true → is_named events q ≡ true
asked-named role ready items events q told asked =
    let front : List Event = if ready then Ready ∷ [] else [] in
    let seen : List Brought = map brought_of items in
    let flat : List Event = flat_map (brought_told role) seen in
    let among : list_any (subscribes q) flat ≡ true =
    any-flat (subscribes q) (brought_told role) seen
    ∙ any-map (λ (m : Brought). list_any (subscribes q) (brought_told role m)) brought_of items ∙ asked in
    sym (any-map (names q) event_of events) ∙ ap (list_any (names q)) told ∙ list_any-append (names q) front flat
    ∙ or_other (list_any (names q) front) (list_any (names q) flat) (names-subscribed q flat among)

-- where there is always room no event subscribes
pub none-asked : (q : List ℕ) (es : List Event) → HasRoom 0 [] es → list_any (subscribes q) es ≡ false
none-asked q [] room = refl
none-asked q (Subscribe p ∷ es) room = absurd (false≢true room.0.0)
none-asked q (Cancel p ∷ es) room = none-asked q es room.1
none-asked q (Ready ∷ es) room = none-asked q es room.1
none-asked q (Message frames ∷ es) room = none-asked q es room.1
none-asked q (Ping context ∷ es) room = none-asked q es room.1

-- places that were made for messages and commands, and were given up or counted, leave none idle
pub tidy-again : (among : List ℕ → Bool) (t u v : List (List ℕ × ℕ)) → IsTidy t → AddsIdle among t u → DropsIdle among u v → IsTidy v
tidy-again among t u v tidy adds drops q idle =
    let here = drops q idle in
    ⊎_elim (tidy q) (λ is. false≢true (sym here.1 ∙ is)) (adds q here.0)
