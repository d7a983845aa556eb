-- The table of subscriptions, as the map that keeps it changes.
use Rattle.std.proofs.Common.{◌≡◌, ℕ, ◌+◌, ◌-◌, ◌<◌, ◌≤◌, is_some, arith, Bool, true, false, List, [], ◌∷◌, Option, Some, None, refl, ap, sym, subst, ◌∙◌, cond}
use Rattle.std.proofs.Common.{unwrap_or, if◌then◌else◌, length, take, drop, get_or, ◌++◌, map, append-nil, length-append}
use Rattle.std.specs.List.{flat_map}
use Rattle.std.proofs.lemmas.List.{drop_more, take_more, map-append}
use Rattle.std.proofs.lemmas.List.Concat.{flat_map-append}
use Rattle.zmtp_peer.specs.declared.role.Role.{Role}
use Rattle.std.proofs.Math.Seq.{take-append_seam}
use Rattle.zmtp_peer.specs.declared.event.PeerEvent.{PeerEvent}
use Rattle.std.proofs.lemmas.Bool.{cases_Bool, cond-true, cond-false, false≢true}
use mathlib.Core.Logic.{⊎_elim}
use Rattle.std.specs.Option.{option_map, option_or}
use Rattle.std.specs.Ordering.{nat_cmp, eq_by_cmp}
use Rattle.std.specs.Cmp.Lexicographic.{slice_cmp, nat_list_cmp_total}
use Rattle.std.specs.Cmp.{eq_by_cmp_equiv}
use Rattle.std.specs.Map.{lookup, set_value, KeepsOthers}
use Rattle.std.specs.Str.{bytes_eq}
use Rattle.std.specs.declared.cmp.Ordering.{Ordering}
use Rattle.std.specs.declared.alloc.Global.{Global}
use Rattle.std.specs.declared.vec.Vec.{Vec}
use Rattle.std.proofs.lemmas.Map.Text.{is_eq-slice_cmp}
use Rattle.std.proofs.lemmas.Slice.Eq.{bytes_eq-Decides}
use Rattle.zmtp_peer.specs.Events.{Event, Ready, Message, Subscribe, Cancel, Ping, event_of, events_of}
use Rattle.zmtp_peer.specs.declared.brought.Brought as code
use Rattle.zmtp_peer.specs.Brought.{brought_of, brought_told}
use Rattle.zmtp_peer.specs.Subscriptions.{place_of, count_in, counted, counted_all, IsRoomFor, HasRoom, HasWanted}
use Rattle.zmtp_peer.specs.Table.{table_of, is_key}

-- the table has what the map finds
pub place_of-table_of : (es : List (Vec ℕ Global × ℕ)) (q : List ℕ) → place_of (table_of es) q ≡ lookup (is_key q) es
place_of-table_of [] q = refl
place_of-table_of (e ∷ es) q =
    ap (λ b. cond b (Some e.1) (place_of (table_of es) q)) (sym (is_eq-slice_cmp q e.0.items))
    ∙ ap (cond (is_key q e.0) (Some e.1)) (place_of-table_of es q)

pub count_in-table_of : (es : List (Vec ℕ Global × ℕ)) (q : List ℕ) → count_in (table_of es) q ≡ unwrap_or (lookup (is_key q) es) 0
count_in-table_of es q = ap (λ o. unwrap_or o 0) (place_of-table_of es q)

-- no value is set where there is no key
pub set_value-absent : {K : Type 0} (test : K → Bool) (es : List (K × ℕ)) (w : ℕ) → lookup test es ≡ None → set_value test es w ≡ es
set_value-absent test [] w h = refl
set_value-absent test (e ∷ es) w h = by_test (test e.0) h (λ rest. set_value-absent test es w rest)
  where
    by_test : (b : Bool) → cond b (Some e.1) (lookup test es) ≡ None → (lookup test es ≡ None → set_value test es w ≡ es)
        → cond b ((e.0, w) ∷ es) (e ∷ set_value test es w) ≡ e ∷ es
    by_test true h more = cc
    by_test false h more = ap (λ es. e ∷ es) (more h)

-- the order of the map's keys
abbrev pub keys_cmp : Vec ℕ Global → Vec ℕ Global → Ordering
keys_cmp x y = slice_cmp nat_cmp x.items y.items

pub found-is : (p : List ℕ) (k : Vec ℕ Global) → is_key p k ≡ true → p ≡ k.items
found-is p k h = (bytes_eq-Decides p k.items).0 (sym (is_eq-slice_cmp p k.items) ∙ h)

-- a key that is found by one prefix is not found by another
apart : (p q : List ℕ) → bytes_eq q p ≡ false → (k : Vec ℕ Global) → is_key p k ≡ true → is_key q k ≡ false
apart p q differs k here =
    ⊎_elim
    (λ there. absurd (false≢true (sym differs ∙ (bytes_eq-Decides q p).1 (found-is q k there ∙ sym (found-is p k here)))))
    (λ no. no)
    (cases_Bool (is_key q k))

-- a change at one prefix leaves the places of all others
pub changed : (p : List ℕ) (w : Option ℕ) (es fs : List (Vec ℕ Global × ℕ)) → lookup (is_key p) fs ≡ w → KeepsOthers (eq_by_cmp keys_cmp) (is_key p) es fs
    → (q : List ℕ) → place_of (table_of fs) q ≡ (if bytes_eq q p then w else place_of (table_of es) q)
unfolding KeepsOthers
changed p w es fs here others q =
    ⊎_elim
    (λ same. subst (λ (r : List ℕ). place_of (table_of fs) r ≡ w) (sym ((bytes_eq-Decides q p).0 same)) (place_of-table_of fs p ∙ here)
    ∙ sym (cond-true (bytes_eq q p) w (place_of (table_of es) q) same))
    (λ differs. place_of-table_of fs q
    ∙ others (is_key q) (λ x y. (eq_by_cmp_equiv nat_list_cmp_total).congr q x.items y.items) (apart p q differs)
    ∙ sym (place_of-table_of es q)
    ∙ sym (cond-false (bytes_eq q p) w (place_of (table_of es) q) differs))
    (cases_Bool (bytes_eq q p))

or_none : (v : Option ℕ) → v ≡ option_or v None
or_none None = refl
or_none (Some n) = refl

-- a new place is that of a prefix that had none
pub placed : (p : List ℕ) (es fs : List (Vec ℕ Global × ℕ)) → lookup (is_key p) es ≡ None → lookup (is_key p) fs ≡ Some 0 →
    KeepsOthers (eq_by_cmp keys_cmp) (is_key p) es fs
    → (q : List ℕ) → place_of (table_of fs) q ≡ option_or (place_of (table_of es) q) (if bytes_eq q p then Some 0 else None)
placed p es fs none here others q = changed p (Some 0) es fs here others q
    ∙ by_test (bytes_eq q p)
    (λ same. subst (λ (r : List ℕ). place_of (table_of es) r ≡ None) (sym ((bytes_eq-Decides q p).0 same)) (place_of-table_of es p ∙ none))
    (place_of (table_of es) q)
  where
    by_test : (b : Bool) → (b ≡ true → place_of (table_of es) q ≡ None) → (o : Option ℕ) →
        cond b (Some 0) (place_of (table_of es) q) ≡ option_or (place_of (table_of es) q) (cond b (Some 0) None)
    by_test true h o = ap (λ (v : Option ℕ). option_or v (Some 0)) (sym (h refl))
    by_test false h o = or_none (place_of (table_of es) q)

-- the test for a place
pub place-found : (place : Option ℕ) → is_some place ≡ true → (n : ℕ) × (place ≡ Some n)
place-found (Some n) is = (n, refl)
place-found None is = absurd (false≢true is)

pub place-missing : (place : Option ℕ) → is_some place ≡ false → place ≡ None
place-missing (Some n) is = absurd (false≢true (sym is))
place-missing None is = refl

-- a prefix that has a place already
pub present : (p : List ℕ) (n : ℕ) (table : List (List ℕ × ℕ)) → place_of table p ≡ Some n
    → (q : List ℕ) → place_of table q ≡ option_or (place_of table q) (if bytes_eq q p then Some 0 else None)
present p n table here q = by_test (bytes_eq q p) (λ same. subst (λ (r : List ℕ). place_of table r ≡ Some n) (sym ((bytes_eq-Decides q p).0 same)) here)
  where
    by_test : (b : Bool) → (b ≡ true → place_of table q ≡ Some n) → place_of table q ≡ option_or (place_of table q) (cond b (Some 0) None)
    by_test true h = h refl ∙ ap (λ (v : Option ℕ). option_or v (Some 0)) (sym (h refl))
    by_test false h = or_none (place_of table q)

-- a place with the count 0 counts as none
pub dropped : (p : List ℕ) (es fs : List (Vec ℕ Global × ℕ)) → count_in (table_of es) p ≡ 0 → lookup (is_key p) fs ≡ None →
    KeepsOthers (eq_by_cmp keys_cmp) (is_key p) es fs
    → (q : List ℕ) → count_in (table_of fs) q ≡ count_in (table_of es) q
dropped p es fs zero here others q = ap (λ o. unwrap_or o 0) (changed p None es fs here others q)
    ∙ by_test (bytes_eq q p) (λ same. subst (λ (r : List ℕ). count_in (table_of es) r ≡ 0) (sym ((bytes_eq-Decides q p).0 same)) zero)
  where
    by_test : (b : Bool) → (b ≡ true → count_in (table_of es) q ≡ 0) → unwrap_or (cond b None (place_of (table_of es) q)) 0 ≡ count_in (table_of es) q
    by_test true h = sym (h refl)
    by_test false h = refl

same_key : (p q : List ℕ) (k : Vec ℕ Global) → bytes_eq q k.items ≡ true → bytes_eq q p ≡ true → is_key p k ≡ true
same_key p q k a b = is_eq-slice_cmp p k.items ∙ (bytes_eq-Decides p k.items).1 (sym ((bytes_eq-Decides q p).0 b) ∙ (bytes_eq-Decides q k.items).0 a)

-- a count that is set is found at its prefix, if that has a place
pub place_of-set_value : (p : List ℕ) (w : ℕ) (es : List (Vec ℕ Global × ℕ)) (q : List ℕ)
    → place_of (table_of (set_value (is_key p) es w)) q ≡ cond (bytes_eq q p) (option_map (λ (n : ℕ). w) (place_of (table_of es) q)) (place_of (table_of es) q)
place_of-set_value p w [] q = by_test (bytes_eq q p)
  where
    by_test : (b : Bool) → ◌≡◌ {A = Option ℕ} None (cond b None None)
    by_test true = refl
    by_test false = refl
place_of-set_value p w (e ∷ es) q = by_key (is_key p e.0) refl (place_of-set_value p w es q)
  where
    here : (d b : Bool) → d ≡ b → cond d (Some w) (place_of (table_of es) q) ≡ cond b (option_map (λ (n : ℕ). w) (cond d (Some e.1) (place_of (table_of es) q)))
        (cond d (Some e.1) (place_of (table_of es) q))
    here true true h = refl
    here true false h = cc
    here false true h = cc
    here false false h = refl

    there : (d b : Bool) → (d ≡ true → b ≡ true → ⊥) →
        place_of (table_of (set_value (is_key p) es w)) q ≡ cond b (option_map (λ (n : ℕ). w) (place_of (table_of es) q)) (place_of (table_of es) q)
        → cond d (Some e.1) (place_of (table_of (set_value (is_key p) es w)) q) ≡ cond b
        (option_map (λ (n : ℕ). w) (cond d (Some e.1) (place_of (table_of es) q))) (cond d (Some e.1) (place_of (table_of es) q))
    there true true apart ih = absurd (apart refl refl)
    there true false apart ih = refl
    there false b apart ih = ih

    by_key : (k : Bool) → is_key p e.0 ≡ k → place_of (table_of (set_value (is_key p) es w)) q ≡ cond (bytes_eq q p)
        (option_map (λ (n : ℕ). w) (place_of (table_of es) q)) (place_of (table_of es) q)
        → place_of (table_of (cond k ((e.0, w) ∷ es) (e ∷ set_value (is_key p) es w))) q
        ≡ cond (bytes_eq q p) (option_map (λ (n : ℕ). w) (cond (bytes_eq q e.0.items) (Some e.1) (place_of (table_of es) q)))
        (cond (bytes_eq q e.0.items) (Some e.1) (place_of (table_of es) q))
    by_key true h ih = here (bytes_eq q e.0.items) (bytes_eq q p) (ap (bytes_eq q) (sym (found-is p e.0 h)))
    by_key false h ih = there (bytes_eq q e.0.items) (bytes_eq q p) (λ a b. false≢true (sym h ∙ same_key p q e.0 a b)) ih

-- a count that is set at one prefix, if that has a place
abbrev pub Sets : List ℕ → ℕ → List (List ℕ × ℕ) → List (List ℕ × ℕ) → Type 0
Sets p w t u = (q : List ℕ) → place_of u q ≡ (if bytes_eq q p then option_map (λ n. w) (place_of t q) else place_of t q)

-- no place comes or goes
pub places-set : (p : List ℕ) (w : ℕ) (t u : List (List ℕ × ℕ)) → Sets p w t u → (q : List ℕ) → is_some (place_of u q) ≡ is_some (place_of t q)
places-set p w t u sets q = ap is_some (sets q) ∙ by_test (bytes_eq q p) (place_of t q)
  where
    by_test : (b : Bool) (o : Option ℕ) → is_some (cond b (option_map (λ (n : ℕ). w) o) o) ≡ is_some o
    by_test true None = refl
    by_test true (Some n) = refl
    by_test false o = refl

-- one more at a prefix that has a place
pub subscribed : (p : List ℕ) (t u : List (List ℕ × ℕ)) → is_some (place_of t p) ≡ true → Sets p (count_in t p + 1) t u → (q : List ℕ)
    → count_in u q ≡ counted q (count_in t q) (Subscribe p)
subscribed p t u place sets q = ap (λ o. unwrap_or o 0) (sets q) ∙ by_test (bytes_eq q p) (λ same. (bytes_eq-Decides q p).0 same)
  where
    some : (o : Option ℕ) → is_some o ≡ true → unwrap_or (option_map (λ (n : ℕ). unwrap_or o 0 + 1) o) 0 ≡ unwrap_or o 0 + 1
    some None h = cc
    some (Some n) h = refl

    by_test : (b : Bool) → (b ≡ true → q ≡ p) → unwrap_or (cond b (option_map (λ (n : ℕ). count_in t p + 1) (place_of t q)) (place_of t q)) 0
        ≡ cond b (count_in t q + 1) (count_in t q)
    by_test true h = subst (λ (r : List ℕ). unwrap_or (option_map (λ (n : ℕ). count_in t p + 1) (place_of t r)) 0 ≡ count_in t r + 1) (sym (h refl))
        (some (place_of t p) place)
    by_test false h = refl

-- one less at a prefix, if it was counted
pub cancelled : (p : List ℕ) (t u : List (List ℕ × ℕ)) → Sets p (count_in t p - 1) t u → (q : List ℕ) → count_in u q ≡ counted q (count_in t q) (Cancel p)
cancelled p t u sets q = ap (λ o. unwrap_or o 0) (sets q) ∙ by_test (bytes_eq q p) (λ same. (bytes_eq-Decides q p).0 same)
  where
    less : (o : Option ℕ) → unwrap_or (option_map (λ (n : ℕ). unwrap_or o 0 - 1) o) 0 ≡ unwrap_or o 0 - 1
    less None = omega arith
    less (Some n) = refl

    by_test : (b : Bool) → (b ≡ true → q ≡ p) → unwrap_or (cond b (option_map (λ (n : ℕ). count_in t p - 1) (place_of t q)) (place_of t q)) 0
        ≡ cond b (count_in t q - 1) (count_in t q)
    by_test true h = subst (λ (r : List ℕ). unwrap_or (option_map (λ (n : ℕ). count_in t p - 1) (place_of t r)) 0 ≡ count_in t r - 1) (sym (h refl))
        (less (place_of t p))
    by_test false h = refl

-- less room is needed of a table that counts no more
pub room-less : (n m : ℕ) (t u : List (List ℕ × ℕ)) (e : Event) → IsRoomFor n t e
    → ((q : List ℕ) → is_some (place_of t q) ≡ true → is_some (place_of u q) ≡ true) → ((q : List ℕ) → count_in u q + m ≤ count_in t q + n) → IsRoomFor m u e
room-less n m t u (Subscribe p) h places counts = (places p h.0, omega (arith, h.1, counts p))
room-less n m t u (Cancel p) h places counts = tt
room-less n m t u Ready h places counts = tt
room-less n m t u (Message frames) h places counts = tt
room-less n m t u (Ping context) h places counts = tt

pub rooms-less : (n m : ℕ) (t u : List (List ℕ × ℕ)) (es : List Event) → HasRoom n t es
    → ((q : List ℕ) → is_some (place_of t q) ≡ true → is_some (place_of u q) ≡ true) → ((q : List ℕ) → count_in u q + m ≤ count_in t q + n) → HasRoom m u es
rooms-less n m t u [] h places counts = tt
rooms-less n m t u (e ∷ es) h places counts = (room-less n m t u e h.0 places counts, rooms-less n m t u es h.1 places counts)

-- an event counts one more at most
pub counted-most : (q : List ℕ) (n : ℕ) (e : Event) → counted q n e ≤ n + 1
counted-most q n (Subscribe p) = by_test (bytes_eq q p)
  where
    by_test : (b : Bool) → cond b (n + 1) n ≤ n + 1
    by_test true = omega arith
    by_test false = omega arith
counted-most q n (Cancel p) = by_test (bytes_eq q p)
  where
    by_test : (b : Bool) → cond b (n - 1) n ≤ n + 1
    by_test true = omega arith
    by_test false = omega arith
counted-most q n Ready = omega arith
counted-most q n (Message frames) = omega arith
counted-most q n (Ping context) = omega arith

-- one event further on in a list of them
pub rooms-step : (es : List PeerEvent) (i : ℕ) (e : PeerEvent) (t u : List (List ℕ × ℕ)) → i < length es → e ≡ get_or es i e
    → HasRoom (length es - i) t (events_of (drop i es))
    → ((q : List ℕ) → count_in u q ≡ counted q (count_in t q) (event_of e)) → ((q : List ℕ) → is_some (place_of u q) ≡ is_some (place_of t q))
    → HasRoom (length es - (i + 1)) u (events_of (drop (i + 1) es))
rooms-step es i e t u h is room counts places =
    let parts = subst (λ (xs : List PeerEvent). HasRoom (length es - i) t (events_of xs)) (drop_more es i e h) room in
    rooms-less (length es - i) (length es - (i + 1)) t u (events_of (drop (i + 1) es)) parts.1 (λ q h. places q ∙ h)
    (λ q. omega (arith, counts q, counted-most q (count_in t q) (event_of e)))

pub room-now : (es : List PeerEvent) (i : ℕ) (e : PeerEvent) (t : List (List ℕ × ℕ)) → i < length es → e ≡ get_or es i e
    → HasRoom (length es - i) t (events_of (drop i es)) → IsRoomFor 1 t (event_of e)
room-now es i e t h is room =
    let parts = subst (λ (xs : List PeerEvent). HasRoom (length es - i) t (events_of xs)) (drop_more es i e h) room in
    room-less (length es - i) 1 t t (event_of e) (subst (λ (x : PeerEvent). IsRoomFor (length es - i) t (event_of x)) (sym is) parts.0) (λ q h. h)
    (λ q. omega arith)

pub counted-step : (es : List PeerEvent) (i : ℕ) (e : PeerEvent) (t u : List (List ℕ × ℕ)) → i < length es → e ≡ get_or es i e
    → ((q : List ℕ) → count_in u q ≡ counted q (count_in t q) (event_of e)) → (q : List ℕ)
    → counted_all q (count_in u q) (events_of (drop (i + 1) es)) ≡ counted_all q (count_in t q) (events_of (drop i es))
counted-step es i e t u h is counts q =
    ap (λ n. counted_all q n (events_of (drop (i + 1) es))) (counts q)
    ∙ ap (λ (x : PeerEvent). counted_all q (count_in t q) (event_of x ∷ events_of (drop (i + 1) es))) is
    ∙ ap (λ (xs : List PeerEvent). counted_all q (count_in t q) (events_of xs)) (sym (drop_more es i e h))

-- where no front is counted, none is wanted
pub none_wanted : (t : List (List ℕ × ℕ)) (topic : List ℕ) (n : ℕ) → ((k : ℕ) → k < n → count_in t (take k topic) ≡ 0) → length topic < n → HasWanted t topic →
    ⊥
none_wanted t topic n none all w =
    let front : take (length w.0) topic ≡ w.0 = ap (take (length w.0)) w.2 ∙ take-append_seam w.0 w.1 in
    let short : length w.0 ≤ length topic = omega (arith, ap length w.2, length-append w.0 w.1) in
    let zero : count_in t w.0 ≡ 0 = ap (count_in t) (sym front) ∙ none (length w.0) (omega arith) in
    omega (arith, w.3, zero)

pub rooms-append : (n : ℕ) (t : List (List ℕ × ℕ)) (es fs : List Event) → HasRoom n t es → HasRoom n t fs → HasRoom n t (es ++ fs)
rooms-append n t [] fs h k = k
rooms-append n t (e ∷ es) fs h k = (h.0, rooms-append n t es fs h.1 k)

-- a place that is added leaves all counts, and all other places
pub added-places : (p : List ℕ) (t u : List (List ℕ × ℕ)) → ((q : List ℕ) → place_of u q ≡ option_or (place_of t q) (if bytes_eq q p then Some 0 else None))
    → (q : List ℕ) → is_some (place_of t q) ≡ true → is_some (place_of u q) ≡ true
added-places p t u h q some = ap is_some (h q) ∙ by_place (place_of t q) some
  where
    by_place : (o : Option ℕ) → is_some o ≡ true → is_some (option_or o (cond (bytes_eq q p) (Some 0) None)) ≡ true
    by_place None h = cc
    by_place (Some n) h = refl

pub added-counts : (p : List ℕ) (t u : List (List ℕ × ℕ)) → ((q : List ℕ) → place_of u q ≡ option_or (place_of t q) (if bytes_eq q p then Some 0 else None))
    → (q : List ℕ) → count_in u q ≡ count_in t q
added-counts p t u h q = ap (λ o. unwrap_or o 0) (h q) ∙ by_place (place_of t q) (bytes_eq q p)
  where
    by_place : (o : Option ℕ) (b : Bool) → unwrap_or (option_or o (cond b (Some 0) None)) 0 ≡ unwrap_or o 0
    by_place None true = refl
    by_place None false = refl
    by_place (Some n) b = refl

pub added-here : (p : List ℕ) (t u : List (List ℕ × ℕ)) → ((q : List ℕ) → place_of u q ≡ option_or (place_of t q) (if bytes_eq q p then Some 0 else None))
    → is_some (place_of u p) ≡ true
added-here p t u h = ap is_some (h p) ∙ by_place (place_of t p) (bytes_eq p p) ((bytes_eq-Decides p p).1 refl)
  where
    by_place : (o : Option ℕ) (b : Bool) → b ≡ true → is_some (option_or o (cond b (Some 0) None)) ≡ true
    by_place None true h = refl
    by_place None false h = cc
    by_place (Some n) b h = refl

-- one message or command further on in a list of them
pub reserved-step : (role : Role) (ms : List code.Brought) (i n : ℕ) (m : code.Brought) (t u : List (List ℕ × ℕ)) → i < length ms → m ≡ get_or ms i m
    → HasRoom n t (flat_map (brought_told role) (map brought_of (take i ms)))
    → ((q : List ℕ) → is_some (place_of t q) ≡ true → is_some (place_of u q) ≡ true) → ((q : List ℕ) → count_in u q ≡ count_in t q)
    → HasRoom n u (brought_told role (brought_of m))
    → HasRoom n u (flat_map (brought_told role) (map brought_of (take (i + 1) ms)))
reserved-step role ms i n m t u h is room places counts now =
    let told : List code.Brought → List Event = λ xs. flat_map (brought_told role) (map brought_of xs) in
    let before : HasRoom n u (told (take i ms)) = rooms-less n n t u (told (take i ms)) room places (λ q. omega (arith, counts q)) in
    let joined : told (take (i + 1) ms) ≡ told (take i ms) ++ brought_told role (brought_of m) =
    ap told (take_more ms i m h ∙ ap (λ x. take i ms ++ x ∷ []) (sym is)) ∙ ap (flat_map (brought_told role)) (map-append brought_of (take i ms) (m ∷ []))
    ∙ flat_map-append (brought_told role) (map brought_of (take i ms)) (brought_of m ∷ [])
    ∙ ap (λ es. told (take i ms) ++ es) (append-nil (brought_told role (brought_of m))) in
    subst (HasRoom n u) (sym joined) (rooms-append n u (told (take i ms)) (brought_told role (brought_of m)) before now)

-- READY needs no room
pub told-room : (n m : ℕ) (t : List (List ℕ × ℕ)) (ready : Bool) (es : List Event) → HasRoom n t es → m ≤ n →
    HasRoom m t ((if ready then Ready ∷ [] else []) ++ es)
told-room n m t true es h less = (tt, rooms-less n m t t es h (λ q k. k) (λ q. omega arith))
told-room n m t false es h less = rooms-less n m t t es h (λ q k. k) (λ q. omega arith)
