-- Signs that come one after the other come together.
use Rattle.std.proofs.Common.{◌≡◌, ℕ, Bool, true, false, List, [], ◌∷◌, ◌++◌, Option, refl, sym, ap, ◌∙◌, subst, append_assoc, append-nil, if◌then◌else◌}
use Rattle.std.proofs.lemmas.List.{map-append}
use Rattle.std.specs.Io.KnownBytes.{Appends}
use Rattle.zmtp_wire.specs.Pong.{pong_octets}
use Rattle.exact_write.specs.Sent.{SentSome}
use Rattle.exact_write.proofs.SendLemmas.{appends_none, appends_join}
use Rattle.kernel_watch.specs.declared.notice.Notice.{Notice}
use Rattle.kernel_watch.specs.declared.notice.Notice.TheVariants as notice
use Rattle.kernel_watch.specs.Hears.{Hears}
use Rattle.kernel_watch.specs.Pings.{answers}
use Rattle.kernel_watch.proofs.Hearing.{hears_none, hears_join}
use Rattle.kernel_iopub.specs.Signs.{Sign, Sent, Told, Gone, Goes, GoesSome, sends, sent_of, notices_of, pong_signs, ready_notices}

sent_of-append : (xs ys : List Sign) → sent_of (xs ++ ys) ≡ sent_of xs ++ sent_of ys
sent_of-append [] ys = refl
sent_of-append (Sent x ∷ xs) ys = ap (λ t. x ∷ t) (sent_of-append xs ys)
sent_of-append (Told n ∷ xs) ys = sent_of-append xs ys

notices_of-append : (xs ys : List Sign) → notices_of (xs ++ ys) ≡ notices_of xs ++ notices_of ys
notices_of-append [] ys = refl
notices_of-append (Sent x ∷ xs) ys = notices_of-append xs ys
notices_of-append (Told n ∷ xs) ys = ap (λ t. n ∷ t) (notices_of-append xs ys)

sent_of-sends : (xs : List ℕ) → sent_of (sends xs) ≡ xs
sent_of-sends [] = refl
sent_of-sends (x ∷ xs) = ap (λ t. x ∷ t) (sent_of-sends xs)

notices_of-sends : (xs : List ℕ) → notices_of (sends xs) ≡ []
notices_of-sends [] = refl
notices_of-sends (x ∷ xs) = notices_of-sends xs

pub goes_none : (a : Gone) → Goes a a []
goes_none a = record { sent = appends_none a.octets; told = hears_none a.notices }

pub goes_join : (a b c : Gone) (xs ys : List Sign) → Goes a b xs → Goes b c ys → Goes a c (xs ++ ys)
goes_join a b c xs ys p q = record {
  sent = subst (Appends a.octets c.octets) (sym (sent_of-append xs ys)) (appends_join a.octets b.octets c.octets _ _ p.sent q.sent);
  told = subst (Hears a.notices c.notices) (sym (notices_of-append xs ys)) (hears_join a.notices b.notices c.notices _ _ p.told q.told);
}

-- octets went out, and nothing was told
pub goes_sends : (a b : Gone) (xs : List ℕ) → b.notices ≡ a.notices → Appends a.octets b.octets xs → Goes a b (sends xs)
goes_sends a b xs quiet p = record {
  sent = subst (Appends a.octets b.octets) (sym (sent_of-sends xs)) p;
  told = subst (λ n. Hears a.notices n (notices_of (sends xs))) (sym quiet) (subst (Hears a.notices a.notices) (sym (notices_of-sends xs))
      (hears_none a.notices));
}

pub some_sends : (a b : Gone) (xs : List ℕ) → b.notices ≡ a.notices → SentSome a.octets b.octets xs → GoesSome a b (sends xs)
some_sends a b xs quiet p =
    (sends p.0, sends p.1, ap (λ (t : List ℕ). sends t) p.2 ∙ map-append Sent p.0 p.1, goes_sends a b p.0 quiet p.3)

-- an answer went out whole, and then it was told
pub goes_pong : (a b : Gone) (context : List ℕ) → Appends a.octets b.octets (pong_octets context) → Hears a.notices b.notices (answers context ∷ [])
    → Goes a b (pong_signs context)
goes_pong a b context p q =
    let octets = pong_octets context in
    record {
      sent = subst (Appends a.octets b.octets) (sym (sent_of-append (sends octets) (Told (answers context) ∷ [])
          ∙ ap (λ t. t ++ []) (sent_of-sends octets) ∙ append-nil octets)) p;
      told = subst (Hears a.notices b.notices) (sym (notices_of-append (sends octets) (Told (answers context) ∷ [])
          ∙ ap (λ t. t ++ answers context ∷ []) (notices_of-sends octets))) q;
    }

-- a beginning of one went out
pub some_pong : (a b : Gone) (context : List ℕ) → b.notices ≡ a.notices → SentSome a.octets b.octets (pong_octets context) → GoesSome a b (pong_signs context)
some_pong a b context quiet p =
    let some = some_sends a b (pong_octets context) quiet p in
    let told = Told (answers context) ∷ [] in
    (some.0, some.1 ++ told, ap (λ (t : List Sign). t ++ told) some.2 ∙ append_assoc some.0 some.1 told, some.3)

-- told once, whether before or now
pub ready_once : (a b c : Option (List Notice)) (was is now : Bool) → Hears a b (ready_notices was) → Hears b c (if was then [] else ready_notices is)
    → now ≡ (if was then true else is) → Hears a c (ready_notices now)
ready_once a b c true is now p q e = subst (λ (n : Bool). Hears a c (ready_notices n)) (sym e) (hears_join a b c (notice.Ready ∷ []) [] p q)
ready_once a b c false is now p q e = subst (λ (n : Bool). Hears a c (ready_notices n)) (sym e) (hears_join a b c [] (ready_notices is) p q)
