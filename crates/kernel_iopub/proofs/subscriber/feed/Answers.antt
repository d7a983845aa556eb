use Rattle.std.proofs.Common.{◌≡◌, ℕ, List, ◌++◌, length, ap, sym, subst, ◌∙◌, arith}
use Rattle.std.specs.Global.{Vec}
use Rattle.std.proofs.lemmas.List.{map-append, length-map}
use Rattle.zmtp_wire.specs.Message.{bodies_of}
use Rattle.zmtp_peer.specs.Events.{events_of}
use Rattle.kernel_iopub.specs.Pings.{pings_in, HasAsked}
use Rattle.kernel_iopub.proofs.FedLemmas.{asked_more, still_asked, fed_on, still_fed}
use Rattle.kernel_iopub.proofs.subscriber.feed.Goals as goal

-- what it was fed goes on
pub returns-in-Err-Wire-Memory-clause-fed : goal.returns-in-Err-Wire-Memory-clause-fed
returns-in-Err-Wire-Memory-clause-fed c =
    still_fed c.args.peer.now c.feed.new.self c.args.piece.now c.in-Err-Wire-Memory.field-0 c.in-Err-Wire-Memory.ensures.fault
    c.in-Err-Wire-Memory.ensures.memory

pub returns-in-Err-clause-fed : goal.returns-in-Err-clause-fed
returns-in-Err-clause-fed c = still_fed c.args.peer.now c.feed.new.self c.args.piece.now c.in-Err.fault c.in-Err.ensures.fault c.in-Err.ensures.memory

pub returns-in-Err-news_of-clause-fed : goal.returns-in-Err-news_of-clause-fed
returns-in-Err-news_of-clause-fed c = fed_on c.args.peer.now c.feed.new.self c.args.piece.now (events_of c.in-Ok.events.items) c.in-Ok.ensures.events

pub returns-in-Ok-append-clause-fed : goal.returns-in-Ok-append-clause-fed
returns-in-Ok-append-clause-fed c = fed_on c.args.peer.now c.feed.new.self c.args.piece.now (events_of c.in-Ok.events.items) c.in-Ok.ensures.events

pub returns-clause-fed : goal.returns-clause-fed
returns-clause-fed c = fed_on c.args.peer.now c.feed.new.self c.args.piece.now (events_of c.in-Ok.events.items) c.in-Ok.ensures.events

-- a fault of the peer loses no ping that waits
pub returns-in-Err-clause-still : goal.returns-in-Err-clause-still
returns-in-Err-clause-still c other taken asked =
    still_asked c.args.peer.now c.feed.new.self c.args.piece.now taken (bodies_of c.args.pings.now.items) c.in-Err.fault c.in-Err.ensures.fault
    c.in-Err.ensures.memory
    asked

pub returns-in-Ok-append-clause-asked : goal.returns-in-Ok-append-clause-asked
returns-in-Ok-append-clause-asked c taken asked =
    let pings = c.args.pings.now.items in
    let contexts = c.news_of.new.contexts.items in
    let events = events_of c.in-Ok.events.items in
    let same : bodies_of contexts ≡ pings_in events =
    c.in-Ok-news_of.ensures.ok ∙ ap (λ (items : List (Vec ℕ)). bodies_of items ++ pings_in events) c.new-contexts.ensures.items in
    subst (λ (items : List (Vec ℕ)). HasAsked c.feed.new.self taken (bodies_of items)) (sym c.in-Ok-append.ensures.items)
    (subst (HasAsked c.feed.new.self taken) (sym (map-append (λ (b : Vec ℕ). b.items) pings contexts))
    (asked_more c.args.peer.now c.feed.new.self c.args.piece.now events taken (bodies_of pings) (bodies_of contexts) c.in-Ok.ensures.events same asked))

-- what came stands behind what waited, and is as much as is told
pub returns-in-Ok-append-clause-told : goal.returns-in-Ok-append-clause-told
returns-in-Ok-append-clause-told c =
    let pings = c.args.pings.now.items in
    let contexts = c.news_of.new.contexts.items in
    let events = events_of c.in-Ok.events.items in
    let same : bodies_of contexts ≡ pings_in events =
    c.in-Ok-news_of.ensures.ok ∙ ap (λ (items : List (Vec ℕ)). bodies_of items ++ pings_in events) c.new-contexts.ensures.items in
    record {
      events = events;
      brings = c.in-Ok.ensures.events;
      waiting = ap bodies_of c.in-Ok-append.ensures.items ∙ map-append (λ (b : Vec ℕ). b.items) pings contexts
          ∙ ap (λ (items : List (List ℕ)). bodies_of pings ++ items) same;
      counted = omega (arith, c.len-told.ensures, c.news_of.new.contexts.ok, length-map contexts (λ (b : Vec ℕ). b.items), ap length same);
    }
