-- Where nothing fails and all is served, no cause stops an attempt.
use Rattle.std.proofs.Common.{◌≡◌, ◌≢◌, ◌⊎◌, inl, inr, ◌≤◌, ℕ, length, length-append, List, [], ◌∷◌, ◌++◌, map, Option, Some, None, refl, sym, ◌∙◌, ap, subst, arith, Bool}
use Rattle.std.specs.Prelude.{IfSome, IsTrue}
use Rattle.std.specs.List.{AllByRecursion, Contains}
use Rattle.std.proofs.lemmas.Bool.{false≢true}
use Rattle.std.proofs.lemmas.List.{append-nil, get_or-map, length-map}
use Rattle.std.proofs.lemmas.List.Elements.{Contains-append_left, Contains-append_right}
use Rattle.std.proofs.lemmas.Option.{none-some, same_Some}
use Rattle.dm_types.specs.Faults.{NoneRose, Rose}
use Rattle.dm_types.specs.declared.address.Address.{Address}
use Rattle.dm_types.specs.declared.item.Item.{Item}
use Rattle.dm_types.specs.declared.item.ItemId.{ItemId}
use Rattle.dm_types.specs.declared.item.Key.{Key}
use Rattle.dm_types.specs.declared.kinds.By.{By}
use Rattle.dm_types.specs.declared.kinds.DiskKind.{DiskKind}
use Rattle.dm_types.specs.declared.reason.Reason.{Reason}
use Rattle.dm_disk_model.specs.Disk.{History as Clock, IsSoundDisk}
use Rattle.dm_policy.specs.declared.cause.Cause.{Cause}
use Rattle.dm_policy.specs.declared.cause.Cause.TheVariants as causes
use Rattle.dm_request.specs.Request.{request_of}
use Rattle.dm_edge.specs.Causes.{CutsNet, IsNetFault}
use Rattle.dm_edge.specs.Fair.{ask_of}
use Rattle.dm_edge.specs.Wire.{Closed, Purpose}
use Rattle.dm_edge.specs.declared.fault.NetFault.{NetFault}
use Rattle.dm_ask.specs.Causes.{net_kind_of}
use Rattle.dm_ask.specs.Following.{SentUntil}
use Rattle.dm_ask.specs.Redirects.{Led, most_redirects, purpose_of}
use Rattle.dm_item.specs.History.{get}
use Rattle.dm_item.specs.Lawful.{History}
use Rattle.dm_item.specs.Listing.{item_in}
use Rattle.dm_item.specs.Restored.{IsSound}
use Rattle.dm_item.proofs.Shorts.{sound_in}
use Rattle.dm_kept.specs.Files.{Says}
use Rattle.dm_store.specs.View.{View}
use Rattle.dm_store.specs.declared.pass.Pass.{Pass}
use Rattle.dm_answers.specs.Begin.{may_begin, pass_of}
use Rattle.dm_answers.specs.Running.{part_bytes}
use Rattle.dm_answers.specs.declared.fault.DeskFault.{DeskFault}
use Rattle.dm_answers.specs.declared.fault.DeskFault.TheVariants as faults
use Rattle.dm_attempt.specs.declared.ended.Ended.{Ended}
use Rattle.dm_attempt.specs.declared.ended.Ended.TheVariants as ended
use Rattle.dm_attempt.specs.Ending.{FaultEnds, IsDeskCause, ShownBy}
use Rattle.dm_attempt.specs.Live.{IsPlanned}
use Rattle.dm_attempt.specs.Scene.{Scene, begun_by, told_by}
use Rattle.dm_attempt.specs.Trace.{ArePlanned, Broken, Carried, Round, Trace, connections_of, wires_of, with_saves}
use Rattle.dm_attempt.proofs.Items.{found_id}
use Rattle.dm_rounds.specs.First.{IsLedAndLost, IsLostAt}
use Rattle.dm_rounds.specs.Trail.{AreCut, AreUsedUp, ContentShows, HeadShows, IsShown, NetShowsIt}
use Rattle.dm_rounds.proofs.Causes.{net_apart}
use Rattle.dm_fetch.specs.Attempts.{Asks, Attempts, IsMetBy, MetAtNet, TriedBy, anew, at_desk, at_net, begins_at, nothing, on, refused, tried, wanting}
use Rattle.dm_fetch.specs.Completes.{CompletesOr, HasFree, IsOneContent, IsSmooth, names_begun}
use Rattle.dm_fetch.specs.Known.{OfKnown}
use Rattle.dm_fetch.specs.Serves.{HasAddress, IsRedirection, IsRowOf, ServesWhole}
use Rattle.dm_fetch.specs.Starts.{BeginRefuses, scene_of}
use Rattle.dm_fetch.proofs.Asked.{asked_described, asked_wish, used_up_never}
use Rattle.dm_fetch.proofs.Begun.{told_digest}
use Rattle.dm_fetch.proofs.Contents.{sum_stated}
use Rattle.dm_fetch.proofs.Desk.{Differs, desk_differs}
use Rattle.dm_fetch.proofs.Known.{Knows, knows_left}
use Rattle.dm_fetch.proofs.Sources.{content_known, head_known}
use Rattle.dm_fetch.proofs.Served.{IsEleventh, served_content, served_head}

last_address : (item : Item) (address : Option (List ℕ)) → HasAddress item.first_address → IfSome address HasAddress → HasAddress (get address item.first_address)
last_address item None first last = first
last_address item (Some text) first last = last

begins_read : (key : Option Key) (item : Item) → HasAddress item.first_address → IfSome item.last_address HasAddress → HasAddress (begins_at key item)
begins_read None item first last = first
begins_read (Some key) item first last = last_address item item.last_address first last

module _ (before after : NetFault → ℕ) (none : NoneRose before after) (trace : Trace) (item : Item) (list : History) (serves : ServesWhole item list (connections_of trace)) (cause : Cause) (apart : cause ≢ causes.Memory) where
  no_fault : IsNetFault before after cause → ⊥
  no_fault fault = none fault.kind fault.rose

  no_cut : CutsNet before after cause → ⊥
  no_cut (inl memory) = apart memory
  no_cut (inr fault) = no_fault fault

  all_sent : (request sent : List ℕ) → SentUntil (CutsNet before after) request sent cause → sent ≡ request
  all_sent request sent (inl is) = is
  all_sent request sent (inr front) = absurd (no_cut front.0)

  module _ (counted : IfSome (net_kind_of cause) (λ kind. Rose (before kind) (after kind))) where
    head_left : (shows : HeadShows before after trace cause) → OfKnown item list shows.connection.purpose.address.text shows.wanted → IsEleventh shows.wanted shows.followed shows.connection.stream
    head_left shows known =
        let c = shows.connection in
        served_head before after none cause counted shows.wanted c.purpose.address shows.followed c.stream
        (serves.each c shows.wanted shows.among known (all_sent (request_of c.purpose.address (ask_of shows.wanted)) c.sent shows.sent)) shows.met

contains_map : {X Y : Type 0} (f : X → Y) (xs : List X) (x : X) → Contains xs x → Contains (map f xs) (f x)
contains_map f xs x among = (among.0, omega (arith, among.1, length-map xs f), get_or-map f xs among.0 x (f x) among.1 ∙ ap f among.2)

-- the newest round's connections are among those of the attempt
newest_among : (trace : Trace) (round : Round) (older : List Round) → trace.rounds ≡ round ∷ older → (c : Carried) → Contains round.wires c → Contains (connections_of trace) c.connection
newest_among trace round older is c among =
    let own : List Closed = map (λ (w : Carried). w.connection) round.wires in
    Contains-append_right trace.led (wires_of trace.rounds ++ trace.lost) c.connection
    (Contains-append_left (wires_of trace.rounds) trace.lost c.connection
    (subst (λ (rounds : List Round). Contains (wires_of rounds) c.connection) (sym is)
    (Contains-append_right (wires_of older) own c.connection (contains_map (λ (w : Carried). w.connection) round.wires c among))))

-- the last of a list
abbrev last_or : Closed → List Closed → Closed
last_or other [] = other
last_or other (c ∷ row) = last_or c row

last_is : (other : Closed) (row : List Closed) (c : Closed) → last_or other (row ++ c ∷ []) ≡ c
last_is other [] c = refl
last_is other (first ∷ row) c = last_is first row c

row_refl : (row later : List Closed) → IsRowOf row (row ++ later)
row_refl [] later = tt
row_refl (c ∷ row) later = inl (refl, row_refl row later)

row_later : (row between : List Closed) (all : List Closed) → IsRowOf row all → IsRowOf row (between ++ all)
row_later row [] all is = is
row_later [] (other ∷ between) all is = tt
row_later (c ∷ row) (other ∷ between) all is = inr (row_later (c ∷ row) between all is)

row_both : (row more all : List Closed) → IsRowOf more all → IsRowOf (row ++ more) (row ++ all)
row_both [] more all is = is
row_both (c ∷ row) more all is = inl (refl, row_both row more all is)

-- the connections that belong to no round are among all
lost_row : (led wires lost : List Closed) → IsRowOf (led ++ lost) (led ++ (wires ++ lost))
lost_row led wires lost = row_both led lost (wires ++ lost) (row_later lost wires lost (subst (IsRowOf lost) (append-nil lost) (row_refl lost [])))

all_led : (made_for : Address → Purpose) (from : Address) (led : List Closed) (to : Address) → Led made_for from led to → AllByRecursion IsRedirection led
all_led made_for from [] to leads = tt
all_led made_for from (c ∷ later) to leads = (record { location = leads.1.location; redirects = leads.1.redirects }, all_led made_for leads.0 later to leads.2)

all_both : (xs ys : List Closed) → AllByRecursion IsRedirection xs → AllByRecursion IsRedirection ys → AllByRecursion IsRedirection (xs ++ ys)
all_both [] ys all more = more
all_both (x ∷ xs) ys all more = (all.0, all_both xs ys all.1 more)

none_last : (led : List Closed) (c : Closed) → [] ≡ led ++ c ∷ [] → ⊥
none_last [] c is = absurd cc
none_last (first ∷ led) c is = absurd cc

-- the connections that led on, and one more that does, are redirections
all_redirect : (pass : Pass) (first : Address) (connections : List Closed) → IsLedAndLost pass first connections → (led : List Closed) (c : Closed) → connections ≡ led ++ c ∷ [] → IsRedirection c → AllByRecursion IsRedirection connections
all_redirect pass first connections was led c is redirects = by was.last was.last_is was.are
  where
    by : (last : List Closed) → IsLostAt pass was.at last → connections ≡ was.led ++ last → AllByRecursion IsRedirection connections
    by [] lost are = subst (AllByRecursion IsRedirection) (sym are) (all_both was.led [] (all_led (purpose_of pass.id pass.attempt) first was.led was.at was.leads) tt)
    by (one ∷ []) lost are =
        let same : one ≡ c = sym (last_is one was.led one) ∙ ap (last_or one) (sym are ∙ is) ∙ last_is one led c in
        subst (AllByRecursion IsRedirection) (sym are)
        (all_both was.led (one ∷ []) (all_led (purpose_of pass.id pass.attempt) first was.led was.at was.leads) (subst IsRedirection (sym same) redirects, tt))
    by (one ∷ two ∷ more) lost are = absurd lost

module _ {D O : Type 0} (tells : Type 0) (clock : D → Clock) (says : O → Says) (far : D → ℕ) (counts : D → DiskKind → ℕ) (net : Type 0) (t : net) where
  asked_redirect : (scene : Scene D O) (pass : Pass) (slices : ℕ) (trace : Trace) → Asks tells clock says far counts net scene pass slices (AreCut net) trace → (led : List Closed) (c : Closed) → trace.led ++ trace.lost ≡ led ++ c ∷ [] → IsRedirection c
      → AllByRecursion IsRedirection (trace.led ++ trace.lost)
  asked_redirect scene pass slices trace (nothing asks) led c is redirects = absurd (none_last led c (ap (λ (l : List Closed). l ++ []) (sym asks.led) ∙ ap (λ (l : List Closed). trace.led ++ l) (sym asks.lost) ∙ is))
  asked_redirect scene pass slices trace (anew asks) led c is redirects = all_redirect pass asks.first (trace.led ++ trace.lost) (asks.fresh.led t) led c is redirects
  asked_redirect scene pass slices trace (on asks) led c is redirects = absurd (none_last led c (ap (λ (l : List Closed). l ++ []) (sym asks.led) ∙ ap (λ (l : List Closed). trace.led ++ l) (sym asks.lost) ∙ is))

  module _ (scene : Scene D O) (pass : Pass) (slices : ℕ) (before after : NetFault → ℕ) (none : NoneRose before after) (trace : Trace) (asks : Asks tells clock says far counts net scene pass slices (AreCut net) trace)
      (list : History) (knows : Knows scene trace list) (serves : ServesWhole (begun_by scene) list (connections_of trace)) (cause : Cause) where
    eleven : (led : List Closed) (c : Closed) → trace.led ++ trace.lost ≡ led ++ c ∷ [] → IsRedirection c → length led ≡ most_redirects → ⊥
    eleven led c is redirects many =
        let few = serves.few (trace.led ++ trace.lost) (lost_row trace.led (wires_of trace.rounds) trace.lost) (asked_redirect scene pass slices trace asks led c is redirects) in
        let long = ap (λ (l : List Closed). length l) is in
        omega (arith, few, long, length-append led (c ∷ []), many)

    module _ (counted : IfSome (net_kind_of cause) (λ kind. Rose (before kind) (after kind))) (apart : cause ≢ causes.Memory) where
      content_left : (rounds : List Round) → trace.rounds ≡ rounds → ContentShows rounds cause → ⊥
      content_left [] is shows = shows
      content_left (round ∷ older) is shows =
          let c = shows.c.connection in
          served_content before after none cause counted apart shows.c.wanted c.purpose.address c.stream shows.share.bytes
          (serves.each c shows.c.wanted (newest_among trace round older is shows.c shows.among) (content_known scene pass trace list net t tells clock says far counts slices knows asks round older is shows.c shows.among) shows.sent) shows.is

      -- what was wanted is the whole content, or a range of known total
      head_wants : (shows : HeadShows before after trace cause) → OfKnown (begun_by scene) list shows.connection.purpose.address.text shows.wanted
      head_wants shows = elim shows.asked [
        | inl whole ↦ subst (OfKnown (begun_by scene) list shows.connection.purpose.address.text) (sym whole) tt
        | inr asked ↦ head_known scene pass trace list net t tells clock says far counts slices knows asks trace.rounds refl shows.connection.purpose shows.wanted asked
      ]

      head_none : HeadShows before after trace cause → ⊥
      head_none shows =
          let eleventh = head_left before after none trace (begun_by scene) list serves cause apart counted shows (head_wants shows) in
          let last = shows.last eleventh.whole in
          eleven last.0 shows.connection last.1 (record { location = eleventh.location; redirects = eleventh.redirects }) (sym last.2 ∙ eleventh.many)

      showing_none : NetShowsIt before after trace cause → ⊥
      showing_none (inl fault) = no_fault before after none trace (begun_by scene) list serves cause apart fault
      showing_none (inr (inl shows)) = head_none shows
      showing_none (inr (inr shows)) = content_left trace.rounds refl shows

    -- nothing is met at the net
    module _ (some : 1 ≤ slices) (least : 1 ≤ scene.start.limits.min_slice) (sound : IsSound scene.item) (planned : ArePlanned (begun_by scene).slices (told_by scene trace.told).total trace.count scene.start.limits.min_slice trace.rounds) where
      up_none : AreUsedUp scene trace cause → ⊥
      up_none up = used_up_never net t tells clock says far counts scene pass slices trace list knows some least sound asks serves planned cause up

      shown_none : IsShown net before after scene trace cause → ⊥
      shown_none (inl up) = up_none up
      shown_none (inr shown) = showing_none shown.1 (net_apart cause shown.0) (shown.2 t)

      pub net_none : MetAtNet net before after scene trace cause → ⊥
      net_none (inl unread) = let there = begins_read (begun_by scene).key (begun_by scene) serves.first serves.last in unread.unstable there.address there.stable
      net_none (inr shown) = shown_none shown

module _ {D O : Type 0} (tells : Type 0) (clock : D → Clock) (says : O → Says) (far : D → ℕ) (counts : D → DiskKind → ℕ) (net : Type 0) (old new : View D O) (was closed : List Closed) (before after : NetFault → ℕ) (id : ItemId) (by : By) (slices at : ℕ)
    (each : tells → (disk : D) (t : ℕ) → IsSoundDisk ((clock disk).at t)) (some : 1 ≤ slices) (smooth : IsSmooth tells clock says counts net old new was closed before after id by at) where
  own_id : smooth.item.id ≡ id
  own_id = ap (λ (n : ℕ). record { 0 = n }) (found_id id.0 old.items.items smooth.item smooth.there)

  -- the item that is found is the one
  own_item : (item : Item) → item_in id.0 old.items.items ≡ Some item → item ≡ smooth.item
  own_item item there = same_Some item smooth.item (sym there ∙ smooth.there)

  sound_item : IsSound smooth.item
  sound_item = sound_in smooth.history old.items id.0 smooth.item smooth.holds.items smooth.there

  fault_left : (came : Bool) (scene : Scene D O) → scene.start ≡ old → (trace : Trace) (P : Cause → Type 0) (fault : DeskFault) → FaultEnds came tells clock says far counts scene new trace P fault → fault ≡ faults.NoMemory
  fault_left came scene same trace P (faults.File kind) ends = absurd (smooth.disk kind (subst (λ (v : View D O). Rose (counts v.disk kind) (counts new.disk kind)) same ends.0))
  fault_left came scene same trace P (faults.Journal kind) ends = absurd (smooth.disk kind (subst (λ (v : View D O). Rose (counts v.disk kind) (counts new.disk kind)) same ends.0))
  fault_left came scene same trace P faults.NoMemory ends = refl
  fault_left came scene same trace P faults.Broken ends = absurd ends
  fault_left came scene same trace P (faults.NoItem other) ends = absurd ends
  fault_left came scene same trace P (faults.WrongState phase) ends = absurd ends
  fault_left came scene same trace P (faults.Stale attempt round) ends = absurd ends
  fault_left came scene same trace P (faults.NotNext place) ends = absurd ends
  fault_left came scene same trace P (faults.PastEnd end) ends = absurd ends
  fault_left came scene same trace P (faults.CheckpointDue bytes) ends = absurd ends
  fault_left came scene same trace P (faults.ItemsFull count) ends = absurd ends
  fault_left came scene same trace P (faults.WordTaken other) ends = absurd ends
  fault_left came scene same trace P (faults.Damaged place) ends = absurd ends

  abbrev scene : Scene D O
  scene = scene_of old smooth.item by at was before

  abbrev Tries : Ended → Type 0
  Tries end = TriedBy tells clock says far counts net (scene_of old smooth.item by at was before) (pass_of smooth.item) new closed before after slices end

  -- nothing stopped it
  stopped_none : (reason : Reason) → Tries (ended.Stopped reason) → ⊥
  stopped_none reason done = met_none done.ends.met
    where
      planned : IsPlanned scene (with_saves done.trace done.ends.saves)
      planned = done.ends.over.planned

      knows : Knows scene done.trace new.list
      knows = knows_left scene (with_saves done.trace done.ends.saves) (Broken done.ends.cause) new.list done.ends.over.goes.went.list_is

      serves : ServesWhole (begun_by scene) new.list (connections_of done.trace)
      serves = smooth.serves (connections_of done.trace) (done.closed_is smooth.told)

      free_wish : (wish : List ℕ) → done.trace.wish ≡ Some wish → HasFree clock old (names_begun old smooth.item by at) wish
      free_wish wish is = smooth.free wish (asked_wish net tells clock says far counts scene (pass_of smooth.item) slices done.trace done.asks wish is)

      differs_none : Differs tells clock says far counts scene (pass_of smooth.item) done.trace done.ends.cause → ShownBy done.came done.ends.cause → ⊥
      differs_none differs asked =
          let came : IsTrue done.came = subst (ShownBy done.came) differs.is asked in
          let met = differs.met in
          let stated : smooth.item.digest ≡ Some differs.wanted = sym (told_digest scene done.trace.told) ∙ met.is.1 in
          let one = subst (λ (d : Option (List ℕ)). IfSome d (IsOneContent clock old.disk (begun_by scene) new.list (connections_of done.trace))) stated (smooth.stated (connections_of done.trace) (done.closed_is smooth.told)) in
          met.is.2
          (sum_stated net smooth.told tells clock says far counts scene (pass_of smooth.item) slices done.trace new.list knows sound_item serves differs.wanted one (done.some came) planned.rounds
          (part_bytes clock met.desk.disk (told_by scene done.trace.told)) differs.have (done.all came) met.is.0 (met.is.3 smooth.disk_told) (met.live.brought smooth.disk_told one.content one.saved))

      met_none : IsMetBy done.came tells clock says far counts net scene (pass_of smooth.item) before after done.trace done.ends.saves done.ends.cause → ⊥
      met_none (at_desk shows asked) =
          differs_none
          (desk_differs tells clock says far counts scene (pass_of smooth.item) done.trace smooth.disk_told (each smooth.disk_told) smooth.history smooth.whole smooth.holds done.ends.cause
          (subst (λ (i : ItemId). item_in i.0 old.items.items ≡ Some smooth.item) (sym own_id) smooth.there) smooth.may
          (asked_described net tells clock says far counts scene (pass_of smooth.item) slices done.trace done.asks sound_item) free_wish shows)
          asked
      met_none (at_net shows saved) =
          net_none tells clock says far counts net smooth.told scene (pass_of smooth.item) slices before after smooth.quiet done.trace done.asks new.list knows serves done.ends.cause some smooth.desk.limits_are.min_slice.0 sound_item planned.rounds shows

  tried_left : (end : Ended) → Tries end → CompletesOr end
  tried_left ended.Complete done = inl refl
  tried_left (ended.Fault fault) done =
      inr (ap (λ (f : DeskFault). ended.Fault f)
      (fault_left done.came scene refl done.trace (λ cause. IsDeskCause tells clock says far counts scene (pass_of smooth.item) done.trace cause ⊎ MetAtNet net before after scene done.trace cause) fault done.ends))
  tried_left (ended.Stopped reason) done = absurd (stopped_none reason done)

  -- it is refused for want of memory alone
  refused_left : (fault : DeskFault) → BeginRefuses tells clock counts old new id by at fault → fault ≡ faults.NoMemory
  refused_left faults.Broken why = absurd (false≢true (sym smooth.whole ∙ why.broken))
  refused_left (faults.NoItem other) why = absurd (none-some smooth.item (sym why.cause.none ∙ smooth.there))
  refused_left (faults.WrongState phase) why =
      absurd (false≢true (sym why.cause.is.1 ∙ ap (may_begin by) (own_item why.cause.item why.cause.there) ∙ smooth.may))
  refused_left faults.NoMemory why = refl
  refused_left (faults.File kind) why = absurd why
  refused_left (faults.Journal kind) why = absurd why
  refused_left (faults.Stale attempt round) why = absurd why
  refused_left (faults.NotNext place) why = absurd why
  refused_left (faults.PastEnd end) why = absurd why
  refused_left (faults.CheckpointDue bytes) why = absurd why
  refused_left (faults.ItemsFull count) why = absurd why
  refused_left (faults.WordTaken other) why = absurd why
  refused_left (faults.Damaged place) why = absurd why

  -- Where nothing stands in the way, an attempt completes, or memory was wanting.
  pub completes_or : (end : Ended) → Attempts tells clock says far counts net old new was closed before after id by slices at end → CompletesOr end
  completes_or end (wanting is same still) = inr is
  completes_or end (refused fault is why still) = inr (is ∙ ap (λ (f : DeskFault). ended.Fault f) (refused_left fault why))
  completes_or end (tried found) =
      tried_left end (subst (λ (item : Item). TriedBy tells clock says far counts net (scene_of old item by at was before) (pass_of item) new closed before after slices end) (own_item found.item found.there) found.is)
