-- The connection of the first reply, among those of the rounds.
use Rattle.std.proofs.Common.{◌≡◌, ◌⊎◌, inl, inr, ◌≤◌, List, [], ◌∷◌, map, true, sym, ◌∙◌, ap, arith}
use Rattle.std.specs.List.{AllByRecursion, Contains}
use Rattle.std.proofs.lemmas.Bool.{false≢true}
use Rattle.std.proofs.lemmas.List.{get_or-map, length-map}
use Rattle.std.proofs.lemmas.List.Elements.{Contains-append_left, Contains-append_right}
use Rattle.dm_edge.specs.declared.wanted.Wanted.{Wanted}
use Rattle.dm_edge.specs.declared.wanted.Wanted.TheVariants.{Whole}
use Rattle.dm_edge.specs.Wire.{Closed}
use Rattle.dm_slice.specs.declared.plan.Part.{Part}
use Rattle.dm_attempt.specs.Asking.{Asking, WantedBy}
use Rattle.dm_attempt.specs.Shares.{Share, total}
use Rattle.dm_attempt.specs.Trace.{Carried, Round, wires_of}
use Rattle.dm_rounds.specs.Lanes.{is_of}
use Rattle.dm_rounds.specs.Opened.{WasTried}
use Rattle.dm_rounds.specs.Trail.{HasFirst, IsServedIn}
use Rattle.dm_rounds.proofs.Ends.{find}

-- the first part is asked for as the whole content, where the first reply serves it
first_wanted : (asking : Asking) (part : Part) (wanted : Wanted) → asking.served ≡ true → part.index ≡ 0 → WantedBy asking part wanted → wanted ≡ Whole
first_wanted asking part wanted served number (inl by) = by.2
first_wanted asking part wanted served number (inr (inl unserved, range)) = absurd (false≢true (sym unserved ∙ served))
first_wanted asking part wanted served number (inr (inr other, range)) = absurd (other number)

connection_among : (wires : List Carried) (c : Carried) → Contains wires c → Contains (map (λ (w : Carried). w.connection) wires) c.connection
connection_among wires c (k, within, at) =
    let connection : Carried → Closed = λ (w : Carried). w.connection in
    (k, omega (arith, within, length-map wires connection), get_or-map connection wires k c c.connection within ∙ ap connection at)

-- the connection of the first part is that of the first reply
pub tried_first : (asking : Asking) (shares : List Share) (round : Round) (older : List Round) → asking.served ≡ true → 1 ≤ total (is_of 0) round.wires → AllByRecursion (WasTried asking shares) round.wires → HasFirst asking (round ∷ older)
tried_first asking shares round older served some tried =
    let found = find (WasTried asking shares) round.wires 0 some tried in
    let replied = found.holds.replied (first_wanted asking found.c.part found.c.wanted served found.number found.holds.wanted_is) in
    record {
      connection = found.c.connection;
      among = Contains-append_right (wires_of older) (map (λ (w : Carried). w.connection) round.wires) found.c.connection (connection_among round.wires found.c found.among);
      purpose_is = found.holds.purpose_is;
      sent = replied.0;
      says = replied.1;
    }

-- with one round more
pub first_longer : (first : Asking) (round : Round) (older : List Round) → HasFirst first older → HasFirst first (round ∷ older)
first_longer first round older has = record {
  connection = has.connection;
  among = Contains-append_left (wires_of older) (map (λ (w : Carried). w.connection) round.wires) has.connection has.among;
  purpose_is = has.purpose_is;
  sent = has.sent;
  says = has.says;
}

-- a round behind others, of which the oldest serves it
pub served_more : (net : Type 0) (first : Asking) (round : Round) (older : List Round) → (older ≡ []) ⊎ IsServedIn net first older → (older ≡ [] → IsServedIn net first (round ∷ older)) → IsServedIn net first (round ∷ older)
served_more net first round older (inl none) own = own none
served_more net first round older (inr served) own = λ n is. first_longer first round older (served n is)
