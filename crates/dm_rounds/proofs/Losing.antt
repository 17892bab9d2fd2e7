-- Why a round was given up, as the attempt's connections show it.
use Rattle.std.proofs.Common.{◌≡◌, ◌≢◌, ◌⊎◌, inl, inr, ℕ, zero, suc, List, [], ◌∷◌, ◌++◌, length, map, Some, refl, sym, ap, subst, arith}
use Rattle.std.specs.Prelude.{slice_get}
use Rattle.std.specs.List.{Contains}
use Rattle.std.proofs.lemmas.Option.{same_Some}
use Rattle.std.proofs.lemmas.List.Elements.{Contains-append_right}
use Rattle.dm_types.specs.Faults.{NoneFell}
use Rattle.dm_policy.specs.declared.cause.Cause.{Cause}
use Rattle.dm_policy.specs.declared.cause.Cause.TheVariants as causes
use Rattle.dm_edge.specs.declared.fault.NetFault.{NetFault}
use Rattle.dm_edge.specs.declared.wanted.Wanted.{Wanted}
use Rattle.dm_edge.specs.declared.wanted.Wanted.TheVariants.{Whole}
use Rattle.dm_edge.specs.Causes.{CutsNet, IsNetFault}
use Rattle.dm_edge.specs.Fair.{ask_of}
use Rattle.dm_edge.specs.Wire.{Purpose, Closed}
use Rattle.dm_types.specs.declared.address.Address.{Address}
use Rattle.dm_request.specs.Request.{request_of}
use Rattle.dm_ask.specs.Causes.{MeetsHead}
use Rattle.dm_ask.specs.Following.{IsBrokenOff, IsStopped, SentUntil}
use Rattle.dm_ask.specs.Redirects.{purpose_of}
use Rattle.dm_slice.specs.declared.plan.Part.{Part}
use Rattle.dm_store.specs.declared.pass.Pass.{Pass}
use Rattle.dm_attempt.specs.Ends.{empty_share}
use Rattle.dm_attempt.specs.Shares.{Share}
use Rattle.dm_attempt.specs.Trace.{Trace, connections_of}
use Rattle.dm_rounds.specs.Trail.{IsAskedIn, NetShowsIt}
use Rattle.dm_rounds.proofs.Causes.{rose_longer}

-- of a part of which nothing was landed there are no bytes
pub empty_at : (parts : List Part) (n : ℕ) (share : Share) → slice_get (map empty_share parts) n ≡ Some share → share.bytes ≡ []
empty_at [] n share at = absurd (let e = at in cc)
empty_at (part ∷ rest) zero share at = let e : empty_share part ≡ share = same_Some (empty_share part) share at in ap (λ (s : Share). s.bytes) (sym e)
empty_at (part ∷ rest) (suc n) share at = empty_at rest n share at

-- two lists with one front are the same behind it
pub same_behind : (front xs ys : List Closed) → front ++ xs ≡ front ++ ys → xs ≡ ys
same_behind [] xs ys same = same
same_behind (c ∷ front) xs ys same = same_behind front xs ys (let e = same in cc)

pub net_longer : (a b c d : NetFault → ℕ) (cause : Cause) → NoneFell a b → NoneFell c d → IsNetFault b c cause → IsNetFault a d cause
net_longer a b c d cause earlier later is =
    record { kind = is.kind; counted = is.counted; rose = rose_longer (a is.kind) (b is.kind) (c is.kind) (d is.kind) (earlier is.kind) (later is.kind) is.rose; is = is.is }

cuts_longer : (a b c d : NetFault → ℕ) (cause : Cause) → NoneFell a b → NoneFell c d → CutsNet b c cause → CutsNet a d cause
cuts_longer a b c d cause earlier later (inl memory) = inl memory
cuts_longer a b c d cause earlier later (inr is) = inr (net_longer a b c d cause earlier later is)

sent_longer : (a b c d : NetFault → ℕ) (request sent : List ℕ) (cause : Cause) → NoneFell a b → NoneFell c d → SentUntil (CutsNet b c) request sent cause → SentUntil (CutsNet a d) request sent cause
sent_longer a b c d request sent cause earlier later (inl all) = inl all
sent_longer a b c d request sent cause earlier later (inr cut) = inr (cuts_longer a b c d cause earlier later cut.0, cut.1)

pub shows_longer : (a b c d : NetFault → ℕ) (trace : Trace) (cause : Cause) → NoneFell a b → NoneFell c d → NetShowsIt b c trace cause → NetShowsIt a d trace cause
shows_longer a b c d trace cause earlier later (inl is) = inl (net_longer a b c d cause earlier later is)
shows_longer a b c d trace cause earlier later (inr (inl head)) = inr (inl (record {
  connection = head.connection;
  among = head.among;
  wanted = head.wanted;
  asked = head.asked;
  followed = head.followed;
  last = head.last;
  sent = sent_longer a b c d (request_of head.connection.purpose.address (ask_of head.wanted)) head.connection.sent cause earlier later head.sent;
  met = head.met;
}))
shows_longer a b c d trace cause earlier later (inr (inr content)) = inr (inr content)

pub contains_here : (xs ys : List Closed) (c : Closed) → Contains (xs ++ c ∷ ys) c
contains_here xs ys c = Contains-append_right xs (c ∷ ys) c (0, omega arith, refl)

module _ (wanted : Wanted) (pass : Pass) (first : Address) (a since until d : NetFault → ℕ) (earlier : NoneFell a since) (later : NoneFell until d) (start between : List Closed) (cause : Cause) (other : cause ≢ causes.Memory)
    (stopped : IsStopped wanted (purpose_of pass.id pass.attempt) first since until start between cause) where
  -- the connection that was made last is one of the attempt's, if any was
  pub asking_shown : (trace : Trace) → ((c : Closed) → c.purpose ≡ purpose_of pass.id pass.attempt stopped.at → (wanted ≡ Whole) ⊎ IsAskedIn trace.rounds c.purpose wanted) → ((c : Closed) → between ≡ (start ++ stopped.led) ++ c ∷ [] → Contains (connections_of trace) c)
      → ((c : Closed) → between ≡ (start ++ stopped.led) ++ c ∷ [] → wanted ≡ Whole → trace.led ++ trace.lost ≡ stopped.led ++ c ∷ []) → NetShowsIt a d trace cause
  asking_shown trace asked among whole = elim stopped.ended [
    | inl un ↦ by_cut un.1
    | inr off ↦ by_off off
  ]
    where
      by_cut : CutsNet since until cause → NetShowsIt a d trace cause
      by_cut (inl memory) = absurd (other memory)
      by_cut (inr is) = inl (net_longer a since until d cause earlier later is)

      by_off : IsBrokenOff (purpose_of pass.id pass.attempt stopped.at) (request_of stopped.at (ask_of wanted)) since until (MeetsHead wanted stopped.at (length stopped.led)) (start ++ stopped.led) between cause → NetShowsIt a d trace cause
      by_off off = by_met off.met
        where
          here : off.connection.purpose.address ≡ stopped.at
          here = ap (λ (p : Purpose). p.address) off.purpose_is

          by_met : (cause ≡ causes.Memory) ⊎ (IsNetFault since until cause ⊎ MeetsHead wanted stopped.at (length stopped.led) off.connection.stream cause) → NetShowsIt a d trace cause
          by_met (inl memory) = absurd (other memory)
          by_met (inr (inl is)) = inl (net_longer a since until d cause earlier later is)
          by_met (inr (inr met)) = inr (inl (record {
            connection = off.connection;
            among = among off.connection off.last;
            wanted = wanted;
            asked = asked off.connection off.purpose_is;
            followed = length stopped.led;
            last = λ w. (stopped.led, whole off.connection off.last w, refl);
            sent = subst (λ (to : Address). SentUntil (CutsNet a d) (request_of to (ask_of wanted)) off.connection.sent cause) (sym here)
                (sent_longer a since until d (request_of stopped.at (ask_of wanted)) off.connection.sent cause earlier later off.sent);
            met = subst (λ (to : Address). MeetsHead wanted to (length stopped.led) off.connection.stream cause) (sym here) met;
          }))
